-- What an accepted certificate is known for, and back: a list of signers is walked to its end where none is named again and each is known, and then the
-- quorum and the verdict decide. Assumes nothing.
use Prim.Native.Nat.{ℕ, zero, suc, ◌+◌, ◌*◌, ◌≤◌, ◌<◌, min}
use mathlib.Core.Path.{◌≡◌, refl, sym, ap, ◌∙◌}
use mathlib.Core.Logic.{◌≢◌}
use mathlib.Core.List.{List, [], ◌∷◌, ◌++◌, append_assoc, append-nil}
use mathlib.Core.Bool.{Bool, true, false, cond, ◌||◌}
use native.Mathlib.Omega.{arith}
use lib.ListN.{length, get_or, take}
use lib.Seq.{take-length}
use lib.Dec.{eqb, ltb, leb}
use lib.Count.{ones}
use borrow.Author.Tests.{eqb-true, eq-eqb, ltb-false, le-ltb, leb-true, le-leb}
use Rattle.std.specs.Prelude.{Result, Ok, Err}
use Rattle.certificates.specs.declared.numbers.Place.{Place}
use Rattle.certificates.specs.declared.numbers.Signers.{Signers}
use Rattle.certificates.specs.declared.error.CertificateError.{CertificateError}
use Rattle.certificates.specs.declared.error.CertificateError.TheVariants.{AuthorityReuse, UnknownAuthority, RequiresQuorum, InvalidSignature, Cut}
use Rattle.certificates.specs.Signers.{is_in, stake_in, both, words, no_signers, signers_of, weight_of, member, stake_on, shared}
use Rattle.certificates.specs.declared.messages.Form.{Form}
use Rattle.certificates.specs.Messages.{qc_form, tc_form, verdict_in, count_of, places_in, is_whole, unknown_to, settled_of, check_from, check_part}
use Rattle.certificates.specs.Messages.{qc_check, tc_check, equals_genesis, embedded_check}
use Rattle.certificates.proofs.Bytes.{length-nums}
use Rattle.certificates.proofs.ConfigLaws.{stake-member}
use Rattle.certificates.proofs.Places.{member-snoc, member-take, member-index, member-shared}
use Rattle.certificates.proofs.Sets.{in_both, stake-same, words_count}
use Rattle.certificates.proofs.Clean.{Clean, Signed, signed-none, signed-more}
use Rattle.certificates.proofs.Check.{Known, known, known-stake}

-- ---- back from an answer to the tests that led to it

from_settled : (short verdict : Bool) (v s : Signers) → cond short (Err RequiresQuorum) (cond verdict (Ok v) (Err InvalidSignature)) ≡ Ok s
    → (short ≡ false) × (verdict ≡ true) × (v ≡ s)
from_settled true verdict v s e = absurd (cc)
from_settled false true v s e = (refl, refl, cc)
from_settled false false v s e = absurd (cc)

from_step : (repeat none : Bool) (p : Place) (rest : Result Signers CertificateError) (s : Signers) → cond repeat (Err (AuthorityReuse p)) (cond none (Err (UnknownAuthority p)) rest) ≡ Ok s
    → (repeat ≡ false) × (none ≡ false) × (rest ≡ Ok s)
from_step true none p rest s e = absurd (cc)
from_step false true p rest s e = absurd (cc)
from_step false false p rest s e = (refl, refl, e)

from-part : (whole : Bool) (r : Result Signers CertificateError) (s : Signers) → cond whole r (Err Cut) ≡ Ok s → (whole ≡ true) × (r ≡ Ok s)
from-part true r s e = (refl, e)
from-part false r s e = absurd (cc)

settled-not-cut : (short verdict : Bool) (s : Signers) → cond short (Err RequiresQuorum) (cond verdict (Ok s) (Err InvalidSignature)) ≢ (Err Cut)
settled-not-cut true verdict s e = cc
settled-not-cut false true s e = cc
settled-not-cut false false s e = cc

step-not-cut : (repeat none : Bool) (p : Place) (rest : Result Signers CertificateError) → rest ≢ (Err Cut) → cond repeat (Err (AuthorityReuse p)) (cond none (Err (UnknownAuthority p)) rest) ≢ (Err Cut)
step-not-cut true none p rest n e = cc
step-not-cut false true p rest n e = cc
step-not-cut false false p rest n e = n e

-- ---- a list that is walked to its end

-- the rest of a list, after those seen: none is named again, and each is known
pub data Walked (m : List ℕ) : List ℕ → List ℕ → Type 0 where
  ends : {seen : List ℕ} → Walked m seen []
  steps : {seen : List ℕ} {p : ℕ} {ps : List ℕ} → member p seen ≡ false → unknown_to m p ≡ false → Walked m (seen ++ p ∷ []) ps → Walked m seen (p ∷ ps)

module _ (m : List ℕ) (need : ℕ) (verdict : Bool) where
  accepted-walked : (seen ps : List ℕ) (s : Signers) → check_from m need verdict seen ps ≡ Ok s → Walked m seen ps
  unfolding check_from
  accepted-walked seen [] s e = ends
  accepted-walked seen (p ∷ ps) s e =
      let t = from_step (member p seen) (unknown_to m p) record { 0 = p } (check_from m need verdict (seen ++ p ∷ []) ps) s e in
      steps t.0 t.1 (accepted-walked (seen ++ p ∷ []) ps s t.2)

  -- then the quorum and the verdict decide
  pub walked-settled : {seen ps : List ℕ} → Walked m seen ps → check_from m need verdict seen ps ≡ settled_of m need verdict (seen ++ ps)
  unfolding check_from
  walked-settled {seen} ends = rw append-nil
  walked-settled (steps {seen = seen} {p = p} {ps = ps} fresh some w) = rw (fresh, some) (walked-settled w ∙ rw append_assoc)

pub walked-signed : (m : List ℕ) {seen ps : List ℕ} (s : Signers) → Walked m seen ps → Signed m seen s → (t : Signers) × Signed m (seen ++ ps) t
walked-signed m s ends k = (s, rw append-nil k)
walked-signed m s (steps {seen = seen} {p = p} {ps = ps} fresh some w) k =
    rw append_assoc at (walked-signed m _ w (signed-more m seen s p k fresh (known m p some).small))

-- ---- the same by index

walked-fresh : (m : List ℕ) {seen ps : List ℕ} → Walked m seen ps → (j : ℕ) → j < length ps → member (get_or ps j 0) (seen ++ take j ps) ≡ false
walked-fresh m ends j h = absurd (omega arith)
walked-fresh m (steps fresh some w) zero h = rw append-nil fresh
walked-fresh m (steps {seen = seen} {p = p} {ps = ps} fresh some w) (suc j) h = rw append_assoc at (walked-fresh m w j (omega arith))

walked-known : (m : List ℕ) {seen ps : List ℕ} → Walked m seen ps → (j : ℕ) → j < length ps → unknown_to m (get_or ps j 0) ≡ false
walked-known m ends j h = absurd (omega arith)
walked-known m (steps fresh some w) zero h = some
walked-known m (steps fresh some w) (suc j) h = walked-known m w j (omega arith)

walked_from : (m seen ps : List ℕ) → ((j : ℕ) → j < length ps → member (get_or ps j 0) (seen ++ take j ps) ≡ false)
    → ((j : ℕ) → j < length ps → unknown_to m (get_or ps j 0) ≡ false)
    → Walked m seen ps
walked_from m seen [] fresh some = ends
walked_from m seen (p ∷ ps) fresh some =
    steps (rw append-nil at (fresh 0 (omega arith))) (some 0 (omega arith))
    (walked_from m (seen ++ p ∷ []) ps (λ j h. rw append_assoc (fresh (suc j) (omega arith))) (λ j h. some (suc j) (omega arith)))

-- distinct members with stake
pub record Distinct (m ps : List ℕ) : Type 0 where
  pub distinct : (i j : ℕ) → i < j → j < length ps → get_or ps i 0 ≢ get_or ps j 0
  pub known : (j : ℕ) → j < length ps → Known m (get_or ps j 0)

pub walked-distinct : (m ps : List ℕ) → Walked m [] ps → Distinct m ps
walked-distinct m ps w = record {
  distinct = λ i j l h e.
      let y = member-take (get_or ps j 0) ps j i l (omega arith) e in
      let n = walked-fresh m w j h in
      let z : ◌≡◌ {A = Bool} true false = sym y ∙ n in
      let z' : ◌≡◌ {A = ℕ} 0 1 = cc in
      omega arith;
  known = λ j h. known m (get_or ps j 0) (walked-known m w j h);
}

not-true : (b : Bool) → (b ≡ true → ⊥) → b ≡ false
not-true true n = absurd (n refl)
not-true false n = refl

pub distinct-walked : (m ps : List ℕ) → Distinct m ps → Walked m [] ps
distinct-walked m ps d =
    walked_from m [] ps
    (λ j h. not-true (member (get_or ps j 0) (take j ps)) (λ y.
    let t = member-index (get_or ps j 0) ps j y in
    d.distinct t.0 j t.1 h t.3))
    (λ j h. known-stake m (get_or ps j 0) (d.known j h).small (d.known j h).stake)

-- ---- what two lists share is walked as well

or_left : (a b : Bool) → a ≡ true → (a || b) ≡ true
or_left true b e = refl
or_left false b e = absurd (cc)

or-more : (a a' b : Bool) → (a ≡ true → a' ≡ true) → (a || b) ≡ true → (a' || b) ≡ true
or-more true a' b h e = or_left a' b (h refl)
or-more false true b h e = refl
or-more false false b h e = e

-- the first list names all that the second names
Covers : List ℕ → List ℕ → Type 0
Covers seen seen' = (q : ℕ) → member q seen' ≡ true → member q seen ≡ true

module _ (seen seen' : List ℕ) (h : Covers seen seen') (p : ℕ) where
  covers_one : Covers (seen ++ p ∷ []) seen'
  unfolding Covers
  covers_one q e = rw member-snoc (or_left (member q seen) (eqb q p) (h q e))

  covers-both : Covers (seen ++ p ∷ []) (seen' ++ p ∷ [])
  unfolding Covers
  covers-both q e = rw member-snoc (or-more (member q seen') (member q seen) (eqb q p) (h q) (rw member-snoc at e))

  covers-fresh : member p seen ≡ false → member p seen' ≡ false
  unfolding Covers
  covers-fresh fresh = not-true (member p seen') (λ y.
      let z : ◌≡◌ {A = Bool} true false = sym (h p y) ∙ fresh in
      let z' : ◌≡◌ {A = ℕ} 0 1 = cc in
      omega arith)

walked-shared : (m qs : List ℕ) {seen ps : List ℕ} → Walked m seen ps → (seen' : List ℕ) → Covers seen seen' → Walked m seen' (shared ps qs)
unfolding shared
walked-shared m qs ends seen' h = ends
walked-shared m qs (steps {seen = seen} {p = p} {ps = ps} fresh some w) seen' h =
    either_way (member p qs)
    (steps (covers-fresh seen seen' h p fresh) some (walked-shared m qs w (seen' ++ p ∷ []) (covers-both seen seen' h p)))
    (walked-shared m qs w seen' (covers_one seen seen' h p))
  where
    either_way : (b : Bool) → Walked m seen' (p ∷ shared ps qs) → Walked m seen' (shared ps qs) → Walked m seen' (cond b (p ∷ shared ps qs) (shared ps qs))
    either_way true x y = x
    either_way false x y = y

-- two lists that are walked, with their sets: the stake of what they share is the stake of what is in both sets
pub shared-stake : (m ps qs : List ℕ) (v w : Signers) → Walked m [] ps → Clean m ps (words v) → Clean m qs (words w)
    → stake_on m (shared ps qs) ≡ stake_in m (both (words v) (words w))
unfolding both Covers
shared-stake m ps qs v w walked cv cw =
    let k = walked-signed m no_signers (walked-shared m qs walked [] (λ q e. e)) (signed-none m) in
    k.1.clean.stake
    ∙ stake-same m (words k.0) (both (words v) (words w)) refl
    (λ q.
    k.1.clean.bits q ∙ ap (λ (b : Bool). cond b 1 0) (member-shared q ps qs) ∙ in_all (member q ps) (member q qs)
    ∙ rw (← cv.bits q, ← cw.bits q) (sym (in_both (words v) (words w) q)))
  where
    in_all : (a b : Bool) → cond (cond a b false) 1 0 ≡ min (cond a 1 0) (cond b 1 0)
    in_all true true = refl
    in_all true false = refl
    in_all false true = refl
    in_all false false = refl

-- ---- the forms

module _ (m : List ℕ) (need : ℕ) (part : List ℕ) where
  pub qc-part : qc_check m need part ≡ check_part qc_form m need part
  unfolding qc_check
  qc-part = refl

  pub tc-part : tc_check m need part ≡ check_part tc_form m need part
  unfolding tc_check
  tc-part = refl

  pub embedded-part : equals_genesis part ≡ false → embedded_check m need part ≡ check_part qc_form m need part
  unfolding embedded_check
  embedded-part other = rw other qc-part

-- ---- an accepted certificate

pub record Certified (f : Form) (m : List ℕ) (need : ℕ) (part : List ℕ) (s : Signers) : Type 0 where
  -- the bytes hold the whole list
  pub whole : f.at + 3 + f.stride * count_of f part ≤ length part
  -- the set is that of the list
  pub who : signers_of (places_in f part) ≡ s
  pub walked : Walked m [] (places_in f part)
  pub clean : Clean m (places_in f part) (words s)
  -- its stake reaches what is needed
  pub quorum : need ≤ weight_of m s
  pub verdict : verdict_in f part ≡ 1

pub certified : (f : Form) (m : List ℕ) (need : ℕ) (part : List ℕ) (s : Signers) → check_part f m need part ≡ Ok s → Certified f m need part s
unfolding check_part is_whole settled_of weight_of
certified f m need part s e =
    let ps = places_in f part in
    let a = from-part (leb (f.at + 3 + f.stride * count_of f part) (length part)) _ s e in
    let w = accepted-walked m need (eqb (verdict_in f part) 1) [] ps s a.1 in
    let b = from_settled (ltb (stake_on m ps) need) (eqb (verdict_in f part) 1) (signers_of ps) s (sym (walked-settled m need (eqb (verdict_in f part) 1) w) ∙ a.1) in
    let k = walked-signed m no_signers w (signed-none m) in
    let same : k.0 ≡ s = sym k.1.who ∙ b.2 in
    let clean : Clean m ps (words s) = rw same at k.1.clean in
    record {
      whole = leb-true _ _ a.0;
      who = b.2;
      walked = w;
      clean = clean;
      quorum = omega (arith, clean.stake, ltb-false (stake_on m ps) need b.0);
      verdict = eqb-true (verdict_in f part) 1 b.1;
    }

pub accepted : (f : Form) (m : List ℕ) (need : ℕ) (part : List ℕ) → f.at + 3 + f.stride * count_of f part ≤ length part → Walked m [] (places_in f part)
    → need ≤ stake_on m (places_in f part) → verdict_in f part ≡ 1 → check_part f m need part ≡ Ok (signers_of (places_in f part))
unfolding check_part is_whole settled_of
accepted f m need part h w q v =
    rw (le-leb _ (length part) h)
    (walked-settled m need (eqb (verdict_in f part) 1) w ∙ rw (le-ltb (stake_on m (places_in f part)) need q, eq-eqb (verdict_in f part) 1 v))

-- a list of distinct members with stake that names whom a set has is accepted where the set's stake reaches what is needed
pub named-accepted : (f : Form) (m : List ℕ) (need : ℕ) (part : List ℕ) (s : Signers) → f.at + 3 + f.stride * count_of f part ≤ length part → Distinct m (places_in f part)
    → ((q : ℕ) → is_in (words s) q ≡ cond (member q (places_in f part)) 1 0) → need ≤ weight_of m s → verdict_in f part ≡ 1
    → check_part f m need part ≡ Ok (signers_of (places_in f part))
unfolding weight_of
named-accepted f m need part s h d same q v =
    let w = distinct-walked m (places_in f part) d in
    let k = walked-signed m no_signers w (signed-none m) in
    let held = stake-same m (words k.0) (words s) refl (λ p. k.1.clean.bits p ∙ sym (same p)) in
    accepted f m need part h w (omega (arith, k.1.clean.stake, held, q)) v

-- a list that is whole is never cut
pub check-not-cut : (m : List ℕ) (need : ℕ) (verdict : Bool) (seen ps : List ℕ) → check_from m need verdict seen ps ≢ (Err Cut)
unfolding check_from settled_of
check-not-cut m need verdict seen [] e = settled-not-cut (ltb (stake_on m seen) need) verdict (signers_of seen) e
check-not-cut m need verdict seen (p ∷ ps) e =
    step-not-cut (member p seen) (unknown_to m p) record { 0 = p } (check_from m need verdict (seen ++ p ∷ []) ps)
    (check-not-cut m need verdict (seen ++ p ∷ []) ps) e

pub whole-not-cut : (f : Form) (m : List ℕ) (need : ℕ) (part : List ℕ) → f.at + 3 + f.stride * count_of f part ≤ length part → check_part f m need part ≢ (Err Cut)
unfolding check_part is_whole
whole-not-cut f m need part h e = check-not-cut m need (eqb (verdict_in f part) 1) [] (places_in f part) (rw (le-leb _ (length part) h) at e)

set-is-in : (b : Bool) → 0 < cond b 1 0 → b ≡ true
set-is-in true h = refl
set-is-in false h = absurd (omega arith)

pub length-places : (f : Form) (part : List ℕ) → length (places_in f part) ≡ count_of f part
unfolding places_in
length-places f part = length-nums 2 f.stride (count_of f part) part (f.at + 3)

module _ {f : Form} {m : List ℕ} {need : ℕ} {part : List ℕ} {s : Signers} (k : Certified f m need part s) where
  -- as many signers as the list names
  pub certified-count : ones s.0 ≡ count_of f part
  certified-count = sym (words_count s) ∙ k.clean.count ∙ length-places f part

  -- who is in the set is in the list
  pub certified-named : (p : ℕ) → is_in (words s) p ≡ 1 → member p (places_in f part) ≡ true
  certified-named p h = set-is-in (member p (places_in f part)) (omega (arith, k.clean.bits p, h))

  -- and is a member with stake
  pub certified-known : (p : ℕ) → is_in (words s) p ≡ 1 → Known m p
  certified-known p h =
      let t = member-index p (places_in f part) (length (places_in f part)) (rw take-length (certified-named p h)) in
      rw t.3 at ((walked-distinct m (places_in f part) k.walked).known t.0 t.2)

  pub certified-member : (p : ℕ) → is_in (words s) p ≡ 1 → p < length m
  certified-member p h = stake-member m p (certified-known p h).stake
