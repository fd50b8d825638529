-- Certificates that a quorum of members backs pass the check, laid out as bytes with the result yes. Assumes nothing.
--     places-bits, places-distinct      the places of a word: who is in, and that none is named twice
--     word-bits                         who is in a word, by its places
--     qc-places, tc-places              a certificate's list, read back from its bytes
--     quorate-qc, quorate-tc            a quorum of members with stake is accepted
--     genesis-good, quorate-good        .. inside a block or a timeout; and so is genesis
use Prim.Native.Nat.{ℕ, zero, suc, ◌+◌, ◌*◌, ◌/◌, ◌%◌, ◌^◌, ◌≤◌, ◌<◌}
use mathlib.Core.Bool.{Bool, true, false, cond}
use mathlib.Core.List.{List, [], ◌∷◌, ◌++◌, map, append_assoc}
use mathlib.Core.Logic.{◌≢◌, ◌⊎◌, inl, inr, ⊎_elim}
use mathlib.Core.Path.{◌≡◌, refl, sym, ap, ◌∙◌}
use native.Mathlib.Nat.{zero-add, pow-suc}
use native.Mathlib.Omega.{arith}
use borrow.Author.Tests.{eq-eqb, ne_eqb, ltb-true, ltb-false}
use lib.Bits.{or_lt}
use lib.Count.{ones}
use lib.Dec.{eqb, ltb, lit<}
use lib.ListN.{length, get_or, length-append}
use lib.Pow.{pow-lt}
use lib.Seq.{take-length}
use Rattle.std.specs.Prelude.{Ok}
use Rattle.certificates.specs.declared.numbers.Signers.{Signers}
use Rattle.certificates.specs.declared.messages.QC.{QC}
use Rattle.certificates.specs.Config.{members_max, quorum_of}
use Rattle.certificates.specs.Num.{le, num_at, hash_at, nums_at}
use Rattle.certificates.specs.Signers.{bit_of, is_in, words, no_signers, with_signer, signers_from, signers_of, member}
use Rattle.certificates.specs.Messages.{qc_form, is_genesis, verdict_in, count_of, places_in, check_part, qc_check, equals_genesis}
use Rattle.certificates.proofs.Places.{member-take}
use Rattle.certificates.proofs.Accepted.{Distinct, named-accepted, qc-part, tc-part, embedded-part, certified, walked-distinct}
use Rattle.certificates.proofs.Sets.{in-low}
use Rattle.certificates.proofs.Theorems.{genesis-accepted}
use Rattle.outputs.specs.Fields.{number, digits, hash_bytes, bytes_of}
use Rattle.outputs.specs.Records.{places_from, places_of, entries}
use Rattle.outputs.proofs.Writes.{length_digits}
use Rattle.outputs.proofs.ReadBack.{num-back}
use Rattle.outputs.proofs.Places.{places-most, length-places}
use Rattle.replica.specs.Step.{new_core}
use Rattle.runs.specs.Signed.{qc_bytes, tc_bytes, GoodQC, GoodTC}
use Rattle.runs.proofs.Tallied.{Quorate}

-- ---- the places of a word

-- numbers that rise strictly, from p on
Rises : ℕ → List ℕ → Type 0
Rises p [] = Unit {0}
Rises p (x ∷ xs) = (p ≤ x) × Rises (suc x) xs

rises-less : (p q : ℕ) (xs : List ℕ) → p ≤ q → Rises q xs → Rises p xs
unfolding Rises
rises-less p q [] h r = tt
rises-less p q (x ∷ xs) h r = (omega (arith, r.0), r.1)

rises-at : (p : ℕ) (xs : List ℕ) (i : ℕ) → Rises p xs → i < length xs → p ≤ get_or xs i 0
unfolding Rises
rises-at p [] i r h = absurd (omega arith)
rises-at p (x ∷ xs) zero r h = r.0
rises-at p (x ∷ xs) (suc i) r h = omega (arith, rises-at (suc x) xs i r.1 (omega arith), r.0)

rises-distinct : (p : ℕ) (xs : List ℕ) (i j : ℕ) → Rises p xs → i < j → j < length xs → get_or xs i 0 < get_or xs j 0
unfolding Rises
rises-distinct p [] i j r l h = absurd (omega arith)
rises-distinct p (x ∷ xs) i zero r l h = absurd (omega arith)
rises-distinct p (x ∷ xs) zero (suc j) r l h = rises-at (suc x) xs j r.1 (omega arith)
rises-distinct p (x ∷ xs) (suc i) (suc j) r l h = rises-distinct (suc x) xs i j r.1 (omega arith) (omega arith)

rises-not : (p q : ℕ) (xs : List ℕ) → q < p → Rises p xs → member q xs ≡ false
unfolding Rises member
rises-not p q [] h r = refl
rises-not p q (x ∷ xs) h r = let n : q ≢ x = λ e. omega (arith, r.0) in rw (ne_eqb q x n) (rises-not (suc x) q xs (omega (arith, r.0)) r.1)

two : (d : ℕ) → d < 2 → (d ≡ 0) ⊎ (d ≡ 1)
two zero h = inl refl
two (suc zero) h = inr refl
two (suc (suc d)) h = absurd (omega arith)

places-rise : (k p w : ℕ) → Rises p (places_from k p w)
unfolding places_from Rises
places-rise zero p w = tt
places-rise (suc k) p w =
    ⊎_elim
    (λ e. rw e (rises-less p (suc p) (places_from k (suc p) (w / 2)) (omega arith) (places-rise k (suc p) (w / 2))))
    (λ e. rw e (omega arith, places-rise k (suc p) (w / 2)))
    (two (w % 2) (omega arith))

-- the first is not looked at by who looks for another
other_place : (b : Bool) (p q : ℕ) (rest : List ℕ) → q ≢ p → member q (cond b (p ∷ []) [] ++ rest) ≡ member q rest
unfolding member
other_place true p q rest n = rw (ne_eqb q p n)
other_place false p q rest n = refl

-- who is among them, j places on
places-bits : (k p w j : ℕ) → j < k → bit_of w j ≡ cond (member (p + j) (places_from k p w)) 1 0
unfolding places_from bit_of member
places-bits zero p w j h = absurd (omega arith)
places-bits (suc k) p w zero h =
    ⊎_elim
    (λ e. rw (e, rises-not (suc p) (p + 0) (places_from k (suc p) (w / 2)) (omega arith) (places-rise k (suc p) (w / 2))))
    (λ e. rw (e, eq-eqb (p + 0) p (omega arith)))
    (two (w % 2) (omega arith))
places-bits (suc k) p w (suc j) h =
    let same : p + suc j ≡ suc p + j = omega arith in
    let rest = places_from k (suc p) (w / 2) in
    places-bits k (suc p) (w / 2) j (omega arith)
    ∙ ap (λ (b : Bool). cond b 1 0) (ap (λ (q : ℕ). member q rest) (sym same) ∙ sym (other_place (eqb (w % 2) 1) p (p + suc j) rest (λ z. omega arith)))

places-under : (k p w q : ℕ) → p + k ≤ q → member q (places_from k p w) ≡ false
unfolding places_from member
places-under zero p w q h = refl
places-under (suc k) p w q h =
    ⊎_elim
    (λ e. rw e (places-under k (suc p) (w / 2) q (omega arith)))
    (λ e. rw (e, ne_eqb q p (λ z. omega arith)) (places-under k (suc p) (w / 2) q (omega arith)))
    (two (w % 2) (omega arith))

-- a set names whom the places of its word name
pub word-bits : (s : Signers) (q : ℕ) → is_in (words s) q ≡ cond (member q (places_of s.0)) 1 0
unfolding is_in places_of
word-bits s q = cases (ltb q members_max) refl
  where
    cases : (b : Bool) → ltb q members_max ≡ b → cond b (bit_of s.0 q) 0 ≡ cond (member q (places_from members_max 0 s.0)) 1 0
    cases true e = rw zero-add at (places-bits members_max 0 s.0 q (ltb-true q members_max e))
    cases false e = rw (places-under members_max 0 s.0 q (omega (arith, ltb-false q members_max e)))

set-one : (b : Bool) → b ≡ true → ◌≡◌ {A = ℕ} (cond b 1 0) 1
set-one b e = rw e

-- the places of a quorum are distinct members with stake
quorate-distinct : (m : List ℕ) (s : Signers) → Quorate m s → Distinct m (places_of s.0)
unfolding places_of
quorate-distinct m s k =
    record {
      distinct = λ i j l h e. omega (arith, rises-distinct 0 (places_of s.0) i j (places-rise members_max 0 s.0) l h);
      known = λ j h.
          let p = get_or (places_of s.0) j 0 in
          let n = length (places_of s.0) in
          let in_list : member p (places_of s.0) ≡ true = rw take-length at (member-take p (places_of s.0) n j h h refl) in
          k.members p (word-bits s p ∙ set-one _ in_list);
    }

-- ---- a list of places, read back

-- places that fit two bytes
Small : List ℕ → Type 0
Small ps = (i : ℕ) → i < length ps → get_or ps i 0 < 256 ^ 2

module _ (highs : List ℕ) where
  tc-places-at : (ps xs : List ℕ) {at : ℕ} → length xs ≡ at → Small ps → nums_at 2 10 (length ps) (xs ++ bytes_of (entries ps highs)) at ≡ ps
  unfolding nums_at entries bytes_of Small
  tc-places-at [] xs e h = refl
  tc-places-at (p ∷ ps) xs {at} e h =
      let rest = bytes_of (entries ps highs) in
      let here : num_at 2 (xs ++ (digits 2 p ++ (digits 8 (get_or highs p 0) ++ rest))) at ≡ p = rw e at (num-back 2 p xs (digits 8 (get_or highs p 0) ++ rest) (h 0 (omega arith))) in
      let whole : xs ++ (digits 2 p ++ (digits 8 (get_or highs p 0) ++ rest)) ≡ (xs ++ (digits 2 p ++ digits 8 (get_or highs p 0))) ++ rest = simp append_assoc in
      let next = tc-places-at ps (xs ++ (digits 2 p ++ digits 8 (get_or highs p 0))) {at = at + 10} (rw (length-append, length-append, length_digits 2 p, length_digits 8 (get_or highs p 0)) (omega arith)) (λ i l. h (suc i) (omega arith)) in
      rw here (ap (λ (r : List ℕ). p ∷ r) (rw whole next))

qc-places-at : (ps xs : List ℕ) {at : ℕ} → length xs ≡ at → Small ps → nums_at 2 2 (length ps) (xs ++ bytes_of (map (number 2) ps)) at ≡ ps
unfolding nums_at bytes_of Small
qc-places-at [] xs e h = refl
qc-places-at (p ∷ ps) xs {at} e h =
    let rest = bytes_of (map (number 2) ps) in
    let here : num_at 2 (xs ++ (digits 2 p ++ rest)) at ≡ p = rw e at (num-back 2 p xs rest (h 0 (omega arith))) in
    let next = qc-places-at ps (xs ++ digits 2 p) {at = at + 2} (rw (length-append, length_digits) (omega arith)) (λ i l. h (suc i) (omega arith)) in
    rw here (ap (λ (r : List ℕ). p ∷ r) (rw (← append_assoc xs (digits 2 p) rest) next))

entries-length : (ps highs : List ℕ) → length (bytes_of (entries ps highs)) ≡ 10 * length ps
unfolding entries bytes_of
entries-length [] highs = refl
entries-length (p ∷ ps) highs = rw (length-append, length-append, length_digits 2 p, length_digits 8 (get_or highs p 0)) (omega (arith, entries-length ps highs))

twos-length : (ps : List ℕ) → length (bytes_of (map (number 2) ps)) ≡ 2 * length ps
unfolding bytes_of
twos-length [] = refl
twos-length (p ∷ ps) = rw (length-append, length_digits 2 p) (omega (arith, twos-length ps))

-- the places of a word fit two bytes
places-small : (w : ℕ) → Small (places_of w)
unfolding places_of Small
places-small w i h = omega (arith, below (ltb members_max (get_or (places_from members_max 0 w) i 0)) refl)
  where
    below : (b : Bool) → ltb members_max (get_or (places_from members_max 0 w) i 0) ≡ b → get_or (places_from members_max 0 w) i 0 ≤ members_max
    below false e = ltb-false _ _ e
    below true e =
        let p = get_or (places_from members_max 0 w) i 0 in
        let there : member p (places_from members_max 0 w) ≡ true = rw take-length at (member-take p (places_from members_max 0 w) (length (places_from members_max 0 w)) i h h refl) in
        let none : member p (places_from members_max 0 w) ≡ false = places-under members_max 0 w p (omega (arith, ltb-true members_max p e)) in
        let z : ◌≡◌ {A = Bool} true false = sym there ∙ none in
        let y : ◌≡◌ {A = ℕ} 0 1 = cc in
        absurd (omega arith)

-- ---- the signers that are accepted are those of the word

word_same : (k a b : ℕ) → a < 2 ^ k → b < 2 ^ k → ((p : ℕ) → p < k → bit_of a p ≡ bit_of b p) → a ≡ b
unfolding bit_of
word_same zero a b h l e = omega arith
word_same (suc k) a b h l e =
    let halves : a / 2 ≡ b / 2 = word_same k (a / 2) (b / 2) (omega (arith, pow-suc 2 k)) (omega (arith, pow-suc 2 k)) (λ p i. e (suc p) (omega arith)) in
    let low : a % 2 ≡ b % 2 = e 0 (omega arith) in
    omega arith

pub signers-word : (s : Signers) (ps : List ℕ) → s.0 < 2 ^ members_max → ((j : ℕ) → j < length ps → get_or ps j 0 < members_max) → (signers_from s ps).0 < 2 ^ members_max
unfolding signers_from
signers-word s [] h a = h
signers-word s (p ∷ ps) h a =
    signers-word (with_signer s p) ps (or_lt members_max s.0 (2 ^ p) h (pow-lt (a 0 (omega arith)))) (λ j l. a (suc j) (omega arith))

same-signers : (f : _) (m part : List ℕ) (s : Signers) → Quorate m s → places_in f part ≡ places_of s.0
    → check_part f m (quorum_of m) part ≡ Ok (signers_of (places_in f part)) → check_part f m (quorum_of m) part ≡ Ok s
unfolding signers_of
same-signers f m part s k e h =
    let t = signers_of (places_in f part) in
    let c = certified f m (quorum_of m) part t h in
    let word : t.0 < 2 ^ members_max = signers-word no_signers (places_in f part) (lit< tt) (λ j l. ((walked-distinct m (places_in f part) c.walked).known j l).small) in
    let bits : (p : ℕ) → p < members_max → bit_of t.0 p ≡ bit_of s.0 p = λ p l.
    sym (in-low t.0 [] p l) ∙ c.clean.bits p ∙ ap (λ (ps : List ℕ). cond (member p ps) 1 0) e ∙ sym (word-bits s p) ∙ in-low s.0 [] p l in
    h ∙ ap Ok (ap (λ (x : ℕ). record { 0 = x }) (word_same members_max t.0 s.0 word k.word bits))

-- ---- a certificate of a quorum is accepted, whatever stands before its result; the verdict is `at` bytes in, and an entry of the list `stride` bytes long

abbrev count : Signers → ℕ
count s = length (places_of s.0)

count_ones : (m : List ℕ) (s : Signers) → Quorate m s → ones s.0 ≡ count s
unfolding places_of
count_ones m s k = sym (length-places members_max 0 s.0 k.word)

module _ (at stride : ℕ) (m : List ℕ) (s : Signers) (k : Quorate m s) (front list : List ℕ) where
  module _ {part : List ℕ} (is : part ≡ front ++ (digits 1 1 ++ (digits 2 (count s) ++ list))) (at_front : length front ≡ at) (size : length list ≡ stride * count s)
      (listed : nums_at 2 stride (count s) ((front ++ (digits 1 1 ++ digits 2 (count s))) ++ list) (at + 3) ≡ places_of s.0) where
    few : count s ≤ members_max
    unfolding places_of
    few = places-most members_max 0 s.0

    verdict-yes : verdict_in (record { at = at; stride = stride }) part ≡ 1
    unfolding verdict_in
    verdict-yes = rw (is, ← at_front) (num-back 1 1 front (digits 2 (count s) ++ list) (lit< tt))

    count-is : count_of (record { at = at; stride = stride }) part ≡ count s
    unfolding count_of
    count-is =
        let l : length (front ++ digits 1 1) ≡ at + 1 = rw (length-append, length_digits, at_front) in
        let e : part ≡ (front ++ digits 1 1) ++ (digits 2 (count s) ++ list) = is ∙ sym (append_assoc front (digits 1 1) (digits 2 (count s) ++ list)) in
        rw (e, ← l) (num-back 2 (count s) (front ++ digits 1 1) list (omega (arith, few)))

    places-are : places_in (record { at = at; stride = stride }) part ≡ places_of s.0
    unfolding places_in
    places-are =
        let e : part ≡ (front ++ (digits 1 1 ++ digits 2 (count s))) ++ list = is ∙ simp append_assoc in
        rw (count-is, e) listed

    whole : at + 3 + stride * count_of (record { at = at; stride = stride }) part ≤ length part
    whole = rw count-is (rw (is, length-append, length-append, length-append, length_digits 1 1, length_digits 2 (count s)) (omega (arith, at_front, size)))

    accepted-bytes : check_part (record { at = at; stride = stride }) m (quorum_of m) part ≡ Ok s
    accepted-bytes =
        same-signers (record { at = at; stride = stride }) m part s k places-are
        (named-accepted (record { at = at; stride = stride }) m (quorum_of m) part s whole (rw places-are (quorate-distinct m s k)) (λ q. rw places-are (word-bits s q)) k.quorum verdict-yes)

three-more : (front : List ℕ) (n : ℕ) {at : ℕ} → length front ≡ at → length (front ++ (digits 1 1 ++ digits 2 n)) ≡ at + 3
three-more front n e = rw (length-append, length-append, length_digits 1 1, length_digits 2 n, e)

hash-length : (q : QC) → length (hash_bytes q.hash ++ digits 8 q.round.0) ≡ 40
unfolding hash_bytes digits
hash-length q = refl

module _ (m : List ℕ) where
  qc-part-accepted : (q : QC) → Quorate m q.signers → check_part qc_form m (quorum_of m) (qc_bytes q) ≡ Ok q.signers
  unfolding qc_bytes bytes_of
  qc-part-accepted q k =
      let s = q.signers in
      let ps = places_of s.0 in
      let front = hash_bytes q.hash ++ digits 8 q.round.0 in
      let past = digits 1 1 ++ (digits 2 (count s) ++ bytes_of (map (number 2) ps)) in
      rw (count_ones m s k)
      (accepted-bytes 40 2 m s k front (bytes_of (map (number 2) ps)) (sym (append_assoc (hash_bytes q.hash) (digits 8 q.round.0) past)) (hash-length q) (twos-length ps)
      (qc-places-at ps (front ++ (digits 1 1 ++ digits 2 (count s))) (three-more front (count s) (hash-length q)) (places-small s.0)))

  -- a QC that a quorum of members with stake backs is accepted, with its signers
  pub quorate-qc : (q : QC) → Quorate m q.signers → qc_check m (quorum_of m) (qc_bytes q) ≡ Ok q.signers
  quorate-qc q k = rw qc-part (qc-part-accepted q k)

  -- and a TC
  pub quorate-tc : (round : ℕ) (s : Signers) (highs : List ℕ) → Quorate m s → GoodTC m round s.0 highs
  unfolding tc_bytes bytes_of
  quorate-tc round s highs k =
      let ps = places_of s.0 in
      rw (tc-part, count_ones m s k)
      (accepted-bytes 8 10 m s k (digits 8 round) (bytes_of (entries ps highs)) refl (length_digits 8 round) (entries-length ps highs)
      (tc-places-at highs ps (digits 8 round ++ (digits 1 1 ++ digits 2 (count s))) (three-more (digits 8 round) (count s) (length_digits 8 round)) (places-small s.0)))

  -- ---- inside a block or a timeout

  genesis-bytes : equals_genesis (qc_bytes new_core.high_qc) ≡ true
  unfolding equals_genesis is_genesis hash_at num_at le qc_bytes bytes_of digits hash_bytes places_of places_from
  genesis-bytes = refl

  pub genesis-good : GoodQC m new_core.high_qc
  genesis-good = rw genesis-bytes (genesis-accepted m (quorum_of m) (qc_bytes new_core.high_qc) genesis-bytes)

  pub quorate-good : (q : QC) → Quorate m q.signers → GoodQC m q
  quorate-good q k = cases (equals_genesis (qc_bytes q)) refl
    where
      cases : (b : Bool) → equals_genesis (qc_bytes q) ≡ b → GoodQC m q
      cases true e = rw e (genesis-accepted m (quorum_of m) (qc_bytes q) e)
      cases false e = rw (e, embedded-part m (quorum_of m) (qc_bytes q) e) (qc-part-accepted q k)
