-- What becomes of a vote or a timeout, by cases: no room, a used author, one more author, a quorum. In order:
--     Counted                       what a table is once an author is counted in the tally of row i
--     Addition                      the four cases of an answer and a table
--     addition                      the definitions give one of them, whatever the kind of tally
--     vote-addition, timeout-addition      the same of votes and of timeouts
--     addition-...                  what holds in every case, or in one
-- Assumes nothing.
use Prim.Native.Nat.{ℕ, suc, ◌+◌, ◌*◌, ◌≤◌, ◌<◌}
use mathlib.Core.Bool.{Bool, true, false, cond}
use mathlib.Core.List.{List}
use mathlib.Core.Logic.{◌⊎◌, inl, inr, by_cases}
use Rattle.std.specs.Prelude.{None, Some, Ok, Err}
use Rattle.aggregator.specs.declared.tallies.AddError.TheVariants.{NoRoom, Used}
use Rattle.std.proofs.Common.{Option, Some, None}
use mathlib.Core.Path.{◌≡◌, refl, sym, ap, ◌∙◌}
use native.Mathlib.Decide.{ℕ_discrete}
use native.Mathlib.Omega.{arith}
use borrow.Author.Tests.{ltb-true, ltb-false}
use lib.Dec.{ltb}
use lib.ListN.{length}
use Rattle.certificates.specs.declared.numbers.Hash.{Hash}
use Rattle.certificates.specs.declared.numbers.Signers.{Signers}
use Rattle.aggregator.specs.Rows.{row, with_row}
use Rattle.aggregator.specs.Tally.{vote_width, timeout_width, used_of, weight_of, names_of, is_vote, of_round, new_vote, new_timeout, has_name, with_name, signers, with_high, no_high, with_author, answer_of, Added, quorum_at}
use Rattle.aggregator.specs.Tallies.{vote_tallies, timeout_tallies, votes_length, timeouts_length, Light, place_for, table_for, TallyFor, answer_at, table_at, added, after, vote_added, votes_after, timeout_added, timeouts_after}
use Rattle.aggregator.proofs.Rows.{row-length, row_within, with_row-row, with_row-length, with_row-other}
use Rattle.aggregator.proofs.TallyLaws.{name-with, author-length, author-names, author-weight, Kind, kind-keyed, vote-kind, timeout-kind, quorum-same}
use Rattle.aggregator.proofs.TableLaws.{tally-for, Stands, was-there, was-new, tally-stands, tally-passes, tally-length, Each}

-- The author p is counted in the tally t, which was there or is new: v' has it in row i, and is otherwise v.
pub record Counted (test : List ℕ → Bool) (new : List ℕ) (mark : List ℕ → List ℕ) (w n : ℕ) (v : List ℕ) (p stake need i : ℕ) (t v' : List ℕ) : Type 0 where
  pub below : i < n
  pub size : length t ≡ w
  pub passes : test t ≡ true
  pub stood : (row w v i ≡ t) ⊎ ((used_of (row w v i) ≡ 0) × (t ≡ new))
  pub fresh : has_name (names_of t) p ≡ false
  pub here : row w v' i ≡ with_author mark t p stake need
  pub others : (j : ℕ) → (j ≡ i → ⊥) → row w v' j ≡ row w v j
  pub long : length v' ≡ length v

pub data Addition (test : List ℕ → Bool) (new : List ℕ) (mark : List ℕ → List ℕ) (w n : ℕ) (v : List ℕ) (p stake need : ℕ) (a : Added) (v' : List ℕ) : Type 0 where
  no_row : a ≡ Err NoRoom → v' ≡ v → Addition test new mark w n v p stake need a v'
  used : a ≡ Err Used → v' ≡ v → Addition test new mark w n v p stake need a v'
  more : (i : ℕ) (t : List ℕ) → Counted test new mark w n v p stake need i t v' → a ≡ Ok None → weight_of t + stake < need → Addition test new mark w n v p stake need a v'
  full : (i : ℕ) (t : List ℕ) → Counted test new mark w n v p stake need i t v' → a ≡ quorum_at i (signers (with_name (names_of t) p)) → need ≤ weight_of t + stake
      → Addition test new mark w n v p stake need a v'

-- A quorum: the word is the names of the tally and the author's, which are those of the row.
pub record Filled (test : List ℕ → Bool) (new : List ℕ) (mark : List ℕ → List ℕ) (w n : ℕ) (v : List ℕ) (p stake need i : ℕ) (s : Signers) (v' : List ℕ) : Type 0 where
  pub tally : List ℕ
  pub counted : Counted test new mark w n v p stake need i tally v'
  pub reached : need ≤ weight_of tally + stake
  pub names : s.0 ≡ with_name (names_of tally) p
  pub word : s.0 ≡ names_of (row w v' i)

module _ {test : List ℕ → Bool} {new : List ℕ} {mark : List ℕ → List ℕ} {w n : ℕ} (k : Kind test new mark w) (v : List ℕ) (l : n * w ≤ length v) (p stake need : ℕ) where
  module _ (i : ℕ) (o : List ℕ) (t : TallyFor test new w n v (Some i) o) where
    rows-as-were : Stands test new w v i o → (j : ℕ) → (j ≡ i → ⊥) → row w o j ≡ row w v j
    rows-as-were (was-there a b) j h = ap (λ (x : List ℕ). row w x j) a
    rows-as-were (was-new a b d) j h = ap (λ (x : List ℕ). row w x j) a ∙ with_row-other w new k.size i v (row_within w i n v (t.below i refl) l) j h

    stood-as : Stands test new w v i o → (row w v i ≡ row w o i) ⊎ ((used_of (row w v i) ≡ 0) × (row w o i ≡ new))
    stood-as (was-there a b) = inl (ap (λ (x : List ℕ). row w x i) (sym a))
    stood-as (was-new a b d) = inr (d, b)

    once-counted : has_name (names_of (row w o i)) p ≡ false → Counted test new mark w n v p stake need i (row w o i) (with_row w o i (with_author mark (row w o i) p stake need))
    once-counted h =
        let b : i < n = t.below i refl in
        let s : length o ≡ length v = tally-length (kind-keyed k) l t in
        let m : n * w ≤ length o = omega arith in
        let at : i * w + w ≤ length o = row_within w i n o b m in
        let z : length (row w o i) ≡ w = row-length w i o at in
        let u = with_author mark (row w o i) p stake need in
        let r : length (with_author mark (row w o i) p stake need) ≡ w = author-length k.marks (row w o i) p stake need ∙ z in
        record {
          below = b;
          size = z;
          passes = tally-passes (kind-keyed k) l t;
          stood = stood-as (tally-stands (kind-keyed k) l t);
          fresh = h;
          here = with_row-row w i o u r at;
          others = λ j q. with_row-other w u r i o at j q ∙ rows-as-were (tally-stands (kind-keyed k) l t) j q;
          long = with_row-length w i o u r at ∙ s;
        }

  pub addition : Addition test new mark w n v p stake need (added test new w n v p stake need) (after test new mark w n v p stake need)
  unfolding added after answer_of
  addition = at (place_for test w n v) refl
    where
      in-tally : (i : ℕ) → TallyFor test new w n v (Some i) (table_for test new w n v) → (b d : Bool) → b ≡ has_name (names_of (row w (table_for test new w n v) i)) p → d ≡ ltb (weight_of (row w (table_for test new w n v) i) + stake) need
          → Addition test new mark w n v p stake need (cond b (Err Used) (cond d (Ok None) (quorum_at i (signers (with_name (names_of (row w (table_for test new w n v) i)) p)))))
          (cond b v (with_row w (table_for test new w n v) i (with_author mark (row w (table_for test new w n v) i) p stake need)))
      in-tally i t true d e f = used refl refl
      in-tally i t false true e f = more i _ (once-counted i (table_for test new w n v) t (sym e)) refl (ltb-true _ _ (sym f))
      in-tally i t false false e f = full i _ (once-counted i (table_for test new w n v) t (sym e)) refl (ltb-false _ _ (sym f))

      at : (f : Option ℕ) → place_for test w n v ≡ f → Addition test new mark w n v p stake need (answer_at w (table_for test new w n v) p stake need f) (table_at mark w v (table_for test new w n v) p stake need f)
      at None e = no_row refl refl
      at (Some i) e = in-tally i (rw e at (tally-for test new w n v)) _ _ refl refl

pub vote-addition : (votes : List ℕ) (round : ℕ) (hash : Hash) (p stake need : ℕ) → length votes ≡ votes_length
    → Addition (is_vote round hash) (new_vote round hash) no_high vote_width vote_tallies votes p stake need (vote_added votes round hash p stake need) (votes_after votes round hash p stake need)
unfolding vote_added votes_after
vote-addition votes round hash p stake need l = addition (vote-kind round hash) votes (omega arith) p stake need

pub timeout-addition : (timeouts : List ℕ) (round p stake need high : ℕ) → length timeouts ≡ timeouts_length
    → Addition (of_round round) (new_timeout round) (with_high p high) timeout_width timeout_tallies timeouts p stake need (timeout_added timeouts round p stake need)
    (timeouts_after timeouts round p stake need high)
unfolding timeout_added timeouts_after
timeout-addition timeouts round p stake need high l = addition (timeout-kind round p high) timeouts (omega arith) p stake need

-- ---- a table in which an author is counted

module _ {test : List ℕ → Bool} {new : List ℕ} {mark : List ℕ → List ℕ} {w n : ℕ} {v : List ℕ} {p stake need i : ℕ} {t v' : List ℕ} (k : Kind test new mark w) (c : Counted test new mark w n v p stake need i t v') where
  -- its name is among the names of the row
  pub counted-names : names_of (row w v' i) ≡ with_name (names_of t) p
  counted-names = ap names_of c.here ∙ author-names k.marks t p stake need (omega (arith, k.wide, c.size))

  -- the row's weight is its weight and the stake, or 0 at the quorum
  pub counted-weight : weight_of (row w v' i) ≡ cond (ltb (weight_of t + stake) need) (weight_of t + stake) 0
  counted-weight = ap weight_of c.here ∙ author-weight k.marks t p stake need (omega (arith, k.wide, c.size))

  -- the row is still found by the test
  pub counted-passes : test (row w v' i) ≡ true
  counted-passes = rw (c.here, k.stays) c.passes

  -- what holds of every tally in use, of a new one and of a tally with one more author still holds of every tally in use
  counted-each : (P : List ℕ → Type 0) → Each P w n v → P new → ((t : List ℕ) → length t ≡ w → test t ≡ true → P t → has_name (names_of t) p ≡ false → P (with_author mark t p stake need))
      → Each P w n v'
  counted-each P all one step =
      record {
        at = λ j b u. by_cases (ℕ_discrete j i) (λ e. rw (e, c.here) (step t c.size c.passes (before c.stood) c.fresh)) (λ h. rw (c.others j h) (all.at j b (λ z. u (rw (c.others j h) z))));
      }
    where
      before : (row w v i ≡ t) ⊎ ((used_of (row w v i) ≡ 0) × (t ≡ new)) → P t
      before (inl a) = rw (← a) (all.at i c.below (k.used (row w v i) (rw a c.passes)))
      before (inr a) = rw a.1 one

  -- and the table is another
  counted-changes : v' ≡ v → ⊥
  counted-changes e = cases c.stood
    where
      has : has_name (names_of (row w v i)) p ≡ true
      has = rw (← e, counted-names) (name-with (names_of t) p)

      cases : (row w v i ≡ t) ⊎ ((used_of (row w v i) ≡ 0) × (t ≡ new)) → ⊥
      cases (inl a) = let y : ◌≡◌ {A = Bool} true false = sym has ∙ rw a c.fresh in let z : ◌≡◌ {A = ℕ} 0 1 = cc in omega arith
      cases (inr a) = k.used (row w v i) (rw e at counted-passes) a.0

-- ---- what holds in every case, or in one

module _ {test : List ℕ → Bool} {new : List ℕ} {mark : List ℕ → List ℕ} {w n : ℕ} {v : List ℕ} {p stake need : ℕ} {a : Added} {v' : List ℕ} where
  pub addition-length : Addition test new mark w n v p stake need a v' → length v' ≡ length v
  addition-length (no_row e s) = ap length s
  addition-length (used e s) = ap length s
  addition-length (more i t c e h) = c.long
  addition-length (full i t c e h) = c.long

  -- only a refusal leaves the table as it was
  pub addition-same : Kind test new mark w → Addition test new mark w n v p stake need a v' → v' ≡ v → (a ≡ Err NoRoom) ⊎ (a ≡ Err Used)
  addition-same k (no_row e s) q = inl e
  addition-same k (used e s) q = inr e
  addition-same k (more i t c e h) q = absurd (counted-changes k c q)
  addition-same k (full i t c e h) q = absurd (counted-changes k c q)

  -- at the quorum: the author is counted, its stake makes the quorum, and the word is what the row's names now are
  pub addition-full : {i : ℕ} {s : Signers} → Kind test new mark w → Addition test new mark w n v p stake need a v' → a ≡ quorum_at i s → Filled test new mark w n v p stake need i s v'
  addition-full k (no_row e s) q = absurd (let z : ◌≡◌ {A = ℕ} 0 1 = cc in omega arith)
  addition-full k (used e s) q = absurd (let z : ◌≡◌ {A = ℕ} 0 1 = cc in omega arith)
  addition-full k (more i t c e h) q = absurd (let z : ◌≡◌ {A = ℕ} 0 1 = cc in omega arith)
  addition-full {i} {s} k (full j t c e h) q =
      let same = quorum-same (sym e ∙ q) in
      rw (← same.0, ← same.1) (record { tally = t; counted = c; reached = h; names = refl; word = sym (counted-names k c) })

  -- what holds of every tally in use, of a new one and of a tally with one more author still holds of every tally in use
  pub addition-each : (P : List ℕ → Type 0) → Kind test new mark w → Addition test new mark w n v p stake need a v' → Each P w n v → P new
      → ((t : List ℕ) → length t ≡ w → test t ≡ true → P t → has_name (names_of t) p ≡ false → P (with_author mark t p stake need)) → Each P w n v'
  addition-each P k (no_row e s) all one step = rw s all
  addition-each P k (used e s) all one step = rw s all
  addition-each P k (more i t c e h) all one step = counted-each k c P all one step
  addition-each P k (full i t c e h) all one step = counted-each k c P all one step

  -- no tally in use becomes too heavy: at the quorum, which is at most 1 above the total, its weight becomes 0
  pub addition-light : (total : ℕ) → Kind test new mark w → need ≤ suc total → Addition test new mark w n v p stake need a v' → Light w n v total → Light w n v' total
  addition-light total k q d h =
      let e = addition-each (λ (t : List ℕ). weight_of t ≤ total) k d (record { at = h.weight }) (omega (arith, k.weight)) (λ t l x y z. rw (author-weight k.marks t p stake need (omega (arith, k.wide))) (short (ltb (weight_of t + stake) need) (weight_of t + stake) refl)) in
      record { weight = e.at }
    where
      short : (b : Bool) (x : ℕ) → b ≡ ltb x need → cond b x 0 ≤ total
      short true x e = omega (arith, ltb-true x need (sym e))
      short false x e = omega arith
