-- Laws of a table of tallies, of either kind. In order:
--     tally-found, tally-opened, tally-none      the three ways to the tally that a test asks for
--     tally-...                                  what is then known of that tally
--     append-part                                an author counted in a row that is lent as a part
--     add-...                                    the ways out of `add`, and what it asks on the way
--     added-no-room, added-used, added-below     what an answer says
--     joined-..., heavy-never, look-...          the ways of `weights_of` and `is_any_heavy`
--     are-light-...                              the ways out of `are_light`
--     highs-...                                  the high rounds
--     Each, each-...                             what holds of every tally in use, and goes on to hold
-- Assumes nothing.
use Prim.Native.Nat.{ℕ, zero, suc, ◌+◌, ◌-◌, ◌*◌, ◌≤◌, ◌<◌, ◌^◌}
use mathlib.Core.Bool.{Bool, true, false, not, cond, ◌||◌}
use mathlib.Core.List.{List}
use mathlib.Core.Logic.{⊎_elim}
use Rattle.std.specs.Prelude.{None, Some, Err}
use Rattle.aggregator.specs.declared.tallies.AddError.TheVariants.{NoRoom, Used}
use Rattle.std.proofs.Common.{Option, Some, None}
use Rattle.std.proofs.lemmas.Nat.{le_or_l, le_or_r}
use mathlib.Core.Path.{◌≡◌, refl, sym, ap, ◌∙◌}
use native.Mathlib.Nat.{eq-or-lt_of_le}
use native.Mathlib.Numerals.{add-one}
use native.Mathlib.Omega.{arith}
use borrow.Author.Tests.{eqb-true}
use borrow.Rule.Slice.PartMut.{put_mid}
use lib.Bits.{bit_or}
use lib.ListN.{length, get_or, take, drop, length-take, length-drop}
use lib.Seq.{drop-drop, drop_at, take-add, get_or-take, length-take-le}
use Rattle.certificates.specs.declared.numbers.Signers.{Signers}
use Rattle.aggregator.specs.Rows.{zeros, row, with_row, FoundAs}
use Rattle.aggregator.specs.Tally.{fields, places, vote_width, timeout_width, used_of, round_of, weight_of, names_of, is_free, is_heavy, kept, has_name, with_author, counted, answer_of, AddedAs, Added, quorum_at}
use Rattle.aggregator.specs.Tallies.{vote_tallies, timeout_tallies, timeouts_length, total_max, find_row, find_free, find_heavy, heavy, any_heavy, Light, joined, dropped, first_of, place_for, opened, table_for, TallyFor, Countable, answer_at, table_at, added, after, highs_at, HighsAs}
use Rattle.aggregator.specs.Keys.{Keyed}
use Rattle.aggregator.proofs.Rows.{none_found, part-row, put_as, row_at, row_within, lowest-below, lowest-holds, none-lowest, lowest-some, with_row-same, with_row-row, with_row-length, with_row-each, map_rows-row, zeros-row}
use Rattle.aggregator.proofs.TallyLaws.{heavy-under, used-has, answer-some, answer-row, kept-length, kept-used, name-none}

-- ---- the tally that a test asks for

module _ {test : List ℕ → Bool} {new v : List ℕ} {w n : ℕ} {r : Option ℕ} (a : FoundAs (find_row test w n v) n r) where
  pub tally-found : {i : ℕ} → r ≡ Some i → TallyFor test new w n v (Some i) v
  unfolding place_for table_for
  tally-found {i} e =
      let f : find_row test w n v ≡ Some i = sym a.is ∙ e in
      record { place = rw f; table = rw f; below = λ j q. let z : i ≡ j = cc in omega (arith, a.below i e) }

  module _ (e : (i : ℕ) → r ≡ Some i → ⊥) {g : Option ℕ} (b : FoundAs (find_free w n v) n g) where
    pub tally-opened : {i : ℕ} {v' : List ℕ} → g ≡ Some i → v' ≡ with_row w v i new → TallyFor test new w n v (Some i) v'
    unfolding place_for table_for
    tally-opened {i} q t =
        let f : find_row test w n v ≡ None = sym a.is ∙ none_found r e in
        let h : find_free w n v ≡ Some i = sym b.is ∙ q in
        record { place = rw (f, h); table = rw (f, h) t; below = λ j y. let z : i ≡ j = cc in omega (arith, b.below i q) }

    pub tally-none : g ≡ None → TallyFor test new w n v None v
    unfolding place_for table_for
    tally-none q =
        let f : find_row test w n v ≡ None = sym a.is ∙ none_found r e in
        let h : find_free w n v ≡ None = sym b.is ∙ q in
        record { place = rw (f, h); table = rw (f, h); below = λ j y. let z : ◌≡◌ {A = ℕ} 0 1 = cc in omega arith }

module _ (test : List ℕ → Bool) (new : List ℕ) (w n : ℕ) (v : List ℕ) where
  row_below : (p : List ℕ → Bool) (i : ℕ) → find_row p w n v ≡ Some i → i < n
  unfolding find_row
  row_below p i e = omega (arith, lowest-below p w v n 0 i e)

  free-below : (i : ℕ) → find_free w n v ≡ Some i → i < n
  unfolding find_free
  free-below i e = row_below is_free i e

  -- its place and its table, as they are defined
  pub tally-for : TallyFor test new w n v (place_for test w n v) (table_for test new w n v)
  unfolding place_for
  tally-for = record { place = refl; table = refl; below = λ i e. cases (find_row test w n v) (find_free w n v) refl refl i e }
    where
      cases : (f g : Option ℕ) → find_row test w n v ≡ f → find_free w n v ≡ g → (i : ℕ) → first_of f g ≡ Some i → i < n
      cases (Some j) g a b i e = row_below test i (a ∙ e)
      cases None g a b i e = free-below i (b ∙ e)

pub tally-below : {test : List ℕ → Bool} {new : List ℕ} {w n : ℕ} {v v' : List ℕ} {f : Option ℕ} {i : ℕ} → TallyFor test new w n v f v' → f ≡ Some i → i < n
tally-below t e = t.below _ e

-- where there is no room the table is as it was
pub tally-full : {test : List ℕ → Bool} {new : List ℕ} {w n : ℕ} {v v' : List ℕ} → TallyFor test new w n v None v' → v' ≡ v
unfolding place_for table_for
tally-full {test} {new} {w} {n} {v} {v'} h = cases (find_row test w n v) (find_free w n v) h.place h.table
  where
    cases : (f g : Option ℕ) → None ≡ first_of f g → v' ≡ opened new w v f g → v' ≡ v
    cases (Some j) g p t = t
    cases None (Some j) p t = absurd (let z : ◌≡◌ {A = ℕ} 0 1 = cc in omega arith)
    cases None None p t = t

-- The tally at i is one that was there and passes the test, or the new one, where none was in use.
pub data Stands (test : List ℕ → Bool) (new : List ℕ) (w : ℕ) (v : List ℕ) (i : ℕ) (v' : List ℕ) : Type 0 where
  was-there : v' ≡ v → test (row w v i) ≡ true → Stands test new w v i v'
  was-new : v' ≡ with_row w v i new → row w v' i ≡ new → used_of (row w v i) ≡ 0 → Stands test new w v i v'

module _ {test : List ℕ → Bool} {new : List ℕ} {w n : ℕ} {v v' : List ℕ} {i : ℕ} (k : Keyed test new w) (long : n * w ≤ length v) (h : TallyFor test new w n v (Some i) v') where
  pub tally-stands : Stands test new w v i v'
  unfolding place_for table_for find_row find_free
  tally-stands = cases (find_row test w n v) (find_free w n v) refl refl h.place h.table
    where
      cases : (f g : Option ℕ) → f ≡ find_row test w n v → g ≡ find_free w n v → Some i ≡ first_of f g → v' ≡ opened new w v f g → Stands test new w v i v'
      cases (Some j) g e q p t = let z : i ≡ j = cc in was-there t (rw z (lowest-holds test w v n 0 j (sym e)))
      cases None (Some j) e q p t =
          let z : j ≡ i = cc in
          let s : v' ≡ with_row w v i new = rw z at t in
          was-new s (rw s (with_row-row w i v new k.size (row_within w i n v (h.below i refl) long))) (rw (← z) (eqb-true _ _ (lowest-holds is_free w v n 0 j (sym q))))
      cases None None e q p t = absurd (let z : ◌≡◌ {A = ℕ} 0 1 = cc in omega arith)

  pub tally-passes : test (row w v' i) ≡ true
  tally-passes = cases tally-stands
    where
      cases : Stands test new w v i v' → test (row w v' i) ≡ true
      cases (was-there a b) = rw a b
      cases (was-new a b d) = rw b k.passes

  -- a used name is one of a tally that was there
  pub tally-reused : (p : ℕ) → has_name (names_of (row w v' i)) p ≡ true → v' ≡ v
  tally-reused p e = cases tally-stands
    where
      cases : Stands test new w v i v' → v' ≡ v
      cases (was-there a b) = a
      cases (was-new a b d) = absurd (name-none p (rw (b, k.names) at e))

  pub tally-length : length v' ≡ length v
  tally-length = cases tally-stands
    where
      cases : Stands test new w v i v' → length v' ≡ length v
      cases (was-there a b) = ap length a
      cases (was-new a b d) = rw a (with_row-length w i v new k.size (row_within w i n v (h.below i refl) long))

  -- where none in use is too heavy, this one is not
  pub tally-light : (total : ℕ) → Light w n v total → weight_of (row w v' i) ≤ total
  tally-light total l = cases tally-stands
    where
      cases : Stands test new w v i v' → weight_of (row w v' i) ≤ total
      cases (was-there a b) = rw a (l.weight i (h.below i refl) (k.used _ b))
      cases (was-new a b d) = rw b (omega (arith, k.weight))

-- ---- an author counted in a row that is lent as a part

pub append-part : (mark : List ℕ → List ℕ) (w i : ℕ) (v : List ℕ) (p stake need : ℕ) {r : Added} {t : List ℕ}
    → AddedAs (answer_of i (take (i * w + w - i * w) (drop (i * w) v)) p stake need) (counted mark (take (i * w + w - i * w) (drop (i * w) v)) p stake need) r t
    → AddedAs (answer_of i (row w v i) p stake need) (with_row w v i (counted mark (row w v i) p stake need)) r (put_mid (i * w) (i * w + w - i * w) v t)
append-part mark w i v p stake need c =
    let d = rw (part-row w i v) at c in
    record { answer = d.answer; table = put_as w i v d.table }

-- ---- the ways out of `add`

module _ {test : List ℕ → Bool} {new : List ℕ} {w n : ℕ} {v v' : List ℕ} {f : Option ℕ} (k : Keyed test new w) (p stake need : ℕ) (t : TallyFor test new w n v f v') where
  -- the stake of one more author fits
  pub add-fits : {i : ℕ} → f ≡ Some i → Countable w n v p stake → weight_of (row w v' i) + stake < 2 ^ 64
  add-fits e c = omega (arith, tally-light k (omega (arith, c.long)) (rw e at t) total_max c.light)

  module _ (mark : List ℕ → List ℕ) where
    pub add-full : f ≡ None → AddedAs (added test new w n v p stake need) (after test new mark w n v p stake need) (Err NoRoom) v'
    unfolding added after
    add-full e = record { answer = rw (← t.place, e); table = rw (← t.place, e) (tally-full (rw e at t)) }

    pub add-counted : {i : ℕ} {r : Added} {v'' : List ℕ} → Countable w n v p stake → f ≡ Some i
        → AddedAs (answer_of i (row w v' i) p stake need) (with_row w v' i (counted mark (row w v' i) p stake need)) r v''
        → AddedAs (added test new w n v p stake need) (after test new mark w n v p stake need) r v''
    unfolding added after counted
    add-counted {i} {r} {v''} l e c =
        record {
          answer = rw (← t.place, e, ← t.table) c.answer;
          table = rw (← t.place, e, ← t.table) (cases (has_name (names_of (row w v' i)) p) refl c.table);
        }
      where
        cases : (b : Bool) → b ≡ has_name (names_of (row w v' i)) p → v'' ≡ with_row w v' i (cond b (row w v' i) (with_author mark (row w v' i) p stake need))
            → v'' ≡ cond b v (with_row w v' i (with_author mark (row w v' i) p stake need))
        cases true q s = s ∙ with_row-same w i v' ∙ tally-reused k (omega (arith, l.long)) (rw e at t) p (sym q)
        cases false q s = s

-- ---- what an answer says

module _ (test : List ℕ → Bool) (new : List ℕ) (w n : ℕ) (v : List ℕ) (p stake need : ℕ) where
  -- a refusal leaves the table as it was
  pub added-no-room : (mark : List ℕ → List ℕ) → added test new w n v p stake need ≡ Err NoRoom → after test new mark w n v p stake need ≡ v
  unfolding added after
  added-no-room mark e = cases (place_for test w n v) e
    where
      cases : (f : Option ℕ) → answer_at w (table_for test new w n v) p stake need f ≡ Err NoRoom → table_at mark w v (table_for test new w n v) p stake need f ≡ v
      cases None q = refl
      cases (Some i) q = absurd (answer-some i (row w (table_for test new w n v) i) p stake need q)

  pub added-used : (mark : List ℕ → List ℕ) → added test new w n v p stake need ≡ Err Used → after test new mark w n v p stake need ≡ v
  unfolding added after
  added-used mark e = cases (place_for test w n v) e
    where
      cases : (f : Option ℕ) → answer_at w (table_for test new w n v) p stake need f ≡ Err Used → table_at mark w v (table_for test new w n v) p stake need f ≡ v
      cases None q = refl
      cases (Some i) q = rw (used-has i (row w (table_for test new w n v) i) p stake need (sym q))

  -- the row of a quorum is one of the table's
  pub added-below : {i : ℕ} {s : Signers} → added test new w n v p stake need ≡ quorum_at i s → i < n
  unfolding added
  added-below {i} {s} e = cases (place_for test w n v) refl e
    where
      cases : (f : Option ℕ) → place_for test w n v ≡ f → answer_at w (table_for test new w n v) p stake need f ≡ quorum_at i s → i < n
      cases None z q = absurd (let y : ◌≡◌ {A = ℕ} 0 1 = cc in omega arith)
      cases (Some j) z q = rw (← answer-row j (row w (table_for test new w n v) j) p stake need q) ((tally-for test new w n v).below j z)

-- ---- the ways of `weights_of`

pub joined-none : (w : ℕ) (v : List ℕ) → 0 ≡ joined w 0 v
unfolding joined
joined-none w v = refl

-- one weight more
pub joined-more : (w i : ℕ) (v : List ℕ) {all : ℕ} → fields ≤ w → all ≡ joined w i v → bit_or all (get_or v (i * w + 2) 0) ≡ joined w (i + 1) v
unfolding joined
joined-more w i v wide h = rw (h, ← row_at w i 2 v (omega arith), add-one)

-- no weight is above it
joined-above : (w n i : ℕ) (v : List ℕ) → i < n → weight_of (row w v i) ≤ joined w n v
unfolding joined
joined-above w zero i v h = absurd (omega arith)
joined-above w (suc n) i v h =
    let x = weight_of (row w v n) in
    ⊎_elim (λ (z : i ≡ n). rw z (le_or_r (joined w n v) x)) (λ (z : i < n). omega (arith, joined-above w n i v z, le_or_l (joined w n v) x)) (eq-or-lt_of_le (omega arith))

-- where no weight is above the total, none in use is
heavy-never : (w n : ℕ) (v : List ℕ) (total : ℕ) → joined w n v ≤ total → heavy w n v total ≡ false
unfolding heavy find_heavy find_row
heavy-never w n v total l =
    rw (none-lowest (is_heavy total) w v n 0 (λ i a b. sym (heavy-under (used_of (row w v i)) (weight_of (row w v i)) total (omega (arith, joined-above w n i v (omega arith))))))

-- ---- the ways of `is_any_heavy`

module _ (w n : ℕ) (v : List ℕ) (total i : ℕ) where
  -- a tally looked at from where it begins in the table
  pub look-heavy : {m from : ℕ} {b : Bool} → fields ≤ w → fields ≤ m → i < n → from ≡ i * w → b ≡ is_heavy total (take m (drop from v)) → b ≡ true → true ≡ heavy w n v total
  unfolding heavy find_heavy find_row
  look-heavy {m} {from} wide long h at is e =
      let numbers : (k : ℕ) → k < fields → get_or (row w v i) k 0 ≡ get_or (take m (drop from v)) k 0 =
      λ k l. get_or-take w (drop (i * w) v) k 0 (omega arith) ∙ rw (← at) (sym (get_or-take m (drop from v) k 0 (omega arith))) in
      sym (lowest-some (is_heavy total) w v n i h (rw (numbers 0 (omega arith), numbers 2 (omega arith)) (sym is ∙ e)))

  -- where none of the first n is
  pub look-end : n ≤ i → ((j : ℕ) → j < i → is_heavy total (row w v j) ≡ false) → false ≡ heavy w n v total
  unfolding heavy find_heavy find_row
  look-end h none = rw (none-lowest (is_heavy total) w v n 0 (λ j a b. none j (omega arith)))

-- ---- the ways out of `are_light`

module _ (votes timeouts : List ℕ) (total : ℕ) where
  pub are-light-joined : {a b : ℕ} → a ≡ joined vote_width vote_tallies votes → b ≡ joined timeout_width timeout_tallies timeouts → bit_or a b ≤ total
      → true ≡ not (any_heavy votes timeouts total)
  unfolding any_heavy
  are-light-joined {a} {b} h k l =
      rw (heavy-never vote_width vote_tallies votes total (omega (arith, h, le_or_l a b)), heavy-never timeout_width timeout_tallies timeouts total (omega (arith, k, le_or_r a b)))

  -- none of votes, so it goes by those of timeouts
  pub are-light-none : {a b : Bool} → a ≡ heavy vote_width vote_tallies votes total → b ≡ heavy timeout_width timeout_tallies timeouts total → not a ≡ true → not b ≡ not (any_heavy votes timeouts total)
  unfolding any_heavy
  are-light-none {a} {b} h k e = rw (← h, ← k) (cases a e)
    where
      cases : (a : Bool) → not a ≡ true → not b ≡ not (a || b)
      cases false e = refl
      cases true e = absurd (let z : ◌≡◌ {A = ℕ} 0 1 = cc in omega arith)

  pub are-light-some : {a : Bool} → a ≡ heavy vote_width vote_tallies votes total → not a ≡ false → not a ≡ not (any_heavy votes timeouts total)
  unfolding any_heavy
  are-light-some {a} h e = rw (← h) (cases a e)
    where
      cases : (a : Bool) → not a ≡ false → not a ≡ not (a || heavy timeout_width timeout_tallies timeouts total)
      cases true e = refl
      cases false e = absurd (let z : ◌≡◌ {A = ℕ} 0 1 = cc in omega arith)

-- ---- the high rounds

module _ (v : List ℕ) (i : ℕ) (long : length v ≡ timeouts_length) (within : i < timeout_tallies) where
  -- as they lie in the row, and in the table
  highs-split : highs_at v i ≡ take places (drop fields (drop (i * timeout_width) v))
  unfolding highs_at
  highs-split =
      let past = drop (i * timeout_width) v in
      let l : fields ≤ length past = rw length-drop (omega arith) in
      ap (λ (t : List ℕ). drop fields t) (take-add fields places past) ∙ drop_at (take fields past) (take places (drop fields past)) fields (length-take-le fields past l)

  pub highs-part : HighsAs v i (take (i * timeout_width + fields + places - (i * timeout_width + fields)) (drop (i * timeout_width + fields) v))
  highs-part =
      let e : i * timeout_width + fields + places - (i * timeout_width + fields) ≡ places = omega arith in
      record {
        is = rw (e, ← drop-drop fields (i * timeout_width) v) (sym highs-split);
        long = rw (e, length-take, length-drop) (omega arith);
      }

-- ---- what holds of every tally in use

pub record Each (P : List ℕ → Type 0) (w n : ℕ) (v : List ℕ) : Type 0 where
  pub at : (i : ℕ) → i < n → (used_of (row w v i) ≡ 0 → ⊥) → P (row w v i)

module _ (P : List ℕ → Type 0) (w n : ℕ) where
  -- none is in use
  pub each-zeros : (m : ℕ) → fields ≤ w → Each P w n (zeros m)
  each-zeros m h = record { at = λ i b u. absurd (u (zeros-row m w i 0 (omega arith))) }

  -- those that are dropped are not in use, and the others are as they were
  pub each-dropped : (v : List ℕ) (round : ℕ) → n * w ≤ length v → Each P w n v → Each P w n (dropped w n v round)
  unfolding dropped
  each-dropped v round l e =
      record {
        at = λ i b u.
            let r = map_rows-row (kept round) (kept-length round) w n i v b l in
            let k = kept-used round (row w v i) (λ z. u (rw r z)) in
            rw (r, k.0) (e.at i b (λ z. u (rw (r, k.0) z)));
      }

  -- another row i
  each-with_row : (v : List ℕ) (i : ℕ) (r : List ℕ) → length r ≡ w → i < n → n * w ≤ length v → P r → Each P w n v → Each P w n (with_row w v i r)
  each-with_row v i r s b l h e =
      record { at = with_row-each w r s (λ (k : ℕ) (x : List ℕ). k < n → (used_of x ≡ 0 → ⊥) → P x) i v (row_within w i n v b l) (λ a u. h) e.at }

-- every tally in use that is left is not below the round
pub each-round : (w n : ℕ) (v : List ℕ) (round : ℕ) → n * w ≤ length v → Each (λ (t : List ℕ). round ≤ round_of t) w n (dropped w n v round)
unfolding dropped
each-round w n v round l =
    record {
      at = λ i b u.
          let r = map_rows-row (kept round) (kept-length round) w n i v b l in
          let k = kept-used round (row w v i) (λ z. u (rw r z)) in
          rw (r, k.0) k.1;
    }
