-- What the crates above cite. The four cases of an addition, with all that is known in each, are `vote-addition` and `timeout-addition` of `Additions`; what
-- an invariant over every tally in use needs is `Each` of `TableLaws` (`each-zeros`, `each-dropped`) and `addition-each`. In order:
--     ...-length                      each operation leaves a table as long as it was
--     light-..., ...-light            no tally in use is heavier than the total: what the test says, and what keeps it so
--     dropped-zeros                   a table of zeros has nothing to drop
--     countable                       what `add_vote` and `add_timeout` ask
--     vote-..., timeout-...           the answers: a refusal, and only a refusal, leaves the table as it was; a quorum
--     highs-row                       where the high rounds lie; `author-high` and `author-highs` of `TallyLaws` say what they are
-- Assumes nothing.
use Prim.Native.Nat.{ℕ, suc, ◌+◌, ◌*◌, ◌≤◌, ◌<◌}
use mathlib.Core.Bool.{Bool, true, false}
use mathlib.Core.List.{List}
use mathlib.Core.Logic.{◌⊎◌}
use Rattle.std.specs.Prelude.{None, Some, Err}
use Rattle.aggregator.specs.declared.tallies.AddError.TheVariants.{NoRoom, Used}
use Rattle.std.proofs.Common.{Option, Some, None, is_some}
use mathlib.Core.Path.{◌≡◌, refl, sym, ◌∙◌}
use native.Mathlib.Omega.{arith}
use borrow.Author.Tests.{eq-eqb, ne_eqb, le-ltb, ltb-false}
use lib.Dec.{eqb}
use lib.ListN.{length, get_or}
use lib.Seq.{get_or-drop}
use Rattle.certificates.specs.declared.numbers.Hash.{Hash}
use Rattle.certificates.specs.declared.numbers.Signers.{Signers}
use Rattle.aggregator.specs.Rows.{zeros, row}
use Rattle.aggregator.specs.Tally.{fields, places, vote_width, timeout_width, used_of, weight_of, is_vote, of_round, is_heavy, heavy_with, kept, new_vote, new_timeout, with_high, no_high, AddedAs, Added, quorum_at}
use Rattle.aggregator.specs.Tallies.{vote_tallies, timeout_tallies, votes_length, timeouts_length, total_max, find_row, find_heavy, heavy, Light, dropped, Countable, vote_added, votes_after, timeout_added, timeouts_after, highs_at}
use Rattle.aggregator.proofs.Rows.{lowest-none, none-lowest, map_rows-length, map_rows-same, zeros-row}
use Rattle.aggregator.proofs.TallyLaws.{keep-free, kept-length, vote-kind, timeout-kind}
use Rattle.aggregator.proofs.TableLaws.{added-no-room, added-used, added-below, each-zeros, each-dropped}
use Rattle.aggregator.proofs.Additions.{Filled, vote-addition, timeout-addition, addition-length, addition-same, addition-full, addition-light}

-- ---- a table that is cleaned up, or cleared

pub dropped-length : (w n : ℕ) (v : List ℕ) (round : ℕ) → length (dropped w n v round) ≡ length v
unfolding dropped
dropped-length w n v round = map_rows-length (kept round) (kept-length round) w n v

pub dropped-zeros : (w n m round : ℕ) → fields ≤ w → dropped w n (zeros m) round ≡ zeros m
unfolding dropped
dropped-zeros w n m round h = map_rows-same (kept round) w n (zeros m) (λ i b. sym (keep-free round (row w (zeros m) i) (zeros-row m w i 0 (omega arith))))

-- ---- no tally in use is heavier than the total

none-at : (f : Option ℕ) → is_some f ≡ false → f ≡ None
none-at (Some i) e = absurd (let z : ◌≡◌ {A = ℕ} 0 1 = cc in omega arith)
none-at None e = refl

used-heavy : (used weight total : ℕ) → (used ≡ 0 → ⊥) → heavy_with used weight total ≡ false → weight ≤ total
used-heavy used weight total u e = ltb-false _ _ (rw (ne_eqb _ _ u) at e)

light-not : (used weight total : ℕ) (b : Bool) → b ≡ eqb used 0 → ((used ≡ 0 → ⊥) → weight ≤ total) → heavy_with used weight total ≡ false
light-not used weight total true e h = rw (← e)
light-not used weight total false e h = rw (← e) (le-ltb _ _ (h (λ z. let y : eqb used 0 ≡ true = eq-eqb _ _ z in let x : ◌≡◌ {A = Bool} true false = sym y ∙ sym e in let w : ◌≡◌ {A = ℕ} 0 1 = cc in omega arith)))

module _ (w n : ℕ) (v : List ℕ) (total : ℕ) where
  -- where the search finds no heavy one there is none
  pub light-of : heavy w n v total ≡ false → Light w n v total
  unfolding heavy find_heavy find_row
  light-of e = record { weight = λ i b u. used-heavy _ _ total u (lowest-none (is_heavy total) w v n 0 i (none-at _ e) (omega arith) (omega arith)) }

  -- and where there is none it finds none
  pub light-heavy : Light w n v total → heavy w n v total ≡ false
  unfolding heavy find_heavy find_row
  light-heavy h = rw (none-lowest (is_heavy total) w v n 0 (λ i a b. light-not (used_of (row w v i)) (weight_of (row w v i)) total (eqb (used_of (row w v i)) 0) refl (h.weight i (omega arith))))

  pub light-more : (total' : ℕ) → total ≤ total' → Light w n v total → Light w n v total'
  light-more total' q h = record { weight = λ i b u. omega (arith, h.weight i b u) }

  pub dropped-light : (round : ℕ) {v' : List ℕ} → v' ≡ dropped w n v round → n * w ≤ length v → Light w n v total → Light w n v' total
  dropped-light round e l h =
      let d = each-dropped (λ (t : List ℕ). weight_of t ≤ total) w n v round l (record { at = h.weight }) in
      rw e (record { weight = d.at })

  -- what is asked of a table, a place and its stake before the author is counted
  pub countable : (p stake : ℕ) → length v ≡ n * w → p < places → Light w n v total → stake ≤ total → total ≤ total_max → Countable w n v p stake
  countable p stake l b h a q = record { long = l; member = b; light = light-more total_max q h; part = omega arith }

pub zeros-light : (w n m total : ℕ) → fields ≤ w → Light w n (zeros m) total
zeros-light w n m total h = let e = each-zeros (λ (t : List ℕ). weight_of t ≤ total) w n m h in record { weight = e.at }

-- ---- a vote

module _ (votes : List ℕ) (round : ℕ) (hash : Hash) (p stake need : ℕ) where
  module _ {r : Added} {v' : List ℕ} (d : AddedAs (vote_added votes round hash p stake need) (votes_after votes round hash p stake need) r v') where
    pub vote-no-room : r ≡ Err NoRoom → v' ≡ votes
    unfolding vote_added votes_after
    vote-no-room e = d.table ∙ added-no-room _ _ _ _ _ _ _ _ _ (sym d.answer ∙ e)

    pub vote-used : r ≡ Err Used → v' ≡ votes
    unfolding vote_added votes_after
    vote-used e = d.table ∙ added-used _ _ _ _ _ _ _ _ _ (sym d.answer ∙ e)

    pub vote-below : {i : ℕ} {s : Signers} → r ≡ quorum_at i s → i < vote_tallies
    unfolding vote_added
    vote-below e = added-below _ _ _ _ _ _ _ _ (sym d.answer ∙ e)

  module _ (long : length votes ≡ votes_length) where
    pub votes-after-length : length (votes_after votes round hash p stake need) ≡ votes_length
    votes-after-length = addition-length (vote-addition votes round hash p stake need long) ∙ long

    pub votes-after-light : (total : ℕ) → need ≤ suc total → Light vote_width vote_tallies votes total → Light vote_width vote_tallies (votes_after votes round hash p stake need) total
    votes-after-light total q h = addition-light total (vote-kind round hash) q (vote-addition votes round hash p stake need long) h

    pub vote-same : votes_after votes round hash p stake need ≡ votes → (vote_added votes round hash p stake need ≡ Err NoRoom) ⊎ (vote_added votes round hash p stake need ≡ Err Used)
    vote-same = addition-same (vote-kind round hash) (vote-addition votes round hash p stake need long)

    pub vote-full : {i : ℕ} {s : Signers} → vote_added votes round hash p stake need ≡ quorum_at i s
        → Filled (is_vote round hash) (new_vote round hash) no_high vote_width vote_tallies votes p stake need i s (votes_after votes round hash p stake need)
    vote-full = addition-full (vote-kind round hash) (vote-addition votes round hash p stake need long)

-- ---- a timeout

module _ (timeouts : List ℕ) (round p stake need high : ℕ) where
  module _ {r : Added} {v' : List ℕ} (d : AddedAs (timeout_added timeouts round p stake need) (timeouts_after timeouts round p stake need high) r v') where
    pub timeout-no-room : r ≡ Err NoRoom → v' ≡ timeouts
    unfolding timeout_added timeouts_after
    timeout-no-room e = d.table ∙ added-no-room _ _ _ _ _ _ _ _ _ (sym d.answer ∙ e)

    pub timeout-used : r ≡ Err Used → v' ≡ timeouts
    unfolding timeout_added timeouts_after
    timeout-used e = d.table ∙ added-used _ _ _ _ _ _ _ _ _ (sym d.answer ∙ e)

    pub timeout-below : {i : ℕ} {s : Signers} → r ≡ quorum_at i s → i < timeout_tallies
    unfolding timeout_added
    timeout-below e = added-below _ _ _ _ _ _ _ _ (sym d.answer ∙ e)

  module _ (long : length timeouts ≡ timeouts_length) where
    pub timeouts-after-length : length (timeouts_after timeouts round p stake need high) ≡ timeouts_length
    timeouts-after-length = addition-length (timeout-addition timeouts round p stake need high long) ∙ long

    pub timeouts-after-light : (total : ℕ) → need ≤ suc total → Light timeout_width timeout_tallies timeouts total
        → Light timeout_width timeout_tallies (timeouts_after timeouts round p stake need high) total
    timeouts-after-light total q h = addition-light total (timeout-kind round p high) q (timeout-addition timeouts round p stake need high long) h

    pub timeout-same : timeouts_after timeouts round p stake need high ≡ timeouts → (timeout_added timeouts round p stake need ≡ Err NoRoom) ⊎ (timeout_added timeouts round p stake need ≡ Err Used)
    timeout-same = addition-same (timeout-kind round p high) (timeout-addition timeouts round p stake need high long)

    pub timeout-full : {i : ℕ} {s : Signers} → timeout_added timeouts round p stake need ≡ quorum_at i s
        → Filled (of_round round) (new_timeout round) (with_high p high) timeout_width timeout_tallies timeouts p stake need i s (timeouts_after timeouts round p stake need high)
    timeout-full = addition-full (timeout-kind round p high) (timeout-addition timeouts round p stake need high long)

-- ---- the high rounds

-- where they lie in the row
pub highs-row : (v : List ℕ) (i q : ℕ) → get_or (highs_at v i) q 0 ≡ get_or (row timeout_width v i) (fields + q) 0
unfolding highs_at
highs-row v i q = get_or-drop fields (row timeout_width v i) q 0
