-- 01, Numbers the host sees: 32, 20 and 19, in this order.
--     block_counts r, counts_of r k    the counts of the signer lists of a block, of a record of the kind
--     block_rounds r, rounds_of r k    every round field of a block, of a record of the kind
--     empty_tc r k                     "LOOPBACK with an empty TC"
--     bounded c x                      20 if a list of c signers is too long, else 19 if the round x is too high, else 0
--     limit_of r k                     the number that the record gets by its limits; 0 for one within them
--     limit_in r k                     that of a record of the kind, if it has one; 0 without a form
use Rattle.std.specs.Prelude.{ℕ, Bool, false, cond, List, [], ◌∷◌, ltb, eqb, Option, Some, None}
use Rattle.certificates.specs.Num.{num_at}
use Rattle.certificates.specs.Numbers.{round_max}
use Rattle.trace.specs.Layout.{signers_max, qc_round, qc_count, tc_count, tc_rounds, block_qc, timeout_qc, tc_body, tc_at}
use Rattle.trace.specs.Form.{any_above}
use Rattle.trace.specs.declared.events.Kind.{Kind}
use Rattle.trace.specs.declared.events.Kind.TheVariants.{Start, Propose, Vote, Timeout, Tc, Loopback, Tick}

unfoldable pub block_counts : List ℕ → List ℕ
block_counts r = qc_count r block_qc ∷ cond (eqb (tc_at r) 0) [] (tc_count r (tc_at r) ∷ [])

abbrev pub counts_of : List ℕ → Kind → List ℕ
counts_of r Start = []
counts_of r Propose = block_counts r
counts_of r Vote = []
counts_of r Timeout = qc_count r timeout_qc ∷ []
counts_of r Tc = tc_count r tc_body ∷ []
counts_of r Loopback = block_counts r
counts_of r Tick = []

unfoldable pub block_rounds : List ℕ → List ℕ
block_rounds r = num_at 8 r 36 ∷ qc_round r block_qc ∷ cond (eqb (tc_at r) 0) [] (tc_rounds r (tc_at r))

abbrev pub rounds_of : List ℕ → Kind → List ℕ
rounds_of r Start = []
rounds_of r Propose = block_rounds r
rounds_of r Vote = num_at 8 r 34 ∷ []
rounds_of r Timeout = num_at 8 r 2 ∷ qc_round r timeout_qc ∷ []
rounds_of r Tc = tc_rounds r tc_body
rounds_of r Loopback = block_rounds r
rounds_of r Tick = []

abbrev pub empty_tc : List ℕ → Kind → Bool
empty_tc r Start = false
empty_tc r Propose = false
empty_tc r Vote = false
empty_tc r Timeout = false
empty_tc r Tc = false
empty_tc r Loopback = cond (eqb (tc_at r) 0) false (eqb (tc_count r (tc_at r)) 0)
empty_tc r Tick = false

unfoldable pub bounded : ℕ → ℕ → ℕ
bounded c x = cond (ltb signers_max c) 20 (cond (ltb round_max x) 19 0)

unfoldable pub limit_of : List ℕ → Kind → ℕ
limit_of r k =
    cond (empty_tc r k) 32
    (cond (any_above signers_max (counts_of r k)) 20
    (cond (any_above round_max (rounds_of r k)) 19
    0))

-- a record without a form has no list and no round that a limit is for
abbrev pub limit_in : List ℕ → Option Kind → ℕ
limit_in r None = 0
limit_in r (Some k) = limit_of r k
