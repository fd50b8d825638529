-- A single tally, a row of numbers: 01, Events, and "Numbers the host sees".
--     fields, places                  the numbers that both kinds of tally begin with; the places that have a bit and a high round
--     vote_width, timeout_width       how many numbers a tally has
--     used_of, round_of, weight_of, names_of, hash_of  its numbers; a number past its end is 0
--     is_free t                       it is not in use: its used mark is 0. Any other mark is in use
--     is_vote round hash t            it is in use for the round and the hash
--     of_round round t                it is in use for the round; round_with says it by used mark and round
--     is_heavy total t                it is in use, with a weight above the total; heavy_with says it by used mark and weight
--     kept round t                    the tally once the round is `round`
--     new_vote round hash, new_timeout round    a tally that nobody is counted in
--     has_name names p, with_name names p       whether bit p of a word is set, and the word with it set
--     signers names                   the set of places with these names
--     with_names t names, with_weight t weight  the tally with other names, with another weight
--     with_high p high t, no_high t   the tally with the high round of place p, and as it is
--     weight_after weight need        a weight, or 0 where it makes the quorum
--     with_author mark t p stake need  the tally with one more author; `mark` is `with_high p high` or `no_high`
--     counted mark t p stake need     the same, but a used author changes nothing
--     Added, quorum_at i s            what is answered of a name that is added; the quorum s in row i
--     answer_of i t p stake need      what is then answered of the tally in row i
--     AddedAs a v r v'                the answer r is a, and the numbers v' are v
use Rattle.aggregator.specs.declared.tallies.AddError.TheVariants.{Used}
use Rattle.std.specs.Prelude.{ℕ, ◌+◌, ◌/◌, ◌%◌, ◌^◌, Bool, false, cond, List, [], ◌∷◌, ◌≡◌, eqb, ltb, length, get_or, set, None, Ok, Err, Option, Some, Result}
use Rattle.std.specs.Int.Bits.{bit_or}
use Rattle.certificates.specs.Config as limits
use Rattle.certificates.specs.declared.numbers.Hash.{Hash}
use Rattle.certificates.specs.declared.numbers.Signers.{Signers}
use Rattle.certificates.specs.Numbers.{same_hash}
use Rattle.aggregator.specs.Rows.{zeros}
use Rattle.aggregator.specs.declared.tallies.Quorum.{Quorum}
use Rattle.aggregator.specs.declared.tallies.AddError.{AddError}

abbrev pub fields : ℕ
fields = 4

abbrev pub places : ℕ
places = limits.members_max

-- used, round, weight, names; then the hash's four words
abbrev pub vote_width : ℕ
vote_width = fields + 4

-- used, round, weight, names; then a high round for each place
abbrev pub timeout_width : ℕ
timeout_width = fields + places

abbrev pub used_of : List ℕ → ℕ
used_of t = get_or t 0 0

abbrev pub round_of : List ℕ → ℕ
round_of t = get_or t 1 0

abbrev pub weight_of : List ℕ → ℕ
weight_of t = get_or t 2 0

abbrev pub names_of : List ℕ → ℕ
names_of t = get_or t 3 0

abbrev pub hash_of : List ℕ → Hash
hash_of t = record { a = get_or t 4 0; b = get_or t 5 0; c = get_or t 6 0; d = get_or t 7 0 }

-- "Each slot and tally carries its own used mark; only used ones are looked up"
abbrev pub is_free : List ℕ → Bool
is_free t = eqb (used_of t) 0

-- VOTE: "tally by (round, hash)"
unfoldable pub is_vote : ℕ → Hash → List ℕ → Bool
is_vote round hash t = cond (is_free t) false (cond (eqb (round_of t) round) (same_hash (hash_of t) hash) false)

-- TIMEOUT: "the tally by round"
abbrev pub round_with : ℕ → ℕ → ℕ → Bool
round_with used of round = cond (eqb used 0) false (eqb of round)

unfoldable pub of_round : ℕ → List ℕ → Bool
of_round round t = round_with (used_of t) (round_of t) round

-- "a tally weight above the total"
abbrev pub heavy_with : ℕ → ℕ → ℕ → Bool
heavy_with used weight total = cond (eqb used 0) false (ltb total weight)

abbrev pub is_heavy : ℕ → List ℕ → Bool
is_heavy total t = heavy_with (used_of t) (weight_of t) total

-- Advance: "tallies below it are dropped", "a dropped one becomes all zeros"
unfoldable pub kept : ℕ → List ℕ → List ℕ
kept round t = cond (is_free t) t (cond (ltb (round_of t) round) (zeros (length t)) t)

unfoldable pub new_vote : ℕ → Hash → List ℕ
new_vote round h = 1 ∷ round ∷ 0 ∷ 0 ∷ h.a ∷ h.b ∷ h.c ∷ h.d ∷ []

unfoldable pub new_timeout : ℕ → List ℕ
new_timeout round = 1 ∷ round ∷ 0 ∷ 0 ∷ zeros places

-- "bit p for place p"
abbrev pub has_name : ℕ → ℕ → Bool
has_name names p = eqb (names / 2 ^ p % 2) 1

abbrev pub with_name : ℕ → ℕ → ℕ
with_name names p = bit_or names (2 ^ p)

abbrev pub signers : ℕ → Signers
signers names = record { 0 = names }

abbrev pub with_names : List ℕ → ℕ → List ℕ
with_names t names = set t 3 names

abbrev pub with_weight : List ℕ → ℕ → List ℕ
with_weight t weight = set t 2 weight

unfoldable pub with_high : ℕ → ℕ → List ℕ → List ℕ
with_high p high t = set t (fields + p) high

unfoldable pub no_high : List ℕ → List ℕ
no_high t = t

-- "At quorum the tally's weight becomes 0 and used names stay"
abbrev pub weight_after : ℕ → ℕ → ℕ
weight_after weight need = cond (ltb weight need) weight 0

unfoldable pub with_author : (List ℕ → List ℕ) → List ℕ → ℕ → ℕ → ℕ → List ℕ
with_author mark t p stake need = mark (with_weight (with_names t (with_name (names_of t) p)) (weight_after (weight_of t + stake) need))

unfoldable pub counted : (List ℕ → List ℕ) → List ℕ → ℕ → ℕ → ℕ → List ℕ
counted mark t p stake need = cond (has_name (names_of t) p) t (with_author mark t p stake need)

-- what becomes of a vote or a timeout: why it is not counted; nothing more; or the quorum of the tally in row i, with the names s
abbrev pub Added : Type 0
Added = Result (Option Quorum) AddError

abbrev pub quorum_at : ℕ → Signers → Added
quorum_at i s = Ok (Some (record { row = i; signers = s }))

-- "A used author is REUSE."
unfoldable pub answer_of : ℕ → List ℕ → ℕ → ℕ → ℕ → Added
answer_of i t p stake need =
    cond (has_name (names_of t) p) (Err Used)
    (cond (ltb (weight_of t + stake) need) (Ok None)
    (quorum_at i (signers (with_name (names_of t) p))))

pub record AddedAs (a : Added) (v : List ℕ) (r : Added) (v' : List ℕ) : Type 0 where
  pub answer : r ≡ a
  pub table : v' ≡ v
