-- 01, Certificates: sets of signers. "Accepted signers are kept as one 64-bit word, bit p for place p; the number of signers is the count of ones
-- in that word."
-- A word:
--     bit_of w p       bit p, 0 or 1
--     sum_at xs w      the sum of the numbers in a list whose bit is set: bit 0 for the first
-- A set, as a list of words, of which the first has the lowest places:
--     word_bits        the places of a word
--     is_in ws p       1 where p is in the set, else 0
--     count_in ws      how many are in it
--     stake_in m ws    their stake
--     add_to ws p      the set with p; as it was where it has no room for p
--     both vs ws       what is in both
--     either vs ws     what is in one or the other
-- Signers, which are one word:
--     words s          as a list of words
--     no_signers       none
--     with_signer s p  one more
--     signers_from s ps one more for each of a list of places
--     signers_of ps    those at a list of places
--     weight_of m s    their stake
-- A list of places:
--     member p ps      whether p is among them
--     stake_on m ps    their stake
--     shared ps qs     those of ps that are among qs as well
use Rattle.std.specs.Prelude.{ℕ, zero, suc, ◌+◌, ◌-◌, ◌*◌, ◌/◌, ◌%◌, ◌^◌, List, [], ◌∷◌, Bool, false, cond, ◌||◌, take, drop, eqb, ltb}
use Rattle.std.specs.Int.Bits.{bit_or, bit_and}
use Rattle.std.specs.Int.Count.{ones}
use Rattle.certificates.specs.declared.numbers.Signers.{Signers}
use Rattle.certificates.specs.Config.{stake_of}

-- ---- a word

unfoldable pub bit_of : ℕ → ℕ → ℕ
bit_of w zero = w % 2
bit_of w (suc p) = bit_of (w / 2) p

unfoldable pub sum_at : List ℕ → ℕ → ℕ
sum_at [] w = 0
sum_at (x ∷ xs) w = w % 2 * x + sum_at xs (w / 2)

-- ---- a set

abbrev pub word_bits : ℕ
word_bits = 64

unfoldable pub is_in : List ℕ → ℕ → ℕ
is_in [] p = 0
is_in (w ∷ ws) p = cond (ltb p word_bits) (bit_of w p) (is_in ws (p - word_bits))

unfoldable pub count_in : List ℕ → ℕ
count_in [] = 0
count_in (w ∷ ws) = ones w + count_in ws

unfoldable pub stake_in : List ℕ → List ℕ → ℕ
stake_in m [] = 0
stake_in m (w ∷ ws) = sum_at (take word_bits m) w + stake_in (drop word_bits m) ws

unfoldable pub add_to : List ℕ → ℕ → List ℕ
add_to [] p = []
add_to (w ∷ ws) p = cond (ltb p word_bits) (bit_or w (2 ^ p) ∷ ws) (w ∷ add_to ws (p - word_bits))

unfoldable pub both : List ℕ → List ℕ → List ℕ
both [] ws = []
both (v ∷ vs) [] = []
both (v ∷ vs) (w ∷ ws) = bit_and v w ∷ both vs ws

unfoldable pub either : List ℕ → List ℕ → List ℕ
either [] ws = ws
either (v ∷ vs) [] = v ∷ vs
either (v ∷ vs) (w ∷ ws) = bit_or v w ∷ either vs ws

-- ---- signers

abbrev pub words : Signers → List ℕ
words s = s.0 ∷ []

abbrev pub no_signers : Signers
no_signers = record { 0 = 0 }

abbrev pub with_signer : Signers → ℕ → Signers
with_signer s p = record { 0 = bit_or s.0 (2 ^ p) }

unfoldable pub signers_from : Signers → List ℕ → Signers
signers_from s [] = s
signers_from s (p ∷ ps) = signers_from (with_signer s p) ps

unfoldable pub signers_of : List ℕ → Signers
signers_of ps = signers_from no_signers ps

unfoldable pub weight_of : List ℕ → Signers → ℕ
weight_of m s = stake_in m (words s)

-- ---- a list of places

unfoldable pub member : ℕ → List ℕ → Bool
member p [] = false
member p (q ∷ ps) = eqb p q || member p ps

unfoldable pub stake_on : List ℕ → List ℕ → ℕ
stake_on m [] = 0
stake_on m (p ∷ ps) = stake_of m p + stake_on m ps

unfoldable pub shared : List ℕ → List ℕ → List ℕ
shared [] qs = []
shared (p ∷ ps) qs = cond (member p qs) (p ∷ shared ps qs) (shared ps qs)
