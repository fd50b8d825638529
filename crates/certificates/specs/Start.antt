-- 01, The trace form: START's body is "count 2, own place 2, then key 32 and stake 4 each". Bytes past the end read as 0.
--     members_at member_len key_len  where the first member is, how long a member is, and how long its key
--     member_count body    the count
--     own_place body       the own place
--     stakes_in body       the stakes, as many as the count says
--     key_at body at       the key at a place, as a list of bytes
--     keys_from n body at  n keys, of which the first is at a place
--     keys_in body         the keys, as many as the count says
--     below k l            whether key k is strictly before key l by bytes: the first byte that differs decides
--     same_word body x y left    whether the next 8 of so many bytes that are left lie in the body at both places, and are the same
--     ascending ks         whether each key is below the next
--     setup_at body        the total where the body keeps 01's limits, else `None`
--     padded n xs          the first n of a list, with 0 where it has ended
--     loaded_stakes n body  n stakes by place: the members', then 0
use Rattle.std.specs.Prelude.{ℕ, zero, suc, ◌+◌, List, [], ◌∷◌, Bool, true, false, cond, eqb, ltb, leb, length, Option, None}
use Rattle.certificates.specs.declared.numbers.Stake.{Stake}
use Rattle.certificates.specs.Num.{num_at, nums_at}
use Rattle.certificates.specs.Config.{setup_of}

abbrev pub members_at : ℕ
members_at = 4

abbrev pub member_len : ℕ
member_len = 36

abbrev pub key_len : ℕ
key_len = 32

unfoldable pub member_count : List ℕ → ℕ
member_count body = num_at 2 body 0

unfoldable pub own_place : List ℕ → ℕ
own_place body = num_at 2 body 2

unfoldable pub stakes_in : List ℕ → List ℕ
stakes_in body = nums_at 4 member_len (member_count body) body (members_at + key_len)

unfoldable pub key_at : List ℕ → ℕ → List ℕ
key_at body at = nums_at 1 1 key_len body at

unfoldable pub keys_from : ℕ → List ℕ → ℕ → List (List ℕ)
keys_from zero body at = []
keys_from (suc n) body at = key_at body at ∷ keys_from n body (at + member_len)

unfoldable pub keys_in : List ℕ → List (List ℕ)
keys_in body = keys_from (member_count body) body members_at

-- "keys as ordered by bytes"
unfoldable pub below : List ℕ → List ℕ → Bool
below [] [] = false
below [] (y ∷ ys) = true
below (x ∷ xs) [] = false
below (x ∷ xs) (y ∷ ys) = cond (ltb x y) true (cond (ltb y x) false (below xs ys))

-- what the code passes over at a time: words that are the same decide nothing
abbrev pub word_len : ℕ
word_len = 8

unfoldable pub same_word : List ℕ → ℕ → ℕ → ℕ → Bool
same_word body x y left =
    cond (ltb left word_len) false
    (cond (leb (x + word_len) (length body)) (cond (leb (y + word_len) (length body)) (eqb (num_at word_len body x) (num_at word_len body y)) false) false)

-- "32-byte keys strictly ascending"
unfoldable pub ascending : List (List ℕ) → Bool
ascending [] = true
ascending (k ∷ []) = true
ascending (k ∷ l ∷ ks) = cond (below k l) (ascending (l ∷ ks)) false

-- "1 to 64 members, 32-byte keys strictly ascending, total stake at most 2^31-1, own place below the member count"
unfoldable pub setup_at : List ℕ → Option Stake
setup_at body = cond (ascending (keys_in body)) (cond (ltb (own_place body) (member_count body)) (setup_of (stakes_in body)) None) None

unfoldable pub padded : ℕ → List ℕ → List ℕ
padded zero xs = []
padded (suc n) [] = 0 ∷ padded n []
padded (suc n) (x ∷ xs) = x ∷ padded n xs

unfoldable pub loaded_stakes : ℕ → List ℕ → List ℕ
loaded_stakes n body = padded n (stakes_in body)
