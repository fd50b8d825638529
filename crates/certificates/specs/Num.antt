-- Little-endian numbers and hashes in a list of bytes.
--     le s             the number whose bytes these are, the lowest first
--     bytes_at w s at  the w bytes from `at` on; zeros where they do not all lie in s
--     num_at w s at    the number in the w bytes from `at` on; 0 where they do not all lie in s
--     hash_at s at     the hash in the 32 bytes from `at` on; zeros where they do not all lie in s
--     nums_at w k n s at   the numbers of w bytes that n entries of k bytes from `at` on begin with
use Rattle.std.specs.Prelude.{ℕ, zero, suc, ◌+◌, ◌*◌, cond, List, [], ◌∷◌, length, take, drop, replicate, leb}
use Rattle.certificates.specs.declared.numbers.Hash.{Hash}
use Rattle.certificates.specs.Numbers.{zero_hash}

unfoldable pub le : List ℕ → ℕ
le [] = 0
le (x ∷ xs) = x + 256 * le xs

unfoldable pub bytes_at : ℕ → List ℕ → ℕ → List ℕ
bytes_at w s at = cond (leb (at + w) (length s)) (take w (drop at s)) (replicate w 0)

unfoldable pub num_at : ℕ → List ℕ → ℕ → ℕ
num_at w s at = cond (leb (at + w) (length s)) (le (take w (drop at s))) 0

abbrev pub hash_in : List ℕ → ℕ → Hash
hash_in s at =
    record {
      a = le (take 8 (drop at s));
      b = le (take 8 (drop (at + 8) s));
      c = le (take 8 (drop (at + 16) s));
      d = le (take 8 (drop (at + 24) s));
    }

unfoldable pub hash_at : List ℕ → ℕ → Hash
hash_at s at = cond (leb (at + 32) (length s)) (hash_in s at) zero_hash

unfoldable pub nums_at : ℕ → ℕ → ℕ → List ℕ → ℕ → List ℕ
nums_at w k zero s at = []
nums_at w k (suc n) s at = num_at w s at ∷ nums_at w k n s (at + k)
