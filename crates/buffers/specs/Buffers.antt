-- What the contracts of `buffers` cite.
--     Alike a b n i      a and b have the first i bytes in common, of n, and no more
--     common a b         how many bytes at the front of a and b are equal
--     mixed h x          the sum h after one more byte
--     sum_of h s         the sum h after the bytes of s
--     large              the bytes of a buffer for a loop that moves many
use Rattle.std.specs.Prelude.{◌≡◌, ℕ, ◌+◌, ◌*◌, ◌%◌, ◌≤◌, ◌<◌, List, [], ◌∷◌, take, get_or, nat_eq}
use Rattle.std.specs.List.{prefix_len, zip}

pub record Alike (a b : List ℕ) (n i : ℕ) : Type 0 where
  pub most : i ≤ n
  pub same : take i a ≡ take i b
  pub next : i < n → get_or a i 0 ≡ get_or b i 0 → ⊥

abbrev pub common : List ℕ → List ℕ → ℕ
common a b = prefix_len (λ p. nat_eq p.0 p.1) (zip a b)

-- the largest prime below 2^32: every byte, and every place of it, shows in the sum
unfoldable pub mixed : ℕ → ℕ → ℕ
mixed h x = (h * 257 + x + 1) % 4294967291

unfoldable pub sum_of : ℕ → List ℕ → ℕ
sum_of h [] = h
sum_of h (x ∷ s) = sum_of (mixed h x) s

abbrev pub large : ℕ
large = 65536
