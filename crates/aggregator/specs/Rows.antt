-- A table that lies in one list, row after row, each w numbers wide. Nothing here knows what a row means.
--     zeros n              n zeros
--     row w v i            row i; what there is of it where the list ends before
--     with_row w v i r     the table with the numbers of r in the place of row i
--     lowest p w v n i     the lowest of the n rows from row i on that passes the test p; None if none does
--     map_rows f w n v     the table with f applied to each of the first n rows
--     FoundAs f n r        r is what was to be found, f, and if that is a row it is one of the first n
use Rattle.std.specs.Prelude.{ℕ, zero, suc, ◌*◌, ◌<◌, Bool, cond, Option, Some, None, List, ◌++◌, ◌≡◌, take, drop, replicate}

abbrev pub zeros : ℕ → List ℕ
zeros n = replicate n 0

abbrev pub row : ℕ → List ℕ → ℕ → List ℕ
row w v i = take w (drop (i * w) v)

abbrev pub with_row : ℕ → List ℕ → ℕ → List ℕ → List ℕ
with_row w v i r = take (i * w) v ++ (r ++ drop w (drop (i * w) v))

abbrev pub lowest : (List ℕ → Bool) → ℕ → List ℕ → ℕ → ℕ → Option ℕ
lowest p w v zero i = None
lowest p w v (suc n) i = cond (p (row w v i)) (Some i) (lowest p w v n (suc i))

abbrev pub map_rows : (List ℕ → List ℕ) → ℕ → ℕ → List ℕ → List ℕ
map_rows f w zero v = v
map_rows f w (suc n) v = f (take w v) ++ map_rows f w n (drop w v)

pub record FoundAs (f : Option ℕ) (n : ℕ) (r : Option ℕ) : Type 0 where
  pub is : r ≡ f
  pub below : (i : ℕ) → r ≡ Some i → i < n
