-- The fields of a record and their bytes. 01, The trace form: "All numbers little-endian."
--     digits w x       the lowest w bytes of x, the lowest first
--     hash_bytes h     the 32 bytes of a hash
--     Field            a number of some width, or a hash
--     field_bytes f    the bytes of a field
--     bytes_of fs      the bytes of several fields, one after the other
use Rattle.std.specs.Prelude.{ℕ, zero, suc, ◌/◌, ◌%◌, List, [], ◌∷◌, ◌++◌}
use Rattle.certificates.specs.declared.numbers.Hash.{Hash}

unfoldable pub digits : ℕ → ℕ → List ℕ
digits zero x = []
digits (suc w) x = x % 256 ∷ digits w (x / 256)

unfoldable pub hash_bytes : Hash → List ℕ
hash_bytes h = digits 8 h.a ++ (digits 8 h.b ++ (digits 8 h.c ++ digits 8 h.d))

pub data Field : Type 0 where
  -- a width and a value
  number : ℕ → ℕ → Field
  hash : Hash → Field

abbrev pub field_bytes : Field → List ℕ
field_bytes (number w x) = digits w x
field_bytes (hash h) = hash_bytes h

unfoldable pub bytes_of : List Field → List ℕ
bytes_of [] = []
bytes_of (f ∷ fs) = field_bytes f ++ bytes_of fs
