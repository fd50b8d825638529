-- What a reader of a layout finds: the definitions of reads are those of `certificates`.
--     Sized fs          each number of fs fits its width
--     Read s at fs      the fields that are read from s one after the other, from `at` on, are fs
use Rattle.std.specs.Prelude.{ℕ, ◌+◌, ◌^◌, ◌<◌, ◌≡◌, List, [], ◌∷◌}
use Rattle.certificates.specs.declared.numbers.Hash.{Hash}
use Rattle.certificates.specs.Num.{num_at, hash_at}
use Rattle.outputs.specs.Fields.{Field, number, hash}

pub record WholeHash (h : Hash) : Type 0 where
  pub a : h.a < 256 ^ 8
  pub b : h.b < 256 ^ 8
  pub c : h.c < 256 ^ 8
  pub d : h.d < 256 ^ 8

abbrev pub Sized : List Field → Type 0
Sized [] = Unit {0}
Sized (number w x ∷ fs) = (x < 256 ^ w) × Sized fs
Sized (hash h ∷ fs) = WholeHash h × Sized fs

abbrev pub Read : List ℕ → ℕ → List Field → Type 0
Read s at [] = Unit {0}
Read s at (number w x ∷ fs) = (num_at w s at ≡ x) × Read s (at + w) fs
Read s at (hash h ∷ fs) = (hash_at s at ≡ h) × Read s (at + 32) fs
