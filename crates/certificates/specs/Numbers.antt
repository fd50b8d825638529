-- Hashes and rounds. A hash of 32 bytes is four numbers of 8 bytes.
--     zero_hash       the 32 zero bytes
--     same_hash x y   whether two hashes are the same, which is what `==` computes
--     round_max       the highest round
use Rattle.std.specs.Prelude.{ℕ, ◌^◌, Bool, ◌&&◌, eqb}
use Rattle.certificates.specs.declared.numbers.Hash.{Hash}

abbrev pub zero_hash : Hash
zero_hash = record { a = 0; b = 0; c = 0; d = 0 }

abbrev pub same_hash : Hash → Hash → Bool
same_hash x y = eqb x.a y.a && (eqb x.b y.b && (eqb x.c y.c && eqb x.d y.d))

-- "any round in the record above 2^62"
abbrev pub round_max : ℕ
round_max = 2 ^ 62
