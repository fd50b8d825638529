-- Parts of a list of bytes.
--     between a e s     the bytes from a up to e, e not included: fewer where s ends before e, none where a is not below e
use Rattle.std.specs.Prelude.{ℕ, ◌-◌, List, take, drop}

abbrev pub between : ℕ → ℕ → List ℕ → List ℕ
between a e s = take (e - a) (drop a s)
