-- The form of a record, by its length. Assumes nothing.
use mathlib.Core.Path.{◌≡◌}
use mathlib.Core.List.{List}
use Rattle.std.specs.Prelude.{None}
use Prim.Native.Nat.{ℕ, ◌<◌}
use lib.ListN.{length}
use borrow.Author.Tests.{lt-ltb}
use Rattle.trace.specs.Form.{form_of}

-- a record too short for a kind has no form
pub form-short : (s : List ℕ) → length s < 2 → None ≡ form_of s
unfolding form_of
form-short s h = rw (lt-ltb _ _ h)
