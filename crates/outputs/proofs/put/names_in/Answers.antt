-- `outputs::put::names_in` meets its contract: a word of 64 bits has at most 64 ones.
-- Assumes nothing.
use native.Mathlib.Omega.{arith}
use mathlib.Core.Path.{refl}
use Rattle.outputs.proofs.Places.{ones-most}
use Rattle.outputs.proofs.put.names_in.Goals as goal

pub overflow_cast-result : goal.overflow_cast-result
overflow_cast-result c = omega (arith, ones-most c.args.names.0 (omega arith))

pub returns : goal.returns
returns c = (refl, ones-most c.args.names.0 (omega arith))
