-- Laws of a run by value. Assumes nothing.
use Rattle.std.proofs.Common.{◌≡◌, refl, sym, ◌≤◌, Bool, true, false, cond, arith}
use lib.Dec.{ltb}
use borrow.Author.Tests.{ltb-false}
use Rattle.serving.specs.declared.state.Why.{Why}
use Rattle.serving.specs.declared.state.Serving.{Serving}
use Rattle.serving.specs.State.{rank, ended_by}

-- the reason for which a run ended ranks at least as high
at_least : (w v : Why) (b : Bool) → b ≡ ltb (rank w) (rank v) → rank v ≤ rank (cond b v w)
at_least w v true e = omega arith
at_least w v false e = ltb-false _ _ (sym e)

pub ended-at-least : (s : Serving) (w : Why) → rank w ≤ rank (ended_by s w).why
ended-at-least s w = at_least s.why w (ltb (rank s.why) (rank w)) refl
