-- `certificates::config::load` meets its contract: a law for one more stake, and for all of them. Assumes nothing.
use borrow.Author.Rules.{rules}
use native.Mathlib.Omega.{arith}
use Rattle.certificates.proofs.StartLaws.{loaded-more, loaded-all}
use Rattle.certificates.proofs.config.load.Goals as goal

pub loop-i-preserved : goal.loop-i-preserved
loop-i-preserved c = search (rules, loaded-more)

pub returns : goal.returns
returns c = loaded-all c.loop-i.invariant (omega arith)
