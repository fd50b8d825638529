-- `certificates::config::sum_in` meets its contract: a law for none, for one more stake, and for all of them. Assumes nothing.
use native.Mathlib.Omega.{arith}
use mathlib.Core.Path.{◌∙◌, sym}
use Rattle.certificates.specs.Start.{stakes_in}
use Rattle.certificates.proofs.ConfigLaws.{summed-none, summed-more, summed-all, stake-at}
use Rattle.certificates.proofs.StartLaws.{length-stakes}
use Rattle.certificates.proofs.config.sum_in.Goals as goal

pub loop-i-init : goal.loop-i-init
loop-i-init c = (omega arith, summed-none _)

pub loop-i-preserved : goal.loop-i-preserved
loop-i-preserved c =
    let body = c.args.body.now in
    (omega arith, summed-more c.loop-i.invariant.1 (omega (arith, length-stakes body)) _ (c.from-sum.ensures ∙ c.stake_in.ensures ∙ sym (stake-at (stakes_in body) c.loop-i.i)))

pub returns : goal.returns
returns c = summed-all c.loop-i.invariant.1 (omega (arith, length-stakes c.args.body.now))
