-- `certificates::config::key_below` meets its contract: a law for none, for a word that is passed, for a byte, and for each way out. Assumes nothing.
use borrow.Author.Rules.{rules}
use native.Mathlib.Omega.{arith}
use Rattle.certificates.proofs.StartLaws.{PassedWord, compared-word, compared-none, compared-other, compared_same, compared-all}
use Rattle.certificates.proofs.config.key_below.Goals as goal
use Rattle.certificates.proofs.config.key_below.Goals.{In-loop-same}

pub loop-same-init : goal.loop-same-init
loop-same-init c = (omega arith, compared-none _ _ _)

-- eight bytes are passed
passed : (c : In-loop-same) → PassedWord c.args.body.now c.args.a c.args.b c.loop-same.same
passed c =
    compared-word c.args.body.now (λ i. omega (arith, c.type_inv.body i))
    c.loop-same.invariant.1 c.is_word_same.ensures c.loop-same-test.true

pub loop-same-smaller : goal.loop-same-smaller
loop-same-smaller c = omega (arith, (passed c).long)

pub loop-same-preserved : goal.loop-same-preserved
loop-same-preserved c = ((passed c).long, (passed c).next)

pub returns-then-u-v : goal.returns-then-u-v
returns-then-u-v c = search (rules, compared-other)

pub loop-i-preserved : goal.loop-i-preserved
loop-i-preserved c = search (rules, compared_same)

pub returns : goal.returns
returns c = search (rules, compared-all)
