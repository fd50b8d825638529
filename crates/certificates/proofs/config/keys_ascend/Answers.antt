-- `certificates::config::keys_ascend` meets its contract: a law for one more key, and for each way out. Assumes nothing.
use borrow.Author.Rules.{rules}
use Rattle.certificates.proofs.StartLaws.{ascended-more, ascended-not, ascended-all}
use Rattle.certificates.proofs.config.keys_ascend.Goals as goal

pub loop-i-preserved : goal.loop-i-preserved
loop-i-preserved c = search (rules, ascended-more)

pub returns-then-not-key_below : goal.returns-then-not-key_below
returns-then-not-key_below c = search (rules, ascended-not)

pub returns : goal.returns
returns c = search (rules, ascended-all)
