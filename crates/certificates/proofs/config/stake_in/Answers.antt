-- `certificates::config::stake_in` meets its contract: a law for each way out. Assumes nothing.
use borrow.Author.Rules.{rules}
use Rattle.certificates.proofs.StartLaws.{stakes-at, stakes-past}
use Rattle.certificates.proofs.config.stake_in.Goals as goal

pub returns-then-i-member_count : goal.returns-then-i-member_count
returns-then-i-member_count c = search (rules, stakes-at)

pub returns-else-i-member_count : goal.returns-else-i-member_count
returns-else-i-member_count c = search (rules, stakes-past)
