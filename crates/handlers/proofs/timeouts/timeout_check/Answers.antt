-- `handlers::timeouts::timeout_check` meets its contract: STALE, or what the author's check gives. Assumes nothing.
use borrow.Author.Rules.{rules}
use Rattle.handlers.proofs.TimeoutLaws.{timeout-stale, timeout-author}
use Rattle.handlers.proofs.timeouts.timeout_check.Goals as goal

pub returns-then-t-current : goal.returns-then-t-current
returns-then-t-current c = search (rules, timeout-stale)

pub returns : goal.returns
returns c = search (rules, timeout-author)

pub returns-in_err-check_author : goal.returns-in_err-check_author
returns-in_err-check_author c = search (rules, timeout-author)
