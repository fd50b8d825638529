-- `nickelhush::exports::nickelhush_record` meets its contract: a law for each way out.
-- Assumes nothing.
use Rattle.nickelhush.proofs.Laws.{at-end, at_cut, at_small, at-record}
use borrow.Author.Rules.{rules}
use Rattle.nickelhush.proofs.exports.nickelhush_record.Goals as goal

pub returns-in-End : goal.returns-in-End
returns-in-End c = search (rules, at-end)

pub returns-in-Cut : goal.returns-in-Cut
returns-in-Cut c = search (rules, at_cut)

pub returns-in-Small : goal.returns-in-Small
returns-in-Small c = search (rules, at_small)

pub returns-in-Record : goal.returns-in-Record
returns-in-Record c = search (rules, at-record)
