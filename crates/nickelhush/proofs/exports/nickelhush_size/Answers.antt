-- `nickelhush::exports::nickelhush_size` meets its contract: each arm is a place of the list of sizes.
-- Assumes nothing.
use Rattle.nickelhush.proofs.Laws.{size_is, size_none}
use borrow.Author.Rules.{rules}
use Rattle.nickelhush.proofs.exports.nickelhush_size.Goals as goal

pub returns-in-0 : goal.returns-in-0
returns-in-0 c = search (rules, size_is)

pub returns-in-1 : goal.returns-in-1
returns-in-1 c = search (rules, size_is)

pub returns-in-2 : goal.returns-in-2
returns-in-2 c = search (rules, size_is)

pub returns-in-3 : goal.returns-in-3
returns-in-3 c = search (rules, size_is)

pub returns-in-4 : goal.returns-in-4
returns-in-4 c = search (rules, size_is)

pub returns-in-5 : goal.returns-in-5
returns-in-5 c = search (rules, size_is)

pub returns-in-6 : goal.returns-in-6
returns-in-6 c = search (rules, size_is)

pub returns-in_default : goal.returns-in_default
returns-in_default c = search (rules, size_none)
