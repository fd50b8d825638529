-- `nickelhush::exports::nickelhush_room` meets its contract: a law for each way out.
-- Assumes nothing.
use Rattle.nickelhush.proofs.Laws.{room-none, room-many, room_by}
use borrow.Author.Rules.{rules}
use Rattle.nickelhush.proofs.exports.nickelhush_room.Goals as goal

pub returns-then-slots-eq0 : goal.returns-then-slots-eq0
returns-then-slots-eq0 c = search (rules, room-none)

pub returns-then-slots-gt-SLOTS_MAX : goal.returns-then-slots-gt-SLOTS_MAX
returns-then-slots-gt-SLOTS_MAX c = search (rules, room-many)

pub returns : goal.returns
returns c = search (rules, room_by)
