-- `owned::step::step` meets its contract: the parts of an event, one after the other, are the definition (`HandedLaws`).
use Rattle.owned.proofs.HandedLaws.{ask-room, close-needs, handed-left, handed-room}
use Rattle.owned.proofs.step.step.Goals as goal

pub settle-s-requires : goal.settle-s-requires
settle-s-requires c =
    ask-room c.args.r c.args.table.now c.args.out.now c.args.input.now c.len_of-slots.result c.len_of-slots.ensures c.open-o.ensures c.ask-w.ensures

pub close-requires : goal.close-requires
close-requires c =
    close-needs c.args.r c.args.table.now c.args.out.now c.args.input.now c.len_of-slots.result c.len_of-slots.ensures c.open-o.ensures c.ask-w.ensures c.settle-s.ensures

pub returns : goal.returns
returns c = (
  handed-left c.args.r c.args.table.now c.args.out.now c.args.input.now c.len_of-slots.result c.len_of-slots.ensures c.open-o.ensures c.ask-w.ensures c.settle-s.ensures c.close.ensures,
  handed-room c.args.r c.args.table.now c.args.out.now c.args.input.now c.len_of-slots.result c.len_of-slots.ensures c.open-o.ensures c.ask-w.ensures c.settle-s.ensures c.close.ensures,
)
