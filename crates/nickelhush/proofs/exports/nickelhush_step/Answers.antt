-- `nickelhush::exports::nickelhush_step` meets its contract: a law for each way out.
use mathlib.Core.Path.{sym, ◌∙◌}
use Rattle.nickelhush.proofs.Laws.{ready-has, step_small, host-left, host-refused}
use Rattle.nickelhush.proofs.exports.nickelhush_step.Goals as goal

pub seat_in-s-requires : goal.seat_in-s-requires
seat_in-s-requires c = (ready-has _ _ _ (rw c.form_of-kind.ensures at (sym c.is_ready.ensures ∙ c.if-is_ready.true))).seat-long

pub core_in-c-requires : goal.core_in-c-requires
core_in-c-requires c = (ready-has _ _ _ (rw c.form_of-kind.ensures at (sym c.is_ready.ensures ∙ c.if-is_ready.true))).core-long

pub keep-requires : goal.keep-requires
keep-requires c =
    let fit = ready-has _ _ _ (rw c.form_of-kind.ensures at (sym c.is_ready.ensures ∙ c.if-is_ready.true)) in (
      fit.seat-long,
      fit.core-long,
      step_small c.args.seat.now c.args.core.now c.args.stakes.now c.args.votes.now c.args.timeouts.now c.args.table.now c.args.out.now c.args.input.now
          c.seat_in-s.ensures c.core_in-c.ensures c.step-r.result c.step-r.new.stakes c.step-r.new.votes c.step-r.new.timeouts c.step-r.new.table c.step-r.new.out
          c.step-r.ensures.0 c.step-r.ensures.1,
    )

pub returns-then-is_ready : goal.returns-then-is_ready
returns-then-is_ready c =
    host-left c.args.seat.now c.args.core.now c.args.stakes.now c.args.votes.now c.args.timeouts.now c.args.table.now c.args.out.now c.args.input.now
    c.seat_in-s.ensures c.core_in-c.ensures c.step-r.result c.step-r.new.stakes c.step-r.new.votes c.step-r.new.timeouts c.step-r.new.table c.step-r.new.out
    c.step-r.ensures.0 (rw c.form_of-kind.ensures at (sym c.is_ready.ensures ∙ c.if-is_ready.true)) c.keep.ensures

pub returns : goal.returns
returns c =
    host-refused c.args.seat.now c.args.core.now c.args.stakes.now c.args.votes.now c.args.timeouts.now c.args.table.now c.args.out.now c.args.input.now
    (rw c.form_of-kind.ensures at (sym c.is_ready.ensures ∙ c.if-is_ready.false)) (rw c.form_of-kind.ensures at c.refuse.ensures)
