-- `turns::turn::close` meets its contract: a law for each way out.
-- Assumes nothing.
use Rattle.turns.proofs.Closings.{not_more, is_more, close_more, close-small, close-full, close-answers}
use Rattle.turns.proofs.turn.close.Goals as goal
use Rattle.turns.proofs.turn.close.Goals.{else-ne-via-then-ne+then-out-ge-ANSWER_SIZE+else-s-out, else-ne-via-then-ne+else-out-ge-ANSWER_SIZE, else-ne-via-else-ne}

pub returns-then-s-out : goal.returns-then-s-out
returns-then-s-out c = close-answers _ _ _ _ (not_more _ c.if-ne.ensures) c.if-out-ge-ANSWER_SIZE.true c.if-s-out.true c.number.ensures c.put_answer-written.ensures

pub returns : goal.returns
returns c =
    elim c.else-ne.branch [
      | else-ne-via-then-ne+then-out-ge-ANSWER_SIZE+else-s-out w ↦ close-full _ _ _ _ (not_more _ w.if-ne.ensures) w.if-out-ge-ANSWER_SIZE.true w.if-s-out.false
      | else-ne-via-then-ne+else-out-ge-ANSWER_SIZE w ↦ close-small _ _ _ _ (not_more _ w.if-ne.ensures) w.if-out-ge-ANSWER_SIZE.false
      | else-ne-via-else-ne w ↦ close_more _ _ _ _ (is_more _ w.if-ne.ensures)
    ]
