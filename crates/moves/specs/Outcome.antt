-- What a handler gives. A `Step` is a state and the records written on the way to it; an `Outcome` is a step with an answer.
--     quiet s, wrote s r     nothing written; one record written
--     and_then a f           f from the state that a leaves; what it writes comes after
--     done n a               the answer n, after the step a
--     after a f              the outcome f, after the step a: what a did stays, whatever f answers (a late refusal)
--     refused n s            the answer n, and nothing was done: an early refusal, or STALE
--     checked n s o          n is what the early checks answer: 0 goes on to o
-- And what code did, against such a definition:
--     Did k a ..             the step a was taken, and its records were written, in at most k bytes
--     Reached k o ..         the outcome o was reached
use Rattle.std.specs.Prelude.{ℕ, cond, List, [], ◌∷◌, ◌++◌, ◌≡◌, eqb}
use Rattle.outputs.specs.Records.{Rec}
use Rattle.outputs.specs.Put.{Wrote}
use Rattle.moves.specs.declared.state.Core.{Core}
use Rattle.certificates.specs.Error.{number}
use Rattle.moves.specs.declared.state.Ran.{Ran}
use Rattle.moves.specs.State.{State, whole}

pub record Step : Type 0 where
  pub state : State
  pub outs : List Rec

pub record Outcome : Type 0 where
  pub answer : ℕ
  pub left : Step

abbrev pub quiet : State → Step
quiet s = record { state = s; outs = [] }

abbrev pub wrote : State → Rec → Step
wrote s r = record { state = s; outs = r ∷ [] }

abbrev pub and_then : Step → (State → Step) → Step
and_then a f = record { state = (f a.state).state; outs = a.outs ++ (f a.state).outs }

abbrev pub done : ℕ → Step → Outcome
done n a = record { answer = n; left = a }

abbrev pub after : Step → (State → Outcome) → Outcome
after a f = done (f a.state).answer (and_then a (λ (t : State). (f t).left))

abbrev pub refused : ℕ → State → Outcome
refused n s = done n (quiet s)

abbrev pub checked : ℕ → State → Outcome → Outcome
checked n s o = cond (eqb n 0) o (refused n s)

-- ---- what code did, against a definition

pub record Did (k : ℕ) (a : Step) (before : List ℕ) (at : ℕ) (core : Core) (votes timeouts after : List ℕ) (next : ℕ) : Type 0 where
  pub state : whole core votes timeouts ≡ a.state
  pub bytes : Wrote k a.outs before at after next

pub record Reached (k : ℕ) (o : Outcome) (before : List ℕ) (at : ℕ) (r : Ran) (votes timeouts after : List ℕ) : Type 0 where
  pub answer : number r.answer ≡ o.answer
  pub did : Did k o.left before at r.core votes timeouts after r.at
