-- That a record to be answered ends in the trace. Assumes nothing.
use mathlib.Core.Path.{◌≡◌, refl, sym, ◌∙◌, subst}
use mathlib.Core.List.{List}
use Prim.Native.Nat.{ℕ, ◌≤◌}
use lib.ListN.{length}
use Rattle.trace.specs.Record.{split_of}
use Rattle.trace.specs.declared.record.Front.{Front}
use Rattle.trace.specs.declared.record.Front.TheVariants.{End, Cut, Small, Record}
use Rattle.trace.proofs.FrontLaws.{Bounds, front-bounds}
use Rattle.std.specs.Prelude.{Option, Some, None}
use Rattle.forms.specs.declared.Answered.{Answered}
use Rattle.forms.specs.Numbers.{by_front, answer_of}

abbrev Within : Option Answered → ℕ → Type 0
Within None n = Unit
Within (Some a) n = (2 ≤ a.end) × (a.end ≤ n)

front-within : (f : Front) (s : List ℕ) → Bounds f (length s) → Within (by_front f s) (length s)
front-within End s b = tt
front-within Cut s b = tt
front-within (Small end) s b = b
front-within (Record kind end) s b = b

-- a record that is answered has 2 bytes or more, and ends in the trace
pub answer-within : (s : List ℕ) {f : Option Answered} {a : Answered} → f ≡ answer_of s → f ≡ Some a → (2 ≤ a.end) × (a.end ≤ length s)
unfolding answer_of
answer-within s p q =
    subst (λ (f : Option Answered). Within f (length s)) (sym p ∙ q) (front-within (split_of s) s (front-bounds s (split_of s) refl))
