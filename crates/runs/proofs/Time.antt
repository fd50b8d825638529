-- The stages of a course by number. Past its last stage a course goes on with records that are refused and change nothing, so that every number is a moment. Assumes nothing.
--     idle, step-idle, idle-bad     such a record, that it changes nothing, and that it is of no kind
--     at w es i, ev es i, gives     the world that moment i finds, its event, what it gives
--     at_zero, at_next              the first, and the next
--     at-past, ev-past              by what came before
--     Split, split                  and back: a moment has a stage of the course, or is idle
--     gives-past                    a moment is the same in a course that goes on
--     outs-at, outs-find            what a moment writes is written, and what is written a moment writes
--     gathered-all                  all that is delivered, moment by moment
use Prim.Native.Nat.{ℕ, zero, suc, ◌<◌}
use mathlib.Core.Bool.{Bool, false}
use mathlib.Core.List.{List, [], ◌∷◌, ◌++◌, append_assoc, append-nil}
use mathlib.Core.Logic.{◌⊎◌, inl, inr, ⊎_elim}
use mathlib.Core.Path.{◌≡◌, refl, sym, ap, ◌∙◌}
use native.Mathlib.Omega.{arith}
use lib.ListN.{length}
use Rattle.std.specs.Prelude.{None}
use Rattle.certificates.specs.Error.{bad_record}
use Rattle.trace.specs.Form.{form_of}
use Rattle.trace.proofs.Forms.{form-short}
use Rattle.outputs.specs.Records.{Rec}
use Rattle.replica.specs.Step.{World, Result, refused_in}
use Rattle.replica.proofs.Theorems.{bad-record}
use Rattle.runs.specs.Runs.{step_on, Written, only}
use Rattle.runs.specs.Courses.{Stage, leaves, next, world_after, outs_of}
use Rattle.runs.proofs.Lists.{written_none, only-append, written-front, written_behind, written_either}
use Rattle.runs.specs.Lives.{gathered}

abbrev pub idle : Stage
idle = record { event = record { room = 0; bytes = [] }; cut = false }

pub step-idle : (w : World) → step_on w idle.event ≡ refused_in bad_record w
step-idle w = bad-record w 0 [] (sym (form-short [] (omega arith)))

-- it is of no kind
pub idle-bad : (e : Stage) → e ≡ idle → form_of e.event.bytes ≡ None
idle-bad e z = ap (λ (x : Stage). form_of x.event.bytes) z ∙ sym (form-short [] (omega arith))

unfoldable pub at : World → List Stage → ℕ → World
at w [] i = w
at w (e ∷ es) zero = w
at w (e ∷ es) (suc i) = at (next w e) es i

unfoldable pub ev : List Stage → ℕ → Stage
ev [] i = idle
ev (e ∷ es) zero = e
ev (e ∷ es) (suc i) = ev es i

abbrev pub gives : World → List Stage → ℕ → Result
gives w es i = step_on (at w es i) (ev es i).event

pub at_zero : (w : World) (es : List Stage) → at w es 0 ≡ w
unfolding at
at_zero w [] = refl
at_zero w (e ∷ es) = refl

pub at_next : (w : World) (es : List Stage) (i : ℕ) → at w es (suc i) ≡ leaves (ev es i) (gives w es i).world
unfolding at ev
at_next w [] i = sym (ap (λ (x : Result). x.world) (step-idle w))
at_next w (e ∷ es) zero = at_zero (next w e) es
at_next w (e ∷ es) (suc i) = at_next (next w e) es i

pub at-past : (w : World) (past rest : List Stage) → at w (past ++ rest) (length past) ≡ world_after w past
unfolding at world_after
at-past w [] rest = at_zero w rest
at-past w (e ∷ past) rest = at-past (next w e) past rest

pub ev-past : (past : List Stage) (e : Stage) (rest : List Stage) → ev (past ++ (e ∷ rest)) (length past) ≡ e
unfolding ev
ev-past [] e rest = refl
ev-past (x ∷ past) e rest = ev-past past e rest

pub record Split (w : World) (es : List Stage) (i : ℕ) : Type 0 where
  pub past : List Stage
  pub rest : List Stage
  pub is : es ≡ past ++ (ev es i ∷ rest)
  pub world : world_after w past ≡ at w es i
  pub long : length past ≡ i

pub split : (w : World) (es : List Stage) (i : ℕ) → Split w es i ⊎ (ev es i ≡ idle)
unfolding at ev world_after
split w [] i = inr refl
split w (e ∷ es) zero = inl (record { past = []; rest = es; is = refl; world = refl; long = refl })
split w (e ∷ es) (suc i) =
    ⊎_elim
    (λ s. inl (record { past = e ∷ s.past; rest = s.rest; is = ap (λ (l : List Stage). e ∷ l) s.is; world = s.world; long = ap suc s.long }))
    (λ z. inr z)
    (split (next w e) es i)

-- a moment is the same in a course that goes on
pub gives-past : (w : World) (past rest : List Stage) (i : ℕ) → i < length past → gives w (past ++ rest) i ≡ gives w past i
unfolding at ev
gives-past w [] rest i l = absurd (omega arith)
gives-past w (e ∷ past) rest zero l = refl
gives-past w (e ∷ past) rest (suc i) l = gives-past (next w e) past rest i (omega arith)

-- ---- what is written

pub outs-at : {a : Rec} (w : World) (es : List Stage) (i : ℕ) → Written a (gives w es i).outs → Written a (outs_of w es)
unfolding at ev outs_of
outs-at w [] i v = absurd (written_none (rw (step-idle w) at v))
outs-at w (e ∷ es) zero v = written-front (outs_of (next w e) es) v
outs-at w (e ∷ es) (suc i) v = written_behind (step_on w e.event).outs (outs-at (next w e) es i v)

-- what is written by then, a moment before then writes
pub outs-find : {a : Rec} (w : World) (past rest : List Stage) → Written a (outs_of w past) → (i : ℕ) × (i < length past) × Written a (gives w (past ++ rest) i).outs
unfolding at ev outs_of
outs-find w [] rest v = absurd (written_none v)
outs-find {a = a} w (e ∷ past) rest v =
    ⊎_elim
    (λ u. (0, omega arith, u))
    (λ u. let f : (i : ℕ) × (i < length past) × Written a (gives (next w e) (past ++ rest) i).outs = outs-find {a = a} (next w e) past rest u in (suc f.0, omega arith, f.2))
    (written_either (step_on w e.event).outs (outs_of (next w e) past) v)

-- ---- all that is delivered

pub gathered-first : {A : Type 0} (f : ℕ → List A) (n : ℕ) → gathered f (suc n) ≡ f 0 ++ gathered (λ (i : ℕ). f (suc i)) n
unfolding gathered
gathered-first f zero = sym (append-nil (f 0))
gathered-first f (suc n) = rw (gathered-first f n) (append_assoc (f 0) (gathered (λ (i : ℕ). f (suc i)) n) (f (suc n)))

pub gathered-same : {A : Type 0} (f g : ℕ → List A) (n : ℕ) → ((i : ℕ) → i < n → f i ≡ g i) → gathered f n ≡ gathered g n
unfolding gathered
gathered-same f g zero h = refl
gathered-same f g (suc n) h = rw (gathered-same f g n (λ i l. h i (omega arith)), h n (omega arith)) refl

pub gathered-all : (p : Rec → Bool) (w : World) (es : List Stage) → only p (outs_of w es) ≡ gathered (λ (i : ℕ). only p (gives w es i).outs) (length es)
unfolding at ev outs_of only gathered
gathered-all p w [] = refl
gathered-all p w (e ∷ es) =
    only-append p (step_on w e.event).outs (outs_of (next w e) es)
    ∙ ap (λ (l : List Rec). only p (step_on w e.event).outs ++ l) (gathered-all p (next w e) es)
    ∙ sym (gathered-first (λ (i : ℕ). only p (gives w (e ∷ es) i).outs) (length es))
