-- What left of what a course wrote, where it was cut (02, W3: "If a cut falls before the save, none of that event's outputs left; after it, any leading part of them may
-- have left."). An event that was not saved stands in no course; of any other event that no cut follows, all left.
--     Leaves w ss ls      of what the stages ss write, from the world w on, the records ls left
--     LeftOf c ls         of what the course c wrote after START, ls left. START writes no COMMIT
--     Part xs ys          xs is ys with some left out
--     last_commit l ls    the round of the last COMMIT of the list ls, and l where there is none
--     Tells k l           at each restart the last COMMIT that left is of the image's last committed round; l is that of the last that left before
--     Within k l          at each restart it is not above it
use Rattle.std.specs.Prelude.{ℕ, ◌≤◌, true, false, List, [], ◌∷◌, ◌++◌, ◌≡◌}
use Rattle.outputs.specs.Records.{Rec, vote, timeout, tc, make, make_with, commit, sync, clean_proposer, clean_mempool, timer_reset, answer}
use Rattle.replica.specs.Step.{World}
use Rattle.runs.specs.Runs.{step_on, committed_of}
use Rattle.runs.specs.Courses.{Stage, next, Course, origin}

-- of an event's records the first ones left, and all where no cut follows
pub data Leaves : World → List Stage → List Rec → Type 0 where
  none : {w : World} → Leaves w [] []
  more : {w : World} {ss : List Stage} {ls : List Rec} (s : Stage) (front lost : List Rec) → (step_on w s.event).outs ≡ front ++ lost → (s.cut ≡ false → lost ≡ [])
      → Leaves (next w s) ss ls → Leaves w (s ∷ ss) (front ++ ls)

abbrev pub LeftOf : Course → List Rec → Type 0
LeftOf c ls = Leaves (origin c) c.stages ls

pub data Part : List Rec → List Rec → Type 0 where
  done : Part [] []
  keep : {xs ys : List Rec} (x : Rec) → Part xs ys → Part (x ∷ xs) (x ∷ ys)
  skip : {xs ys : List Rec} (y : Rec) → Part xs ys → Part xs (y ∷ ys)

unfoldable pub last_commit : ℕ → List Rec → ℕ
last_commit l [] = l
last_commit l (vote to hash round ∷ rs) = last_commit l rs
last_commit l (timeout round high ∷ rs) = last_commit l rs
last_commit l (tc round names highs ∷ rs) = last_commit l rs
last_commit l (make round high ∷ rs) = last_commit l rs
last_commit l (make_with round high of names highs ∷ rs) = last_commit l rs
last_commit l (commit digest round ∷ rs) = last_commit round rs
last_commit l (sync parent block author ∷ rs) = last_commit l rs
last_commit l (clean_proposer b0 b1 block ∷ rs) = last_commit l rs
last_commit l (clean_mempool round ∷ rs) = last_commit l rs
last_commit l (timer_reset ∷ rs) = last_commit l rs
last_commit l (answer n ∷ rs) = last_commit l rs

-- the image holds the last committed round of the world that is put back
unfoldable pub Tells : {w : World} {ss : List Stage} {ls : List Rec} → Leaves w ss ls → ℕ → Type 0
Tells none l = Unit {0}
Tells {w} (more s front lost e f k) l = (s.cut ≡ true → last_commit l front ≡ committed_of (next w s)) × Tells k (last_commit l front)

unfoldable pub Within : {w : World} {ss : List Stage} {ls : List Rec} → Leaves w ss ls → ℕ → Type 0
Within none l = Unit {0}
Within {w} (more s front lost e f k) l = (s.cut ≡ true → last_commit l front ≤ committed_of (next w s)) × Within k (last_commit l front)
