-- What bytes are left where, in words for the contracts of `input`, `output` and `serve`.
--     unread g buf            the bytes of the trace that were read and not taken
--     waiting s pack          the bytes of output that were not written yet
--     Kept g b h b'           what was unread is at the front of what is unread
--     Reads m n m' k          what n unread bytes were and k are, in the modes m and m'
--     Refills s b r b'        a read kept what was unread, and took what it brought off the limit
--     Flushes s r             what waited is gone
--     Delivers s o p n r p'   the first n bytes of o wait behind the others, or are what was expected
--     Passes s b r b'         the run goes on from s, and nothing unread is lost
use Rattle.std.specs.Prelude.{◌≡◌, ℕ, ◌+◌, ◌-◌, ◌≤◌, cond, List, ◌++◌, leb, length, take, drop}
use Rattle.turns.specs.declared.turn.Run.{Run}
use Rattle.serving.specs.declared.state.Serving.{Serving}
use Rattle.serving.specs.declared.state.Mode.{Mode}
use Rattle.serving.specs.declared.state.Mode.TheVariants.{Write, File, Part}
use Rattle.serving.specs.declared.state.Why.TheVariants.{Ended}
use Rattle.serving.specs.State.{rank}

abbrev pub unread : Run → List ℕ → List ℕ
unread g buf = take (g.have - g.at) (drop g.at buf)

abbrev pub waiting : Serving → List ℕ → List ℕ
waiting s pack = take s.held pack

-- the replica is as it was, and what was unread is at the front of what is unread
pub record Kept (g : Run) (before : List ℕ) (h : Run) (after : List ℕ) : Type 0 where
  pub seat : h.seat ≡ g.seat
  pub core : h.core ≡ g.core
  pub front : take (length (unread g before)) (unread h after) ≡ unread g before

-- what is done with the output stays; of a part, what is unread and what is left of the input are as many bytes together
abbrev pub Reads : Mode → ℕ → Mode → ℕ → Type 0
Reads Write n m k = m ≡ Write
Reads File n m k = m ≡ File
Reads (Part left due) n m k = (l : ℕ) × (m ≡ Part l due) × (k + l ≡ n + left)

pub record Refills (s : Serving) (before : List ℕ) (r : Serving) (after : List ℕ) : Type 0 where
  pub turns : r.turns ≤ s.turns
  pub mode : Reads s.mode (s.run.have - s.run.at) r.mode (r.run.have - r.run.at)
  pub kept : Kept s.run before r.run after

pub record Flushes (s r : Serving) : Type 0 where
  pub turns : r.turns ≤ s.turns
  pub run : r.run ≡ s.run
  pub mode : r.mode ≡ s.mode
  pub gone : rank r.why ≤ rank Ended → r.held ≡ 0

pub record Delivers (s : Serving) (out before : List ℕ) (n : ℕ) (r : Serving) (after : List ℕ) : Type 0 where
  pub turns : r.turns ≤ s.turns
  pub run : r.run ≡ s.run
  pub waits : s.mode ≡ Write → rank r.why ≤ rank Ended → waiting r after ≡ cond (leb (s.held + n) (length before)) (waiting s before ++ take n out) (take n out)
  pub expected : (s.mode ≡ Write → ⊥) → rank r.why ≤ rank Ended → take n after ≡ take n out

pub record Passes (s : Serving) (before : List ℕ) (r : Serving) (after : List ℕ) : Type 0 where
  pub turns : r.turns ≤ s.turns
  pub kept : Kept s.run before r.run after
