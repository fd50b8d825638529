-- What an event keeps, signs and delivers. Assumes nothing.
--     Stays total s s'         the tables are as long as they were, no used tally becomes heavier than the total, neither the round nor the high QC's falls
--     Ballot b q c a           the step a from the part by value c signs one VOTE, for the block b, by the rules; the high QC had then reached round q
--     Signs b q c a            the step a signs nothing, one VOTE or one TIMEOUT, and last voted moves with it
--     Commits, Deliveries      a commit: which block it starts from, and the walk; what is delivered, if anything
--     Delivers b t t' low a    the COMMITs of the step a, over the tables t before it and t' after it, low being last committed before it
--     Stores b t t'            the table t' is t, or has the block b stored in it, whose ancestors were found
--     Lawful total b q t t' s a     all of it, with the high QC below the round, and last voted not above it
--     stays-keeps, stays_then, stays-core    what stays
--     delivers-none, lawful-plain            what votes for nothing and commits nothing
use Prim.Native.Nat.{ℕ, ◌+◌, ◌≤◌, ◌<◌}
use mathlib.Core.Bool.{true}
use mathlib.Core.List.{List, [], ◌∷◌, map}
use mathlib.Core.Logic.{◌⊎◌, inl}
use mathlib.Core.Path.{◌≡◌, refl, ◌∙◌, ap}
use native.Mathlib.Nat.{le_refl, le_trans}
use native.Mathlib.Omega.{arith}
use lib.ListN.{length}
use Rattle.trace.specs.declared.events.Block.{Block}
use Rattle.outputs.specs.Records.{vote, timeout}
use Rattle.aggregator.specs.Tally.{vote_width, timeout_width}
use Rattle.aggregator.specs.Tallies.{vote_tallies, timeout_tallies, Light}
use Rattle.synchronizer.specs.declared.table.Slot.{Slot}
use Rattle.synchronizer.specs.Table.{stored, b0_of, b1_of, ancestors_of, found_number}
use Rattle.synchronizer.specs.Walk.{delivers, walk_of}
use Rattle.synchronizer.specs.Settle.{commit_rec}
use Rattle.moves.specs.declared.state.Core.{Core}
use Rattle.moves.specs.State.{State, with_core}
use Rattle.moves.specs.Outcome.{Step}
use Rattle.moves.proofs.MoveLaws.{Keeps}
use Rattle.handlers.specs.Votes.{extends}
use Rattle.replica.specs.Blocks.{slot_for}
use Rattle.runs.specs.Runs.{signed_in, delivered_in}
use Rattle.runs.proofs.Marks.{later}
use Rattle.runs.proofs.Plain.{round_in, high_in, Plain}

abbrev pub voted_in : Core → ℕ
voted_in c = c.last_voted_round.0

abbrev pub committed_in : Core → ℕ
committed_in c = c.last_committed_round.0

-- ---- what a step leaves

pub record Stays (total : ℕ) (s s' : State) : Type 0 where
  pub votes : length s'.votes ≡ length s.votes
  pub timeouts : length s'.timeouts ≡ length s.timeouts
  pub votes-light : Light vote_width vote_tallies s.votes total → Light vote_width vote_tallies s'.votes total
  pub timeouts-light : Light timeout_width timeout_tallies s.timeouts total → Light timeout_width timeout_tallies s'.timeouts total
  pub round : round_in s.core ≤ round_in s'.core
  pub high : high_in s.core ≤ high_in s'.core

-- `at` is the part by value when the vote is cast
pub record Ballot (b : Block) (q : ℕ) (c : Core) (a : Step) : Type 0 where
  pub to : ℕ
  pub is : signed_in a.outs ≡ vote to b.digest b.round.0 ∷ []
  pub newer : voted_in c < b.round.0
  pub rule : extends b ≡ true
  pub now : voted_in a.state.core ≡ b.round.0
  pub at : Core
  pub current : round_in at ≡ b.round.0
  pub passed : round_in c ≤ round_in at
  pub before : high_in c ≤ high_in at
  pub after : high_in at ≤ high_in a.state.core
  pub below : high_in c < round_in c → high_in at < round_in at
  pub took : q ≤ high_in at

-- nothing; one VOTE; one TIMEOUT, of the round and with the high QC that the event found
pub data Signs (b : Block) (q : ℕ) (c : Core) (a : Step) : Type 0 where
  nothing : signed_in a.outs ≡ [] → voted_in a.state.core ≡ voted_in c → Signs b q c a
  ballot : Ballot b q c a → Signs b q c a
  expiry : signed_in a.outs ≡ timeout (round_in c) c.high_qc ∷ [] → voted_in a.state.core ≡ later (voted_in c) (round_in c) → Signs b q c a

-- the block's parent b1 and grandparent b0 were in the table, in consecutive rounds, and b0 is delivered with the walk under it
pub record Commits (b : Slot) (t t' : List Slot) (low : ℕ) (blocks : List Slot) (high : ℕ) : Type 0 where
  pub found : found_number (ancestors_of t b) ≡ 0
  pub next : (b0_of t b).round.0 + 1 ≡ (b1_of t b).round.0
  pub newer : low < (b0_of t b).round.0
  pub walk : walk_of t' (b0_of t b) low ≡ delivers blocks
  pub last : high ≡ (b0_of t b).round.0

pub data Deliveries (b : Slot) (t t' : List Slot) (low : ℕ) (blocks : List Slot) (high : ℕ) : Type 0 where
  none : blocks ≡ [] → high ≡ low → Deliveries b t t' low blocks high
  some : Commits b t t' low blocks high → Deliveries b t t' low blocks high

pub record Delivers (b : Slot) (t t' : List Slot) (low : ℕ) (a : Step) : Type 0 where
  pub blocks : List Slot
  pub are : delivered_in a.outs ≡ map commit_rec blocks
  pub by : Deliveries b t t' low blocks (committed_in a.state.core)

-- a block is stored only where its parent and its grandparent are
abbrev pub Stores : Slot → List Slot → List Slot → Type 0
Stores b t t' = (t' ≡ t) ⊎ ((t' ≡ stored t b) × (found_number (ancestors_of t b) ≡ 0))

pub record Lawful (total : ℕ) (b : Block) (q : ℕ) (t t' : List Slot) (s : State) (a : Step) : Type 0 where
  pub stays : Stays total s a.state
  pub signs : Signs b q s.core a
  pub delivers : Delivers (slot_for b) t t' (committed_in s.core) a
  pub stores : Stores (slot_for b) t t'
  pub below : high_in s.core < round_in s.core → high_in a.state.core < round_in a.state.core
  pub within : voted_in s.core ≤ round_in s.core → voted_in a.state.core ≤ round_in a.state.core

-- ---- parts

pub stays-keeps : {total : ℕ} {s s' : State} → Keeps total s s' → Stays total s s'
stays-keeps k =
    record { votes = k.votes; timeouts = k.timeouts; votes-light = k.votes-light; timeouts-light = k.timeouts-light; round = k.round; high = k.high }

pub stays_then : {total : ℕ} {s t u : State} → Stays total s t → Stays total t u → Stays total s u
stays_then a b =
    record {
      votes = b.votes ∙ a.votes;
      timeouts = b.timeouts ∙ a.timeouts;
      votes-light = λ h. b.votes-light (a.votes-light h);
      timeouts-light = λ h. b.timeouts-light (a.timeouts-light h);
      round = le_trans a.round b.round;
      high = le_trans a.high b.high;
    }

-- a part by value with the same round and high QC
pub stays-core : (total : ℕ) (s : State) (c : Core) → c.round ≡ s.core.round → c.high_qc ≡ s.core.high_qc → Stays total s (with_core s c)
stays-core total s c e f =
    record {
      votes = refl;
      timeouts = refl;
      votes-light = λ h. h;
      timeouts-light = λ h. h;
      round = rw e (le_refl _);
      high = rw f (le_refl _);
    }

pub delivers-none : (b : Slot) (t t' : List Slot) (low : ℕ) (a : Step) → delivered_in a.outs ≡ [] → committed_in a.state.core ≡ low → Delivers b t t' low a
delivers-none b t t' low a e f = record { blocks = []; are = e; by = none refl f }

-- what votes for nothing and commits nothing
pub lawful-plain : {total : ℕ} {s : State} {a : Step} (b : Block) (q : ℕ) (t : List Slot) → Keeps total s a.state → Plain s.core a → Lawful total b q t t s a
lawful-plain {total} {s} {a} b q t k p =
    record {
      stays = stays-keeps k;
      signs = nothing p.silent.signs (ap (λ x. x.0) k.voted);
      delivers = delivers-none (slot_for b) t t _ a p.silent.delivers (ap (λ x. x.0) k.committed);
      stores = inl refl;
      below = p.below;
      within = λ h. let e : voted_in a.state.core ≡ voted_in s.core = ap (λ x. x.0) k.voted in omega (arith, k.round);
    }
