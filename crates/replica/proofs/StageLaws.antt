-- The three parts of an event are the event: `stages-step`. Assumes nothing.
use Prim.Native.Nat.{ℕ}
use mathlib.Core.Bool.{Bool, true, false, cond}
use mathlib.Core.List.{List, [], ◌++◌, append-nil}
use mathlib.Core.Path.{◌≡◌, refl, ◌∙◌, ap}
use lib.Dec.{eqb}
use lib.ListN.{length, drop}
use Rattle.std.specs.Prelude.{Option, None, Some}
use Rattle.certificates.specs.Start.{setup_at}
use Rattle.certificates.specs.declared.numbers.Stake.{Stake}
use Rattle.trace.specs.declared.events.Kind.{Kind}
use Rattle.trace.specs.declared.events.Block.{Block}
use Rattle.trace.specs.Form.{form_of}
use Rattle.trace.specs.Limits.{limit_of}
use Rattle.trace.specs.Fields.{block_of}
use Rattle.certificates.specs.Error.{no_room, not_started}
use Rattle.outputs.specs.Records.{Rec}
use Rattle.moves.specs.State.{State, with_core, with_committed}
use Rattle.moves.specs.Outcome.{Outcome, quiet, done, after, refused}
use Rattle.handlers.specs.Votes.{voting}
use Rattle.handlers.specs.Proposals.{Proposal}
use Rattle.synchronizer.specs.declared.table.Slot.{Slot}
use Rattle.synchronizer.specs.Table.{cleared}
use Rattle.synchronizer.specs.Settle.{Settlement}
use Rattle.synchronizer.proofs.SettleLaws.{settled-nothing, settled-clear}
use Rattle.replica.specs.declared.started.Seat.{Seat}
use Rattle.replica.specs.declared.stages.Does.{Does}
use Rattle.replica.specs.Started.{members_of, roomy}
use Rattle.replica.specs.Blocks.{settled_for, settled_step, after_settled, processed, processed_table, going_on, going_on_table}
use Rattle.replica.specs.Step.{World, Result, refused_in, in_world, new_seat, new_stakes, begun, begun_by, started, sized_in, on_start, on_other, on_kind, handled, stepped}
use Rattle.replica.specs.Stages.{ended, by_proposal, handled_in, in_seat, ready_in, booted_by, started_in, is_start, by_setup, staged_by, staged_of, finished_of, stage_work, followed, concluded, together}

-- what is left of a world
abbrev left : Seat → List ℕ → List Slot → Outcome → Result
left seat stakes t o =
    record { answer = o.answer; world = record { seat = seat; stakes = stakes; state = o.left.state; table = t }; outs = o.left.outs }

-- ---- by what is to be done with the table

-- nothing more is written
nothing-more : (seat : Seat) (stakes : List ℕ) (o : Outcome) (t : List Slot)
    → record {
      answer = o.answer;
      world = record { seat = seat; stakes = stakes; state = o.left.state; table = t };
      outs = o.left.outs ++ [];
    } ≡ left seat stakes t o
nothing-more seat stakes o t =
    ap (λ (xs : List Rec). record { answer = o.answer; world = record { seat = seat; stakes = stakes; state = o.left.state; table = t }; outs = xs })
    (append-nil o.left.outs)

pub together-ended : (seat : Seat) (stakes : List ℕ) (o : Outcome) (t : List Slot) (k : Block) → together (ended seat stakes o) t k ≡ left seat stakes t o
unfolding together finished_of
together-ended seat stakes o t k =
    ap (concluded (ended seat stakes o) k) (settled-nothing t (stage_work (ended seat stakes o) k) refl) ∙ nothing-more seat stakes o t

pub together-cleared : (seat : Seat) (stakes : List ℕ) (o : Outcome) (t : List Slot) (k : Block)
    → together (record { does = Does.Clear; seat = seat; stakes = stakes; out = o }) t k ≡ left seat stakes (cleared t) o
unfolding together finished_of
together-cleared seat stakes o t k =
    ap (concluded (record { does = Does.Clear; seat = seat; stakes = stakes; out = o }) k)
    (settled-clear t (stage_work (record { does = Does.Clear; seat = seat; stakes = stakes; out = o }) k) refl)
    ∙ nothing-more seat stakes o (cleared t)

-- the vote follows, or what the table answered stays
module _ (seat : Seat) (stakes : List ℕ) (o : Outcome) (k : Block) where
  abbrev voted : State → Settlement → Outcome
  voted s p = voting (members_of seat stakes) seat.own.0 k (with_core s (with_committed s.core p.last))

  abbrev kept : Settlement → Bool → Result
  kept p true = followed (record { does = Does.Block; seat = seat; stakes = stakes; out = o }) p (voted o.left.state p)
  kept p false =
      followed (record { does = Does.Block; seat = seat; stakes = stakes; out = o }) p
      (refused p.answer (with_core o.left.state (with_committed o.left.state.core p.last)))

  either_way : (p : Settlement) (zero : Bool)
      → followed (record { does = Does.Block; seat = seat; stakes = stakes; out = o }) p
      (cond zero (voted o.left.state p) (refused p.answer (with_core o.left.state (with_committed o.left.state.core p.last))))
      ≡ left seat stakes p.table
      (after o.left (λ (s : State). cond zero (after (settled_step s p) (voting (members_of seat stakes) seat.own.0 k)) (done p.answer (settled_step s p))))
  either_way p true = refl
  either_way p false =
      ap (λ (xs : List Rec). record {
        answer = p.answer;
        world = record { seat = seat; stakes = stakes; state = with_core o.left.state (with_committed o.left.state.core p.last); table = p.table };
        outs = o.left.outs ++ xs;
      }) (append-nil p.outs)

  pub together-block : (t : List Slot)
      → together (record { does = Does.Block; seat = seat; stakes = stakes; out = o }) t k
      ≡ left seat stakes (processed_table t k o.left.state) (after o.left (processed (members_of seat stakes) seat.own.0 t k))
  unfolding together finished_of processed processed_table after_settled settled_for
  together-block t = either_way (settled_for o.left.state t k) (eqb (settled_for o.left.state t k).answer 0)

-- ---- by the kind of the record

module _ (w : World) (r : List ℕ) where
  abbrev seat : Seat
  seat = w.seat

  abbrev stakes : List ℕ
  stakes = w.stakes

  abbrev m : List ℕ
  m = members_of w.seat w.stakes

  -- a proposal that goes on to the table, or not
  together-proposal : (p : Proposal) (goes : Bool) → p.goes_on ≡ goes
      → together (in_seat seat stakes (by_proposal p)) w.table (block_of r)
      ≡ in_world w (going_on_table w.table (block_of r) p) (going_on m seat.own.0 w.table (block_of r) p)
  unfolding going_on going_on_table
  together-proposal p true e = rw e (together-block seat stakes p.out (block_of r) w.table)
  together-proposal p false e = rw e (together-ended seat stakes p.out w.table (block_of r))

  pub together-handled : (k : Kind) → together (in_seat seat stakes (handled_in m seat.own.0 w.state r k)) w.table (block_of r) ≡ handled w r k
  together-handled Kind.Start = together-ended seat stakes _ w.table (block_of r)
  together-handled Kind.Propose = together-proposal _ _ refl
  together-handled Kind.Vote = together-ended seat stakes _ w.table (block_of r)
  together-handled Kind.Timeout = together-ended seat stakes _ w.table (block_of r)
  together-handled Kind.Tc = together-ended seat stakes _ w.table (block_of r)
  together-handled Kind.Loopback = together-block seat stakes (done 0 (quiet w.state)) (block_of r) w.table
  together-handled Kind.Tick = together-ended seat stakes _ w.table (block_of r)

  -- ---- the order of refusals

  together-limited : (k : Kind) (roomful : Bool) (good : Bool)
      → together (cond roomful (cond good (in_seat seat stakes (handled_in m seat.own.0 w.state r k)) (ended seat stakes (refused (limit_of r k) w.state))) (ended seat stakes (refused no_room w.state))) w.table (block_of r)
      ≡ cond roomful (cond good (handled w r k) (refused_in (limit_of r k) w)) (refused_in no_room w)
  together-limited k true true = together-handled k
  together-limited k true false = together-ended seat stakes _ w.table (block_of r)
  together-limited k false good = together-ended seat stakes _ w.table (block_of r)

  together-booted : (st : Option Stake) → together (booted_by seat stakes w.state r st) w.table (block_of r) ≡ begun_by w r st
  together-booted None = together-ended seat stakes _ w.table (block_of r)
  together-booted (Some t) = together-cleared (new_seat r) (new_stakes r) _ w.table (block_of r)

  together-start : (roomful size : Bool)
      → together (cond roomful (cond size (booted_by seat stakes w.state r (setup_at (drop 2 r))) (ended seat stakes (refused no_room w.state))) (ended seat stakes (refused no_room w.state))) w.table (block_of r)
      ≡ cond roomful (cond size (begun_by w r (setup_at (drop 2 r))) (refused_in no_room w)) (refused_in no_room w)
  together-start true true = together-booted (setup_at (drop 2 r))
  together-start true false = together-ended seat stakes _ w.table (block_of r)
  together-start false size = together-ended seat stakes _ w.table (block_of r)

  module _ (room : ℕ) where
    abbrev roomful : Bool
    roomful = roomy (length w.table) room

    other : (k : Kind) (st : Option Stake) → is_start k ≡ false → together (by_setup seat stakes w.state roomful r k st) w.table (block_of r) ≡ on_other w room r k st
    unfolding ready_in
    other k None e = rw e (together-ended seat stakes (refused not_started w.state) w.table (block_of r))
    other k (Some t) e = rw e (together-limited k roomful (eqb (limit_of r k) 0))

    started-first : (st : Option Stake) → together (by_setup seat stakes w.state roomful r Kind.Start st) w.table (block_of r) ≡ on_start w room r st
    unfolding started_in begun
    started-first None = together-start roomful (sized_in w)
    started-first (Some t) = together-ended seat stakes _ w.table (block_of r)

    by_kind : (k : Option Kind) → together (staged_by seat stakes w.state roomful r k) w.table (block_of r) ≡ on_kind w room r k
    by_kind None = together-ended seat stakes _ w.table (block_of r)
    by_kind (Some Kind.Start) = started-first (started w)
    by_kind (Some Kind.Propose) = other Kind.Propose (started w) refl
    by_kind (Some Kind.Vote) = other Kind.Vote (started w) refl
    by_kind (Some Kind.Timeout) = other Kind.Timeout (started w) refl
    by_kind (Some Kind.Tc) = other Kind.Tc (started w) refl
    by_kind (Some Kind.Loopback) = other Kind.Loopback (started w) refl
    by_kind (Some Kind.Tick) = other Kind.Tick (started w) refl

    -- the three parts of an event are the event
    pub stages-step : together (staged_of seat stakes w.state roomful r) w.table (block_of r) ≡ stepped w room r
    unfolding staged_of stepped
    stages-step = by_kind (form_of r)
