-- The state that events change: the part that goes by value, and the two tables of tallies.
--     whole c v t                                  the state of these parts
--     with_votes, with_timeouts, with_core         the state with one part replaced
--     in_round, with_voted, with_committed, with_high  the part by value with one field replaced
use Rattle.std.specs.Prelude.{ℕ, List}
use Rattle.certificates.specs.declared.messages.QC.{QC}
use Rattle.moves.specs.declared.state.Core.{Core}

pub record State : Type 0 where
  pub core : Core
  pub votes : List ℕ
  pub timeouts : List ℕ

abbrev pub whole : Core → List ℕ → List ℕ → State
whole c v t = record { core = c; votes = v; timeouts = t }

abbrev pub with_votes : State → List ℕ → State
with_votes s v = whole s.core v s.timeouts

abbrev pub with_timeouts : State → List ℕ → State
with_timeouts s t = whole s.core s.votes t

abbrev pub with_core : State → Core → State
with_core s c = whole c s.votes s.timeouts

abbrev pub in_round : Core → ℕ → Core
in_round c r =
    record { round = record { 0 = r }; last_voted_round = c.last_voted_round; last_committed_round = c.last_committed_round; high_qc = c.high_qc }

abbrev pub with_voted : Core → ℕ → Core
with_voted c r =
    record { round = c.round; last_voted_round = record { 0 = r }; last_committed_round = c.last_committed_round; high_qc = c.high_qc }

abbrev pub with_committed : Core → ℕ → Core
with_committed c r =
    record { round = c.round; last_voted_round = c.last_voted_round; last_committed_round = record { 0 = r }; high_qc = c.high_qc }

abbrev pub with_high : Core → QC → Core
with_high c q =
    record { round = c.round; last_voted_round = c.last_voted_round; last_committed_round = c.last_committed_round; high_qc = q }
