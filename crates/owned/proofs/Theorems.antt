-- What follows from the contract of `owned::step::step`. Assumes nothing.
--     same-as-lent       a record by value and the same parts lent give the same
--     handed-unique      the contract permits one outcome: one answer, one record, one table, one output
--     none-started       the record of zeros counts as not started
use Prim.Native.Nat.{ℕ}
use mathlib.Core.List.{List}
use mathlib.Core.Path.{◌≡◌, refl, sym, ◌∙◌, ap}
use lib.ListN.{length}
use Rattle.std.specs.Prelude as std
use Rattle.certificates.specs.declared.error.Refusal.{Refusal}
use Rattle.certificates.proofs.Codes.{number-same}
use Rattle.std.specs.Prelude.{None}
use Rattle.synchronizer.specs.declared.table.Slot.{Slot}
use Rattle.replica.specs.declared.stages.Stepped.{Stepped}
use Rattle.replica.specs.Started.{shaped, started_of}
use Rattle.replica.specs.Step.{Left, laid, left_by, started, stepped, world}
use Rattle.owned.specs.declared.record.Replica.{Replica}
use Rattle.owned.specs.declared.record.Handed.{Handed}
use Rattle.owned.specs.Record.{world_of, handed_left, no_replica}

-- the record in what is left, with an answer
abbrev handed_of : std.Result Unit Refusal → Left → Handed
handed_of a l =
    record {
      answer = a;
      written = l.written;
      replica = record {
        seat = l.world.seat;
        core = l.world.state.core;
        stakes = l.world.stakes;
        votes = l.world.state.votes;
        timeouts = l.world.state.timeouts;
      };
    }

module _ (r : Replica) (table : List Slot) (out input : List ℕ) (h : Handed) {table' : List Slot} {out' : List ℕ}
    (p : handed_left h table' out' ≡ laid (stepped (world_of r table) (length out) input) out) where
  -- beside what `replica::step::step` ensures of the parts of r
  pub same-as-lent : (x : Stepped) {stakes votes timeouts : List ℕ} {table'' : List Slot} {out'' : List ℕ}
      → left_by x stakes votes timeouts table'' out'' ≡ laid (stepped (world r.seat r.stakes r.core r.votes r.timeouts table) (length out) input) out
      → handed_left h table' out' ≡ left_by x stakes votes timeouts table'' out''
  same-as-lent x q = p ∙ sym q

  pub handed-unique : (k : Handed) {table'' : List Slot} {out'' : List ℕ} → handed_left k table'' out'' ≡ laid (stepped (world_of r table) (length out) input) out
      → (h ≡ k) × (table' ≡ table'') × (out' ≡ out'')
  handed-unique k {table'' = table''} {out'' = out''} q =
      let e : handed_left h table' out' ≡ handed_left _ _ _ = p ∙ sym q in
      (ap (handed_of h.answer) e ∙ ap (λ (a : std.Result Unit Refusal). handed_of a (handed_left k table'' out'')) (number-same h.answer k.answer (ap (λ (l : Left). l.answer) e)), ap (λ (l : Left). l.world.table) e, ap (λ (l : Left). l.out) e)

pub none-started : (table : List Slot) → started (world_of no_replica table) ≡ None
unfolding started_of shaped
none-started table = refl
