-- What code did, against a definition: the laws by which parts compose. Assumes nothing.
--     did-quiet, did-wrote                 nothing was done; the state stayed, and records were written
--     did_then                             THE LAW: one part, and then another from the state that it left
--     did_more                             a bound on the room may be larger
--     did-length                           the buffer has the length that it had
--     reached-done                         a step was taken, and then an answer given
--     reached-refused                      an answer was given, and nothing was done
--     reached-after                        one part, and then an outcome from the state that it left
--     reached-checked-refused, -passed     the two ways of early checks
--     reached-more, reached-length         as for steps
use Prim.Native.Nat.{ℕ, ◌+◌, ◌≤◌}
use mathlib.Core.List.{List}
use mathlib.Core.Path.{◌≡◌, refl}
use borrow.Author.Tests.{eq-eqb, ne_eqb}
use lib.ListN.{length}
use Rattle.std.specs.Prelude.{Result, Err}
use Rattle.certificates.specs.declared.error.Refusal.{Refusal}
use Rattle.certificates.specs.Error.{code, number}
use Rattle.certificates.proofs.ErrorLaws.{code-some}
use Rattle.outputs.specs.Records.{Rec}
use Rattle.outputs.specs.Put.{Wrote}
use Rattle.outputs.proofs.Wrote.{wrote_none, wrote_then, wrote-more, wrote-length}
use Rattle.moves.specs.declared.state.Core.{Core}
use Rattle.moves.specs.declared.state.Ran.{Ran}
use Rattle.moves.specs.State.{State, whole}
use Rattle.moves.specs.Outcome.{Step, Outcome, quiet, and_then, done, after, refused, checked, Did, Reached}

-- ---- steps

pub did-quiet : (k : ℕ) (core : Core) (votes timeouts out : List ℕ) (at : ℕ) → Did k (quiet (whole core votes timeouts)) out at core votes timeouts out at
did-quiet k core votes timeouts out at = record { state = refl; bytes = wrote_none k out at }

pub did-wrote : {k at next : ℕ} {outs : List Rec} {before last : List ℕ} (core : Core) (votes timeouts : List ℕ) → Wrote k outs before at last next
    → Did k (record { state = whole core votes timeouts; outs = outs }) before at core votes timeouts last next
did-wrote core votes timeouts w = record { state = refl; bytes = w }

-- THE LAW: a part was done, and then another from the state that the first left
pub did_then : {k l at mid next : ℕ} {a : Step} (f : State → Step) {before between last v t v' t' : List ℕ} {c c' : Core}
    → Did k a before at c v t between mid → Did l (f (whole c v t)) between mid c' v' t' last next → Did (k + l) (and_then a f) before at c' v' t' last next
did_then f p q =
    let r = rw p.state at q in
    record { state = r.state; bytes = wrote_then p.bytes r.bytes }

pub did_more : {k l at next : ℕ} {a : Step} {before last v t : List ℕ} {c : Core} → Did k a before at c v t last next → k ≤ l → Did l a before at c v t last next
did_more d h = record { state = d.state; bytes = wrote-more d.bytes h }

pub did-length : {k at next : ℕ} {a : Step} {before last v t : List ℕ} {c : Core} → Did k a before at c v t last next → length last ≡ length before
did-length d = wrote-length d.bytes

-- ---- outcomes

pub reached-done : {k at next : ℕ} {a : Step} {before last v t : List ℕ} {c : Core} (x : Result Unit Refusal) → Did k a before at c v t last next
    → Reached k (done (number x) a) before at (record { answer = x; core = c; at = next }) v t last
reached-done x d = record { answer = refl; did = d }

pub reached-refused : (k : ℕ) (x : Result Unit Refusal) (core : Core) (votes timeouts out : List ℕ) (at : ℕ)
    → Reached k (refused (number x) (whole core votes timeouts)) out at (record { answer = x; core = core; at = at }) votes timeouts out
reached-refused k x core votes timeouts out at = reached-done x (did-quiet k core votes timeouts out at)

-- a part was done, and then an outcome was reached from the state that it left
pub reached-after : {k l at mid : ℕ} {a : Step} (f : State → Outcome) {before between last v t v' t' : List ℕ} {c : Core} {r : Ran}
    → Did k a before at c v t between mid → Reached l (f (whole c v t)) between mid r v' t' last → Reached (k + l) (after a f) before at r v' t' last
reached-after f p q =
    let r = rw p.state at q in
    record { answer = r.answer; did = record { state = r.did.state; bytes = wrote_then p.bytes r.did.bytes } }

pub reached-checked-refused : (k : ℕ) (r : Refusal) (core : Core) (votes timeouts out : List ℕ) (at : ℕ) (o : Outcome)
    → Reached k (checked (code r) (whole core votes timeouts) o) out at (record { answer = Err r; core = core; at = at }) votes timeouts out
reached-checked-refused k r core votes timeouts out at o = rw (ne_eqb (code r) 0 (code-some r)) (reached-refused k (Err r) core votes timeouts out at)

pub reached-checked-passed : {k at : ℕ} (n : ℕ) (s : State) {o : Outcome} {before last v t : List ℕ} {r : Ran} → n ≡ 0 → Reached k o before at r v t last
    → Reached k (checked n s o) before at r v t last
reached-checked-passed n s h d = rw (eq-eqb n 0 h) d

pub reached-more : {k l at : ℕ} {o : Outcome} {before last v t : List ℕ} {r : Ran} → Reached k o before at r v t last → k ≤ l → Reached l o before at r v t last
reached-more h m = record { answer = h.answer; did = did_more h.did m }

pub reached-length : {k at : ℕ} {o : Outcome} {before last v t : List ℕ} {r : Ran} → Reached k o before at r v t last → length last ≡ length before
reached-length h = did-length h.did
