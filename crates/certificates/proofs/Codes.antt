-- A number is that of one answer alone. Assumes nothing.
--     code-same, number-same      what has the same number is the same
use Prim.Native.Nat.{ℕ}
use mathlib.Core.Bool.{cond}
use mathlib.Core.Path.{◌≡◌, refl, sym, ◌∙◌, ap}
use lib.Dec.{eqb}
use Rattle.std.specs.Prelude.{Result, Ok, Err}
use Rattle.certificates.specs.declared.error.Refusal.{Refusal}
use Rattle.certificates.specs.declared.error.Refusal.TheVariants.{Stale, WaitParent, WaitPayload, BadRecord, BadSetup, NoRoom, RoundTooHigh, ListTooLong, WrongLeader, UnknownAuthority, InvalidSignature, AuthorityReuse, QcRequiresQuorum, TcRequiresQuorum, InvalidPayload, TableFull, TalliesFull, AncestorAbsent, RoundNotBelow, EmptyTc, NotStarted, StartedAgain}
use Rattle.certificates.specs.Error.{stale, wait_parent, wait_payload, bad_record, bad_setup, no_room, round_too_high, list_too_long, wrong_leader, unknown_authority, invalid_signature, authority_reuse, qc_requires_quorum, tc_requires_quorum, invalid_payload, table_full, tallies_full, ancestor_absent, round_not_below, empty_tc, not_started, code, number}
use Rattle.certificates.proofs.ErrorLaws.{code-some}

-- the refusal that has the number n
abbrev named : ℕ → Refusal
named n =
    cond (eqb n stale) Stale (
    cond (eqb n wait_parent) WaitParent (
    cond (eqb n wait_payload) WaitPayload (
    cond (eqb n bad_record) BadRecord (
    cond (eqb n bad_setup) BadSetup (
    cond (eqb n no_room) NoRoom (
    cond (eqb n round_too_high) RoundTooHigh (
    cond (eqb n list_too_long) ListTooLong (
    cond (eqb n wrong_leader) WrongLeader (
    cond (eqb n unknown_authority) UnknownAuthority (
    cond (eqb n invalid_signature) InvalidSignature (
    cond (eqb n authority_reuse) AuthorityReuse (
    cond (eqb n qc_requires_quorum) QcRequiresQuorum (
    cond (eqb n tc_requires_quorum) TcRequiresQuorum (
    cond (eqb n invalid_payload) InvalidPayload (
    cond (eqb n table_full) TableFull (
    cond (eqb n tallies_full) TalliesFull (
    cond (eqb n ancestor_absent) AncestorAbsent (
    cond (eqb n round_not_below) RoundNotBelow (
    cond (eqb n empty_tc) EmptyTc (
    cond (eqb n not_started) NotStarted (
    StartedAgain)))))))))))))))))))))

named-code : (r : Refusal) → named (code r) ≡ r
named-code Stale = refl
named-code WaitParent = refl
named-code WaitPayload = refl
named-code BadRecord = refl
named-code BadSetup = refl
named-code NoRoom = refl
named-code RoundTooHigh = refl
named-code ListTooLong = refl
named-code WrongLeader = refl
named-code UnknownAuthority = refl
named-code InvalidSignature = refl
named-code AuthorityReuse = refl
named-code QcRequiresQuorum = refl
named-code TcRequiresQuorum = refl
named-code InvalidPayload = refl
named-code TableFull = refl
named-code TalliesFull = refl
named-code AncestorAbsent = refl
named-code RoundNotBelow = refl
named-code EmptyTc = refl
named-code NotStarted = refl
named-code StartedAgain = refl

pub code-same : {x y : Refusal} → code x ≡ code y → x ≡ y
code-same {x} {y} e = sym (named-code x) ∙ ap named e ∙ named-code y

pub number-same : (a b : Result Unit Refusal) → number a ≡ number b → a ≡ b
number-same (Ok u) (Ok v) e = refl
number-same (Ok u) (Err y) e = absurd (code-some y (sym e))
number-same (Err x) (Ok v) e = absurd (code-some x e)
number-same (Err x) (Err y) e = ap Err (code-same e)
