-- 01, Numbers the host sees, in 01's order.
--     done .. started_again   the numbers
--     code r, number a        of a refusal, and of an answer
--     number_of c quorum      of what a certificate's check found, `quorum` being the number for no quorum
--     author_number a         of what an author's check found
--     setup_number s          of what START's check found
use Rattle.std.specs.Prelude.{ℕ, Option, None, Some, Result, Ok, Err}
use Rattle.certificates.specs.declared.numbers.Signers.{Signers}
use Rattle.certificates.specs.declared.numbers.Stake.{Stake}
use Rattle.certificates.specs.declared.error.CertificateError.{CertificateError}
use Rattle.certificates.specs.declared.error.CertificateError.TheVariants.{AuthorityReuse, UnknownAuthority, RequiresQuorum, InvalidSignature, Cut}
use Rattle.certificates.specs.declared.error.AuthorError.{AuthorError}
use Rattle.certificates.specs.declared.error.AuthorError.TheVariants as author
use Rattle.certificates.specs.declared.error.Refusal.{Refusal}
use Rattle.certificates.specs.declared.error.Refusal.TheVariants as refusal

-- "0 DONE, 1 STALE, 2 WAIT PARENT, 3 WAIT PAYLOAD": not refusals
abbrev pub done : ℕ
done = 0

abbrev pub stale : ℕ
stale = 1

abbrev pub wait_parent : ℕ
wait_parent = 2

abbrev pub wait_payload : ℕ
wait_payload = 3

-- "bad record: unknown kind, wrong body length, verdict or flag out of range"
abbrev pub bad_record : ℕ
bad_record = 16

-- "bad setup (START only)"
abbrev pub bad_setup : ℕ
bad_setup = 17

-- "room: table not 1 to 1,024 slots, or output below 44*slots+2,048 bytes"
abbrev pub no_room : ℕ
no_room = 18

-- "any round in the record above 2^62; TICK while the current round is"
abbrev pub round_too_high : ℕ
round_too_high = 19

-- "a signer list above 64"
abbrev pub list_too_long : ℕ
list_too_long = 20

-- "wrong leader, bad signature, QC quorum, TC quorum": 21, 23, 25, 26
abbrev pub wrong_leader : ℕ
wrong_leader = 21

-- "unknown authority, reuse": 22, 24
abbrev pub unknown_authority : ℕ
unknown_authority = 22

abbrev pub invalid_signature : ℕ
invalid_signature = 23

abbrev pub authority_reuse : ℕ
authority_reuse = 24

abbrev pub qc_requires_quorum : ℕ
qc_requires_quorum = 25

abbrev pub tc_requires_quorum : ℕ
tc_requires_quorum = 26

-- "payload invalid"
abbrev pub invalid_payload : ℕ
invalid_payload = 27

-- "new digest, no empty slot"
abbrev pub table_full : ℕ
table_full = 28

-- "new tally, all 32 vote or 16 timeout tallies held"
abbrev pub tallies_full : ℕ
tallies_full = 29

-- "b0 or a walked parent absent"
abbrev pub ancestor_absent : ℕ
ancestor_absent = 30

-- "walked parent's round not below its child's"
abbrev pub round_not_below : ℕ
round_not_below = 31

-- "LOOPBACK with an empty TC"
abbrev pub empty_tc : ℕ
empty_tc = 32

-- "not started; START again": 33, 34
abbrev pub not_started : ℕ
not_started = 33

abbrev pub started_again : ℕ
started_again = 34

abbrev pub code : Refusal → ℕ
code refusal.Stale = stale
code refusal.WaitParent = wait_parent
code refusal.WaitPayload = wait_payload
code refusal.BadRecord = bad_record
code refusal.BadSetup = bad_setup
code refusal.NoRoom = no_room
code refusal.RoundTooHigh = round_too_high
code refusal.ListTooLong = list_too_long
code refusal.WrongLeader = wrong_leader
code refusal.UnknownAuthority = unknown_authority
code refusal.InvalidSignature = invalid_signature
code refusal.AuthorityReuse = authority_reuse
code refusal.QcRequiresQuorum = qc_requires_quorum
code refusal.TcRequiresQuorum = tc_requires_quorum
code refusal.InvalidPayload = invalid_payload
code refusal.TableFull = table_full
code refusal.TalliesFull = tallies_full
code refusal.AncestorAbsent = ancestor_absent
code refusal.RoundNotBelow = round_not_below
code refusal.EmptyTc = empty_tc
code refusal.NotStarted = not_started
code refusal.StartedAgain = started_again

abbrev pub number : Result Unit Refusal → ℕ
number (Ok u) = done
number (Err r) = code r

abbrev pub number_of : Result Signers CertificateError → ℕ → ℕ
number_of (Ok s) quorum = done
number_of (Err (AuthorityReuse p)) quorum = authority_reuse
number_of (Err (UnknownAuthority p)) quorum = unknown_authority
number_of (Err RequiresQuorum) quorum = quorum
number_of (Err InvalidSignature) quorum = invalid_signature
number_of (Err Cut) quorum = bad_record

abbrev pub author_number : Result Stake AuthorError → ℕ
author_number (Ok s) = done
author_number (Err (author.UnknownAuthority p)) = unknown_authority
author_number (Err author.InvalidSignature) = invalid_signature

abbrev pub setup_number : Option Stake → ℕ
setup_number None = bad_setup
setup_number (Some t) = done
