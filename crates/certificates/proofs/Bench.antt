-- 01, Bench readings: the P rows on totals, leader, signers and genesis, "proved as a single table under one theorem". The readings are computed from
-- the definitions. Four members of stake 1 unless said. Assumes nothing.
use Prim.Native.Nat.{ℕ, zero, suc, ◌/◌, ◌%◌}
use mathlib.Core.Path.{◌≡◌, refl}
use mathlib.Core.List.{List, [], ◌∷◌, ◌++◌, map}
use lib.ListN.{length, replicate}
use lib.Count.{ones}
use Rattle.std.specs.Prelude.{Option, None, Some, Result, Ok, Err}
use Rattle.certificates.specs.declared.numbers.Signers.{Signers}
use Rattle.certificates.specs.declared.numbers.Stake.{Stake}
use Rattle.certificates.specs.declared.error.CertificateError.{CertificateError}
use Rattle.certificates.specs.Num.{le, num_at, hash_at, nums_at}
use Rattle.certificates.specs.Config.{sum, stake_of, quorum_from, quorum_of, limited, setup_of}
use Rattle.certificates.specs.Start.{member_count, own_place, stakes_in, key_at, keys_from, keys_in, below, ascending, setup_at}
use Rattle.certificates.specs.Leader.{leader_of}
use Rattle.certificates.specs.Signers.{signers_from, signers_of, member, stake_on}
use Rattle.certificates.specs.Messages.{is_genesis, verdict_in, count_of, places_in, is_whole, unknown_to, settled_of, check_from, check_part, qc_check, equals_genesis, embedded_check}
use Rattle.certificates.specs.Error.{bad_setup, qc_requires_quorum, number_of}

-- ---- bytes

-- a number in n bytes, the lowest first
unfoldable pub bytes_of : ℕ → ℕ → List ℕ
bytes_of zero x = []
bytes_of (suc n) x = x % 256 ∷ bytes_of n (x / 256)

unfoldable pub entries : List ℕ → List ℕ
entries [] = []
entries (p ∷ ps) = bytes_of 2 p ++ entries ps

-- START's body for one member that holds the whole stake
unfoldable pub start_bytes : ℕ → List ℕ
start_bytes total = bytes_of 2 1 ++ bytes_of 2 0 ++ replicate 32 0 ++ bytes_of 4 total

-- a QC of hash zero
unfoldable pub qc_bytes : ℕ → ℕ → List ℕ → List ℕ
qc_bytes round verdict ps = replicate 32 0 ++ bytes_of 8 round ++ bytes_of 1 verdict ++ bytes_of 2 (length ps) ++ entries ps

-- ---- readings

unfoldable pub four : List ℕ
four = 1 ∷ 1 ∷ 1 ∷ 1 ∷ []

-- what is read off: the quorum after START with a total, or START's number; the leader of a round; the number of a QC's check with a verdict and
-- signers, and how many it accepts; the number of a QC with a round, a verdict and signers in a block
pub data Question : Type 0 where
  totals : ℕ → Question
  leads : ℕ → Question
  signers : ℕ → List ℕ → Question
  counts : ℕ → List ℕ → Question
  in_block : ℕ → ℕ → List ℕ → Question

unfoldable pub after_start : Option Stake → ℕ
after_start None = bad_setup
after_start (Some t) = quorum_from t.0

unfoldable pub accepted_by : Result Signers CertificateError → ℕ
accepted_by (Ok s) = ones s.0
accepted_by (Err e) = 0

unfoldable pub answer_to : Question → ℕ
answer_to (totals total) = after_start (setup_at (start_bytes total))
answer_to (leads round) = leader_of four round
answer_to (signers verdict ps) = number_of (qc_check four (quorum_of four) (qc_bytes 1 verdict ps)) qc_requires_quorum
answer_to (counts verdict ps) = accepted_by (qc_check four (quorum_of four) (qc_bytes 1 verdict ps))
answer_to (in_block round verdict ps) = number_of (embedded_check four (quorum_of four) (qc_bytes round verdict ps)) qc_requires_quorum

pub record Reading : Type 0 where
  pub asked : Question
  pub said : ℕ

abbrev pub reads : Question → ℕ → Reading
reads q n = record { asked = q; said = n }

abbrev pub readings : List Reading
readings =
    -- "Totals 0, 1, 2, 4, 2147483647: quorum 1, 1, 2, 3, 1431655765. Total 2^31: 17."
    reads (totals 0) 1
    ∷ reads (totals 1) 1
    ∷ reads (totals 2) 2
    ∷ reads (totals 4) 3
    ∷ reads (totals 2147483647) 1431655765
    ∷ reads (totals 2147483648) 17
    -- "Round 5: leader 1."
    ∷ reads (leads 5) 1
    -- "Signers 0,0,9: 24. 9,9: 22. 0,1: 25. 0,1,2 verdict 0: 23, verdict 1: accepted, three signers."
    ∷ reads (signers 1 (0 ∷ 0 ∷ 9 ∷ [])) 24
    ∷ reads (signers 1 (9 ∷ 9 ∷ [])) 22
    ∷ reads (signers 1 (0 ∷ 1 ∷ [])) 25
    ∷ reads (signers 0 (0 ∷ 1 ∷ 2 ∷ [])) 23
    ∷ reads (signers 1 (0 ∷ 1 ∷ 2 ∷ [])) 0
    ∷ reads (counts 1 (0 ∷ 1 ∷ 2 ∷ [])) 3
    -- "Hash zero, round 0, signers 9,9, verdict 0, in a block: accepted. Round 1: 22."
    ∷ reads (in_block 0 0 (9 ∷ 9 ∷ [])) 0
    ∷ reads (in_block 1 0 (9 ∷ 9 ∷ [])) 22
    ∷ []

pub bench : map (λ (r : Reading). answer_to r.asked) readings ≡ map (λ (r : Reading). r.said) readings
unfolding answer_to after_start accepted_by four start_bytes qc_bytes bytes_of entries
    le num_at hash_at nums_at sum stake_of quorum_from quorum_of limited setup_of
    member_count own_place stakes_in key_at keys_from keys_in below ascending setup_at leader_of
    signers_from signers_of member stake_on is_genesis verdict_in count_of places_in is_whole unknown_to settled_of check_from check_part qc_check equals_genesis embedded_check ones
bench = refl
