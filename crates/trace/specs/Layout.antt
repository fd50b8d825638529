-- 01, The trace form: "Parts." A record here is what follows the length: kind 2, then the body. What a record does not have reads as 0.
--     signers_max                                         the most signers of a list
--     count_of, size_by, part_of c r at                   of a certificate that lies as c says and starts at a place of the record r: its count, how long it is, itself
--     qc_round, qc_verdict, qc_count, qc_size, qc_part r at  of the QC that starts at a place of the record r
--     tc_round, tc_verdict, tc_count, tc_size, tc_part r at  of the TC that starts there
--     place_in, high_in t i                               place and high round of entry i of the TC t
--     highs_in t n                                        the high rounds of the first n entries, the last one first
--     tc_rounds r at                                      every round of the TC that starts at a place of the record
--     timeout_qc, tc_body                                 where the QC of a TIMEOUT and the TC of a TC event start
--     block_qc, flag_at r, tc_at r, block_end r           of a record that holds a block: where its QC, flag and TC start (0 without a TC), and where it ends
--     payload_of r                                        the last byte
--     largest xs                                          the largest of some numbers; 0 of none
--     largest_high t                                      the largest high round over all entries of a TC
--     highs_of t                                          the high round of each place, 0 for one without an entry
--     highs_up_to t n                                     .. by the first n entries
use Rattle.std.specs.Prelude.{ℕ, zero, suc, max, ◌+◌, ◌-◌, ◌*◌, cond, List, [], ◌∷◌, length, get_or, take, drop, set, replicate, eqb}
use Rattle.certificates.specs.Config as limits
use Rattle.certificates.specs.Num.{num_at}
use Rattle.trace.specs.declared.events.Certificate.{Certificate}

-- "a signer list above 64"
abbrev pub signers_max : ℕ
signers_max = limits.members_max

-- a certificate that starts at a place: its count, how long it is by that, and itself
abbrev pub count_of : Certificate → List ℕ → ℕ → ℕ
count_of c r at = num_at 2 r (at + c.count)

abbrev pub size_by : Certificate → List ℕ → ℕ → ℕ
size_by c r at = (c.count + 2) + c.entry * count_of c r at

abbrev pub part_of : Certificate → List ℕ → ℕ → List ℕ
part_of c r at = take (size_by c r at) (drop at r)

-- "QC: hash 32, round 8, verdict 1, count 2, places 2 each."
abbrev pub qc_round : List ℕ → ℕ → ℕ
qc_round r at = num_at 8 r (at + 32)

abbrev pub qc_verdict : List ℕ → ℕ → ℕ
qc_verdict r at = get_or r (at + 40) 0

abbrev pub qc_count : List ℕ → ℕ → ℕ
qc_count r at = num_at 2 r (at + 41)

abbrev pub qc_size : List ℕ → ℕ → ℕ
qc_size r at = 43 + 2 * qc_count r at

-- "The certificate part in the middle of a record is handed on as it lies, without a copy." Cut where the record ends.
unfoldable pub qc_part : List ℕ → ℕ → List ℕ
qc_part r at = take (qc_size r at) (drop at r)

-- "TC: round 8, verdict 1, count 2, then place 2 and high round 8 each."
abbrev pub tc_round : List ℕ → ℕ → ℕ
tc_round r at = num_at 8 r at

abbrev pub tc_verdict : List ℕ → ℕ → ℕ
tc_verdict r at = get_or r (at + 8) 0

abbrev pub tc_count : List ℕ → ℕ → ℕ
tc_count r at = num_at 2 r (at + 9)

abbrev pub tc_size : List ℕ → ℕ → ℕ
tc_size r at = 11 + 10 * tc_count r at

unfoldable pub tc_part : List ℕ → ℕ → List ℕ
tc_part r at = take (tc_size r at) (drop at r)

abbrev pub place_in : List ℕ → ℕ → ℕ
place_in t i = num_at 2 t (11 + 10 * i)

abbrev pub high_in : List ℕ → ℕ → ℕ
high_in t i = num_at 8 t (13 + 10 * i)

unfoldable pub highs_in : List ℕ → ℕ → List ℕ
highs_in t zero = []
highs_in t (suc n) = high_in t n ∷ highs_in t n

unfoldable pub tc_rounds : List ℕ → ℕ → List ℕ
tc_rounds r at = tc_round r at ∷ highs_in (tc_part r at) (tc_count (tc_part r at) 0)

-- "Block: digest 32, author 2, round 8, verdict 1, QC, TC flag 1, TC if flag 1."
abbrev pub block_qc : ℕ
block_qc = 45

-- the QC of a TIMEOUT, and the TC of a TC event
abbrev pub timeout_qc : ℕ
timeout_qc = 13

abbrev pub tc_body : ℕ
tc_body = 2

unfoldable pub flag_at : List ℕ → ℕ
flag_at r = block_qc + qc_size r block_qc

unfoldable pub tc_at : List ℕ → ℕ
tc_at r = cond (eqb (get_or r (flag_at r) 0) 1) (flag_at r + 1) 0

unfoldable pub block_end : List ℕ → ℕ
block_end r = cond (eqb (tc_at r) 0) (flag_at r + 1) (tc_at r + tc_size r (tc_at r))

-- "payload verdict 1 (0 absent, 1 ready, 2 invalid)", the last byte of a PROPOSE
unfoldable pub payload_of : List ℕ → ℕ
payload_of r = get_or r (length r - 1) 0

unfoldable pub largest : List ℕ → ℕ
largest [] = 0
largest (x ∷ xs) = max x (largest xs)

-- "its largest high round"
unfoldable pub largest_high : List ℕ → ℕ
largest_high t = largest (highs_in t (tc_count t 0))

-- an entry stores its high round at its place; `set` past the end changes nothing, so a place that no member can have is passed over
unfoldable pub highs_up_to : List ℕ → ℕ → List ℕ
highs_up_to t zero = replicate signers_max 0
highs_up_to t (suc n) = set (highs_up_to t n) (place_in t n) (high_in t n)

unfoldable pub highs_of : List ℕ → List ℕ
highs_of t = highs_up_to t (tc_count t 0)
