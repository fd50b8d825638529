-- 01, The trace form: the table of events, and the records that get 16.
--     kind_of n           "The two-byte kind decides among seven event kinds."
--     Numbered n x        the kind with the number n, or the number where no kind has it
--     size_of r k         how many bytes a record of the kind has, by its counts
--     block_marks r       the verdicts and the flag of a block
--     marks_of r k        the verdicts and flags of a record of the kind
--     payloads_of r k     its payload verdict, if any
--     any_above m xs      whether one of some numbers is above m
--     are_marks r         whether the verdicts and the flag of a block are 0 or 1
--     in_range r k        whether the verdicts and flags of a record of the kind are in range
--     is_formed r k       whether a record has the form of the kind
--     form_if r k         the kind, where there is one and the record has its form
--     form_of r           the kind of a record that has the form of its kind, and None for any other
use Rattle.std.specs.Prelude.{◌≡◌, ℕ, ◌+◌, ◌*◌, Bool, true, false, not, cond, List, [], ◌∷◌, length, get_or, ltb, eqb, Option, Some, None, Result, MatchResult}
use Rattle.certificates.specs.Num.{num_at}
use Rattle.trace.specs.Record.{record_max}
use Rattle.trace.specs.Layout.{qc_verdict, qc_size, tc_verdict, tc_size, block_qc, timeout_qc, tc_body, flag_at, tc_at, block_end, payload_of}
use Rattle.trace.specs.declared.events.Kind.{Kind}
use Rattle.trace.specs.declared.events.Kind.TheVariants.{Start, Propose, Vote, Timeout, Tc, Loopback, Tick}
use Rattle.trace.specs.declared.events.UnknownKind.{UnknownKind}

abbrev pub kind_of : ℕ → Option Kind
kind_of n =
    cond (eqb n 1) (Some Start)
    (cond (eqb n 2) (Some Propose)
    (cond (eqb n 3) (Some Vote)
    (cond (eqb n 4) (Some Timeout)
    (cond (eqb n 5) (Some Tc)
    (cond (eqb n 6) (Some Loopback)
    (cond (eqb n 7) (Some Tick) None))))))

abbrev pub Numbered : ℕ → Result Kind UnknownKind → Type 0
Numbered n x = MatchResult x (λ k. kind_of n ≡ Some k) (λ e. (e.0 ≡ n) × (kind_of n ≡ None))

-- "wrong body length": the kind's two bytes and the body that the counts call for
abbrev pub size_of : List ℕ → Kind → ℕ
-- "count 2, own place 2, then key 32 and stake 4 each"
size_of r Start = 6 + 36 * num_at 2 r 2
-- "block, payload verdict 1"
size_of r Propose = block_end r + 1
-- "hash 32, round 8, author 2, verdict 1"
size_of r Vote = 45
-- "round 8, author 2, verdict 1, QC"
size_of r Timeout = timeout_qc + qc_size r timeout_qc
-- "TC"
size_of r Tc = tc_body + tc_size r tc_body
-- "block (verdict bytes 0 or 1, else not looked at)"
size_of r Loopback = block_end r
-- "empty"
size_of r Tick = 2

-- the verdicts and the flag of a block
unfoldable pub block_marks : List ℕ → List ℕ
block_marks r =
    get_or r 44 0 ∷ qc_verdict r block_qc ∷ get_or r (flag_at r) 0 ∷ cond (eqb (tc_at r) 0) [] (tc_verdict r (tc_at r) ∷ [])

-- "verdict or flag out of range"
abbrev pub marks_of : List ℕ → Kind → List ℕ
marks_of r Start = []
marks_of r Propose = block_marks r
marks_of r Vote = get_or r 44 0 ∷ []
marks_of r Timeout = get_or r 12 0 ∷ qc_verdict r timeout_qc ∷ []
marks_of r Tc = tc_verdict r tc_body ∷ []
marks_of r Loopback = block_marks r
marks_of r Tick = []

-- "payload verdict 1 (0 absent, 1 ready, 2 invalid)"
abbrev pub payloads_of : List ℕ → Kind → List ℕ
payloads_of r Start = []
payloads_of r Propose = payload_of r ∷ []
payloads_of r Vote = []
payloads_of r Timeout = []
payloads_of r Tc = []
payloads_of r Loopback = []
payloads_of r Tick = []

unfoldable pub any_above : ℕ → List ℕ → Bool
any_above m [] = false
any_above m (x ∷ xs) = cond (ltb m x) true (any_above m xs)

-- whether the verdicts and the flag of a block are 0 or 1
abbrev pub are_marks : List ℕ → Bool
are_marks r = not (any_above 1 (block_marks r))

abbrev pub in_range : List ℕ → Kind → Bool
in_range r k = cond (any_above 1 (marks_of r k)) false (not (any_above 2 (payloads_of r k)))

unfoldable pub is_formed : List ℕ → Kind → Bool
is_formed r k = cond (eqb (length r) (size_of r k)) (in_range r k) false

abbrev pub form_if : List ℕ → Option Kind → Option Kind
form_if r None = None
form_if r (Some k) = cond (is_formed r k) (Some k) None

unfoldable pub form_of : List ℕ → Option Kind
form_of r =
    cond (ltb (length r) 2) None
    (cond (ltb record_max (length r)) None
    (form_if r (kind_of (num_at 2 r 0))))
