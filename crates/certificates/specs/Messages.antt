-- 01, Certificates: a QC's equality with genesis, what the checks of certificates and of authors answer, for every input.
--     is_genesis h round   whether a QC of this hash and round equals genesis
--     Form                 how a certificate lies in bytes: where its verdict is, and how long an entry of its list
--     qc_form tc_form      of a QC and of a TC
--     verdict_in f part    the verdict byte
--     count_of f part      the count of entries
--     places_in f part     the places of the signers, in the list's order
--     is_whole f part      whether the bytes hold the whole list
--     unknown_to m p       whether place p is no member with stake
--     settled_of settled_by  the quorum, then the verdict: of a list of places, of a set of signers
--     settled_if           the same of the set that a walk over a list made, or the walk's refusal
--     check_from           the rest of a list of places, after those seen
--     check_part f m need part   a certificate of the form f
--     qc_check tc_check    a QC, a TC
--     equals_genesis part  whether the bytes are a QC that equals genesis
--     embedded_check       the QC inside a block or a timeout
--     author_check m p verdict   an author
use Rattle.std.specs.Prelude.{ℕ, ◌+◌, ◌*◌, List, [], ◌∷◌, ◌++◌, Bool, true, false, cond, length, eqb, ltb, leb, Result, Ok, Err}
use Rattle.certificates.specs.declared.numbers.Hash.{Hash}
use Rattle.certificates.specs.declared.numbers.Signers.{Signers}
use Rattle.certificates.specs.declared.numbers.Stake.{Stake}
pub use Rattle.certificates.specs.declared.messages.Form.{Form}
use Rattle.certificates.specs.declared.error.CertificateError.{CertificateError}
use Rattle.certificates.specs.declared.error.CertificateError.TheVariants.{AuthorityReuse, UnknownAuthority, RequiresQuorum, InvalidSignature, Cut}
use Rattle.certificates.specs.declared.error.AuthorError.{AuthorError}
use Rattle.certificates.specs.declared.error.AuthorError.TheVariants as author
use Rattle.certificates.specs.Numbers.{zero_hash, same_hash}
use Rattle.certificates.specs.Num.{num_at, hash_at, nums_at}
use Rattle.certificates.specs.Config.{members_max, stake_of}
use Rattle.certificates.specs.Signers.{no_signers, signers_of, weight_of, member, stake_on}

-- "It equals genesis when hash is 32 zero bytes and round is 0; signers and verdict do not count."
unfoldable pub is_genesis : Hash → ℕ → Bool
is_genesis h round = cond (same_hash h zero_hash) (eqb round 0) false

-- ---- the bytes of a certificate

-- "QC: hash 32, round 8, verdict 1, count 2, places 2 each."
abbrev pub qc_form : Form
qc_form = record { at = 40; stride = 2 }

-- "TC: round 8, verdict 1, count 2, then place 2 and high round 8 each."
abbrev pub tc_form : Form
tc_form = record { at = 8; stride = 10 }

unfoldable pub verdict_in : Form → List ℕ → ℕ
verdict_in f part = num_at 1 part f.at

unfoldable pub count_of : Form → List ℕ → ℕ
count_of f part = num_at 2 part (f.at + 1)

unfoldable pub places_in : Form → List ℕ → List ℕ
places_in f part = nums_at 2 f.stride (count_of f part) part (f.at + 3)

unfoldable pub is_whole : Form → List ℕ → Bool
is_whole f part = leb (f.at + 3 + f.stride * count_of f part) (length part)

-- ---- the check

-- "A place not below the count is unknown, with stake 0." A set of signers has room for no place past the most members.
unfoldable pub unknown_to : List ℕ → ℕ → Bool
unknown_to m p = cond (ltb p members_max) (eqb (stake_of m p) 0) true

-- "then the quorum; then the verdict"
unfoldable pub settled_of : List ℕ → ℕ → Bool → List ℕ → Result Signers CertificateError
settled_of m need verdict ps = cond (ltb (stake_on m ps) need) (Err RequiresQuorum) (cond verdict (Ok (signers_of ps)) (Err InvalidSignature))

unfoldable pub settled_by : List ℕ → ℕ → Bool → Signers → Result Signers CertificateError
settled_by m need verdict s = cond (ltb (weight_of m s) need) (Err RequiresQuorum) (cond verdict (Ok s) (Err InvalidSignature))

abbrev pub settled_if : List ℕ → ℕ → Bool → Result Signers CertificateError → Result Signers CertificateError
settled_if m need verdict (Ok s) = settled_by m need verdict s
settled_if m need verdict (Err e) = Err e

-- "walk signers in order, at each one REUSE first, then UNKNOWN"
unfoldable pub check_from : List ℕ → ℕ → Bool → List ℕ → List ℕ → Result Signers CertificateError
check_from m need verdict seen [] = settled_of m need verdict seen
check_from m need verdict seen (p ∷ ps) =
    cond (member p seen) (Err (AuthorityReuse record { 0 = p }))
    (cond (unknown_to m p) (Err (UnknownAuthority record { 0 = p })) (check_from m need verdict (seen ++ p ∷ []) ps))

unfoldable pub check_part : Form → List ℕ → ℕ → List ℕ → Result Signers CertificateError
check_part f m need part = cond (is_whole f part) (check_from m need (eqb (verdict_in f part) 1) [] (places_in f part)) (Err Cut)

unfoldable pub qc_check : List ℕ → ℕ → List ℕ → Result Signers CertificateError
qc_check m need part = check_part qc_form m need part

-- "A TC is checked the same way with its own quorum number, always."
unfoldable pub tc_check : List ℕ → ℕ → List ℕ → Result Signers CertificateError
tc_check m need part = check_part tc_form m need part

unfoldable pub equals_genesis : List ℕ → Bool
equals_genesis part = cond (leb qc_form.at (length part)) (is_genesis (hash_at part 0) (num_at 8 part 32)) false

-- "A genesis-equal QC inside a block or timeout is not checked. Any other: .."
unfoldable pub embedded_check : List ℕ → ℕ → List ℕ → Result Signers CertificateError
embedded_check m need part = cond (equals_genesis part) (Ok no_signers) (qc_check m need part)

-- ---- an author: "Unknown or stake 0; verdict"
unfoldable pub author_check : List ℕ → ℕ → ℕ → Result Stake AuthorError
author_check m p verdict =
    cond (eqb (stake_of m p) 0) (Err (author.UnknownAuthority record { 0 = p }))
    (cond (eqb verdict 0) (Err author.InvalidSignature) (Ok record { 0 = stake_of m p }))
