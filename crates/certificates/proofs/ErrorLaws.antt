-- The number of what a call found is the number of what its contract says; and back from a number to what was found: 0 says that nothing is wrong.
-- Assumes nothing.
use Prim.Native.Nat.{ℕ}
use mathlib.Core.Path.{◌≡◌, refl, ap, ◌∙◌}
use mathlib.Core.Logic.{◌≢◌}
use native.Mathlib.Omega.{arith}
use Rattle.std.specs.Prelude.{Option, None, Some, Result, Ok, Err}
use Rattle.certificates.specs.declared.numbers.Signers.{Signers}
use Rattle.certificates.specs.declared.numbers.Stake.{Stake}
use Rattle.certificates.specs.declared.error.CertificateError.{CertificateError}
use Rattle.certificates.specs.declared.error.CertificateError.TheVariants.{AuthorityReuse, UnknownAuthority, RequiresQuorum, InvalidSignature, Cut}
use Rattle.certificates.specs.declared.error.AuthorError.{AuthorError}
use Rattle.certificates.specs.declared.error.AuthorError.TheVariants as author
use Rattle.certificates.specs.declared.error.Refusal.{Refusal}
use Rattle.certificates.specs.declared.error.Refusal.TheVariants as refusal
use Rattle.certificates.specs.Error.{done, code, number_of, author_number, setup_number}

pub number_same : {r : ℕ} (c : Result Signers CertificateError) {d : Result Signers CertificateError} (quorum : ℕ) → r ≡ number_of c quorum → c ≡ d → r ≡ number_of d quorum
number_same c quorum e f = e ∙ ap (λ (x : Result Signers CertificateError). number_of x quorum) f

pub author-same : {r : ℕ} (a : Result Stake AuthorError) {b : Result Stake AuthorError} → r ≡ author_number a → a ≡ b → r ≡ author_number b
author-same a e f = e ∙ ap author_number f

pub setup-same : {r : ℕ} (s : Option Stake) {t : Option Stake} → r ≡ setup_number s → s ≡ t → r ≡ setup_number t
setup-same s e f = e ∙ ap setup_number f

pub number-accepted : (c : Result Signers CertificateError) (quorum : ℕ) → quorum ≢ done → number_of c quorum ≡ done → (s : Signers) × (c ≡ Ok s)
number-accepted (Ok s) quorum n e = (s, refl)
number-accepted (Err (AuthorityReuse p)) quorum n e = absurd (omega arith)
number-accepted (Err (UnknownAuthority p)) quorum n e = absurd (omega arith)
number-accepted (Err RequiresQuorum) quorum n e = absurd (n e)
number-accepted (Err InvalidSignature) quorum n e = absurd (omega arith)
number-accepted (Err Cut) quorum n e = absurd (omega arith)

pub number-valid : (a : Result Stake AuthorError) → author_number a ≡ done → (s : Stake) × (a ≡ Ok s)
number-valid (Ok s) e = (s, refl)
number-valid (Err (author.UnknownAuthority p)) e = absurd (omega arith)
number-valid (Err author.InvalidSignature) e = absurd (omega arith)

pub number-total : (s : Option Stake) → setup_number s ≡ done → (t : Stake) × (s ≡ Some t)
number-total None e = absurd (omega arith)
number-total (Some t) e = (t, refl)

-- a refusal is not 0
pub code-some : (r : Refusal) → code r ≢ done
code-some refusal.Stale e = absurd (omega arith)
code-some refusal.WaitParent e = absurd (omega arith)
code-some refusal.WaitPayload e = absurd (omega arith)
code-some refusal.BadRecord e = absurd (omega arith)
code-some refusal.BadSetup e = absurd (omega arith)
code-some refusal.NoRoom e = absurd (omega arith)
code-some refusal.RoundTooHigh e = absurd (omega arith)
code-some refusal.ListTooLong e = absurd (omega arith)
code-some refusal.WrongLeader e = absurd (omega arith)
code-some refusal.UnknownAuthority e = absurd (omega arith)
code-some refusal.InvalidSignature e = absurd (omega arith)
code-some refusal.AuthorityReuse e = absurd (omega arith)
code-some refusal.QcRequiresQuorum e = absurd (omega arith)
code-some refusal.TcRequiresQuorum e = absurd (omega arith)
code-some refusal.InvalidPayload e = absurd (omega arith)
code-some refusal.TableFull e = absurd (omega arith)
code-some refusal.TalliesFull e = absurd (omega arith)
code-some refusal.AncestorAbsent e = absurd (omega arith)
code-some refusal.RoundNotBelow e = absurd (omega arith)
code-some refusal.EmptyTc e = absurd (omega arith)
code-some refusal.NotStarted e = absurd (omega arith)
code-some refusal.StartedAgain e = absurd (omega arith)
