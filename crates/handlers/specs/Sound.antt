-- What a handler may rely on: a record that counts as started, and a check's answers.
--     Sound m own votes timeouts     the committee and the own place within the limits, tallies of the right sizes and none too heavy
--     first a b                      the first of two checks that is not passed
--     signers_of c                   the signers that a check accepted; none where it did not
--     Answers n s r                  r is the answer of checks whose number is n, and which accept the signers s
use Rattle.std.specs.Prelude.{ℕ, ◌≤◌, ◌<◌, cond, List, ◌≡◌, eqb, length, Result, Ok, Err}
use Rattle.certificates.specs.Config.{members_max, total_max, sum}
use Rattle.certificates.specs.declared.numbers.Signers.{Signers}
use Rattle.certificates.specs.declared.error.CertificateError.{CertificateError}
use Rattle.certificates.specs.declared.error.Refusal.{Refusal}
use Rattle.certificates.specs.Error.{code}
use Rattle.aggregator.specs.Tally.{vote_width, timeout_width}
use Rattle.aggregator.specs.Tallies.{vote_tallies, timeout_tallies, votes_length, timeouts_length, Light}

pub record Sound (m : List ℕ) (own : ℕ) (votes timeouts : List ℕ) : Type 0 where
  pub few : length m ≤ members_max
  pub member : own < length m
  pub small : sum m ≤ total_max
  pub long : length votes ≡ votes_length
  pub wide : length timeouts ≡ timeouts_length
  pub light : Light vote_width vote_tallies votes total_max
  pub late : Light timeout_width timeout_tallies timeouts total_max

abbrev pub first : ℕ → ℕ → ℕ
first a b = cond (eqb a 0) b a

abbrev pub signers_of : Result Signers CertificateError → Signers
signers_of (Ok s) = s
signers_of (Err e) = record { 0 = 0 }

-- what checks answer whose number is n, with the signers s where they are passed
pub record Answers (n : ℕ) (s : Signers) (x : Result Signers Refusal) : Type 0 where
  pub refused : (r : Refusal) → x ≡ Err r → code r ≡ n
  pub passed : (y : Signers) → x ≡ Ok y → (n ≡ 0) × (y ≡ s)
