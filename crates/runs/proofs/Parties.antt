-- The members of a committee as lives: what a member that obeys signed, it signed at a moment of its course, by the rules of voting. Assumes nothing.
--     party_of M                the members as lives
--     sits, sitting             who obeys
--     cast, expired             what is signed is signed at a moment
--     quorum-of                 a quorum of members with stake, as a set of places
--     trusted                   those who break the rules are few, and all others keep the rules of voting
use Prim.Native.Nat.{ℕ, suc}
use mathlib.Core.Path.{refl}
use Rattle.certificates.specs.declared.numbers.Hash.{Hash}
use Rattle.certificates.specs.declared.numbers.Signers.{Signers}
use Rattle.certificates.specs.Signers.{words, weight_of}
use Rattle.certificates.proofs.ConfigLaws.{stake-member}
use Rattle.runs.specs.Lives.{Party, Sitting, Quorum, Voted, TimedOut, Trusted}
use Rattle.runs.specs.Signed.{Members, Sits, Signed, Expired}
use Rattle.runs.proofs.Tallied.{Quorate}
use Rattle.runs.proofs.CourseLives.{life_of, careful, signed-at}

module _ (M : Members) where
  abbrev pub party_of : Party
  party_of = record { stakes = M.stakes; breakers = M.breakers; life = λ p. life_of (M.course p) }

  pub sits : (p : ℕ) → Sitting party_of p → Sits M p
  sits p s = record { member = s.member; obeys = s.obeys }

  pub sitting : (p : ℕ) → Sits M p → Sitting party_of p
  sitting p s = record { member = s.member; obeys = s.obeys }

  pub cast : {p n : ℕ} {h : Hash} → Signed M p h n → Voted party_of p h n
  cast {p} s = let x = signed-at (M.course p) refl s.written in (suc x.0, (s.to, x.1))

  pub expired : {p t h : ℕ} → Expired M p t h → TimedOut party_of p t h
  expired {p} s = let x = signed-at (M.course p) refl s.written in (suc x.0, (s.high, s.is, x.1))

  pub quorum-of : (s : Signers) → Quorate M.stakes s → Quorum party_of (words s)
  unfolding weight_of
  quorum-of s q = record { enough = q.quorum; members = λ p b. stake-member M.stakes p (q.members p b).stake }

  pub trusted : Trusted party_of
  trusted = record { few = M.few; careful = λ p o. careful (M.course p) }
