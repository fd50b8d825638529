-- The votes and timeouts of one member that obeys, and certificates. Assumes nothing.
--     order, rises             numbers one after the other
--     one-vote, vote-first     one life: one vote to a round; a timeout of a round follows the vote for it
--     shared                   two quorums share a member that obeys
--     one-digest, voter, positive     certificates of one round name one digest; each has the vote of a member that obeys; its round is not 0
use Prim.Native.Nat.{ℕ, zero, suc, ◌≤◌, ◌<◌}
use mathlib.Core.Logic.{◌⊎◌, inl, inr, ⊎_elim}
use mathlib.Core.Path.{◌≡◌, refl, ap}
use mathlib.Core.List.{List}
use native.Mathlib.Omega.{arith}
use Rattle.certificates.specs.declared.numbers.Hash.{Hash}
use Rattle.certificates.specs.Signers.{is_in}
use Rattle.certificates.proofs.Overlap.{quorums-common}
use Rattle.runs.specs.Lives.{Life, Party, Careful, Sitting, Quorum, Voted, Certified, Trusted}

pub order : (i j : ℕ) → (i < j) ⊎ ((i ≡ j) ⊎ (j < i))
order zero zero = inr (inl refl)
order zero (suc j) = inl (omega arith)
order (suc i) zero = inr (inr (omega arith))
order (suc i) (suc j) = ⊎_elim (λ h. inl (omega arith)) (λ o. ⊎_elim (λ e. inr (inl (ap suc e))) (λ h. inr (inr (omega arith))) o) (order i j)

pub rises : (f : ℕ → ℕ) → ((i : ℕ) → f i ≤ f (suc i)) → (i j : ℕ) → i < j → f (suc i) ≤ f j
rises f h i zero l = absurd (omega arith)
rises f h i (suc j) l =
    ⊎_elim
    (λ k. omega (arith, rises f h i j k, h j))
    (λ o. ⊎_elim (λ e. rw e (omega arith)) (λ k. absurd (omega arith)) o)
    (order i j)

module _ (l : Life) (k : Careful l) where
  -- Votes of one life for one round are for one hash.
  pub one-vote : (i j : ℕ) (d e : Hash) (n : ℕ) → l.casts i d n → l.casts j e n → d ≡ e
  one-vote i j d e n a b =
      ⊎_elim
      (λ h. absurd (omega (arith, rises l.voted k.voted-rises i j h, k.vote-kept i d n a, k.vote-new j e n b)))
      (λ o. ⊎_elim
      (λ q. k.vote-one i d e n a (rw q b))
      (λ h. absurd (omega (arith, rises l.voted k.voted-rises j i h, k.vote-kept j e n b, k.vote-new i d n a)))
      o)
      (order i j)

  -- No vote follows a timeout of its round or a later one.
  pub vote-first : (i j : ℕ) (d : Hash) (n t h : ℕ) → l.casts i d n → l.expires j t h → n ≤ t → i < j
  vote-first i j d n t h a b late =
      ⊎_elim
      (λ u. u)
      (λ o. ⊎_elim
      (λ q. absurd (k.vote-only i d n t h a (rw q b)))
      (λ u. absurd (omega (arith, rises l.voted k.voted-rises j i u, k.timeout-kept j t h b, k.vote-new i d n a)))
      o)
      (order i j)

module _ (P : Party) (T : Trusted P) where
  pub shared : (v w : List ℕ) → Quorum P v → Quorum P w → (p : ℕ) × (is_in v p ≡ 1) × (is_in w p ≡ 1) × Sitting P p
  shared v w a b =
      let t = quorums-common P.stakes v w a.enough b.enough P.breakers T.few in
      (t.0, t.1, t.2, record { member = a.members t.0 t.1; obeys = t.3 })

  -- Vote certificates of one round name one digest.
  pub one-digest : (d e : Hash) (n : ℕ) → Certified P d n → Certified P e n → d ≡ e
  one-digest d e n c f =
      let s = shared c.signers f.signers c.quorum f.quorum in
      let a = c.signed s.0 s.1 s.3 in
      let b = f.signed s.0 s.2 s.3 in
      one-vote (P.life s.0) (T.careful s.0 s.3) a.0 b.0 d e n a.1 b.1

  -- A certificate has the vote of a member that obeys.
  pub voter : (d : Hash) (n : ℕ) → Certified P d n → (p : ℕ) × Sitting P p × Voted P p d n
  voter d n c =
      let s = shared c.signers c.signers c.quorum c.quorum in
      (s.0, s.3, c.signed s.0 s.1 s.3)

  pub positive : (d : Hash) (n : ℕ) → Certified P d n → 0 < n
  positive d n c = let v = voter d n c in omega (arith, (T.careful v.0 v.1).vote-new v.2.0 d n v.2.1)
