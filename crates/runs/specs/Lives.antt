-- The members of one committee seen from outside: what each signs and delivers, moment by moment, and the rules that each keeps. Nothing here knows how a
-- step is worked out, nor what a course is.
--     Life                      a member's life, by moments
--     Party                     stakes, those who break the rules, and the lives of the others
--     Sitting P p               place p is a member that obeys
--     Certified P h n           a quorum, and those of it who obey voted for the hash h in the round n
--     Ended P t q               a quorum, and those of it who obey timed out the round t with high rounds at most q
--     Careful l                 the rules of voting, as far as rounds go
--     gathered xs n             what the first n moments give
use Rattle.std.specs.Prelude.{ℕ, zero, suc, ◌*◌, ◌≤◌, ◌<◌, List, [], ◌++◌, ◌≡◌, length}
use Rattle.certificates.specs.declared.numbers.Hash.{Hash}
use Rattle.certificates.specs.Config.{sum, quorum_of}
use Rattle.certificates.specs.Signers.{is_in, stake_in}
use Rattle.outputs.specs.Records.{Rec}

-- round, last voted, high QC's and last committed round before moment i; what it signs; what it delivers, oldest first, as digests and as COMMITs
pub record Life : Type 1 where
  pub round : ℕ → ℕ
  pub voted : ℕ → ℕ
  pub high : ℕ → ℕ
  pub committed : ℕ → ℕ
  pub casts : ℕ → Hash → ℕ → Type 0
  pub expires : ℕ → ℕ → ℕ → Type 0
  pub commits : ℕ → List Hash
  pub records : ℕ → List Rec

pub record Party : Type 1 where
  pub stakes : List ℕ
  pub breakers : List ℕ
  pub life : ℕ → Life

pub record Careful (l : Life) : Type 0 where
  pub voted-rises : (i : ℕ) → l.voted i ≤ l.voted (suc i)
  pub vote-new : (i : ℕ) (d : Hash) (n : ℕ) → l.casts i d n → l.voted i < n
  pub vote-kept : (i : ℕ) (d : Hash) (n : ℕ) → l.casts i d n → n ≤ l.voted (suc i)
  pub timeout-kept : (i t h : ℕ) → l.expires i t h → t ≤ l.voted (suc i)
  -- at most one vote or timeout in a moment
  pub vote-one : (i : ℕ) (d e : Hash) (n : ℕ) → l.casts i d n → l.casts i e n → d ≡ e
  pub vote-only : (i : ℕ) (d : Hash) (n t h : ℕ) → l.casts i d n → l.expires i t h → ⊥

unfoldable pub gathered : {A : Type 0} → (ℕ → List A) → ℕ → List A
gathered xs zero = []
gathered xs (suc n) = gathered xs n ++ xs n

module _ (P : Party) where
  pub record Sitting (p : ℕ) : Type 0 where
    pub member : p < length P.stakes
    pub obeys : is_in P.breakers p ≡ 0

  pub record Quorum (ws : List ℕ) : Type 0 where
    pub enough : quorum_of P.stakes ≤ stake_in P.stakes ws
    pub members : (p : ℕ) → is_in ws p ≡ 1 → p < length P.stakes

  abbrev pub Voted : ℕ → Hash → ℕ → Type 0
  Voted p d n = (i : ℕ) × ((P.life p).casts i d n)

  abbrev pub TimedOut : ℕ → ℕ → ℕ → Type 0
  TimedOut p t h = (i : ℕ) × ((P.life p).expires i t h)

  pub record Certified (d : Hash) (n : ℕ) : Type 0 where
    pub signers : List ℕ
    pub quorum : Quorum signers
    pub signed : (p : ℕ) → is_in signers p ≡ 1 → Sitting p → Voted p d n

  pub record Ended (t q : ℕ) : Type 0 where
    pub signers : List ℕ
    pub quorum : Quorum signers
    pub signed : (p : ℕ) → is_in signers p ≡ 1 → Sitting p → (h : ℕ) × (h ≤ q) × TimedOut p t h

  pub record Trusted : Type 0 where
    pub few : 3 * stake_in P.stakes P.breakers ≤ sum P.stakes
    pub careful : (p : ℕ) → Sitting p → Careful (P.life p)
