-- The rules that W11 rests on, over lives: what a vote says of a block and its parent, and what a commit delivers. Each is a rule of 01; that a course of the definition
-- keeps them all is `keeps-rules` of proofs/Events.
--     Parent, Blocks          what a block stands on; one block to a digest
--     round_of, below         the round of what a block stands on
--     Backed d                the block has a certificate
--     Sound d                 what is so of a block that a member who obeys votes for
--     Rule l d                the voting rule, for a block that a member votes for
--     Prudent l               the rules of voting
--     Head, Walk, Commit, Nothing, Delivers    the rules of delivery
--     Rules                   all of them, of all members that obey
--     Starts xs ys            xs is the start of ys
--     Extends a d             block d has block a among its ancestors, or is a
use Rattle.std.specs.Prelude.{ℕ, suc, ◌≤◌, ◌<◌, ◌≡◌, ◌⊎◌, List, [], ◌∷◌, ◌++◌}
use Rattle.certificates.specs.declared.numbers.Hash.{Hash}
use Rattle.runs.specs.Lives.{Life, Party, Sitting, Certified, Ended, Trusted}

-- what a block stands on, by its QC: genesis, or the block that the QC's hash names
pub data Parent : Type 0 where
  genesis : Parent
  child-of : Hash → Parent

-- One digest names one block: a block's round and parent are functions of its digest.
pub record Blocks : Type 0 where
  pub round : Hash → ℕ
  pub parent : Hash → Parent

-- one list is the start of the other
abbrev pub Starts : List Hash → List Hash → Type 0
Starts xs ys = (zs : List Hash) × (xs ++ zs ≡ ys)

module _ (P : Party) (B : Blocks) where
  -- the round of what a block stands on, which is the round of its QC
  unfoldable pub round_of : Parent → ℕ
  round_of genesis = 0
  round_of (child-of d) = B.round d

  abbrev pub below : Hash → ℕ
  below d = round_of (B.parent d)

  abbrev pub Backed : Hash → Type 0
  Backed d = Certified P d (B.round d)

  -- ---- the rules of voting, one event at a time

  -- what is so of a block that a member who obeys votes for
  pub record Sound (d : Hash) : Type 0 where
    pub lower : below d < B.round d
    pub backed : (e : Hash) → B.parent d ≡ child-of e → Backed e

  -- The voting rule, for a block that a member votes for: its QC is of the round before; or the round before is ended, with high rounds not above its QC's; or the member
  -- made it by itself, on its high QC, once it had passed the round before.
  pub data Rule (l : Life) (d : Hash) : Type 0 where
    follows : suc (below d) ≡ B.round d → Rule l d
    resumes : (t : ℕ) → suc t ≡ B.round d → Ended P t (below d) → Rule l d
    own : (j : ℕ) → B.round d ≤ l.round (suc j) → l.high (suc j) ≤ below d → Rule l d

  pub record Prudent (r : Life) : Type 0 where
    pub round-rises : (i : ℕ) → r.round i ≤ r.round (suc i)
    pub vote-in-round : (i : ℕ) (d : Hash) (n : ℕ) → r.casts i d n → r.round i ≤ n
    pub high-rises : (i : ℕ) → r.high i ≤ r.high (suc i)
    pub vote-high : (i : ℕ) (d : Hash) (n : ℕ) → r.casts i d n → below d ≤ r.high (suc i)
    pub vote-sound : (i : ℕ) (d : Hash) (n : ℕ) → r.casts i d n → Sound d
    pub vote-rule : (i : ℕ) (d : Hash) (n : ℕ) → r.casts i d n → Rule r d
    pub timeout-high : (i t h : ℕ) → r.expires i t h → r.high i ≤ h

  -- ---- the rules of delivery

  -- a block with a certified child of the next round
  pub record Head (b : Hash) : Type 0 where
    pub next : Hash
    pub on : B.parent next ≡ child-of b
    pub consecutive : B.round next ≡ suc (B.round b)
    pub backed : Backed next

  -- The walk from a block down to the last committed round l, oldest first. It ends at a block one round above l, or whose parent is not above l.
  pub data Walk (l : ℕ) : Hash → List Hash → Type 0 where
    near : {d : Hash} → B.round d ≤ suc l → Walk l d (d ∷ [])
    end : {d : Hash} → below d ≤ l → Walk l d (d ∷ [])
    more : {d e : Hash} {ds : List Hash} → B.parent d ≡ child-of e → l < B.round e → Walk l e ds → Walk l d (ds ++ d ∷ [])

  pub record Commit (r : Life) (i : ℕ) : Type 0 where
    pub top : Hash
    pub head : Head top
    pub newer : r.committed i < B.round top
    pub walk : Walk (r.committed i) top (r.commits i)
    pub kept : r.committed (suc i) ≡ B.round top

  pub record Nothing (r : Life) (i : ℕ) : Type 0 where
    pub none : r.commits i ≡ []
    pub kept : r.committed (suc i) ≡ r.committed i

  pub record Delivers (r : Life) : Type 0 where
    pub start : r.committed 0 ≡ 0
    pub step : (i : ℕ) → Nothing r i ⊎ Commit r i

  pub record Rules : Type 0 where
    pub trusted : Trusted P
    pub prudent : (p : ℕ) → Sitting P p → Prudent (P.life p)
    pub delivers : (p : ℕ) → Sitting P p → Delivers (P.life p)

  -- block d has block a among its ancestors, or is a
  pub data Extends (a : Hash) : Hash → Type 0 where
    here : Extends a a
    over : {d e : Hash} → B.parent d ≡ child-of e → Extends a e → Extends a d
