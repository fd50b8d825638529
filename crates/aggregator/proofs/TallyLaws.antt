-- Laws of a single tally. In order:
--     is-vote-..., of-..., heavy-..., keep-..., append-...     one for each way out of the functions on a tally
--     answer-..., used-has  what an answer says
--     kept-...                       a tally that is dropped or kept
--     name-...                       a name in a word of names
--     Mark, author-...               a tally with one more author
--     Kind, vote-kind, timeout-kind  what the two kinds of tally have in common: whatever goes by it is proved once
--     vote-is, timeout-is            what a tally is that is looked up
-- Assumes nothing.
use Prim.Native.Nat.{ℕ, ◌+◌, ◌*◌, ◌/◌, ◌%◌, ◌≤◌, ◌<◌, ◌^◌}
use mathlib.Core.Bool.{Bool, true, false, cond}
use mathlib.Core.List.{List}
use mathlib.Core.Path.{◌≡◌, refl, sym, ap, ◌∙◌}
use native.Mathlib.Nat.{zero-div, div_self}
use native.Mathlib.Omega.{arith}
use borrow.Author.Tests.{eq-eqb, ne_eqb, lt-ltb, le-ltb, ltb-false, eqb-true}
use lib.Bits.{bit_or, or_shr, or_step}
use lib.Dec.{eqb, ltb}
use lib.Pow.{pow_pos}
use lib.ListN.{length, get_or, set, length-set, length-replicate}
use lib.Seq.{get_or-set_same, get_or-set_other}
use Rattle.aggregator.specs.declared.tallies.Quorum.{Quorum}
use Rattle.std.specs.Prelude.{None, Ok, Err}
use Rattle.aggregator.specs.declared.tallies.AddError.TheVariants.{NoRoom, Used}
use Rattle.certificates.specs.declared.numbers.Hash.{Hash}
use Rattle.certificates.specs.declared.numbers.Signers.{Signers}
use Rattle.certificates.specs.Numbers.{same_hash}
use Rattle.certificates.proofs.NumbersLaws.{both, hash-same}
use Rattle.aggregator.specs.Rows.{zeros}
use Rattle.aggregator.specs.Tally.{fields, places, vote_width, timeout_width, used_of, round_of, weight_of, names_of, hash_of, is_free, is_vote, round_with, of_round, heavy_with, kept, new_vote, new_timeout, has_name, with_name, signers, with_high, no_high, with_author, counted, answer_of, AddedAs, Added, quorum_at}
use Rattle.aggregator.specs.Keys.{Keyed, vote-keyed, timeout-keyed}
use Rattle.aggregator.proofs.Rows.{one_shl, zeros-at}

-- ---- the ways out of the functions on a tally

module _ (round : ℕ) (hash : Hash) (t : List ℕ) where
  pub is-vote-free : get_or t 0 0 ≡ 0 → false ≡ is_vote round hash t
  unfolding is_vote
  is-vote-free h = rw (eq-eqb _ _ h)

  module _ (u : get_or t 0 0 ≡ 0 → ⊥) where
    pub is-vote-same : {b : Bool} → get_or t 1 0 ≡ round → b ≡ same_hash (hash_of t) hash → b ≡ is_vote round hash t
    unfolding is_vote
    is-vote-same r e = rw (ne_eqb _ _ u, eq-eqb _ _ r) e

    pub is-vote-other : (get_or t 1 0 ≡ round → ⊥) → false ≡ is_vote round hash t
    unfolding is_vote
    is-vote-other r = rw (ne_eqb _ _ u, ne_eqb _ _ r)

module _ (round used of : ℕ) where
  pub of-free : used ≡ 0 → false ≡ round_with used of round
  of-free h = rw (eq-eqb _ _ h)

  pub of-used : (used ≡ 0 → ⊥) → eqb of round ≡ round_with used of round
  of-used h = rw (ne_eqb _ _ h)

pub heavy-under : (used weight total : ℕ) → weight ≤ total → false ≡ heavy_with used weight total
heavy-under used weight total h = rw (le-ltb _ _ h) (by-mark (eqb used 0))
  where
    by-mark : (e : Bool) → false ≡ cond e false false
    by-mark true = refl
    by-mark false = refl

module _ (round : ℕ) (t : List ℕ) where
  pub keep-dropped : {t' : List ℕ} → (get_or t 0 0 ≡ 0 → ⊥) → get_or t 1 0 < round → t' ≡ zeros (length t) → t' ≡ kept round t
  unfolding kept
  keep-dropped u h e = rw (ne_eqb _ _ u, lt-ltb _ _ h) e

  pub keep-late : (get_or t 0 0 ≡ 0 → ⊥) → round ≤ get_or t 1 0 → t ≡ kept round t
  unfolding kept
  keep-late u h = rw (ne_eqb _ _ u, le-ltb _ _ h)

  pub keep-free : get_or t 0 0 ≡ 0 → t ≡ kept round t
  unfolding kept
  keep-free h = rw (eq-eqb _ _ h)

pub timeout-opened : (round : ℕ) (t : List ℕ) {t' : List ℕ} → t' ≡ zeros (length t) → length t ≡ timeout_width → set (set t' 0 1) 1 round ≡ new_timeout round
unfolding new_timeout
timeout-opened round t e l = rw (e, l)

module _ (mark : List ℕ → List ℕ) (i : ℕ) (t : List ℕ) (p stake need : ℕ) where
  pub append-used : get_or t 3 0 / 2 ^ p % 2 ≡ 1 → AddedAs (answer_of i t p stake need) (counted mark t p stake need) (Err Used) t
  unfolding answer_of counted
  append-used h = record { answer = rw (eq-eqb _ _ h); table = rw (eq-eqb _ _ h) }

  module _ (new : get_or t 3 0 / 2 ^ p % 2 ≡ 1 → ⊥) (h : p < places) {t' : List ℕ} where
    pub append-more : get_or t 2 0 + stake < need
        → t' ≡ mark (set (set t 3 (bit_or (get_or t 3 0) (1 * 2 ^ p % 2 ^ 64))) 2 (get_or t 2 0 + stake))
        → AddedAs (answer_of i t p stake need) (counted mark t p stake need) (Ok None) t'
    unfolding answer_of counted with_author
    append-more m e =
        record {
          answer = rw (ne_eqb _ _ new, lt-ltb _ _ m);
          table = rw (ne_eqb _ _ new, lt-ltb _ _ m) (rw (one_shl p h) at e);
        }

    pub append-full : need ≤ get_or t 2 0 + stake
        → t' ≡ mark (set (set t 3 (bit_or (get_or t 3 0) (1 * 2 ^ p % 2 ^ 64))) 2 0)
        → AddedAs (answer_of i t p stake need) (counted mark t p stake need) (quorum_at i (signers (bit_or (get_or t 3 0) (1 * 2 ^ p % 2 ^ 64)))) t'
    unfolding answer_of counted with_author
    append-full m e =
        record {
          answer = rw (one_shl p h, ne_eqb _ _ new, le-ltb _ _ m);
          table = rw (ne_eqb _ _ new, le-ltb _ _ m) (rw (one_shl p h) at e);
        }

name-used : (b d : Bool) (a : Added) → (Err Used) ≡ cond b (Err Used) (cond d (Ok None) a) → (a ≡ Err Used → ⊥) → b ≡ true
name-used true d a e h = refl
name-used false true a e h = absurd (let z : ◌≡◌ {A = ℕ} 0 1 = cc in omega arith)
name-used false false a e h = absurd (h (sym e))

no-room-never : (b d : Bool) (i : ℕ) (s : Signers) → cond b (Err Used) (cond d (Ok None) (quorum_at i s)) ≡ Err NoRoom → ⊥
no-room-never true d i s e = let z : ◌≡◌ {A = ℕ} 0 1 = cc in omega arith
no-room-never false true i s e = let z : ◌≡◌ {A = ℕ} 0 1 = cc in omega arith
no-room-never false false i s e = let z : ◌≡◌ {A = ℕ} 0 1 = cc in omega arith

pub quorum-same : {i j : ℕ} {s u : Signers} → quorum_at i s ≡ quorum_at j u → (i ≡ j) × (s ≡ u)
quorum-same {i} {j} {s} {u} e =
    let p : ◌≡◌ {A = Quorum} (record { row = i; signers = s }) (record { row = j; signers = u }) = cc in
    (ap (λ (q : Quorum). q.row) p, ap (λ (q : Quorum). q.signers) p)

full-row : (b d : Bool) (i j : ℕ) (s u : Signers) → cond b (Err Used) (cond d (Ok None) (quorum_at i s)) ≡ quorum_at j u → i ≡ j
full-row true d i j s u e = absurd (let z : ◌≡◌ {A = ℕ} 0 1 = cc in omega arith)
full-row false true i j s u e = absurd (let z : ◌≡◌ {A = ℕ} 0 1 = cc in omega arith)
full-row false false i j s u e = (quorum-same e).0

module _ (i : ℕ) (t : List ℕ) (p stake need : ℕ) where
  -- there is room in a tally
  pub answer-some : answer_of i t p stake need ≡ Err NoRoom → ⊥
  unfolding answer_of
  answer-some e = no-room-never (has_name (names_of t) p) (ltb (weight_of t + stake) need) i _ e

  -- and the row of a quorum is its row
  pub answer-row : {j : ℕ} {s : Signers} → answer_of i t p stake need ≡ quorum_at j s → i ≡ j
  unfolding answer_of
  answer-row {j} {s} e = full-row (has_name (names_of t) p) (ltb (weight_of t + stake) need) i j _ s e

  -- who is refused was counted already
  pub used-has : (Err Used) ≡ answer_of i t p stake need → has_name (names_of t) p ≡ true
  unfolding answer_of
  used-has e = name-used (has_name (names_of t) p) (ltb (weight_of t + stake) need) _ e (λ q. let z : ◌≡◌ {A = ℕ} 0 1 = cc in omega arith)

-- ---- a tally that is dropped or kept

kept-two : (b d : Bool) (t : List ℕ) → length (cond b t (cond d (zeros (length t)) t)) ≡ length t
kept-two false true t = length-replicate (length t) 0
kept-two false false t = refl
kept-two true d t = refl

pub kept-length : (round : ℕ) (t : List ℕ) → length (kept round t) ≡ length t
unfolding kept
kept-length round t = kept-two (is_free t) (ltb (round_of t) round) t

kept_same : (b d : Bool) (round of : ℕ) (t : List ℕ) → d ≡ ltb of round → b ≡ is_free t → (used_of (cond b t (cond d (zeros (length t)) t)) ≡ 0 → ⊥)
    → (cond b t (cond d (zeros (length t)) t) ≡ t) × (round ≤ of)
kept_same true d round of t e f u = absurd (u (eqb-true _ _ (sym f)))
kept_same false true round of t e f u = absurd (u (zeros-at (length t) 0))
kept_same false false round of t e f u = (refl, ltb-false _ _ (sym e))

-- a tally that is still in use is as it was, and not below the round
pub kept-used : (round : ℕ) (t : List ℕ) → (used_of (kept round t) ≡ 0 → ⊥) → (kept round t ≡ t) × (round ≤ round_of t)
unfolding kept
kept-used round t u = kept_same (is_free t) (ltb (round_of t) round) round (round_of t) t refl refl u

-- ---- what a test that held says

past-free : (b x : Bool) → cond b false x ≡ true → x ≡ true
past-free true x e = absurd (let z : ◌≡◌ {A = ℕ} 0 1 = cc in omega arith)
past-free false x e = e

-- ---- names

pub name-none : (p : ℕ) → has_name 0 p ≡ true → ⊥
name-none p e = let z : 0 / 2 ^ p % 2 ≡ 1 = eqb-true _ _ e in let q : 0 / 2 ^ p ≡ 0 = zero-div (2 ^ p) in omega arith

pub name-with : (names p : ℕ) → has_name (with_name names p) p ≡ true
name-with names p =
    let one : 2 ^ p / 2 ^ p ≡ 1 = div_self (pow_pos p) in
    let e : with_name names p / 2 ^ p ≡ bit_or (names / 2 ^ p) 1 = rw (or_shr names (2 ^ p) p, one) in
    let odd : with_name names p / 2 ^ p % 2 ≡ 1 = rw (e, or_step (names / 2 ^ p) 1) (omega arith) in
    eq-eqb _ _ odd

-- ---- a tally with one more author

module _ (t : List ℕ) (names weight : ℕ) where
  set-others : (k : ℕ) → (k ≡ 2 → ⊥) → (k ≡ 3 → ⊥) → get_or (set (set t 3 names) 2 weight) k 0 ≡ get_or t k 0
  set-others k a b = get_or-set_other (set t 3 names) 2 k weight 0 a ∙ get_or-set_other t 3 k names 0 b

  module _ (h : fields ≤ length t) where
    set-names : get_or (set (set t 3 names) 2 weight) 3 0 ≡ names
    set-names = get_or-set_other (set t 3 names) 2 3 weight 0 (λ e. omega arith) ∙ get_or-set_same t 3 names 0 (omega arith)

    set-weight : get_or (set (set t 3 names) 2 weight) 2 0 ≡ weight
    set-weight = get_or-set_same (set t 3 names) 2 weight 0 (rw length-set (omega arith))

-- what is stored besides leaves the length and the first numbers
pub record Mark (mark : List ℕ → List ℕ) : Type 0 where
  pub size : (t : List ℕ) → length (mark t) ≡ length t
  pub fixed : (t : List ℕ) (k : ℕ) → k < fields → get_or (mark t) k 0 ≡ get_or t k 0

vote-mark : Mark no_high
unfolding no_high
vote-mark = record { size = λ t. refl; fixed = λ t k h. refl }

timeout-mark : (p high : ℕ) → Mark (with_high p high)
unfolding with_high
timeout-mark p high = record { size = λ t. length-set t (fields + p) high; fixed = λ t k h. get_or-set_other t (fields + p) k high 0 (λ e. omega arith) }

module _ {mark : List ℕ → List ℕ} (m : Mark mark) (t : List ℕ) (p stake need : ℕ) where
  pub author-length : length (with_author mark t p stake need) ≡ length t
  unfolding with_author
  author-length = rw (m.size, length-set, length-set)

  -- the used mark and the round stay
  pub author-used : used_of (with_author mark t p stake need) ≡ used_of t
  unfolding with_author
  author-used = m.fixed _ 0 (omega arith) ∙ set-others t _ _ 0 (λ e. omega arith) (λ e. omega arith)

  pub author-round : round_of (with_author mark t p stake need) ≡ round_of t
  unfolding with_author
  author-round = m.fixed _ 1 (omega arith) ∙ set-others t _ _ 1 (λ e. omega arith) (λ e. omega arith)

  module _ (h : fields ≤ length t) where
    -- its name is among the names
    pub author-names : names_of (with_author mark t p stake need) ≡ with_name (names_of t) p
    unfolding with_author
    author-names = m.fixed _ 3 (omega arith) ∙ set-names t _ _ h

    -- its stake is in the weight, which is 0 at the quorum
    pub author-weight : weight_of (with_author mark t p stake need) ≡ cond (ltb (weight_of t + stake) need) (weight_of t + stake) 0
    unfolding with_author
    author-weight = m.fixed _ 2 (omega arith) ∙ set-weight t _ _ h

-- the hash of a vote tally stays
pub author-hash : (t : List ℕ) (p stake need : ℕ) → hash_of (with_author no_high t p stake need) ≡ hash_of t
unfolding with_author no_high
author-hash t p stake need =
    let other : (k : ℕ) → 4 ≤ k → get_or (with_author no_high t p stake need) k 0 ≡ get_or t k 0 = λ k h. set-others t _ _ k (λ e. omega arith) (λ e. omega arith) in
    rw (other 4 (omega arith), other 5 (omega arith), other 6 (omega arith), other 7 (omega arith))

module _ (t : List ℕ) (names weight p high : ℕ) where
  set-high : fields + p < length t → get_or (set (set (set t 3 names) 2 weight) (fields + p) high) (fields + p) 0 ≡ high
  set-high h = get_or-set_same (set (set t 3 names) 2 weight) (fields + p) high 0 (rw (length-set, length-set) h)

  set-highs : (q : ℕ) → (q ≡ p → ⊥) → get_or (set (set (set t 3 names) 2 weight) (fields + p) high) (fields + q) 0 ≡ get_or t (fields + q) 0
  set-highs q h = get_or-set_other (set (set t 3 names) 2 weight) (fields + p) (fields + q) high 0 (λ e. h (omega arith)) ∙ set-others t names weight (fields + q) (λ e. omega arith) (λ e. omega arith)

module _ (t : List ℕ) (p stake need high : ℕ) where
  -- the high round of the author is in a timeout tally
  pub author-high : fields + p < length t → get_or (with_author (with_high p high) t p stake need) (fields + p) 0 ≡ high
  unfolding with_author with_high
  author-high h = set-high t _ _ p high h

  -- and the others are as they were
  pub author-highs : (q : ℕ) → (q ≡ p → ⊥) → get_or (with_author (with_high p high) t p stake need) (fields + q) 0 ≡ get_or t (fields + q) 0
  unfolding with_author with_high
  author-highs q h = set-highs t _ _ p high q h

-- ---- the two kinds of tally

-- A test holds of tallies in use only, of a new one, and as before once an author is counted. A new tally is w wide, weighs nothing and has no names.
pub record Kind (test : List ℕ → Bool) (new : List ℕ) (mark : List ℕ → List ℕ) (w : ℕ) : Type 0 where
  pub wide : fields ≤ w
  pub used : (t : List ℕ) → test t ≡ true → used_of t ≡ 0 → ⊥
  pub passes : test new ≡ true
  pub size : length new ≡ w
  pub weight : weight_of new ≡ 0
  pub names : names_of new ≡ 0
  pub marks : Mark mark
  pub stays : (t : List ℕ) (p stake need : ℕ) → test (with_author mark t p stake need) ≡ test t

same-vote : (round : ℕ) (hash : Hash) (t u : List ℕ) → used_of u ≡ used_of t → round_of u ≡ round_of t → hash_of u ≡ hash_of t → is_vote round hash u ≡ is_vote round hash t
unfolding is_vote
same-vote round hash t u a b e = rw (a, b) (ap (λ (h : Hash). cond (is_free t) false (cond (eqb (round_of t) round) (same_hash h hash) false)) e)

same-round : (round : ℕ) (t u : List ℕ) → used_of u ≡ used_of t → round_of u ≡ round_of t → of_round round u ≡ of_round round t
unfolding of_round
same-round round t u a b = rw (a, b)

-- what it says of the test and the new tally
pub kind-keyed : {test : List ℕ → Bool} {new : List ℕ} {mark : List ℕ → List ℕ} {w : ℕ} → Kind test new mark w → Keyed test new w
kind-keyed k = record { wide = k.wide; used = k.used; passes = k.passes; size = k.size; weight = k.weight; names = k.names }

pub vote-kind : (round : ℕ) (hash : Hash) → Kind (is_vote round hash) (new_vote round hash) no_high vote_width
vote-kind round hash =
    let k = vote-keyed round hash in
    record {
      wide = k.wide;
      used = k.used;
      passes = k.passes;
      size = k.size;
      weight = k.weight;
      names = k.names;
      marks = vote-mark;
      stays = λ t p stake need.
          same-vote round hash t (with_author no_high t p stake need) (author-used vote-mark t p stake need) (author-round vote-mark t p stake need) (author-hash t p stake need);
    }

pub timeout-kind : (round p high : ℕ) → Kind (of_round round) (new_timeout round) (with_high p high) timeout_width
timeout-kind round p high =
    let k = timeout-keyed round in
    record {
      wide = k.wide;
      used = k.used;
      passes = k.passes;
      size = k.size;
      weight = k.weight;
      names = k.names;
      marks = timeout-mark p high;
      stays = λ t q stake need.
          same-round round t (with_author (with_high p high) t q stake need) (author-used (timeout-mark p high) t q stake need) (author-round (timeout-mark p high) t q stake need);
    }

-- ---- what a test says of a tally

-- a vote tally that is found is of that round and hash
pub vote-is : (round : ℕ) (hash : Hash) (t : List ℕ) → is_vote round hash t ≡ true → (round_of t ≡ round) × (hash_of t ≡ hash)
unfolding is_vote
vote-is round hash t e =
    let a = both (eqb (round_of t) round) _ (past-free (is_free t) _ e) in
    (eqb-true _ _ a.0, hash-same _ _ a.1)

-- and a timeout tally of that round
pub timeout-is : (round : ℕ) (t : List ℕ) → of_round round t ≡ true → round_of t ≡ round
unfolding of_round
timeout-is round t e = eqb-true _ _ (past-free (is_free t) _ e)
