-- COMMITs on bytes. Assumes nothing.
--     commits-read     of the bytes of records, those of the COMMITs are found
--     calls-written    what the calls of a course wrote is the bytes of its records
use Prim.Native.Nat.{ℕ, zero, suc, ◌+◌, ◌≤◌}
use mathlib.Core.Bool.{Bool, true, false, cond}
use mathlib.Core.List.{List, [], ◌∷◌, ◌++◌, map, append-nil}
use mathlib.Core.Path.{◌≡◌, refl, sym, ap, ◌∙◌}
use native.Mathlib.Omega.{arith}
use borrow.Author.Tests.{le-leb}
use lib.Dec.{eqb}
use lib.ListN.{length, take, drop, length-append}
use lib.Seq.{take-append_seam}
use Rattle.certificates.specs.Num.{num_at}
use Rattle.outputs.specs.Records.{Rec, vote, timeout, tc, make, make_with, commit, sync, clean_proposer, clean_mempool, timer_reset, answer, kind_of, enc, enc_all, size_of}
use Rattle.outputs.proofs.Sizes.{length-enc}
use Rattle.outputs.proofs.Wrote.{all_none, all_one, all_append}
use Rattle.outputs.proofs.ReadBack.{head-back, rest_back}
use Rattle.runs.specs.Runs.{only, is_commit, delivered_in}
use Rattle.runs.specs.Courses.{Course, Stage, outs_of, outputs}
use Rattle.runs.specs.Calls.{stage_of, written}
use Rattle.runs.proofs.Calls.{bytes-by-definition}
use Rattle.cabinets.specs.Bytes.{commit_kind, commits_from, commits_in, Calls}

-- a record is a COMMIT by its kind
by_kind : (r : Rec) → eqb (kind_of r) commit_kind ≡ is_commit r
by_kind (vote to hash round) = refl
by_kind (timeout round high) = refl
by_kind (tc round names highs) = refl
by_kind (make round high) = refl
by_kind (make_with round high of names highs) = refl
by_kind (commit digest round) = refl
by_kind (sync parent block author) = refl
by_kind (clean_proposer b0 b1 block) = refl
by_kind (clean_mempool round) = refl
by_kind timer_reset = refl
by_kind (answer n) = refl

size-least : (r : Rec) → 4 ≤ size_of r
size-least (vote to hash round) = omega arith
size-least (timeout round high) = omega arith
size-least (tc round names highs) = omega arith
size-least (make round high) = omega arith
size-least (make_with round high of names highs) = omega arith
size-least (commit digest round) = omega arith
size-least (sync parent block author) = omega arith
size-least (clean_proposer b0 b1 block) = omega arith
size-least (clean_mempool round) = omega arith
size-least timer_reset = omega arith
size-least (answer n) = omega arith

all_cons : (r : Rec) (rs : List Rec) → enc_all (r ∷ rs) ≡ enc r ++ enc_all rs
all_cons r rs = all_append (r ∷ []) rs ∙ ap (λ (l : List ℕ). l ++ enc_all rs) (all_one r)

-- the record at the front
module _ (r : Rec) (rs : List Rec) where
  abbrev s : List ℕ
  s = enc_all (r ∷ rs)

  front-size : num_at 2 s 0 + 2 ≡ size_of r
  front-size = rw (all_cons r rs) (head-back r [] (enc_all rs)).0

  front-kind : num_at 2 s 2 ≡ kind_of r
  front-kind = rw (all_cons r rs) (head-back r [] (enc_all rs)).1

  front-take : take (size_of r) s ≡ enc r
  front-take = rw (all_cons r rs, ← length-enc r) (take-append_seam (enc r) (enc_all rs))

  front-drop : drop (size_of r) s ≡ enc_all rs
  front-drop = rw (append-nil (enc_all (r ∷ rs)), append-nil (enc_all rs)) at (rest_back r rs [])

  front_long : 4 ≤ length s
  front_long = rw (all_cons r rs, length-append (enc r) (enc_all rs), length-enc r) (omega (arith, size-least r))

only-by : (r : Rec) (rs : List Rec) (xs : List ℕ) → xs ≡ enc_all (delivered_in rs) → cond (is_commit r) (enc r) [] ++ xs ≡ enc_all (delivered_in (r ∷ rs))
unfolding only
only-by r rs xs e = cases (is_commit r)
  where
    cases : (b : Bool) → cond b (enc r) [] ++ xs ≡ enc_all (cond b (r ∷ delivered_in rs) (delivered_in rs))
    cases true = rw e (sym (all_cons r (delivered_in rs)))
    cases false = e

commits-from : (n : ℕ) (rs : List Rec) → length rs ≤ n → commits_from n (enc_all rs) ≡ enc_all (delivered_in rs)
unfolding commits_from only
commits-from zero [] l = sym all_none
commits-from zero (r ∷ rs) l = absurd (omega arith)
commits-from (suc n) [] l = rw all_none refl
commits-from (suc n) (r ∷ rs) l =
    let rest : commits_from n (drop (size_of r) (enc_all (r ∷ rs))) ≡ enc_all (delivered_in rs) = rw (front-drop r rs) (commits-from n rs (omega arith)) in
    rw (le-leb 4 (length (enc_all (r ∷ rs))) (front_long r rs), front-size r rs, front-kind r rs, by_kind r, front-take r rs) (only-by r rs _ rest)

long-all : (rs : List Rec) → length rs ≤ length (enc_all rs)
long-all [] = omega arith
long-all (r ∷ rs) = rw (all_cons r rs, length-append (enc r) (enc_all rs), length-enc r) (omega (arith, size-least r, long-all rs))

-- Of the bytes of records, those of the COMMITs are found.
pub commits-read : (rs : List Rec) → commits_in (enc_all rs) ≡ enc_all (delivered_in rs)
commits-read rs = commits-from (length (enc_all rs)) rs (long-all rs)

-- What the calls of a course wrote is the bytes of its records.
pub calls-written : (c : Course) (k : Calls c) → written (k.first ∷ k.rest) ≡ enc_all (outputs c)
unfolding outs_of
calls-written c k =
    bytes-by-definition c.lent (k.first ∷ k.rest) k.played
    ∙ ap (λ (g : Stage). enc_all (outs_of c.lent (g ∷ map stage_of k.rest))) k.start
    ∙ ap (λ (gs : List Stage). enc_all (outs_of c.lent (record { event = c.start; cut = false } ∷ gs))) k.stages
