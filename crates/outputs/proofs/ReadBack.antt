-- What is written is read back. Assumes nothing.
--     num-back, hash-back    a number, a hash, anywhere in a list of bytes
--     fields_back            THE LAW: fields in a row
--     record-back            a record, with what is before and behind it: its length, its kind, and each field of its body
use mathlib.Core.Path.{◌≡◌, refl, sym, ap, ◌∙◌}
use mathlib.Core.List.{List, [], ◌∷◌, ◌++◌, append_assoc, append-nil}
use Prim.Native.Nat.{ℕ, zero, suc, ◌+◌, ◌*◌, ◌/◌, ◌%◌, ◌^◌, ◌≤◌, ◌<◌}
use native.Mathlib.Nat.{add-zero, pow-succ', one-mul}
use native.Mathlib.Omega.{arith}
use lib.Dec.{lit<}
use lib.ListN.{length, take, drop, length-append}
use lib.Seq.{take_at, drop_at, drop-drop}
use Rattle.certificates.specs.declared.numbers.Hash.{Hash}
use Rattle.certificates.specs.Num.{le, num_at, hash_at}
use Rattle.certificates.proofs.Bytes.{leb_yes, le-append, single, num-in, hash-read, hash-in}
use Rattle.outputs.specs.Fields.{Field, number, hash, digits, hash_bytes, bytes_of}
use Rattle.outputs.specs.Records.{Rec, vote, timeout, tc, make, make_with, commit, sync, clean_proposer, clean_mempool, timer_reset, answer}
use Rattle.outputs.specs.Records.{kind_of, body_of, fields_of, framed, enc, enc_all, size_of}
use Rattle.outputs.specs.Reads.{WholeHash, Sized, Read}
use Rattle.outputs.proofs.Writes.{length_digits}
use Rattle.outputs.proofs.Sizes.{length-enc, size-most}

-- ---- a number

le-none : le [] ≡ 0
le-none = let e : le [] ≡ le [] + 256 ^ 0 * le [] = le-append [] [] in omega (arith, one-mul (le []))

le-cons : (x : ℕ) (xs : List ℕ) → le (x ∷ xs) ≡ x + 256 * le xs
le-cons x xs =
    let one : x ≡ le (x ∷ []) = single (x ∷ []) 0 (omega arith) in
    let e : le (x ∷ xs) ≡ le (x ∷ []) + 256 * le xs = le-append (x ∷ []) xs in
    omega arith

pub le-digits : (w x : ℕ) → x < 256 ^ w → le (digits w x) ≡ x
unfolding digits
le-digits zero x h = le-none ∙ omega arith
le-digits (suc w) x h =
    let e : 256 ^ suc w ≡ 256 * 256 ^ w = pow-succ' 256 w in
    let high : x / 256 < 256 ^ w = omega arith in
    le-cons (x % 256) (digits w (x / 256)) ∙ rw (le-digits w (x / 256) high) (omega arith)

-- the bytes from a place on, where what is before it is as long
behind : {s : List ℕ} (xs bytes ys : List ℕ) {at : ℕ} → s ≡ xs ++ (bytes ++ ys) → length xs ≡ at → take (length bytes) (drop at s) ≡ bytes
behind xs bytes ys {at} e l = rw (e, drop_at xs (bytes ++ ys) at l) (take_at bytes ys (length bytes) refl)

within : {s : List ℕ} (xs bytes ys : List ℕ) {at : ℕ} → s ≡ xs ++ (bytes ++ ys) → length xs ≡ at → at + length bytes ≤ length s
within xs bytes ys e l = rw (e, length-append, length-append) (omega arith)

num-at : (w x : ℕ) {s : List ℕ} (xs ys : List ℕ) {at : ℕ} → s ≡ xs ++ (digits w x ++ ys) → length xs ≡ at → x < 256 ^ w → num_at w s at ≡ x
num-at w x {s} xs ys {at} e l h =
    let bytes = rw (length_digits w x) at (behind xs (digits w x) ys e l) in
    let room = rw (length_digits w x) at (within xs (digits w x) ys e l) in
    sym (num-in s at w (leb_yes room) refl (sym (ap le bytes ∙ le-digits w x h)))

pub num-back : (w x : ℕ) (xs ys : List ℕ) → x < 256 ^ w → num_at w (xs ++ (digits w x ++ ys)) (length xs) ≡ x
num-back w x xs ys h = num-at w x xs ys refl refl h

-- ---- a hash

module _ (h : Hash) {s : List ℕ} (xs ys : List ℕ) {at : ℕ} (e : s ≡ xs ++ (hash_bytes h ++ ys)) (l : length xs ≡ at) where
  -- one of its four numbers, k bytes on
  word : (k x : ℕ) {j : ℕ} → at + k ≡ j → take 8 (drop k (hash_bytes h ++ ys)) ≡ digits 8 x → x < 256 ^ 8 → x ≡ le (take 8 (drop j s))
  word k x f p m =
      let rest : drop at s ≡ hash_bytes h ++ ys = ap (drop at) e ∙ drop_at xs (hash_bytes h ++ ys) at l in
      let here : drop (at + k) s ≡ drop k (hash_bytes h ++ ys) = sym (drop-drop k at s) ∙ ap (drop k) rest in
      rw (← f, here, p) (sym (le-digits 8 x m))

  hash_at_lem : WholeHash h → hash_at s at ≡ h
  unfolding hash_bytes digits
  hash_at_lem m =
      sym (hash-in s at (leb_yes (within xs (hash_bytes h) ys e l)) refl
      (hash-read s at
      (word 0 h.a (add-zero at) refl m.a)
      (word 8 h.b refl refl m.b)
      (word 16 h.c refl refl m.c)
      (word 24 h.d refl refl m.d)))

pub hash-back : (h : Hash) (xs ys : List ℕ) → WholeHash h → hash_at (xs ++ (hash_bytes h ++ ys)) (length xs) ≡ h
hash-back h xs ys m = hash_at_lem h xs ys refl refl m

-- ---- fields in a row

length-hash : (h : Hash) → length (hash_bytes h) ≡ 32
unfolding hash_bytes digits
length-hash h = refl

fields_at : (fs : List Field) {s : List ℕ} (xs ys : List ℕ) {at : ℕ} → s ≡ xs ++ (bytes_of fs ++ ys) → length xs ≡ at → Sized fs → Read s at fs
unfolding bytes_of
fields_at [] xs ys e l m = tt
fields_at (number w x ∷ fs) xs ys e l m =
    let f = e ∙ ap (λ (r : List ℕ). xs ++ r) (append_assoc (digits w x) (bytes_of fs) ys) in (
      num-at w x xs (bytes_of fs ++ ys) f l m.0,
      fields_at fs (xs ++ digits w x) ys (f ∙ sym (append_assoc xs (digits w x) (bytes_of fs ++ ys))) (rw (length-append, length_digits w x, l)) m.1,
    )
fields_at (hash h ∷ fs) xs ys e l m =
    let f = e ∙ ap (λ (r : List ℕ). xs ++ r) (append_assoc (hash_bytes h) (bytes_of fs) ys) in (
      hash_at_lem h xs (bytes_of fs ++ ys) f l m.0,
      fields_at fs (xs ++ hash_bytes h) ys (f ∙ sym (append_assoc xs (hash_bytes h) (bytes_of fs ++ ys))) (rw (length-append, length-hash h, l)) m.1,
    )

pub fields_back : (fs : List Field) (xs ys : List ℕ) → Sized fs → Read (xs ++ (bytes_of fs ++ ys)) (length xs) fs
fields_back fs xs ys m = fields_at fs xs ys refl refl m

-- ---- a record

kind-sized : (r : Rec) → kind_of r < 256 ^ 2
kind-sized (vote to block round) = lit< tt
kind-sized (timeout round high) = lit< tt
kind-sized (tc round names highs) = lit< tt
kind-sized (make round high) = lit< tt
kind-sized (make_with round high of names highs) = lit< tt
kind-sized (commit digest round) = lit< tt
kind-sized (sync parent block author) = lit< tt
kind-sized (clean_proposer b0 b1 block) = lit< tt
kind-sized (clean_mempool round) = lit< tt
kind-sized timer_reset = lit< tt
kind-sized (answer n) = lit< tt

length-framed : (r : Rec) → size_of r ≡ 4 + length (bytes_of (body_of r))
unfolding enc framed bytes_of digits
length-framed r = sym (length-enc r) ∙ omega arith

pub record-back : (r : Rec) (xs ys : List ℕ) → Sized (body_of r) → Read (xs ++ (enc r ++ ys)) (length xs) (fields_of r)
unfolding enc framed
record-back r xs ys m = fields_back (fields_of r) xs ys (omega (arith, length-framed r, size-most r), (kind-sized r, m))

-- its length and its kind, whatever its fields are
pub head-back : (r : Rec) (xs ys : List ℕ)
    → (num_at 2 (xs ++ (enc r ++ ys)) (length xs) + 2 ≡ size_of r) × (num_at 2 (xs ++ (enc r ++ ys)) (length xs + 2) ≡ kind_of r)
unfolding enc framed bytes_of digits
head-back r xs ys =
    let len = 2 + length (bytes_of (body_of r)) in
    let t = fields_at (number 2 len ∷ number 2 (kind_of r) ∷ []) xs (bytes_of (body_of r) ++ ys) refl refl (omega (arith, length-framed r, size-most r), (kind-sized r, tt)) in
    (omega (arith, t.0, length-framed r), t.1.0)

-- and what is behind it
pub rest_back : (r : Rec) (rs : List Rec) (ys : List ℕ) → drop (size_of r) (enc_all (r ∷ rs) ++ ys) ≡ enc_all rs ++ ys
unfolding enc_all
rest_back r rs ys = rw (append_assoc) (drop_at (enc r) (enc_all rs ++ ys) (size_of r) (length-enc r))

-- as `record-back` reads for one kind
pub vote-back : (to : ℕ) (block : Hash) (round : ℕ) → to < 256 ^ 2 → WholeHash block → round < 256 ^ 8 → (s : List ℕ) → s ≡ enc (vote to block round)
    → (num_at 2 s 2 ≡ 0x0101) × (num_at 2 s 4 ≡ to) × (hash_at s 6 ≡ block) × (num_at 8 s 38 ≡ round)
unfolding body_of framed
vote-back to block round a b c s e =
    let t = rw (append-nil, ← e) at (record-back (vote to block round) [] [] (a, (b, (c, tt)))) in
    (t.1.0, t.1.1.0, t.1.1.1.0, t.1.1.1.1.0)
