-- Parts and records from their fields: a law for each, its premises what the calls of its writer ensure. Assumes nothing.
use mathlib.Core.Path.{◌≡◌, refl, ap, ◌∙◌}
use mathlib.Core.List.{List, [], ◌∷◌, ◌++◌, append_assoc, append-nil}
use Prim.Native.Nat.{ℕ, ◌+◌, ◌-◌, ◌*◌, ◌^◌, ◌≤◌, ◌<◌}
use native.Mathlib.Nat.{mul-suc}
use native.Mathlib.Omega.{arith}
use lib.Count.{ones, ones-le}
use lib.ListN.{length, get_or}
use lib.Seq.{sets}
use Rattle.certificates.specs.declared.numbers.Hash.{Hash}
use Rattle.certificates.specs.declared.messages.QC.{QC}
use Rattle.outputs.specs.Fields.{Field, digits, hash_bytes, bytes_of}
use Rattle.outputs.specs.Put.{Put, PutTo}
use Rattle.outputs.specs.Records.{vote, timeout, tc, make, make_with, commit, sync, clean_proposer, clean_mempool, timer_reset, answer}
use Rattle.outputs.specs.Records.{qc_fields, entries, places_of, tc_fields, framed, body_of, enc, tc_most, make_with_most}
use Rattle.outputs.proofs.Writes.{sets-append, then, nothing}
use Rattle.outputs.proofs.Places.{length-places, places-none, Lowest}

-- ---- parts

pub hash-put : (h : Hash) {o p q r s : List ℕ} {at k l m n : ℕ} → Put o at 8 (digits 8 h.a) p k → Put p k 8 (digits 8 h.b) q l
    → Put q l 8 (digits 8 h.c) r m → Put r m 8 (digits 8 h.d) s n → Put o at 32 (hash_bytes h) s n
unfolding hash_bytes
hash-put h a b c d = then a (then b (then c d))

-- the bytes of some fields, and then of others
bytes-append : (fs gs : List Field) → bytes_of (fs ++ gs) ≡ bytes_of fs ++ bytes_of gs
unfolding bytes_of
bytes-append [] gs = refl
bytes-append (f ∷ fs) gs = rw (bytes-append fs gs, append_assoc)

fields-then : (fs gs : List Field) {a b c : List ℕ} {at m n k l : ℕ} → Put a at m (bytes_of fs) b k → Put b k n (bytes_of gs) c l
    → Put a at (m + n) (bytes_of (fs ++ gs)) c l
fields-then fs gs p q = rw (bytes-append fs gs) (then p q)

-- the last field
last : {a b xs : List ℕ} {at n k : ℕ} → Put a at n xs b k → Put a at n (xs ++ []) b k
last p = rw append-nil p

pub qc-put : (q : QC) {a b c d : List ℕ} {at k l m : ℕ} → Put a at 32 (hash_bytes q.hash) b k → Put b k 8 (digits 8 q.round.0) c l
    → Put c l 8 (digits 8 q.signers.0) d m → Put a at 48 (bytes_of (qc_fields q)) d m
unfolding qc_fields bytes_of
qc-put q a b c = then a (then b (last c))

-- a record from its head and its body
framed-put : (kind : ℕ) (body : List Field) {a b c : List ℕ} {at k l len n : ℕ} → Put a at 4 (digits 2 len ++ digits 2 kind) b k → Put b k n (bytes_of body) c l
    → len ≡ 2 + n → Put a at (4 + n) (bytes_of (framed kind body)) c l
unfolding framed bytes_of
framed-put kind body p q e = rw (q.size, ← e, ← append_assoc) (then p q)

-- ---- the entries of a TC

pub length-entries : (ps highs : List ℕ) → length (bytes_of (entries ps highs)) ≡ 10 * length ps
unfolding entries bytes_of digits
length-entries [] highs = refl
length-entries (p ∷ ps) highs = rw (length-entries ps highs, mul-suc) (omega arith)

-- the entries of the places that are left, written from here on, make all of them written from `at` on
pub record Left (before : List ℕ) (at names : ℕ) (highs out : List ℕ) (left to : ℕ) : Type 0 where
  pub place : to + 10 * ones left ≡ at + 10 * ones names
  pub stored : sets out to (bytes_of (entries (places_of left) highs)) ≡ sets before at (bytes_of (entries (places_of names) highs))

module _ (before : List ℕ) (at names : ℕ) (highs : List ℕ) where
  pub left-all : Left before at names highs before names at
  left-all = record { place = refl; stored = refl }

  pub left_less : {out out' : List ℕ} {left to to' t : ℕ} → Left before at names highs out left to → Lowest left t
      → Put out to 10 (digits 2 t ++ digits 8 (get_or highs t 0)) out' to' → Left before at names highs out' (left - 2 ^ t) to'
  unfolding entries bytes_of
  left_less {out} {left = left} {to = to} {t = t} s l p =
      let rest = bytes_of (entries (places_of (left - 2 ^ t)) highs) in
      let whole = rw l.places at s.stored in
      record {
        place = omega (arith, s.place, p.place, l.count);
        stored = rw (p.stored, p.place, ← p.size) (sets-append (digits 2 t ++ digits 8 (get_or highs t 0)) rest out to ∙ rw append_assoc whole);
      }

  pub left-none : {out : List ℕ} {left to : ℕ} → names < 2 ^ 64 → left ≡ 0 → Left before at names highs out left to
      → Put before at (10 * ones names) (bytes_of (entries (places_of names) highs)) out to
  unfolding places_of entries bytes_of
  left-none {left = left} h e s =
      let stored = rw (e, places-none) at s.stored in
      let none : ones left ≤ 0 = ones-le 0 left (omega arith) in
      record {
        place = omega (arith, s.place);
        size = length-entries (places_of names) highs ∙ ap (λ (n : ℕ). 10 * n) (length-places 64 0 names h);
        stored = stored;
      }

pub tc-body-put : (round names : ℕ) (highs : List ℕ) {a b c d : List ℕ} {at k l m n : ℕ} → n ≡ ones names → Put a at 8 (digits 8 round) b k → Put b k 2 (digits 2 n) c l
    → Put c l (10 * ones names) (bytes_of (entries (places_of names) highs)) d m → Put a at (10 + 10 * ones names) (bytes_of (tc_fields round names highs)) d m
unfolding tc_fields bytes_of
tc-body-put round names highs e p q r =
    let t : 8 + (2 + 10 * ones names) ≡ 10 + 10 * ones names = omega arith in
    rw (← t) (then p (then (rw e at q) r))

-- ---- records, in the order of the table

pub vote-put : (to : ℕ) (block : Hash) (round : ℕ) {a b c d e : List ℕ} {at k l m n : ℕ} → Put a at 4 (digits 2 44 ++ digits 2 0x0101) b k
    → Put b k 2 (digits 2 to) c l → Put c l 32 (hash_bytes block) d m → Put d m 8 (digits 8 round) e n → Put a at 46 (enc (vote to block round)) e n
unfolding enc body_of bytes_of
vote-put to block round p q r s = framed-put 0x0101 _ p (then q (then r (last s))) refl

pub timeout-put : (round : ℕ) (high : QC) {a b c d : List ℕ} {at k l m : ℕ} → Put a at 4 (digits 2 58 ++ digits 2 0x0102) b k
    → Put b k 8 (digits 8 round) c l → Put c l 48 (bytes_of (qc_fields high)) d m → Put a at 60 (enc (timeout round high)) d m
unfolding enc body_of bytes_of
timeout-put round high p q r = framed-put 0x0102 _ p (then q r) refl

bounded : {k n at next : ℕ} {a b bytes : List ℕ} → Put a at n bytes b next → n ≤ k → PutTo k a at bytes b next
bounded p h = record { put = rw p.size p; most = omega (arith, p.place) }

pub tc-put : (round names : ℕ) (highs : List ℕ) {a b c : List ℕ} {at k l n : ℕ} → n ≡ ones names → n ≤ 64 → Put a at 4 (digits 2 (12 + 10 * n) ++ digits 2 0x0103) b k
    → Put b k (10 + 10 * ones names) (bytes_of (tc_fields round names highs)) c l → PutTo tc_most a at (enc (tc round names highs)) c l
unfolding enc body_of bytes_of
tc-put round names highs e h p q = bounded (framed-put 0x0103 _ p q (omega arith)) (omega arith)

pub make-put : (round : ℕ) (high : QC) {a b c d e : List ℕ} {at k l m n : ℕ} → Put a at 4 (digits 2 59 ++ digits 2 0x0104) b k
    → Put b k 8 (digits 8 round) c l → Put c l 48 (bytes_of (qc_fields high)) d m → Put d m 1 (digits 1 0) e n → Put a at 61 (enc (make round high)) e n
unfolding enc body_of bytes_of
make-put round high p q r s = framed-put 0x0104 _ p (then q (fields-then (qc_fields high) _ r (last s))) refl

pub make-with-put : (round : ℕ) (high : QC) (of names : ℕ) (highs : List ℕ) {a b c d e f : List ℕ} {at k l m n r i : ℕ} → i ≡ ones names → i ≤ 64
    → Put a at 4 (digits 2 (69 + 10 * i) ++ digits 2 0x0104) b k → Put b k 8 (digits 8 round) c l → Put c l 48 (bytes_of (qc_fields high)) d m
    → Put d m 1 (digits 1 1) e n → Put e n (10 + 10 * ones names) (bytes_of (tc_fields of names highs)) f r → PutTo make_with_most a at (enc (make_with round high of names highs)) f r
unfolding enc body_of bytes_of
make-with-put round high of names highs e h p q s t u =
    bounded (framed-put 0x0104 _ p (then q (fields-then (qc_fields high) _ s (then t u))) (omega arith)) (omega arith)

pub commit-put : (digest : Hash) (round : ℕ) {a b c d : List ℕ} {at k l m : ℕ} → Put a at 4 (digits 2 42 ++ digits 2 0x0105) b k
    → Put b k 32 (hash_bytes digest) c l → Put c l 8 (digits 8 round) d m → Put a at 44 (enc (commit digest round)) d m
unfolding enc body_of bytes_of
commit-put digest round p q r = framed-put 0x0105 _ p (then q (last r)) refl

pub sync-put : (parent block : Hash) (author : ℕ) {a b c d e : List ℕ} {at k l m n : ℕ} → Put a at 4 (digits 2 68 ++ digits 2 0x0106) b k
    → Put b k 32 (hash_bytes parent) c l → Put c l 32 (hash_bytes block) d m → Put d m 2 (digits 2 author) e n → Put a at 70 (enc (sync parent block author)) e n
unfolding enc body_of bytes_of
sync-put parent block author p q r s = framed-put 0x0106 _ p (then q (then r (last s))) refl

pub clean-proposer-put : (b0 b1 block : Hash) {a b c d e : List ℕ} {at k l m n : ℕ} → Put a at 4 (digits 2 98 ++ digits 2 0x0107) b k
    → Put b k 32 (hash_bytes b0) c l → Put c l 32 (hash_bytes b1) d m → Put d m 32 (hash_bytes block) e n → Put a at 100 (enc (clean_proposer b0 b1 block)) e n
unfolding enc body_of bytes_of
clean-proposer-put b0 b1 block p q r s = framed-put 0x0107 _ p (then q (then r (last s))) refl

pub clean-mempool-put : (round : ℕ) {a b c : List ℕ} {at k l : ℕ} → Put a at 4 (digits 2 10 ++ digits 2 0x0108) b k → Put b k 8 (digits 8 round) c l
    → Put a at 12 (enc (clean_mempool round)) c l
unfolding enc body_of bytes_of
clean-mempool-put round p q = framed-put 0x0108 _ p (last q) refl

pub timer-reset-put : {a b : List ℕ} {at k : ℕ} → Put a at 4 (digits 2 2 ++ digits 2 0x0109) b k → Put a at 4 (enc timer_reset) b k
unfolding enc body_of bytes_of
timer-reset-put {b = b} {k = k} p = framed-put 0x0109 _ p (nothing b k) refl

pub answer-put : (n : ℕ) {a b c : List ℕ} {at k l : ℕ} → Put a at 4 (digits 2 4 ++ digits 2 0x010A) b k → Put b k 2 (digits 2 n) c l
    → Put a at 6 (enc (answer n)) c l
unfolding enc body_of bytes_of
answer-put n p q = framed-put 0x010A _ p (last q) refl
