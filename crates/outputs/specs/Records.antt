-- The output records and their bytes: 01, The trace form, the table "Out".
--     Rec                           a record that is written
--     qc_fields q                   a high QC
--     places_from n p w             p and up, for the bits of w that are set, of its lowest n
--     places_of w                   the places of a signer word, in rising order
--     entries ps highs              the entries of these places in a TC, by the high rounds of all places
--     tc_fields round names highs   the body of a TC
--     framed kind body              a record: its length, its kind, its body
--     code_of k                     the number of a kind
--     kind_of r, body_of r          the two columns of the table
--     fields_of r                   the fields of a record
--     enc r, enc_all rs             the bytes of a record, and of several in a row
--     members_max                   the most members, which is the width of a signer word and the number of high rounds
--     vote_size .. answer_size      the bytes of each record, length field included; where their number varies, the most
--     size_of r                     the bytes of a record
use Rattle.std.specs.Prelude.{ℕ, zero, suc, ◌+◌, ◌*◌, ◌/◌, ◌%◌, cond, List, [], ◌∷◌, ◌++◌, eqb, length, get_or}
use Rattle.std.specs.Int.Count.{ones}
use Rattle.certificates.specs.Config as limits
use Rattle.certificates.specs.declared.numbers.Hash.{Hash}
use Rattle.certificates.specs.declared.messages.QC.{QC}
use Rattle.outputs.specs.declared.records.Kind.{Kind}
use Rattle.outputs.specs.declared.records.Kind.TheVariants.{Vote, Timeout, Tc, Make, Commit, Sync, CleanProposer, CleanMempool, TimerReset, Answer}
use Rattle.outputs.specs.Fields.{Field, number, hash, bytes_of}

-- Rounds, places, signer words and the answer's number are numbers here; high rounds are listed by place.
pub data Rec : Type 0 where
  -- destination, hash, round
  vote : ℕ → Hash → ℕ → Rec
  -- round, high QC
  timeout : ℕ → QC → Rec
  -- round, names, high rounds
  tc : ℕ → ℕ → List ℕ → Rec
  -- round, high QC; no TC
  make : ℕ → QC → Rec
  -- round, high QC; the TC's round, names and high rounds
  make_with : ℕ → QC → ℕ → ℕ → List ℕ → Rec
  -- digest, round
  commit : Hash → ℕ → Rec
  -- parent, block, author
  sync : Hash → Hash → ℕ → Rec
  -- digests of b0, b1, block
  clean_proposer : Hash → Hash → Hash → Rec
  -- round
  clean_mempool : ℕ → Rec
  timer_reset : Rec
  -- number
  answer : ℕ → Rec

-- ---- parts

-- "high QC (hash 32, round 8, signer word 8)"
unfoldable pub qc_fields : QC → List Field
qc_fields q = hash q.hash ∷ number 8 q.round.0 ∷ number 8 q.signers.0 ∷ []

-- "Added: 1 to 64 members"
abbrev pub members_max : ℕ
members_max = limits.members_max

-- "one 64-bit word, bit p for place p"
unfoldable pub places_from : ℕ → ℕ → ℕ → List ℕ
places_from zero p w = []
places_from (suc n) p w = cond (eqb (w % 2) 1) (p ∷ []) [] ++ places_from n (suc p) (w / 2)

-- "TC lists are written in rising place order."
unfoldable pub places_of : ℕ → List ℕ
places_of w = places_from members_max 0 w

-- "place 2 and high round 8 each"
unfoldable pub entries : List ℕ → List ℕ → List Field
entries [] highs = []
entries (p ∷ ps) highs = number 2 p ∷ number 8 (get_or highs p 0) ∷ entries ps highs

-- "round 8, count 2, place 2 and high round 8 each"; "the number of signers is the count of ones in that word"
unfoldable pub tc_fields : ℕ → ℕ → List ℕ → List Field
tc_fields round names highs = number 8 round ∷ number 2 (ones names) ∷ entries (places_of names) highs

-- "A record is a two-byte length (bytes after it), a two-byte kind, a body."
unfoldable pub framed : ℕ → List Field → List Field
framed kind body = number 2 (2 + length (bytes_of body)) ∷ number 2 kind ∷ body

-- ---- records

-- the number of a kind
abbrev pub code_of : Kind → ℕ
code_of Vote = 0x0101
code_of Timeout = 0x0102
code_of Tc = 0x0103
code_of Make = 0x0104
code_of Commit = 0x0105
code_of Sync = 0x0106
code_of CleanProposer = 0x0107
code_of CleanMempool = 0x0108
code_of TimerReset = 0x0109
code_of Answer = 0x010A

abbrev pub kind_of : Rec → ℕ
kind_of (vote to block round) = 0x0101
kind_of (timeout round high) = 0x0102
kind_of (tc round names highs) = 0x0103
kind_of (make round high) = 0x0104
kind_of (make_with round high of names highs) = 0x0104
kind_of (commit digest round) = 0x0105
kind_of (sync parent block author) = 0x0106
kind_of (clean_proposer b0 b1 block) = 0x0107
kind_of (clean_mempool round) = 0x0108
kind_of timer_reset = 0x0109
kind_of (answer n) = 0x010A

unfoldable pub body_of : Rec → List Field
-- "VOTE: destination 2, hash 32, round 8"
body_of (vote to block round) = number 2 to ∷ hash block ∷ number 8 round ∷ []
-- "TIMEOUT: round 8, high QC (hash 32, round 8, signer word 8)"
body_of (timeout round high) = number 8 round ∷ qc_fields high
-- "TC: round 8, count 2, place 2 and high round 8 each"
body_of (tc round names highs) = tc_fields round names highs
-- "MAKE: round 8, high QC 48, flag 1, then the 0x0103 body if 1"
body_of (make round high) = number 8 round ∷ qc_fields high ++ number 1 0 ∷ []
body_of (make_with round high of names highs) = number 8 round ∷ qc_fields high ++ number 1 1 ∷ tc_fields of names highs
-- "COMMIT: digest 32, round 8"
body_of (commit digest round) = hash digest ∷ number 8 round ∷ []
-- "SYNC: parent 32, block 32, author 2"
body_of (sync parent block author) = hash parent ∷ hash block ∷ number 2 author ∷ []
-- "CLEAN PROPOSER: digests of b0, b1, block (genesis is zeros)"
body_of (clean_proposer b0 b1 block) = hash b0 ∷ hash b1 ∷ hash block ∷ []
-- "CLEAN MEMPOOL: round 8"
body_of (clean_mempool round) = number 8 round ∷ []
-- "TIMER RESET: empty"
body_of timer_reset = []
-- "ANSWER: number 2"
body_of (answer n) = number 2 n ∷ []

abbrev pub fields_of : Rec → List Field
fields_of r = framed (kind_of r) (body_of r)

unfoldable pub enc : Rec → List ℕ
enc r = bytes_of (fields_of r)

unfoldable pub enc_all : List Rec → List ℕ
enc_all [] = []
enc_all (r ∷ rs) = enc r ++ enc_all rs

-- ---- sizes

abbrev pub vote_size : ℕ
vote_size = 46

abbrev pub timeout_size : ℕ
timeout_size = 60

abbrev pub tc_most : ℕ
tc_most = 14 + 10 * members_max

abbrev pub make_size : ℕ
make_size = 61

abbrev pub make_with_most : ℕ
make_with_most = make_size + (10 + 10 * members_max)

abbrev pub commit_size : ℕ
commit_size = 44

abbrev pub sync_size : ℕ
sync_size = 70

abbrev pub clean_proposer_size : ℕ
clean_proposer_size = 100

abbrev pub clean_mempool_size : ℕ
clean_mempool_size = 12

abbrev pub timer_reset_size : ℕ
timer_reset_size = 4

abbrev pub answer_size : ℕ
answer_size = 6

abbrev pub size_of : Rec → ℕ
size_of (vote to block round) = vote_size
size_of (timeout round high) = timeout_size
size_of (tc round names highs) = 14 + 10 * length (places_of names)
size_of (make round high) = make_size
size_of (make_with round high of names highs) = make_size + (10 + 10 * length (places_of names))
size_of (commit digest round) = commit_size
size_of (sync parent block author) = sync_size
size_of (clean_proposer b0 b1 block) = clean_proposer_size
size_of (clean_mempool round) = clean_mempool_size
size_of timer_reset = timer_reset_size
size_of (answer n) = answer_size
