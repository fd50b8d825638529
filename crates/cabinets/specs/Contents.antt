-- What a block says: all of it that votes and commits look at, and none of how it lies in bytes.
--     Ending              a block's TC, if it has one: its round and its largest high round
--     Content             digest, round, QC and TC of a block
--     ending tc, ending_of b, content_of b   the TC and the content of a block that an event carries
--     MadeFrom a c        the content c is that of a block made from the record a, a MAKE (Builds)
use Rattle.std.specs.Prelude.{ℕ, ◌≡◌, Option, None, Some}
use Rattle.certificates.specs.declared.numbers.Hash.{Hash}
use Rattle.certificates.specs.declared.messages.QC.{QC}
use Rattle.trace.specs.declared.events.Block.{Block}
use Rattle.trace.specs.declared.events.BlockTc.{BlockTc}
use Rattle.outputs.specs.Records.{Rec, vote, timeout, tc, make, make_with, commit, sync, clean_proposer, clean_mempool, timer_reset, answer}

pub data Ending : Type 0 where
  without : Ending
  ends : ℕ → ℕ → Ending

pub record Content : Type 0 where
  pub digest : Hash
  pub round : ℕ
  pub qc_hash : Hash
  pub qc_round : ℕ
  pub tc : Ending

abbrev pub ending : Option BlockTc → Ending
ending None = without
ending (Some t) = ends t.round.0 t.high.0

abbrev pub ending_of : Block → Ending
ending_of b = ending b.tc

abbrev pub content_of : Block → Content
content_of b =
    record {
      digest = b.digest;
      round = b.round.0;
      qc_hash = b.qc_hash;
      qc_round = b.qc_round.0;
      tc = ending_of b;
    }

pub record Builds (c : Content) (high : QC) : Type 0 where
  pub qc-hash : c.qc_hash ≡ high.hash
  pub qc-round : c.qc_round ≡ high.round.0

-- The QC is the record's. So is the TC, as far as its round goes; without one there is none. Nothing is asked of the block's round, nor of who signed the TC.
abbrev pub MadeFrom : Rec → Content → Type 0
MadeFrom (vote to hash round) c = ⊥
MadeFrom (timeout round high) c = ⊥
MadeFrom (tc round names highs) c = ⊥
MadeFrom (make round high) c = Builds c high × (c.tc ≡ without)
MadeFrom (make_with round high of names highs) c = Builds c high × ((most : ℕ) × (c.tc ≡ ends of most))
MadeFrom (commit digest round) c = ⊥
MadeFrom (sync parent block author) c = ⊥
MadeFrom (clean_proposer b0 b1 block) c = ⊥
MadeFrom (clean_mempool round) c = ⊥
MadeFrom timer_reset c = ⊥
MadeFrom (answer n) c = ⊥
