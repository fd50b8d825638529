-- What a write into a lent buffer does. `sets l i vs` is l with vs stored from i on, which is `take i l ++ vs ++ drop (i + length vs) l` where
-- they all lie in l.
--     Put before at n bytes after next       n bytes, these, were stored from `at` on, and `next` is the place after them
--     PutTo k before at bytes after next     the same of at most k bytes, where their number varies
--     Wrote k outs before at after next      these records were stored from `at` on, at most k bytes, and `next` is the place after them
use Rattle.std.specs.Prelude.{◌≡◌, List, ℕ, ◌+◌, ◌≤◌, length}
use Rattle.std.proofs.lemmas.List.Edits.{sets}
use Rattle.outputs.specs.Records.{Rec, enc_all}

pub record Put (before : List ℕ) (at n : ℕ) (bytes after : List ℕ) (next : ℕ) : Type 0 where
  pub place : next ≡ at + n
  pub size : length bytes ≡ n
  pub stored : after ≡ sets before at bytes

pub record PutTo (k : ℕ) (before : List ℕ) (at : ℕ) (bytes after : List ℕ) (next : ℕ) : Type 0 where
  pub put : Put before at (length bytes) bytes after next
  pub most : next ≤ at + k

pub record Wrote (k : ℕ) (outs : List Rec) (before : List ℕ) (at : ℕ) (after : List ℕ) (next : ℕ) : Type 0 where
  pub place : next ≡ at + length (enc_all outs)
  pub stored : after ≡ sets before at (enc_all outs)
  pub room : next ≤ at + k
