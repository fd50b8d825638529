-- `certificates::num::hash_at` meets its contract: a hash is four numbers of its bytes. Assumes nothing.
use Rattle.certificates.proofs.Bytes.{hash-bytes}
use Rattle.certificates.proofs.num.hash_at.Goals as goal

pub returns : goal.returns
returns c = hash-bytes _ _ c.bytes_at-bytes.ensures c.u64_at.ensures c.u64_at-2.ensures c.u64_at-3.ensures c.u64_at-4.ensures
