-- `certificates::num::u32_at` meets its contract: the library's number of the bytes is that of the definition. Assumes nothing.
use borrow.Author.Rules.{rules}
use Rattle.certificates.proofs.Bytes.{from-bytes}
use Rattle.certificates.proofs.num.u32_at.Goals as goal

pub returns : goal.returns
returns c = from-bytes _ _ 3 c.bytes_at.result c.from_le_bytes.ensures (search rules) c.bytes_at.ensures
