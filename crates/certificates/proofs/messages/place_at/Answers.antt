-- `certificates::messages::place_at` meets its contract: the bytes of the place lie in the part. Assumes nothing.
use borrow.Author.Rules.{rules}
use Rattle.certificates.proofs.Bytes.{pair-read}
use Rattle.certificates.proofs.messages.place_at.Goals as goal

pub returns : goal.returns
returns c = search (rules, pair-read)
