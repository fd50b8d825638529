-- `certificates::messages::check_part` meets its contract: the entries are checked where they all lie in the bytes. Assumes nothing.
use borrow.Author.Rules.{rules}
use Rattle.std.proofs.lemmas.Result.{err_from_is_err_and}
use Rattle.certificates.proofs.Check.{part_cut, part-whole}
use Rattle.certificates.proofs.messages.check_part.Goals as goal

pub returns-then-part-form : goal.returns-then-part-form
returns-then-part-form c = search (rules, part_cut)

pub returns : goal.returns
returns c = search (rules, part-whole)

pub returns-in_err-signers : goal.returns-in_err-signers
returns-in_err-signers c =
    let p = err_from_is_err_and c.from_residual.result c.from_residual.ensures.1 in
    rw (p.1, p.2) (part-whole _ _ _ _ c.u16_at-n.ensures c.if-part-form.false c.u8_at-verdict.ensures (c.in_err-signers.ensures _ _))
