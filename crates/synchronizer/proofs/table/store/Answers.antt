-- `synchronizer::table::store` meets its contract: a law for each way out.
-- Assumes nothing.
use Rattle.std.proofs.Common.{◌≡◌, rules, sym, ◌∙◌}
use Rattle.std.proofs.lemmas.Result.{err_from_is_err_and}
use Rattle.std.specs.Option.{option_or}
use Rattle.synchronizer.specs.Table.{found_in}
use Rattle.synchronizer.specs.declared.table.Want.TheVariants.{Free, Digest}
use Rattle.synchronizer.proofs.TableLaws.{or-else, store-some, store-none}
use Rattle.synchronizer.proofs.table.store.Goals as goal
use Rattle.synchronizer.proofs.table.store.Goals.{After-or_else}

-- the place of the digest, or else a free one
place : (c : After-or_else) → c.or_else.result ≡ option_or (found_in c.args.table.now (Digest c.args.block.digest)) (found_in c.args.table.now Free)
place c =
    rw (← c.find-same.ensures)
    (or-else c.find-same.result (found_in c.args.table.now Free) c.or_else.result
    (λ e. let h = rw e at c.or_else.ensures in search rules)
    (λ x e. let h = rw e at c.or_else.ensures in search rules))

pub returns : goal.returns
returns c = store-some c.args.table.now c.args.block (place (goal.at.returns c).After-or_else) (sym c.ok_or.ensures.value ∙ c.in_ok-i.was) c.put_at.ensures

pub returns-in_err-i : goal.returns-in_err-i
returns-in_err-i c =
    let p = err_from_is_err_and c.from_residual.result c.from_residual.ensures.1 in
    rw (p.1, p.2) (store-none c.args.table.now c.args.block (place (goal.at.returns-in_err-i c).After-or_else) (sym c.ok_or.ensures.value ∙ c.in_err-i.was))
