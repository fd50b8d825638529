-- `synchronizer::settle::ask_parent` meets its contract: a law for each way out.
-- Assumes nothing.
use Rattle.std.proofs.Common.{rules, sym}
use mathlib.Core.Bool.{true≢false}
use Rattle.synchronizer.proofs.SettleLaws.{asks-sync, asks_none}
use Rattle.synchronizer.proofs.settle.ask_parent.Goals as goal

pub returns-then-eq : goal.returns-then-eq
returns-then-eq c = asks-sync _ _ (let e = c.if-eq.ensures in search rules) c.put_sync-at.ensures

pub returns : goal.returns
returns c = asks_none _ _ _ (λ e. let f = rw e at c.if-eq.ensures in true≢false (sym f))
