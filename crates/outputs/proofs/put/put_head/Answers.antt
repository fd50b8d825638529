-- `outputs::put::put_head` meets its contract: two writes in a row (`joins`), of which the second is the number of the kind.
-- Assumes nothing.
use Rattle.std.proofs.Common.{◌≡◌, ◌+◌, refl}
use denote.Enum.Declared.{tag_of}
use Rattle.outputs.specs.contracts.records.Kind.{the_type}
use Rattle.outputs.specs.declared.records.Kind.{Kind}
use Rattle.outputs.specs.declared.records.Kind.TheVariants.{Vote, Timeout, Tc, Make, Commit, Sync, CleanProposer, CleanMempool, TimerReset, Answer}
use Rattle.outputs.specs.Records.{code_of}
use Rattle.outputs.proofs.Writes.{joins}
use Rattle.outputs.proofs.put.put_head.Goals as goal

tag-code : (k : Kind) → tag_of the_type k + 257 ≡ code_of k
tag-code Vote = refl
tag-code Timeout = refl
tag-code Tc = refl
tag-code Make = refl
tag-code Commit = refl
tag-code Sync = refl
tag-code CleanProposer = refl
tag-code CleanMempool = refl
tag-code TimerReset = refl
tag-code Answer = refl

pub returns : goal.returns
returns c = rw (← tag-code c.args.kind) (joins c.put16-mid.ensures c.put16.ensures refl)
