-- `handlers::votes::count_vote` meets its contract: it is counted, short of the quorum or with it, or not counted. Assumes nothing.
use borrow.Author.Rules.{rules}
use mathlib.Core.Path.{ap, ◌∙◌}
use Rattle.std.specs.Prelude.{Ok}
use Rattle.moves.proofs.TallyLaws.{vote-tallied-short, vote-tallied-refused, vote-tallied-full}
use Rattle.handlers.proofs.HandlerLaws.{sound-counts-vote}
use Rattle.handlers.proofs.votes.count_vote.Goals as goal

pub add_vote-requires : goal.add_vote-requires
add_vote-requires c = search (rules, sound-counts-vote)

pub returns-in-Some : goal.returns-in-Some
returns-in-Some c = rw (← c.stake-held.ensures) (vote-tallied-full _ _ _ _ _ _ _ _ _ _ _ _ c.add_vote.ensures (c.in-Ok.is ∙ ap Ok c.in-Some.is) c.certify-m.ensures)

pub returns-in-None : goal.returns-in-None
returns-in-None c = rw (← c.stake-held.ensures) (vote-tallied-short _ _ _ _ _ _ _ _ _ _ _ _ c.add_vote.ensures (c.in-Ok.is ∙ ap Ok c.in-None.is))

pub returns-in-Err : goal.returns-in-Err
returns-in-Err c = rw (← c.stake-held.ensures) (vote-tallied-refused _ _ _ _ _ _ _ _ _ _ _ _ c.add_vote.ensures c.in-Err.is c.added_refusal.ensures)
