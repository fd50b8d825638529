-- `open` of a vote's key meets its contract: the eight stores write the whole row.
-- Assumes nothing.
use mathlib.Core.List.{[], ◌∷◌}
use Rattle.aggregator.specs.Tally.{new_vote}
use Rattle.aggregator.proofs.Rows.{sets-whole}
use Rattle.aggregator.proofs.tally.VoteKeyKey.open.Goals as goal

pub returns : goal.returns
unfolding new_vote
returns c = sets-whole c.args.t.now (1 ∷ c.args.self.round.0 ∷ 0 ∷ 0 ∷ c.args.self.hash.a ∷ c.args.self.hash.b ∷ c.args.self.hash.c ∷ c.args.self.hash.d ∷ []) c.requires
