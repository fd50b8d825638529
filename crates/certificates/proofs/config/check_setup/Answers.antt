-- `certificates::config::check_setup` meets its contract: a law for each way out. Assumes nothing.
use borrow.Author.Rules.{rules}
use Rattle.certificates.proofs.StartLaws.{start-own, start-many, start-keys, start-good}
use Rattle.certificates.proofs.config.check_setup.Goals as goal
use Rattle.certificates.proofs.config.check_setup.Goals.{else-own-n-via-then-own-n+then-n-le-MEMBERS_MAX+else-keys_ascend, else-own-n-via-then-own-n+else-n-le-MEMBERS_MAX, else-own-n-via-else-own-n}

pub returns-then-keys_ascend : goal.returns-then-keys_ascend
returns-then-keys_ascend c = search (rules, start-good)

pub returns-else-own-n : goal.returns-else-own-n
returns-else-own-n c =
    elim c.else-own-n.branch [
      | else-own-n-via-then-own-n+then-n-le-MEMBERS_MAX+else-keys_ascend w ↦ search (rules, start-keys)
      | else-own-n-via-then-own-n+else-n-le-MEMBERS_MAX w ↦ search (rules, start-many)
      | else-own-n-via-else-own-n w ↦ search (rules, start-own)
    ]
