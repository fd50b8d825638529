-- `certificates::messages::signers_in` meets its contract. The outer loop's invariant: the first i signers are in the set and none is named twice, and
-- the check of the whole list is the check of the rest after them. The inner loop's: the signer at i is not among the first j. Assumes nothing.
use Prim.Native.Nat.{ℕ, ◌+◌}
use mathlib.Core.Path.{◌≡◌}
use mathlib.Core.Bool.{Bool, false}
use lib.ListN.{take}
use Rattle.certificates.specs.Num.{nums_at}
use Rattle.certificates.specs.Signers.{member}
use Rattle.certificates.proofs.Clean.{Signed}
use Rattle.certificates.proofs.Check.{Walk}
use Rattle.certificates.proofs.messages.signers_in.Given as goal

abbrev pub invariant-loop-i : goal.invariant-loop-i
invariant-loop-i l =
    let ps = nums_at 2 l.form.stride l.n l.part (l.form.at + 3) in
    Signed l.members (take l.i ps) record { 0 = l.word } × ((need : ℕ) (verdict : Bool) → Walk l.members need verdict ps l.i)

abbrev pub invariant-loop-j : goal.invariant-loop-j
invariant-loop-j l = member l.p.0 (take l.j (nums_at 2 l.form.stride l.n l.part (l.form.at + 3))) ≡ false
