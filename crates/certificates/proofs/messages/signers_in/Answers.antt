-- `certificates::messages::signers_in` meets its contract: where a signer is refused, and where the signers end, what is then known picks the case of
-- the definition. Assumes nothing.
use native.Mathlib.Omega.{arith}
use Prim.Native.Nat.{ℕ, ◌+◌, ◌*◌, ◌≤◌, ◌<◌}
use mathlib.Core.Path.{◌≡◌, refl, sym, ◌∙◌}
use mathlib.Core.List.{List}
use mathlib.Core.Bool.{false}
use lib.ListN.{length, get_or, take}
use borrow.Author.Tests.{eqb-true, eqb-false}
use Rattle.certificates.specs.Num.{num_at, nums_at}
use Rattle.certificates.specs.Signers.{member}
use Rattle.certificates.proofs.Bytes.{length-nums, nums_at_lem}
use Rattle.certificates.proofs.Places.{member-more}
use Rattle.certificates.proofs.Words.{shift_one}
use Rattle.certificates.proofs.Clean.{signed-none, signed-take}
use Rattle.certificates.proofs.Check.{known, walk_none, at-end, at-repeat, at-unknown, at-known}
use Rattle.certificates.proofs.messages.signers_in.Goals as goal
use Rattle.certificates.proofs.messages.signers_in.Goals.{After-place_at-p}

-- Where the signer at i has been read: the places, and the signer's own place.
abbrev places : After-place_at-p → List ℕ
places c = nums_at 2 c.args.form.stride c.args.n c.args.part.now (c.args.form.at + 3)

abbrev signer : After-place_at-p → ℕ
signer c = c.place_at-p.result.0

within : (c : After-place_at-p) → c.loop-i.i < length (places c)
within c = omega (arith, length-nums 2 c.args.form.stride c.args.n c.args.part.now (c.args.form.at + 3))

place_is : (c : After-place_at-p) (j : ℕ) → j < c.args.n → get_or (places c) j 0 ≡ num_at 2 c.args.part.now (c.args.form.at + 3 + c.args.form.stride * j)
place_is c j h = nums_at_lem 2 c.args.form.stride c.args.n c.args.part.now (c.args.form.at + 3) j h

here : (c : After-place_at-p) → signer c ≡ get_or (places c) c.loop-i.i 0
here c = c.place_at-p.ensures ∙ sym (place_is c c.loop-i.i (omega arith))

-- the inner loop has ended: the signer is not among those before it
fresh : (c : After-place_at-p) (j : ℕ) → c.loop-i.i ≤ j → j ≤ c.loop-i.i → member (signer c) (take j (places c)) ≡ false
    → member (signer c) (take c.loop-i.i (places c)) ≡ false
fresh c j low high h =
    let end : j ≡ c.loop-i.i = omega arith in
    rw end at h

pub loop-i-init : goal.loop-i-init
loop-i-init c = (signed-none _, λ need verdict. walk_none _ _ _ _)

pub loop-j-init : goal.loop-j-init
unfolding member
loop-j-init c = refl

pub loop-j-preserved : goal.loop-j-preserved
loop-j-preserved c =
    let r = (goal.at.loop-j-preserved c).After-place_at-p in
    let other = eqb-false _ _ (sym c.eq.ensures ∙ c.if-eq.false) in
    member-more (signer r) (places r) c.loop-j.j (omega (arith, within r)) c.loop-j.invariant
    (omega (arith, place_is r c.loop-j.j (omega arith)))

pub overflow_shl-word : goal.overflow_shl-word
overflow_shl-word c =
    let r = (goal.at.overflow_shl-word c).After-place_at-p in
    (known r.args.members.now (signer r) (sym c.is_unknown.ensures ∙ c.if-is_unknown.false)).small

pub loop-i-preserved : goal.loop-i-preserved
loop-i-preserved c =
    let r = (goal.at.loop-i-preserved c).After-place_at-p in
    let some = sym c.is_unknown.ensures ∙ c.if-is_unknown.false in
    let inside = known r.args.members.now (signer r) some in
    let new = fresh r c.loop-j.j (omega arith) (omega arith) c.loop-j.invariant in
    rw (shift_one (signer r) inside.small) (
      signed-take r.args.members.now (places r) r.loop-i.i record { 0 = r.loop-i.word } (signer r) (here r) (within r) r.loop-i.invariant.0 new inside.small,
      λ need verdict. at-known (r.loop-i.invariant.1 need verdict) (signer r) (here r) (within r) new some,
    )

pub returns : goal.returns
returns c =
    let a = c.args in
    let s = c.loop-i in
    λ need verdict. at-end (s.invariant.1 need verdict) record { 0 = s.word } (omega (arith, length-nums 2 a.form.stride a.n a.part.now (a.form.at + 3))) s.invariant.0

pub returns-then-eq : goal.returns-then-eq
returns-then-eq c =
    let r = (goal.at.returns-then-eq c).After-place_at-p in
    let same = eqb-true _ _ (sym c.eq.ensures ∙ c.if-eq.true) in
    λ need verdict. at-repeat (r.loop-i.invariant.1 need verdict) (signer r) (here r) (within r) c.loop-j.j (omega arith) (omega (arith, place_is r c.loop-j.j (omega arith)))

pub returns-then-is_unknown : goal.returns-then-is_unknown
returns-then-is_unknown c =
    let r = (goal.at.returns-then-is_unknown c).After-place_at-p in
    let new = fresh r c.loop-j.j (omega arith) (omega arith) c.loop-j.invariant in
    λ need verdict. at-unknown (r.loop-i.invariant.1 need verdict) (signer r) (here r) (within r) new (sym c.is_unknown.ensures ∙ c.if-is_unknown.true)
