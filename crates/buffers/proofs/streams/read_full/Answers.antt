-- `buffers::streams::read_full` meets its contract: the bytes of a further read stand behind those before (`read_more`).
use native.Mathlib.Omega.{arith}
use mathlib.Core.Path.{◌≡◌, ◌∙◌}
use Prim.Native.Nat.{◌-◌, ◌≤◌}
use lib.ListN.{length, drop, length-drop}
use lib.Seq.{length-take-le}
use borrow.Rule.Slice.PartMut.{same_len_mid}
use Rattle.buffers.proofs.Taken.{read_more}
use Rattle.buffers.proofs.streams.read_full.Goals as goal

pub loop-done-preserved : goal.loop-done-preserved
loop-done-preserved g c =
    let d = c.loop-done.done in
    let room = c.read_some-n.new.room in
    let same = same_len_mid d (length c.loop-done.buf - d) c.loop-done.buf room c.read_some-n.auto.room in
    let few : c.read_some-n.result ≤ length room = rw c.read_some-n.auto.room c.read_some-n.ensures.bound in
    let left : length room ≡ length c.loop-done.buf - d = c.read_some-n.auto.room ∙ length-take-le (length c.loop-done.buf - d) (drop d c.loop-done.buf) (omega (arith, length-drop d c.loop-done.buf)) in (
      omega (arith, same, few, left),
      same ∙ c.loop-done.invariant.1,
      read_more (g.R.Read.remaining c.args.from.now) (g.R.Read.remaining c.loop-done.from) (g.R.Read.remaining c.read_some-n.new.from)
          c.loop-done.buf room d _ c.read_some-n.result c.loop-done.invariant.0 few c.loop-done.invariant.2 c.read_some-n.ensures.bytes,
    )
