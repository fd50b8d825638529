-- What was taken off a reader, read by read. Assumes nothing.
--     read_more      of a buffer into which a further read put its bytes behind those that stood at the front
use Prim.Native.Nat.{ℕ, ◌+◌, ◌≤◌}
use mathlib.Core.List.{List, ◌++◌}
use mathlib.Core.Path.{◌≡◌, ap, ◌∙◌}
use borrow.Rule.Slice.PartMut.{put_mid}
use lib.ListN.{length, take, drop}
use lib.Seq.{length-take-le}
use Rattle.std.proofs.Math.Seq.{take-append-add}
use Rattle.std.proofs.lemmas.List.{take-append-le}
use Rattle.std.specs.declared.option.Option.{Option}
use Rattle.std.specs.Io.KnownBytes.{Consumes}
use Rattle.std.proofs.KnownBytes.{Consumes-trans}

-- the first d + n bytes are those that stood there, and the first n of those read
read-front : (xs ys : List ℕ) (d k n : ℕ) → d ≤ length xs → n ≤ length ys → take (d + n) (put_mid d k xs ys) ≡ take d xs ++ take n ys
read-front xs ys d k n h l =
    let long : length (take d xs) ≡ d = length-take-le d xs h in
    let behind : take (length (take d xs) + n) (put_mid d k xs ys) ≡ take d xs ++ take n (ys ++ drop k (drop d xs)) = take-append-add (take d xs) (ys ++ drop k (drop d xs)) n in
    rw long at behind ∙ ap (λ (zs : List ℕ). take d xs ++ zs) (take-append-le n ys (drop k (drop d xs)) l)

pub read_more : (a b e : Option (List ℕ)) (xs ys : List ℕ) (d k n : ℕ) → d ≤ length xs → n ≤ length ys → Consumes a b (take d xs) → Consumes b e (take n ys)
    → Consumes a e (take (d + n) (put_mid d k xs ys))
read_more a b e xs ys d k n h l p q = rw (read-front xs ys d k n h l) (Consumes-trans a b e (take d xs) (take n ys) p q)
