-- Laws of hashes, and of the QC that equals genesis. No contract cites this file. Assumes nothing.
--     both, all-true              two tests that are both passed
--     hash-same, hash-self        the test of two hashes says yes of equal ones only, and of all of those
--     genesis-is, genesis-zero    zeros and round 0 equal genesis; what equals genesis has round 0
use Prim.Native.Nat.{ℕ}
use mathlib.Core.Bool.{Bool, true, false, cond, ◌&&◌}
use mathlib.Core.Path.{◌≡◌, refl}
use borrow.Author.Tests.{eqb-true, eq-eqb}
use lib.Dec.{eqb}
use Rattle.certificates.specs.declared.numbers.Hash.{Hash}
use Rattle.certificates.specs.Numbers.{zero_hash, same_hash}
use Rattle.certificates.specs.Messages.{is_genesis}

pub both : (a b : Bool) → cond a b false ≡ true → (a ≡ true) × (b ≡ true)
both true b e = (refl, e)
both false b e = absurd (cc)

all-true : (a b : Bool) → (a && b) ≡ true → (a ≡ true) × (b ≡ true)
all-true true b e = (refl, e)
all-true false b e = absurd (cc)

pub hash-same : (x y : Hash) → same_hash x y ≡ true → x ≡ y
hash-same x y e =
    let a = all-true (eqb x.a y.a) _ e in
    let b = all-true (eqb x.b y.b) _ a.1 in
    let c = all-true (eqb x.c y.c) _ b.1 in
    let r : ◌≡◌ {A = Hash} (record { a = x.a; b = x.b; c = x.c; d = x.d }) (record { a = y.a; b = y.b; c = y.c; d = y.d })
    = rw (eqb-true x.a y.a a.0, eqb-true x.b y.b b.0, eqb-true x.c y.c c.0, eqb-true x.d y.d c.1) in
    r

pub hash-self : (h : Hash) → same_hash h h ≡ true
hash-self h = rw (eq-eqb h.a h.a refl, eq-eqb h.b h.b refl, eq-eqb h.c h.c refl, eq-eqb h.d h.d refl) refl

pub genesis-is : is_genesis zero_hash 0 ≡ true
unfolding is_genesis
genesis-is = refl

pub genesis-zero : (h : Hash) (q : ℕ) → is_genesis h q ≡ true → q ≡ 0
unfolding is_genesis
genesis-zero h q e = eqb-true q 0 (both (same_hash h zero_hash) (eqb q 0) e).1
