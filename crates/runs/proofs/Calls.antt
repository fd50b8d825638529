-- Demand 2, "over every event sequence": calls of `step`, one after the other, are the stages of the definition, with a restart where the unit was put back and
-- without one where it was not. Assumes nothing.
--     runs-by-definition         what each call leaves is what the definition gives for that event, laid into the buffer that was lent
--     answers-by-definition      .. so the answers are the definition's
--     worlds-by-definition       .. and the records and tables, after each event
--     bytes-by-definition        .. and the bytes that were written are those of the definition's records
--     runs-unique                calls that were lent the same left the same
use Prim.Native.Nat.{ℕ}
use mathlib.Core.List.{List, [], ◌∷◌, map}
use mathlib.Core.Path.{◌≡◌, refl, sym, ◌∙◌, ap}
use lib.ListN.{length, take, drop}
use lib.Seq.{take-append_seam}
use Rattle.certificates.specs.Error.{number}
use Rattle.outputs.specs.Records.{enc_all}
use Rattle.outputs.proofs.Wrote.{all_none, all_append}
use Rattle.replica.specs.Step.{World, Result, Left, laid, stepped}
use Rattle.runs.specs.Runs.{step_on}
use Rattle.runs.specs.Courses.{leaves, next, results, outs_of}
use Rattle.runs.specs.Calls.{Call, left, stage_of, Played, laid_all, written}

laid-world : (x : Result) (o : List ℕ) → (laid x o).world ≡ x.world
unfolding laid
laid-world x o = refl

laid-answer : (x : Result) (o : List ℕ) → (laid x o).answer ≡ x.answer
unfolding laid
laid-answer x o = refl

-- one call
call-is : (w : World) (c : Call) (cs : List Call) → Played w (c ∷ cs) → left c ≡ laid (step_on w (stage_of c).event) c.out
unfolding Played
call-is w c cs p = p.1.left_is ∙ ap (λ (u : World). laid (stepped u (length c.out) c.input) c.out) p.0

next-played : (w : World) (c : Call) (cs : List Call) → Played w (c ∷ cs) → Played (next w (stage_of c)) cs
unfolding Played
next-played w c cs p =
    let e : (left c).world ≡ (step_on w (stage_of c).event).world = ap (λ (l : Left). l.world) (call-is w c cs p) ∙ laid-world (step_on w (stage_of c).event) c.out in
    rw (ap (leaves (stage_of c)) e) at p.2

-- Calls of `step`, each handed what the one before left, give exactly the definition's answers, worlds and output bytes.
pub runs-by-definition : (w : World) (cs : List Call) → Played w cs → map left cs ≡ laid_all (results w (map stage_of cs)) (map (λ (c : Call). c.out) cs)
unfolding results laid_all
runs-by-definition w [] p = refl
runs-by-definition w (c ∷ cs) p = rw (call-is w c cs p, runs-by-definition (next w (stage_of c)) cs (next-played w c cs p))

pub answers-by-definition : (w : World) (cs : List Call) → Played w cs → map (λ (c : Call). number c.gives.answer) cs ≡ map (λ (x : Result). x.answer) (results w (map stage_of cs))
unfolding results
answers-by-definition w [] p = refl
answers-by-definition w (c ∷ cs) p =
    let e : number c.gives.answer ≡ (step_on w (stage_of c).event).answer = ap (λ (l : Left). l.answer) (call-is w c cs p) ∙ laid-answer (step_on w (stage_of c).event) c.out in
    rw (e, answers-by-definition (next w (stage_of c)) cs (next-played w c cs p))

pub worlds-by-definition : (w : World) (cs : List Call) → Played w cs → map (λ (c : Call). (left c).world) cs ≡ map (λ (x : Result). x.world) (results w (map stage_of cs))
unfolding results
worlds-by-definition w [] p = refl
worlds-by-definition w (c ∷ cs) p =
    let e : (left c).world ≡ (step_on w (stage_of c).event).world = ap (λ (l : Left). l.world) (call-is w c cs p) ∙ laid-world (step_on w (stage_of c).event) c.out in
    rw (e, worlds-by-definition (next w (stage_of c)) cs (next-played w c cs p))

take-laid : (x : Result) (o : List ℕ) → take (laid x o).written (laid x o).out ≡ enc_all x.outs
unfolding laid
take-laid x o = take-append_seam (enc_all x.outs) (drop (length (enc_all x.outs)) o)

pub bytes-by-definition : (w : World) (cs : List Call) → Played w cs → written cs ≡ enc_all (outs_of w (map stage_of cs))
unfolding written outs_of
bytes-by-definition w [] p = sym all_none
bytes-by-definition w (c ∷ cs) p =
    let x = step_on w (stage_of c).event in
    let e : take c.gives.written c.out' ≡ enc_all x.outs = ap (λ (l : Left). take l.written l.out) (call-is w c cs p) ∙ take-laid x c.out in
    rw (e, bytes-by-definition (next w (stage_of c)) cs (next-played w c cs p)) (sym (all_append x.outs (outs_of (next w (stage_of c)) (map stage_of cs))))

-- Calls that were handed the same world, buffers and records left the same.
pub runs-unique : (w : World) (cs ds : List Call) → Played w cs → Played w ds → map stage_of cs ≡ map stage_of ds → map (λ (c : Call). c.out) cs ≡ map (λ (c : Call). c.out) ds
    → map left cs ≡ map left ds
runs-unique w cs ds p q e o = runs-by-definition w cs p ∙ rw (e, o) (sym (runs-by-definition w ds q))
