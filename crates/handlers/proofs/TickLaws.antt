-- Laws of TICK: one for each way out. Assumes nothing.
--     voted-rises, voted-stays         `increase_last_voted_round`
--     tick-did, tick-within            `tick`; it leaves the round within the limit
--     own-refused, own-tallied         `own_timeout`
--     tick-high, tick-after            `local_timeout_round`
use Prim.Native.Nat.{ℕ, ◌≤◌, ◌<◌}
use mathlib.Core.List.{List}
use mathlib.Core.Path.{◌≡◌, refl, sym, ◌∙◌}
use borrow.Author.Tests.{lt-ltb, le-ltb}
use Rattle.std.specs.Prelude.{Result, Ok, Err}
use Rattle.certificates.specs.declared.numbers.Stake.{Stake}
use Rattle.certificates.specs.declared.error.AuthorError.{AuthorError}
use Rattle.certificates.specs.Config.{stake_of, quorum_of}
use Rattle.certificates.specs.Messages.{author_check}
use Rattle.certificates.specs.declared.error.Refusal.{Refusal}
use Rattle.certificates.specs.declared.error.Refusal.TheVariants as refusal
use Rattle.certificates.specs.Error.{code, author_number}
use Rattle.certificates.specs.Numbers.{round_max}
use Rattle.outputs.specs.Records.{timer_reset, timeout, enc, timer_reset_size, timeout_size}
use Rattle.outputs.specs.Put.{Put}
use Rattle.outputs.proofs.Wrote.{wrote_one, wrote_then}
use Rattle.moves.specs.declared.state.Core.{Core}
use Rattle.moves.specs.declared.state.Ran.{Ran}
use Rattle.moves.specs.State.{whole, with_voted}
use Rattle.moves.specs.Outcome.{Reached}
use Rattle.moves.specs.Moves.{time_out_most}
use Rattle.moves.specs.Tallied.{timeout_tallied}
use Rattle.moves.proofs.Outcomes.{reached-refused, reached-after, reached-checked-refused, reached-checked-passed}
use Rattle.handlers.specs.Timeouts.{voted_up, TicksTo, own_timeout, handled_tick, local_timeout_most}

-- ---- the first part of a tick

module _ (core : Core) (target : ℕ) where
  pub voted-rises : core.last_voted_round.0 < target → (with_voted core target ≡ voted_up core target) × (core.round ≡ core.round)
  unfolding voted_up
  voted-rises h = (rw (lt-ltb _ _ h), refl)

  pub voted-stays : target ≤ core.last_voted_round.0 → (core ≡ voted_up core target) × (core.round ≡ core.round)
  unfolding voted_up
  voted-stays h = (rw (le-ltb _ _ h), refl)

pub tick-did : (core : Core) {out out' out'' : List ℕ} {at mid next : ℕ} {n : Core} → Put out at timer_reset_size (enc timer_reset) out' mid
    → Put out' mid timeout_size (enc (timeout core.round.0 core.high_qc)) out'' next → n ≡ voted_up core core.round.0 → n.round ≡ core.round
    → TicksTo core out at n out'' next
tick-did core p q e r =
    record { raised = e; stays = r; bytes = wrote_then (wrote_one timer_reset p) (wrote_one (timeout core.round.0 core.high_qc) q) }

-- a tick leaves the round
pub tick-within : {core n : Core} {out out' : List ℕ} {at next : ℕ} → TicksTo core out at n out' next → core.round.0 ≤ round_max → n.round.0 ≤ round_max
tick-within p h = rw p.stays h

-- ---- the own timeout

module _ (m : List ℕ) (own : ℕ) (core : Core) (votes timeouts out : List ℕ) (at : ℕ) {a : Result Stake AuthorError} (e : a ≡ author_check m own 1) where
  own-number : {c : Result Stake AuthorError} → a ≡ c → author_number c ≡ author_number (author_check m own 1)
  own-number i = rw (← i, e)

  pub own-refused : {c : AuthorError} {r : Refusal} → a ≡ Err c → code r ≡ author_number (Err c)
      → Reached time_out_most (own_timeout m own (whole core votes timeouts)) out at (record { answer = Err r; core = core; at = at }) votes timeouts out
  unfolding own_timeout
  own-refused {c} {r} i f = rw (← (f ∙ own-number i)) (reached-checked-refused time_out_most r core votes timeouts out at _)

  pub own-tallied : {held : Stake} {need stake : ℕ} {r : Ran} {v t out' : List ℕ} → a ≡ Ok held → need ≡ quorum_of m → stake ≡ stake_of m own
      → Reached time_out_most (timeout_tallied m own need (whole core votes timeouts) core.round.0 own stake core.high_qc.round.0) out at r v t out'
      → Reached time_out_most (own_timeout m own (whole core votes timeouts)) out at r v t out'
  unfolding own_timeout
  own-tallied i g h d = rw (← g, ← h) (reached-checked-passed _ (whole core votes timeouts) (sym (own-number i)) d)

-- ---- the handler

module _ (m : List ℕ) (own : ℕ) (core : Core) (votes timeouts out : List ℕ) where
  pub tick-high : round_max < core.round.0
      → Reached local_timeout_most (handled_tick m own (whole core votes timeouts)) out 0 (record { answer = Err refusal.RoundTooHigh; core = core; at = 0 }) votes timeouts out
  unfolding handled_tick
  tick-high h = rw (lt-ltb _ _ h) (reached-refused local_timeout_most (Err refusal.RoundTooHigh) core votes timeouts out 0)

  pub tick-after : {n : Core} {mid : ℕ} {r : Ran} {out' out'' v t : List ℕ} → core.round.0 ≤ round_max → TicksTo core out 0 n out' mid
      → Reached time_out_most (own_timeout m own (whole n votes timeouts)) out' mid r v t out''
      → Reached local_timeout_most (handled_tick m own (whole core votes timeouts)) out 0 r v t out''
  unfolding handled_tick
  tick-after h p q = rw (le-ltb _ _ h) (reached-after (own_timeout m own) (record { state = rw p.raised; bytes = p.bytes }) q)
