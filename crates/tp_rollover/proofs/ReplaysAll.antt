-- What is computed of replays, attempt by attempt.
use Rattle.std.proofs.Common.{◌≡◌, ℕ, suc, ◌+◌, ◌-◌, ◌<◌, Bool, Option, None, Some, List, ◌∷◌, length, drop, get_or, sym, ◌∙◌, ap, arith}
use Rattle.std.specs.Option.{option_and_then}
use Rattle.tp_plain.specs.OneThread.{State}
use Rattle.tp_rollover.specs.Anew.{all_replayed, attempted, first_from, has_left, renewed, replayed, requeued, attempts_made}
use Rattle.tp_rollover.specs.declared.moved.Moved.{Moved}
use Rattle.tp_rollover.specs.declared.survivors.Survivor.{Survivor}
use Rattle.tp_rollover.proofs.Lists.{drop_here}

-- one more time
next_time : (times time : ℕ) → time < times → times - time ≡ suc (times - (time + 1))
next_time times time less = omega (arith, less)

-- the next of several attempts
module _ (p q : ℕ) (kept : List Bool) (id times time from : ℕ) (s : State) (less : time < times) (long : q ≡ p) where
  pub tried_none : None ≡ first_from (has_left kept s 0 1) from (q - from) → attempts_made p kept id (times - time) (from, s) ≡ None
  tried_none none = ap (λ n. attempts_made p kept id n (from, s)) (next_time times time less) ∙ ap (λ o. option_and_then (λ c. option_and_then (λ after. attempts_made p kept id (times - (time + 1)) (c, after)) (attempted c id s)) o) (ap (λ n. first_from (has_left kept s 0 1) from (n - from)) (sym long) ∙ sym none)

  pub tried_at : (at : ℕ) → Some at ≡ first_from (has_left kept s 0 1) from (q - from) → attempts_made p kept id (times - time) (from, s) ≡ option_and_then (λ after. attempts_made p kept id (times - (time + 1)) (at, after)) (attempted at id s)
  tried_at at first = ap (λ n. attempts_made p kept id n (from, s)) (next_time times time less) ∙ ap (λ o. option_and_then (λ c. option_and_then (λ after. attempts_made p kept id (times - (time + 1)) (c, after)) (attempted c id s)) o) (ap (λ n. first_from (has_left kept s 0 1) from (n - from)) (sym long) ∙ sym first)

-- the next of several rounds
module _ (p q : ℕ) (kept : List Bool) (id limit a times time from : ℕ) (s : State) (less : time < times) (long : q ≡ p) (same : a ≡ limit) where
  abbrev pub from_round : ℕ × State → Option (ℕ × State)
  from_round done = option_and_then (λ after. renewed p kept id limit (times - (time + 1)) (done.0, after)) (requeued 0 id done.1)

  pub next_round : renewed p kept id limit (times - time) (from, s) ≡ option_and_then from_round (attempts_made q kept id a (from, s))
  next_round = ap (λ n. renewed p kept id limit n (from, s)) (next_time times time less) ∙ (ap (λ n. option_and_then from_round (attempts_made n kept id limit (from, s))) (sym long) ∙ ap (λ n. option_and_then from_round (attempts_made q kept id n (from, s))) (sym same))

  pub round_done : (done : ℕ × State) → attempts_made q kept id a (from, s) ≡ Some done → renewed p kept id limit (times - time) (from, s) ≡ option_and_then (λ after. renewed p kept id limit (times - (time + 1)) (done.0, after)) (requeued 0 id done.1)
  round_done done is = next_round ∙ ap (option_and_then from_round) is

-- the next of all
module _ (p q : ℕ) (kept : List Bool) (limit : ℕ) (survivors : List Survivor) (moved : List Moved) (i : ℕ) (d : Survivor) (e : Moved) (x : ℕ × State) (less : i < length survivors) (less' : i < length moved) (long : q ≡ p) where
  pub next_one : all_replayed p kept limit (drop i survivors) (drop i moved) x
      ≡ option_and_then (all_replayed p kept limit (drop (i + 1) survivors) (drop (i + 1) moved)) (replayed q kept limit (get_or survivors i d) (get_or moved i e).new x)
  next_one =
      ap (λ ss. all_replayed p kept limit ss (drop i moved) x) (drop_here survivors i d less)
      ∙ (ap (λ ms. all_replayed p kept limit (get_or survivors i d ∷ drop (i + 1) survivors) ms x) (drop_here moved i e less')
      ∙ ap (λ n. option_and_then (all_replayed p kept limit (drop (i + 1) survivors) (drop (i + 1) moved)) (replayed n kept limit (get_or survivors i d) (get_or moved i e).new x)) (sym long))
