-- What a killer's calls add to its pass.
use Rattle.std.proofs.Common.{◌≡◌, inl, inr, ⊎_elim, ℕ, ◌+◌, ◌-◌, ◌≤◌, List, [], ◌∷◌, ◌++◌, Result, Ok, Err, refl, sym, ◌∙◌, ap, subst, arith, All, append_assoc, cond, count_by}
use Rattle.std.proofs.lemmas.List.Elements.{All-append, All-nil, All-cons}
use Rattle.std.proofs.lemmas.List.Sums.{sum_by-cons}
use mathlib.Core.List.{IsPrefix}
use Rattle.tp_model.specs.declared.event.Event.{Event}
use Rattle.tp_model.specs.declared.event.Event.TheVariants.{Kill}
use Rattle.tp_model.specs.declared.types.Killed.{Killed}
use Rattle.tp_model.specs.declared.types.Limits.{Limits}
use Rattle.tp_model.specs.declared.types.Refusal.{Refusal}
use Rattle.tp_model.specs.declared.types.Refusal.TheVariants as refusals
use Rattle.tp_model.specs.History.{here, there}
use Rattle.tp_model.proofs.Bridges.{begins_refl, begins_trans}
use Rattle.tp_manager.specs.Calls.{AreOfHolders, KillFails, OnlyAborts}
use Rattle.tp_manager.specs.Shown.{PassShown}
use Rattle.tp_workers.specs.declared.tally.Shift.{Shift}
use Rattle.tp_workers.specs.Calling.{MadeCalls}
use Rattle.tp_workers.specs.Gains.{GainsOnly, is_kill, kills_in}
use Rattle.tp_workers.specs.Killers.{IsKillWork, Killing, KillsNext, KillsOnce}
use Rattle.tp_workers.specs.Tally.{kill_count, empty_shift, plus, refusal_count, total}
use Rattle.tp_workers.proofs.Calling.{called_gains, called_keeps, called_more, called_none, called_total}
use Rattle.tp_workers.proofs.Events.{counted_more, counted_one}
use Rattle.tp_workers.proofs.Gains.{gains_none, gains_then, gains_weaker}

one_refusal : (why : Refusal) → total (refusal_count why) ≡ 1
one_refusal refusals.NoMemory = refl
one_refusal refusals.BadLimits = refl
one_refusal refusals.BadStage = refl
one_refusal refusals.NotThere = refl
one_refusal (refusals.Consumed unit) = refl
one_refusal refusals.AlreadyKilled = refl
one_refusal refusals.Full = refl
one_refusal refusals.NotParked = refl
one_refusal refusals.NoRound = refl
one_refusal refusals.NotHeld = refl
one_refusal refusals.NotWaiting = refl
one_refusal refusals.NoUnit = refl

pub one_kill : (r : Result Killed Refusal) → total (kill_count r) ≡ 1
one_kill (Ok killed) = refl
one_kill (Err why) = one_refusal why

none_killed : (why : Refusal) → (refusal_count why).killed ≡ 0
none_killed refusals.NoMemory = refl
none_killed refusals.BadLimits = refl
none_killed refusals.BadStage = refl
none_killed refusals.NotThere = refl
none_killed (refusals.Consumed unit) = refl
none_killed refusals.AlreadyKilled = refl
none_killed refusals.Full = refl
none_killed refusals.NotParked = refl
none_killed refusals.NoRound = refl
none_killed refusals.NotHeld = refl
none_killed refusals.NotWaiting = refl
none_killed refusals.NoUnit = refl

module _ (l : Limits) where
  -- aborts are no kills
  no_kills : (c id : ℕ) (from to aborts : List Event) → AreOfHolders l c id from to aborts → count_by is_kill aborts ≡ 0
  no_kills c id from to [] held = refl
  no_kills c id from to (e ∷ aborts) held =
      let one = held e here in
      let not_kill : ◌≡◌ {A = ℕ} (cond (is_kill e) 1 0) 0 = ap (λ (x : Event). cond (is_kill x) 1 0) one.is_abort in
      omega (arith, sum_by-cons (λ (x : Event). cond (is_kill x) 1 0) e aborts, not_kill, no_kills c id from to aborts (λ x at. held x (there at)))

  -- each of them is of a holder by itself
  abort_work : (c id : ℕ) (from to aborts : List Event) → AreOfHolders l c id from to aborts → All (IsKillWork l c id (id + 1) from to) aborts
  abort_work c id from to [] held = All-nil (IsKillWork l c id (id + 1) from to)
  abort_work c id from to (e ∷ aborts) held =
      All-cons (IsKillWork l c id (id + 1) from to) e aborts (id, omega arith, omega arith, inr (held e here)) (abort_work c id from to aborts (λ x at. held x (there at)))

  -- a wider range, and histories further apart
  wider : (c first end first' end' : ℕ) (from to from' to' : List Event) → first' ≤ first → end ≤ end' → IsPrefix from' from → IsPrefix to to' → (e : Event) → IsKillWork l c first end from to e → IsKillWork l c first' end' from' to' e
  wider c first end first' end' from to from' to' low high earlier later e (id, above, below, what) = (
    id,
    omega arith,
    omega arith,
    ⊎_elim (λ kill. inl kill) (λ h. inr (record {
      unit = h.unit;
      attempt = h.attempt;
      before = h.before;
      is_abort = h.is_abort;
      begins = begins_trans from' from h.before earlier h.begins;
      held = h.held;
      within = begins_trans (h.before ++ e ∷ []) to to' h.within later;
    })) what,
  )

  -- from one id to another, the pass made Kills of the ids between, and Aborts of units that held such
  pub record Did (x y : Killing) : Type 0 where
    pub on : x.id ≤ y.id
    pub number : y.pass.number ≡ x.pass.number
    pub seen : IsPrefix x.pass.seen y.pass.seen
    pub gains : GainsOnly (IsKillWork l x.pass.number x.id y.id x.pass.seen y.pass.seen) x.pass y.pass

  did_none : (x : Killing) → Did x x
  did_none x = record { on = omega arith; number = refl; seen = begins_refl x.pass.seen; gains = gains_none (IsKillWork l x.pass.number x.id x.id x.pass.seen x.pass.seen) x.pass x.pass refl }

  did_then : (x y z : Killing) → Did x y → Did y z → Did x z
  did_then x y z a b =
      let Whole : Event → Type 0 = IsKillWork l x.pass.number x.id z.id x.pass.seen z.pass.seen in
      let first : GainsOnly Whole x.pass y.pass = gains_weaker _ Whole x.pass y.pass (wider x.pass.number x.id y.id x.id z.id x.pass.seen y.pass.seen x.pass.seen z.pass.seen (omega arith) b.on (begins_refl x.pass.seen) b.seen) a.gains in
      let second : GainsOnly (IsKillWork l x.pass.number y.id z.id y.pass.seen z.pass.seen) y.pass z.pass = subst (λ (c : ℕ). GainsOnly (IsKillWork l c y.id z.id y.pass.seen z.pass.seen) y.pass z.pass) a.number b.gains in
      record {
        on = omega (arith, a.on, b.on);
        number = b.number ∙ a.number;
        seen = begins_trans x.pass.seen y.pass.seen z.pass.seen a.seen b.seen;
        gains = gains_then Whole x.pass y.pass z.pass first (gains_weaker _ Whole y.pass z.pass (wider x.pass.number y.id z.id x.id z.id y.pass.seen z.pass.seen x.pass.seen z.pass.seen a.on (omega arith) a.seen (begins_refl z.pass.seen)) second);
      }

  aborts_gained : (id : ℕ) (p q : PassShown) → OnlyAborts l id p q → GainsOnly (IsKillWork l p.number id (id + 1) p.seen q.seen) p q
  aborts_gained id p q h = (h.aborts, h.mine, abort_work p.number id p.seen q.seen h.aborts h.held)

  fails_gained : (id : ℕ) (p q : PassShown) (why : Refusal) → KillFails l id p q why → GainsOnly (IsKillWork l p.number id (id + 1) p.seen q.seen) p q
  fails_gained id p q refusals.NoMemory h = absurd h
  fails_gained id p q refusals.BadLimits h = absurd h
  fails_gained id p q refusals.BadStage h = absurd h
  fails_gained id p q refusals.NotThere h = gains_none (IsKillWork l p.number id (id + 1) p.seen q.seen) p q h.0.mine
  fails_gained id p q (refusals.Consumed unit) h = aborts_gained id p q h.0
  fails_gained id p q refusals.AlreadyKilled h = aborts_gained id p q h.0
  fails_gained id p q refusals.Full h = absurd h
  fails_gained id p q refusals.NotParked h = absurd h
  fails_gained id p q refusals.NoRound h = absurd h
  fails_gained id p q refusals.NotHeld h = absurd h
  fails_gained id p q refusals.NotWaiting h = absurd h
  fails_gained id p q refusals.NoUnit h = absurd h

  kill_gained : (id : ℕ) (p : PassShown) (r : Result Killed Refusal) (q : PassShown) → KillsOnce l id p r q → GainsOnly (IsKillWork l p.number id (id + 1) p.seen q.seen) p q
  kill_gained id p (Ok killed) q h =
      let work : All (IsKillWork l p.number id (id + 1) p.seen q.seen) (Kill p.number id ∷ []) = All-cons _ (Kill p.number id) [] (id, omega arith, omega arith, inl refl) (All-nil (IsKillWork l p.number id (id + 1) p.seen q.seen)) in
      (h.told.aborts ++ Kill p.number id ∷ [], h.told.mine ∙ append_assoc p.mine h.told.aborts (Kill p.number id ∷ []), All-append (IsKillWork l p.number id (id + 1) p.seen q.seen) h.told.aborts (Kill p.number id ∷ []) (abort_work p.number id p.seen q.seen h.told.aborts h.told.held) work)
  kill_gained id p (Err why) q h = fails_gained id p q why h.told

  did_once : (x : Killing) (r : Result Killed Refusal) (y : Killing) → KillsNext l x r y → Did x y
  did_once x r y h = record {
    on = omega (arith, h.next);
    number = h.call.follows.number;
    seen = begins_trans _ _ y.pass.seen h.call.follows.opened h.call.follows.closed;
    gains = subst (λ (end : ℕ). GainsOnly (IsKillWork l x.pass.number x.id end x.pass.seen y.pass.seen) x.pass y.pass) (sym h.next) (kill_gained x.id x.pass r y.pass h.call);
  }

  only_aborts : (id : ℕ) (p q : PassShown) → OnlyAborts l id p q → kills_in p ≡ kills_in q
  only_aborts id p q h = omega (arith, ap (count_by is_kill) h.mine, counted_more is_kill p.mine h.aborts, no_kills p.number id p.seen q.seen h.aborts h.held)

  fails_counted : (id : ℕ) (p q : PassShown) (why : Refusal) → KillFails l id p q why → kills_in p ≡ kills_in q
  fails_counted id p q refusals.NoMemory h = absurd h
  fails_counted id p q refusals.BadLimits h = absurd h
  fails_counted id p q refusals.BadStage h = absurd h
  fails_counted id p q refusals.NotThere h = ap (count_by is_kill) (sym h.0.mine)
  fails_counted id p q (refusals.Consumed unit) h = only_aborts id p q h.0
  fails_counted id p q refusals.AlreadyKilled h = only_aborts id p q h.0
  fails_counted id p q refusals.Full h = absurd h
  fails_counted id p q refusals.NotParked h = absurd h
  fails_counted id p q refusals.NoRound h = absurd h
  fails_counted id p q refusals.NotHeld h = absurd h
  fails_counted id p q refusals.NotWaiting h = absurd h
  fails_counted id p q refusals.NoUnit h = absurd h

  kill_counted : (id : ℕ) (p : PassShown) (r : Result Killed Refusal) (q : PassShown) → KillsOnce l id p r q → (kill_count r).killed + kills_in p ≡ kills_in q
  kill_counted id p (Ok killed) q h =
      let aborted : count_by is_kill (p.mine ++ h.told.aborts) ≡ kills_in p = counted_more is_kill p.mine h.told.aborts ∙ omega (arith, no_kills p.number id p.seen q.seen h.told.aborts h.told.held) in
      omega (arith, aborted, counted_one is_kill (p.mine ++ h.told.aborts) q.mine (Kill p.number id) 1 h.told.mine refl)
  kill_counted id p (Err why) q h = omega (arith, none_killed why, fails_counted id p q why h.told)

  pub total_kills : (n : ℕ) (x y : Killing) (s : Shift) → MadeCalls (KillsNext l) kill_count n x s y → total s ≡ n
  total_kills n x y s h = called_total (KillsNext l) kill_count one_kill n x y s h

  pub kills_counted : (n : ℕ) (x y : Killing) (s : Shift) → MadeCalls (KillsNext l) kill_count n x s y → s.killed + kills_in x.pass ≡ kills_in y.pass
  kills_counted n x y s h =
      called_gains (KillsNext l) kill_count (λ (c : Shift). c.killed) (λ (k : Killing). kills_in k.pass) refl (λ a b. refl)
      (λ x r y r'. kill_counted x.id x.pass r y.pass r'.call) n x y s h

  pub kills_gained : (n : ℕ) (x y : Killing) (s : Shift) → MadeCalls (KillsNext l) kill_count n x s y → Did x y
  kills_gained n x y s h = called_keeps (KillsNext l) kill_count Did did_none did_then did_once n x y s h

  pub kills_none : (first : ℕ) (p : PassShown) → MadeCalls (KillsNext l) kill_count (first - first) (record { id = first; pass = p }) empty_shift (record { id = first; pass = p })
  kills_none first p =
      subst (λ (n : ℕ). MadeCalls (KillsNext l) kill_count n (record { id = first; pass = p }) empty_shift (record { id = first; pass = p })) (omega arith) (called_none (KillsNext l) kill_count (record { id = first; pass = p }))

  -- one id more
  pub kills_more : (first id : ℕ) (p q q' : PassShown) (r : Result Killed Refusal) (s t u : Shift) → first ≤ id → MadeCalls (KillsNext l) kill_count (id - first) (record { id = first; pass = p }) s (record { id = id; pass = q })
      → KillsOnce l id q r q' → t ≡ kill_count r → u ≡ plus s t → MadeCalls (KillsNext l) kill_count (id + 1 - first) (record { id = first; pass = p }) u (record { id = id + 1; pass = q' })
  kills_more first id p q q' r s t u low h call is both =
      subst (λ (n : ℕ). MadeCalls (KillsNext l) kill_count n (record { id = first; pass = p }) u (record { id = id + 1; pass = q' })) (omega arith)
      (called_more (KillsNext l) kill_count (id - first) r (record { id = first; pass = p }) (record { id = id; pass = q }) (record { id = id + 1; pass = q' }) s t u h (record { next = refl; call = call }) is both)
