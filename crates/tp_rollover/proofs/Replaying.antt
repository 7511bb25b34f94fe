-- The steps of replays.
use Rattle.std.proofs.Common.{◌≡◌, ◌≢◌, ℕ, inl, inr, ◌+◌, ◌*◌, ◌<◌, ◌≤◌, if◌then◌else◌, is_some, All, Bool, true, false, Option, None, Some, List, [], ◌∷◌, ◌++◌, length, take, get_or, sym, ◌∙◌, ap, subst, arith}
use Rattle.std.proofs.Math.Nat.{add-mul}
use Rattle.tp_model.specs.declared.types.Limits.{Limits}
use Rattle.tp_model.specs.declared.event.Event.{Event}
use Rattle.tp_model.specs.declared.types.Status.{Status}
use Rattle.tp_model.specs.History.{rounds, status_of}
use Rattle.tp_manager.specs.Bounds.{requeue_steps}
use Rattle.tp_manager.specs.Shown.{KeeperShown, PassShown}
use Rattle.tp_rollover.specs.Bounds.{AllMake, IsWithinLimits, all_rounds, all_tries, attempt_steps, attempts_had, gathered, hold_of, hold_steps, holds_for, most_replay_steps, replay_of, replay_steps, replays_for, replays_of, tries_had}
use Rattle.tp_rollover.specs.Survivors.{IsStanding, StandsAgain}
use Rattle.tp_rollover.specs.declared.moved.Moved.{Moved}
use Rattle.tp_rollover.specs.declared.survivors.Survivor.{Survivor}
use Rattle.std.specs.List.{AllZip}
use Rattle.std.proofs.lemmas.Bool.Decides.{eqb_tells}
use Rattle.tp_rollover.proofs.Heads.{default_same, tail_all}
use Rattle.tp_rollover.proofs.Lists.{take_more}
use Rattle.tp_rollover.proofs.Steps.{enough, most_is}

-- one more
replays_more : (l : Limits) (q : ℕ) (ss : List Survivor) (s : Survivor) → replays_for l q (ss ++ s ∷ []) ≡ replays_for l q ss + replay_of l q s
replays_more l q [] s = omega arith
replays_more l q (x ∷ ss) s = let rest = replays_more l q ss s in omega (arith, rest)

pub replays_then : (l : Limits) (q : ℕ) (survivors : List Survivor) (i : ℕ) (d : Survivor) (k k1 k2 : KeeperShown) (ps qs rs : List PassShown) → i < length survivors → k1.given ≡ q → AllMake (replays_for l q (take i survivors)) k ps k1 qs
    → AllMake (replay_of l k1.given (get_or survivors i d)) k1 qs k2 rs → AllMake (replays_for l q (take (i + 1) survivors)) k ps k2 rs
replays_then l q survivors i d k k1 k2 ps qs rs less given before next =
    let e = replays_more l q (take i survivors) (get_or survivors i d) in
    let made = subst (λ z. AllMake (replay_of l z (get_or survivors i d)) k1 qs k2 rs) given next in
    subst (λ ss. AllMake (replays_for l q ss) k ps k2 rs) (sym (take_more survivors i d less)) (omega (arith, e, before, made))

-- so many attempts and rounds of one, and of others
replays_add : (l : Limits) (q a b c d : ℕ) → replay_steps l q a b + replay_steps l q c d ≡ replay_steps l q (a + c) (b + d)
replays_add l q a b c d =
    let e = add-mul a c (attempt_steps l q) in
    let f = add-mul b d (gathered l q requeue_steps) in
    omega (arith, e, f)

-- a hold is no more than an attempt
hold_less : (l : Limits) (q : ℕ) (b : Bool) → (if b then hold_steps l q else 0) ≤ (if b then 1 else 0) * attempt_steps l q
hold_less l q true = omega arith
hold_less l q false = omega arith

-- one with the attempt in hand
with_hold : (l : Limits) (q : ℕ) (s : Survivor) → replay_of l q s + hold_of l q s ≤ replay_steps l q ((attempts_had s.status + s.rounds * l.attempts) + (if is_some s.holder then 1 else 0)) s.rounds
with_hold l q s =
    let e = add-mul (attempts_had s.status + s.rounds * l.attempts) (if is_some s.holder then 1 else 0) (attempt_steps l q) in
    let f = hold_less l q (is_some s.holder) in
    omega (arith, e, f)

one_within : (l : Limits) (q : ℕ) (s : Survivor) → IsWithinLimits l s → replay_of l q s + hold_of l q s ≤ most_replay_steps l q
one_within l q s within =
    let had = attempts_had s.status in
    let x = if is_some s.holder then 1 else 0 in
    let a = attempt_steps l q in
    let b = gathered l q requeue_steps in
    let e = with_hold l q s in
    let f = add-mul (had + s.rounds * l.attempts) x a in
    let g = add-mul had (s.rounds * l.attempts) a in
    let h = add-mul had x a in
    let i = enough s.rounds (had + x) l.attempts a b within.1 within.0 in
    let j = most_is l q in
    omega (arith, e, f, g, h, i, j)

-- and all of them
pub all_within : (l : Limits) (q : ℕ) (survivors : List Survivor) → All (IsWithinLimits l) survivors → replays_for l q survivors + holds_for l q survivors ≤ length survivors * most_replay_steps l q
all_within l q [] all = omega arith
all_within l q (s ∷ ss) all =
    let one = one_within l q s (all 0 s (omega arith)) in
    let rest = all_within l q ss (tail_all (IsWithinLimits l) s ss all) in
    let e = add-mul 1 (length ss) (most_replay_steps l q) in
    omega (arith, one, rest, e)

-- what stands again has had what was described, and the attempt in hand
pub had_so : (l : Limits) (is status : Status) (holder : Option ℕ) → IsStanding l is status holder → attempts_had is ≡ attempts_had status + (if is_some holder then 1 else 0)
had_so l is status None a = ap attempts_had a.0 ∙ (let e : attempts_had status ≡ attempts_had status + 0 = omega arith in e)
had_so l is status (Some c) a = ap attempts_had a.2 ∙ ap (λ z. attempts_had z + 1) (sym a.3)

pub same_replays : (l : Limits) (q : ℕ) (g : List Event) (survivors : List Survivor) (moved : List Moved) → AllZip (StandsAgain l g) survivors moved → replays_for l q survivors + holds_for l q survivors ≤ replays_of l q g moved
same_replays l q g [] [] all = omega arith
same_replays l q g [] (m ∷ ms) all = absurd all
same_replays l q g (s ∷ ss) [] all = absurd all
same_replays l q g (s ∷ ss) (m ∷ ms) all =
    let limit = l.attempts in
    let x = if is_some s.holder then 1 else 0 in
    let rest = same_replays l q g ss ms all.1 in
    let had : tries_had limit g m.new ≡ (attempts_had s.status + x) + s.rounds * limit =
    ap (λ n. n + rounds g m.new * limit) (had_so l (status_of limit g m.new) s.status s.holder all.0.stands) ∙ ap (λ n. (attempts_had s.status + x) + n * limit) all.0.rounds_are in
    let order : (attempts_had s.status + x) + s.rounds * limit ≡ (attempts_had s.status + s.rounds * limit) + x = omega arith in
    let one : replay_steps l q (tries_had limit g m.new) (rounds g m.new) ≡ replay_steps l q ((attempts_had s.status + s.rounds * limit) + x) s.rounds =
    ap (λ n. replay_steps l q n (rounds g m.new)) (had ∙ order) ∙ ap (λ n. replay_steps l q ((attempts_had s.status + s.rounds * limit) + x) n) all.0.rounds_are in
    let first = with_hold l q s in
    let both = replays_add l q (tries_had limit g m.new) (rounds g m.new) (all_tries limit g ms) (all_rounds g ms) in
    omega (arith, rest, one, first, both)

-- and one more
pub within_more : (l : Limits) (survivors : List Survivor) (i : ℕ) (s : Survivor) → i < length survivors → ((k : ℕ) (d : Survivor) → k < i → IsWithinLimits l (get_or survivors k d)) → IsWithinLimits l (get_or survivors i s)
    → (k : ℕ) (d : Survivor) → k < i + 1 → IsWithinLimits l (get_or survivors k d)
within_more l survivors i s less before one k d low = elim (eqb_tells k i) [
  | inl p ↦ subst (IsWithinLimits l) (ap (λ n. get_or survivors n d) (sym p.1)) (subst (IsWithinLimits l) (default_same survivors i s d less) one)
  | inr p ↦ let not : k ≢ i = p.1 in before k d (omega (arith, low, not))
]
