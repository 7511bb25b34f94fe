-- A kill where nobody else acts.
use Rattle.std.proofs.Common.{◌≡◌, ◌⊎◌, ℕ, nat_lt, Bool, true, false, cond, if◌then◌else◌, Option, Some, None, List, [], ◌∷◌, ◌++◌, Ok, Err, length, refl, sym, ◌∙◌, ap, subst, inl, inr, ⊎_elim, append_assoc}
use Rattle.std.proofs.lemmas.Bool.Decides.{eqb_tells}
use Rattle.std.proofs.lemmas.List.{append_cancel_left}
use Rattle.std.specs.Option.{option_or}
use Rattle.tp_model.specs.declared.types.Element.{Element}
use Rattle.tp_model.specs.declared.types.Killed.{Killed as KilledAnswer}
use Rattle.tp_model.specs.declared.types.Limits.{Limits}
use Rattle.tp_model.specs.declared.types.Refusal.TheVariants as refusal
use Rattle.tp_model.specs.declared.types.Status.{Status}
use Rattle.tp_model.specs.declared.types.Status.TheVariants.{Waiting, Held, Consumed, Parked, Killed}
use Rattle.tp_model.specs.declared.event.Event.{Event}
use Rattle.tp_model.specs.declared.event.Event.TheVariants.{Abort, Kill}
use Rattle.tp_model.specs.History.{Aborted, In, IsSettled, IsUnborn, UnitEnd, aborted, element_of, end_by, end_of, here, status_of, there}
use Rattle.tp_model.specs.Steps.{IsKillable, IsLegal, Step}
use Rattle.tp_model.proofs.Bridges.{append_nil, born_at, born_either, element_of-id, in_left, in_none, is_born}
use Rattle.tp_model.proofs.Histories.{status_of-snoc}
use Rattle.tp_model.proofs.Lists.{cut_of_snoc, first-snoc, if_other, if_same}
use Rattle.tp_plain.specs.OneThread.{State, extended}
use Rattle.tp_plain.specs.Computed.{kill_at, kill_of}
use Rattle.tp_manager.specs.Calls.{AreOfHolders, AtPoint, HasStatus, IsQuiet, Kills, OnlyAborts}
use Rattle.tp_manager.specs.Shown.{KeeperShown, PassShown}
use Rattle.tp_rollover.specs.Thread.{Alone, thread_of}
use Rattle.tp_rollover.specs.AloneLaws.{AloneKill}
use Rattle.tp_rollover.proofs.AloneApart.{end_is, number_is, old_seen, seen_is}
use Rattle.tp_rollover.proofs.AlonePoints.{point_one, point_quiet}
use Rattle.tp_rollover.proofs.AloneSubmits.{both}
use Rattle.tp_rollover.proofs.AloneThreads.{added_leaves, quiet_leaves, step_of, was}

-- an Abort makes no element held
held_before : (limit v u n : ℕ) (st : Status) → aborted limit v st ≡ Held u n → st ≡ Held u n
held_before limit v u n (Waiting m) e = e
held_before limit v u n (Held w m) e =
    elim (eqb_tells v w) [
      | inl p ↦ absurd (go (nat_lt m limit) (sym (if_same v w (if nat_lt m limit then Waiting m else Parked m) (Held w m) p.1) ∙ e))
      | inr p ↦ sym (if_other v w (if nat_lt m limit then Waiting m else Parked m) (Held w m) p.1) ∙ e
    ]
  where
    go : (b : Bool) → cond b (Waiting m) (Parked m) ≡ Held u n → ⊥
    go true is = cc
    go false is = cc
held_before limit v u n (Consumed w) e = e
held_before limit v u n (Parked m) e = e
held_before limit v u n Killed e = e

-- what is held after Aborts was held before them
pub held_through : (limit c i u n : ℕ) (h g : List Event) → ((e : Event) → In e g → (v : ℕ) × (e ≡ Abort c v)) → status_of limit (h ++ g) i ≡ Held u n → status_of limit h i ≡ Held u n
held_through limit c i u n h [] all held = subst (λ z. status_of limit z i ≡ Held u n) (append_nil h) held
held_through limit c i u n h (e ∷ g) all held =
    let later : status_of limit (h ++ e ∷ []) i ≡ Held u n =
    held_through limit c i u n (h ++ e ∷ []) g (λ x p. all x (there p)) (subst (λ z. status_of limit z i ≡ Held u n) (sym (append_assoc h (e ∷ []) g)) held) in
    let t = all e here in
    let one : status_of limit (h ++ Abort c t.0 ∷ []) i ≡ Held u n = subst (λ x. status_of limit (h ++ x ∷ []) i ≡ Held u n) t.1 later in
    held_before limit t.0 u n (status_of limit h i) (sym (status_of-snoc limit h (Abort c t.0) i) ∙ one)

-- no unit is aborted twice
not_twice : (l : Limits) (h : List Event) (c u : ℕ) → Step l (h ++ Abort c u ∷ []) (Abort c u) → ⊥
not_twice l h c u step =
    let none = step.open_unit.unfinished in
    go (end_of h u) (sym (first-snoc (end_by u) h (Abort c u) ∙ ap (option_or (end_of h u)) (if_same u u (Some Aborted) None refl)) ∙ none)
  where
    go : (x : Option UnitEnd) → option_or x (Some Aborted) ≡ None → ⊥
    go None e = cc
    go (Some x) e = cc

-- the status of what was held, once its unit is aborted
pub after_abort : (limit c u n i : ℕ) (h : List Event) → status_of limit h i ≡ Held u n → status_of limit (h ++ Abort c u ∷ []) i ≡ (if nat_lt n limit then Waiting n else Parked n)
after_abort limit c u n i h is = status_of-snoc limit h (Abort c u) i ∙ (ap (aborted limit u) is ∙ if_same u u (if nat_lt n limit then Waiting n else Parked n) (Held u n) refl)

-- Of the Aborts by pass c of holders of element i, after h and before `tail`, there is one if it is held in h, and else none.
module _ (l : Limits) (c i : ℕ) (h tail : List Event) (aborts : List Event) (legal : IsLegal l (h ++ (aborts ++ tail)))
    (cut : (g rest : List Event) (e : Event) → g ++ e ∷ rest ≡ aborts ++ tail → (x : Event) → In x g → In x aborts)
    (are : AreOfHolders l c i h (h ++ (aborts ++ tail)) aborts) where
  holder : (e : Event) → In e aborts → (u : ℕ) × (n : ℕ) × (e ≡ Abort c u) × (status_of l.attempts h i ≡ Held u n)
  holder e p =
      let t = are e p in
      let g : List Event = t.begins.0 in
      let rest : List Event = t.within.0 in
      let split : g ++ e ∷ rest ≡ aborts ++ tail =
      append_cancel_left h (g ++ e ∷ rest) (aborts ++ tail) (sym (append_assoc h g (e ∷ rest)) ∙ (ap (λ z. z ++ e ∷ rest) t.begins.1 ∙ (sym (append_assoc t.before (e ∷ []) rest) ∙ t.within.1))) in
      let all : (x : Event) → In x g → (v : ℕ) × (x ≡ Abort c v) = λ x q. (let s = are x (cut g rest e split x q) in (s.unit, s.is_abort)) in
      (t.unit, t.attempt, t.is_abort, held_through l.attempts c i t.unit t.attempt h g all (subst (λ z. status_of l.attempts z i ≡ Held t.unit t.attempt) (sym t.begins.1) t.held))

  pub one_holder : (aborts ≡ []) ⊎ ((u : ℕ) × (n : ℕ) × (aborts ≡ Abort c u ∷ []) × (status_of l.attempts h i ≡ Held u n))
  one_holder = go aborts refl
    where
      go : (xs : List Event) → xs ≡ aborts → (aborts ≡ []) ⊎ ((u : ℕ) × (n : ℕ) × (aborts ≡ Abort c u ∷ []) × (status_of l.attempts h i ≡ Held u n))
      go [] is = inl (sym is)
      go (x ∷ []) is = let t = holder x (subst (In x) is here) in inr (t.0, t.1, sym is ∙ ap (λ z. z ∷ []) t.2, t.3)
      go (x ∷ y ∷ rest) is =
          let s = holder x (subst (In x) is here) in
          let t = holder y (subst (In y) is (there here)) in
          let same : Held s.0 s.1 ≡ Held t.0 t.1 = sym s.3 ∙ t.3 in
          let unit : t.0 ≡ s.0 = cc in
          let place : (h ++ x ∷ []) ++ y ∷ (rest ++ tail) ≡ h ++ (aborts ++ tail) = append_assoc h (x ∷ []) (y ∷ (rest ++ tail)) ∙ ap (λ z. h ++ (z ++ tail)) is in
          let step : Step l (h ++ x ∷ []) y = legal.each (h ++ x ∷ []) y (rest ++ tail) place in
          let again : Step l (h ++ Abort c s.0 ∷ []) (Abort c s.0) = subst (λ z. Step l (h ++ Abort c s.0 ∷ []) z) (t.2 ∙ ap (Abort c) unit) (subst (λ z. Step l (h ++ z ∷ []) y) s.2 step) in
          absurd (not_twice l h c s.0 again)

-- the computed answer, by its status

none_there : (s : State) (c i : ℕ) → element_of s.history i ≡ None → kill_of s c i ≡ (Err refusal.NotThere, s)
none_there s c i none = rw none refl

consumed : (s : State) (c i u : ℕ) (e : Element) → element_of s.history i ≡ Some e → status_of s.limits.attempts s.history i ≡ Consumed u → kill_of s c i ≡ (Err (refusal.Consumed u), s)
consumed s c i u e born is = rw (born, is) refl

killed : (s : State) (c i : ℕ) (e : Element) → element_of s.history i ≡ Some e → status_of s.limits.attempts s.history i ≡ Killed → kill_of s c i ≡ (Err refusal.AlreadyKilled, s)
killed s c i e born is = rw (born, is) refl

pub held : (s : State) (c i u n : ℕ) (e : Element) → element_of s.history i ≡ Some e → status_of s.limits.attempts s.history i ≡ Held u n
    → kill_of s c i ≡ (Ok (record { units_aborted = 1 }), extended (extended s (Abort c u)) (Kill c i))
held s c i u n e born is = rw (born, is) refl

pub free : (s : State) (c i : ℕ) (e : Element) → element_of s.history i ≡ Some e → IsKillable (status_of s.limits.attempts s.history i) → kill_of s c i ≡ (Ok (record { units_aborted = 0 }), extended s (Kill c i))
free s c i e born may = rw born (go (status_of s.limits.attempts s.history i) may)
  where
    go : (st : Status) → IsKillable st → kill_at s c i st ≡ (Ok (record { units_aborted = 0 }), extended s (Kill c i))
    go (Waiting n) p = refl
    go (Held u n) p = absurd p
    go (Consumed u) p = absurd p
    go (Parked n) p = refl
    go Killed p = absurd p

module _ (l : Limits) (keeper keeper' : KeeperShown) (olds news : List PassShown) (h h' : List Event) (n c : ℕ) (old new : PassShown) (a : Alone l keeper keeper' olds news h h' n c old new) (turn : new.from ≡ old.from) (id : ℕ) where
  abbrev before : State
  before = was l keeper keeper' olds news h h' n c old new a

  number : old.number ≡ c
  number = number_is l keeper keeper' olds news h h' n c old new a

  -- the holders, where the call made these events
  holders_of : (aborts tail : List Event) → new.mine ≡ old.mine ++ (aborts ++ tail) → AreOfHolders l old.number id old.seen new.seen aborts
      → IsLegal l (h ++ (aborts ++ tail)) × AreOfHolders l c id h (h ++ (aborts ++ tail)) aborts
  holders_of aborts tail made are = (
    subst (IsLegal l) (end_is l keeper keeper' olds news h h' n c old new a (aborts ++ tail) made) a.after.legal,
    subst (λ d. AreOfHolders l d id h (h ++ (aborts ++ tail)) aborts) number (
        subst (λ z. AreOfHolders l old.number id z (h ++ (aborts ++ tail)) aborts) (old_seen l keeper keeper' olds news h h' n c old new a).seen (
        subst (λ z. AreOfHolders l old.number id old.seen z aborts) (seen_is l keeper keeper' olds news h h' n c old new a (aborts ++ tail) made) are)),
  )

  module _ (answer : KilledAnswer) (says : Kills l id answer.units_aborted old new) where
    made : new.mine ≡ old.mine ++ (says.aborts ++ Kill c id ∷ [])
    made = says.mine ∙ (append_assoc old.mine says.aborts (Kill old.number id ∷ []) ∙ ap (λ d. old.mine ++ (says.aborts ++ Kill d id ∷ [])) number)

    kills : (Ok answer, thread_of l news h') ≡ kill_of before c id
    kills =
        let t = holders_of says.aborts (Kill c id ∷ []) made says.held in
        ⊎_elim none one (one_holder l c id h (Kill c id ∷ []) says.aborts t.0
        (λ g rest e same x p. ⊎_elim (λ q. subst (In x) q.0 p) (λ q. subst (In x) q.1 (in_left (e ∷ q.0) p)) (cut_of_snoc g e rest says.aborts (Kill c id) same)) t.1)
      where
        none : says.aborts ≡ [] → (Ok answer, thread_of l news h') ≡ kill_of before c id
        none is =
            let made_one : new.mine ≡ old.mine ++ Kill c id ∷ [] = made ∙ ap (λ z. old.mine ++ (z ++ Kill c id ∷ [])) is in
            let step = step_of l keeper keeper' olds news h h' n c old new a (Kill c id) (end_is l keeper keeper' olds news h h' n c old new a (Kill c id ∷ []) made_one) in
            let count : answer.units_aborted ≡ 0 = sym says.counted ∙ ap length is in
            both (Ok answer) (Ok (record { units_aborted = 0 })) (thread_of l news h') (extended before (Kill c id)) (ap (λ k. Ok (record { units_aborted = k })) count)
            (added_leaves l keeper keeper' olds news h h' n c old new a turn (Kill c id ∷ []) made_one refl says.open_unit says.run)
            ∙ sym (free before c id step.item step.born step.free)

        one : ((u : ℕ) × (m : ℕ) × (says.aborts ≡ Abort c u ∷ []) × (status_of l.attempts h id ≡ Held u m)) → (Ok answer, thread_of l news h') ≡ kill_of before c id
        one t =
            let u : ℕ = t.0 in
            let made_two : new.mine ≡ old.mine ++ Abort c u ∷ Kill c id ∷ [] = made ∙ ap (λ z. old.mine ++ (z ++ Kill c id ∷ [])) t.2 in
            let last : h' ≡ h ++ Abort c u ∷ Kill c id ∷ [] = end_is l keeper keeper' olds news h h' n c old new a (Abort c u ∷ Kill c id ∷ []) made_two in
            let two : (h ++ Abort c u ∷ []) ++ Kill c id ∷ [] ≡ h ++ Abort c u ∷ Kill c id ∷ [] = append_assoc h (Abort c u ∷ []) (Kill c id ∷ []) in
            let step : Step l (h ++ Abort c u ∷ []) (Kill c id) = a.after.legal.each (h ++ Abort c u ∷ []) (Kill c id) [] (two ∙ sym last) in
            let at : step.item.id ≡ id = element_of-id (h ++ Abort c u ∷ []) id step.item step.born in
            let born : element_of h id ≡ Some step.item = ⊎_elim (λ p. born_at h id step.item p at) (λ p. absurd (in_none p)) (born_either step.item h (Abort c u) (is_born (h ++ Abort c u ∷ []) id step.item step.born)) in
            let count : answer.units_aborted ≡ 1 = sym says.counted ∙ ap length t.2 in
            let left : thread_of l news h' ≡ extended (extended before (Abort c u)) (Kill c id) =
            added_leaves l keeper keeper' olds news h h' n c old new a turn (Abort c u ∷ Kill c id ∷ []) made_two refl says.open_unit says.run
            ∙ ap (λ g. record { limits = l; history = g; passes = before.passes; drawn = before.drawn }) (sym two) in
            both (Ok answer) (Ok (record { units_aborted = 1 })) (thread_of l news h') (extended (extended before (Abort c u)) (Kill c id)) (ap (λ k. Ok (record { units_aborted = k })) count) left
            ∙ sym (held before c id u t.1 step.item born t.3)

  -- where the element was found settled, nothing was aborted
  pub only_looks : (st : Status) → IsSettled st → OnlyAborts l id old new → AtPoint old new (HasStatus l id st) → IsQuiet old new
  only_looks st settled only at =
      let made : new.mine ≡ old.mine ++ (only.aborts ++ []) = only.mine ∙ ap (λ z. old.mine ++ z) (sym (append_nil only.aborts)) in
      let t = holders_of only.aborts [] made only.held in
      ⊎_elim
      (λ none. record { mine = only.mine ∙ (ap (λ z. old.mine ++ z) none ∙ append_nil old.mine); open_unit = only.open_unit; run = only.run })
      (λ one. absurd (⊎_elim
      (λ p. let clash : st ≡ Held one.0 one.1 = sym p.2 ∙ one.3 in subst IsSettled clash settled)
      (λ p. clash_after one.1 (nat_lt one.1 l.attempts) (subst IsSettled (sym p.2 ∙ after_abort l.attempts c one.0 one.1 id h one.3) settled))
      (point_one l keeper keeper' olds news h h' n c old new a (HasStatus l id st) at (Abort c one.0) (only.mine ∙ ap (λ z. old.mine ++ z) one.2))))
      (one_holder l c id h [] only.aborts t.0 (λ g rest e same x p. subst (In x) (same ∙ append_nil only.aborts) (in_left (e ∷ rest) p)) t.1)
    where
      clash_after : (k : ℕ) (b : Bool) → IsSettled (cond b (Waiting k) (Parked k)) → ⊥
      clash_after k true p = p
      clash_after k false p = p

pub alone_kill : AloneKill
alone_kill id l keeper keeper' olds news h h' n c old new (Ok answer) a turn says = kills l keeper keeper' olds news h h' n c old new a turn id answer says
alone_kill id l keeper keeper' olds news h h' n c old new (Err refusal.NotThere) a turn says =
    ap (λ t. (Err refusal.NotThere, t)) (quiet_leaves l keeper keeper' olds news h h' n c old new a turn says.0)
    ∙ sym (none_there (was l keeper keeper' olds news h h' n c old new a) c id (point_quiet l keeper keeper' olds news h h' n c old new a (λ g. IsUnborn g id) says.1 says.0))
alone_kill id l keeper keeper' olds news h h' n c old new (Err (refusal.Consumed u)) a turn says =
    let quiet = only_looks l keeper keeper' olds news h h' n c old new a turn id (Consumed u) tt says.0 says.1 in
    let at = point_quiet l keeper keeper' olds news h h' n c old new a (HasStatus l id (Consumed u)) says.1 quiet in
    ap (λ t. (Err (refusal.Consumed u), t)) (quiet_leaves l keeper keeper' olds news h h' n c old new a turn quiet)
    ∙ sym (consumed (was l keeper keeper' olds news h h' n c old new a) c id u at.0 at.1 at.2)
alone_kill id l keeper keeper' olds news h h' n c old new (Err refusal.AlreadyKilled) a turn says =
    let quiet = only_looks l keeper keeper' olds news h h' n c old new a turn id Killed tt says.0 says.1 in
    let at = point_quiet l keeper keeper' olds news h h' n c old new a (HasStatus l id Killed) says.1 quiet in
    ap (λ t. (Err refusal.AlreadyKilled, t)) (quiet_leaves l keeper keeper' olds news h h' n c old new a turn quiet)
    ∙ sym (killed (was l keeper keeper' olds news h h' n c old new a) c id at.0 at.1 at.2)
alone_kill id l keeper keeper' olds news h h' n c old new (Err refusal.NoMemory) a turn says = absurd says
alone_kill id l keeper keeper' olds news h h' n c old new (Err refusal.BadLimits) a turn says = absurd says
alone_kill id l keeper keeper' olds news h h' n c old new (Err refusal.BadStage) a turn says = absurd says
alone_kill id l keeper keeper' olds news h h' n c old new (Err refusal.Full) a turn says = absurd says
alone_kill id l keeper keeper' olds news h h' n c old new (Err refusal.NotHeld) a turn says = absurd says
alone_kill id l keeper keeper' olds news h h' n c old new (Err refusal.NotWaiting) a turn says = absurd says
alone_kill id l keeper keeper' olds news h h' n c old new (Err refusal.NoUnit) a turn says = absurd says
alone_kill id l keeper keeper' olds news h h' n c old new (Err refusal.NotParked) a turn says = absurd says
alone_kill id l keeper keeper' olds news h h' n c old new (Err refusal.NoRound) a turn says = absurd says
