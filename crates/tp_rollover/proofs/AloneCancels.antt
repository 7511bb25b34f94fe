-- A cancel where nobody else acts.
use Rattle.std.proofs.Common.{◌≡◌, ◌≢◌, ◌⊎◌, ℕ, ◌+◌, ◌<◌, nat_lt, Bool, true, false, cond, Option, Some, None, List, [], ◌∷◌, ◌++◌, Ok, Err, filter, length, refl, sym, ◌∙◌, ap, subst, inl, inr, ⊎_elim, append_assoc, arith}
use mathlib.Core.List.{IsPrefix}
use Rattle.std.specs.Option.{option_or}
use Rattle.tp_model.specs.declared.types.Cancelled.{Cancelled}
use Rattle.tp_model.specs.declared.types.Element.{Element}
use Rattle.tp_model.specs.declared.types.Limits.{Limits}
use Rattle.tp_model.specs.declared.types.Refusal.TheVariants as refusal
use Rattle.tp_model.specs.declared.types.Status.{Status}
use Rattle.tp_model.specs.declared.types.Status.TheVariants.{Waiting, Held, Consumed, Parked, Killed}
use Rattle.tp_model.specs.declared.event.Event.{Event}
use Rattle.tp_model.specs.declared.event.Event.TheVariants.{Abort, Kill}
use Rattle.tp_model.specs.Families.{IsRequest, IsSettledFamily}
use Rattle.tp_model.specs.History.{Aborted, In, IsSettled, UnitEnd, here, there, element_of, end_by, end_of, status_of}
use Rattle.tp_model.specs.Orders.{IsReached, IsWalk, LeadsTo}
use Rattle.tp_model.specs.Steps.{IsKillable, IsLegal, Step}
use Rattle.tp_model.proofs.Bridges.{append_nil, element_of-id, end_stays, found_later, in_either, in_none, in_one, is_born}
use Rattle.tp_model.proofs.Families.{each_settled}
use Rattle.tp_model.proofs.Histories.{legal_start}
use Rattle.tp_model.proofs.Lists.{first-snoc, if_same}
use Rattle.tp_model.proofs.Orders.{leads_later}
use Rattle.tp_plain.specs.Computed.{cancel_found, cancel_of, is_unsettled, kill_of, unsettled_ids, with_kills}
use Rattle.tp_plain.specs.OneThread.{State}
use Rattle.tp_plain.specs.Walks.{walk_of}
use Rattle.tp_plain.proofs.Cancels.{KillLeft, alike, at_history, is_so, kill_left, unsettled_is}
use Rattle.tp_plain.proofs.Walks.{walk_is, walk_whole}
use Rattle.tp_manager.specs.Calls.{AreOfHolders}
use Rattle.tp_manager.specs.Cancels.{AreInTurn, Cancels, IsDoneAt, IsTarget, kills_among}
use Rattle.tp_manager.specs.Shown.{KeeperShown, PassShown}
use Rattle.tp_manager.proofs.Families.Cancels.{own_no_claims}
use Rattle.tp_rollover.specs.Thread.{Alone, thread_of}
use Rattle.tp_rollover.specs.AloneLaws.{AloneCancel}
use Rattle.tp_rollover.proofs.AloneApart.{end_is, number_is, old_seen, seen_is}
use Rattle.tp_rollover.proofs.AloneKills.{after_abort, free, held}
use Rattle.tp_rollover.proofs.AlonePoints.{point_quiet}
use Rattle.tp_rollover.proofs.AloneSubmits.{both}
use Rattle.tp_rollover.proofs.AloneThreads.{added_leaves, quiet_leaves, was}
use Rattle.tp_rollover.proofs.AloneEndings.{Distinct, distinct, filter_alike, kills_append, same_born, stays_open, two_places}
use Rattle.tp_rollover.proofs.AloneWalks.{AreEndings, leads_back, reached_back, walk_alike, walk_same}

-- s is the state before; the events of pass c lead to the history g
module _ (s : State) (c root : ℕ) (from g : List Event) (legal : IsLegal s.limits g) where
  abbrev l : Limits
  l = s.limits

  abbrev S : List Event → State
  S h = at_history s h

  -- the one place at which a unit was aborted
  aborted_once : (a b a' b' : List Event) (u d : ℕ) → IsPrefix (a ++ Abort c u ∷ []) a' → a' ++ Abort d u ∷ b' ≡ g → ⊥
  aborted_once a b a' b' u d begins is =
      let step : Step l a' (Abort d u) = legal.each a' (Abort d u) b' is in
      go (end_of a u) (first-snoc (end_by u) a (Abort c u) ∙ ap (option_or (end_of a u)) (if_same u u (Some Aborted) None refl)) (λ x p. end_stays (a ++ Abort c u ∷ []) a' u x begins p) step.open_unit.unfinished
    where
      go : (o : Option UnitEnd) → end_of (a ++ Abort c u ∷ []) u ≡ option_or o (Some Aborted) → ((x : UnitEnd) → end_of (a ++ Abort c u ∷ []) u ≡ Some x → end_of a' u ≡ Some x) → end_of a' u ≡ None → ⊥
      go None e stays none = let clash : Some Aborted ≡ None = sym (stays Aborted e) ∙ none in cc
      go (Some x) e stays none = let clash : Some x ≡ None = sym (stays x e) ∙ none in cc

  one_place : (a b a' b' : List Event) (u : ℕ) → a ++ Abort c u ∷ b ≡ g → a' ++ Abort c u ∷ b' ≡ g → a' ≡ a
  one_place a b a' b' u is is' = ⊎_elim (λ same. sym same)
      (⊎_elim (λ p. absurd (aborted_once a b a' b' u c p is')) (λ p. absurd (aborted_once a' b' a b u c p is)))
      (two_places a a' b b' (Abort c u) (Abort c u) (is ∙ sym is'))

  -- it held the element there
  held_at : (i : ℕ) (aborts a b : List Event) (x : Event) → AreOfHolders l c i from g aborts → In x aborts → a ++ x ∷ b ≡ g → (u : ℕ) × (n : ℕ) × (x ≡ Abort c u) × (status_of l.attempts a i ≡ Held u n)
  held_at i aborts a b x are p is =
      let t = are x p in
      let before : t.before ++ x ∷ t.within.0 ≡ g = sym (append_assoc t.before (x ∷ []) t.within.0) ∙ t.within.1 in
      let at : t.before ≡ a = one_place a b t.before t.within.0 t.unit (ap (λ z. a ++ z ∷ b) (sym t.is_abort) ∙ is) (ap (λ z. t.before ++ z ∷ t.within.0) (sym t.is_abort) ∙ before) in
      (t.unit, t.attempt, t.is_abort, subst (λ z. status_of l.attempts z i ≡ Held t.unit t.attempt) at t.held)

  -- so there is one such Abort at most
  one_abort : (i : ℕ) (k aborts rest : List Event) → k ++ (aborts ++ rest) ≡ g → AreOfHolders l c i from g aborts
      → (aborts ≡ []) ⊎ ((u : ℕ) × (n : ℕ) × (aborts ≡ Abort c u ∷ []) × (status_of l.attempts k i ≡ Held u n))
  one_abort i k [] rest is are = inl refl
  one_abort i k (x ∷ []) rest is are = let t = held_at i (x ∷ []) k rest x are here is in inr (t.0, t.1, ap (λ z. z ∷ []) t.2, t.3)
  one_abort i k (x ∷ y ∷ more) rest is are =
      let a = held_at i (x ∷ y ∷ more) k (y ∷ more ++ rest) x are here is in
      let b = held_at i (x ∷ y ∷ more) (k ++ x ∷ []) (more ++ rest) y are (there here) (append_assoc k (x ∷ []) (y ∷ more ++ rest) ∙ is) in
      let at : status_of l.attempts (k ++ Abort c a.0 ∷ []) i ≡ Held b.0 b.1 = subst (λ z. status_of l.attempts (k ++ z ∷ []) i ≡ Held b.0 b.1) a.2 b.3 in
      absurd (go a.1 b.0 b.1 (nat_lt a.1 l.attempts) (sym (after_abort l.attempts c a.0 a.1 i k a.3) ∙ at))
    where
      go : (n u m : ℕ) (b : Bool) → cond b (Waiting n) (Parked n) ≡ Held u m → ⊥
      go n u m true e = cc
      go n u m false e = cc

  -- what stands at an element that is left alone, and at one that isn't

  module _ (i : ℕ) (k own rest : List Event) (is : k ++ (own ++ rest) ≡ g) where
    killing : (aborts : List Event) → own ≡ aborts ++ Kill c i ∷ [] → Step l (k ++ aborts) (Kill c i)
    killing aborts all = legal.each (k ++ aborts) (Kill c i) rest
        (append_assoc k aborts (Kill c i ∷ rest) ∙ (ap (λ z. k ++ z) (sym (append_assoc aborts (Kill c i ∷ []) rest) ∙ ap (λ z. z ++ rest) (sym all)) ∙ is))

    abbrev Begins : (aborts : List Event) → List Event → Type 0
    Begins aborts tail = aborts ++ tail ≡ own ++ rest

    unsettled_now : IsTarget root i g → AreEndings c (own ++ rest) → ¬ IsSettled (status_of l.attempts k i) → is_unsettled (S k) root i ≡ true
    unsettled_now t all not = is_so (S k) root i (record {
      item = t.0;
      born = sym (same_born c k (own ++ rest) i all) ∙ (ap (λ z. element_of z i) is ∙ t.1);
      family = t.2;
      no_reply = t.3;
      unsettled = not;
    })

    killable_open : (st : Status) → IsKillable st → ¬ IsSettled st
    killable_open (Waiting n) p = λ s. s
    killable_open (Held u n) p = absurd p
    killable_open (Consumed u) p = absurd p
    killable_open (Parked n) p = λ s. s
    killable_open Killed p = absurd p

    -- what was done there shows that it was unsettled
    shows_open : (aborts : List Event) → AreOfHolders l c i from g aborts → ((own ≡ aborts) ⊎ (own ≡ aborts ++ Kill c i ∷ [])) → (own ≡ []) ⊎ (¬ IsSettled (status_of l.attempts k i))
    shows_open aborts are (inl all) =
        ⊎_elim (λ none. inl (all ∙ none)) (λ t. inr (λ s. subst IsSettled t.3 s))
        (one_abort i k aborts rest (ap (λ z. k ++ (z ++ rest)) (sym all) ∙ is) are)
    shows_open aborts are (inr all) =
        inr (⊎_elim
        (λ none. killable_open (status_of l.attempts k i) (subst (λ z. IsKillable (status_of l.attempts z i)) (ap (λ z. k ++ z) none ∙ append_nil k) (killing aborts all).free))
        (λ t. λ s. subst IsSettled t.3 s)
        (one_abort i k aborts (Kill c i ∷ rest) (ap (λ z. k ++ z) (sym (append_assoc aborts (Kill c i ∷ []) rest) ∙ ap (λ z. z ++ rest) (sym all)) ∙ is) are))

    left_alone : AreEndings c (own ++ rest) → IsDoneAt l c root from g i own → is_unsettled (S k) root i ≡ false → own ≡ []
    left_alone all (inl none) settled = none
    left_alone all (inr d) settled = ⊎_elim (λ none. none)
        (λ open_yet. absurd (let clash : true ≡ false = sym (unsettled_now d.0 all open_yet) ∙ settled in cc))
        (shows_open d.1 d.2 d.3)

    -- it was killed as the manager of one thread kills it
    killed_by : is_unsettled (S k) root i ≡ true → (aborts : List Event) → AreOfHolders l c i from g aborts → own ≡ aborts ++ Kill c i ∷ []
        → ((kill_of (S k) c i).1 ≡ S (k ++ own)) × (kills_among own ≡ 1) × (c < l.parts)
    killed_by unsettled aborts are all =
        ⊎_elim none one (one_abort i k aborts (Kill c i ∷ rest) (ap (λ z. k ++ z) (sym (append_assoc aborts (Kill c i ∷ []) rest) ∙ ap (λ z. z ++ rest) (sym all)) ∙ is) are)
      where
        step : Step l (k ++ aborts) (Kill c i)
        step = killing aborts all

        none : aborts ≡ [] → ((kill_of (S k) c i).1 ≡ S (k ++ own)) × (kills_among own ≡ 1) × (c < l.parts)
        none none_is =
            let at : own ≡ Kill c i ∷ [] = all ∙ ap (λ z. z ++ Kill c i ∷ []) none_is in
            let here_is : k ++ aborts ≡ k = ap (λ z. k ++ z) none_is ∙ append_nil k in
            let born : element_of k i ≡ Some step.item = ap (λ z. element_of z i) (sym here_is) ∙ step.born in (
              ap (λ r. r.1) (free (S k) c i step.item born (subst (λ z. IsKillable (status_of l.attempts z i)) here_is step.free)) ∙ ap (λ z. S (k ++ z)) (sym at),
              ap kills_among at,
              step.pass,
            )

        one : ((u : ℕ) × (n : ℕ) × (aborts ≡ Abort c u ∷ []) × (status_of l.attempts k i ≡ Held u n)) → ((kill_of (S k) c i).1 ≡ S (k ++ own)) × (kills_among own ≡ 1) × (c < l.parts)
        one t =
            let at : own ≡ Abort c t.0 ∷ Kill c i ∷ [] = all ∙ ap (λ z. z ++ Kill c i ∷ []) t.2 in
            let is = unsettled_is (S k) root i unsettled in (
              ap (λ r. r.1) (held (S k) c i t.0 t.1 is.item is.born t.3) ∙ (ap S (append_assoc k (Abort c t.0 ∷ []) (Kill c i ∷ [])) ∙ ap (λ z. S (k ++ z)) (sym at)),
              ap kills_among at,
              step.pass,
            )

  -- the events of such a list
  turn_events : (ids : List ℕ) (es : List Event) → AreInTurn l c root from g ids es → (e : Event) → In e es → ((u : ℕ) × (e ≡ Abort c u)) ⊎ ((j : ℕ) × (e ≡ Kill c j) × In j ids)
  turn_events [] es none e p = absurd (in_none (subst (In e) none p))
  turn_events (i ∷ ids) es a e p =
      ⊎_elim (λ q. at a.3 q)
      (λ q. ⊎_elim (λ u. inl u) (λ k. inr (k.0, k.1, there k.2)) (turn_events ids a.1 a.4 e q))
      (in_either a.0 a.1 (subst (In e) a.2 p))
    where
      at : IsDoneAt l c root from g i a.0 → In e a.0 → ((u : ℕ) × (e ≡ Abort c u)) ⊎ ((j : ℕ) × (e ≡ Kill c j) × In j (i ∷ ids))
      at (inl none) q = absurd (in_none (subst (In e) none q))
      at (inr d) q = ⊎_elim
          (λ all. let t = d.2 e (subst (In e) all q) in inl (t.unit, t.is_abort))
          (λ all. ⊎_elim (λ r. let t = d.2 e r in inl (t.unit, t.is_abort)) (λ r. inr (i, in_one r, here)) (in_either d.1 (Kill c i ∷ []) (subst (In e) all q)))
          d.3

  turn_endings : (ids : List ℕ) (es : List Event) → AreInTurn l c root from g ids es → AreEndings c es
  turn_endings ids es a e p = ⊎_elim (λ u. inl u) (λ k. inr (k.0, k.1)) (turn_events ids es a e p)

  module _ (settled : IsSettledFamily l.attempts g root) where
    -- what is unsettled was killed when its turn came
    must : (i : ℕ) (ids : List ℕ) (k own rest : List Event) → k ++ (own ++ rest) ≡ g → ¬ In i ids → AreInTurn l c root from g ids rest → is_unsettled (S k) root i ≡ true
        → ((e : Event) → In e own → (u : ℕ) × (e ≡ Abort c u)) → ⊥
    must i ids k own rest is apart turns unsettled aborts =
        let t = unsettled_is (S k) root i unsettled in
        let id = element_of-id k i t.item t.born in
        let begins : IsPrefix k g = (own ++ rest, is) in
        let born : element_of g i ≡ Some t.item = found_later k g begins i t.item t.born in
        let end : ¬ IsSettled (status_of l.attempts g i) = subst (λ z. ¬ IsSettled (status_of l.attempts z i)) is
        (stays_open l.attempts c i k (own ++ rest) (λ e p. ⊎_elim (λ q. inl (aborts e q))
        (λ q. ⊎_elim (λ u. inl u) (λ j. inr (j.0, j.1, λ same. apart (subst (λ z. In z ids) same j.2))) (turn_events ids rest turns e q))
        (in_either own rest p)) t.unsettled) in
        end (subst (λ z. IsSettled (status_of l.attempts g z)) id (each_settled l g root settled t.item (is_born g i t.item born) t.family t.no_reply))

    abbrev Sweeps : List ℕ → List Event → List Event → Type 0
    Sweeps ids k es = (with_kills (S k) c (filter (is_unsettled (S k) root) ids) ≡ S g) × (kills_among es ≡ length (filter (is_unsettled (S k) root) ids))

    sweep : (ids : List ℕ) (k es : List Event) → k ++ es ≡ g → Distinct ids → AreInTurn l c root from g ids es → Sweeps ids k es
    sweep [] k es is apart none = (ap S (sym (append_nil k) ∙ (ap (λ z. k ++ z) (sym none) ∙ is)), ap kills_among none)
    sweep (i ∷ ids) k es is apart a =
        go (is_unsettled (S k) root i) refl (sweep ids (k ++ a.0) a.1 (append_assoc k a.0 a.1 ∙ whole) apart.1 a.4)
      where
        whole : k ++ (a.0 ++ a.1) ≡ g
        whole = ap (λ z. k ++ z) (sym a.2) ∙ is

        counted : kills_among es ≡ kills_among a.0 + kills_among a.1
        counted = ap kills_among a.2 ∙ kills_append a.0 a.1

        endings : AreEndings c (a.0 ++ a.1)
        endings e p = turn_endings (i ∷ ids) es a e (subst (In e) (sym a.2) p)

        legal_now : IsLegal l k
        legal_now = legal_start l k (a.0 ++ a.1) (subst (IsLegal l) (sym whole) legal)

        -- the others stand as before
        others : is_unsettled (S k) root i ≡ true → (kill_of (S k) c i).1 ≡ S (k ++ a.0) → c < l.parts → (j : ℕ) → In j ids → is_unsettled (S (k ++ a.0)) root j ≡ is_unsettled (S k) root j
        others unsettled killed is_pass j p =
            let t = unsettled_is (S k) root i unsettled in
            let left : KillLeft s k c i (S (k ++ a.0)) = subst (KillLeft s k c i) killed (kill_left s k c i is_pass legal_now t.item t.born t.unsettled) in
            let later : left.later ≡ k ++ a.0 = ap (λ (x : State). x.history) (sym left.after) in
            let differ : j ≢ i = λ same. apart.0 (subst (λ z. In z ids) same p) in
            ap (λ z. is_unsettled (S z) root j) (sym later) ∙ alike s c root k left.later j (left.slain.same j) (left.slain.others j differ)

        killed : is_unsettled (S k) root i ≡ true → IsDoneAt l c root from g i a.0 → ((kill_of (S k) c i).1 ≡ S (k ++ a.0)) × (kills_among a.0 ≡ 1) × (c < l.parts)
        killed unsettled (inl none) = absurd (must i ids k a.0 a.1 whole apart.0 a.4 unsettled (λ e p. absurd (in_none (subst (In e) none p))))
        killed unsettled (inr d) = ⊎_elim
            (λ all. absurd (must i ids k a.0 a.1 whole apart.0 a.4 unsettled (λ e p. let t = d.2 e (subst (In e) all p) in (t.unit, t.is_abort))))
            (λ all. killed_by i k a.0 a.1 whole unsettled d.1 d.2 all)
            d.3

        go : (b : Bool) → is_unsettled (S k) root i ≡ b → Sweeps ids (k ++ a.0) a.1
            → (with_kills (S k) c (cond b (i ∷ filter (is_unsettled (S k) root) ids) (filter (is_unsettled (S k) root) ids)) ≡ S g) × (kills_among es ≡ length (cond b (i ∷ filter (is_unsettled (S k) root) ids) (filter (is_unsettled (S k) root) ids)))
        go true unsettled later =
            let t = killed unsettled a.3 in
            let same : filter (is_unsettled (S (k ++ a.0)) root) ids ≡ filter (is_unsettled (S k) root) ids = filter_alike (is_unsettled (S (k ++ a.0)) root) (is_unsettled (S k) root) ids (others unsettled t.0 t.2) in
            let one = t.1 in
            let rest : kills_among a.1 ≡ length (filter (is_unsettled (S k) root) ids) = later.1 ∙ ap length same in (
              ap (λ z. with_kills z c (filter (is_unsettled (S k) root) ids)) t.0 ∙ (ap (with_kills (S (k ++ a.0)) c) (sym same) ∙ later.0),
              (let all = counted in omega arith),
            )
        go false settled_yet later =
            let none = left_alone i k a.0 a.1 whole endings a.3 settled_yet in
            let here_is : k ++ a.0 ≡ k = ap (λ z. k ++ z) none ∙ append_nil k in
            let at : Sweeps ids k a.1 = subst (λ z. Sweeps ids z a.1) here_is later in
            let zero = ap kills_among none in
            (at.0, (let all = counted in let rest = at.1 in omega arith))

-- the call

no_request : (s : State) (c root : ℕ) → ¬ IsRequest s.history root → cancel_of s c root ≡ (Err refusal.NotThere, s)
no_request s c root not = go (element_of s.history root) refl
  where
    by : (e : Element) → element_of s.history root ≡ Some e → (o : Option ℕ) → e.by ≡ o → cancel_found s c root (Some e) ≡ (Err refusal.NotThere, s)
    by e is None own = absurd (not (e, is, own))
    by e is (Some u) own = rw own refl

    go : (o : Option Element) → element_of s.history root ≡ o → cancel_found s c root o ≡ (Err refusal.NotThere, s)
    go None is = refl
    go (Some e) is = by e is e.by refl

a_request : (s : State) (c root : ℕ) (e : Element) → element_of s.history root ≡ Some e → e.by ≡ None → cancel_of s c root ≡ (Ok (record { killed = length (unsettled_ids s root) }), with_kills s c (unsettled_ids s root))
a_request s c root e is own = ap (cancel_found s c root) is ∙ rw own refl

module _ (l : Limits) (keeper keeper' : KeeperShown) (olds news : List PassShown) (h h' : List Event) (n c : ℕ) (old new : PassShown) (a : Alone l keeper keeper' olds news h h' n c old new) (turn : new.from ≡ old.from) (root : ℕ) where
  abbrev before : State
  before = was l keeper keeper' olds news h h' n c old new a

  module _ (answer : Cancelled) (says : Cancels l root answer.killed old new) where
    abbrev es : List Event
    es = says.events

    last : h' ≡ h ++ es
    last = end_is l keeper keeper' olds news h h' n c old new a es says.mine

    seen : new.seen ≡ h ++ es
    seen = seen_is l keeper keeper' olds news h h' n c old new a es says.mine

    legal : IsLegal l (h ++ es)
    legal = subst (IsLegal l) last a.after.legal

    turns : AreInTurn l c root h (h ++ es) says.walk es
    turns =
        subst (λ z. AreInTurn l z root h (h ++ es) says.walk es) (number_is l keeper keeper' olds news h h' n c old new a)
        (subst (λ z. AreInTurn l old.number root z (h ++ es) says.walk es) (old_seen l keeper keeper' olds news h h' n c old new a).seen
        (subst (λ z. AreInTurn l old.number root old.seen z says.walk es) seen says.turns))

    endings : AreEndings c es
    endings = turn_endings before c root h (h ++ es) legal says.walk es turns

    in_order : IsWalk l.attempts (h ++ es) root [] says.walk
    in_order = subst (λ z. IsWalk l.attempts z root [] says.walk) seen says.in_order

    request : IsRequest h root
    request = let r = subst (λ z. IsRequest z root) seen says.request in (r.0, sym (same_born c h es root endings) ∙ r.1, r.2)

    -- the walk is the one that is computed
    same_walk : says.walk ≡ walk_of before root
    same_walk = walk_same l.attempts root h [] says.walk (walk_of before root)
        (walk_alike l.attempts root (h ++ es) h back on [] says.walk in_order)
        (walk_is before root a.before.legal)
        (λ j r. subst (λ z. (j : ℕ) → IsReached l.attempts z root says.walk j → In j says.walk) seen says.whole j (reached_back l.attempts root (h ++ es) h back on says.walk j r))
        (walk_whole before root a.before.legal request)
      where
        on : (i j : ℕ) → LeadsTo l.attempts h i j → LeadsTo l.attempts (h ++ es) i j
        on i j t = leads_later l h (h ++ es) i j legal (es, refl) t

        back : (i j : ℕ) → LeadsTo l.attempts (h ++ es) i j → LeadsTo l.attempts h i j
        back i j t = leads_back l.attempts c h es i j endings t

    swept : (with_kills before c (unsettled_ids before root) ≡ at_history before (h ++ es)) × (kills_among es ≡ length (unsettled_ids before root))
    swept = subst (λ ids. (with_kills before c (filter (is_unsettled before root) ids) ≡ at_history before (h ++ es)) × (kills_among es ≡ length (filter (is_unsettled before root) ids))) same_walk
        (sweep before c root h (h ++ es) legal (subst (λ z. IsSettledFamily l.attempts z root) seen says.settled) says.walk h es refl (distinct l.attempts root (h ++ es) [] says.walk in_order) turns)

    cancels : (Ok answer, thread_of l news h') ≡ cancel_of before c root
    cancels =
        both (Ok answer) (Ok (record { killed = length (unsettled_ids before root) })) (thread_of l news h') (with_kills before c (unsettled_ids before root))
        (ap (λ k. Ok (record { killed = k })) (sym says.counted ∙ swept.1))
        (added_leaves l keeper keeper' olds news h h' n c old new a turn es says.mine (own_no_claims l root old.number old.seen new.seen es says.own) says.open_unit says.run ∙ sym swept.0)
        ∙ sym (a_request before c root request.0 request.1 request.2)

pub alone_cancel : AloneCancel
alone_cancel root l keeper keeper' olds news h h' n c old new (Ok answer) a turn says = cancels l keeper keeper' olds news h h' n c old new a turn root answer says
alone_cancel root l keeper keeper' olds news h h' n c old new (Err why) a turn says =
    let s : State = was l keeper keeper' olds news h h' n c old new a in
    both (Err why) (Err refusal.NotThere) (thread_of l news h') s (ap (λ e. Err e) says.0) (quiet_leaves l keeper keeper' olds news h h' n c old new a turn says.1)
    ∙ sym (no_request s c root (point_quiet l keeper keeper' olds news h h' n c old new a (λ g. ¬ IsRequest g root) says.2 says.1))
