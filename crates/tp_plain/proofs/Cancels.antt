-- A cancel kills what was unsettled of a family, and leaves the family settled.
use Rattle.std.proofs.Common.{◌≡◌, ◌≢◌, ℕ, zero, suc, ◌+◌, ◌<◌, ◌≤◌, ◌==◌, ◌&&◌, not, cond, Bool, true, false, Option, Some, None, Result, Ok, Err, List, [], ◌∷◌, ◌++◌, length, filter, find, if◌then◌else◌, nat_lt, get_or, take, refl, sym, ◌∙◌, ap, subst, inl, inr, ⊎_elim, arith}
use Rattle.std.specs.Prelude.{is_some}
use Rattle.std.proofs.lemmas.Bool.{and_from, and_parts, eqb-true, eq-eqb, ne_eqb}
use Rattle.std.proofs.lemmas.List.{length-append, take_all, take_more}
use Rattle.std.proofs.lemmas.List.Elements.{filter-append}
use Rattle.std.proofs.lemmas.List.Sums.{fold-append}
use Rattle.tp_model.specs.declared.types.Cancelled.{Cancelled}
use Rattle.tp_model.specs.declared.types.Element.{Element}
use Rattle.tp_model.specs.declared.types.Limits.{Limits}
use Rattle.tp_model.specs.declared.types.Refusal.{Refusal}
use Rattle.tp_model.specs.declared.types.Refusal.TheVariants as refusal
use Rattle.tp_model.specs.declared.types.Status.{Status}
use Rattle.tp_model.specs.declared.types.Status.TheVariants.{Waiting, Held, Consumed, Parked, Killed}
use Rattle.tp_model.specs.declared.event.Event.{Event}
use Rattle.tp_model.specs.declared.event.Event.TheVariants.{Abort, Kill}
use Rattle.tp_model.specs.Orders.{AreSomeOf}
use Rattle.tp_model.specs.History.{In, here, births, born, element_of, claim_of, aborted, status_of, IsSettled}
use Rattle.tp_model.specs.Families.{IsRequest}
use Rattle.tp_model.specs.Steps.{Step, IsLegal}
use Rattle.tp_plain.specs.OneThread.{State, PlainKills, KillsEach, IsUnsettled, PlainCancels, Answers, CallCancel}
use Rattle.tp_plain.specs.Looks.{is_settled}
use Rattle.tp_plain.specs.Walks.{walk_of}
use Rattle.tp_plain.proofs.Walks.{walk_fresh, walk_has, walk_is}
use Rattle.tp_plain.specs.Computed.{kill_at, kill_found, kill_of, unsettled_found, is_unsettled, unsettled_ids, with_kills, cancel_found, cancel_of}
use Rattle.tp_model.proofs.Bridges.{append_nil, element_of-id, in_either, in_left, in_none, in_one, in_right, is_born}
use Rattle.tp_model.proofs.Families.{all_settled, contains_filter, in_filter}
use Rattle.tp_model.proofs.Histories.{born-snoc, legal_more, status_of-snoc}
use Rattle.tp_model.proofs.Lists.{if_same, if_other}
use Rattle.tp_plain.proofs.Commits.{held_claimed}
use Rattle.tp_plain.proofs.Kills.{may_abort, may_kill_after}

-- what is unsettled, as a fact and as a test

settled_not : (st : Status) → not (is_settled st) ≡ true → ¬ IsSettled st
settled_not (Waiting n) is = λ settled. settled
settled_not (Held u n) is = λ settled. settled
settled_not (Consumed u) is = absurd cc
settled_not (Parked n) is = λ settled. settled
settled_not Killed is = absurd cc

not_settled : (st : Status) → ¬ IsSettled st → not (is_settled st) ≡ true
not_settled (Waiting n) not = refl
not_settled (Held u n) not = refl
not_settled (Consumed u) not = absurd (not tt)
not_settled (Parked n) not = refl
not_settled Killed not = absurd (not tt)

settled_or : (st : Status) → not (is_settled st) ≡ false → IsSettled st
settled_or (Waiting n) is = absurd cc
settled_or (Held u n) is = absurd cc
settled_or (Consumed u) is = tt
settled_or (Parked n) is = absurd cc
settled_or Killed is = tt

killed_found : (root : ℕ) (o : Option Element) → unsettled_found root Killed o ≡ false
killed_found root None = refl
killed_found root (Some e) = last (e.root == root) (e.stage == 15)
  where
    last : (a b : Bool) → (a && (not b && false)) ≡ false
    last true true = refl
    last true false = refl
    last false b = refl

module _ (s : State) (root i : ℕ) where
  pub unsettled_is : is_unsettled s root i ≡ true → IsUnsettled s root i
  unsettled_is is = go (element_of s.history i) refl is
    where
      go : (o : Option Element) → element_of s.history i ≡ o → unsettled_found root (status_of s.limits.attempts s.history i) o ≡ true → IsUnsettled s root i
      go None born is = absurd cc
      go (Some e) born is =
          let st = status_of s.limits.attempts s.history i in
          let a = and_parts (e.root == root) (not (e.stage == 15) && not (is_settled st)) is in
          let b = and_parts (not (e.stage == 15)) (not (is_settled st)) a.1 in
          record {
            item = e;
            born = born;
            family = eqb-true e.root root a.0;
            no_reply = λ same. (let clash : not true ≡ true = sym (ap not (eq-eqb e.stage 15 same)) ∙ b.0 in cc);
            unsettled = settled_not st b.1;
          }

  pub is_so : IsUnsettled s root i → is_unsettled s root i ≡ true
  is_so is =
      let st = status_of s.limits.attempts s.history i in
      let e = is.item in
      ap (unsettled_found root st) is.born
      ∙ and_from (e.root == root) (not (e.stage == 15) && not (is_settled st)) (eq-eqb e.root root is.family)
      (and_from (not (e.stage == 15)) (not (is_settled st)) (ap not (ne_eqb e.stage 15 is.no_reply)) (not_settled st is.unsettled))

-- those of these elements that are unsettled
module _ (s : State) (root : ℕ) where
  abbrev pub ids_in : List ℕ → List ℕ
  ids_in xs = filter (is_unsettled s root) xs

  exactly : IsLegal s.limits s.history → IsRequest s.history root → (i : ℕ) → (In i (unsettled_ids s root) → IsUnsettled s root i) × (IsUnsettled s root i → In i (unsettled_ids s root))
  exactly legal request i = (
    λ p. unsettled_is s root i (in_filter (is_unsettled s root) (walk_of s root) i p).1,
    λ is. contains_filter (is_unsettled s root) (walk_of s root) i (is_so s root i is)
        (subst (λ k. In k (walk_of s root)) (element_of-id s.history i is.item is.born) (walk_has s root legal request is.item (is_born s.history i is.item is.born) is.family)),
  )

-- what passes a test is some of a list
some_pass : (p : ℕ → Bool) (xs : List ℕ) → AreSomeOf (filter p xs) xs
some_pass p [] = tt
some_pass p (x ∷ xs) = go (p x) (filter p xs) (some_pass p xs)
  where
    go : (b : Bool) (ys : List ℕ) → AreSomeOf ys xs → AreSomeOf (cond b (x ∷ ys) ys) (x ∷ xs)
    go true ys some = inl (refl, some)
    go false [] some = tt
    go false (y ∷ ys) some = inr some

-- one kill

-- what a kill of element i leaves of the others
pub record Slain (l : Limits) (h : List Event) (i : ℕ) (k : List Event) : Type 0 where
  pub same : (j : ℕ) → element_of k j ≡ element_of h j
  pub others : (j : ℕ) → j ≢ i → status_of l.attempts k j ≡ status_of l.attempts h j
  pub gone : status_of l.attempts k i ≡ Killed
  pub legal : IsLegal l k

pub same_elements : (h : List Event) (e : Event) → births e ≡ [] → (j : ℕ) → element_of (h ++ e ∷ []) j ≡ element_of h j
same_elements h e none j = ap (find (λ (x : Element). x.id == j)) (born-snoc h e ∙ (ap (λ xs. born h ++ xs) none ∙ append_nil (born h)))

slain : (l : Limits) (h : List Event) (c i : ℕ) → IsLegal l h → Step l h (Kill c i) → Slain l h i (h ++ Kill c i ∷ [])
slain l h c i legal step =
    record {
      same = same_elements h (Kill c i) refl;
      others = λ j apart. status_of-snoc l.attempts h (Kill c i) j ∙ if_other i j Killed (status_of l.attempts h j) (λ same. apart (sym same));
      gone = status_of-snoc l.attempts h (Kill c i) i ∙ if_same i i Killed (status_of l.attempts h i) refl;
      legal = legal_more l h (Kill c i) legal step;
    }

-- the Abort of a unit leaves the elements that it doesn't hold
abort_others : (l : Limits) (h : List Event) (c i u n : ℕ) → IsLegal l h → status_of l.attempts h i ≡ Held u n → (j : ℕ) → j ≢ i → status_of l.attempts (h ++ Abort c u ∷ []) j ≡ status_of l.attempts h j
abort_others l h c i u n legal held j apart =
    status_of-snoc l.attempts h (Abort c u) j ∙ go (status_of l.attempts h j) refl
  where
    go : (st : Status) → status_of l.attempts h j ≡ st → aborted l.attempts u st ≡ st
    go (Waiting m) is = refl
    go (Held v m) is =
        if_other u v (if nat_lt m l.attempts then Waiting m else Parked m) (Held v m)
        (λ same. let a = held_claimed l h i u n legal held in let b = held_claimed l h j v m legal is in
        let first = a.1 in let second = b.1 in let of_one = ap (claim_of h) same in let one : a.0 ≡ b.0 = cc in
        apart (sym b.2 ∙ (sym (ap (λ t. t.item) one) ∙ a.2)))
    go (Consumed v) is = refl
    go (Parked m) is = refl
    go Killed is = refl

-- the state with another history
abbrev pub at_history : State → List Event → State
at_history s h = record { limits = s.limits; history = h; passes = s.passes; drawn = s.drawn }

module _ (s : State) (h : List Event) (c i : ℕ) where
  -- t is what a kill of element i leaves
  pub record KillLeft (t : State) : Type 0 where
    pub later : List Event
    pub after : t ≡ at_history s later
    pub aborts : ℕ
    pub kills : PlainKills (at_history s h) c i aborts (at_history s later)
    pub slain : Slain s.limits h i later

module _ (s : State) (h : List Event) (c i : ℕ) (is_pass : c < s.limits.parts) (legal : IsLegal s.limits h) where
  pub kill_left : (e : Element) → element_of h i ≡ Some e → ¬ IsSettled (status_of s.limits.attempts h i) → KillLeft s h c i (kill_of (at_history s h) c i).1
  kill_left e born open_yet =
      subst (λ o. KillLeft s h c i (kill_found (at_history s h) c i o).1) (sym born) (at (status_of s.limits.attempts h i) refl)
    where
      alone : Step s.limits h (Kill c i) → KillLeft s h c i (at_history s (h ++ Kill c i ∷ []))
      alone step = record { later = h ++ Kill c i ∷ []; after = refl; aborts = 0; kills = (step, refl); slain = slain s.limits h c i legal step }

      at : (st : Status) → status_of s.limits.attempts h i ≡ st → KillLeft s h c i (kill_at (at_history s h) c i st).1
      at (Waiting n) is = alone (record { pass = is_pass; item = e; born = born; free = rw is tt })
      at (Held u n) is =
          let one = may_abort s.limits h c i u n is_pass legal is in
          let two = may_kill_after s.limits h c i u n e is_pass born is in
          let mid = h ++ Abort c u ∷ [] in
          let last = slain s.limits mid c i (legal_more s.limits h (Abort c u) legal one) two in
          record {
            later = mid ++ Kill c i ∷ [];
            after = refl;
            aborts = 1;
            kills = (u, n, is, one, two, refl);
            slain =
                record {
                  same = λ j. last.same j ∙ same_elements h (Abort c u) refl j;
                  others = λ j apart. last.others j apart ∙ abort_others s.limits h c i u n legal is j apart;
                  gone = last.gone;
                  legal = last.legal;
                };
          }
      at (Consumed u) is = absurd (open_yet (rw is tt))
      at (Parked n) is = alone (record { pass = is_pass; item = e; born = born; free = rw is tt })
      at Killed is = absurd (open_yet (rw is tt))

-- the kills one after another

kills_more : (s : State) (c : ℕ) (ids : List ℕ) (m : State) (i n : ℕ) (t : State) → KillsEach s c ids m → PlainKills m c i n t → KillsEach s c (ids ++ i ∷ []) t
kills_more s c [] m i n t each one = (n, t, subst (λ x. PlainKills x c i n t) each one, refl)
kills_more s c (j ∷ ids) m i n t each one = (each.0, each.1, each.2, kills_more each.1 c ids m i n t each.3 one)

module _ (s : State) (c root : ℕ) where
  -- what stands once these elements were gone through, and those ids killed
  record Swept (xs ids : List ℕ) : Type 0 where
    later : List Event
    after : with_kills s c ids ≡ at_history s later
    kills : KillsEach s c ids (at_history s later)
    same : (j : ℕ) → element_of later j ≡ element_of s.history j
    untouched : (j : ℕ) → ¬ In j xs → status_of s.limits.attempts later j ≡ status_of s.limits.attempts s.history j
    done : (j : ℕ) → In j xs → is_unsettled (at_history s later) root j ≡ false
    legal : IsLegal s.limits later

  pub alike : (h k : List Event) (j : ℕ) → element_of k j ≡ element_of h j → status_of s.limits.attempts k j ≡ status_of s.limits.attempts h j
      → is_unsettled (at_history s k) root j ≡ is_unsettled (at_history s h) root j
  alike h k j elements statuses = λ i. unsettled_found root (statuses i) (elements i)

  skip : (xs ids : List ℕ) (n : ℕ) → Swept xs ids → ¬ In n xs → is_unsettled s root n ≡ false → Swept (xs ++ n ∷ []) ids
  skip xs ids n w fresh settled =
      record {
        later = w.later;
        after = w.after;
        kills = w.kills;
        same = w.same;
        untouched = λ j out. w.untouched j (λ p. out (in_left (n ∷ []) p));
        done = λ j p. ⊎_elim (w.done j)
            (λ last. ap (is_unsettled (at_history s w.later) root) (in_one last) ∙ (alike s.history w.later n (w.same n) (w.untouched n fresh) ∙ settled))
            (in_either xs (n ∷ []) p);
        legal = w.legal;
      }

  take_one : c < s.limits.parts → (xs ids : List ℕ) (n : ℕ) → Swept xs ids → ¬ In n xs → is_unsettled s root n ≡ true → Swept (xs ++ n ∷ []) (ids ++ n ∷ [])
  take_one is_pass xs ids n w fresh unsettled =
      let is = unsettled_is s root n unsettled in
      let status = w.untouched n fresh in
      let k = kill_left s w.later c n is_pass w.legal is.item (w.same n ∙ is.born) (λ settled. is.unsettled (subst IsSettled status settled)) in
      let gone : is_unsettled (at_history s k.later) root n ≡ false = ap (λ st. unsettled_found root st (element_of k.later n)) k.slain.gone ∙ killed_found root (element_of k.later n) in
      record {
        later = k.later;
        after = fold-append (λ t i. (kill_of t c i).1) s ids (n ∷ []) ∙ (ap (λ (t : State). (kill_of t c n).1) w.after ∙ k.after);
        kills = kills_more s c ids (at_history s w.later) n k.aborts (at_history s k.later) w.kills k.kills;
        same = λ j. k.slain.same j ∙ w.same j;
        untouched = λ j out. k.slain.others j (λ same. out (subst (λ z. In z (xs ++ n ∷ [])) (sym same) (in_right xs here))) ∙ w.untouched j (λ p. out (in_left (n ∷ []) p));
        done = λ j p. ⊎_elim
            (λ old. (let apart : j ≢ n = λ same. fresh (subst (λ z. In z xs) same old) in alike w.later k.later j (k.slain.same j) (k.slain.others j apart) ∙ w.done j old))
            (λ last. ap (is_unsettled (at_history s k.later) root) (in_one last) ∙ gone)
            (in_either xs (n ∷ []) p);
        legal = k.slain.legal;
      }

module _ (s : State) (c root : ℕ) (is_pass : c < s.limits.parts) (legal : IsLegal s.limits s.history) where
  abbrev walk : List ℕ
  walk = walk_of s root

  -- the first n of the walk
  abbrev first : ℕ → List ℕ
  first n = take n walk

  fresh : (n : ℕ) → n < length walk → ¬ In (get_or walk n 0) (first n)
  fresh n less = walk_fresh s.limits.attempts s.history root [] walk (walk_is s root legal) n less

  swept : (n : ℕ) → n ≤ length walk → Swept s c root (first n) (ids_in s root (first n))
  swept zero le =
      record {
        later = s.history;
        after = refl;
        kills = refl;
        same = λ j. refl;
        untouched = λ j out. refl;
        done = λ j p. absurd (in_none p);
        legal = legal;
      }
  swept (suc n) le =
      let i = get_or walk n 0 in
      let more : first (suc n) ≡ first n ++ i ∷ [] = (let e : suc n ≡ n + 1 = omega arith in ap first e ∙ take_more walk n 0 (omega arith)) in
      subst (λ xs. Swept s c root xs (ids_in s root xs)) (sym more)
      (subst (Swept s c root (first n ++ i ∷ [])) (sym (filter-append (is_unsettled s root) (first n) (i ∷ [])))
      (go (is_unsettled s root i) refl (swept n (omega arith)) (fresh n (omega arith))))
    where
      go : (b : Bool) → is_unsettled s root (get_or walk n 0) ≡ b → Swept s c root (first n) (ids_in s root (first n)) → ¬ In (get_or walk n 0) (first n)
          → Swept s c root (first n ++ get_or walk n 0 ∷ []) (ids_in s root (first n) ++ cond b (get_or walk n 0 ∷ []) [])
      go true is w out = take_one s c root is_pass (first n) (ids_in s root (first n)) (get_or walk n 0) w out is
      go false is w out = subst (Swept s c root (first n ++ get_or walk n 0 ∷ [])) (sym (append_nil (ids_in s root (first n)))) (skip s c root (first n) (ids_in s root (first n)) (get_or walk n 0) w out is)

  swept_all : Swept s c root walk (unsettled_ids s root)
  swept_all = subst (λ xs. Swept s c root xs (ids_in s root xs)) (take_all (length walk) walk (omega arith)) (swept (length walk) (omega arith))

  pub cancels : IsRequest s.history root → PlainCancels s c root (length (unsettled_ids s root)) (with_kills s c (unsettled_ids s root))
  cancels request =
      let w = swept_all in
      subst (PlainCancels s c root (length (unsettled_ids s root))) (sym w.after)
      (record {
        request = request;
        ids = unsettled_ids s root;
        walk = walk;
        in_order = walk_is s root legal;
        some_of = some_pass (is_unsettled s root) walk;
        exactly = exactly s root legal request;
        counted = refl;
        kills = w.kills;
        settled = all_settled s.limits w.later root w.legal (over w);
      })
    where
      over : (w : Swept s c root walk (unsettled_ids s root)) (x : Element) → element_of w.later x.id ≡ Some x → x.root ≡ root → x.stage ≢ 15 → IsSettled (status_of s.limits.attempts w.later x.id)
      over w x is family no_reply =
          let st = status_of s.limits.attempts w.later x.id in
          let none = sym (ap (unsettled_found root st) is) ∙ w.done x.id (walk_has s root legal request x (sym (w.same x.id) ∙ is) family) in
          let left : not (is_settled st) ≡ (x.root == root && (not (x.stage == 15) && not (is_settled st))) =
          λ i. sym (eq-eqb x.root root family) i && (not (sym (ne_eqb x.stage 15 no_reply) i) && not (is_settled st)) in
          settled_or st (left ∙ none)

  pub cancel_allowed : Answers s (CallCancel c root (cancel_of s c root).0) (cancel_of s c root).1
  cancel_allowed = go (element_of s.history root) refl
    where
      go : (o : Option Element) → element_of s.history root ≡ o → Answers s (CallCancel c root (cancel_found s c root o).0) (cancel_found s c root o).1
      go None none = ((λ is. let some = is.1 in let clash : None ≡ Some is.0 = sym none ∙ some in cc), refl)
      go (Some e) some = by (e.by) refl
        where
          by : (o : Option ℕ) → e.by ≡ o
              → let computed : Result Cancelled Refusal × State = cond {A = Result Cancelled Refusal × State} (is_some o) (Err refusal.NotThere, s) (Ok (record { killed = length (unsettled_ids s root) }), with_kills s c (unsettled_ids s root)) in
              Answers s (CallCancel c root computed.0) computed.1
          by None is = cancels (e, some, is)
          by (Some u) is = ((λ r. let born = r.1 in let one : e ≡ r.0 = cc in let clash : Some u ≡ None = sym is ∙ (ap (λ (x : Element). x.by) one ∙ r.2) in cc), refl)

  -- the kills of a cancel, where t is the state once the first n of the walk were gone through
  module _ (n : ℕ) (le : n ≤ length walk) (t : State) (state : t ≡ with_kills s c (ids_in s root (first n))) where
    pub same_limits : t.limits ≡ s.limits
    same_limits = ap (λ (x : State). x.limits) (state ∙ (swept n le).after)

    pub same_passes : t.passes ≡ s.passes
    same_passes = ap (λ (x : State). x.passes) (state ∙ (swept n le).after)

    module _ (i : ℕ) (less : n < length walk) (here_is : i ≡ get_or walk n 0) where
      -- whether it is to be killed doesn't hang on the kills so far
      still : is_unsettled t root i ≡ is_unsettled s root i
      still =
          let w = swept n le in
          ap (λ (x : State). is_unsettled x root i) (state ∙ w.after) ∙ alike s c root s.history w.later i (w.same i) (w.untouched i (subst (λ z. ¬ In z (first n)) (sym here_is) (fresh n less)))

      ids_next : (b : Bool) → is_unsettled t root i ≡ b → ids_in s root (first (n + 1)) ≡ ids_in s root (first n) ++ cond b (i ∷ []) []
      ids_next b is =
          ap (ids_in s root) (take_more walk n 0 less ∙ ap (λ z. first n ++ z ∷ []) (sym here_is))
          ∙ (filter-append (is_unsettled s root) (first n) (i ∷ [])
          ∙ ap (λ b. ids_in s root (first n) ++ cond b (i ∷ []) []) (sym still ∙ is))

      pub killed_one : is_unsettled t root i ≡ true → (kill_of t c i).1 ≡ with_kills s c (ids_in s root (first (n + 1)))
      killed_one is =
          ap (λ (x : State). (kill_of x c i).1) state
          ∙ sym (ap (with_kills s c) (ids_next true is) ∙ fold-append (λ x i. (kill_of x c i).1) s (ids_in s root (first n)) (i ∷ []))

      pub counted_one : is_unsettled t root i ≡ true → length (ids_in s root (first (n + 1))) ≡ length (ids_in s root (first n)) + 1
      counted_one is = ap length (ids_next true is) ∙ length-append (ids_in s root (first n)) (i ∷ [])

      pub left_alone : is_unsettled t root i ≡ false → ids_in s root (first (n + 1)) ≡ ids_in s root (first n)
      left_alone is = ids_next false is ∙ append_nil (ids_in s root (first n))

pub not_some : (o : Option ℕ) → is_some o ≡ false → o ≡ None
not_some None is = refl
not_some (Some x) is = absurd cc
