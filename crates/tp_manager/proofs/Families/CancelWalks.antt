-- A walk that cancels.
use Rattle.std.proofs.Common.{◌≡◌, ◌≢◌, ◌⊎◌, ◌↔◌, ℕ, ◌+◌, ◌<◌, ◌≤◌, true, false, Some, List, [], ◌∷◌, ◌++◌, length, refl, sym, ◌∙◌, ap, subst, inl, inr, ⊎_elim, arith, length-append}
use Rattle.std.proofs.lemmas.Bool.{cases_eq}
use mathlib.Core.List.{IsPrefix}
use Rattle.tp_model.specs.declared.types.Element.{Element}
use Rattle.tp_model.specs.declared.types.Limits.{Limits}
use Rattle.tp_model.specs.declared.types.Refusal.{Refusal}
use Rattle.tp_model.specs.declared.types.Status.TheVariants as statuses
use Rattle.tp_model.specs.declared.event.Event.{Event}
use Rattle.tp_model.specs.declared.event.Event.TheVariants.{Kill}
use Rattle.tp_model.specs.History.{In, here, IsBorn, IsSettled, Committed, element_of, end_of, status_of}
use Rattle.tp_model.specs.Families.{IsClosedFrom, IsOfFamily, IsRequest, family}
use Rattle.tp_model.specs.Orders.{IsNext, IsReached, IsWalk, LeadsTo}
use Rattle.tp_model.specs.Steps.{IsLegal, rows_of}
use Rattle.tp_model.specs.Words.{ClaimWord, FreeWord, TakenWord, KilledWord, AgainWord, claim_word, word_status}
use Rattle.tp_model.proofs.Bridges.{append_nil, begins_refl, born_at, element_of-id, end_stays, found_later, in_either, in_left, in_none, in_one, in_right, is_born}
use Rattle.tp_model.proofs.Descents.{consumed_later, whole_family}
use Rattle.tp_model.proofs.Families.{AllSettled, all_settled}
use Rattle.tp_model.proofs.Histories.{status_of-snoc}
use Rattle.tp_model.proofs.Later.{births_inside}
use Rattle.tp_model.proofs.LawProofs.{settled_stay}
use Rattle.tp_model.proofs.Lists.{if_same}
use Rattle.tp_model.proofs.Orders.{next_later, reached_later, reached_more, walk_later, walk_more}
use Rattle.tp_model.proofs.Replies.{reply_stands}
use Rattle.tp_model.proofs.WordProofs.{status_by_words}
use Rattle.tp_rule.specs.Views.{hand}
use Rattle.tp_rule.specs.declared.view.View.{View}
use Rattle.tp_manager.specs.declared.cancelling.CancelEnd.{CancelEnd}
use Rattle.tp_manager.specs.declared.cancelling.CancelEnd.TheVariants.{Killed, Outputs, Before}
use Rattle.tp_manager.specs.Bounds.{each_end_steps, end_steps_at}
use Rattle.tp_manager.specs.Cancels.{IsDoneAt, IsTarget}
use Rattle.tp_manager.specs.Endings.{Cancelling, CancelsIn, EndsAt, IsWalkedOut, IsEnded, IsUnworked, gone_steps, killed_in, killed_there}
use Rattle.tp_manager.specs.Families.{IsOutputFrom, Reached, and_from}
use Rattle.tp_manager.specs.Kills.{FailsIn, KillsIn}
use Rattle.tp_manager.specs.CallSteps.{Looked, Steady}
use Rattle.tp_manager.proofs.Families.Cancels.{killed_append, none_killed, swept_begins, swept_few, swept_freed, swept_looked, swept_slain, swept_then, target_later}
use Rattle.tp_manager.proofs.Accounts.Counts.{count_most}
use Rattle.tp_manager.proofs.Calls.Gains.{gained_begins}
use Rattle.tp_manager.proofs.Families.EndSums.{gone_few, gone_more, gone_none}
use Rattle.tp_manager.proofs.Families.InTurn.{done_wider, turns_more, turns_wider}
use Rattle.tp_manager.proofs.Families.ReplyWalks.{committed_if}
use Rattle.tp_manager.proofs.Families.Trees.{all_gone, gone_before, gone_either, gone_here, outputs_from, tree_begins, tree_on}
use Rattle.tp_manager.proofs.Calls.CallSteps.{looked_begins, looked_none}

-- who is consumed was taken by that unit, which was committed
module _ (l : Limits) (i : ℕ) where
  pub consumed_taken : (h : List Event) (u : ℕ) → IsLegal l h → status_of l.attempts h i ≡ statuses.Consumed u → (n : ℕ) × (r : ℕ) × (claim_word h i ≡ TakenWord n u r) × (f : ℕ) × (m : ℕ) × (end_of h u ≡ Some (Committed f m))
  consumed_taken h u legal is = go (claim_word h i) refl (sym (status_by_words l h i legal) ∙ is)
    where
      go : (w : ClaimWord) → claim_word h i ≡ w → word_status l.attempts h (claim_word h i) ≡ statuses.Consumed u → (n : ℕ) × (r : ℕ) × (claim_word h i ≡ TakenWord n u r) × (f : ℕ) × (m : ℕ) × (end_of h u ≡ Some (Committed f m))
      go FreeWord e s = absurd (let q : statuses.Waiting 0 ≡ statuses.Consumed u = ap (word_status l.attempts h) (sym e) ∙ s in cc)
      go (TakenWord n v r) e s =
          let t = committed_if l.attempts n v u (end_of h v) (ap (word_status l.attempts h) (sym e) ∙ s) in
          (n, r, e ∙ ap (λ z. TakenWord n z r) t.3, t.0, t.1, ap (end_of h) (sym t.3) ∙ t.2)
      go (KilledWord n v r) e s = absurd (let q : statuses.Killed ≡ statuses.Consumed u = ap (word_status l.attempts h) (sym e) ∙ s in cc)
      go (AgainWord r) e s = absurd (let q : statuses.Waiting 0 ≡ statuses.Consumed u = ap (word_status l.attempts h) (sym e) ∙ s in cc)

  -- what a refused kill left

  pub unworked_later : (a b : List Event) → IsLegal l b → IsPrefix a b → IsUnworked l i a → IsUnworked l i b
  unworked_later a b legal begins (inl killed) = inl (settled_stay l a b i legal begins (subst IsSettled (sym killed) tt) ∙ killed)
  unworked_later a b legal begins (inr t) = inr (t.0, found_later a b begins i t.0 t.1, t.2)

  -- and no unit consumes it
  pub unworked_not : (h : List Event) (u : ℕ) → IsLegal l h → IsUnworked l i h → status_of l.attempts h i ≢ statuses.Consumed u
  unworked_not h u legal (inl killed) is = let e : statuses.Killed ≡ statuses.Consumed u = sym killed ∙ is in cc
  unworked_not h u legal (inr t) is = ⊎_elim
      (λ q. let e : statuses.Waiting 0 ≡ statuses.Consumed u = sym q ∙ is in cc)
      (λ q. let e : statuses.Killed ≡ statuses.Consumed u = sym q ∙ is in cc)
      (reply_stands l h legal i t.0 t.1 t.2)

  module _ (root : ℕ) where
    pub ends_reply : (n m : ℕ) (v w : View) (x : Element) → n ≤ m → Looked l n v w → element_of w.seen i ≡ Some x → x.stage ≡ 15 → EndsAt l m root i Before v w
    ends_reply n m v w x le a born staged = record { events = []; swept = swept_few l root n m [] v w le (swept_looked l root n v w a); killed = refl; at = inl refl; is = inr (x, born, staged) }

    -- the element that a look found is one that the cancel may kill
    pub target : (a b : List Event) → IsPrefix a b → IsOfFamily a root i → ((x : Element) → element_of b i ≡ Some x → x.stage ≢ 15) → IsTarget root i b
    target a b begins t not = let born = found_later a b begins i t.0 t.1 in (t.0, born, t.2, not t.0 born)

    module _ (n m left : ℕ) (v w y : View) (a : Looked l n v w) (of : IsTarget root i w.seen) where
      -- what was done after the look
      at_from : (z : View) (es : List Event) → IsPrefix y.seen z.seen → IsDoneAt l (hand w).number root w.seen y.seen i es → IsDoneAt l (hand v).number root v.seen z.seen i es
      at_from z es later d = subst (λ k. IsDoneAt l k root v.seen z.seen i es) a.walk.number (done_wider l (hand w).number root v.seen w.seen y.seen z.seen i es (looked_begins l n v w a) later d)

      pub ends_killed : (k count : ℕ) → n + m ≤ k → KillsIn l m i left count w y → EndsAt l k root i Killed v y
      ends_killed k count le s =
          let c = (hand w).number in let es = s.0 in let one = s.3 in
          let killed : status_of l.attempts y.seen i ≡ statuses.Killed = ap (λ h. status_of l.attempts h i) one.ends ∙ (status_of-snoc l.attempts one.before (Kill c i) i ∙ if_same i i statuses.Killed (status_of l.attempts one.before i) refl) in
          let sw = swept_slain l root m i es w y of one in
          record {
            events = es ++ Kill c i ∷ [];
            swept = swept_few l root (n + m) k (es ++ Kill c i ∷ []) v y le (swept_then l root n m [] (es ++ Kill c i ∷ []) v w y (swept_looked l root n v w a) sw);
            killed = killed_append es (Kill c i ∷ []) ∙ ap (λ z. z ++ i ∷ []) (none_killed l c i w.seen y.seen es one.aborts);
            at = at_from y (es ++ Kill c i ∷ []) (begins_refl y.seen) (inr (target_later l root i w.seen y.seen (gained_begins l m (es ++ Kill c i ∷ []) w y one.gained) of, es, one.aborts, inr refl));
            is = inl killed;
          }

      pub ends_left : (k : ℕ) (e : Refusal) (r : CancelEnd) (z : View) → n + m + 1 ≤ k → FailsIn l m i left e w y → Looked l 1 y z → IsEnded l i z.seen r → killed_there i r ≡ [] → EndsAt l k root i r v z
      ends_left k e r z le s b is none =
          let es = s.0 in let f = s.2 in
          let sw = swept_then l root n m [] es v w y (swept_looked l root n v w a) (swept_freed l root m i es w y of f) in
          let all = swept_then l root (n + m) 1 es [] v y z sw (swept_looked l root 1 y z b) in
          record {
            events = es ++ [];
            swept = swept_few l root (n + m + 1) k (es ++ []) v z le all;
            killed = killed_append es [] ∙ (ap (λ q. q ++ []) (none_killed l (hand w).number i w.seen y.seen es f.aborts) ∙ sym none);
            at = at_from z (es ++ []) (looked_begins l 1 y z b) (inr (target_later l root i w.seen y.seen (gained_begins l m es w y f.gained) of, es, f.aborts, inl (append_nil es)));
            is = is;
          }

-- the walk

reply_same : (h : List Event) (x y : Element) → element_of h x.id ≡ Some x → element_of h x.id ≡ Some y → y.stage ≡ 15 → x.stage ≡ 15
reply_same h x y a b staged = let same : x ≡ y = cc in ap (λ (e : Element). e.stage) same ∙ staged

module _ (l : Limits) (root : ℕ) where
  done_later : (i : ℕ) (Has Has' : ℕ → Type 0) (a b : List Event) → IsLegal l b → IsPrefix a b → ((j : ℕ) → Has j → Has' j) → IsWalkedOut l Has a i → IsWalkedOut l Has' b i
  done_later i Has Has' a b legal begins more (inl t) = inl (unworked_later l i a b legal begins t)
  done_later i Has Has' a b legal begins more (inr t) = inr (
    t.0,
    t.1,
    t.2,
    consumed_later l a b i t.0 legal begins t.3,
    end_stays a b t.0 (Committed t.1 t.2) begins t.4,
    λ j low high. more j (t.5 j low high),
  )

  -- what it leads to at any later time was come to
  done_leads : (i j : ℕ) (Has : ℕ → Type 0) (a b : List Event) → IsLegal l b → IsPrefix a b → IsWalkedOut l Has a i → LeadsTo l.attempts b i j → LeadsTo l.attempts a i j × Has j
  done_leads i j Has a b legal begins (inl t) led = absurd (unworked_not l i b led.unit legal (unworked_later l i a b legal begins t) led.consumed)
  done_leads i j Has a b legal begins (inr t) led =
      let now = consumed_later l a b i t.0 legal begins t.3 in
      let q : statuses.Consumed led.unit ≡ statuses.Consumed t.0 = sym led.consumed ∙ now in
      let unit : led.unit ≡ t.0 = cc in
      let ends : Some (Committed led.first led.count) ≡ Some (Committed t.1 t.2) = sym led.ended ∙ (ap (end_of b) unit ∙ end_stays a b t.0 (Committed t.1 t.2) begins t.4) in
      let from : led.first ≡ t.1 = cc in let many : led.count ≡ t.2 = cc in
      let low = led.low in let high = led.high in
      let at_least : t.1 ≤ j = omega arith in let below : j < t.1 + t.2 = omega arith in
      (record { unit = t.0; consumed = t.3; first = t.1; count = t.2; ended = t.4; low = at_least; high = below }, t.5 j at_least below)

  pub cancelling_begins : (Left : ℕ → Type 0) (v : View) → Steady l v → IsRequest v.seen root → Left root → ((i : ℕ) → Left i → i ≡ root) → Cancelling l root 0 0 Left v v
  cancelling_begins Left v steady request left only = record {
    gone = λ i. false;
    tree = tree_begins l root Left v.seen steady.shows.legal request left only;
    walk = [];
    walked = λ i is. absurd cc;
    only = λ i p. absurd (in_none p);
    up = λ i r. ⊎_elim (λ q. inl (only i q)) (λ is. absurd cc) r;
    in_order = tt;
    done = λ i is. absurd cc;
    events = [];
    swept = swept_few l root 0 (gone_steps l (λ i. false) v.seen) [] v v (let none = gone_none l v.seen in omega arith) (swept_looked l root 0 v v (looked_none l v steady));
    counted = refl;
    turns = refl;
    few = omega arith;
  }

  -- the element that is taken is born, and of the family
  pub cancelling_there : (k killed i : ℕ) (Left : ℕ → Type 0) (v w : View) → Cancelling l root k killed Left v w → Left i → (i < rows_of l) × IsOfFamily w.seen root i
  cancelling_there k killed i Left v w t left =
      let c = t.tree.each i (inl left) in let legal = t.swept.gained.walk.steady.shows.legal in
      let inside = births_inside l w.seen legal c.0 (is_born w.seen i c.0 c.1) in let id = element_of-id w.seen i c.0 c.1 in
      (omega arith, (c.0, c.1, c.2))

  killed_one : (i : ℕ) (r : CancelEnd) → length (killed_there i r) ≤ 1
  killed_one i Killed = omega arith
  killed_one i Before = omega arith
  killed_one i (Outputs f m) = omega arith

  -- one element more
  module _ (k killed i : ℕ) (Left Next Adds : ℕ → Type 0) (r : CancelEnd) (v w y : View) (left : Left i) (least : (j : ℕ) → Left j → i ≤ j)
      (only : (j : ℕ) → Next j → (Left j × (j ≢ i)) ⊎ Adds j) (kept : (j : ℕ) → Left j → j ≢ i → Next j) (adds : (j : ℕ) → Adds j → IsOutputFrom y.seen root i j × LeadsTo l.attempts y.seen i j)
      (s : Cancelling l root k killed Left v w) (of : IsOfFamily w.seen root i) (e : EndsAt l (end_steps_at l of.0) root i r w y) (here_done : IsWalkedOut l Next y.seen i) where
    begins : IsPrefix w.seen y.seen
    begins = swept_begins l root (end_steps_at l of.0) e.events w y e.swept

    legal : IsLegal l y.seen
    legal = e.swept.gained.walk.steady.shows.legal

    before : IsLegal l w.seen
    before = s.swept.gained.walk.steady.shows.legal

    more : (j : ℕ) → Reached Left s.gone j → Reached Next (and_from i s.gone) j
    more j r = ⊎_elim
        (λ old. elim (cases_eq j i) [ inl q ↦ inr (subst (λ z. and_from i s.gone z ≡ true) (sym q) (gone_here i s.gone)) | inr differ ↦ inl (kept j old differ) ])
        (λ is. inr (gone_before i s.gone j is))
        r

    -- it was the next one
    next_one : IsNext l.attempts w.seen root s.walk i
    next_one = record {
      reached = s.up i (inl left);
      fresh = λ p. s.tree.apart i left (s.only i p);
      least = λ j r not. least j (waits j r not);
    }
      where
        come : (j : ℕ) → IsReached l.attempts w.seen root s.walk j → Reached Left s.gone j
        come j (inl q) = subst (Reached Left s.gone) (sym q) s.tree.root_too
        come j (inr t) = (done_leads t.0 j (Reached Left s.gone) w.seen w.seen before (begins_refl w.seen) (s.done t.0 (s.only t.0 t.1)) t.2).1

        waits : (j : ℕ) → IsReached l.attempts w.seen root s.walk j → ¬ In j s.walk → Left j
        waits j r not = ⊎_elim (λ old. old) (λ is. absurd (not (s.walked j is))) (come j r)

    order : IsWalk l.attempts y.seen root [] (s.walk ++ i ∷ [])
    order = walk_more l root y.seen [] s.walk i (walk_later l root w.seen y.seen [] s.walk legal begins led s.in_order) (next_later l root w.seen y.seen s.walk i legal begins led next_one)
      where
        led : (a j : ℕ) → In a s.walk → LeadsTo l.attempts y.seen a j → LeadsTo l.attempts w.seen a j
        led a j p t = (done_leads a j (Reached Left s.gone) w.seen y.seen legal begins (s.done a (s.only a p)) t).0

    pub cancelling_on : Cancelling l root (k + 1) (killed + length (killed_there i r)) Next v y
    cancelling_on = record {
      gone = and_from i s.gone;
      tree = tree_on l root k i Left Next Adds s.gone w.seen y.seen begins (cancelling_there k killed i Left v w s left).0 left only kept (λ j a. (adds j a).0) s.tree;
      walk = s.walk ++ i ∷ [];
      walked = λ j is. ⊎_elim (λ q. subst (λ z. In z (s.walk ++ i ∷ [])) (sym q) (in_right s.walk here)) (λ old. in_left (i ∷ []) (s.walked j old)) (gone_either i s.gone j is);
      only = λ j p. ⊎_elim (λ old. gone_before i s.gone j (s.only j old)) (λ last. subst (λ z. and_from i s.gone z ≡ true) (sym (in_one last)) (gone_here i s.gone)) (in_either s.walk (i ∷ []) p);
      up = up;
      in_order = order;
      done = λ j is. ⊎_elim
          (λ q. subst (IsWalkedOut l (Reached Next (and_from i s.gone)) y.seen) (sym q) (done_later i Next (Reached Next (and_from i s.gone)) y.seen y.seen legal (begins_refl y.seen) (λ z x. inl x) here_done))
          (λ old. done_later j (Reached Left s.gone) (Reached Next (and_from i s.gone)) w.seen y.seen legal begins more (s.done j old))
          (gone_either i s.gone j is);
      events = s.events ++ e.events;
      swept = swept_few l root (gone_steps l s.gone w.seen + end_steps_at l of.0) (gone_steps l (and_from i s.gone) y.seen) (s.events ++ e.events) v y
          (gone_more l i s.gone w.seen y.seen of.0 begins of.1 (s.tree.apart i left)) (swept_then l root (gone_steps l s.gone w.seen) (end_steps_at l of.0) s.events e.events v w y s.swept e.swept);
      counted = ap length (killed_append s.events e.events ∙ ap (λ z. killed_in s.events ++ z) e.killed) ∙ (length-append (killed_in s.events) (killed_there i r) ∙ ap (λ z. z + length (killed_there i r)) s.counted);
      turns = turns_more l (hand v).number root v.seen y.seen s.walk s.events i e.events
          (turns_wider l (hand v).number root v.seen v.seen w.seen y.seen s.walk s.events (begins_refl v.seen) begins s.turns)
          (subst (λ k. IsDoneAt l k root v.seen y.seen i e.events) s.swept.gained.walk.number
          (done_wider l (hand w).number root v.seen w.seen y.seen y.seen i e.events (swept_begins l root (gone_steps l s.gone w.seen) s.events v w s.swept) (begins_refl y.seen) e.at));
      few = let one = killed_one i r in let few = s.few in omega arith;
    }
      where
        up_old : (j : ℕ) → Reached Left s.gone j → IsReached l.attempts y.seen root (s.walk ++ i ∷ []) j
        up_old j r = reached_more l root y.seen s.walk i j (reached_later l root w.seen y.seen s.walk j legal begins (s.up j r))

        up : (j : ℕ) → Reached Next (and_from i s.gone) j → IsReached l.attempts y.seen root (s.walk ++ i ∷ []) j
        up j r = ⊎_elim
            (λ next. ⊎_elim (λ old. up_old j (inl old.0)) (λ new. inr (i, in_right s.walk here, (adds j new).1)) (only j next))
            (λ is. ⊎_elim (λ q. up_old j (inl (subst Left (sym q) left))) (λ old. up_old j (inr old)) (gone_either i s.gone j is))
            r

  -- no unit takes it: it leads to nothing
  pub cancelling_unworked : (k killed i : ℕ) (Left Less : ℕ → Type 0) (r : CancelEnd) (v w y : View) → Left i → ((j : ℕ) → Left j → i ≤ j) → ((j : ℕ) → Less j ↔ (Left j × (j ≢ i)))
      → Cancelling l root k killed Left v w → (of : IsOfFamily w.seen root i) → EndsAt l (end_steps_at l of.0) root i r w y → IsUnworked l i y.seen → Cancelling l root (k + 1) (killed + length (killed_there i r)) Less v y
  cancelling_unworked k killed i Left Less r v w y left least less s of e t =
      cancelling_on k killed i Left Less (λ j. ⊥) r v w y left least (λ j x. inl ((less j).0 x)) (λ j old differ. (less j).1 (old, differ)) (λ j none. absurd none) s of e (inl t)

  -- a unit had consumed it: the walk comes to its outputs
  pub cancelling_outputs : (k killed i first count : ℕ) (Left Less Next : ℕ → Type 0) (v w y : View) → Left i → ((j : ℕ) → Left j → i ≤ j) → ((j : ℕ) → Less j ↔ (Left j × (j ≢ i)))
      → ((j : ℕ) → Next j ↔ (Less j ⊎ ((first ≤ j) × (j < first + count)))) → Cancelling l root k killed Left v w → (of : IsOfFamily w.seen root i) → EndsAt l (end_steps_at l of.0) root i (Outputs first count) w y
      → Cancelling l root (k + 1) (killed + 0) Next v y
  cancelling_outputs k killed i first count Left Less Next v w y left least less next s of e =
      let t = e.is in let c = s.tree.each i (inl left) in let begins = swept_begins l root (end_steps_at l of.0) e.events w y e.swept in let legal = e.swept.gained.walk.steady.shows.legal in
      cancelling_on k killed i Left Next (λ j. (first ≤ j) × (j < first + count)) (Outputs first count) v w y left least
      (λ j x. ⊎_elim (λ old. inl ((less j).0 old)) (λ new. inr new) ((next j).0 x))
      (λ j old differ. (next j).1 (inl ((less j).1 (old, differ))))
      (λ j range. (
        outputs_from l root y.seen i t.0 first count j t.1 c.0 legal (found_later w.seen y.seen begins i c.0 c.1) c.2 t.2 t.3 t.5 range.0 range.1,
        record { unit = t.0; consumed = t.4; first = first; count = count; ended = t.5; low = range.0; high = range.1 },
      ))
      s of e (inr (t.0, first, count, t.4, t.5, λ j low high. (next j).1 (inr (low, high))))

  -- it goes on from no more elements than there are rows
  pub cancelling_most : (k killed : ℕ) (Left : ℕ → Type 0) (v w : View) → Cancelling l root k killed Left v w → k ≤ rows_of l
  cancelling_most k killed Left v w s = let all = count_most s.gone (rows_of l) in let k_is = s.tree.counted in omega arith

  -- nothing is left: the family is settled
  pub cancelling_ends : (k killed : ℕ) (Left : ℕ → Type 0) (v w : View) → ((i : ℕ) → ¬ Left i) → Cancelling l root k killed Left v w → CancelsIn l (each_end_steps l (family w.seen root)) root killed v w
  cancelling_ends k killed Left v w none s = record {
    events = s.events;
    swept = swept_few l root (gone_steps l s.gone w.seen) (each_end_steps l (family w.seen root)) s.events v w (gone_few l root s.gone w.seen legal of_root) s.swept;
    counted = s.counted;
    walk = s.walk;
    in_order = s.in_order;
    whole = λ i r. s.walked i (all_gone l root Left s.gone none i (come i r));
    turns = s.turns;
    settled = all_settled l w.seen root legal settled;
  }
    where
      legal : IsLegal l w.seen
      legal = s.swept.gained.walk.steady.shows.legal

      of_root : (x : Element) → element_of w.seen x.id ≡ Some x → s.gone x.id ≡ true → x.root ≡ root
      of_root x born is = let c = s.tree.each x.id (inr is) in let same : c.0 ≡ x = (let a = c.1 in cc) in ap (λ (z : Element). z.root) (sym same) ∙ c.2

      come : (j : ℕ) → IsReached l.attempts w.seen root s.walk j → Reached Left s.gone j
      come j (inl q) = subst (Reached Left s.gone) (sym q) s.tree.root_too
      come j (inr t) = (done_leads t.0 j (Reached Left s.gone) w.seen w.seen legal (begins_refl w.seen) (s.done t.0 (s.only t.0 t.1)) t.2).1

      closed : IsClosedFrom l.attempts w.seen root (λ i. s.gone i ≡ true)
      closed = record {
        root_too = all_gone l root Left s.gone none root s.tree.root_too;
        outputs_too = λ i u f m j is status ended low high. all_gone l root Left s.gone none j
            (done_leads i j (Reached Left s.gone) w.seen w.seen legal (begins_refl w.seen) (s.done i is) (record { unit = u; consumed = status; first = f; count = m; ended = ended; low = low; high = high })).1;
      }

      over : (x : Element) → IsBorn w.seen x → x.stage ≢ 15 → IsWalkedOut l (Reached Left s.gone) w.seen x.id → IsSettled (status_of l.attempts w.seen x.id)
      over x born not (inl (inl killed)) = subst IsSettled (sym killed) tt
      over x born not (inl (inr t)) = absurd (not (reply_same w.seen x t.0 (born_at w.seen x.id x born refl) t.1 t.2))
      over x born not (inr t) = subst IsSettled (sym t.3) tt

      settled : AllSettled l w.seen root
      settled x born same not = over x born not (s.done x.id (whole_family l w.seen root (λ i. s.gone i ≡ true) legal closed x born same))
