-- All passes have looked together, counted, and looked together again.
use Rattle.std.proofs.Common.{◌≡◌, ℕ, zero, suc, ◌+◌, ◌*◌, ◌<◌, ◌≤◌, slice_index_or, List, [], ◌∷◌, map, length, sym, refl, ap, ◌∙◌, arith, ⊎_elim, All, length-append}
use Rattle.std.specs.List.{AllZip}
use Rattle.std.proofs.lemmas.Bool.Decides.{leb_tells}
use Rattle.std.proofs.lemmas.List.Elements.{All-cons, All-nil}
use mathlib.Core.List.{IsPrefix}
use mathlib.Core.Logic.{dite}
use native.Mathlib.Decide.{ℕ_discrete}
use Rattle.atomic_table.specs.Seated.{TableId}
use Rattle.tp_model.specs.declared.types.Account.{Account}
use Rattle.tp_model.specs.declared.types.Limits.{Limits}
use Rattle.tp_model.specs.declared.event.Event.{Event}
use Rattle.tp_model.specs.declared.trace.StepKind.TheVariants as kinds
use Rattle.tp_model.specs.Accounts.{account_of}
use Rattle.tp_model.specs.History.{events_by}
use Rattle.tp_model.specs.Steps.{rows_of}
use Rattle.tp_model.proofs.Bridges.{begins_trans}
use Rattle.tp_model.proofs.RowTallies.{counts_by_rows}
use Rattle.tp_rule.specs.Steps.{noted}
use Rattle.tp_rule.specs.Views.{hand}
use Rattle.tp_rule.specs.declared.view.Hand.{Hand}
use Rattle.tp_rule.specs.declared.view.View.{View}
use Rattle.tp_manager.specs.Accounts.{AreNumberedFrom}
use Rattle.tp_manager.specs.Bounds.{first_steps, gather_first, gather_kept, kept_steps, lead_steps, led_steps, look_steps, meet_steps}
use Rattle.tp_manager.specs.Meetings.{load}
use Rattle.tp_manager.specs.Shown.{PassShown, steps_in}
use Rattle.tp_manager.specs.Together.{AreAllPasses, CountsWith, GathersWith, HasCounted, IsAt, Joins, LooksOn, LooksWith}
use Rattle.tp_manager.specs.CallSteps.{Acted, Looked, Steady, with_trace}
use Rattle.tp_manager.specs.BetweenCalls.{untraced}
use Rattle.tp_manager.proofs.Calls.Follows.{follows_then, has_looked_then}
use Rattle.tp_manager.proofs.Accounts.RowCounts.{squeezed}
use Rattle.tp_manager.proofs.Accounts.Stills.{none_of_fresh, same_events}
use Rattle.tp_manager.proofs.Calls.CallSteps as walks
use Rattle.tp_manager.proofs.Calls.CallSteps.{acted_few, acted_then, looked_begins, looked_few, looked_then}

-- a pass that was there twice
joins_both : (table : TableId) (l : Limits) (n k : ℕ) (h g : List Event) (p m q : PassShown) → Joins table l n h p m → Joins table l k g m q → Joins table l (n + k) g p q
joins_both table l n k h g p m q a b = record {
  attends = record {
    seen = b.attends.seen;
    follows = follows_then n k p m q a.attends.follows b.attends.follows;
    looks = has_looked_then n k p m q a.attends.follows b.attends.follows a.attends.looks;
    quiet = record { mine = b.attends.quiet.mine ∙ a.attends.quiet.mine; open_unit = b.attends.quiet.open_unit ∙ a.attends.quiet.open_unit; run = (b.attends.quiet.run.0 ∙ a.attends.quiet.run.0, b.attends.quiet.run.1 ∙ a.attends.quiet.run.1, b.attends.quiet.run.2 ∙ a.attends.quiet.run.2) };
    turn = b.attends.turn ∙ a.attends.turn;
  };
  at = b.at;
}

module _ (table : TableId) (l : Limits) where
  joins_twice : (n k : ℕ) (h g : List Event) (olds mids news : List PassShown) → AllZip (Joins table l n h) olds mids → AllZip (Joins table l k g) mids news → AllZip (Joins table l (n + k) g) olds news
  joins_twice n k h g [] [] [] a b = tt
  joins_twice n k h g [] [] (q ∷ qs) a b = absurd b
  joins_twice n k h g [] (m ∷ ms) news a b = absurd a
  joins_twice n k h g (p ∷ ps) [] news a b = absurd a
  joins_twice n k h g (p ∷ ps) (m ∷ ms) [] a b = absurd b
  joins_twice n k h g (p ∷ ps) (m ∷ ms) (q ∷ qs) a b = (joins_both table l n k h g p m q a.0 b.0, joins_twice n k h g ps ms qs a.1 b.1)

  pub joins_at : (n : ℕ) (h : List Event) (olds news : List PassShown) → AllZip (Joins table l n h) olds news → All (IsAt table l) news
  joins_at n h [] [] a = All-nil (IsAt table l)
  joins_at n h [] (q ∷ qs) a = absurd a
  joins_at n h (p ∷ ps) [] a = absurd a
  joins_at n h (p ∷ ps) (q ∷ qs) a = All-cons (IsAt table l) q qs a.0.at (joins_at n h ps qs a.1)

  pub joins_long : (n : ℕ) (h : List Event) (olds news : List PassShown) → AllZip (Joins table l n h) olds news → length news ≡ length olds
  joins_long n h [] [] a = refl
  joins_long n h [] (q ∷ qs) a = absurd a
  joins_long n h (p ∷ ps) [] a = absurd a
  joins_long n h (p ∷ ps) (q ∷ qs) a = let e = joins_long n h ps qs a.1 in omega arith

  -- what pass c did between two looks together: nothing
  own_passes : (n k : ℕ) (h g : List Event) (a c : ℕ) (olds mids news : List PassShown) → AreNumberedFrom a olds → a ≤ c → c < a + length olds → AllZip (Joins table l n h) olds mids → AllZip (Joins table l k g) mids news → events_by c g ≡ events_by c h
  own_passes n k h g a c [] mids news from low high x y = absurd (omega arith)
  own_passes n k h g a c (p ∷ ps) [] news from low high x y = absurd x
  own_passes n k h g a c (p ∷ ps) (m ∷ ms) [] from low high x y = absurd y
  own_passes n k h g a c (p ∷ ps) (m ∷ ms) (q ∷ qs) from low high x y =
      dite (ℕ_discrete a c)
      (λ same. let at_m : m.number ≡ c = x.0.attends.follows.number ∙ (from.0 ∙ same) in let at_q : q.number ≡ c = y.0.attends.follows.number ∙ at_m in
      ap (events_by c) (sym y.0.attends.seen) ∙ (ap (λ z. events_by z q.seen) (sym at_q) ∙ (sym y.0.attends.follows.shows.own ∙ (y.0.attends.quiet.mine ∙ (x.0.attends.follows.shows.own ∙ (ap (λ z. events_by z m.seen) at_m ∙ ap (events_by c) x.0.attends.seen))))))
      (λ other. own_passes n k h g (a + 1) c ps ms qs from.1 (omega arith) (omega arith) x.1 y.1)

untraced_noted : (h : List Event) (hs : List Hand) → untraced (map (noted kinds.Load h) hs) ≡ untraced hs
untraced_noted h [] = refl
untraced_noted h (a ∷ hs) = ap (λ z. with_trace [] a ∷ z) (untraced_noted h hs)

untraced_looked : (l : Limits) (h : List Event) (v w : View) → LooksOn l h v w → untraced w.hands ≡ untraced v.hands
untraced_looked l h v w a = ap untraced a.hands ∙ untraced_noted h v.hands

-- and have each one step more
steps_noted : (h : List Event) (hs : List Hand) → (steps_in (map (noted kinds.Load h) hs) ≡ steps_in hs + length hs) × (length (map (noted kinds.Load h) hs) ≡ length hs)
steps_noted h [] = (refl, refl)
steps_noted h (a ∷ hs) = let one = length-append a.trace (load h ∷ []) in let rest = steps_noted h hs in let r = rest.0 in let k = rest.1 in (omega arith, omega arith)

steps_looked : (l : Limits) (h : List Event) (v w : View) → LooksOn l h v w → (steps_in w.hands ≡ steps_in v.hands + length v.hands) × (length w.hands ≡ length v.hands)
steps_looked l h v w a = let n = steps_noted h v.hands in (ap steps_in a.hands ∙ n.0, ap length a.hands ∙ n.1)

-- what the first pass did between two looks: nothing
own_first : (l : Limits) (n : ℕ) (v w : View) → Steady l v → Looked l n v w → (c : ℕ) → (hand v).number ≡ c → events_by c w.seen ≡ events_by c v.seen
own_first l n v w s a c is = let number : (hand w).number ≡ c = a.walk.number ∙ is in
    ap (λ z. events_by z w.seen) (sym number) ∙ (sym a.walk.steady.shows.own ∙ (ap (λ (z : Hand). z.mine) a.kept ∙ (s.shows.own ∙ ap (λ z. events_by z v.seen) is)))

pub untraced_long : (hs : List Hand) → length (untraced hs) ≡ length hs
untraced_long [] = refl
untraced_long (a ∷ hs) = let e = untraced_long hs in omega arith

-- v is the first pass before, v1 after it met the other seat, and w after the look together; v', o and w' are the
-- other seat, and olds and news these passes
pub gathers_with : (table : TableId) (l : Limits) (v v1 w v' o w' : View) (olds news : List PassShown) → Acted l meet_steps v v1 → LooksOn l v1.seen v' o → IsPrefix v'.seen v1.seen → LooksWith table l (length olds + 1) v1 w o w' olds news
    → GathersWith table l (gather_first (length olds + 1)) gather_kept led_steps v w v' w' olds news
gathers_with table l v v1 w v' o w' olds news met met_others saw one = record {
  first = acted_then l meet_steps (lead_steps (length olds + 1)) v v1 w met (walks.looked l (lead_steps (length olds + 1)) v1 w one.first);
  others = record {
    seen = one.others.seen;
    limits = one.others.limits;
    hands = untraced_looked l w.seen o w' one.others ∙ untraced_looked l v1.seen v' o met_others;
    mine = one.others.mine;
    known = one.others.known;
    steps = (let a = steps_looked l v1.seen v' o met_others in let b = steps_looked l w.seen o w' one.others in let p = a.0 in let q = a.1 in let r = b.0 in omega arith);
  };
  saw = begins_trans v'.seen v1.seen w.seen saw (looked_begins l _ v1 w (walks.looked l _ v1 w one.first));
  passes = one.passes;
}

-- v is the first pass before, v2 after the passes gathered, v3 after its count, and w after the second look together;
-- v', p and w' are the other seat, and olds, mids and news these passes
module _ (table : TableId) (l : Limits) (v v2 v3 w v' p w' : View) (olds mids news : List PassShown) (account : Account) (all : AreAllPasses l v v' olds) (g : GathersWith table l (gather_first (length olds + 1)) gather_kept led_steps v v2 v' p olds mids)
    (count : Looked l (rows_of l * look_steps l) v2 v3) (two : LooksWith table l (length mids + 1) v3 w p w' mids news) (counted : HasCounted l (rows_of l) v2 v3 account) where
  after : Looked l (rows_of l * look_steps l + lead_steps (length mids + 1)) v2 w
  after = looked_then l (rows_of l * look_steps l) (lead_steps (length mids + 1)) v2 v3 w count (walks.looked l (lead_steps (length mids + 1)) v3 w two.first)

  first : Acted l (first_steps l (length olds + 1)) v w
  first = let long = joins_long table l led_steps v2.seen olds mids g.passes in
      acted_few l (gather_first (length olds + 1) + (rows_of l * look_steps l + lead_steps (length mids + 1))) (first_steps l (length olds + 1)) v w (omega arith)
      (acted_then l (gather_first (length olds + 1)) (rows_of l * look_steps l + lead_steps (length mids + 1)) v v2 w g.first after)

  hands_last : untraced w'.hands ≡ untraced v'.hands
  hands_last = untraced_looked l w.seen p w' two.others ∙ g.others.hands

  none_first : (c : ℕ) → length olds + 1 ≤ c → c < l.parts → events_by c v2.seen ≡ []
  none_first = none_of_fresh l (length olds + 1) v2.seen p.hands all.few (g.others.hands ∙ all.others) g.others.mine

  none_last : (c : ℕ) → length olds + 1 ≤ c → c < l.parts → events_by c w.seen ≡ []
  none_last = none_of_fresh l (length olds + 1) w.seen w'.hands all.few (hands_last ∙ all.others) two.others.mine

  first_number : (hand v2).number ≡ 0
  first_number = g.first.walk.number ∙ all.first

  -- nobody made an event between
  nothing : (c : ℕ) → c < l.parts → events_by c w.seen ≡ events_by c v2.seen
  nothing c below =
      dite (ℕ_discrete 0 c)
      (λ same. own_first l _ v2 w g.first.walk.steady after c (first_number ∙ same))
      (λ other. cut (omega (arith, other)))
    where
      cut : 1 ≤ c → events_by c w.seen ≡ events_by c v2.seen
      cut low = ⊎_elim
          (λ t. let high : c ≤ length olds = t.1 in own_passes table l led_steps led_steps v2.seen w.seen 1 c olds mids news all.passes_are low (omega arith) g.passes two.passes)
          (λ t. let high : length olds < c = t.1 in none_last c (omega arith) below ∙ sym (none_first c (omega arith) below))
          (leb_tells c (length olds))

  same : w.seen ≡ v2.seen
  same = same_events l v2.seen w.seen two.first.walk.steady.shows.legal (looked_begins l _ v2 w after) nothing

  account_seen : account ≡ account_of l.attempts w.seen
  account_seen =
      let meanwhile : v3.seen ≡ v2.seen = squeezed v2.seen v3.seen w.seen (looked_begins l _ v2 v3 count) (looked_begins l _ v3 w (walks.looked l _ v3 w two.first)) same in
      counted meanwhile ∙ (counts_by_rows l v2.seen g.first.walk.steady.shows.legal ∙ ap (account_of l.attempts) (sym same))

  steps_last : steps_in w'.hands ≡ steps_in v'.hands + kept_steps * length v'.hands
  steps_last = let long : length p.hands ≡ length v'.hands = sym (untraced_long p.hands) ∙ (ap length g.others.hands ∙ untraced_long v'.hands) in let b = g.others.steps in let c = (steps_looked l w.seen p w' two.others).0 in omega arith

  pub counts_with : CountsWith table l (length olds + 1) v w v' w' olds news account
  counts_with = record {
    gathered = record {
      first = first;
      others = record { seen = two.others.seen; limits = two.others.limits; hands = hands_last; mine = two.others.mine; known = two.others.known; steps = steps_last };
      saw = begins_trans v'.seen v2.seen w.seen g.saw (looked_begins l _ v2 w after);
      passes = joins_twice table l led_steps led_steps v2.seen w.seen olds mids news g.passes two.passes;
    };
    account_is = account_seen;
  }

-- these passes have the numbers from c on
pub from_places : (c : ℕ) (ps : List PassShown) → ((k : ℕ) (d : PassShown) → k < length ps → (slice_index_or ps k d).number ≡ c + k) → AreNumberedFrom c ps
from_places c [] f = tt
from_places c (p ∷ ps) f = let none : c + 0 ≡ c = omega arith in
    (f 0 p (omega arith) ∙ none, from_places (c + 1) ps (λ k d less. let next : c + suc k ≡ c + 1 + k = omega arith in f (suc k) d (omega arith) ∙ next))

pub number_at : (c : ℕ) (ps : List PassShown) (k : ℕ) (d : PassShown) → AreNumberedFrom c ps → k < length ps → (slice_index_or ps k d).number ≡ c + k
number_at c [] k d from less = absurd (omega arith)
number_at c (p ∷ ps) zero d from less = let none : c ≡ c + 0 = omega arith in from.0 ∙ none
number_at c (p ∷ ps) (suc k) d from less = let next : c + 1 + k ≡ c + suc k = omega arith in number_at (c + 1) ps k d from.1 (omega arith) ∙ next
