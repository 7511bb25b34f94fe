-- Passes that look together.
use Rattle.std.proofs.Common.{◌≡◌, ℕ, suc, ◌+◌, ◌≤◌, List, [], ◌∷◌, ◌++◌, map, length, sym, refl, ap, ◌∙◌, subst, arith, Some, append_assoc, slice_set, All}
use Rattle.std.specs.List.{AllZip}
use Rattle.std.proofs.lemmas.List.Elements.{All-head, All-set, All-tail}
use mathlib.Core.List.{IsPrefix}
use Rattle.atomic_table.specs.Seated.{TableId}
use Rattle.tp_model.specs.declared.types.Limits.{Limits}
use Rattle.tp_model.specs.declared.event.Event.{Event}
use Rattle.tp_model.specs.declared.trace.StepKind.TheVariants as kinds
use Rattle.tp_model.specs.History.{In, here, there, events_by}
use Rattle.tp_model.specs.Passes.{AreEnded, IsOwnOpen, IsRun}
use Rattle.tp_model.specs.Steps.{IsLegal}
use Rattle.tp_model.proofs.Bridges.{append_nil, begins_refl, begins_trans, in_left, in_right}
use Rattle.tp_rule.specs.Views.{HasPass, IsOnePass, first_hand, hand}
use Rattle.tp_rule.specs.Steps.{Grew, IsSo, Knows, Shares, front_of, joined, kept, looked, noted, parted, rest_of, unchanged}
use Rattle.tp_rule.specs.declared.view.Hand.{Hand}
use Rattle.tp_rule.specs.declared.view.Known.{Known}
use Rattle.tp_rule.specs.declared.view.Known.TheVariants.{BlocksDrawn}
use Rattle.tp_rule.specs.declared.view.View.{View}
use Rattle.tp_rule.proofs.Reading.{grew_begins}
use Rattle.tp_manager.specs.Bounds.{lead_steps, led_steps, meet_steps}
use Rattle.tp_manager.specs.Meetings.{load, seat_load}
use Rattle.tp_manager.specs.Shown.{Climbs, Spot, IsOf, ManagerShown, PassShown, shown}
use Rattle.tp_manager.specs.Together.{AreLots, FoundDrawn, IsAt, Joins, LooksOn, LooksWith, Lot, lot_of, lot_shown, lots}
use Rattle.tp_manager.specs.CallSteps.{Acted, Steady}
use Rattle.tp_manager.specs.BetweenCalls.{RemembersDrawn}
use Rattle.tp_manager.proofs.Accounts.Lots.{lots_moved, lots_seat}
use Rattle.tp_manager.proofs.Accounts.Meetings.{steady_seen}
use Rattle.tp_manager.proofs.Calls.Passes.{drawn_risen, quiet_looked}
use Rattle.tp_manager.proofs.Calls.CallSteps as walks
use Rattle.tp_manager.proofs.Calls.CallSteps.{acted_few, acted_then, follows, has_looked}

-- a pass v takes in the passes of a seat o, looks, and parts
module _ (l : Limits) (v o j m w x : View) (sv : Steady l v) (join : j ≡ joined v o) (g : Grew kinds.Load unchanged [] j m) (first : w ≡ kept m) (second : x ≡ parted m) where
  abbrev A : Hand
  A = noted kinds.Load m.seen (noted kinds.SeatLoad v.seen (hand v))

  join_hands : j.hands ≡ noted kinds.SeatLoad v.seen (hand v) ∷ o.hands
  join_hands = ap (λ (z : View). z.hands) join ∙ ap (λ hs. looked v hs ++ o.hands) sv.pass.0

  met_hands : m.hands ≡ A ∷ map (noted kinds.Load m.seen) o.hands
  met_hands = ap (λ (z : View). z.hands) g.view ∙ ap (map (λ a. noted kinds.Load m.seen a)) join_hands

  met_limits : m.limits ≡ l
  met_limits = ap (λ (z : View). z.limits) g.view ∙ (ap (λ (z : View). z.limits) join ∙ sv.pass.1)

  first_seen : w.seen ≡ m.seen
  first_seen = ap (λ (z : View). z.seen) first

  first_hands : w.hands ≡ noted kinds.SeatLoad m.seen A ∷ []
  first_hands = ap (λ (z : View). z.hands) first ∙ ap (λ hs. looked m (front_of hs)) met_hands

  first_is : hand w ≡ noted kinds.SeatLoad m.seen A
  first_is = ap first_hand first_hands

  second_hands : x.hands ≡ map (noted kinds.Load m.seen) o.hands
  second_hands = ap (λ (z : View). z.hands) second ∙ ap rest_of met_hands

  met_mine : (a : Hand) → In a m.hands → a.mine ≡ events_by a.number w.seen
  met_mine a p = g.mine a p ∙ ap (events_by a.number) (sym first_seen)

  met_open : (a : Hand) → In a m.hands → (u : ℕ) → a.open_unit ≡ Some u → IsOwnOpen w.seen a.number u
  met_open a p u is = subst (λ h. IsOwnOpen h a.number u) (sym first_seen) (g.open_own a p u is)

  met_ended : (a : Hand) → In a m.hands → AreEnded w.seen a.number a.open_unit
  met_ended a p = subst (λ h. AreEnded h a.number a.open_unit) (sym first_seen) (g.ended a p)

  met_run : (a : Hand) → In a m.hands → IsRun l w.seen a.number a.blocks a.next a.left
  met_run a p = subst (λ h. IsRun l h a.number a.blocks a.next a.left) (sym first_seen) (subst (λ (z : Limits). IsRun z m.seen a.number a.blocks a.next a.left) (ap (λ (z : View). z.limits) join ∙ sv.pass.1) (g.run a p))

  in_others : (a : Hand) → In a x.hands → In a m.hands
  in_others a p = subst (In a) (sym met_hands) (there (subst (In a) second_hands p))

  pub met_saw : IsPrefix o.seen w.seen
  met_saw = subst (IsPrefix o.seen) (sym first_seen) (subst (λ h. IsPrefix h m.seen) (ap (λ (z : View). z.also_seen) join) g.also_seen)

  met_begins : IsPrefix v.seen w.seen
  met_begins = subst (IsPrefix v.seen) (sym first_seen) (subst (λ h. IsPrefix h m.seen) (ap (λ (z : View). z.seen) join) (grew_begins kinds.Load unchanged [] j m g))

  A_in : In A m.hands
  A_in = subst (In A) (sym met_hands) here

  met_knows : (z : Known) → In z (v.known ++ o.known) → Knows m z
  met_knows z q = g.knows z (subst (λ (u : View). Knows u z) (sym join) q)

  met_known : (z : Known) → Knows m z → IsSo l w.seen z
  met_known z q = subst (λ h. IsSo l h z) (sym first_seen) (subst (λ (k : Limits). IsSo k m.seen z) (ap (λ (z : View). z.limits) join ∙ sv.pass.1) (g.is_so z q))

  met_steady : Steady l w
  met_steady = let h = first_is in steady_seen l v w sv (first_hands ∙ ap (λ (a : Hand). a ∷ []) (sym h)) (ap (λ (z : View). z.limits) first ∙ met_limits)
      (subst (λ (z : Limits). IsLegal z w.seen) (ap (λ (z : View). z.limits) join ∙ sv.pass.1) (subst (IsLegal j.limits) (sym first_seen) g.legal)) met_begins
      (ap (λ (a : Hand). a.mine) h ∙ (met_mine A A_in ∙ ap (λ (a : Hand). events_by a.number w.seen) (sym h)))
      (λ u is. subst (λ (a : Hand). IsOwnOpen w.seen a.number u) (sym h) (met_open A A_in u (sym (ap (λ (a : Hand). a.open_unit) h) ∙ is)))
      (subst (λ (a : Hand). AreEnded w.seen a.number a.open_unit) (sym h) (met_ended A A_in))
      (ap (λ (a : Hand). a.number) h) (subst (λ (a : Hand). IsRun l w.seen a.number a.blocks a.next a.left) (sym h) (met_run A A_in)) (λ z q. met_known z (subst (λ (u : View). Knows u z) first q))

  met_trace : (hand w).trace ≡ (hand v).trace ++ seat_load v.seen ∷ load w.seen ∷ seat_load w.seen ∷ []
  met_trace = ap (λ (a : Hand). a.trace) first_is ∙ (append_assoc ((hand v).trace ++ seat_load v.seen ∷ []) (load m.seen ∷ []) (seat_load m.seen ∷ []) ∙ (append_assoc (hand v).trace (seat_load v.seen ∷ []) (load m.seen ∷ seat_load m.seen ∷ [])
      ∙ ap (λ h. (hand v).trace ++ seat_load v.seen ∷ load h ∷ seat_load h ∷ []) (sym first_seen)))

  -- what it is for the pass
  pub met_acted : Acted l meet_steps v w
  met_acted = let h = first_is in record {
    marks = seat_load v.seen ∷ load w.seen ∷ seat_load w.seen ∷ [];
    walk = record { traced = met_trace; few = omega arith; opens = met_begins; closes = begins_refl w.seen; number = ap (λ (a : Hand). a.number) h; limits = sv.pass.1; steady = met_steady; knows = λ z q. subst (λ (u : View). Knows u z) (sym first) (met_knows z (in_left o.known q)) };
    kept = h ∙ ap (λ t. record (hand v) { trace = t }) (sym (ap (λ (a : Hand). a.trace) h));
    step = (load w.seen, there here, refl);
  }

  -- and for the others
  pub met_others : LooksOn l w.seen o x
  met_others = record {
    seen = ap (λ (z : View). z.seen) second ∙ sym first_seen;
    limits = ap (λ (z : View). z.limits) second ∙ met_limits;
    hands = second_hands ∙ ap (λ h. map (noted kinds.Load h) o.hands) (sym first_seen);
    mine = λ a p. met_mine a (in_others a p);
    open_own = λ a p u is. met_open a (in_others a p) u is;
    ended = λ a p. met_ended a (in_others a p);
    run = λ a p. met_run a (in_others a p);
    known = λ z q. subst (λ h. IsSo l h z) (first_seen ∙ sym (ap (λ (z : View). z.seen) second)) (met_known z (subst (λ (u : View). Knows u z) second q));
    knows = λ z q. subst (λ (u : View). Knows u z) (sym second) (met_knows z (in_right v.known q));
  }

  -- what they have found
  pub met_found : (n : ℕ) → Knows m (BlocksDrawn n) → n ≤ l.spare → ((k : ℕ) → Knows j (BlocksDrawn k) → k ≤ n) → FoundDrawn n v w o x
  met_found n found inside rises = record {
    first = (subst (λ (z : Limits). n ≤ z.spare) (sym (ap (λ (z : View). z.limits) first ∙ met_limits)) inside, λ _. subst (λ (u : View). Knows u (BlocksDrawn n)) (sym first) found);
    others = (subst (λ (z : Limits). n ≤ z.spare) (sym (ap (λ (z : View). z.limits) second ∙ met_limits)) inside, λ _. subst (λ (u : View). Knows u (BlocksDrawn n)) (sym second) found);
    rises = λ k q. rises k (subst (λ (u : View). Knows u (BlocksDrawn k)) (sym join) (in_left o.known q));
    others_rise = λ k q. rises k (subst (λ (u : View). Knows u (BlocksDrawn k)) (sym join) (in_right v.known q));
  }

  pub met_lots : (n : ℕ) → Shares n m → AreLots l n (lots w x [])
  met_lots n shares =
      let others : map lot_of (map (noted kinds.Load m.seen) o.hands) ≡ map lot_of x.hands ++ [] = sym (append_nil (map lot_of x.hands) ∙ ap (map lot_of) second_hands) in
      subst (AreLots l n) (ap (map lot_of) met_hands ∙ (ap (λ zs. lot_of A ∷ zs) others ∙ ap (λ (a : Hand). lot_of a ∷ (map lot_of x.hands ++ [])) (sym first_is))) (lots_seat l n m met_limits shares)

-- a seat has a pass, once it has joined others to its one
pub joins_has : (v o j : View) → IsOnePass v → j ≡ joined v o → HasPass j
joins_has v o j one join = (noted kinds.SeatLoad v.seen (hand v), subst (In (noted kinds.SeatLoad v.seen (hand v))) (sym (ap (λ (z : View). z.hands) join ∙ ap (λ hs. looked v hs ++ o.hands) one)) here)

-- a pass that was met stands alone as before
pub met_one : (l : Limits) (h : List Event) (p q : View) → IsOnePass p → LooksOn l h p q → IsOnePass q
met_one l h p q one met = let e : q.hands ≡ noted kinds.Load h (hand p) ∷ [] = met.hands ∙ ap (map (noted kinds.Load h)) one in e ∙ ap (λ (a : Hand). a ∷ []) (sym (ap first_hand e))

-- a pass p that was met (q), joined the others o to its seat (r), looked with them (s), and parted (t): they are then in the seat x
module _ (l : Limits) (p q r s t o x : View) (h g : List Event) (sp : Steady l p) (met : LooksOn l h p q) (saw : IsPrefix p.seen h) (join : r ≡ joined q o) (look : LooksOn l g r s) (legal : IsLegal l g) (more : IsPrefix h g) (first : t ≡ kept s) (second : x ≡ parted s) where
  abbrev M : Hand
  M = noted kinds.Load h (hand p)

  abbrev N : Hand
  N = noted kinds.Load g (noted kinds.SeatLoad q.seen M)

  one_met : q.hands ≡ M ∷ []
  one_met = met.hands ∙ ap (map (noted kinds.Load h)) sp.pass.0

  all_joined : r.hands ≡ noted kinds.SeatLoad q.seen M ∷ o.hands
  all_joined = ap (λ (z : View). z.hands) join ∙ ap (λ hs. looked q hs ++ o.hands) one_met

  all_looked : s.hands ≡ N ∷ map (noted kinds.Load g) o.hands
  all_looked = look.hands ∙ ap (map (noted kinds.Load g)) all_joined

  t_hands : t.hands ≡ noted kinds.SeatLoad s.seen N ∷ []
  t_hands = ap (λ (z : View). z.hands) first ∙ ap (λ hs. looked s (front_of hs)) all_looked

  t_is : hand t ≡ noted kinds.SeatLoad s.seen N
  t_is = ap first_hand t_hands

  t_seen : t.seen ≡ g
  t_seen = ap (λ (z : View). z.seen) first ∙ look.seen

  t_begins : IsPrefix p.seen t.seen
  t_begins = subst (IsPrefix p.seen) (sym t_seen) (begins_trans p.seen h g saw more)

  N_in : In N s.hands
  N_in = subst (In N) (sym all_looked) here

  t_steady : Steady l t
  t_steady = let k = t_is in steady_seen l p t sp (t_hands ∙ ap (λ (a : Hand). a ∷ []) (sym k)) (ap (λ (z : View). z.limits) first ∙ look.limits) (subst (IsLegal l) (sym t_seen) legal) t_begins
      (ap (λ (a : Hand). a.mine) k ∙ (look.mine N N_in ∙ (ap (events_by N.number) (sym t_seen) ∙ ap (λ (a : Hand). events_by a.number t.seen) (sym k))))
      (λ u is. subst (λ (a : Hand). IsOwnOpen t.seen a.number u) (sym k) (subst (λ z. IsOwnOpen z N.number u) (sym t_seen) (look.open_own N N_in u (sym (ap (λ (a : Hand). a.open_unit) k) ∙ is))))
      (subst (λ (a : Hand). AreEnded t.seen a.number a.open_unit) (sym k) (subst (λ z. AreEnded z N.number N.open_unit) (sym t_seen) (look.ended N N_in)))
      (ap (λ (a : Hand). a.number) k) (subst (λ (a : Hand). IsRun l t.seen a.number a.blocks a.next a.left) (sym k) (subst (λ z. IsRun l z N.number N.blocks N.next N.left) (sym t_seen) (look.run N N_in))) (λ z i. let e = first in subst (λ h. IsSo l h z) (look.seen ∙ sym t_seen) (look.known z (subst (λ (u : View). Knows u z) first i)))

  all_known : (z : Known) → In z (q.known ++ o.known) → Knows s z
  all_known z i = look.knows z (subst (λ (u : View). Knows u z) (sym join) i)

  t_trace : (hand t).trace ≡ (hand p).trace ++ load h ∷ seat_load q.seen ∷ load g ∷ seat_load s.seen ∷ []
  t_trace = let z = (hand p).trace in ap (λ (a : Hand). a.trace) t_is ∙ (append_assoc ((z ++ load h ∷ []) ++ seat_load q.seen ∷ []) (load g ∷ []) (seat_load s.seen ∷ [])
      ∙ (append_assoc (z ++ load h ∷ []) (seat_load q.seen ∷ []) (load g ∷ seat_load s.seen ∷ []) ∙ append_assoc z (load h ∷ []) (seat_load q.seen ∷ load g ∷ seat_load s.seen ∷ [])))

  pub joined_acted : Acted l led_steps p t
  joined_acted = let k = t_is in record {
    marks = load h ∷ seat_load q.seen ∷ load g ∷ seat_load s.seen ∷ [];
    walk = record { traced = t_trace; few = omega arith; opens = saw; closes = subst (IsPrefix h) (sym t_seen) more; number = ap (λ (a : Hand). a.number) k; limits = sp.pass.1; steady = t_steady; knows = λ z i. subst (λ (u : View). Knows u z) (sym first) (all_known z (in_left o.known (met.knows z i))) };
    kept = k ∙ ap (λ z. record (hand p) { trace = z }) (sym (ap (λ (a : Hand). a.trace) k));
    step = (load h, here, refl);
  }

  x_hands : x.hands ≡ map (noted kinds.Load g) o.hands
  x_hands = ap (λ (z : View). z.hands) second ∙ ap rest_of all_looked

  in_rest : (a : Hand) → In a x.hands → In a s.hands
  in_rest a i = subst (In a) (sym all_looked) (there (subst (In a) x_hands i))

  pub joined_others : LooksOn l g o x
  joined_others = record {
    seen = ap (λ (z : View). z.seen) second ∙ look.seen;
    limits = ap (λ (z : View). z.limits) second ∙ look.limits;
    hands = x_hands;
    mine = λ a i. look.mine a (in_rest a i);
    open_own = λ a i u is. look.open_own a (in_rest a i) u is;
    ended = λ a i. look.ended a (in_rest a i);
    run = λ a i. look.run a (in_rest a i);
    known = λ z i. subst (λ h. IsSo l h z) (sym (ap (λ (v : View). v.seen) second)) (look.known z (subst (λ (u : View). Knows u z) second i));
    knows = λ z i. subst (λ (u : View). Knows u z) (sym second) (all_known z (in_right q.known i));
  }

  -- what they have found, after the others of its seat had found it (r and s are that seat), and a first pass (v and w) with them
  pub joined_drawn : (n : ℕ) (v w : View) → FoundDrawn n v w r s → RemembersDrawn t n
  joined_drawn n v w found = subst (λ (z : View). RemembersDrawn z n) (sym first) found.others

  pub joined_risen : (n d : ℕ) (v w : View) → FoundDrawn n v w r s → RemembersDrawn p d → d ≤ n
  joined_risen n d v w found known = drawn_risen p d n known (λ k i. found.others_rise k (subst (λ (u : View). Knows u (BlocksDrawn k)) (sym join) (in_left o.known (met.knows (BlocksDrawn k) i))))

  pub joined_found : (n : ℕ) (u v w : View) → ((z : Known) → Knows u z → Knows v z) → FoundDrawn n v w r s → FoundDrawn n u w o x
  joined_found n u v w knows found = record {
    first = found.first;
    others = subst (λ (z : View). RemembersDrawn z n) (sym second) found.others;
    rises = λ k i. found.rises k (knows (BlocksDrawn k) i);
    others_rise = λ k i. found.others_rise k (subst (λ (u : View). Knows u (BlocksDrawn k)) (sym join) (in_right q.known i));
  }

  pub joined_lots : (n : ℕ) (w : View) (news : List PassShown) (at : Spot) → AreLots l n (lots w s news) → AreLots l n (lots w x (shown at t ∷ news))
  joined_lots n w news at shares =
      let whole : map lot_of s.hands ≡ lot_of (hand t) ∷ map lot_of x.hands = ap (map lot_of) all_looked ∙ (ap (λ zs. lot_of N ∷ map lot_of zs) (sym x_hands) ∙ ap (λ (a : Hand). lot_of a ∷ map lot_of x.hands) (sym t_is)) in
      lots_moved l n (lot_of (hand w)) (lot_of (hand t)) (map lot_of x.hands) (map lot_shown news)
      (subst (λ (zs : List Lot). AreLots l n (lot_of (hand w) ∷ (zs ++ map lot_shown news))) whole shares)

  -- what it shows
  pub joined_shown : (table : TableId) (at at' : Spot) (old : PassShown) → shown at p ≡ old → at'.table ≡ table → Climbs at at' → at'.from ≡ at.from → Joins table l led_steps g old (shown at' t)
  joined_shown table at at' old is there_at rises turn = record {
    attends = record {
      seen = t_seen;
      follows = follows at at' rises p t old is l led_steps joined_acted.marks joined_acted.walk led_steps (omega arith);
      looks = has_looked at at' p t old is l led_steps joined_acted.marks joined_acted.walk joined_acted.step;
      quiet = quiet_looked at at' p t old is l led_steps (walks.looked l led_steps p t joined_acted);
      turn = turn ∙ ap (λ (z : PassShown). z.from) is;
    };
    at = record { table_is = there_at; limits_are = t_steady.pass.1 };
  }

-- the first of these passes, and the others, are of the table
pub first_at : (table : TableId) (l : Limits) (ps : List PassShown) (p : PassShown) (rest : List PassShown) → ps ≡ p ∷ rest → All (IsAt table l) ps → IsAt table l p
first_at table l ps p rest e a = All-head (IsAt table l) p rest (subst (All (IsAt table l)) e a)

pub rest_at : (table : TableId) (l : Limits) (ps : List PassShown) (p : PassShown) (rest : List PassShown) → ps ≡ p ∷ rest → All (IsAt table l) ps → All (IsAt table l) rest
rest_at table l ps p rest e a = All-tail (IsAt table l) p rest (subst (All (IsAt table l)) e a)

-- the first pass looked with all of these: it met one, and looked with that and the others
pub looks_with : (table : TableId) (l : Limits) (k n : ℕ) (v v1 w o x : View) (ps olds news : List PassShown) (old new : PassShown) → ps ≡ old ∷ olds → k ≡ length olds + 1 → n ≡ length ps + 1 → Acted l meet_steps v v1 → Acted l (lead_steps k) v1 w → LooksOn l w.seen o x
    → Joins table l led_steps w.seen old new → AllZip (Joins table l led_steps w.seen) olds news → LooksWith table l n v w o x ps (new ∷ news)
looks_with table l k n v v1 w o x ps olds news old new is few all one more others joins rest = record {
  first = let long : length ps ≡ suc (length olds) = ap length is in acted_few l (meet_steps + lead_steps k) (lead_steps n) v w (omega arith) (acted_then l meet_steps (lead_steps k) v v1 w one (walks.looked l (lead_steps k) v1 w more));
  others = others;
  passes = subst (λ (qs : List PassShown). AllZip (Joins table l led_steps w.seen) qs (new ∷ news)) (sym is) (joins, rest);
}

-- passes of a manager are its passes after one of them made a call
pub one_set : (m : ManagerShown) (ps : List PassShown) (i : ℕ) (p : PassShown) → IsOf m p → All (IsOf m) ps → All (IsOf m) (slice_set ps i p)
one_set m ps i p own all = All-set (IsOf m) ps i p own all
