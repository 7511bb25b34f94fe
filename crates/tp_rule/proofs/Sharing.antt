-- Cutting a seat in two and joining two seats keep the rule.
use Rattle.std.proofs.Common.{◌≡◌, ℕ, zero, suc, ◌<◌, ◌≢◌, eqb, Bool, true, false, cond, List, [], ◌∷◌, ◌++◌, map, length, set, sym, refl, ap, ◌∙◌, subst, ◌⊎◌, inl, inr, ⊎_elim, arith, eq-eqb, ne_eqb, length-set}
use mathlib.Core.Option.{some, some-injective, some-ne-none}
use mathlib.Core.Logic.{dite}
use native.Mathlib.Decide.{ℕ_discrete}
use lib.ListN.{get_elem?}
use Rattle.atomic_table.specs.Table.{Splits, Joins}
use Rattle.atomic_table.proofs.Lists.{at_last, at_longer, at_set, set_else, set_here}
use Rattle.tp_model.specs.declared.trace.StepKind.TheVariants as kinds
use Rattle.tp_rule.specs.Rule.{AtSeat, HandHolds, IsApart, Owners, Rule, SeatHolds}
use Rattle.tp_rule.specs.Views.{HasPass, spent}
use Rattle.tp_rule.specs.Steps.{noted, looked, with_hands, handed_on, handed_out, kept, parted, joined, rest_of, front_of}
use Rattle.tp_rule.proofs.Owning.{IsDrawer}
use Rattle.tp_rule.proofs.Seats.{at_below, in_map, in_map_to, apart_map, seats_after, hand_noted}
use Rattle.tp_model.proofs.Bridges.{in_cons, in_either, in_here, in_left, in_none, in_one, in_right}
use Rattle.tp_model.specs.History.{In, here, there}
use Rattle.tp_model.specs.declared.event.Event.{Event}
use Rattle.tp_model.specs.declared.types.Limits.{Limits}
use Rattle.tp_rule.specs.declared.view.Hand.{Hand}
use Rattle.tp_rule.specs.declared.view.View.{View}

at_end : {A : Type 0} (l : List A) (a b : A) (j : ℕ) → get_elem? (l ++ a ∷ []) j ≡ some b → ((get_elem? l j ≡ some b) × (j < length l)) ⊎ ((j ≡ length l) × (a ≡ b))
at_end [] a b zero e = inr (refl, some-injective a b e)
at_end [] a b (suc j) e = absurd (some-ne-none b (sym e))
at_end (x ∷ xs) a b zero e = inl (e, omega arith)
at_end (x ∷ xs) a b (suc j) e = ⊎_elim (λ t. let m = t.1 in inl (t.0, omega arith)) (λ t. let m = t.0 in inr (omega arith, t.1)) (at_end xs a b j e)

-- the number c is that of one of the hands
abbrev among : ℕ → List Hand → Bool
among c [] = false
among c (a ∷ hs) = cond (eqb a.number c) true (among c hs)

among_in : (c : ℕ) (hs : List Hand) (a : Hand) → In a hs → a.number ≡ c → among c hs ≡ true
among_in c [] a p e = absurd (in_none p)
among_in c (b ∷ hs) a p e = ⊎_elim (λ is. ap (λ t. cond t true (among c hs)) (eq-eqb b.number c (ap (λ (z : Hand). z.number) (sym is) ∙ e)))
    (λ q. dite (ℕ_discrete b.number c) (λ y. ap (λ t. cond t true (among c hs)) (eq-eqb b.number c y)) (λ n. ap (λ t. cond t true (among c hs)) (ne_eqb b.number c n) ∙ among_in c hs a q e)) (in_cons p)

not_among : (c : ℕ) (hs : List Hand) → ((a : Hand) → In a hs → a.number ≢ c) → among c hs ≡ false
not_among c [] n = refl
not_among c (b ∷ hs) n = ap (λ t. cond t true (among c hs)) (ne_eqb b.number c (n b here)) ∙ not_among c hs (λ a p. n a (there p))

apart_append : (xs ys : List Hand) → IsApart xs → IsApart ys → ((a b : Hand) → In a xs → In b ys → b.number ≢ a.number) → IsApart (xs ++ ys)
apart_append [] ys p q r = q
apart_append (x ∷ xs) ys p q r = (λ b i. ⊎_elim (λ t. p.0 b t) (λ t. r x b here t) (in_either xs ys i), apart_append xs ys p.1 q (λ a b i j. r a b (there i) j))

in_rest : (hs : List Hand) (a : Hand) → In a (rest_of hs) → In a hs
in_rest [] a p = p
in_rest (x ∷ hs) a p = there p

in_front : (hs : List Hand) (a : Hand) → In a (front_of hs) → In a hs
in_front [] a p = p
in_front (x ∷ hs) a p = in_left hs p

apart_rest : (hs : List Hand) → IsApart hs → IsApart (rest_of hs)
apart_rest [] t = tt
apart_rest (x ∷ hs) t = t.1

apart_front : (hs : List Hand) → IsApart hs → IsApart (front_of hs)
apart_front [] t = tt
apart_front (x ∷ hs) t = (λ b p. absurd (in_none p), tt)

in_cut : (hs : List Hand) (a : Hand) → In a hs → In a (front_of hs) ⊎ In a (rest_of hs)
in_cut [] a p = absurd (in_none p)
in_cut (x ∷ hs) a p = ⊎_elim (λ e. inl (in_here [] e)) (λ q. inr q) (in_cons p)

cross : (hs : List Hand) → IsApart hs → (a b : Hand) → In a (front_of hs) → In b (rest_of hs) → b.number ≢ a.number
cross [] t a b p q e = absurd (in_none p)
cross (x ∷ hs) t a b p q e = t.0 b q (e ∙ ap (λ (z : Hand). z.number) (in_one p))

module _ (k : Limits) where
  -- a seat with some of the hands
  seat_of : (h : List Event) (ws : List ℕ) (owner owner' : Owners) (j n : ℕ) (v : View) (hs : List Hand) (u : View) → u ≡ with_hands hs v → ((a : Hand) → In a hs → (b : Hand) × In b v.hands × (HandHolds k h ws b → HandHolds k h ws a)) → IsApart hs
      → ((a : Hand) → In a hs → owner'.seat a.number ≡ n) → ((a : Hand) → In a hs → IsDrawer k owner' a) → SeatHolds k h ws owner j v → SeatHolds k h ws owner' n u
  seat_of h ws owner owner' j n v hs u is from apart owns draws r = subst (SeatHolds k h ws owner' n) (sym is) record {
    limits = λ a p. let t = from a p in r.limits t.0 t.1;
    seen = r.seen;
    also_seen = r.also_seen;
    known = r.known;
    apart = apart;
    owns = owns;
    draws = draws;
    hands = λ a p. let t = from a p in t.2 (r.hands t.0 t.1);
  }

  owned_anew : (h : List Event) (ws : List ℕ) (owner owner' : Owners) (j : ℕ) (v : View) → ((a : Hand) → In a v.hands → owner'.seat a.number ≡ owner.seat a.number) → ((b : ℕ) → owner'.drawer b ≡ owner.drawer b) → SeatHolds k h ws owner j v → SeatHolds k h ws owner' j v
  owned_anew h ws owner owner' j v same drew r = record {
    limits = r.limits;
    seen = r.seen;
    also_seen = r.also_seen;
    known = r.known;
    apart = r.apart;
    owns = λ a p. same a p ∙ r.owns a p;
    draws = λ a p b q. drew b ∙ r.draws a p b q;
    hands = r.hands;
  }

  -- a seat, and what it knows, by other names
  seat_at : (h : List Event) (ws : List ℕ) (owner : Owners) (j n : ℕ) (u w : View) → j ≡ n → w ≡ u → SeatHolds k h ws owner n w → SeatHolds k h ws owner j u
  seat_at h ws owner j n u w same is holds = subst (λ (z : ℕ × View). SeatHolds k h ws owner z.0 z.1) (λ i. (sym same i, is i)) holds

  -- these hands are of the seat's passes, perhaps with more in their traces
  abbrev From : List Hand → View → Type 0
  From hs v = (a : Hand) → In a hs → (b : Hand) × In b v.hands × (a.number ≡ b.number) × (a.blocks ≡ b.blocks) × ((h : List Event) (ws : List ℕ) → HandHolds k h ws b → HandHolds k h ws a)

  -- one of these hands is that pass, with the blocks that it has drawn
  abbrev HasHand : List Hand → Hand → Type 0
  HasHand hs a = (b : Hand) × In b hs × (b.number ≡ a.number) × (b.blocks ≡ a.blocks)

  -- what is so of such a pass
  abbrev Lasts : (Hand → Type 0) → Type 0
  Lasts P = (a b : Hand) → b.number ≡ a.number → b.blocks ≡ a.blocks → P a → P b

  number_lasts : (c : ℕ) → Lasts (λ (a : Hand). a.number ≡ c)
  number_lasts c a b same _ so = same ∙ so

  blocks_last : (c : ℕ) → Lasts (λ (a : Hand). In c a.blocks)
  blocks_last c a b _ same so = subst (In c) (sym same) so

  -- each pass of a seat that is cut in two is of one of the two
  split_complete : (P : Hand → Type 0) → Lasts P → (views : List View) (id : ℕ) (v : View) (L R : List Hand) → get_elem? views id ≡ some v → ((a : Hand) → In a v.hands → HasHand L a ⊎ HasHand R a) → AtSeat P views → AtSeat P (set views id (with_hands L v) ++ with_hands R v ∷ [])
  split_complete P lasts views id v L R at cover t = let first : List View = set views id (with_hands L v) in dite (ℕ_discrete t.0 id)
      (λ same. let is : t.1 ≡ v = some-injective t.1 v (sym t.3 ∙ (ap (get_elem? views) same ∙ at)) in ⊎_elim
      (λ b. (id, with_hands L v, b.0, at_longer first (with_hands R v ∷ []) id (with_hands L v) (set_here views id (with_hands L v) (at_below views v id at)), b.1, lasts t.2 b.0 b.2 b.3 t.5))
      (λ b. (length views, with_hands R v, b.0, at_last first (with_hands R v) (length views) (length-set views id (with_hands L v)), b.1, lasts t.2 b.0 b.2 b.3 t.5)) (cover t.2 (subst (λ (z : View). In t.2 z.hands) is t.4)))
      (λ other. (t.0, t.1, t.2, at_longer first (with_hands R v ∷ []) t.0 t.1 (set_else views id t.0 (with_hands L v) other ∙ t.3), t.4, t.5))

  pub splits : (id : ℕ) (v : View) (L R : List Hand) → From L v → From R v → ((a : Hand) → In a v.hands → HasHand L a ⊎ HasHand R a) → (IsApart v.hands → IsApart L) → (IsApart v.hands → IsApart R)
      → (IsApart v.hands → (a b : Hand) → In a R → In b L → a.number ≢ b.number) → Splits (Rule k) id v (with_hands L v) (with_hands R v)
  splits id v L R left right cover apart_l apart_r cross s r at = let n : ℕ = length s.views in let h = r.history in let mine = r.seats id v at in let room = at_below s.views v id at in
      let owner : Owners = record { seat = λ c. cond (among c R) n (r.owner.seat c); drawer = r.owner.drawer } in
      let in_r : (a : Hand) → In a R → owner.seat a.number ≡ n = λ a p. ap (λ t. cond t n (r.owner.seat a.number)) (among_in a.number R a p refl) in
      let not_r : (c : ℕ) → ((a : Hand) → In a R → a.number ≢ c) → owner.seat c ≡ r.owner.seat c = λ c f. ap (λ t. cond t n (r.owner.seat c)) (not_among c R f) in
      let drawn : (hs : List Hand) → From hs v → (a : Hand) → In a hs → IsDrawer k owner a = λ hs from a p b q. (let t = from a p in mine.draws t.0 t.1 b (subst (In b) t.3 q) ∙ sym t.2) in
      let all : SeatHolds k h s.words owner id (with_hands L v) = seat_of h s.words r.owner owner id id v L (with_hands L v) refl (λ a p. let t = left a p in (t.0, t.1, t.4 h s.words)) (apart_l mine.apart)
      (λ b q. let t = left b q in not_r b.number (λ a p. cross mine.apart a b p q) ∙ (ap r.owner.seat t.2 ∙ mine.owns t.0 t.1)) (drawn L left) mine in
      let new : SeatHolds k h s.words owner n (with_hands R v) = seat_of h s.words r.owner owner id n v R (with_hands R v) refl (λ a p. let t = right a p in (t.0, t.1, t.4 h s.words)) (apart_r mine.apart) in_r (drawn R right) mine in
      let old = seats_after k h s.words owner s.views id (with_hands L v) all (λ j u apart e. owned_anew h s.words r.owner owner j u
      (λ b q. not_r b.number (λ a p same. let t = right a p in apart (sym ((r.seats j u e).owns b q) ∙ (ap r.owner.seat (sym same) ∙ (ap r.owner.seat t.2 ∙ mine.owns t.0 t.1))))) (λ b. refl) (r.seats j u e)) in record {
        history = h;
        owner = owner;
        world = r.world;
        seats = λ j u e. ⊎_elim (λ t. old j u t.0) (λ t. seat_at h s.words owner j n u (with_hands R v) (t.0 ∙ length-set s.views id (with_hands L v)) t.1 new)
            (at_end (set s.views id (with_hands L v)) (with_hands R v) u j e);
        complete = λ c below. split_complete (λ (a : Hand). a.number ≡ c) (number_lasts c) s.views id v L R at cover (r.complete c below);
        drawers = λ b below. split_complete (λ (a : Hand). In b a.blocks) (blocks_last b) s.views id v L R at cover (r.drawers b below);
      }

  -- each pass of two seats that are joined is of the one that remains
  join_complete : (P : Hand → Type 0) → Lasts P → (views : List View) (id : ℕ) (v : View) (other : ℕ) (w : View) → get_elem? views id ≡ some v → other ≢ id → get_elem? views other ≡ some w → AtSeat P views → AtSeat P (set (set views id (joined v w)) other spent)
  join_complete P lasts views id v other w at ne their_at t = let f : Hand → Hand = noted kinds.SeatLoad v.seen in
      let here : get_elem? (set (set views id (joined v w)) other spent) id ≡ some (joined v w) = set_else (set views id (joined v w)) other id spent (λ e. ne (sym e)) ∙ set_here views id (joined v w) (at_below views v id at) in dite (ℕ_discrete t.0 id)
      (λ same. let is : t.1 ≡ v = some-injective t.1 v (sym t.3 ∙ (ap (get_elem? views) same ∙ at)) in (id, joined v w, f t.2, here, in_left w.hands (in_map_to f (subst (λ (z : View). In t.2 z.hands) is t.4)), lasts t.2 (f t.2) refl refl t.5))
      (λ not_id. dite (ℕ_discrete t.0 other)
      (λ same. let is : t.1 ≡ w = some-injective t.1 w (sym t.3 ∙ (ap (get_elem? views) same ∙ their_at)) in (id, joined v w, t.2, here, in_right (looked v v.hands) (subst (λ (z : View). In t.2 z.hands) is t.4), t.5))
      (λ not_other. (t.0, t.1, t.2, set_else (set views id (joined v w)) other t.0 spent not_other ∙ (set_else views id t.0 (joined v w) not_id ∙ t.3), t.4, t.5)))

  pub joins : (id : ℕ) (v : View) (other : ℕ) (w : View) → HasPass v → Joins (Rule k) id v other w (joined v w) spent
  joins id v other w has s r at ne their_at = let h = r.history in let mine = r.seats id v at in
      let found : get_elem? s.views other ≡ some w = ⊎_elim (λ (t : (other ≡ id) × (joined v w ≡ w)). absurd (ne t.0)) (λ (t : (other ≢ id) × (get_elem? s.views other ≡ some w)). t.1) (at_set s.views id other (joined v w) w their_at) in
      let theirs = r.seats other w found in let owner : Owners = record { seat = λ c. cond (eqb (r.owner.seat c) other) id (r.owner.seat c); drawer = r.owner.drawer } in let f : Hand → Hand = noted kinds.SeatLoad v.seen in
      let moved : (c : ℕ) → r.owner.seat c ≡ other → owner.seat c ≡ id = λ c e. ap (λ b. cond b id (r.owner.seat c)) (eq-eqb (r.owner.seat c) other e) in
      let stays : (c : ℕ) → r.owner.seat c ≢ other → owner.seat c ≡ r.owner.seat c = λ c e. ap (λ b. cond b id (r.owner.seat c)) (ne_eqb (r.owner.seat c) other e) in
      let apart : (a b : Hand) → In a (map f v.hands) → In b w.hands → b.number ≢ a.number = λ a b p q same. let t = in_map f a v.hands p in
      ne (sym (theirs.owns b q) ∙ (ap r.owner.seat (same ∙ ap (λ (z : Hand). z.number) t.2) ∙ mine.owns t.0 t.1)) in
      let whole : SeatHolds k h s.words owner id (joined v w) = record {
        limits = λ a p. mine.limits has.0 has.1;
        seen = mine.seen;
        also_seen = theirs.seen;
        known = λ x p. ⊎_elim (λ q. mine.known x q) (λ q. theirs.known x q) (in_either v.known w.known p);
        apart = apart_append (map f v.hands) w.hands (apart_map f (λ a. refl) v.hands mine.apart) theirs.apart apart;
        owns = λ a p. ⊎_elim (λ q. let t = in_map f a v.hands q in let own : r.owner.seat a.number ≡ id = ap (λ (z : Hand). r.owner.seat z.number) t.2 ∙ mine.owns t.0 t.1 in stays a.number (λ e. ne (sym e ∙ own)) ∙ own)
            (λ q. moved a.number (theirs.owns a q)) (in_either (map f v.hands) w.hands p);
        draws = λ a p. ⊎_elim (λ q. let t = in_map f a v.hands q in subst (λ (z : Hand). IsDrawer k r.owner z) (sym t.2) (mine.draws t.0 t.1)) (theirs.draws a) (in_either (map f v.hands) w.hands p);
        hands = λ a p. ⊎_elim (λ q. let t = in_map f a v.hands q in subst (HandHolds k h s.words) (sym t.2) (hand_noted k h s.words kinds.SeatLoad v.seen t.0 (mine.hands t.0 t.1))) (λ q. theirs.hands a q) (in_either (map f v.hands) w.hands p);
      } in
      let none_left : SeatHolds k h s.words owner other spent = record {
        limits = λ a p. absurd (in_none p);
        seen = (h, refl);
        also_seen = (h, refl);
        known = λ x p. absurd (in_none p);
        apart = tt;
        owns = λ a p. absurd (in_none p);
        draws = λ a p. absurd (in_none p);
        hands = λ a p. absurd (in_none p);
      } in record {
        history = h;
        owner = owner;
        world = r.world;
        seats = seats_after k h s.words owner (set s.views id (joined v w)) other spent none_left (λ j u far e. ⊎_elim
            (λ (t : (j ≡ id) × (joined v w ≡ u)). subst (λ (z : ℕ × View). SeatHolds k h s.words owner z.0 z.1) (λ i. (sym t.0 i, t.1 i)) whole)
            (λ (t : (j ≢ id) × (get_elem? s.views j ≡ some u)). let old = r.seats j u t.1 in owned_anew h s.words r.owner owner j u (λ a p. stays a.number (λ e. far (sym (old.owns a p) ∙ e))) (λ b. refl) old)
            (at_set s.views id j (joined v w) u e));
        complete = λ c below. join_complete (λ (a : Hand). a.number ≡ c) (number_lasts c) s.views id v other w at ne found (r.complete c below);
        drawers = λ b below. join_complete (λ (a : Hand). In b a.blocks) (blocks_last b) s.views id v other w at ne found (r.drawers b below);
      }

  from_rest : (v : View) → From (rest_of v.hands) v
  from_rest v a p = (a, in_rest v.hands a p, refl, refl, λ h ws holds. holds)

  from_front : (v : View) → From (looked v (front_of v.hands)) v
  from_front v a p = let f : Hand → Hand = noted kinds.SeatLoad v.seen in let t = in_map f a (front_of v.hands) p in
      (t.0, in_front v.hands t.0 t.1, ap (λ (z : Hand). z.number) t.2, ap (λ (z : Hand). z.blocks) t.2, λ h ws holds. subst (HandHolds k h ws) (sym t.2) (hand_noted k h ws kinds.SeatLoad v.seen t.0 holds))

  apart_looked : (v : View) → IsApart v.hands → IsApart (looked v (front_of v.hands))
  apart_looked v t = apart_map (noted kinds.SeatLoad v.seen) (λ a. refl) (front_of v.hands) (apart_front v.hands t)

  cross_looked : (v : View) → IsApart v.hands → (a b : Hand) → In a (looked v (front_of v.hands)) → In b (rest_of v.hands) → b.number ≢ a.number
  cross_looked v apart a b p q e = let t = in_map (noted kinds.SeatLoad v.seen) a (front_of v.hands) p in cross v.hands apart t.0 b t.1 q (e ∙ ap (λ (z : Hand). z.number) t.2)

  front_has : (v : View) (a : Hand) → In a (front_of v.hands) → HasHand (looked v (front_of v.hands)) a
  front_has v a p = (noted kinds.SeatLoad v.seen a, in_map_to (noted kinds.SeatLoad v.seen) p, refl, refl)

  -- the first hand goes to a new seat
  pub gives_first : (id : ℕ) (v : View) → Splits (Rule k) id v (handed_on v) (handed_out v)
  gives_first id v = splits id v (rest_of v.hands) (looked v (front_of v.hands)) (from_rest v) (from_front v) (λ a p. ⊎_elim (λ q. inr (front_has v a q)) (λ q. inl (a, q, refl, refl)) (in_cut v.hands a p)) (apart_rest v.hands) (apart_looked v) (λ t a b p q e. cross_looked v t a b p q (sym e))

  -- the first hand stays, and the others go to a new seat
  pub keeps_first : (id : ℕ) (v : View) → Splits (Rule k) id v (kept v) (parted v)
  keeps_first id v = splits id v (looked v (front_of v.hands)) (rest_of v.hands) (from_front v) (from_rest v) (λ a p. ⊎_elim (λ q. inl (front_has v a q)) (λ q. inr (a, q, refl, refl)) (in_cut v.hands a p)) (apart_looked v) (apart_rest v.hands) (λ t a b p q. cross_looked v t b a q p)

pub joined_has : (v w : View) → HasPass v → HasPass (joined v w)
joined_has v w t = (noted kinds.SeatLoad v.seen t.0, in_left w.hands (in_map_to (noted kinds.SeatLoad v.seen) t.1))
