-- The seats after a step.
use Rattle.std.proofs.Common.{◌≡◌, ℕ, zero, suc, ◌<◌, ◌≢◌, List, [], ◌∷◌, map, length, set, get_or, sym, refl, ap, ◌∙◌, subst, ⊎_elim, arith, Option, Some}
use mathlib.Core.Option.{some, some-injective, some-ne-none}
use mathlib.Core.List.{IsPrefix}
use mathlib.Core.Logic.{dite}
use native.Mathlib.Decide.{ℕ_discrete}
use lib.ListN.{get_elem?}
use lib.Seq.{set-get_or}
use Rattle.atomic_table.proofs.Lists.{at_set, set_else, set_here}
use Rattle.tp_model.specs.declared.event.Event.{Event}
use Rattle.tp_model.specs.declared.trace.StepKind.{StepKind}
use Rattle.tp_model.specs.declared.trace.StepKind.TheVariants as kinds
use Rattle.tp_model.specs.declared.types.Limits.{Limits}
use Rattle.tp_model.specs.History.{In, here, there}
use Rattle.tp_model.specs.Passes.{IsRun}
use Rattle.tp_model.specs.Steps.{IsLegal, rows_of}
use Rattle.tp_model.proofs.Bridges.{append_nil, begins_refl, in_cons, in_none}
use Rattle.tp_rule.specs.Places.{HeadWord, head_place}
use Rattle.tp_rule.specs.declared.packing.Head.{Head}
use Rattle.tp_rule.specs.declared.packing.Head.TheVariants.{Empty, Void, Filled}
use Rattle.tp_rule.specs.Words.{IsFitHead, tail_bits}
use Rattle.tp_rule.specs.Doors.{Permits}
use Rattle.tp_rule.specs.Plays.{loads, loads_head}
use Rattle.tp_rule.specs.Rule.{AtSeat, HandHolds, HasHead, HasStage, HaveStage, IsApart, Owners, Rule, SeatHolds, StillSo}
use Rattle.tp_rule.specs.Steps.{Found, IsSo, Loads, MayBeBorn, noted, after, unchanged}
use Rattle.tp_rule.specs.Views.{HasPass, IsOnePass, hand}
use Rattle.tp_rule.specs.declared.view.Hand.{Hand}
use Rattle.tp_rule.specs.declared.view.Known.{Known}
use Rattle.tp_rule.specs.declared.view.Known.TheVariants.{RowHead, RowTail}
use Rattle.tp_rule.specs.declared.view.View.{View}
use Rattle.tp_rule.proofs.Owning.{IsDrawer, S, blocks_for, run_of}
use Rattle.tp_rule.proofs.Ahead.{ahead, ahead_empty, output}
use Rattle.tp_rule.proofs.Tellings.{found, head_told, so_now}

module _ {A B : Type 0} (f : A → B) where
  -- what stands in the map was made of what stood in the list
  pub in_map : (b : B) (xs : List A) → In b (map f xs) → (a : A) × In a xs × (b ≡ f a)
  in_map b [] p = absurd (in_none p)
  in_map b (x ∷ xs) p = ⊎_elim (λ e. (x, here, e)) (λ q. let t = in_map b xs q in (t.0, there t.1, t.2)) (in_cons p)

  pub in_map_to : {a : A} {xs : List A} → In a xs → In (f a) (map f xs)
  in_map_to here = here
  in_map_to (there p) = there (in_map_to p)

pub at_below : {A : Type 0} (l : List A) (a : A) (j : ℕ) → get_elem? l j ≡ some a → j < length l
at_below [] a j e = absurd (some-ne-none a (sym e))
at_below (x ∷ xs) a zero e = omega arith
at_below (x ∷ xs) a (suc j) e = let m = at_below xs a j e in omega arith

pub apart_map : (f : Hand → Hand) → ((a : Hand) → (f a).number ≡ a.number) → (hs : List Hand) → IsApart hs → IsApart (map f hs)
apart_map f stays [] t = tt
apart_map f stays (a ∷ hs) t = (λ b p e. let q = in_map f b hs p in t.0 q.0 q.1 (sym (stays q.0) ∙ (ap (λ (x : Hand). x.number) (sym q.2) ∙ (e ∙ stays a))), apart_map f stays hs t.1)

-- where a seat's view changes, what was so of some pass of its is so of one of them
pub seated_still : (P : Hand → Type 0) (views : List View) (id : ℕ) (v w : View) → get_elem? views id ≡ some v → ((a : Hand) → In a v.hands → P a → (b : Hand) × In b w.hands × P b) → AtSeat P views → AtSeat P (set views id w)
seated_still P views id v w at kept t = dite (ℕ_discrete t.0 id)
    (λ same. let is : t.1 ≡ v = some-injective t.1 v (sym t.3 ∙ (ap (get_elem? views) same ∙ at)) in let b = kept t.2 (subst (λ (z : View). In t.2 z.hands) is t.4) t.5 in
    (id, w, b.0, set_here views id w (at_below views v id at), b.1, b.2))
    (λ other. (t.0, t.1, t.2, set_else views id t.0 w other ∙ t.3, t.4, t.5))

-- and where each pass is noted, it is
pub seated_after : (P : Hand → Type 0) (views : List View) (id : ℕ) (v : View) (kind : StepKind) (f : Hand → Hand) (seen : List Event) (known : List Known) → get_elem? views id ≡ some v
    → ((a : Hand) → In a v.hands → P a → P (noted kind seen (f a))) → AtSeat P views → AtSeat P (set views id (after kind f seen known v))
seated_after P views id v kind f seen known at stays = let g : Hand → Hand = λ a. noted kind seen (f a) in seated_still P views id v (after kind f seen known v) at (λ a p so. (g a, in_map_to g p, stays a p so))

module _ (k : Limits) where
  pub seats_after : (h : List Event) (ws : List ℕ) (owner : Owners) (views : List View) (id : ℕ) (w : View) → SeatHolds k h ws owner id w
      → ((j : ℕ) (v : View) → j ≢ id → get_elem? views j ≡ some v → SeatHolds k h ws owner j v)
      → (j : ℕ) (v : View) → get_elem? (set views id w) j ≡ some v → SeatHolds k h ws owner j v
  seats_after h ws owner views id w mine others j v e = ⊎_elim (λ (t : (j ≡ id) × (w ≡ v)). subst (λ (x : ℕ × View). SeatHolds k h ws owner x.0 x.1) (λ i. (sym t.0 i, t.1 i)) mine)
      (λ (t : (j ≢ id) × (get_elem? views j ≡ some v)). others j v t.0 t.1) (at_set views id j w v e)

  pub hand_noted : (h : List Event) (ws : List ℕ) (kind : StepKind) (seen : List Event) (a : Hand) → HandHolds k h ws a → HandHolds k h ws (noted kind seen a)
  hand_noted h ws kind seen a r = record {
    given = r.given;
    mine = r.mine;
    blocks = r.blocks;
    spares = r.spares;
    first = r.first;
    end = r.end;
    area = r.area;
    rows = r.rows;
    tail = r.tail;
    units = r.units;
    areas = record { last = r.areas.last; decided = r.areas.decided; output = r.areas.output; cleared = r.areas.cleared; headed = r.areas.headed };
  }

  -- the seat that makes a step, where f leaves the number, and the seats go on to stand for the same passes
  pub seat_after : (h h' : List Event) (ws ws' : List ℕ) (owner owner' : Owners) (j : ℕ) (v : View) (kind : StepKind) (f : Hand → Hand) (seen : List Event) (known : List Known) → ((a : Hand) → (f a).number ≡ a.number)
      → ((c : ℕ) → owner'.seat c ≡ owner.seat c) → ((a : Hand) → In a v.hands → IsDrawer k owner a → IsDrawer k owner' (f a)) → IsPrefix seen h'
      → ((x : Known) → In x known → StillSo k ws' x)
      → ((a : Hand) → In a v.hands → HandHolds k h ws a → HandHolds k h' ws' (f a)) → SeatHolds k h ws owner j v → SeatHolds k h' ws' owner' j (after kind f seen known v)
  seat_after h h' ws ws' owner owner' j v kind f seen known stays same draws begins knows goes r = let g : Hand → Hand = λ a. noted kind seen (f a) in record {
    limits = λ b p. let q = in_map g b v.hands p in r.limits q.0 q.1;
    seen = begins;
    also_seen = (h', refl);
    known = knows;
    apart = apart_map g stays v.hands r.apart;
    owns = λ b p. let q = in_map g b v.hands p in ap (λ (x : Hand). owner'.seat x.number) q.2 ∙ (ap owner'.seat (stays q.0) ∙ (same q.0.number ∙ r.owns q.0 q.1));
    draws = λ b p. let q = in_map g b v.hands p in subst (λ (x : Hand). IsDrawer k owner' x) (sym q.2) (draws q.0 q.1 (r.draws q.0 q.1));
    hands = λ b p. let q = in_map g b v.hands p in subst (λ (x : Hand). HandHolds k h' ws' x) (sym q.2) (hand_noted h' ws' kind seen (f q.0) (goes q.0 q.1 (r.hands q.0 q.1)));
  }

  -- a load by a seat, which may stand for several passes, and may know more of words that stay afterwards
  pub looks_knowing : (v : View) (word : ℕ) → HasPass v → (s : S) (r : Rule k s) (id : ℕ) → get_elem? s.views id ≡ some v → (known : List Known) → ((x : Known) → In x known → StillSo k s.words x) → ((x : Known) → In x v.known → In x known)
      → Rule k record { words = set s.words word (get_or s.words word 0); homes = s.homes; views = set s.views id (after kinds.Load unchanged r.history known v) } × Loads v word (get_or s.words word 0) (after kinds.Load unchanged r.history known v)
  looks_knowing v word has s r id at known so more = let h = r.history in let w : View = after kinds.Load unchanged h known v in let mine = r.seats id v at in let seen = mine.seen in let lim = mine.limits has.0 has.1 in
      let there = seat_after h h s.words s.words r.owner r.owner id v kinds.Load unchanged h known (λ a. refl) (λ c. refl) (λ a _ d. d) (begins_refl h) so (λ a _ x. x) mine in
      let rule : Rule k record { words = s.words; homes = s.homes; views = set s.views id w } = record {
        history = h;
        owner = r.owner;
        world = r.world;
        seats = seats_after h s.words r.owner s.views id w there (λ j u _ e. r.seats j u e);
        complete = λ c below. seated_after (λ (a : Hand). a.number ≡ c) s.views id v kinds.Load unchanged h known at (λ a p so. so) (r.complete c below);
        drawers = λ b below. seated_after (λ (a : Hand). In b a.blocks) s.views id v kinds.Load unchanged h known at (λ a p so. so) (r.drawers b below);
      } in let now = set_here s.views id w (at_below s.views v id at) in (
        subst (λ (ws : List ℕ). Rule k record { words = ws; homes = s.homes; views = set s.views id w }) (sym (set-get_or s.words word 0)) rule,
        (
          record {
            between = seen.0;
            seen = sym (append_nil _ ∙ seen.1);
            also_seen = mine.also_seen;
            legal = subst (λ l. IsLegal l h) (sym lim) r.world.legal;
            view = refl;
            mine = λ a p. (there.hands a p).mine;
            open_own = λ a p. (there.hands a p).units.open_own;
            ended = λ a p. (there.hands a p).units.closed;
            run = λ a p. subst (λ l. IsRun l h a.number a.blocks a.next a.left) (sym lim) (run_of k h s.words a r.world.drawn (blocks_for k (record { words = s.words; homes = s.homes; views = set s.views id w }) rule id w a now p) (there.hands a p));
            knows = more;
            is_so = λ x p. subst (λ l. IsSo l h x) (sym lim) (so_now k h s.words r.world x (so x p));
            ahead = λ i stage root u p un. subst (λ l. MayBeBorn l h i) (sym lim) (ahead k s r i stage root u (so (RowHead i (Filled stage root (Some u))) p) un);
            output = λ i stage root u from count p is. output k s r i stage root u (so (RowHead i (Filled stage root (Some u))) p) from count is;
          },
          subst (λ l. Found l h word (get_or s.words word 0)) (sym lim) (found k h s.words r.world word),
        ),
      )

  pub looks : (v : View) (word : ℕ) → HasPass v → Permits k v word (λ n. n) (loads word 0 0 v)
  looks v word has s r id at = let t = looks_knowing v word has s r id at v.known (r.seats id v at).known (λ x p. p) in (after kinds.Load unchanged r.history v.known v, t.0, t.1)

  -- what is known of a row's run beside the rest
  abbrev with_tail : ℕ → Head → ℕ → List Known → List Known
  with_tail row Empty n ks = ks
  with_tail row Void n ks = ks
  with_tail row (Filled stage root by) n ks = RowTail row stage (tail_bits n) ∷ ks

  tail_so : (ws : List ℕ) (row : ℕ) (head : Head) (ks : List Known) → HasHead ws row head → IsFitHead head → row < rows_of k → ((stage : ℕ) → HasStage ws stage row → HaveStage ws stage row (tail_bits (get_or ws (head_place row) 0)))
      → ((x : Known) → In x ks → StillSo k ws x) → (x : Known) → In x (with_tail row head (get_or ws (head_place row) 0) ks) → StillSo k ws x
  tail_so ws row Empty ks is fit room runs so x p = so x p
  tail_so ws row Void ks is fit room runs so x p = so x p
  tail_so ws row (Filled stage root by) ks is fit room runs so x p = ⊎_elim (λ e. subst (StillSo k ws) (sym e) (room, runs stage (root, by, fit, is))) (λ q. so x q) (in_cons p)

  tail_there : (row : ℕ) (head : Head) (n : ℕ) (ks : List Known) (x : Known) → In x ks → In x (with_tail row head n ks)
  tail_there row Empty n ks x p = p
  tail_there row Void n ks x p = p
  tail_there row (Filled stage root by) n ks x p = there p

  tail_in : (row : ℕ) (head : Head) (n : ℕ) (ks : List Known) (stage root : ℕ) (by : Option ℕ) → head ≡ Filled stage root by → In (RowTail row stage (tail_bits n)) (with_tail row head n ks)
  tail_in row head n ks stage root by e = subst (λ z. In (RowTail row stage (tail_bits n)) (with_tail row z n ks)) (sym e) here

  -- the load of a head, which the seat remembers
  pub looks_head : (v : View) (row : ℕ) → HasPass v → row < rows_of k → Permits k v (head_place row) (λ n. n) (loads_head (head_place row) 0 0 v)
  looks_head v row has room s r id at = let told = r.world.tells (HeadWord row) room in let n : ℕ = get_or s.words (head_place row) 0 in let beside : List Known = RowHead row told.head ∷ v.known in let known : List Known = with_tail row told.head n beside in
      let so_beside : (x : Known) → In x beside → StillSo k s.words x = λ x p. ⊎_elim (λ e. subst (StillSo k s.words) (sym e) (room, told.fit, λ _. told.packed)) (λ q. (r.seats id v at).known x q) (in_cons p) in
      let so = tail_so s.words row told.head beside told.packed told.fit room (λ stage. r.world.tails row stage room) so_beside in
      let t = looks_knowing v (head_place row) has s r id at known so (λ x p. tail_there row told.head n beside x (there p)) in (
        after kinds.Load unchanged r.history known v,
        t.0,
        (
          t.1,
          λ i head is packed fit. let same : row ≡ i = omega arith in let is_head : head ≡ told.head = head_told head told.head fit told.fit (sym packed ∙ told.packed) in
              subst (λ (z : ℕ × Head). In (RowHead z.0 z.1) known) (λ j. (same j, sym is_head j)) (tail_there row told.head n beside (RowHead row told.head) here),
          λ i stage root by is packed fit. let same : row ≡ i = omega arith in let is_head : Filled stage root by ≡ told.head = head_told (Filled stage root by) told.head fit told.fit (sym packed ∙ told.packed) in
              subst (λ z. In (RowTail z stage (tail_bits n)) known) same (tail_in row told.head n beside stage root by (sym is_head)),
          λ i is empty. let same : row ≡ i = omega arith in
              subst (λ l. MayBeBorn l r.history i) (sym ((r.seats id v at).limits has.0 has.1)) (ahead_empty k s r i (ap (λ z. get_or s.words (head_place z) 0) (sym same) ∙ empty)),
        ),
      )

pub one_has : (v : View) → IsOnePass v → HasPass v
one_has v one = (hand v, subst (λ l. In (hand v) l) (sym one) here)
