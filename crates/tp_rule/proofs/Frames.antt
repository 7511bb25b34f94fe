-- What a step of one pass leaves to the others.
use Rattle.std.proofs.Common.{◌≡◌, ◌⊎◌, ℕ, ◌<◌, ◌≤◌, ◌≢◌, List, [], ◌∷◌, ◌++◌, set, sym, ap, ◌∙◌, subst, refl, inl, inr, ⊎_elim, arith, Option, Some, None}
use mathlib.Core.Logic.{dite}
use native.Mathlib.Decide.{ℕ_discrete}
use mathlib.Core.Option.{some}
use lib.ListN.{get_elem?}
use Rattle.atomic_table.proofs.Lists.{set_here}
use Rattle.tp_rule.specs.Rule.{HandHolds, Owners, RowsHold, Rule, SeatHolds, StillSo, UnitsHold, World, drawn_in}
use Rattle.tp_rule.specs.Views.{IsOnePass, hand}
use Rattle.tp_rule.specs.Steps.{after, noted}
use Rattle.tp_rule.proofs.Owning.{AreBlocksFor, IsDrawer, S, blocks_for, own_apart, own_inside, own_may, own_spares}
use Rattle.tp_rule.proofs.Seats.{at_below, in_map_to, seated_after, seats_after, seat_after}
use Rattle.tp_model.proofs.Areas.{ascend_wider}
use Rattle.tp_model.proofs.Bridges.{begins_trans, by_other, claim_either, claim_kept, in_either, in_one, unborn_still, unused_still}
use Rattle.tp_model.proofs.WordProofs.{end_of-snoc}
use Rattle.tp_model.specs.History.{Aborted, Committed, UnitEnd, In, IsClaim, IsUnborn, births, end_by, end_of, here, pass_of}
use Rattle.tp_model.specs.Steps.{IsRowOfBlock, MayUse, Step, rows_of}
use Rattle.tp_model.specs.declared.event.Event.{Event}
use Rattle.tp_model.specs.declared.event.Event.TheVariants.{Abort, Claim, Commit, Enqueue, Kill, Requeue}
use Rattle.tp_model.specs.declared.types.Element.{Element}
use Rattle.tp_model.specs.declared.types.Limits.{Limits}
use Rattle.tp_model.specs.Passes.{IsOwnArea}
use Rattle.tp_rule.proofs.OwnAreas.{AreSame, areas_kept}
use Rattle.tp_rule.proofs.Parts.{in_run, one_part}
use Rattle.tp_rule.proofs.Storing.{SameRow, holds_same, tail_same}
use Rattle.tp_rule.proofs.Units.{decide}
use Rattle.tp_rule.specs.declared.view.Hand.{Hand}
use Rattle.tp_rule.specs.declared.view.Known.{Known}
use Rattle.tp_model.specs.declared.trace.StepKind.{StepKind}
use Rattle.tp_rule.specs.declared.view.View.{View}
use mathlib.Core.List.{IsPrefix}
use Rattle.tp_model.proofs.Lists.{option_or-none, if_other, some_if}

-- the unit is not committed
abbrev pub NotCommitted : Option UnitEnd → Type 0
NotCommitted w = (f m : ℕ) → ¬ (w ≡ Some (Committed f m))

-- a unit that has ended stays ended
pub decide_undecided : (u : ℕ) (w : Option UnitEnd) (e : Event) → decide u w e ≡ None → w ≡ None
decide_undecided u w e p = (option_or-none w (end_by u e) p).0

pub still_undecided : (h : List Event) (e : Event) (u : ℕ) → end_of (h ++ e ∷ []) u ≡ None → end_of h u ≡ None
still_undecided h e u un = decide_undecided u (end_of h u) e (sym (end_of-snoc h e u) ∙ un)

-- what is committed after an event was committed before, or the event is its Commit, and it was undecided
pub committed_before : {P : Type 0} (h : List Event) (e : Event) (u from count : ℕ) → end_of (h ++ e ∷ []) u ≡ Some (Committed from count) → ((c : ℕ) (outs : List Element) → e ≡ Commit c u outs → P)
    → (end_of h u ≡ Some (Committed from count)) ⊎ (P × (end_of h u ≡ None))
committed_before h e u from count is by = go e (end_of h u) (sym (end_of-snoc h e u) ∙ is) by
  where
    go : {P : Type 0} (e : Event) (w : Option UnitEnd) → decide u w e ≡ Some (Committed from count) → ((c : ℕ) (outs : List Element) → e ≡ Commit c u outs → P) → (w ≡ Some (Committed from count)) ⊎ (P × (w ≡ None))
    go e (Some x) p by = inl p
    go (Enqueue c y) None p by = absurd cc
    go (Claim c v i n) None p by = absurd cc
    go (Commit c v outs) None p by = dite (ℕ_discrete v u) (λ same. inr (by c outs (ap (λ z. Commit c z outs) same), refl)) (λ other. let q : None ≡ Some (Committed from count) = sym (if_other v u _ None other) ∙ p in absurd cc)
    go (Abort c v) None p by = let q = some_if v u Aborted (Committed from count) p in let r = q.1 in absurd cc
    go (Kill c i) None p by = absurd cc
    go (Requeue c i k) None p by = absurd cc

-- an event that isn't its Commit doesn't commit a unit
decide_not : (u : ℕ) (w : Option UnitEnd) (e : Event) → ((c : ℕ) (outs : List Element) → ¬ (e ≡ Commit c u outs)) → NotCommitted w → NotCommitted (decide u w e)
decide_not u (Some x) e other not f m p = not f m p
decide_not u None (Enqueue c y) other not f m p = absurd cc
decide_not u None (Claim c v i n) other not f m p = absurd cc
decide_not u None (Commit c v outs) other not f m p =
    let q : None ≡ Some (Committed f m) = sym (if_other v u _ None (λ is. other c outs (ap (λ z. Commit c z outs) is))) ∙ p in absurd cc
decide_not u None (Abort c v) other not f m p = let q = some_if v u Aborted (Committed f m) p in let r = q.1 in absurd cc
decide_not u None (Kill c i) other not f m p = absurd cc
decide_not u None (Requeue c i k) other not f m p = absurd cc

module _ (k : Limits) where
  -- a unit is committed by the pass that claimed it
  not_by_other : (h : List Event) (e : Event) (c u i n : ℕ) → Step k h e → pass_of e ≢ c → IsClaim h c u i n → (d : ℕ) (outs : List Element) → ¬ (e ≡ Commit d u outs)
  not_by_other h e c u i n st ne p d outs is = let t : Step k h (Commit d u outs) = subst (Step k h) is st in
      let q : Some t.taking ≡ Some (record { pass = c; item = i; attempt = n }) = sym t.open_unit.claimed ∙ p in let same : t.taking.pass ≡ c = cc in ne (ap pass_of is ∙ (sym t.own ∙ same))

  pub units_frame : (h : List Event) (e : Event) (c used : ℕ) (spare held : Option ℕ) → c < k.parts → pass_of e ≢ c → Step k h e → UnitsHold k h c used spare held → UnitsHold k (h ++ e ∷ []) c used spare held
  units_frame h e c used spare held below ne st r = record {
    used_below = r.used_below;
    unused = λ u l m. unused_still h e u (r.unused u l m) (λ d i n is. let t : Step k h (Claim d u i n) = subst (Step k h) (sym is) st in
        one_part k.parts k.units d c u t.unit (below, omega arith, m) (λ same. ne (sym (ap pass_of is) ∙ same)));
    spare_next = r.spare_next;
    open_own = λ u is. let o = r.open_own u is in record {
      item = o.item;
      attempt = o.attempt;
      claimed = claim_kept h (e ∷ []) c u o.item o.attempt o.claimed;
      uncommitted = λ f m p. decide_not u (end_of h u) e (not_by_other h e c u o.item o.attempt st ne o.claimed) o.uncommitted f m (sym (end_of-snoc h e u) ∙ p);
      kept = λ p. ⊎_elim o.kept (λ q. ne (sym (ap pass_of (in_one q)))) (in_either h (e ∷ []) p);
    };
    closed = λ u i n p not z. ⊎_elim (λ q. r.closed u i n q not (decide_undecided u (end_of h u) e (sym (end_of-snoc h e u) ∙ z))) (λ q. ne (sym (ap pass_of q))) (claim_either h e c u i n p);
    in_order = λ u low high un. r.in_order u low high (still_undecided h e u un);
  }

  -- the rows from `first` up to `end` have the heads and bodies that they had
  abbrev pub Agree : ℕ → ℕ → List ℕ → List ℕ → Type 0
  Agree first end ws ws' = (i : ℕ) → first ≤ i → i < end → SameRow ws ws' i

  pub rows_frame : (h h' : List Event) (ws ws' : List ℕ) (first end first_draft next left : ℕ) (body : List ℕ) (drafts : List Element) → Agree first end ws ws'
      → ((i : ℕ) → first ≤ i → i < end → IsUnborn h i → IsUnborn h' i) → RowsHold h ws first end first_draft next left body drafts → RowsHold h' ws' first end first_draft next left body drafts
  rows_frame h h' ws ws' first end first_draft next left body drafts agree still r = let count = r.counted in let bottom = r.begins in let top = r.ends in record {
    counted = count;
    begins = bottom;
    ends = top;
    unborn = λ i l m. still i (omega arith) (omega arith) (r.unborn i l m);
    full = λ i l m z. r.full i l m (sym (agree i l (omega arith)).0 ∙ z);
    empty = λ i l m. (agree i (omega arith) (omega arith)).0 ∙ r.empty i l m;
    unwritten = λ i l m j few. (agree i (omega arith) (omega arith)).1 j few ∙ r.unwritten i l m j few;
    body_whole = r.body_whole;
    body_there = λ room j less. let whole = r.body_whole in (agree next (omega arith) (omega arith)).1 j (omega arith) ∙ r.body_there room j less;
    run = r.run;
    written = λ x p. let t = in_run first_draft drafts x r.run p in let a = t.0 in let b = t.1 in holds_same ws ws' x (agree x.id (omega arith) (omega arith)) (r.written x p);
  }

  -- a pass other than the one that made the event e
  pub hand_frame : (h : List Event) (e : Event) (ws ws' : List ℕ) (a : Hand) → Step k h e → pass_of e ≢ a.number → drawn_in k ws ≤ drawn_in k ws' → (r : HandHolds k h ws a) → AreSame k a ws ws'
      → ((x : Element) → In x (births e) → r.first ≤ x.id → x.id < r.end → ⊥) → HandHolds k (h ++ e ∷ []) ws' a
  hand_frame h e ws ws' a st ne rises r agree apart = record {
    given = r.given;
    mine = r.mine ∙ sym (by_other a.number h e ne);
    blocks = ascend_wider 0 (drawn_in k ws) (drawn_in k ws') a.blocks rises r.blocks;
    spares = r.spares;
    first = r.first;
    end = r.end;
    area = r.area;
    rows = rows_frame h (h ++ e ∷ []) ws ws' r.first r.end a.first_draft a.next a.left a.next_body a.drafts (λ i low high. agree r.first r.end i r.area low high)
        (λ i low high un. unborn_still h e i un (λ x q is. apart x q (subst (λ z. r.first ≤ z) (sym is) low) (subst (λ z. z < r.end) (sym is) high))) r.rows;
    tail = tail_same ws ws' r.first r.end a.next a.left a.tail a.tail_stage r.rows.ends (λ i low high. (agree r.first r.end i r.area low high).0) r.tail;
    units = units_frame h e a.number a.claimed a.spare_unit a.open_unit r.given ne st r.units;
    areas = areas_kept k h (h ++ e ∷ []) ws ws' a (still_undecided h e) (λ i u from count is. committed_before h e u from count is (λ d outs same low high held. let o = r.units.open_own u held in absurd (not_by_other h e a.number u o.item o.attempt st ne o.claimed d outs same))) agree r.areas;
  }

  -- a pass other than the one that stored
  pub hand_quiet : (h : List Event) (ws ws' : List ℕ) (a : Hand) → drawn_in k ws ≤ drawn_in k ws' → (r : HandHolds k h ws a) → AreSame k a ws ws' → HandHolds k h ws' a
  hand_quiet h ws ws' a rises r agree = record {
    given = r.given;
    mine = r.mine;
    blocks = ascend_wider 0 (drawn_in k ws) (drawn_in k ws') a.blocks rises r.blocks;
    spares = r.spares;
    first = r.first;
    end = r.end;
    area = r.area;
    rows = rows_frame h h ws ws' r.first r.end a.first_draft a.next a.left a.next_body a.drafts (λ i low high. agree r.first r.end i r.area low high) (λ i low high u. u) r.rows;
    tail = tail_same ws ws' r.first r.end a.next a.left a.tail a.tail_stage r.rows.ends (λ i low high. (agree r.first r.end i r.area low high).0) r.tail;
    units = r.units;
    areas = areas_kept k h h ws ws' a (λ u un. un) (λ i u from count is. inl is) agree r.areas;
  }

  seat_frame : (h h' : List Event) (ws ws' : List ℕ) (owner owner' : Owners) (j : ℕ) (v : View) → IsPrefix h h' → ((x : Known) → StillSo k ws x → StillSo k ws' x) → ((c : ℕ) → owner'.seat c ≡ owner.seat c)
      → ((a : Hand) → In a v.hands → IsDrawer k owner' a) → ((a : Hand) → In a v.hands → HandHolds k h ws a → HandHolds k h' ws' a) → SeatHolds k h ws owner j v → SeatHolds k h' ws' owner' j v
  seat_frame h h' ws ws' owner owner' j v more so same draws still r = record {
    limits = r.limits;
    seen = begins_trans v.seen h h' r.seen more;
    also_seen = begins_trans v.also_seen h h' r.also_seen more;
    known = λ x p. so x (r.known x p);
    apart = r.apart;
    owns = λ a p. same a.number ∙ r.owns a p;
    draws = draws;
    hands = λ a p. still a p (r.hands a p);
  }

pub only_hand : (v : View) → IsOnePass v → (a : Hand) → In a v.hands → a ≡ hand v
only_hand v one a p = in_one (subst (λ l. In a l) one p)

pub one_in : (v : View) → IsOnePass v → In (hand v) v.hands
one_in v one = subst (λ l. In (hand v) l) (sym one) here

-- the turn of a seat that stands for one pass, in a state of the table that meets the rule
pub record Turn (k : Limits) : Type 0 where
  pub state : S
  pub rule : Rule k state
  pub id : ℕ
  pub view : View
  pub at : get_elem? state.views id ≡ some view
  pub one : IsOnePass view

module _ (k : Limits) (t : Turn k) where
  abbrev pub me : Hand
  me = hand t.view

  pub seat_holds : SeatHolds k t.rule.history t.state.words t.rule.owner t.id t.view
  seat_holds = t.rule.seats t.id t.view t.at

  pub hand_holds : HandHolds k t.rule.history t.state.words me
  hand_holds = seat_holds.hands me (one_in t.view t.one)

  pub limits_are : t.view.limits ≡ k
  limits_are = seat_holds.limits me (one_in t.view t.one)

  -- row i is in the area of the pass's run
  abbrev pub IsMine : ℕ → Type 0
  IsMine i = (hand_holds.first ≤ i) × (i < hand_holds.end)

  -- what is born in the pass's blocks is its own
  pub mine_for : AreBlocksFor k t.rule.history me
  mine_for = blocks_for k t.state t.rule t.id t.view me t.at (one_in t.view t.one)

  pub mine_drawn : IsDrawer k t.rule.owner me
  mine_drawn = seat_holds.draws me (one_in t.view t.one)

  pub mine_inside : (i : ℕ) → IsMine i → i < rows_of k
  mine_inside i own = let top = own_inside k me.number me.blocks hand_holds.first hand_holds.end hand_holds.area in let high = own.1 in omega arith

  -- and no other pass's
  pub mine_alone : (a : Hand) → a.number ≢ me.number → IsDrawer k t.rule.owner a → (first end i : ℕ) → IsOwnArea k a.number a.blocks first end → IsMine i → first ≤ i → i < end → ⊥
  mine_alone a ne draws first end i theirs own low high = ne (sym (own_apart k t.rule.owner me a hand_holds.first hand_holds.end first end i mine_drawn draws hand_holds.area theirs own.0 own.1 low high))

  -- what it makes in spare blocks is in its own
  pub spares_more : (e : Event) → ((x : Element) → In x (births e) → IsMine x.id) → (d : Event) (x : Element) (b : ℕ) → In d (me.mine ++ e ∷ []) → In x (births d) → IsRowOfBlock k b x.id → In b me.blocks
  spares_more e own d x b p made row = ⊎_elim (λ q. hand_holds.spares d x b q made row)
      (λ q. let at = own x (subst (λ z. In x (births z)) (in_one q) made) in own_spares k me.number me.blocks hand_holds.first hand_holds.end x.id b hand_holds.area at.0 at.1 row) (in_either me.mine (e ∷ []) p)

  -- it may use the rows of its run's area
  pub mine_may : (i : ℕ) → IsMine i → MayUse k t.rule.history me.number i
  mine_may i own = own_may k t.rule.history me hand_holds.first hand_holds.end i hand_holds.given mine_for hand_holds.area own.0 own.1

  -- what the seat's step makes of the history, the words, the view and the owners
  pub record Move : Type 0 where
    pub kind : StepKind
    pub f : Hand → Hand
    pub seen : List Event
    pub history : List Event
    pub words : List ℕ
    pub owner : Owners
    -- f leaves the number, and the history grows
    pub stays : (a : Hand) → (f a).number ≡ a.number
    pub begins : IsPrefix seen history
    pub grows : IsPrefix t.rule.history history
    -- the words say the history, the pass is as its seat knows it, the others are as they were, and words that stay stay
    pub world : World k history words
    pub mine : HandHolds k history words (f me)
    pub others : (a : Hand) → a.number ≢ me.number → IsDrawer k t.rule.owner a → HandHolds k t.rule.history t.state.words a → HandHolds k history words a
    pub still : (x : Known) → StillSo k t.state.words x → StillSo k words x
    -- what the seat knows afterwards
    pub known : List Known
    pub knows : (x : Known) → In x known → StillSo k words x
    -- the seats stand for the same passes, and each pass has its blocks alone
    pub same : (c : ℕ) → owner.seat c ≡ t.rule.owner.seat c
    pub draws : IsDrawer k owner (f me)
    pub drew : (a : Hand) → a.number ≢ me.number → HandHolds k t.rule.history t.state.words a → IsDrawer k t.rule.owner a → IsDrawer k owner a
    -- a block below the counter was below it, or is the pass's by now, and the pass has the blocks that it had
    pub raised : (b : ℕ) → b < drawn_in k words → (b < drawn_in k t.state.words) ⊎ In b (f me).blocks
    pub holds : (b : ℕ) → In b me.blocks → In b (f me).blocks

  -- the rule holds with that history
  pub moved_to : (m : Move) → (r : Rule k record { words = m.words; homes = t.state.homes; views = set t.state.views t.id (after m.kind m.f m.seen m.known t.view) }) × (r.history ≡ m.history)
  moved_to m = let r = t.rule in let old = seat_holds in (
    record {
      history = m.history;
      owner = m.owner;
      world = m.world;
      seats = seats_after k m.history m.words m.owner t.state.views t.id (after m.kind m.f m.seen m.known t.view)
          (seat_after k r.history m.history t.state.words m.words r.owner m.owner t.id t.view m.kind m.f m.seen m.known m.stays m.same
          (λ a p _. subst (λ (z : Hand). IsDrawer k m.owner (m.f z)) (sym (only_hand t.view t.one a p)) m.draws) m.begins m.knows
          (λ a p _. subst (λ (z : Hand). HandHolds k m.history m.words (m.f z)) (sym (only_hand t.view t.one a p)) m.mine) old)
          (λ j u apart e. let there = r.seats j u e in
          let other : (a : Hand) → In a u.hands → a.number ≢ me.number = λ a p same. apart (sym (there.owns a p) ∙ (ap r.owner.seat same ∙ old.owns me (one_in t.view t.one))) in
          seat_frame k r.history m.history t.state.words m.words r.owner m.owner j u m.grows m.still m.same (λ a p. m.drew a (other a p) (there.hands a p) (there.draws a p)) (λ a p. m.others a (other a p) (there.draws a p)) there);
      complete = λ c below. seated_after (λ (a : Hand). a.number ≡ c) t.state.views t.id t.view m.kind m.f m.seen m.known t.at (λ a p so. m.stays a ∙ so) (r.complete c below);
      drawers = λ b below. ⊎_elim
          (λ was. seated_after (λ (a : Hand). In b a.blocks) t.state.views t.id t.view m.kind m.f m.seen m.known t.at
          (λ a p has. let is = only_hand t.view t.one a p in subst (λ (z : Hand). In b (m.f z).blocks) (sym is) (m.holds b (subst (λ (z : Hand). In b z.blocks) is has))) (r.drawers b was))
          (λ has. let g : Hand → Hand = λ a. noted m.kind m.seen (m.f a) in let w : View = after m.kind m.f m.seen m.known t.view in
          (t.id, w, g me, set_here t.state.views t.id w (at_below t.state.views t.view t.id t.at), in_map_to g (one_in t.view t.one), has)) (m.raised b below);
    },
    λ i. m.history,
  )

  pub moved : (m : Move) → Rule k record { words = m.words; homes = t.state.homes; views = set t.state.views t.id (after m.kind m.f m.seen m.known t.view) }
  moved m = (moved_to m).0

  -- f leaves the number and the blocks
  abbrev pub Stays : (Hand → Hand) → Type 0
  Stays f = (a : Hand) → ((f a).number ≡ a.number) × ((f a).blocks ≡ a.blocks)

  pub draws_still : (f : Hand → Hand) → Stays f → IsDrawer k t.rule.owner (f me)
  draws_still f stays b has = let same = stays me in mine_drawn b (subst (In b) same.1 has) ∙ sym same.0

  pub holds_still : (f : Hand → Hand) → Stays f → (b : ℕ) → In b me.blocks → In b (f me).blocks
  holds_still f stays b has = subst (In b) (sym (stays me).1) has
