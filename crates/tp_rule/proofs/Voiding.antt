-- A row that was left behind empty is marked as one that is never used.
use Rattle.std.proofs.Common.{◌≡◌, ◌≢◌, ℕ, ◌<◌, ◌≤◌, eqb, List, ◌∷◌, set, get_or, sym, refl, ap, ◌∙◌, subst, inl, inr, ⊎_elim, arith, eq-eqb, ne_eqb, Some, None}
use mathlib.Core.Logic.{dite}
use native.Mathlib.Decide.{ℕ_discrete}
use prog.Atomic.{either}
use lib.Seq.{set-get_or}
use Rattle.tp_model.specs.declared.trace.StepKind.TheVariants as kinds
use Rattle.tp_model.specs.declared.types.Limits.{Limits}
use Rattle.tp_model.specs.History.{element_of}
use Rattle.tp_model.specs.Steps.{rows_of}
use Rattle.tp_model.proofs.Areas.{one_area, own_area}
use Rattle.tp_model.proofs.Bridges.{begins_refl, found_later, in_cons}
use Rattle.tp_rule.specs.Places.{HeadWord, head_place}
use Rattle.tp_rule.specs.Words.{head_bits, pack_head}
use Rattle.tp_rule.specs.declared.packing.Head.{Head}
use Rattle.tp_rule.specs.declared.packing.Head.TheVariants.{Empty, Filled, Void}
use Rattle.tp_rule.specs.Doors.{Permits}
use Rattle.tp_rule.specs.Plays.{voids}
use Rattle.tp_rule.specs.Rule.{HandHolds, HeadTold, Rule, StillSo, drawn_in}
use Rattle.tp_rule.specs.Steps.{IsLeftBehind, after, unchanged}
use Rattle.tp_rule.specs.Views.{IsOnePass, hand}
use Rattle.tp_rule.specs.declared.view.Hand.{Hand}
use Rattle.tp_rule.specs.declared.view.Known.{Known}
use Rattle.tp_rule.specs.declared.view.Known.TheVariants.{RowHead}
use Rattle.tp_rule.specs.declared.view.View.{View}
use Rattle.tp_rule.proofs.Frames.{Turn, hand_holds, hand_quiet, mine_drawn, moved, rows_frame, seat_holds}
use Rattle.tp_rule.proofs.OwnAreas.{areas_on}
use Rattle.tp_model.proofs.Areas.{ascend_wider}
use Rattle.tp_model.specs.Passes.{IsOwnArea}
use Rattle.tp_rule.proofs.Owning.{IsDrawer, own_apart, own_drawn, own_inside}
use Rattle.tp_rule.proofs.Storing.{MayStore, SameRow, drawn_left, drawn_rises, full_head, row_left, still_left, stored, tail_same}
use Rattle.tp_rule.proofs.Tellings.{empty_unborn, head_told, world_stored}

module _ (k : Limits) (t : Turn k) (i : ℕ) (away : IsLeftBehind k (hand t.view) i) where
  abbrev me : Hand
  me = hand t.view

  inside : i < rows_of k
  inside = let top = own_inside k me.number me.blocks away.0 away.1 away.2 in let high = away.4 in omega arith

  -- the row is in no pass's run
  not_mine : (hold : HandHolds k t.rule.history t.state.words me) → hold.first ≤ i → i < hold.end → ⊥
  not_mine hold low high = away.5 ((one_area k away.0 away.1 hold.first hold.end i (own_area k me.number me.blocks away.0 away.1 away.2) (own_area k me.number me.blocks hold.first hold.end hold.area) away.3 away.4 low high).1 ∙ sym hold.rows.ends)

  not_others : (b : Hand) → b.number ≢ me.number → IsDrawer k t.rule.owner b → (first end : ℕ) → IsOwnArea k b.number b.blocks first end → first ≤ i → i < end → ⊥
  not_others b ne draws first end own low high = ne (sym (own_apart k t.rule.owner me b away.0 away.1 first end i (mine_drawn k t) draws away.2 own away.3 away.4 low high))

  -- its head is empty, and becomes void
  module _ (empty : get_or t.state.words (head_place i) 0 ≡ 0) where
    abbrev ws : List ℕ
    ws = set t.state.words (head_place i) (pack_head Void)

    may : MayStore k t.state.words (HeadWord i) (pack_head Void)
    may = record {
      head = λ j e. let same : i ≡ j = cc in record {
        empty = subst (λ z. get_or t.state.words (head_place z) 0 ≡ 0) same empty;
        full = λ not. absurd (not refl);
        tail = λ stage s j low up. let q : Filled stage s.0 s.1 ≡ Void = head_told (Filled stage s.0 s.1) Void s.2 tt (sym s.3) in absurd cc;
        drawn = let hold = hand_holds k t in let top = own_drawn k me.number (drawn_in k t.state.words) me.blocks away.0 away.1 hold.blocks away.2 in let high = away.4 in omega arith;
      };
      mark = λ s p e. absurd cc;
      count = λ e. absurd cc;
      word = λ j n e. absurd cc;
    }

    told : HeadTold t.rule.history i (pack_head Void)
    told = record {
      head = Void;
      packed = refl;
      fit = tt;
      bare = λ e. absurd cc;
      born = λ x p. let q : None ≡ Some x = sym (empty_unborn k t.rule.history t.state.words t.rule.world i inside empty) ∙ p in absurd cc;
      draft = λ un. tt;
    }

    still : (z : Known) → StillSo k t.state.words z → StillSo k ws z
    still = still_left k t.state.words (HeadWord i) (pack_head Void) inside t.rule.world.wide may

    rises : drawn_in k t.state.words ≤ drawn_in k ws
    rises = drawn_rises k t.state.words (HeadWord i) (pack_head Void) inside t.rule.world.wide may

    -- every other row is as it was
    other_row : (j : ℕ) → j < rows_of k → i ≢ j → SameRow t.state.words ws j
    other_row j below other = row_left k t.state.words (HeadWord i) (pack_head Void) inside j below (λ q. let same : Some i ≡ Some j = q in other cc)

    quiet : (a : Hand) → (hold : HandHolds k t.rule.history t.state.words a) → ((first end : ℕ) → IsOwnArea k a.number a.blocks first end → first ≤ i → i < end → ⊥) → HandHolds k t.rule.history ws a
    quiet a hold apart = hand_quiet k t.rule.history t.state.words ws a rises hold
        (λ first end j own low high. let top = own_inside k a.number a.blocks first end own in other_row j (omega arith) (λ same. apart first end own (omega arith) (omega arith)))

    -- the pass itself has one empty head less
    mine_void : HandHolds k t.rule.history ws me
    mine_void = let h = t.rule.history in let hold = hand_holds k t in let top = own_inside k me.number me.blocks hold.first hold.end hold.area in record {
      given = hold.given;
      mine = hold.mine;
      blocks = ascend_wider 0 (drawn_in k t.state.words) (drawn_in k ws) me.blocks rises hold.blocks;
      spares = hold.spares;
      first = hold.first;
      end = hold.end;
      area = hold.area;
      rows = rows_frame k h h t.state.words ws hold.first hold.end me.first_draft me.next me.left me.next_body me.drafts
          (λ j low high. other_row j (omega arith) (λ same. not_mine hold (omega arith) (omega arith))) (λ j low high un. un) hold.rows;
      tail = tail_same t.state.words ws hold.first hold.end me.next me.left me.tail me.tail_stage hold.rows.ends
          (λ j low high. (other_row j (omega arith) (λ same. not_mine hold (omega arith) (omega arith))).0) hold.tail;
      units = hold.units;
      areas = areas_on k h h t.state.words ws me me (record {
        own = λ first end own. own;
        top = refl;
        passed = (refl, refl);
        heads = λ first end j own low high. let last = own_inside k me.number me.blocks first end own in dite (ℕ_discrete i j)
            (λ same. let now : get_or ws (head_place j) 0 ≡ pack_head Void = subst (λ z. get_or ws (head_place z) 0 ≡ pack_head Void) same (stored k t.state.words (HeadWord i) (pack_head Void) inside t.rule.world.wide) in inr (
              λ zero. full_head Void (λ q. cc) (sym now ∙ zero),
              λ stage root u named. let q : Filled stage root (Some u) ≡ Void = head_told (Filled stage root (Some u)) Void named.0 tt (sym named.1 ∙ ap head_bits now) in absurd cc,
            ))
            (λ other. inl (other_row j (omega arith) other).0);
        undecided = λ u un. un;
        committed = λ j u from count is. inl is;
        drafts = λ j u low high is un. (low, high, is);
        made = λ first end j e x own low high p made past. inl p;
      }) hold.areas;
    }

    voided : Rule k record { words = ws; homes = t.state.homes; views = set t.state.views t.id (after kinds.Void unchanged t.view.seen (RowHead i Void ∷ t.view.known) t.view) }
    voided = let h = t.rule.history in let seat = seat_holds k t in moved k t record {
      kind = kinds.Void;
      f = unchanged;
      seen = t.view.seen;
      history = h;
      words = ws;
      owner = t.rule.owner;
      stays = λ a. refl;
      begins = seat.seen;
      grows = begins_refl h;
      world = world_stored k h h t.state.words (HeadWord i) (pack_head Void) t.rule.world t.rule.world.legal (begins_refl h) inside told (λ w there _. t.rule.world.tells w there) may (λ s p e. absurd cc);
      mine = mine_void;
      others = λ b ne draws hold. quiet b hold (not_others b ne draws);
      known = RowHead i Void ∷ t.view.known;
      knows = λ z q. ⊎_elim (λ e. subst (StillSo k ws) (sym e) (inside, tt, λ some. ap head_bits (stored k t.state.words (HeadWord i) (pack_head Void) inside t.rule.world.wide))) (λ o. still z (seat.known z o)) (in_cons q);
      still = still;
      same = λ c. refl;
      draws = mine_drawn k t;
      drew = λ b ne hold draws. draws;
      raised = λ b below. inl (drawn_left k t.state.words (HeadWord i) (pack_head Void) inside (λ q. cc) b below);
      holds = λ b has. has;
    }

  -- it has a head, which the seat remembers
  headed : (head : Head) → StillSo k t.state.words (RowHead i head) → Rule k record { words = t.state.words; homes = t.state.homes; views = set t.state.views t.id (after kinds.Void unchanged t.view.seen (RowHead i head ∷ t.view.known) t.view) }
  headed head so = let h = t.rule.history in let seat = seat_holds k t in moved k t record {
    kind = kinds.Void;
    f = unchanged;
    seen = t.view.seen;
    history = h;
    words = t.state.words;
    owner = t.rule.owner;
    stays = λ a. refl;
    begins = seat.seen;
    grows = begins_refl h;
    world = t.rule.world;
    mine = hand_holds k t;
    others = λ b _ _ hold. hold;
    known = RowHead i head ∷ t.view.known;
    knows = λ z q. ⊎_elim (λ e. subst (StillSo k t.state.words) (sym e) so) (λ o. seat.known z o) (in_cons q);
    still = λ z is. is;
    same = λ c. refl;
    draws = mine_drawn k t;
    drew = λ b ne hold draws. draws;
    raised = λ b below. inl below;
    holds = λ b has. has;
  }

-- the head of row i is empty no more, and is known
pub voids_go : (k l : Limits) (v : View) (word i : ℕ) → l ≡ k → IsOnePass v → v.limits ≡ l → IsLeftBehind l (hand v) i → word ≡ head_place i → Permits k v word (λ x. either (eqb x 0) 2 x) (voids word 0 2 v)
voids_go k l v word i keyed one lim gone place s r id at = let away : IsLeftBehind k (hand v) i = subst (λ (z : Limits). IsLeftBehind z (hand v) i) keyed gone in let t : Turn k = record { state = s; rule = r; id = id; view = v; at = at; one = one } in let x : ℕ = get_or s.words word 0 in let seat = seat_holds k t in
    let is : x ≡ get_or s.words (head_place i) 0 = ap (λ z. get_or s.words z 0) place in dite (ℕ_discrete x 0)
    (λ hit. (
      after kinds.Void unchanged v.seen (RowHead i Void ∷ v.known) v,
      subst (λ (z : ℕ × ℕ). Rule k record { words = set s.words z.0 z.1; homes = s.homes; views = set s.views id (after kinds.Void unchanged v.seen (RowHead i Void ∷ v.known) v) })
          (λ j. (sym place j, sym (ap (λ b. either b (pack_head Void) x) (eq-eqb x 0 hit)) j)) (voided k t i away (sym is ∙ hit)),
      λ j at_j. let same : i ≡ j = omega arith in (
        Void,
        λ e. absurd cc,
        ap (λ z. after kinds.Void unchanged v.seen (RowHead z Void ∷ v.known) v) same,
        λ some y p. let un = empty_unborn k r.history s.words r.world i (inside k t i away) (sym is ∙ hit) in
            let q : None ≡ Some y = sym un ∙ found_later v.seen r.history seat.seen i y (subst (λ z. element_of v.seen z ≡ Some y) (sym same) p) in absurd cc,
      ),
    ))
    (λ miss. let told = r.world.tells (HeadWord i) (inside k t i away) in let some : told.head ≢ Empty = λ e. miss (is ∙ told.bare e) in (
      after kinds.Void unchanged v.seen (RowHead i told.head ∷ v.known) v,
      subst (λ (z : List ℕ). Rule k record { words = z; homes = s.homes; views = set s.views id (after kinds.Void unchanged v.seen (RowHead i told.head ∷ v.known) v) })
          (sym (ap (λ z. set s.words word z) (ap (λ b. either b (pack_head Void) x) (ne_eqb x 0 miss)) ∙ set-get_or s.words word 0)) (headed k t i away told.head (inside k t i away, told.fit, λ _. told.packed)),
      λ j at_j. let same : i ≡ j = omega arith in (
        told.head,
        some,
        ap (λ z. after kinds.Void unchanged v.seen (RowHead z told.head ∷ v.known) v) same,
        λ _ y p. told.born y (found_later v.seen r.history seat.seen i y (subst (λ z. element_of v.seen z ≡ Some y) (sym same) p)),
      ),
    ))
