-- The commit exchange and the abort exchange keep the rule.
use Rattle.std.proofs.Common.{◌≡◌, ℕ, ◌+◌, ◌*◌, ◌<◌, ◌≤◌, ◌≢◌, eqb, List, [], ◌∷◌, ◌++◌, length, set, get_or, slice_index, sym, refl, ap, ◌∙◌, subst, ◌⊎◌, inl, inr, ⊎_elim, arith, eq-eqb, ne_eqb, Option, Some, None}
use Rattle.std.specs.Option.{option_or}
use mathlib.Core.Logic.{dite}
use native.Mathlib.Decide.{ℕ_discrete}
use prog.Atomic.{either}
use Rattle.tp_model.specs.declared.event.Event.{Event}
use Rattle.tp_model.specs.declared.event.Event.TheVariants.{Abort, Claim, Commit}
use Rattle.tp_model.specs.declared.trace.StepKind.{StepKind}
use Rattle.tp_model.specs.declared.trace.StepKind.TheVariants as kinds
use Rattle.tp_model.specs.declared.types.Element.{Element}
use Rattle.tp_model.specs.declared.types.Limits.{Limits}
use Rattle.tp_model.specs.History.{Aborted, Committed, UnitEnd, In, here, there, IsUnborn, births, end_of, first_id, pass_of}
use Rattle.tp_model.specs.Steps.{AreLimits, AreOutputs, MayUse, Step, rows_of, units_of}
use Rattle.tp_model.specs.Words.{claim_word, claim_word_after}
use Rattle.tp_model.proofs.Bridges.{found_later, taking_later, by_own, claim_either, in_either, in_none, in_one, unborn_still, unused_still}
use Rattle.tp_model.proofs.Lists.{option_or-None, if_same, if_other}
use Rattle.tp_model.proofs.WordProofs.{end_of-snoc}
use Rattle.tp_rule.specs.Places.{Word, HeadWord, BodyWord, ClaimWord, UnitWord, MarkWord, DrawnWord, IsThere, head_place, body_place, claim_place, unit_place, place_of, size_of}
use Rattle.tp_rule.specs.Words.{IsFitHead, IsFitUnit, head_of, pack_by, pack_unit, unit_bits, unit_tail_bits}
use Rattle.tp_rule.specs.declared.bits.TheConstants.{UNIT_TAIL}
use Rattle.tp_rule.specs.Doors.{Permits}
use Rattle.tp_rule.specs.Plays.{exchanges_commit, exchanges_abort}
use Rattle.tp_rule.specs.Rule.{AreCommitted, AreasHold, HasHead, HasTail, HaveIdsFrom, HandHolds, Holds, RowsHold, Rule, WordIs, UnitsHold, drawn_in}
use Rattle.tp_model.specs.Passes.{Ascend, IsOwnArea}
use Rattle.tp_rule.specs.declared.view.Known.TheVariants.{RowHead}
use Rattle.tp_rule.specs.Steps.{IsOut, after, unchanged, with_end, with_lost, IsOwnWork, IsClaimed, commit_event, Grew, LosesUnit, HasCleared}
use Rattle.tp_rule.specs.Views.{IsOnePass, hand}
use Rattle.tp_rule.specs.declared.view.Hand.{Hand}
use Rattle.tp_rule.specs.declared.view.View.{View}
use Rattle.tp_rule.proofs.Events.{acted, found_there, looking_after, watched}
use Rattle.tp_rule.proofs.Frames.{IsMine, Turn, decide_undecided, hand_holds, mine_may, rows_frame, seat_holds, spares_more, committed_before, still_undecided}
use Rattle.tp_rule.proofs.OwnAreas.{SameHeads, areas_event, areas_on}
use Rattle.tp_rule.proofs.Owning.{own_inside}
use Rattle.tp_model.proofs.Areas.{ascend_wider}
use Rattle.tp_rule.proofs.Parts.{fair_rows, fair_units, in_run}
use Rattle.tp_rule.proofs.Storing.{drawn_rises, has_full, may_unit, row_left, tail_same}
use Rattle.tp_rule.proofs.Tellings.{body_later, born_fit, claim_later, head_later, still_committed, unit_later, unit_now}
use Rattle.tp_rule.proofs.Units.{decide}
use Rattle.tp_rule.proofs.Watching.{rows_lost}

-- how a unit ended can be told from a run beside it, and the other way round
unit_beside : (p m : ℕ) → p < UNIT_TAIL → unit_bits (p + UNIT_TAIL * m) ≡ p
unit_beside p m small = omega arith

unit_tail_beside : (p m : ℕ) → p < UNIT_TAIL → unit_tail_bits (p + UNIT_TAIL * m) ≡ m
unit_tail_beside p m small = omega arith

unit_undecided : (w : Option UnitEnd) → pack_unit w ≡ 0 → w ≡ None
unit_undecided None e = refl
unit_undecided (Some (Committed f m)) e = absurd (omega arith)
unit_undecided (Some Aborted) e = absurd (omega arith)

only_aborted : (w : Option UnitEnd) → ¬ (pack_unit w ≡ 0) → ((f m : ℕ) → ¬ (w ≡ Some (Committed f m))) → w ≡ (Some Aborted)
only_aborted None a b = absurd (a refl)
only_aborted (Some (Committed f m)) a b = absurd (b f m refl)
only_aborted (Some Aborted) a b = refl

commit_else : (c v : ℕ) (outs : List Element) (u : ℕ) (w : Option UnitEnd) → u ≢ v → decide u w (Commit c v outs) ≡ w
commit_else c v outs u w ne = ap (option_or w) (if_other v u _ None (λ e. ne (sym e))) ∙ option_or-None w

commit_here : (c v : ℕ) (outs : List Element) → decide v None (Commit c v outs) ≡ Some (Committed (first_id outs) (length outs))
commit_here c v outs = if_same v v _ None refl

abort_else : (c v u : ℕ) (w : Option UnitEnd) → u ≢ v → decide u w (Abort c v) ≡ w
abort_else c v u w ne = ap (option_or w) (if_other v u _ None (λ e. ne (sym e))) ∙ option_or-None w

abort_here : (c v : ℕ) → decide v None (Abort c v) ≡ (Some Aborted)
abort_here c v = if_same v v _ None refl

run_first : (i : ℕ) (xs : List Element) → HaveIdsFrom i xs → HaveIdsFrom (first_id xs) xs
run_first i [] r = tt
run_first i (x ∷ xs) r = (refl, subst (λ z. HaveIdsFrom (z + 1) xs) (sym r.0) r.1)

-- drafts in unborn rows that the pass may use are outputs of the unit
are_outputs : (k : Limits) (h : List Event) (c u root i : ℕ) (outs : List Element) → HaveIdsFrom i outs → ((y : Element) → In y outs → MayUse k h c y.id × IsUnborn h y.id) → ((y : Element) → In y outs → IsOut u root y) → AreOutputs k h c u root i outs
are_outputs k h c u root i [] from places outs_so = tt
are_outputs k h c u root i (y ∷ ys) from places outs_so = let p = places y here in let o = outs_so y here in (
  record {
    place = from.0;
    row = subst (MayUse k h c) from.0 p.0;
    unborn = subst (IsUnborn h) from.0 p.1;
    stage = o.0;
    body = o.3;
    by = o.1;
    root_is = o.2;
  },
  are_outputs k h c u root (i + 1) ys from.1 (λ z q. places z (there q)) (λ z q. outs_so z (there q)),
)

module _ (k : Limits) where
  -- the unit u is held, or none is
  abbrev pub Holding : Option ℕ → ℕ → Type 0
  Holding held u = (held ≡ None) ⊎ (held ≡ Some u)

  holds_no_other : (held : Option ℕ) (u z : ℕ) → Holding held u → z ≢ u → ¬ (held ≡ Some z)
  holds_no_other held u z h ne is = ⊎_elim (λ e. let q : None ≡ Some z = sym e ∙ is in absurd cc) (λ e. let q : Some u ≡ Some z = sym e ∙ is in let same : z ≡ u = cc in ne same) h

  -- the units of the pass whose unit u is decided
  units_decided : (h : List Event) (c used u : ℕ) (spare held : Option ℕ) → Holding held u → ¬ (end_of h u ≡ None) → UnitsHold k h c used spare held → UnitsHold k h c used spare None
  units_decided h c used u spare held holding done r = record {
    used_below = r.used_below;
    unused = r.unused;
    spare_next = r.spare_next;
    open_own = λ z is. absurd cc;
    closed = λ z j o p not un. dite (ℕ_discrete z u) (λ is. done (subst (λ y. end_of h y ≡ None) is un)) (λ ne. r.closed z j o p (holds_no_other held u z holding ne) un);
    in_order = λ z low high un. absurd (holds_no_other held u z holding (λ is. done (subst (λ y. end_of h y ≡ None) is un)) (r.in_order z low high un).0);
  }

  units_end : (h : List Event) (e : Event) (c used u : ℕ) (spare held : Option ℕ) → Holding held u → ((d z i n : ℕ) → ¬ (Claim d z i n ≡ e)) → ¬ (end_of (h ++ e ∷ []) u ≡ None)
      → UnitsHold k h c used spare held → UnitsHold k (h ++ e ∷ []) c used spare None
  units_end h e c used u spare held holding other done r = record {
    used_below = r.used_below;
    unused = λ z l m. unused_still h e z (r.unused z l m) (λ d i n is. other d z i n is);
    spare_next = r.spare_next;
    open_own = λ z is. absurd cc;
    closed = λ z j o p not un. ⊎_elim (λ q. dite (ℕ_discrete z u) (λ is. done (subst (λ y. end_of (h ++ e ∷ []) y ≡ None) is un))
        (λ ne. r.closed z j o q (holds_no_other held u z holding ne) (decide_undecided z (end_of h z) e (sym (end_of-snoc h e z) ∙ un)))) (λ q. other c z j o q) (claim_either h e c z j o p);
    in_order = λ z low high un. absurd (holds_no_other held u z holding (λ is. done (subst (λ y. end_of (h ++ e ∷ []) y ≡ None) is un)) (r.in_order z low high (decide_undecided z (end_of h z) e (sym (end_of-snoc h e z) ∙ un))).0);
  }

  -- what the words say after an event that decides unit u, where those of each row that is born hold its element
  decided_told : (h : List Event) (ws : List ℕ) (e : Event) (u : ℕ) → ((i : ℕ) → claim_word_after i (claim_word h i) e ≡ claim_word h i) → ((z : ℕ) → z ≢ u → decide z (end_of h z) e ≡ end_of h z)
      → ((y : Element) → In y (births e) → Holds ws y × IsFitHead (head_of y)) → (w : Word) → IsThere k w → w ≢ UnitWord u → WordIs h w (get_or ws (place_of k w) 0) → WordIs (h ++ e ∷ []) w (get_or ws (place_of k w) 0)
  decided_told h ws e u quiet else_is full (HeadWord i) at other old = head_later h e i (get_or ws (head_place i) 0) (λ y q id. let f = full y q in (subst (λ z. HasHead ws z (head_of y)) id f.0.0, f.1)) old
  decided_told h ws e u quiet else_is full (BodyWord i j) at other old = body_later h e i (get_or ws (body_place i j) 0) (λ y. slice_index y.body j)
      (λ y q id. let holds = (full y q).0 in let below = at.1 in let whole = holds.2 in subst (λ z. get_or ws (body_place z j) 0 ≡ slice_index y.body j) id (holds.1 j (omega arith))) old
  decided_told h ws e u quiet else_is full (ClaimWord i) at other old = claim_later h e i (get_or ws (claim_place i) 0) (quiet i) old
  decided_told h ws e u quiet else_is full (MarkWord s p) at other old = tt
  decided_told h ws e u quiet else_is full DrawnWord at other old = tt
  decided_told h ws e u quiet else_is full (UnitWord z) at other old = unit_later h e z (get_or ws (unit_place k z) 0) (else_is z (λ same. other (ap UnitWord same))) old

  -- an event of the pass that decides unit u
  unit_event : (t : Turn k) (e : Event) (u x : ℕ) (w : Option UnitEnd) (kind : StepKind) → u < units_of k → unit_bits x ≡ pack_unit w → IsFitUnit w → w ≢ None → AreCommitted t.rule.history u (unit_tail_bits x) → pass_of e ≡ (hand t.view).number → Step k t.rule.history e
      → ((i : ℕ) → claim_word_after i (claim_word t.rule.history i) e ≡ claim_word t.rule.history i) → decide u (end_of t.rule.history u) e ≡ w → ((z : ℕ) → z ≢ u → decide z (end_of t.rule.history z) e ≡ end_of t.rule.history z)
      → ((y : Element) → In y (births e) → Holds t.state.words y × IsFitHead (head_of y)) → ((y : Element) → In y (births e) → IsMine k t y.id) → HandHolds k (t.rule.history ++ e ∷ []) (set t.state.words (unit_place k u) x) (with_end e (hand t.view))
      → Rule k record { words = set t.state.words (unit_place k u) x; homes = t.state.homes; views = set t.state.views t.id (after kind (with_end e) (t.rule.history ++ e ∷ []) t.view.known t.view) }
      × Grew kind (with_end e) (e ∷ []) t.view (after kind (with_end e) (t.rule.history ++ e ∷ []) t.view.known t.view)
  unit_event t e u x w kind room is fit some before own st quiet here_is else_is full born_own mine = let h = t.rule.history in acted k t record {
    event = e;
    word = UnitWord u;
    number = x;
    kind = kind;
    f = with_end e;
    stays = λ z. (refl, refl);
    own = own;
    step = st;
    there = room;
    told = unit_now h e u x w here_is is fit some before;
    rest = λ v there other. decided_told h t.state.words e u quiet else_is full v there other (t.rule.world.tells v there);
    may = may_unit k t.state.words u x;
    unmarked = λ s z q. cc;
    uncounted = λ q. cc;
    tells_own = λ i q. absurd cc;
    births_own = born_own;
    mine = mine;
  }

  -- the rows of the pass that decided a unit; its births are its drafts, or there are none
  rows_end : (h : List Event) (ws : List ℕ) (e : Event) (u x first end first_draft next left : ℕ) (body : List ℕ) (ds : List Element) → u < units_of k → end ≤ rows_of k → ((y : Element) → In y (births e) → In y ds)
      → RowsHold h ws first end first_draft next left body ds → RowsHold (h ++ e ∷ []) (set ws (unit_place k u) x) first end next next left body []
  rows_end h ws e u x first end first_draft next left body ds at inside from r = let r2 = rows_lost k h ws first end first_draft next left body ds r in
      let same_words = λ (i : ℕ) (low : first ≤ i) (high : i < end). row_left k ws (UnitWord u) x at i (omega arith) (λ q. cc) in
      let count = r.counted in let r3 = rows_frame k h h ws (set ws (unit_place k u) x) first end next next left body [] same_words (λ i low high un. un) r2 in record {
        counted = r3.counted;
        begins = r3.begins;
        ends = r3.ends;
        unborn = λ i l m. unborn_still h e i (r2.unborn i l m) (λ z n id. let t = in_run first_draft ds z r.run (from z n) in let b = t.1 in absurd (omega arith));
        full = r3.full;
        empty = r3.empty;
        unwritten = r3.unwritten;
        body_whole = r3.body_whole;
        body_there = r3.body_there;
        run = tt;
        written = λ z q. absurd (in_none q);
      }

  -- the areas of the pass that decided a unit; before what is born no head in them is empty
  areas_end : (h : List Event) (ws : List ℕ) (e : Event) (u x : ℕ) (a : Hand) → u < units_of k → Holding a.open_unit u → ¬ (end_of (h ++ e ∷ []) u ≡ None)
      → ((i from count : ℕ) → a.first_draft ≤ i → i < a.next → end_of (h ++ e ∷ []) u ≡ Some (Committed from count) → (from ≤ i) × (i < from + count))
      → ((c z : ℕ) (outs : List Element) → e ≡ Commit c z outs → z ≡ u)
      → ((first end i : ℕ) (y : Element) → IsOwnArea k a.number a.blocks first end → first ≤ i → i < end → In y (births e) → end ≤ y.id → get_or ws (head_place i) 0 ≢ 0)
      → AreasHold k h ws a → AreasHold k (h ++ e ∷ []) (set ws (unit_place k u) x) (with_end e a)
  areas_end h ws e u x a at holding done outputs one headed r =
      let same : SameHeads k a ws (set ws (unit_place k u) x) = λ first end i own low high. (let top = own_inside k a.number a.blocks first end own in (row_left k ws (UnitWord u) x at i (omega arith) (λ q. cc)).0) in
      areas_on k h (h ++ e ∷ []) ws (set ws (unit_place k u) x) a (with_end e a) (record {
        own = λ first end own. own;
        top = refl;
        passed = (refl, refl);
        heads = λ first end i own low high. inl (same first end i own low high);
        undecided = still_undecided h e;
        committed = λ i z from count is. committed_before h e z from count is (λ c outs same low high held.
            let unit = one c z outs same in outputs i from count low high (subst (λ y. end_of (h ++ e ∷ []) y ≡ Some (Committed from count)) unit is));
        drafts = λ i z low high is un. ⊎_elim (λ none. let q : None ≡ Some z = sym none ∙ is in absurd cc)
            (λ held. let q : Some u ≡ Some z = sym held ∙ is in let same : u ≡ z = cc in absurd (done (subst (λ y. end_of (h ++ e ∷ []) y ≡ None) (sym same) un))) holding;
        made = λ first end i d y own low high p made past. ⊎_elim (λ q. inl q)
            (λ q. inr (λ zero. headed first end i y own low high (subst (λ z. In y (births z)) (in_one q) made) past (sym (same first end i own low high) ∙ zero))) (in_either a.mine (e ∷ []) p);
      }) r

  -- the first of some drafts is in the first row of theirs
  first_draft_of : (ds : List Element) (first : ℕ) → HaveIdsFrom first ds → 0 < length ds → first_id ds ≡ first
  first_draft_of [] first r some = absurd (omega arith)
  first_draft_of (y ∷ ys) first r some = r.0

  first_of_none : (ds : List Element) → length ds ≡ 0 → first_id ds ≡ 0
  first_of_none [] e = refl
  first_of_none (y ∷ ys) e = absurd (omega arith)

  first_fits : (end first next left : ℕ) (ds : List Element) → AreLimits k → first + length ds ≡ next → next + left ≡ end → end ≤ rows_of k → HaveIdsFrom first ds → first_id ds < 65536
  first_fits end first next left [] fair count top inside r = omega arith
  first_fits end first next left (y ∷ ys) fair count top inside r = let id : y.id ≡ first = r.0 in let few = fair_rows k fair in omega arith

  -- the rows right before the next one after a store to a unit's word
  tail_end : (ws : List ℕ) (u x first end next rest tail stage : ℕ) → u < units_of k → end ≤ rows_of k → next + rest ≡ end → HasTail ws first next tail stage → HasTail (set ws (unit_place k u) x) first next tail stage
  tail_end ws u x first end next rest tail stage at inside top old = tail_same ws (set ws (unit_place k u) x) first end next rest tail stage top (λ i low high. (row_left k ws (UnitWord u) x at i (omega arith) (λ q. cc)).0) old

  -- the blocks of the pass after a store to a unit's word
  blocks_end : (ws : List ℕ) (u x : ℕ) (bs : List ℕ) → u < units_of k → length ws ≡ size_of k → Ascend 0 (drawn_in k ws) bs → Ascend 0 (drawn_in k (set ws (unit_place k u) x)) bs
  blocks_end ws u x bs at wide up = ascend_wider 0 (drawn_in k ws) (drawn_in k (set ws (unit_place k u) x)) bs (drawn_rises k ws (UnitWord u) x at wide (may_unit k ws u x)) up

  lost_hand : (h : List Event) (ws : List ℕ) (u : ℕ) (a : Hand) → a.open_unit ≡ Some u → end_of h u ≡ (Some Aborted) → HandHolds k h ws a → HandHolds k h ws (with_lost a)
  lost_hand h ws u a held gone r = record {
    given = r.given;
    mine = r.mine;
    blocks = r.blocks;
    spares = r.spares;
    first = r.first;
    end = r.end;
    area = r.area;
    tail = r.tail;
    rows = rows_lost k h ws r.first r.end a.first_draft a.next a.left a.next_body a.drafts r.rows;
    units = units_decided h a.number a.claimed u a.spare_unit a.open_unit (inr held) (λ z. let q : (Some Aborted) ≡ None = sym gone ∙ z in absurd cc) r.units;
    areas = areas_event k h h ws ws a (with_lost a) (λ z from count is. is) (λ first end own. own) refl (refl, refl) (λ first end i own low high. refl) (λ z un. un)
        (λ i z low high is un. let q : Some u ≡ Some z = sym held ∙ is in let same : u ≡ z = cc in let now : Some Aborted ≡ None = sym gone ∙ (ap (end_of h) same ∙ un) in absurd cc) (λ d x p made. p) r.areas;
  }

  -- the seat found its unit decided
  loses : (t : Turn k) (kind : StepKind) (p u : ℕ) → p ≡ unit_place k u → u < units_of k → (hand t.view).open_unit ≡ Some u → get_or t.state.words p 0 ≢ 0
      → Rule k record { words = set t.state.words p (get_or t.state.words p 0); homes = t.state.homes; views = set t.state.views t.id (looking_after k t p kind with_lost) } × LosesUnit kind t.view u (looking_after k t p kind with_lost)
  loses t kind p u place room held miss = let mine = hand_holds k t in let own = mine.units.open_own u held in
      let gone = only_aborted (end_of t.rule.history u) (λ z. miss (ap (λ y. get_or t.state.words y 0) place ∙ (t.rule.world.tells (UnitWord u) room).bare (unit_undecided (end_of t.rule.history u) z))) own.uncommitted in
      let w = watched k t p kind with_lost (λ a. (refl, refl)) (lost_hand t.rule.history t.state.words u (hand t.view) held gone mine) in (w.0, (w.1, gone, own.kept))

  open_unit : (t : Turn k) (p u : ℕ) → p ≡ unit_place k u → u < units_of k → get_or t.state.words p 0 ≡ 0 → end_of t.rule.history u ≡ None
  open_unit t p u place room hit = unit_undecided (end_of t.rule.history u) (sym (t.rule.world.tells (UnitWord u) room).packed ∙ ap unit_bits (ap (λ y. get_or t.state.words y 0) (sym place) ∙ hit))

  pub commits_go : (v : View) (p new u first count run : ℕ) → AreLimits k → IsOnePass v → v.limits ≡ k → (hand v).open_unit ≡ Some u → IsOwnWork v u → length (hand v).drafts ≤ 4
      → first ≡ first_id (hand v).drafts → count ≡ length (hand v).drafts → HasCleared v → u < k.parts * k.units → p ≡ unit_place k u → new ≡ pack_unit (Some (Committed first count)) + UNIT_TAIL * run → AreCommitted v.seen u run
      → Permits k v p (λ x. either (eqb x 0) new x) (exchanges_commit p 0 new v)
  commits_go v p new u first count run fair one lim held work few f_is c_is cleared room place to earlier s r id at = let t : Turn k = record { state = s; rule = r; id = id; view = v; at = at; one = one } in let a : Hand = hand v in let x : ℕ = get_or s.words p 0 in let h = r.history in
      let seat = seat_holds k t in let mine = hand_holds k t in let ds : List Element = a.drafts in let word : p ≡ unit_place v.limits u = place ∙ ap (λ (l : Limits). unit_place l u) (sym lim) in dite (ℕ_discrete x 0)
      (λ hit. let e : Event = commit_event v u in let undecided = open_unit t p u place room hit in let rows = mine.rows in let count_is = rows.counted in let bottom = rows.begins in let top = rows.ends in
      let drafts_own : (y : Element) → In y ds → IsMine k t y.id = λ y q. (let b = in_run a.first_draft ds y rows.run q in let l = b.0 in let m = b.1 in (omega arith, omega arith)) in let inside = own_inside k a.number a.blocks mine.first mine.end mine.area in
      let item = found_later v.seen h seat.seen work.taking.item work.item work.taken in
      let st : Step k h e = record {
        taking = work.taking;
        open_unit = record { claimed = taking_later v.seen h seat.seen u work.taking work.claimed; unfinished = undecided };
        own = work.own;
        item = work.item;
        taken = item;
        few = few;
        outputs = are_outputs k h a.number u work.item.root (first_id ds) ds (run_first a.first_draft ds rows.run)
            (λ y q. let own = drafts_own y q in (mine_may k t y.id own, rows.unborn y.id (in_run a.first_draft ds y rows.run q).0 (let high = own.1 in omega arith))) work.outputs;
      } in
      let now : decide u (end_of h u) e ≡ Some (Committed first count) = ap (λ z. decide u z e) undecided ∙ (commit_here a.number u ds ∙ (λ i. Some (Committed (sym f_is i) (sym c_is i)))) in
      let many = fair_units k fair in let none_first : count ≡ 0 → first ≡ 0 = λ z. f_is ∙ first_of_none ds (sym c_is ∙ z) in let small = first_fits mine.end a.first_draft a.next a.left ds fair rows.counted rows.ends inside rows.run in
      let old = born_fit k h s.words r.world work.taking.item work.item item in let low : work.item.root ≤ 65535 = old.2 in
      let bits : unit_bits new ≡ pack_unit (Some (Committed first count)) = ap unit_bits to ∙ unit_beside (pack_unit (Some (Committed first count))) run (omega arith) in
      let long : unit_tail_bits new ≡ run = ap unit_tail_bits to ∙ unit_tail_beside (pack_unit (Some (Committed first count))) run (omega arith) in
      let before : AreCommitted h u (unit_tail_bits new) = subst (AreCommitted h u) (sym long) (still_committed v.seen h u run seat.seen earlier) in
      let done = unit_event t e u new (Some (Committed first count)) kinds.CommitExchange room bits (omega arith, omega arith, none_first) (λ q. absurd cc) before refl st (λ i. refl) now (λ z ne. commit_else a.number u ds z (end_of h z) ne)
      (λ y q. let o = work.outputs y q in let same_root : y.root ≡ work.item.root = o.2 in (rows.written y q, (o.0.0, o.0.1, omega arith, subst (λ z. pack_by z ≤ 65535) (sym o.1) (omega arith)))) drafts_own record {
        given = mine.given;
        mine = ap (λ l. l ++ e ∷ []) mine.mine ∙ sym (by_own a.number h e refl);
        blocks = blocks_end s.words u new a.blocks room r.world.wide mine.blocks;
        spares = spares_more k t e drafts_own;
        first = mine.first;
        end = mine.end;
        area = mine.area;
        rows = rows_end h s.words e u new mine.first mine.end a.first_draft a.next a.left a.next_body ds room inside (λ y q. q) rows;
        tail = tail_end s.words u new mine.first mine.end a.next a.left a.tail a.tail_stage room inside rows.ends mine.tail;
        units = units_end h e a.number a.claimed u a.spare_unit a.open_unit (inr held) (λ d z i n q. cc) (λ z. let q : Some (Committed first count) ≡ None = sym (end_of-snoc h e u ∙ now) ∙ z in absurd cc) mine.units;
        areas = areas_end h s.words e u new a room (inr held) (λ z. let q : Some (Committed first count) ≡ None = sym (end_of-snoc h e u ∙ now) ∙ z in absurd cc)
            (λ i from n low high is. let q : Some (Committed first count) ≡ Some (Committed from n) = sym (end_of-snoc h e u ∙ now) ∙ is in let same_first : first ≡ from = cc in let same_count : count ≡ n = cc in
            let begin = first_draft_of ds a.first_draft rows.run (omega arith) in (omega arith, omega arith))
            (λ c z outs same. cc)
            (λ from to i y own low high q past. let b = in_run a.first_draft ds y rows.run q in let below = b.1 in
            ⊎_elim (λ some. some) (λ t. let c = cleared i t.0 t.1 in let still = seat.known (RowHead i c.0) c.2 in λ none. has_full s.words i c.0 c.1 (still.2 c.1) none)
            (mine.areas.cleared from to i own (λ is. let e2 = is in omega arith) low high)) mine.areas;
      } in (
        after kinds.CommitExchange (with_end e) (h ++ e ∷ []) v.known v,
        subst (λ (z : ℕ × ℕ). Rule k record { words = set s.words z.0 z.1; homes = s.homes; views = set s.views id (after kinds.CommitExchange (with_end e) (h ++ e ∷ []) v.known v) }) (λ i. (sym place i, sym (ap (λ b. either b new x) (eq-eqb x 0 hit)) i)) done.0,
        (u, word, (λ _. done.1), (λ not. absurd (not hit))),
      ))
      (λ miss. let m = loses t kinds.CommitExchange p u place room held miss in (
        looking_after k t p kinds.CommitExchange with_lost,
        subst (λ z. Rule k record { words = set s.words p z; homes = s.homes; views = set s.views id (looking_after k t p kinds.CommitExchange with_lost) }) (sym (ap (λ b. either b new x) (ne_eqb x 0 miss))) m.0,
        (u, word, (λ hit. absurd (miss hit)), (λ _. m.1)),
      ))

  pub aborts_go : (v : View) (p u : ℕ) → IsOnePass v → v.limits ≡ k → Holding (hand v).open_unit u → IsClaimed v.seen u → u < k.parts * k.units → p ≡ unit_place k u
      → Permits k v p (λ x. either (eqb x 0) 2 x) (exchanges_abort p 0 2 v)
  aborts_go v p u one lim holding was room place s r id at = let t : Turn k = record { state = s; rule = r; id = id; view = v; at = at; one = one } in let a : Hand = hand v in let x : ℕ = get_or s.words p 0 in let h = r.history in
      let seat = seat_holds k t in let mine = hand_holds k t in let word : p ≡ unit_place v.limits u = place ∙ ap (λ (l : Limits). unit_place l u) (sym lim) in dite (ℕ_discrete x 0)
      (λ hit. let e : Event = Abort a.number u in let undecided = open_unit t p u place room hit in
      let st : Step k h e = record { pass = mine.given; taking = was.0; open_unit = record { claimed = taking_later v.seen h seat.seen u was.0 was.1; unfinished = undecided } } in
      let now : decide u (end_of h u) e ≡ (Some Aborted) = ap (λ z. decide u z e) undecided ∙ abort_here a.number u in
      let done = unit_event t e u 2 (Some Aborted) kinds.AbortExchange room refl tt (λ q. absurd cc) (λ z less up. let more : u ≤ z + 0 = up in absurd (omega arith)) refl st (λ i. refl) now (λ z ne. abort_else a.number u z (end_of h z) ne) (λ y q. absurd (in_none q)) (λ y q. absurd (in_none q)) record {
        given = mine.given;
        mine = ap (λ l. l ++ e ∷ []) mine.mine ∙ sym (by_own a.number h e refl);
        blocks = blocks_end s.words u 2 a.blocks room r.world.wide mine.blocks;
        spares = spares_more k t e (λ y q. absurd (in_none q));
        first = mine.first;
        end = mine.end;
        area = mine.area;
        rows = rows_end h s.words e u 2 mine.first mine.end a.first_draft a.next a.left a.next_body a.drafts room (own_inside k a.number a.blocks mine.first mine.end mine.area) (λ y q. absurd (in_none q)) mine.rows;
        tail = tail_end s.words u 2 mine.first mine.end a.next a.left a.tail a.tail_stage room (own_inside k a.number a.blocks mine.first mine.end mine.area) mine.rows.ends mine.tail;
        units = units_end h e a.number a.claimed u a.spare_unit a.open_unit holding (λ d z i n q. cc) (λ z. let q : (Some Aborted) ≡ None = sym (end_of-snoc h e u ∙ now) ∙ z in absurd cc) mine.units;
        areas = areas_end h s.words e u 2 a room holding (λ z. let q : (Some Aborted) ≡ None = sym (end_of-snoc h e u ∙ now) ∙ z in absurd cc)
            (λ i from n low high is. let q : Some Aborted ≡ Some (Committed from n) = sym (end_of-snoc h e u ∙ now) ∙ is in absurd cc) (λ c z outs same. absurd cc) (λ from to i y own low high q past. absurd (in_none q)) mine.areas;
      } in (
        after kinds.AbortExchange (with_end e) (h ++ e ∷ []) v.known v,
        subst (λ (z : ℕ × ℕ). Rule k record { words = set s.words z.0 z.1; homes = s.homes; views = set s.views id (after kinds.AbortExchange (with_end e) (h ++ e ∷ []) v.known v) }) (λ i. (sym place i, sym (ap (λ b. either b 2 x) (eq-eqb x 0 hit)) i)) done.0,
        (u, word, (λ _. done.1), (λ not. absurd (not hit)), (λ not. absurd (not hit)), (λ not. absurd (not hit))),
      ))
      (λ miss. ⊎_elim
      (λ none_held. let m = watched k t p kinds.AbortExchange unchanged (λ z. (refl, refl)) mine in (
        looking_after k t p kinds.AbortExchange unchanged,
        subst (λ z. Rule k record { words = set s.words p z; homes = s.homes; views = set s.views id (looking_after k t p kinds.AbortExchange unchanged) }) (sym (ap (λ b. either b 2 x) (ne_eqb x 0 miss))) m.0,
        (u, word, (λ hit. absurd (miss hit)), (λ _ is. let q : None ≡ Some u = sym none_held ∙ is in absurd cc), (λ _ _. m.1), (λ _. found_there k t p kinds.AbortExchange unchanged)),
      ))
      (λ held. let m = loses t kinds.AbortExchange p u place room held miss in (
        looking_after k t p kinds.AbortExchange with_lost,
        subst (λ z. Rule k record { words = set s.words p z; homes = s.homes; views = set s.views id (looking_after k t p kinds.AbortExchange with_lost) }) (sym (ap (λ b. either b 2 x) (ne_eqb x 0 miss))) m.0,
        (u, word, (λ hit. absurd (miss hit)), (λ _ _. m.1), (λ _ is. let q : Some u ≡ None = sym held ∙ is in absurd cc), (λ _. found_there k t p kinds.AbortExchange with_lost)),
      )) holding)
