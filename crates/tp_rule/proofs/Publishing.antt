-- Publish keeps the rule.
use Rattle.std.proofs.Common.{◌≡◌, ◌≢◌, ℕ, ◌+◌, ◌*◌, ◌-◌, ◌<◌, ◌≤◌, List, [], ◌∷◌, ◌++◌, length, set, get_or, slice_index, sym, refl, ap, ◌∙◌, subst, inl, inr, ⊎_elim, arith, Option, Some, None}
use mathlib.Core.Logic.{dite}
use native.Mathlib.Decide.{ℕ_discrete}
use Rattle.tp_model.specs.declared.event.Event.{Event}
use Rattle.tp_model.specs.declared.event.Event.TheVariants.{Enqueue}
use Rattle.tp_model.specs.declared.trace.StepKind.TheVariants as kinds
use Rattle.tp_model.specs.declared.types.Element.{Element}
use Rattle.tp_model.specs.declared.types.Limits.{Limits}
use Rattle.tp_model.specs.History.{In, UnitEnd, IsUnborn, births, end_of}
use Rattle.tp_model.specs.declared.types.TheConstants.{BODY_WORDS}
use Rattle.tp_model.specs.Steps.{AreLimits, IsBody, Step, rows_of}
use Rattle.tp_model.proofs.Bridges.{born_at, by_own, in_either, in_none, in_one, new_birth, unborn_still}
use Rattle.tp_model.proofs.Lists.{if_other, if_same, option_or-None}
use Rattle.tp_model.proofs.WordProofs.{end_of-snoc}
use Rattle.tp_rule.specs.Places.{Word, HeadWord, BodyWord, ClaimWord, UnitWord, MarkWord, DrawnWord, IsThere, head_place, body_place, place_of, size_of}
use Rattle.tp_rule.specs.declared.bits.TheConstants.{HEAD_TAIL}
use Rattle.tp_rule.specs.Words.{IsFitHead, head_bits, head_of, pack_head, tail_bits}
use Rattle.tp_rule.specs.declared.packing.Head.TheVariants.{Filled}
use Rattle.tp_rule.specs.Doors.{Permits}
use Rattle.tp_rule.specs.Plays.{publishes}
use Rattle.tp_rule.specs.Rule.{HasStage, HasTail, RowsHold, Rule, WordIs, drawn_in}
use Rattle.tp_rule.specs.Steps.{with_birth, next_element, birth, tail_before, HasBodyStored, HasCleared}
use Rattle.tp_rule.specs.declared.view.Known.TheVariants.{RowHead}
use Rattle.tp_rule.specs.Views.{blank_body, hand, next_row}
use Rattle.tp_rule.specs.declared.view.Hand.{Hand}
use Rattle.tp_rule.specs.declared.view.View.{View}
use Rattle.tp_rule.proofs.Blanks.{blank_there}
use Rattle.tp_rule.proofs.Drafting.{empty_behind, full_before, next, next_may, next_own, next_tells, next_there, next_unborn, unwritten_behind}
use Rattle.tp_rule.proofs.Events.{Act, acted, units_own, view_after}
use Rattle.tp_rule.proofs.Frames.{IsMine, Turn, hand_holds, mine_may, seat_holds, spares_more, still_undecided}
use Rattle.tp_rule.proofs.OwnAreas.{areas_on}
use Rattle.tp_rule.proofs.Owning.{own_inside}
use Rattle.tp_model.proofs.Areas.{ascend_wider}
use Rattle.tp_rule.proofs.Parts.{fair_rows}
use Rattle.tp_rule.proofs.Storing.{TailBefore, drawn_rises, full_head, has_full, row_left, stage_left, stored}
use Rattle.tp_rule.proofs.Tellings.{bits_with, body_later, claim_later, head_later, head_told, tail_with, unit_later}
use Rattle.tp_rule.proofs.Units.{decide}

enqueue_quiet : (c : ℕ) (y : Element) (u : ℕ) (w : Option UnitEnd) → decide u w (Enqueue c y) ≡ w
enqueue_quiet c y u w = option_or-None w

-- what the words say after the birth of a client's element whose body is in its row
birth_told : (h : List Event) (c : ℕ) (y : Element) (w : Word) (n : ℕ) → w ≢ HeadWord y.id → ((j : ℕ) → w ≡ BodyWord y.id j → n ≡ slice_index y.body j) → WordIs h w n → WordIs (h ++ Enqueue c y ∷ []) w n
birth_told h c y (HeadWord i) n other body old = head_later h (Enqueue c y) i n (λ x q id. absurd (other (ap HeadWord (sym id ∙ ap (λ (e : Element). e.id) (in_one q))))) old
birth_told h c y (BodyWord i j) n other body old = body_later h (Enqueue c y) i n (λ e. slice_index e.body j)
    (λ x q id. let same = in_one q in body j (ap (λ z. BodyWord z j) (sym id ∙ ap (λ (e : Element). e.id) same)) ∙ ap (λ (e : Element). slice_index e.body j) (sym same)) old
birth_told h c y (ClaimWord i) n other body old = claim_later h (Enqueue c y) i n refl old
birth_told h c y (MarkWord s p) n other body old = tt
birth_told h c y DrawnWord n other body old = tt
birth_told h c y (UnitWord u) n other body old = unit_later h (Enqueue c y) u n (enqueue_quiet c y u _) old

-- the rows right before the next one that the pass published in a stage
run_holds : (ws : List ℕ) (first stage : ℕ) (a : Hand) → HasTail ws first a.next a.tail a.tail_stage → (j : ℕ) → j < a.next → a.next ≤ j + tail_before stage a → (first ≤ j) × HasStage ws stage j
run_holds ws first stage a tail j low up = dite (ℕ_discrete stage a.tail_stage)
    (λ same. let is : tail_before stage a ≡ a.tail = if_same stage a.tail_stage a.tail 0 same in let t = tail j low (omega arith) in (t.0, subst (λ z. HasStage ws z j) (sym same) t.1))
    (λ other. let is : tail_before stage a ≡ 0 = if_other stage a.tail_stage a.tail 0 other in absurd (omega arith))

module _ (k : Limits) (fair : AreLimits k) where
  rows_publish : (h : List Event) (ws : List ℕ) (c first end first_draft row left x : ℕ) (body : List ℕ) (y : Element) (at : IsThere k (HeadWord row)) → end ≤ rows_of k → y.id ≡ row → 0 < left → x ≢ 0 → length ws ≡ size_of k
      → RowsHold h ws first end first_draft row left body [] → RowsHold (h ++ Enqueue c y ∷ []) (set ws (head_place row) x) first end (row + 1) (row + 1) (left - 1) blank_body []
  rows_publish h ws c first end first_draft row left x body y at inside id room some wide r = let count : first_draft + 0 ≡ row = r.counted in let bottom = r.begins in let top = r.ends in record {
    counted = omega arith;
    begins = omega arith;
    ends = omega arith;
    unborn = λ i l m. unborn_still h (Enqueue c y) i (r.unborn i (omega arith) (omega arith)) (λ z n same. let t : z.id ≡ y.id = ap (λ (t : Element). t.id) (in_one n) in absurd (omega arith));
    full = full_before k h ws first end first_draft row left (HeadWord row) x at inside top refl some room wide r.full;
    empty = λ i l m. empty_behind k h ws first end first_draft row left (HeadWord row) x at inside top refl i l (omega arith) r.empty;
    unwritten = λ i l m. unwritten_behind k h ws first end first_draft row left (HeadWord row) x at inside refl top r.unwritten i (omega arith) (omega arith);
    body_whole = refl;
    body_there = λ more. blank_there (set ws (head_place row) x) (row + 1) (unwritten_behind k h ws first end first_draft row left (HeadWord row) x at inside refl top r.unwritten (row + 1) (omega arith) (omega arith));
    run = tt;
    written = λ z q. absurd (in_none q);
  }

  pub births_go : (v : View) (p x stage run : ℕ) → HasBodyStored v → (hand v).drafts ≡ [] → 0 < (hand v).left → p ≡ head_place (hand v).next
      → x ≡ pack_head (Filled stage (next_row v) None) + HEAD_TAIL * run → run < 65536 → run ≤ tail_before stage (hand v) → 1 ≤ stage → stage ≤ 14 → HasCleared v
      → Permits k v p (λ _. x) (λ _ w. publishes p x 0 v x w)
  births_go v p x stage run ready none_yet room place is few_run short pos top cleared s r id at = let t : Turn k = record { state = s; rule = r; id = id; view = v; at = at; one = ready.0 } in let t0 : Turn k = t in let a : Hand = hand v in let y : Element = next_element v stage (next_row v) None in let e : Event = birth v stage in let h = r.history in
      let mine = hand_holds k t in let row : ℕ = next k t room in let w : Word = HeadWord row in
      let here : y.id ≡ row = refl in
      let all : row < rows_of k = next_there k t room in let few : rows_of k ≤ 10240 = fair_rows k fair in
      let rows : RowsHold h s.words mine.first mine.end a.first_draft a.next a.left a.next_body [] = subst (λ l. RowsHold h s.words mine.first mine.end a.first_draft a.next a.left a.next_body l) none_yet mine.rows in
      let st : Step k h e = record { row = mine_may k t row (next_own k t room); unborn = subst (λ z. IsUnborn h z) (sym here) (next_unborn k t room); stage = (pos, omega arith); body = ready.1; root = refl; by = refl } in
      let whole : IsBody y.body = ready.1 in let fits : IsFitHead (head_of y) = (pos, omega arith, omega arith, omega arith) in
      let bits : head_bits x ≡ pack_head (head_of y) = ap head_bits is ∙ bits_with (head_of y) run fits in let long : tail_bits x ≡ run = ap tail_bits is ∙ tail_with (head_of y) run fits in
      let before : TailBefore s.words x row = λ st named j low up. (let same : Filled st named.0 named.1 ≡ head_of y = head_told (Filled st named.0 named.1) (head_of y) named.2 fits (sym named.3 ∙ bits) in let one : stage ≡ st = cc in
      subst (λ z. HasStage s.words z j) one (run_holds s.words mine.first stage a mine.tail j low (omega arith)).1) in
      let may = next_may k t room w x refl (λ _ _. before) in
      let body : (j : ℕ) → j < BODY_WORDS → get_or s.words (body_place row j) 0 ≡ slice_index y.body j = λ j less. mine.rows.body_there room j (omega arith) in
      let now = new_birth h a.number y st.unborn in let births_own : (z : Element) → In z (births e) → IsMine k t z.id = λ z q. subst (λ (n : Element). IsMine k t n.id) (sym (in_one q)) (next_own k t room) in
      let act : Act k t = record {
        event = e;
        word = w;
        number = x;
        kind = kinds.Publish;
        f = with_birth stage run e;
        stays = λ z. (refl, refl);
        own = refl;
        step = st;
        there = next_there k t room;
        told = record {
          head = head_of y;
          packed = bits;
          fit = fits;
          bare = λ q. absurd cc;
          born = λ z q. let b = born_at (h ++ e ∷ []) row y now here in let same : y ≡ z = cc in ap head_of same;
          draft = λ un. let b = born_at (h ++ e ∷ []) row y now here in absurd cc;
        };
        rest = λ z there other. birth_told h a.number y z (get_or s.words (place_of k z) 0) (λ q. other (q ∙ ap HeadWord here))
            (λ j q. ap (λ b. get_or s.words (place_of k b) 0) (q ∙ ap (λ i. BodyWord i j) here) ∙ body j (subst (IsThere k) q there).1) (r.world.tells z there);
        may = may;
        unmarked = λ s z q. cc;
        uncounted = λ q. cc;
        tells_own = next_tells k t room w refl;
        births_own = births_own;
        mine = record {
          given = mine.given;
          mine = ap (λ l. l ++ e ∷ []) mine.mine ∙ sym (by_own a.number h e refl);
          blocks = ascend_wider 0 (drawn_in k s.words) (drawn_in k (set s.words (place_of k w) x)) a.blocks (drawn_rises k s.words w x all r.world.wide may) mine.blocks;
          spares = spares_more k t e births_own;
          first = mine.first;
          end = mine.end;
          area = mine.area;
          rows = rows_publish h s.words a.number mine.first mine.end a.first_draft a.next a.left x a.next_body y all (own_inside k a.number a.blocks mine.first mine.end mine.area) here room (λ z. full_head (head_of y) (λ q. cc) (sym bits ∙ ap head_bits z)) r.world.wide rows;
          tail = λ j low up. let less : j < a.next + 1 = low in let more : a.next + 1 ≤ j + (run + 1) = up in dite (ℕ_discrete j row)
              (λ same. (let at = (next_own k t room).0 in omega arith, subst (λ z. HasStage (set s.words (place_of k w) x) stage z) (sym same) (next_row v, None, fits, ap head_bits (stored k s.words w x all r.world.wide) ∙ bits)))
              (λ apart. let old = run_holds s.words mine.first stage a mine.tail j (omega arith) (omega arith) in (old.0, stage_left k s.words w x all r.world.wide may stage j (omega arith) old.1));
          units = units_own k h e a.number a.claimed a.spare_unit a.open_unit (enqueue_quiet a.number y) (λ d u i n z. cc) (λ d u z. cc) mine.units;
          areas = areas_on k h (h ++ e ∷ []) s.words (set s.words (place_of k w) x) a (with_birth stage run e a) (record {
            own = λ first end own. own;
            top = (let full = room in omega arith);
            passed = (refl, refl);
            heads = λ first end i own low high. let top = own_inside k a.number a.blocks first end own in dite (ℕ_discrete row i)
                (λ same. let now : get_or (set s.words (place_of k w) x) (head_place i) 0 ≡ x = subst (λ z. get_or (set s.words (place_of k w) x) (head_place z) 0 ≡ x) same (stored k s.words w x all r.world.wide) in inr (
                  λ zero. full_head (head_of y) (λ q. cc) (sym bits ∙ ap head_bits (sym now ∙ zero)),
                  λ st rt u named. let q : Filled st rt (Some u) ≡ head_of y = head_told (Filled st rt (Some u)) (head_of y) named.0 fits (sym named.1 ∙ (ap head_bits now ∙ bits)) in absurd cc,
                ))
                (λ other. inl (row_left k s.words w x all i (omega arith) (λ q. other (let r : Some row ≡ Some i = q in cc))).0);
            undecided = still_undecided h e;
            committed = λ i u from count is. inl (sym (enqueue_quiet a.number y u (end_of h u)) ∙ (sym (end_of-snoc h e u) ∙ is));
            drafts = λ i u low high is un. let count : a.first_draft + 0 ≡ a.next = rows.counted in absurd (omega arith);
            made = λ first end i d z own low high p made past. ⊎_elim (λ q. inl q)
                (λ q. let made_y = subst (λ (g : Event). In z (births g)) (in_one q) made in let at_row : z.id ≡ row = ap (λ (g : Element). g.id) (in_one made_y) in
                let top = own_inside k a.number a.blocks first end own in let same_head = (row_left k s.words w x all i (omega arith) (λ b. let r : Some row ≡ Some i = b in let same : row ≡ i = cc in omega arith)).0 in
                inr (λ none. ⊎_elim (λ some. some (sym same_head ∙ none))
                (λ t. let c = cleared i t.0 t.1 in let still = (seat_holds k t0).known (RowHead i c.0) c.2 in has_full s.words i c.0 c.1 (still.2 c.1) (sym same_head ∙ none))
                (mine.areas.cleared first end i own (λ same. (let full = room in omega arith)) low high))) (in_either a.mine (e ∷ []) p);
          }) mine.areas;
        };
      } in let done = acted k t act in (
        view_after k t act,
        subst (λ q. Rule k record { words = set s.words q x; homes = s.homes; views = set s.views id (view_after k t act) }) (sym place) done.0,
        (stage, run, omega arith, few_run, is, done.1),
      )
