-- Draft stores keep the rule.
use Rattle.std.proofs.Common.{◌≡◌, ℕ, ◌+◌, ◌-◌, ◌<◌, ◌≤◌, ◌≢◌, List, [], ◌∷◌, ◌++◌, length, set, get_or, slice_index, sym, refl, ap, ◌∙◌, subst, inl, inr, ⊎_elim, arith, length-append, length-set, get_or-set_other, get_or-set_same, Some, None}
use mathlib.Core.Logic.{dite}
use native.Mathlib.Decide.{ℕ_discrete}
use Rattle.tp_model.specs.declared.event.Event.{Event}
use Rattle.tp_model.specs.declared.trace.StepKind.TheVariants as kinds
use Rattle.tp_model.specs.declared.types.Element.{Element}
use Rattle.tp_model.specs.declared.types.Limits.{Limits}
use Rattle.tp_model.specs.History.{In, IsUnborn, element_of, Committed, end_of}
use Rattle.tp_model.specs.declared.types.TheConstants.{BODY_WORDS}
use Rattle.tp_model.specs.Steps.{IsBody, block_first, rows_of}
use Rattle.tp_model.proofs.Bridges.{begins_refl, in_either, in_one}
use Rattle.tp_rule.specs.Places.{Word, HeadWord, BodyWord, IsThere, head_place, body_place, place_of, size_of}
use Rattle.tp_rule.specs.Words.{head_bits, head_of, pack_head, tail_bits, IsFitHead}
use Rattle.tp_rule.specs.declared.packing.Head.TheVariants.{Filled}
use Rattle.tp_rule.specs.Doors.{Permits}
use Rattle.tp_rule.specs.Plays.{stores_word, stores_head}
use Rattle.tp_rule.specs.Rule.{HandHolds, Holds, IsUnwritten, RowsHold, Rule, WordIs, drawn_in}
use Rattle.tp_rule.specs.Steps.{drafted, with_word, with_draft, next_element, HasBodyStored}
use Rattle.tp_rule.specs.Views.{IsOnePass, blank_body, hand}
use Rattle.tp_rule.specs.declared.view.Hand.{Hand}
use Rattle.tp_rule.specs.declared.view.View.{View}
use Rattle.tp_rule.proofs.Blanks.{blank_there}
use Rattle.tp_rule.proofs.OwnAreas.{areas_event, areas_on}
use Rattle.tp_rule.proofs.Frames.{IsMine, Stays, Turn, draws_still, hand_holds, hand_quiet, holds_still, me, mine_alone, mine_inside, moved, seat_holds}
use Rattle.tp_rule.proofs.Owning.{own_drawn, own_inside}
use Rattle.tp_rule.proofs.Parts.{in_run, run_snoc}
use Rattle.tp_model.proofs.Areas.{ascend_wider, one_area, own_area}
use Rattle.tp_rule.proofs.Storing.{MayHead, MayStore, TailBefore, body_row, drawn_left, drawn_rises, full_head, holds_same, left, row_left, still_left, stored, tail_same}
use Rattle.tp_rule.proofs.Tellings.{bits_alone, head_told, tail_alone, world_stored}

-- a word of a body is no head, and is one of its body alone
no_head : (i j n : ℕ) → BodyWord i j ≢ HeadWord n
no_head i j n e = cc

same_word : (i j n m : ℕ) → BodyWord i j ≡ BodyWord n m → j ≡ m
same_word i j n m e = cc

module _ (k : Limits) where
  -- a store to a word of the row that a pass draws next, whose run lies in the area from row `first` up to `end`
  module _ (h : List Event) (ws : List ℕ) (first end first_draft row rest : ℕ) (w : Word) (x : ℕ) (at : IsThere k w) (inside : end ≤ rows_of k) where
    abbrev stored_words : List ℕ
    stored_words = set ws (place_of k w) x

    -- leaves the drafts, which are after it
    pub drafts_stay : (body : List ℕ) (ds : List Element) → body_row w ≡ Some row → 0 < rest → RowsHold h ws first end first_draft row rest body ds → (e : Element) → In e ds → Holds stored_words e
    drafts_stay body ds is room r e q = let b = in_run first_draft ds e r.run q in let low = b.0 in let high = b.1 in let count = r.counted in let top = r.ends in
        holds_same ws stored_words e (row_left k ws w x at e.id (omega arith) (λ z. let same : e.id ≡ row = cc in omega arith)) (r.written e q)

    -- and the heads of the other rows, if it isn't theirs
    head_left : (i : ℕ) → w ≢ HeadWord i → i < end → get_or stored_words (head_place i) 0 ≡ get_or ws (head_place i) 0
    head_left i other below = left k ws w x at (HeadWord i) (omega arith) (λ e. other (sym e))

    heads_left : (i : ℕ) → w ≢ HeadWord i → i < end → get_or ws (head_place i) 0 ≡ 0 → get_or stored_words (head_place i) 0 ≡ 0
    heads_left i other below empty = head_left i other below ∙ empty

    -- no word of a body after it is stored
    pub unwritten_behind : body_row w ≡ Some row → row + rest ≡ end → ((i : ℕ) → row + 1 ≤ i → i < row + rest → IsUnwritten ws i)
        → (i : ℕ) → row + 1 ≤ i → i < row + rest → IsUnwritten stored_words i
    unwritten_behind is top old i low high j few =
        left k ws w x at (BodyWord i j) (omega arith, few) (λ e. let same : Some i ≡ Some row = ap body_row e ∙ is in let q : i ≡ row = cc in omega arith) ∙ old i low high j few

    word_stored : (m : ℕ) (body : List ℕ) (ds : List Element) → w ≡ BodyWord row m → 0 < rest → length ws ≡ size_of k → RowsHold h ws first end first_draft row rest body ds
        → RowsHold h stored_words first end first_draft row rest (set body m x) ds
    word_stored m body ds is room wide r = let count = r.counted in let bottom = r.begins in let top = r.ends in let own : row < rows_of k = omega arith in let at_word : IsThere k (BodyWord row m) = subst (IsThere k) is at in let few = at_word.1 in record {
      counted = r.counted;
      begins = r.begins;
      ends = r.ends;
      unborn = r.unborn;
      full = λ i l n z. r.full i l n (sym (head_left i (λ e. no_head row m i (sym is ∙ e)) (omega arith)) ∙ z);
      empty = λ i l n. heads_left i (λ e. no_head row m i (sym is ∙ e)) (omega arith) (r.empty i l n);
      unwritten = unwritten_behind (ap body_row is) top r.unwritten;
      body_whole = length-set body m x ∙ r.body_whole;
      body_there = λ _ j less. let long = length-set body m x in let whole = r.body_whole in dite (ℕ_discrete j m)
          (λ e. ap (λ z. get_or stored_words (body_place row z) 0) e ∙ (ap (λ z. get_or stored_words (place_of k z) 0) (sym is) ∙ (stored k ws w x at wide ∙ (sym (get_or-set_same body m x 0 (omega arith)) ∙ ap (λ z. get_or (set body m x) z 0) (sym e)))))
          (λ ne. left k ws w x at (BodyWord row j) (own, omega arith) (λ e. ne (same_word row j row m (e ∙ is)))
          ∙ (r.body_there room j (omega arith) ∙ sym (get_or-set_other body m j x 0 ne)));
      run = r.run;
      written = drafts_stay body ds (ap body_row is) room r;
    }

    -- the row that is drawn has its body and its head
    pub row_full : (body : List ℕ) (ds : List Element) (e : Element) → w ≡ HeadWord row → e.id ≡ row → body ≡ e.body → IsBody body → head_bits x ≡ pack_head (head_of e) → 0 < rest → length ws ≡ size_of k
        → RowsHold h ws first end first_draft row rest body ds → Holds stored_words e
    row_full body ds e is id same whole head room wide r = let count = r.counted in let bottom = r.begins in let top = r.ends in let own : row < rows_of k = omega arith in let e_whole : IsBody e.body = subst IsBody same whole in (
      ap head_bits (ap (λ z. get_or stored_words (head_place z) 0) id ∙ (ap (λ z. get_or stored_words (place_of k z) 0) (sym is) ∙ stored k ws w x at wide)) ∙ head,
      λ j less. ap (λ z. get_or stored_words (body_place z j) 0) id ∙ (left k ws w x at (BodyWord row j) (own, omega arith) (λ e. no_head row j row (sym (sym is ∙ sym e)))
          ∙ (r.body_there room j (subst (λ z. j < length z) (sym same) less) ∙ ap (λ z. get_or z j 0) same)),
      e_whole,
    )

    -- no head after it is stored
    pub empty_behind : row + rest ≡ end → w ≡ HeadWord row → (i : ℕ) → row + 1 ≤ i → i < row + rest → ((j : ℕ) → row ≤ j → j < row + rest → get_or ws (head_place j) 0 ≡ 0) → get_or stored_words (head_place i) 0 ≡ 0
    empty_behind top is i low high empty = heads_left i (λ e. let q : HeadWord row ≡ HeadWord i = sym is ∙ e in let same : row ≡ i = cc in omega arith) (omega arith) (empty i (omega arith) high)

    -- and so it and all before it have heads
    pub full_before : row + rest ≡ end → w ≡ HeadWord row → x ≢ 0 → 0 < rest → length ws ≡ size_of k → ((j : ℕ) → first ≤ j → j < row → get_or ws (head_place j) 0 ≢ 0)
        → (i : ℕ) → first ≤ i → i < row + 1 → get_or stored_words (head_place i) 0 ≢ 0
    full_before top is some room wide full i low high none = dite (ℕ_discrete i row)
        (λ e. some (sym (stored k ws w x at wide) ∙ (ap (λ z. get_or stored_words (place_of k z) 0) is ∙ (ap (λ z. get_or stored_words (head_place z) 0) (sym e) ∙ none))))
        (λ ne. full i low (omega arith) (sym (head_left i (λ e. let q : HeadWord row ≡ HeadWord i = sym is ∙ e in ne cc) (omega arith)) ∙ none))

    draft_stored : (body : List ℕ) (ds : List Element) (e : Element) → w ≡ HeadWord row → e.id ≡ row → body ≡ e.body → IsBody body → head_bits x ≡ pack_head (head_of e) → 0 < rest → length ws ≡ size_of k
        → RowsHold h ws first end first_draft row rest body ds → RowsHold h stored_words first end first_draft (row + 1) (rest - 1) blank_body (ds ++ e ∷ [])
    draft_stored body ds e is id same whole head room wide r = let count = r.counted in let bottom = r.begins in let top = r.ends in record {
      counted = omega (arith, length-append ds (e ∷ []));
      begins = bottom;
      ends = omega arith;
      unborn = λ i l m. r.unborn i l (omega arith);
      full = full_before top is (λ z. full_head (head_of e) (λ q. cc) (sym head ∙ ap head_bits z)) room wide r.full;
      empty = λ i l m. empty_behind top is i l (omega arith) r.empty;
      unwritten = λ i l m. unwritten_behind (ap body_row is) top r.unwritten i (omega arith) (omega arith);
      body_whole = refl;
      body_there = λ more. blank_there stored_words (row + 1) (unwritten_behind (ap body_row is) top r.unwritten (row + 1) (omega arith) (omega arith));
      run = run_snoc first_draft ds e r.run (omega arith);
      written = λ y q. ⊎_elim (λ o. drafts_stay body ds (ap body_row is) room r y o) (λ n. subst (Holds stored_words) (sym (in_one n)) (row_full body ds e is id same whole head room wide r)) (in_either ds (e ∷ []) q);
    }

  module _ (t : Turn k) (room : 0 < (me k t).left) where
    abbrev pub next : ℕ
    next = (me k t).next

    pub next_own : IsMine k t next
    next_own = let r = (hand_holds k t).rows in let count = r.counted in let bottom = r.begins in let top = r.ends in (omega arith, omega arith)

    pub next_there : next < rows_of k
    next_there = mine_inside k t next next_own

    pub next_unborn : IsUnborn t.rule.history next
    next_unborn = let count = (hand_holds k t).rows.counted in (hand_holds k t).rows.unborn next (omega arith) (omega arith)

    pub next_empty : get_or t.state.words (head_place next) 0 ≡ 0
    next_empty = (hand_holds k t).rows.empty next (omega arith) (omega arith)

    next_drawn : next < block_first k (drawn_in k t.state.words)
    next_drawn = let r = hand_holds k t in let high = next_own.1 in let top = own_drawn k (me k t).number (drawn_in k t.state.words) (me k t).blocks r.first r.end r.blocks r.area in omega arith

    -- its head may be stored
    next_head : (x : ℕ) → TailBefore t.state.words x next → MayHead k t.state.words x next
    next_head x before = let r = hand_holds k t in let low = next_own.0 in let high = next_own.1 in record {
      empty = next_empty;
      tail = before;
      full = λ _ first end j area from to low' less. (let same = one_area k first end r.first r.end next area (own_area k (me k t).number (me k t).blocks r.first r.end r.area) from to low high in
          r.rows.full j (subst (λ z. z ≤ j) same.0 low') less);
      drawn = next_drawn;
    }

    row_is_next : (w : Word) (i : ℕ) → body_row w ≡ Some next → body_row w ≡ Some i → next ≡ i
    row_is_next w i is at = let q : Some next ≡ Some i = sym is ∙ at in cc

    -- and so may each word of it
    pub next_may : (w : Word) (x : ℕ) → body_row w ≡ Some next → ((i : ℕ) → w ≡ HeadWord i → TailBefore t.state.words x next) → MayStore k t.state.words w x
    next_may w x is before = record {
      head = λ i e. subst (MayHead k t.state.words x) (row_is_next w i is (ap body_row e)) (next_head x (before i e));
      mark = λ s p e. let q : None ≡ Some next = sym (ap body_row e) ∙ is in absurd cc;
      count = λ e. let q : None ≡ Some next = sym (ap body_row e) ∙ is in absurd cc;
      word = λ i j e. subst (λ z. z < block_first k (drawn_in k t.state.words)) (row_is_next w i is (ap body_row e)) next_drawn;
    }

    pub next_tells : (w : Word) → body_row w ≡ Some next → (i : ℕ) → body_row w ≡ Some i → IsMine k t i
    next_tells w is i at = subst (IsMine k t) (row_is_next w i is at) next_own

    -- a store to a word of the row that the pass draws next, of which the history says nothing
    stores : (w : Word) (x : ℕ) → IsThere k w → body_row w ≡ Some next → ((i : ℕ) → w ≡ HeadWord i → TailBefore t.state.words x next) → WordIs t.rule.history w x → (f : Hand → Hand) → Stays k t f
        → HandHolds k t.rule.history (set t.state.words (place_of k w) x) (f (me k t))
        → Rule k record { words = set t.state.words (place_of k w) x; homes = t.state.homes; views = set t.state.views t.id (drafted f t.view) }
    stores w x at is before told f stays mine = let h = t.rule.history in let ws = t.state.words in let may = next_may w x is before in moved k t record {
      kind = kinds.DraftStore;
      f = f;
      seen = t.view.seen;
      history = h;
      words = set ws (place_of k w) x;
      owner = t.rule.owner;
      stays = λ z. (stays z).0;
      begins = (seat_holds k t).seen;
      grows = begins_refl h;
      world = world_stored k h h ws w x t.rule.world t.rule.world.legal (begins_refl h) at told (λ v there other. t.rule.world.tells v there) may (λ s p e. let q : None ≡ Some next = sym (ap body_row e) ∙ is in absurd cc);
      mine = mine;
      others = λ b ne draws hold. hand_quiet k h ws (set ws (place_of k w) x) b (drawn_rises k ws w x at t.rule.world.wide may) hold
          (λ first end i own low high. let top = own_inside k b.number b.blocks first end own in row_left k ws w x at i (omega arith) (λ q. mine_alone k t b ne draws first end i own (next_tells w is i q) low high));
      known = t.view.known;
      knows = λ z q. still_left k ws w x at t.rule.world.wide may z ((seat_holds k t).known z q);
      still = still_left k ws w x at t.rule.world.wide may;
      same = λ c. refl;
      draws = draws_still k t f stays;
      drew = λ b ne hold draws. draws;
      raised = λ b below. inl (drawn_left k ws w x at (λ e. let q : None ≡ Some next = sym (ap body_row e) ∙ is in absurd cc) b below);
      holds = holds_still k t f stays;
    }

  unborn_told : (h : List Event) (row : ℕ) (x : ℕ) (part : Element → ℕ) → IsUnborn h row → (e : Element) → element_of h row ≡ Some e → x ≡ part e
  unborn_told h row x part un e p = let q : None ≡ Some e = sym un ∙ p in absurd cc

  pub words_go : (v : View) (p x m : ℕ) → IsOnePass v → 0 < (hand v).left → m < BODY_WORDS → p ≡ body_place (hand v).next m
      → Permits k v p (λ _. x) (λ _ w. stores_word p x 0 v x w)
  words_go v p x m one room less place s r id at = let t : Turn k = record { state = s; rule = r; id = id; view = v; at = at; one = one } in let a : Hand = hand v in let b = hand_holds k t in let w : Word = BodyWord (next t room) m in (
    drafted (with_word m x) v,
    subst (λ q. Rule k record { words = set s.words q x; homes = s.homes; views = set s.views id (drafted (with_word m x) v) }) (sym place)
        (stores t room w x (next_there t room, less) refl (λ i e. absurd cc) (unborn_told r.history (next t room) x (λ e. slice_index e.body m) (next_unborn t room)) (with_word m x) (λ z. (refl, refl)) record {
          given = b.given;
          mine = b.mine;
          blocks = ascend_wider 0 (drawn_in k s.words) (drawn_in k (set s.words (place_of k w) x)) a.blocks (drawn_rises k s.words w x (next_there t room, less) r.world.wide (next_may t room w x refl (λ i e. absurd cc))) b.blocks;
          spares = b.spares;
          first = b.first;
          end = b.end;
          area = b.area;
          rows = word_stored r.history s.words b.first b.end a.first_draft a.next a.left w x (next_there t room, less) (own_inside k a.number a.blocks b.first b.end b.area) m a.next_body a.drafts refl room r.world.wide b.rows;
          tail = tail_same s.words (set s.words (place_of k w) x) b.first b.end a.next a.left a.tail a.tail_stage b.rows.ends
              (λ i low high. let top = own_inside k a.number a.blocks b.first b.end b.area in left k s.words w x (next_there t room, less) (HeadWord i) (omega arith) (λ e. no_head (next t room) m i (sym e))) b.tail;
          units = b.units;
          areas = areas_event k r.history r.history s.words (set s.words (place_of k w) x) a (with_word m x a) (λ u from count is. is) (λ first end own. own) refl (refl, refl)
              (λ first end i own low high. let top = own_inside k a.number a.blocks first end own in left k s.words w x (next_there t room, less) (HeadWord i) (omega arith) (λ e. no_head (next t room) m i (sym e)))
              (λ u un. un) (λ i u low high is un. (low, high, is)) (λ d y p made. p) b.areas;
        }),
    (next t room, m, less, place, refl),
  )

  pub heads : (v : View) (p x stage root u : ℕ) → HasBodyStored v → 0 < (hand v).left → p ≡ head_place (hand v).next
      → x ≡ pack_head (Filled stage root (Some u)) → 1 ≤ stage → stage ≤ 15 → root < 65536 → u < 65535 → (hand v).open_unit ≡ Some u
      → Permits k v p (λ _. x) (λ _ w. stores_head p x 0 v x w)
  heads v p x stage root u ready room place is pos top low small held s r id at = let t : Turn k = record { state = s; rule = r; id = id; view = v; at = at; one = ready.0 } in let a : Hand = hand v in let b = hand_holds k t in let e : Element = next_element v stage root (Some u) in
      let here : e.id ≡ next t room = refl in let w : Word = HeadWord (next t room) in let fits : IsFitHead (Filled stage root (Some u)) = (pos, top, omega arith, omega arith) in
      let bits : head_bits x ≡ pack_head (Filled stage root (Some u)) = ap head_bits is ∙ bits_alone (Filled stage root (Some u)) fits in let alone : tail_bits x ≡ 0 = ap tail_bits is ∙ tail_alone (Filled stage root (Some u)) fits in
      let before : TailBefore s.words x (next t room) = λ st named j low up. absurd (omega arith) in (
        drafted (with_draft e) v,
        subst (λ q. Rule k record { words = set s.words q x; homes = s.homes; views = set s.views id (drafted (with_draft e) v) }) (sym place)
            (stores t room w x (next_there t room) refl (λ _ _. before) record {
              head = Filled stage root (Some u);
              packed = bits;
              fit = fits;
              bare = λ e. absurd cc;
              born = λ y p. let q : None ≡ Some y = sym (next_unborn t room) ∙ p in absurd cc;
              draft = λ _ none. absurd cc;
            } (with_draft e) (λ z. (refl, refl)) record {
              given = b.given;
              mine = b.mine;
              blocks = ascend_wider 0 (drawn_in k s.words) (drawn_in k (set s.words (place_of k w) x)) a.blocks (drawn_rises k s.words w x (next_there t room) r.world.wide (next_may t room w x refl (λ _ _. before))) b.blocks;
              spares = b.spares;
              first = b.first;
              end = b.end;
              area = b.area;
              rows = draft_stored r.history s.words b.first b.end a.first_draft a.next a.left w x (next_there t room) (own_inside k a.number a.blocks b.first b.end b.area) a.next_body a.drafts e refl here refl ready.1 bits room r.world.wide b.rows;
              tail = λ j low up. let less : j < a.next + 1 = low in let more : a.next + 1 ≤ j + 0 = up in absurd (omega arith);
              units = b.units;
              areas = areas_on k r.history r.history s.words (set s.words (place_of k w) x) a (with_draft e a) (record {
                own = λ first end own. own;
                top = (let full = room in omega arith);
                passed = (refl, refl);
                heads = λ first end i own low high. let last = own_inside k a.number a.blocks first end own in dite (ℕ_discrete (next t room) i)
                    (λ same. let now : get_or (set s.words (place_of k w) x) (head_place i) 0 ≡ x = subst (λ z. get_or (set s.words (place_of k w) x) (head_place z) 0 ≡ x) same (stored k s.words w x (next_there t room) r.world.wide) in inr (
                      λ zero. full_head (Filled stage root (Some u)) (λ q. cc) (sym is ∙ (sym now ∙ zero)),
                      λ st rt z named. let q : Filled st rt (Some z) ≡ Filled stage root (Some u) = head_told (Filled st rt (Some z)) (Filled stage root (Some u)) named.0 fits (sym named.1 ∙ (ap head_bits now ∙ bits)) in let one : z ≡ u = cc in
                          (let count = b.rows.counted in omega arith, omega arith, held ∙ ap Some (sym one), λ from count is2. (b.units.open_own u held).uncommitted from count (subst (λ q. end_of r.history q ≡ Some (Committed from count)) one is2)),
                    ))
                    (λ other. inl (left k s.words w x (next_there t room) (HeadWord i) (omega arith) (λ e. other (let q : HeadWord i ≡ HeadWord (next t room) = e in cc))));
                undecided = λ z un. un;
                committed = λ i z from count is2. inl is2;
                drafts = λ i z low high is un. (low, omega arith, is);
                made = λ first end i d y own low high p made past. inl p;
              }) b.areas;
            }),
        (stage, root, u, top, low, is, refl),
      )
