-- The counter of drawn blocks is loaded, and a block is drawn.
use Rattle.tp_rule.specs.declared.packing.Head.TheVariants.{Filled}
use Rattle.std.proofs.Common.{◌≡◌, ◌≢◌, ℕ, ◌+◌, ◌<◌, ◌≤◌, eqb, cond, List, [], ◌∷◌, ◌++◌, set, get_or, sym, refl, ap, ◌∙◌, subst, inl, inr, ⊎_elim, arith, eq-eqb, ne_eqb, length, ◌⊎◌, Some}
use mathlib.Core.Logic.{dite}
use mathlib.Core.Option.{some, some-injective}
use native.Mathlib.Decide.{ℕ_discrete, dec_le}
use prog.Atomic.{either}
use lib.ListN.{get_elem?}
use lib.Seq.{set-get_or}
use Rattle.tp_model.specs.declared.event.Event.{Event}
use Rattle.tp_model.specs.declared.trace.StepKind.TheVariants as kinds
use Rattle.tp_model.specs.declared.types.Element.{Element}
use Rattle.tp_model.specs.declared.types.Limits.{Limits}
use Rattle.tp_model.specs.declared.types.TheConstants.{BLOCK_ROWS}
use Rattle.tp_model.specs.History.{In, here, there, IsUnborn, births}
use Rattle.tp_model.specs.Passes.{Ascend, IsRun, IsOwnArea}
use Rattle.tp_model.specs.Steps.{IsRowOfBlock, block_first, rows_of}
use Rattle.tp_model.proofs.Areas.{ascend_in, ascend_more, ascend_wider, block_before}
use Rattle.tp_model.proofs.Bridges.{begins_refl, in_cons, in_either, in_here, in_left, in_none, in_one, in_right}
use Rattle.tp_rule.specs.Places.{DrawnWord, drawn_place, head_place}
use Rattle.tp_rule.specs.Doors.{Permits}
use Rattle.tp_rule.specs.Plays.{draws, loads_drawn}
use Rattle.tp_rule.specs.Rule.{AreasHold, HandHolds, IsUnwritten, Owners, RowsHold, Rule, StillSo, World, drawn_in}
use Rattle.tp_rule.specs.Steps.{NoneDrawn, Shares, after, drew, noted, unchanged, with_block, HasCleared}
use Rattle.tp_rule.specs.Views.{HasPass, IsOnePass, blank_body, hand}
use Rattle.tp_rule.specs.declared.view.Hand.{Hand}
use Rattle.tp_rule.specs.declared.view.Known.{Known}
use Rattle.tp_rule.specs.declared.view.Known.TheVariants.{BlocksDrawn, RowHead}
use Rattle.tp_rule.specs.declared.view.View.{View}
use Rattle.tp_rule.proofs.Blanks.{blank_there}
use Rattle.tp_rule.proofs.Frames.{Turn, hand_holds, hand_quiet, limits_are, mine_drawn, moved, seat_holds}
use Rattle.tp_rule.proofs.Owning.{S, own_drawn, own_in, own_inside, undrawn_for, unborn_earlier}
use Rattle.tp_rule.proofs.Ahead.{its_row}
use Rattle.tp_rule.proofs.Reading.{one_after}
use Rattle.tp_rule.proofs.Seats.{in_map, in_map_to, looks_knowing}
use Rattle.tp_rule.specs.Words.{head_bits}
use Rattle.tp_rule.proofs.Storing.{MayStore, drawn_rises, has_full, row_left, still_left, stored}
use Rattle.tp_rule.proofs.Tellings.{empty_unborn, world_stored}

module _ (k : Limits) where
  -- nothing is born in blocks that aren't drawn
  undrawn_unborn : (h : List Event) (ws : List ℕ) → World k h ws → NoneDrawn k h (drawn_in k ws)
  undrawn_unborn h ws world i low high = empty_unborn k h ws world i high (world.bare i low high)

  -- the blocks below the counter are the passes' of all seats
  shares : (s : S) (r : Rule k s) (id : ℕ) (v : View) → v.limits ≡ k → get_elem? s.views id ≡ some v → Shares (drawn_in k s.words) v
  shares s r id v lim at = let seat = r.seats id v at in record {
    below = λ a p. (seat.hands a p).blocks;
    alone = λ a a' b p p' has has'. sym (seat.draws a p b has) ∙ seat.draws a' p' b has';
    all = λ whole b less.
        let t = r.drawers b less in
        let there = r.seats t.0 t.1 t.3 in
        let given : t.2.number < v.limits.parts = subst (λ (l : Limits). t.2.number < l.parts) (sym lim) (there.hands t.2 t.4).given in
        let m = whole t.2.number given in
        let same : t.0 ≡ id = sym (there.owns t.2 t.4) ∙ (ap r.owner.seat (sym m.2) ∙ seat.owns m.0 m.1) in
        let is : t.1 ≡ v = some-injective t.1 v (sym t.3 ∙ (ap (get_elem? s.views) same ∙ at)) in
        (t.2, subst (λ (z : View). In t.2 z.hands) is t.4, t.5);
  }

  shares_after : (n : ℕ) (v : View) (seen : List Event) (known : List Known) → Shares n v → Shares n (after kinds.Load unchanged seen known v)
  shares_after n v seen known r = let g : Hand → Hand = noted kinds.Load seen in record {
    below = λ a p. let q = in_map g a v.hands p in subst (λ (z : Hand). Ascend 0 n z.blocks) (sym q.2) (r.below q.0 q.1);
    alone = λ a a' b p p' has has'.
        let q = in_map g a v.hands p in
        let q' = in_map g a' v.hands p' in
        ap (λ (z : Hand). z.number) q.2 ∙ (r.alone q.0 q'.0 b q.1 q'.1 (subst (λ (z : Hand). In b z.blocks) q.2 has) (subst (λ (z : Hand). In b z.blocks) q'.2 has') ∙ ap (λ (z : Hand). z.number) (sym q'.2));
    all = λ whole b less.
        let t = r.all (λ c given. let m = whole c given in let q = in_map g m.0 v.hands m.1 in (q.0, q.1, ap (λ (z : Hand). z.number) (sym q.2) ∙ m.2)) b less in
        (g t.0, in_map_to g t.1, t.2);
  }

  -- the load of the counter, which the seat remembers
  pub looks_drawn : (v : View) → HasPass v → v.limits ≡ k → Permits k v (drawn_place k) (λ n. n) (loads_drawn (drawn_place k) 0 0 v)
  looks_drawn v has lim s r id at = let n : ℕ = drawn_in k s.words in let known : List Known = BlocksDrawn n ∷ v.known in let seat = r.seats id v at in
      let so : (z : Known) → In z known → StillSo k s.words z = λ z q. ⊎_elim (λ e. subst (StillSo k s.words) (sym e) (omega arith)) (λ o. seat.known z o) (in_cons q) in
      let t = looks_knowing k v (drawn_place k) has s r id at known so (λ z q. there q) in (
        after kinds.Load unchanged r.history known v,
        t.0,
        (
          t.1,
          λ is. (
            here,
            subst (λ (l : Limits). n ≤ l.spare) (sym lim) r.world.drawn,
            subst (λ (l : Limits). NoneDrawn l r.history n) (sym lim) (undrawn_unborn r.history s.words r.world),
            λ m known_m. seat.known (BlocksDrawn m) known_m,
            shares_after n v r.history known (shares s r id v lim at),
          ),
        ),
      )

  -- the rows of a block that is drawn, of which none was used
  fresh_rows : (h : List Event) (ws : List ℕ) (first : ℕ) (drafts : List Element) → drafts ≡ [] → ((i : ℕ) → first ≤ i → i < first + BLOCK_ROWS → IsUnborn h i × (get_or ws (head_place i) 0 ≡ 0) × IsUnwritten ws i)
      → RowsHold h ws first (first + BLOCK_ROWS) first first BLOCK_ROWS blank_body drafts
  fresh_rows h ws first drafts none bare = subst (λ (ds : List Element). RowsHold h ws first (first + BLOCK_ROWS) first first BLOCK_ROWS blank_body ds) (sym none) record {
    counted = omega arith;
    begins = omega arith;
    ends = refl;
    unborn = λ i low high. (bare i low high).0;
    full = λ i low high. let from : first ≤ i = low in let to : i < first = high in absurd (omega arith);
    empty = λ i low high. (bare i low high).1;
    unwritten = λ i low high. (bare i (omega arith) high).2;
    body_whole = refl;
    body_there = λ room. blank_there ws first (bare first (omega arith) (omega arith)).2;
    run = tt;
    written = λ x q. absurd (in_none q);
  }

  -- the counter is at b, and is raised to one more
  module _ (t : Turn k) (b : ℕ) (none : (hand t.view).drafts ≡ []) (known_clear : HasCleared t.view) (room : b < k.spare) (at_b : drawn_in k t.state.words ≡ b) where
    abbrev words_after : List ℕ
    words_after = set t.state.words (drawn_place k) (b + 1)

    abbrev first : ℕ
    first = block_first t.view.limits b

    first_is : first ≡ block_first k b
    first_is = ap (λ (l : Limits). block_first l b) (limits_are k t)

    may : MayStore k t.state.words DrawnWord (b + 1)
    may = record { head = λ j e. absurd cc; mark = λ s p e. absurd cc; count = λ e. (omega arith, omega arith); word = λ j n e. absurd cc }

    now : drawn_in k words_after ≡ b + 1
    now = stored k t.state.words DrawnWord (b + 1) tt t.rule.world.wide

    bare : (i : ℕ) → first ≤ i → i < first + BLOCK_ROWS → IsUnborn t.rule.history i × (get_or words_after (head_place i) 0 ≡ 0) × IsUnwritten words_after i
    bare i low high = let is = first_is in let inside : i < rows_of k = omega arith in let undrawn : block_first k (drawn_in k t.state.words) ≤ i = omega arith in
        let same = row_left k t.state.words DrawnWord (b + 1) tt i inside (λ q. cc) in (
          undrawn_unborn t.rule.history t.state.words t.rule.world i undrawn inside,
          same.0 ∙ t.rule.world.bare i undrawn inside,
          λ j few. same.1 j few ∙ t.rule.world.unwritten i undrawn inside j few,
        )

    up : Ascend 0 (b + 1) ((hand t.view).blocks ++ b ∷ [])
    up = ascend_more 0 b (hand t.view).blocks (omega arith) (subst (λ n. Ascend 0 n (hand t.view).blocks) at_b (hand_holds k t).blocks)

    run_after : IsRun k t.view.seen (hand t.view).number ((hand t.view).blocks ++ b ∷ []) first BLOCK_ROWS
    run_after = let mine = hand_holds k t in let seen = (seat_holds k t).seen in let is = first_is in
        let unborn : (i : ℕ) → IsRowOfBlock k b i → IsUnborn t.rule.history i = λ i row. (let low = row.1 in let high = row.2 in (bare i (omega arith) (omega arith)).0) in record {
          drawn = ascend_wider 0 (b + 1) k.spare ((hand t.view).blocks ++ b ∷ []) (omega arith) up;
          first = first;
          end = first + BLOCK_ROWS;
          own = inr (b, in_right (hand t.view).blocks here, (room, first_is, ap (λ n. n + BLOCK_ROWS) first_is));
          begins = omega arith;
          ends = refl;
          unborn = λ i low high. unborn_earlier t.view.seen t.rule.history i seen (bare i low high).0;
          usable = λ i low high. inr (mine.given, b, (room, omega arith, omega arith), block_before k t.view.seen t.rule.history (hand t.view).number b seen (undrawn_for k t.rule.history (hand t.view).number b unborn));
        }

    -- an area of the pass is one that it had, or the block
    old_or_new : (from to : ℕ) → IsOwnArea k (hand t.view).number ((hand t.view).blocks ++ b ∷ []) from to → IsOwnArea k (hand t.view).number (hand t.view).blocks from to ⊎ ((from ≡ first) × (to ≡ first + BLOCK_ROWS))
    old_or_new from to own = ⊎_elim (λ part. inl (inl part))
        (λ c. ⊎_elim (λ old. inl (inr (c.0, old, c.2))) (λ new. let same = in_one new in let is = first_is in let from_is = c.2.1 in let to_is = c.2.2 in inr (omega arith, omega arith)) (in_either (hand t.view).blocks (b ∷ []) c.1)) own

    heads_same : (i : ℕ) → i < rows_of k → get_or words_after (head_place i) 0 ≡ get_or t.state.words (head_place i) 0
    heads_same i inside = (row_left k t.state.words DrawnWord (b + 1) tt i inside (λ q. cc)).0

    -- the pass made nothing in the block
    none_made : (e : Event) (x : Element) → In e (hand t.view).mine → In x (births e) → x.id < first
    none_made e x p made = let hold = hand_holds k t in let is = first_is in let o = own_in t.rule.history (hand t.view).number e (subst (In e) hold.mine p) in
        let at = its_row k t.state t.rule (hand t.view) x hold (e, o.0, o.1, made) in let top = own_drawn k (hand t.view).number (drawn_in k t.state.words) (hand t.view).blocks at.0 at.1 hold.blocks at.2 in let below = at.3 in omega arith

    -- two areas of the pass that end with one row are one
    one_end : (from to from' to' : ℕ) → IsOwnArea k (hand t.view).number (hand t.view).blocks from to → IsOwnArea k (hand t.view).number (hand t.view).blocks from' to' → to ≡ to' → from ≡ from'
    one_end from to from' to' own own' same = ⊎_elim
        (λ s. ⊎_elim (λ q. s.1 ∙ sym q.1) (λ q. let inside = own_drawn k (hand t.view).number 0 [] from to tt (inl s) in let at = q.2.2 in absurd (omega arith)) own')
        (λ s. ⊎_elim (λ q. let inside = own_drawn k (hand t.view).number 0 [] from' to' tt (inl q) in let at = s.2.2 in absurd (omega arith))
        (λ q. let a = s.2.1 in let b = s.2.2 in let c = q.2.1 in let d = q.2.2 in omega arith) own') own

    areas_after : AreasHold k t.rule.history words_after (with_block b first (hand t.view))
    areas_after = let hold = hand_holds k t in let is = first_is in record {
      last = λ from to own. let top = own_drawn k (hand t.view).number (b + 1) ((hand t.view).blocks ++ b ∷ []) from to up own in omega arith;
      decided = λ from to i stage root u own low high named un. let inside = own_inside k (hand t.view).number ((hand t.view).blocks ++ b ∷ []) from to own in ⊎_elim
          (λ old. let d = hold.areas.decided from to i stage root u old low high (named.0, ap head_bits (sym (heads_same i (omega arith))) ∙ named.1) un in
          let count : (hand t.view).first_draft + 0 ≡ (hand t.view).next = subst (λ ds. (hand t.view).first_draft + length ds ≡ (hand t.view).next) none hold.rows.counted in let less = d.0 in let more = d.1 in absurd (omega arith))
          (λ new. let from_is = new.0 in let to_is = new.1 in absurd (has_full words_after i (Filled stage root (Some u)) (λ q. cc) named.1 (bare i (omega arith) (omega arith)).1))
          (old_or_new from to own);
      output = λ from to i stage root u begin count own low high named is2. let inside = own_inside k (hand t.view).number ((hand t.view).blocks ++ b ∷ []) from to own in ⊎_elim
          (λ old. hold.areas.output from to i stage root u begin count old low high (named.0, ap head_bits (sym (heads_same i (omega arith))) ∙ named.1) is2)
          (λ new. let from_is = new.0 in let to_is = new.1 in absurd (has_full words_after i (Filled stage root (Some u)) (λ q. cc) named.1 (bare i (omega arith) (omega arith)).1))
          (old_or_new from to own);
      cleared = λ from to i own away low high. let inside = own_inside k (hand t.view).number ((hand t.view).blocks ++ b ∷ []) from to own in ⊎_elim
          (λ old. dite (ℕ_discrete to ((hand t.view).next + (hand t.view).left))
          (λ run. let ends = hold.rows.ends in let same_first = one_end from to hold.first hold.end old hold.area (omega arith) in dite (dec_le (hand t.view).next i)
          (λ past. inr (omega arith, omega arith)) (λ before. inl (λ none. hold.rows.full i (omega arith) (omega arith) (sym (heads_same i (omega arith)) ∙ none))))
          (λ other. ⊎_elim (λ some. inl (λ none. some (sym (heads_same i (omega arith)) ∙ none)))
          (λ p. let c = known_clear i p.0 p.1 in let still = (seat_holds k t).known (RowHead i c.0) c.2 in inl (λ none. has_full t.state.words i c.0 c.1 (still.2 c.1) (sym (heads_same i (omega arith)) ∙ none)))
          (hold.areas.cleared from to i old other low high)))
          (λ new. absurd (away new.1))
          (old_or_new from to own);
      headed = λ from to i e x own low high p made past zero. let inside = own_inside k (hand t.view).number ((hand t.view).blocks ++ b ∷ []) from to own in ⊎_elim
          (λ old. hold.areas.headed from to i e x old low high p made past (sym (heads_same i (omega arith)) ∙ zero))
          (λ new. let less = none_made e x p made in let from_is = new.0 in let to_is = new.1 in absurd (omega arith)) (old_or_new from to own);
    }

    abbrev owner_after : Owners
    owner_after = record { seat = t.rule.owner.seat; drawer = λ c. cond (eqb c b) (hand t.view).number (t.rule.owner.drawer c) }

    drawer_here : (c : ℕ) → c ≡ b → owner_after.drawer c ≡ (hand t.view).number
    drawer_here c is = ap (λ z. cond z (hand t.view).number (t.rule.owner.drawer c)) (eq-eqb c b is)

    drawer_else : (c : ℕ) → c ≢ b → owner_after.drawer c ≡ t.rule.owner.drawer c
    drawer_else c not = ap (λ z. cond z (hand t.view).number (t.rule.owner.drawer c)) (ne_eqb c b not)

    -- the blocks that are drawn before are other ones
    drawn_before : (a : Hand) → HandHolds k t.rule.history t.state.words a → (c : ℕ) → In c a.blocks → c ≢ b
    drawn_before a hold c has same = let below = (ascend_in 0 (drawn_in k t.state.words) a.blocks c hold.blocks has).1 in omega arith

    mine_after : HandHolds k t.rule.history words_after (with_block b first (hand t.view))
    mine_after = let mine = hand_holds k t in record {
      given = mine.given;
      mine = mine.mine;
      blocks = subst (λ n. Ascend 0 n ((hand t.view).blocks ++ b ∷ [])) (sym now) up;
      spares = λ e x c p made row. in_left (b ∷ []) (mine.spares e x c p made row);
      first = first;
      end = first + BLOCK_ROWS;
      area = inr (b, in_right (hand t.view).blocks here, (room, first_is, ap (λ n. n + BLOCK_ROWS) first_is));
      rows = fresh_rows t.rule.history words_after first (hand t.view).drafts none bare;
      tail = λ j low up. let less : j < first = low in let more : first ≤ j + 0 = up in absurd (omega arith);
      units = mine.units;
      areas = areas_after;
    }

    drawn_now : Rule k record { words = words_after; homes = t.state.homes; views = set t.state.views t.id (drew (with_block b first) (b + 1) t.view) }
    drawn_now = let h = t.rule.history in let seat = seat_holds k t in let wide = t.rule.world.wide in moved k t record {
      kind = kinds.Draw;
      f = with_block b first;
      seen = t.view.seen;
      history = h;
      words = words_after;
      owner = owner_after;
      stays = λ a. refl;
      begins = seat.seen;
      grows = begins_refl h;
      world = world_stored k h h t.state.words DrawnWord (b + 1) t.rule.world t.rule.world.legal (begins_refl h) tt tt (λ w there _. t.rule.world.tells w there) may (λ s p e. absurd cc);
      mine = mine_after;
      others = λ a ne draws hold. hand_quiet k h t.state.words words_after a (drawn_rises k t.state.words DrawnWord (b + 1) tt wide may) hold
          (λ first end i own low high. let top = own_inside k a.number a.blocks first end own in row_left k t.state.words DrawnWord (b + 1) tt i (omega arith) (λ q. cc));
      known = BlocksDrawn (b + 1) ∷ t.view.known;
      knows = λ x q. ⊎_elim (λ e. subst (StillSo k words_after) (sym e) (let is = now in omega arith)) (λ o. still_left k t.state.words DrawnWord (b + 1) tt wide may x (seat.known x o)) (in_cons q);
      still = still_left k t.state.words DrawnWord (b + 1) tt wide may;
      same = λ c. refl;
      draws = λ c has. ⊎_elim (λ q. drawer_else c (drawn_before (hand t.view) (hand_holds k t) c q) ∙ mine_drawn k t c q) (λ q. drawer_here c (in_one q)) (in_either (hand t.view).blocks (b ∷ []) has);
      drew = λ a ne hold draws c has. drawer_else c (drawn_before a hold c has) ∙ draws c has;
      raised = λ c below. let is = now in dite (ℕ_discrete c b) (λ e. inr (in_right (hand t.view).blocks (in_here [] e))) (λ other. inl (omega arith));
      holds = λ c has. in_left (b ∷ []) has;
    }

  -- the counter isn't there, and the seat remembers it
  not_drawn : (t : Turn k) → Rule k record { words = t.state.words; homes = t.state.homes; views = set t.state.views t.id (drew unchanged (drawn_in k t.state.words) t.view) }
  not_drawn t = let h = t.rule.history in let seat = seat_holds k t in moved k t record {
    kind = kinds.Draw;
    f = unchanged;
    seen = t.view.seen;
    history = h;
    words = t.state.words;
    owner = t.rule.owner;
    stays = λ a. refl;
    begins = seat.seen;
    grows = begins_refl h;
    world = t.rule.world;
    mine = hand_holds k t;
    others = λ a _ _ hold. hold;
    known = BlocksDrawn (drawn_in k t.state.words) ∷ t.view.known;
    knows = λ x q. ⊎_elim (λ e. subst (StillSo k t.state.words) (sym e) (omega arith)) (λ o. seat.known x o) (in_cons q);
    still = λ x so. so;
    same = λ c. refl;
    draws = mine_drawn k t;
    drew = λ a ne hold draws. draws;
    raised = λ b below. inl below;
    holds = λ b has. has;
  }

  pub draws_go : (v : View) (word b : ℕ) → IsOnePass v → v.limits ≡ k → (hand v).drafts ≡ [] → HasCleared v → b < k.spare → word ≡ drawn_place k → Permits k v word (λ x. either (eqb x b) (b + 1) x) (draws word b (b + 1) v)
  draws_go v word b one lim none clear room place s r id at = let t : Turn k = record { state = s; rule = r; id = id; view = v; at = at; one = one } in let x : ℕ = get_or s.words word 0 in
      let found : x ≡ drawn_in k s.words = ap (λ z. get_or s.words z 0) place in dite (ℕ_discrete x b)
      (λ hit. let at_b : drawn_in k s.words ≡ b = sym found ∙ hit in let f : Hand → Hand = with_block b (block_first v.limits b) in let w : View = drew f (b + 1) v in
      let shown = (one_after kinds.Draw f v.seen (BlocksDrawn (b + 1) ∷ v.known) v w one refl).1 in (
        w,
        subst (λ (z : ℕ × ℕ). Rule k record { words = set s.words z.0 z.1; homes = s.homes; views = set s.views id w }) (λ i. (sym place i, sym (ap (λ c. either c (b + 1) x) (eq-eqb x b hit)) i)) (drawn_now t b none clear room at_b),
        (
          λ _. (refl, subst (λ (a : Hand). IsRun v.limits v.seen a.number a.blocks a.next a.left) (sym shown) (subst (λ (l : Limits). IsRun l v.seen (hand v).number ((hand v).blocks ++ b ∷ []) (block_first v.limits b) BLOCK_ROWS) (sym lim) (run_after t b none clear room at_b))),
          λ not. absurd (not hit),
        ),
      ))
      (λ miss. (
        drew unchanged x v,
        subst (λ (z : List ℕ). Rule k record { words = z; homes = s.homes; views = set s.views id (drew unchanged x v) }) (sym (ap (λ z. set s.words word z) (ap (λ c. either c (b + 1) x) (ne_eqb x b miss)) ∙ set-get_or s.words word 0))
            (subst (λ z. Rule k record { words = s.words; homes = s.homes; views = set s.views id (drew unchanged z v) }) (sym found) (not_drawn t)),
        (
          λ hit. absurd (miss hit),
          λ _. record {
            view = refl;
            other = miss;
            inside = subst (λ (l : Limits). x ≤ l.spare) (sym lim) (let top = r.world.drawn in omega arith);
            rises = λ m known_m. (let low : m ≤ drawn_in k s.words = (r.seats id v at).known (BlocksDrawn m) known_m in omega arith);
          },
        ),
      ))
