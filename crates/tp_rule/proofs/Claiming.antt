-- The claim exchange keeps the rule.
use Rattle.std.proofs.Common.{◌≡◌, ℕ, ◌+◌, ◌-◌, ◌*◌, ◌<◌, ◌≤◌, ◌≢◌, eqb, cond, List, [], ◌∷◌, ◌++◌, length, set, get_or, sym, refl, ap, ◌∙◌, subst, ⊎_elim, arith, eq-eqb, ne_eqb, Option, Some, None}
use mathlib.Core.Logic.{dite}
use native.Mathlib.Decide.{ℕ_discrete}
use prog.Atomic.{either}
use Rattle.tp_model.specs.declared.event.Event.{Event}
use Rattle.tp_model.specs.declared.event.Event.TheVariants.{Abort, Claim}
use Rattle.tp_model.specs.declared.trace.StepKind.{StepKind}
use Rattle.tp_model.specs.declared.trace.StepKind.TheVariants as kinds
use Rattle.tp_model.specs.declared.types.Element.{Element}
use Rattle.tp_model.specs.declared.types.Limits.{Limits}
use Rattle.tp_model.specs.History.{Committed, UnitEnd, In, IsClaim, births, end_of, pass_of}
use Rattle.tp_model.specs.Passes.{Ascend, IsOwnOpen}
use Rattle.tp_model.specs.Steps.{AreLimits, Step, rows_of}
use Rattle.tp_model.specs.Words.{ClaimWord, AgainWord, FreeWord, KilledWord, TakenWord, claim_word, round_in, claim_word_after, word_status}
use Rattle.tp_model.proofs.Bridges.{by_own, claim_either, found_later, in_either, in_none, in_one, new_claim, unborn_still, unused_still, waits_below, waits_later}
use Rattle.tp_model.proofs.Later.{abort_ends}
use Rattle.tp_model.proofs.Lists.{option_or-None}
use Rattle.tp_model.proofs.WordProofs.{end_of-snoc, status_by_words, unended}
use Rattle.tp_rule.specs.Places.{ClaimWord as ClaimOf, claim_place, place_of, size_of}
use Rattle.tp_rule.specs.Words.{IsFitClaim, pack_claim}
use Rattle.tp_rule.specs.Doors.{Permits}
use Rattle.tp_rule.specs.Plays.{exchanges_claim}
use Rattle.tp_rule.specs.Rule.{AreasHold, HandHolds, HasTail, RowsHold, Rule, UnitsHold, World, drawn_in}
use Rattle.tp_rule.specs.Steps.{after, unchanged, with_claim, Grew, AllowsClaim, HasWork, claimed}
use Rattle.tp_rule.specs.Views.{IsOnePass, hand}
use Rattle.tp_rule.specs.declared.view.Hand.{Hand}
use Rattle.tp_rule.specs.declared.view.View.{View}
use Rattle.tp_rule.proofs.Events.{acted, looking_after, missed}
use Rattle.tp_model.specs.Passes.{IsOwnArea}
use Rattle.tp_rule.proofs.OwnAreas.{areas_event, made_before}
use Rattle.tp_rule.proofs.Frames.{Stays, Turn, hand_holds, rows_frame, seat_holds, spares_more, still_undecided}
use Rattle.tp_rule.proofs.Owning.{own_inside}
use Rattle.tp_model.proofs.Areas.{ascend_wider}
use Rattle.tp_rule.proofs.Parts.{fair_units, IsOf, in_all}
use Rattle.tp_rule.proofs.Storing.{drawn_rises, may_claim, row_left, tail_same}
use Rattle.tp_rule.proofs.Tellings.{claim_now, told_later}
use Rattle.tp_rule.proofs.Units.{decide}

-- a claim's word holds the claim
pub claim_told : (a b : ClaimWord) → IsFitClaim a → IsFitClaim b → pack_claim a ≡ pack_claim b → a ≡ b
claim_told FreeWord FreeWord f g e = refl
claim_told FreeWord (TakenWord m v s) f g e = absurd (omega arith)
claim_told FreeWord (KilledWord m v s) f g e = absurd (omega arith)
claim_told FreeWord (AgainWord s) f g e = absurd (omega arith)
claim_told (TakenWord n u r) FreeWord f g e = absurd (omega arith)
claim_told (TakenWord n u r) (TakenWord m v s) f g e = let a : n ≤ 7 = f.1 in let b : m ≤ 7 = g.1 in let c : u ≤ 65534 = f.2 in let d : v ≤ 65534 = g.2 in let x : n ≡ m = omega arith in let y : u ≡ v = omega arith in let z : r ≡ s = omega arith in (λ i. TakenWord (x i) (y i) (z i))
claim_told (TakenWord n u r) (KilledWord m v s) f g e = absurd (omega arith)
claim_told (TakenWord n u r) (AgainWord s) f g e = absurd (omega arith)
claim_told (KilledWord n u r) FreeWord f g e = absurd (omega arith)
claim_told (KilledWord n u r) (TakenWord m v s) f g e = absurd (omega arith)
claim_told (KilledWord n u r) (KilledWord m v s) f g e = let a : n ≤ 7 = f.0 in let b : m ≤ 7 = g.0 in let c : u ≤ 65534 = f.1 in let d : v ≤ 65534 = g.1 in let x : n ≡ m = omega arith in let y : u ≡ v = omega arith in let z : r ≡ s = omega arith in (λ i. KilledWord (x i) (y i) (z i))
claim_told (KilledWord n u r) (AgainWord s) f g e = absurd (omega arith)
claim_told (AgainWord r) FreeWord f g e = absurd (omega arith)
claim_told (AgainWord r) (TakenWord m v s) f g e = absurd (omega arith)
claim_told (AgainWord r) (KilledWord m v s) f g e = absurd (omega arith)
claim_told (AgainWord r) (AgainWord s) f g e = let x : r ≡ s = omega arith in ap AgainWord x

claim_quiet : (c v i n : ℕ) (u : ℕ) (w : Option UnitEnd) → decide u w (Claim c v i n) ≡ w
claim_quiet c v i n u w = option_or-None w

module _ (k : Limits) where
  -- the rows of the pass that made an event without births, at the claim word of a row
  pub rows_still : (h : List Event) (ws : List ℕ) (e : Event) (row x first end first_draft next left : ℕ) (body : List ℕ) (ds : List Element) → row < rows_of k → births e ≡ [] → end ≤ rows_of k
      → RowsHold h ws first end first_draft next left body ds → RowsHold (h ++ e ∷ []) (set ws (claim_place row) x) first end first_draft next left body ds
  rows_still h ws e row x first end first_draft next left body ds at none_born inside r = rows_frame k h (h ++ e ∷ []) ws (set ws (claim_place row) x) first end first_draft next left body ds
      (λ i low high. row_left k ws (ClaimOf row) x at i (omega arith) (λ q. cc))
      (λ i low high un. unborn_still h e i un (λ z n id. in_none (subst (λ l. In z l) none_born n))) r

  -- those right before its next one
  pub tail_still : (ws : List ℕ) (row x first end next rest tail stage : ℕ) → row < rows_of k → end ≤ rows_of k → next + rest ≡ end → HasTail ws first next tail stage → HasTail (set ws (claim_place row) x) first next tail stage
  tail_still ws row x first end next rest tail stage at inside top old = tail_same ws (set ws (claim_place row) x) first end next rest tail stage top (λ i low high. (row_left k ws (ClaimOf row) x at i (omega arith) (λ q. cc)).0) old

  -- and its blocks
  pub blocks_still : (ws : List ℕ) (row x : ℕ) (bs : List ℕ) → row < rows_of k → length ws ≡ size_of k → Ascend 0 (drawn_in k ws) bs → Ascend 0 (drawn_in k (set ws (claim_place row) x)) bs
  blocks_still ws row x bs at wide up = ascend_wider 0 (drawn_in k ws) (drawn_in k (set ws (claim_place row) x)) bs (drawn_rises k ws (ClaimOf row) x at wide (may_claim k ws row x)) up

  -- and the heads of its areas
  pub areas_still : (h : List Event) (ws : List ℕ) (e : Event) (row x : ℕ) (a b : Hand) → row < rows_of k → births e ≡ [] → ((u : ℕ) (w : Option UnitEnd) → decide u w e ≡ w) → ((first end : ℕ) → IsOwnArea k b.number b.blocks first end → IsOwnArea k a.number a.blocks first end) → b.next + b.left ≡ a.next + a.left → (b.passed_from ≡ a.passed_from) × (b.passed_to ≡ a.passed_to)
      → ((i u : ℕ) → a.first_draft ≤ i → i < a.next → a.open_unit ≡ Some u → (b.first_draft ≤ i) × (i < b.next) × (b.open_unit ≡ Some u)) → b.mine ≡ a.mine ++ e ∷ []
      → AreasHold k h ws a → AreasHold k (h ++ e ∷ []) (set ws (claim_place row) x) b
  areas_still h ws e row x a b at none_born quiet own top passed drafts mine r = areas_event k h (h ++ e ∷ []) ws (set ws (claim_place row) x) a b (λ u from count is. sym (quiet u (end_of h u)) ∙ (sym (end_of-snoc h e u) ∙ is)) own top passed
      (λ first end i o low high. let last = own_inside k a.number a.blocks first end o in (row_left k ws (ClaimOf row) x at i (omega arith) (λ q. cc)).0)
      (still_undecided h e) (λ i u low high is _. drafts i u low high is) (λ d y p made. made_before a.mine e none_born d y (subst (In d) mine p) made) r

  -- an event about row `row` that makes its claim w
  module _ (t : Turn k) (e : Event) (row x : ℕ) (w : ClaimWord) (kind : StepKind) (f : Hand → Hand) where
    pub claim_event : row < rows_of k → x ≡ pack_claim w → IsFitClaim w → births e ≡ [] → pass_of e ≡ (hand t.view).number → Step k t.rule.history e
        → claim_word_after row (claim_word t.rule.history row) e ≡ w → ((i : ℕ) → i ≢ row → claim_word_after i (claim_word t.rule.history i) e ≡ claim_word t.rule.history i) → ((u : ℕ) (z : Option UnitEnd) → decide u z e ≡ z)
        → Stays k t f → HandHolds k (t.rule.history ++ e ∷ []) (set t.state.words (claim_place row) x) (f (hand t.view))
        → Rule k record { words = set t.state.words (claim_place row) x; homes = t.state.homes; views = set t.state.views t.id (after kind f (t.rule.history ++ e ∷ []) t.view.known t.view) }
        × Grew kind f (e ∷ []) t.view (after kind f (t.rule.history ++ e ∷ []) t.view.known t.view)
    claim_event room is fit none_born own st here_is else_is quiet stays mine = let h = t.rule.history in acted k t record {
      event = e;
      word = ClaimOf row;
      number = x;
      kind = kind;
      f = f;
      stays = stays;
      own = own;
      step = st;
      there = room;
      told = claim_now h e row x w here_is is fit;
      rest = λ v there other. told_later h e none_born v (get_or t.state.words (place_of k v) 0) (λ i q. else_is i (λ same. other (q ∙ ap ClaimOf same))) (λ u q. quiet u (end_of h u)) (t.rule.world.tells v there);
      may = may_claim k t.state.words row x;
      unmarked = λ s z q. cc;
      uncounted = λ q. cc;
      tells_own = λ i q. absurd cc;
      births_own = λ y q. absurd (in_none (subst (In y) none_born q));
      mine = mine;
    }

  units_claim : (h : List Event) (ws : List ℕ) (c i n used u : ℕ) → World k h ws → u ≡ c * k.units + used → used < k.units → UnitsHold k h c used (Some u) None → UnitsHold k (h ++ Claim c u i n ∷ []) c (used + 1) None (Some u)
  units_claim h ws c i n used u world next room r = let e : Event = Claim c u i n in let calm : (z : ℕ) → end_of (h ++ e ∷ []) z ≡ end_of h z = λ z. end_of-snoc h e z ∙ claim_quiet c u i n z (end_of h z) in
      let free = r.unused u (omega arith) (omega arith) in let open_now : end_of h u ≡ None = unended k h world.legal u free in record {
        used_below = omega arith;
        unused = λ z l m. unused_still h e z (r.unused z (omega arith) m) (λ d j o is. let same : z ≡ u = cc in omega arith);
        spare_next = λ z is. absurd cc;
        open_own = λ z is. let eq : u ≡ z = cc in subst (IsOwnOpen (h ++ e ∷ []) c) eq record {
          item = i;
          attempt = n;
          claimed = new_claim h c u i n free;
          uncommitted = λ f m p. let q : None ≡ Some (Committed f m) = sym (calm u ∙ open_now) ∙ p in absurd cc;
          kept = λ p. ⊎_elim (λ q. abort_ends h c u q open_now) (λ q. let is : Abort c u ≡ e = in_one q in absurd cc) (in_either h (e ∷ []) p);
        };
        closed = λ z j o p not un. ⊎_elim (λ q. r.closed z j o q (λ is. absurd cc) (sym (calm z) ∙ un)) (λ q. let same : u ≡ z = cc in not (ap Some same)) (claim_either h e c z j o p);
        in_order = λ z low high un. dite (ℕ_discrete z u) (λ is. let last : u + 1 ≡ c * k.units + (used + 1) = omega arith in (ap Some (sym is), ap (λ y. y + 1) is ∙ last))
            (λ ne. let o = r.in_order z low (omega arith) (sym (calm z) ∙ un) in let q : None ≡ Some z = o.0 in absurd cc);
      }

  -- the attempt is at most the limit
  attempt_fits : (seen : List Event) (w : ClaimWord) (n : ℕ) → AreLimits k → AllowsClaim k seen w n → n ≤ 7
  attempt_fits seen w n fair may = let some = fair.attempts.0 in let top = fair.attempts.1 in let below = waits_below k.attempts seen w (n - 1) some may.1 in omega arith

  -- the round of a word that can be packed
  round_fits : (w : ClaimWord) → IsFitClaim w → round_in w ≤ 3
  round_fits FreeWord f = omega arith
  round_fits (TakenWord n u r) f = f.3
  round_fits (KilledWord n u r) f = f.3
  round_fits (AgainWord r) f = f.1

  -- the claim that is there where its word was found
  pub claim_there : (t : Turn k) (row old : ℕ) (w : ClaimWord) → row < rows_of k → IsFitClaim w → old ≡ pack_claim w → get_or t.state.words (claim_place row) 0 ≡ old → claim_word t.rule.history row ≡ w
  claim_there t row old w room fit from hit = let told = t.rule.world.tells (ClaimOf row) room in claim_told (claim_word t.rule.history row) w told.1 fit (sym told.0 ∙ (hit ∙ from))

  pub claims_go : (v : View) (p old new row u n : ℕ) (w : ClaimWord) → AreLimits k → IsOnePass v → v.limits ≡ k → row < rows_of k → p ≡ claim_place row → HasWork v.seen row → (hand v).spare_unit ≡ Some u → (hand v).open_unit ≡ None
      → IsFitClaim w → AllowsClaim k v.seen w n → old ≡ pack_claim w → new ≡ pack_claim (TakenWord n u (round_in w))
      → Permits k v p (λ x. either (eqb x old) new x) (exchanges_claim p old new v)
  claims_go v p old new row u n w fair one lim room place was spare held fit may from to s r id at = let t : Turn k = record { state = s; rule = r; id = id; view = v; at = at; one = one } in let a : Hand = hand v in let x : ℕ = get_or s.words p 0 in let h = r.history in
      let seat = seat_holds k t in let mine = hand_holds k t in dite (ℕ_discrete x old)
      (λ hit. let e : Event = claimed v u row n in let now : claim_word h row ≡ w = claim_there t row old w room fit from (ap (λ z. get_or s.words z 0) (sym place) ∙ hit) in
      let units : UnitsHold k h a.number a.claimed (Some u) None = subst (λ z. UnitsHold k h a.number a.claimed (Some u) z) held (subst (λ z. UnitsHold k h a.number a.claimed z a.open_unit) spare mine.units) in
      let next = units.spare_next u refl in let is_next : u ≡ a.number * k.units + a.claimed = next.0 in let left : a.claimed < k.units = next.1 in let top = units.used_below in
      let own : IsOf k.parts k.units a.number u = (mine.given, omega arith, omega arith) in let all : u < k.parts * k.units = in_all k.parts k.units a.number u own in let few = fair_units k fair in
      let st : Step k h e = record {
        unit = own;
        unused = units.unused u (omega arith) (omega arith);
        alone = λ z t same is_open. units.closed z t.item t.attempt (subst (λ d. IsClaim h d z t.item t.attempt) same is_open.claimed) (λ is. absurd cc) is_open.unfinished;
        item = was.0;
        born = found_later v.seen h seat.seen row was.0 was.1;
        stage = was.2;
        attempt = may.0;
        waits = status_by_words k h row r.world.legal ∙ (ap (word_status k.attempts h) now ∙ waits_later k.attempts v.seen h w (n - 1) seat.seen may.1);
      } in
      let top_n = attempt_fits v.seen w n fair may in let small : u ≤ 65534 = omega arith in
      let done = claim_event t e row new (TakenWord n u (round_in w)) kinds.ClaimExchange (with_claim u e) room to (may.0, top_n, small, round_fits w fit) refl refl st (ap (λ b. cond b (TakenWord n u (round_in (claim_word h row))) (claim_word h row)) (eq-eqb row row refl) ∙ ap (λ z. TakenWord n u (round_in z)) now)
      (λ i not. ap (λ b. cond b (TakenWord n u (round_in (claim_word h i))) (claim_word h i)) (ne_eqb row i (λ z. not (sym z)))) (claim_quiet a.number u row n) (λ z. (refl, refl)) record {
        given = mine.given;
        mine = ap (λ l. l ++ e ∷ []) mine.mine ∙ sym (by_own a.number h e refl);
        blocks = blocks_still s.words row new a.blocks room r.world.wide mine.blocks;
        spares = spares_more k t e (λ y q. absurd (in_none q));
        first = mine.first;
        end = mine.end;
        area = mine.area;
        rows = rows_still h s.words e row new mine.first mine.end a.first_draft a.next a.left a.next_body a.drafts room refl (own_inside k a.number a.blocks mine.first mine.end mine.area) mine.rows;
        tail = tail_still s.words row new mine.first mine.end a.next a.left a.tail a.tail_stage room (own_inside k a.number a.blocks mine.first mine.end mine.area) mine.rows.ends mine.tail;
        units = units_claim h s.words a.number row n a.claimed u r.world is_next left units;
        areas = areas_still h s.words e row new a (with_claim u e a) room refl (claim_quiet a.number u row n) (λ first end own. own) refl (refl, refl) (λ i z low high is. let q : None ≡ Some z = sym held ∙ is in absurd cc) refl mine.areas;
      } in (
        after kinds.ClaimExchange (with_claim u e) (h ++ e ∷ []) v.known v,
        subst (λ (z : ℕ × ℕ). Rule k record { words = set s.words z.0 z.1; homes = s.homes; views = set s.views id (after kinds.ClaimExchange (with_claim u e) (h ++ e ∷ []) v.known v) }) (λ i. (sym place i, sym (ap (λ b. either b new x) (eq-eqb x old hit)) i)) done.0,
        ((λ _. (u, row, n, round_in w, place, to, top_n, (let less : u < 65536 = omega arith in less), done.1)), (λ not. absurd (not hit))),
      ))
      (λ miss. let m = missed k t p kinds.ClaimExchange in (
        looking_after k t p kinds.ClaimExchange unchanged,
        subst (λ z. Rule k record { words = set s.words p z; homes = s.homes; views = set s.views id (looking_after k t p kinds.ClaimExchange unchanged) }) (sym (ap (λ b. either b new x) (ne_eqb x old miss))) m.0,
        ((λ hit. absurd (miss hit)), (λ _. m.1)),
      ))
