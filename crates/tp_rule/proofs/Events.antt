-- A step that adds an event, and one that adds none.
use Rattle.std.proofs.Common.{◌≡◌, ℕ, ◌≢◌, ◌≤◌, arith, List, [], ◌∷◌, ◌++◌, set, get_or, sym, refl, ap, ◌∙◌, subst, inl, ⊎_elim, Option, Some}
use lib.Seq.{set-get_or}
use Rattle.tp_model.specs.declared.event.Event.{Event}
use Rattle.tp_model.specs.declared.event.Event.TheVariants.{Abort, Claim}
use Rattle.tp_model.specs.declared.trace.StepKind.{StepKind}
use Rattle.tp_model.specs.declared.types.Limits.{Limits}
use Rattle.tp_model.specs.History.{In, UnitEnd, births, end_of, pass_of}
use Rattle.tp_model.specs.declared.types.Element.{Element}
use Rattle.tp_model.specs.Passes.{IsRun}
use Rattle.tp_model.specs.Steps.{IsBlockFor, IsLegal, Step}
use Rattle.tp_model.proofs.Bridges.{append_nil, begins_more, begins_refl, claim_either, claim_kept, in_either, in_one, unused_still}
use Rattle.tp_model.proofs.Histories.{legal_more}
use Rattle.tp_model.proofs.WordProofs.{end_of-snoc}
use Rattle.tp_rule.specs.Places.{Word, MarkWord, DrawnWord, IsThere, place_of}
use Rattle.tp_rule.specs.Rule.{HandHolds, Rule, WordIs, UnitsHold, World, drawn_in}
use Rattle.tp_rule.specs.declared.packing.Head.TheVariants.{Filled}
use Rattle.tp_rule.specs.declared.view.Known.{Known}
use Rattle.tp_rule.specs.declared.view.Known.TheVariants.{RowHead}
use Rattle.tp_rule.specs.Steps.{IsSo, MayBeBorn, after, noted, unchanged, Found, Grew, Misses}
use Rattle.tp_rule.specs.declared.view.Hand.{Hand}
use Rattle.tp_rule.specs.declared.view.View.{View}
use Rattle.tp_rule.proofs.Ahead.{ahead, output}
use Rattle.tp_rule.proofs.Frames.{IsMine, Stays, Turn, draws_still, hand_frame, hand_holds, holds_still, limits_are, me, mine_alone, mine_for, moved, moved_to, only_hand, seat_holds}
use Rattle.tp_rule.proofs.Owning.{AreBlocksFor, blocks_for_own, own_inside, run_of}
use Rattle.tp_rule.proofs.Seats.{hand_noted, in_map}
use Rattle.tp_rule.proofs.Storing.{MayStore, body_row, drawn_left, drawn_rises, row_left, still_left}
use Rattle.tp_rule.proofs.Tellings.{found, so_now, world_stored}
use Rattle.tp_rule.proofs.Units.{decide}

-- the units of the pass that made an event which is no claim and decides nothing
pub units_own : (k : Limits) (h : List Event) (e : Event) (c used : ℕ) (spare held : Option ℕ) → ((u : ℕ) (w : Option UnitEnd) → decide u w e ≡ w) → ((d u i n : ℕ) → ¬ (Claim d u i n ≡ e)) → ((d u : ℕ) → ¬ (Abort d u ≡ e))
    → UnitsHold k h c used spare held → UnitsHold k (h ++ e ∷ []) c used spare held
units_own k h e c used spare held quiet other never r = record {
  used_below = r.used_below;
  unused = λ u l m. unused_still h e u (r.unused u l m) (λ d i n is. other d u i n is);
  spare_next = r.spare_next;
  open_own = λ u is. let o = r.open_own u is in record {
    item = o.item;
    attempt = o.attempt;
    claimed = claim_kept h (e ∷ []) c u o.item o.attempt o.claimed;
    uncommitted = λ f m p. o.uncommitted f m (sym (end_of-snoc h e u ∙ quiet u (end_of h u)) ∙ p);
    kept = λ p. ⊎_elim o.kept (λ q. never c u (in_one q)) (in_either h (e ∷ []) p);
  };
  closed = λ u i n p not z. ⊎_elim (λ q. r.closed u i n q not (sym (end_of-snoc h e u ∙ quiet u (end_of h u)) ∙ z)) (λ q. other c u i n q) (claim_either h e c u i n p);
  in_order = λ u low high un. r.in_order u low high (sym (end_of-snoc h e u ∙ quiet u (end_of h u)) ∙ un);
}

module _ (k : Limits) (t : Turn k) where
  -- the one pass of the seat, after a step with one more entry in its trace
  pub after_hand : (kind : StepKind) (f : Hand → Hand) (h : List Event) (ws : List ℕ) → HandHolds k h ws (f (me k t)) → (a : Hand) → In a (after kind f h t.view.known t.view).hands → HandHolds k h ws a
  after_hand kind f h ws mine a p = let q = in_map (λ (z : Hand). noted kind h (f z)) a t.view.hands p in
      subst (HandHolds k h ws) (sym (q.2 ∙ ap (λ (z : Hand). noted kind h (f z)) (only_hand t.view t.one q.0 q.1))) (hand_noted k h ws kind h (f (me k t)) mine)

  -- so its run is one
  pub after_run : (kind : StepKind) (f : Hand → Hand) (h : List Event) (ws : List ℕ) → drawn_in k ws ≤ k.spare → AreBlocksFor k h (f (me k t)) → HandHolds k h ws (f (me k t))
      → (a : Hand) → In a (after kind f h t.view.known t.view).hands → IsRun t.view.limits h a.number a.blocks a.next a.left
  after_run kind f h ws top for mine a p = let q = in_map (λ (z : Hand). noted kind h (f z)) a t.view.hands p in let same = q.2 ∙ ap (λ (z : Hand). noted kind h (f z)) (only_hand t.view t.one q.0 q.1) in
      subst (λ (l : Limits). IsRun l h a.number a.blocks a.next a.left) (sym (limits_are k t)) (subst (λ (z : Hand). IsRun k h z.number z.blocks z.next z.left) (sym same) (run_of k h ws (f (me k t)) top for mine))

  -- what is born in its blocks goes on to be its own
  blocks_kept : (f : Hand → Hand) → Stays k t f → AreBlocksFor k t.rule.history (f (me k t))
  blocks_kept f stays b has = let same = stays (me k t) in subst (λ c. IsBlockFor k t.rule.history c b) (sym same.0) (mine_for k t b (subst (In b) same.1 has))

  -- a step that adds an event of the pass, and stores the number that is now its packing
  pub record Act : Type 0 where
    pub event : Event
    pub word : Word
    pub number : ℕ
    pub kind : StepKind
    pub f : Hand → Hand
    pub stays : Stays k t f
    -- it is the pass's own, and may come next
    pub own : pass_of event ≡ (me k t).number
    pub step : Step k t.rule.history event
    -- the word says it, and every other word says what it has to
    pub there : IsThere k word
    pub told : WordIs (t.rule.history ++ event ∷ []) word number
    pub rest : (w : Word) → IsThere k w → w ≢ word → WordIs (t.rule.history ++ event ∷ []) w (get_or t.state.words (place_of k w) 0)
    -- it may be stored, and it is no mark and not the counter of drawn blocks
    pub may : MayStore k t.state.words word number
    pub unmarked : (s p : ℕ) → word ≡ MarkWord s p → ⊥
    pub uncounted : word ≢ DrawnWord
    -- what it is about and what is born is in the area of the pass's run
    pub tells_own : (i : ℕ) → body_row word ≡ Some i → IsMine k t i
    pub births_own : (x : Element) → In x (births event) → IsMine k t x.id
    -- the pass is as its seat knows it
    pub mine : HandHolds k (t.rule.history ++ event ∷ []) (set t.state.words (place_of k word) number) (f (me k t))

  -- the view after such a step
  abbrev pub view_after : Act → View
  view_after a = after a.kind a.f (t.rule.history ++ a.event ∷ []) t.view.known t.view

  pub acted : (a : Act) → Rule k record { words = set t.state.words (place_of k a.word) a.number; homes = t.state.homes; views = set t.state.views t.id (view_after a) } × Grew a.kind a.f (a.event ∷ []) t.view (view_after a)
  acted a = let h = t.rule.history in let e = a.event in let h' : List Event = h ++ e ∷ [] in let ws : List ℕ = set t.state.words (place_of k a.word) a.number in let seat = seat_holds k t in let seen = seat.seen in
      let world : World k h' ws = world_stored k h h' t.state.words a.word a.number t.rule.world (legal_more k h e t.rule.world.legal a.step) (e ∷ [], refl) a.there a.told a.rest a.may (λ s p q. absurd (a.unmarked s p q)) in
      let still = still_left k t.state.words a.word a.number a.there t.rule.world.wide a.may in let rises = drawn_rises k t.state.words a.word a.number a.there t.rule.world.wide a.may in
      let rule = moved_to k t record {
        kind = a.kind;
        f = a.f;
        seen = h';
        history = h';
        words = ws;
        owner = t.rule.owner;
        stays = λ z. (a.stays z).0;
        begins = begins_refl h';
        grows = (e ∷ [], refl);
        world = world;
        mine = a.mine;
        others = λ b ne draws hold. hand_frame k h e t.state.words ws b a.step (λ is. ne (sym is ∙ a.own)) rises hold
            (λ first end i own low high. let top = own_inside k b.number b.blocks first end own in row_left k t.state.words a.word a.number a.there i (omega arith) (λ q. mine_alone k t b ne draws first end i own (a.tells_own i q) low high))
            (λ x q low high. mine_alone k t b ne draws hold.first hold.end x.id hold.area (a.births_own x q) low high);
        known = t.view.known;
        knows = λ x p. still x (seat.known x p);
        still = still;
        same = λ c. refl;
        draws = draws_still k t a.f a.stays;
        drew = λ b ne hold draws. draws;
        raised = λ b below. inl (drawn_left k t.state.words a.word a.number a.there a.uncounted b below);
        holds = holds_still k t a.f a.stays;
      } in (
        rule.0,
        record {
          between = seen.0;
          seen = ap (λ l. l ++ e ∷ []) (sym seen.1);
          also_seen = begins_more t.view.also_seen h e seat.also_seen;
          legal = subst (λ l. IsLegal l h') (sym (limits_are k t)) world.legal;
          view = refl;
          mine = λ b p. (after_hand a.kind a.f h' ws a.mine b p).mine;
          open_own = λ b p. (after_hand a.kind a.f h' ws a.mine b p).units.open_own;
          ended = λ b p. (after_hand a.kind a.f h' ws a.mine b p).units.closed;
          run = after_run a.kind a.f h' ws world.drawn (blocks_for_own k h e (a.f (me k t)) (a.own ∙ sym (a.stays (me k t)).0) (blocks_kept a.f a.stays)) a.mine;
          knows = λ x p. p;
          is_so = λ x p. subst (λ l. IsSo l h' x) (sym (limits_are k t)) (so_now k h' ws world x (still x (seat.known x p)));
          ahead = λ i stage root u p un. let x : Known = RowHead i (Filled stage root (Some u)) in
              subst (λ (l : Limits × List Event). MayBeBorn l.0 l.1 i) (λ j. (sym (limits_are k t) j, rule.1 j)) (ahead k (record { words = ws; homes = t.state.homes; views = set t.state.views t.id (view_after a) }) rule.0 i stage root u (still x (seat.known x p)) (ap (λ g. end_of g u) rule.1 ∙ un));
          output = λ i stage root u from count p is. let x : Known = RowHead i (Filled stage root (Some u)) in
              output k (record { words = ws; homes = t.state.homes; views = set t.state.views t.id (view_after a) }) rule.0 i stage root u (still x (seat.known x p)) from count (ap (λ g. end_of g u) rule.1 ∙ is);
        },
      )

  -- a step that stores nothing, and shows the seat the history so far
  module _ (word : ℕ) (kind : StepKind) (f : Hand → Hand) where
    abbrev pub looking_after : View
    looking_after = after kind f t.rule.history t.view.known t.view

    pub watched : Stays k t f → HandHolds k t.rule.history t.state.words (f (me k t))
        → Rule k record { words = set t.state.words word (get_or t.state.words word 0); homes = t.state.homes; views = set t.state.views t.id looking_after } × Grew kind f [] t.view looking_after
    watched stays mine = let h = t.rule.history in let seat = seat_holds k t in let seen = seat.seen in (
      subst (λ (ws : List ℕ). Rule k record { words = ws; homes = t.state.homes; views = set t.state.views t.id looking_after }) (sym (set-get_or t.state.words word 0))
          (moved k t record {
            kind = kind;
            f = f;
            seen = h;
            history = h;
            words = t.state.words;
            owner = t.rule.owner;
            stays = λ z. (stays z).0;
            begins = begins_refl h;
            grows = begins_refl h;
            world = t.rule.world;
            mine = mine;
            others = λ a ne draws hold. hold;
            known = t.view.known;
            knows = seat.known;
            still = λ x so. so;
            same = λ c. refl;
            draws = draws_still k t f stays;
            drew = λ b ne hold draws. draws;
            raised = λ b below. inl below;
            holds = holds_still k t f stays;
          }),
      record {
        between = seen.0;
        seen = sym (append_nil _ ∙ seen.1);
        also_seen = seat.also_seen;
        legal = subst (λ l. IsLegal l h) (sym (limits_are k t)) t.rule.world.legal;
        view = refl;
        mine = λ a p. (after_hand kind f h t.state.words mine a p).mine;
        open_own = λ a p. (after_hand kind f h t.state.words mine a p).units.open_own;
        ended = λ a p. (after_hand kind f h t.state.words mine a p).units.closed;
        run = after_run kind f h t.state.words t.rule.world.drawn (blocks_kept f stays) mine;
        knows = λ x p. p;
        is_so = λ x p. subst (λ l. IsSo l h x) (sym (limits_are k t)) (so_now k h t.state.words t.rule.world x (seat.known x p));
        ahead = λ i stage root u p un. subst (λ l. MayBeBorn l h i) (sym (limits_are k t)) (ahead k t.state t.rule i stage root u (seat.known (RowHead i (Filled stage root (Some u))) p) un);
        output = λ i stage root u from count p is. output k t.state t.rule i stage root u (seat.known (RowHead i (Filled stage root (Some u))) p) from count is;
      },
    )

    -- what was found there
    pub found_there : Found t.view.limits t.rule.history word (get_or t.state.words word 0)
    found_there = subst (λ l. Found l t.rule.history word (get_or t.state.words word 0)) (sym (limits_are k t)) (found k t.rule.history t.state.words t.rule.world word)

  -- an exchange that failed
  pub missed : (word : ℕ) (kind : StepKind) → Rule k record { words = set t.state.words word (get_or t.state.words word 0); homes = t.state.homes; views = set t.state.views t.id (looking_after word kind unchanged) }
      × Misses kind t.view word (get_or t.state.words word 0) (looking_after word kind unchanged)
  missed word kind = let w = watched word kind unchanged (λ a. (refl, refl)) (hand_holds k t) in (w.0, (w.1, found_there word kind unchanged))
