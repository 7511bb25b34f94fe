-- A mark is loaded, and raised.
use Rattle.std.proofs.Common.{◌≡◌, ℕ, ◌+◌, ◌*◌, ◌<◌, ◌≤◌, eqb, List, ◌∷◌, set, get_or, sym, refl, ap, ◌∙◌, subst, inl, inr, ⊎_elim, arith, eq-eqb, ne_eqb, Some}
use mathlib.Core.Logic.{dite}
use native.Mathlib.Decide.{dec_le, ℕ_discrete}
use prog.Atomic.{either}
use lib.Seq.{set-get_or}
use Rattle.tp_model.specs.declared.trace.StepKind.TheVariants as kinds
use Rattle.tp_model.specs.declared.types.Limits.{Limits}
use Rattle.tp_model.specs.History.{Aborted, IsSettled, status_of}
use Rattle.tp_model.proofs.Bridges.{begins_refl, end_stays, found_later, in_cons}
use Rattle.tp_model.proofs.LawProofs.{settled_stay}
use Rattle.tp_model.specs.History.{here, there, In}
use Rattle.tp_rule.specs.Places.{IsThere, MarkWord, mark_place}
use Rattle.tp_rule.specs.declared.packing.Head.TheVariants.{Filled}
use Rattle.tp_rule.specs.Doors.{Permits}
use Rattle.tp_rule.specs.Plays.{loads_mark, raises}
use Rattle.tp_rule.specs.Rule.{HandHolds, IsFinished, IsInside, IsUseless, MarkHolds, Rule, StillSo, World}
use Rattle.tp_rule.specs.Steps.{KnowsFinished, IsLow, KnowsUseless, after, unchanged}
use Rattle.tp_rule.specs.Views.{IsOnePass, hand}
use Rattle.tp_rule.specs.declared.view.Hand.{Hand}
use Rattle.tp_rule.specs.declared.view.Known.{Known}
use Rattle.tp_rule.specs.declared.view.Known.TheVariants.{MarkAbove, PartMark, RowHead, RowTail}
use Rattle.tp_rule.specs.declared.view.View.{View}
use Rattle.tp_rule.proofs.Frames.{Turn, hand_holds, hand_quiet, limits_are, mine_drawn, moved, seat_holds}
use Rattle.tp_rule.proofs.Owning.{own_inside}
use Rattle.tp_rule.proofs.Seats.{looks_knowing, one_has}
use Rattle.tp_rule.proofs.Storing.{MayStore, drawn_left, drawn_rises, heads_kept, row_left, still_left, stored}
use Rattle.tp_rule.proofs.Tellings.{inside_rows, low_below, other_full, useless_later, world_stored}

module _ (k : Limits) where
  -- marks at one place are one mark
  one_mark : (s p t q : ℕ) → IsThere k (MarkWord s p) → IsThere k (MarkWord t q) → mark_place k s p ≡ mark_place k t q → (s ≡ t) × (p ≡ q)
  one_mark s p t q a b e = let kind : s ≡ t = omega arith in let part : p ≡ q = omega arith in (kind, part)

  -- the load of a mark, which the seat remembers
  pub looks_mark : (v : View) (s p : ℕ) → IsOnePass v → v.limits ≡ k → IsThere k (MarkWord s p) → Permits k v (mark_place k s p) (λ n. n) (loads_mark (mark_place k s p) 0 0 v)
  looks_mark v s p one lim room st r id at = let x : ℕ = get_or st.words (mark_place k s p) 0 in let known : List Known = PartMark s p x ∷ v.known in
      let so : (z : Known) → In z known → StillSo k st.words z = λ z q. ⊎_elim (λ e. subst (StillSo k st.words) (sym e) (room, omega arith)) (λ o. (r.seats id v at).known z o) (in_cons q) in
      let t = looks_knowing k v (mark_place k s p) (one_has v one) st r id at known so (λ z q. there q) in (
        after kinds.Load unchanged r.history known v,
        t.0,
        (
          t.1,
          λ c q is inside. let same = one_mark s p c q room (subst (λ (l : Limits). IsThere l (MarkWord c q)) lim inside) (is ∙ ap (λ (l : Limits). mark_place l c q) lim) in (
            subst (λ (z : ℕ × ℕ). In (PartMark z.0 z.1 x) known) (λ i. (same.0 i, same.1 i)) here,
            subst (λ (l : Limits). IsLow l c r.history q x) (sym lim) (subst (λ (z : ℕ × ℕ). IsLow k z.0 r.history z.1 x) (λ i. (same.0 i, same.1 i)) (low_below k r.history st.words r.world s p x (room, omega arith))),
            λ n known_n. ((r.seats id v at).known (PartMark s p n) (subst (λ (z : ℕ × ℕ). In (PartMark z.0 z.1 n) v.known) (sym (λ i. (same.0 i, same.1 i))) known_n)).1,
          ),
        ),
      )

  -- what the seat knows finished is so
  done_is : (t : Turn k) (i : ℕ) → KnowsFinished t.view i → IsFinished k t.rule.history t.state.words i
  done_is t i d = let seat = seat_holds k t in let h = t.rule.history in ⊎_elim
      (λ s. inl (s.0, found_later t.view.seen h seat.seen i s.0 s.1, settled s.2))
      (λ n. let so = seat.known (RowHead i (Filled n.0 n.1 (Some n.2))) n.3 in inr (n.0, n.1, n.2, (so.1, so.2 (λ e. absurd cc)), end_stays t.view.seen h n.2 Aborted seat.seen n.4)) d
    where
      settled : IsSettled (status_of t.view.limits.attempts t.view.seen i) → IsSettled (status_of k.attempts t.rule.history i)
      settled s = let now : IsSettled (status_of k.attempts t.view.seen i) = subst (λ (l : Limits). IsSettled (status_of l.attempts t.view.seen i)) (limits_are k t) s in
          subst IsSettled (sym (settled_stay k t.view.seen t.rule.history i t.rule.world.legal (seat_holds k t).seen now)) now

  -- and what it knows of no use to a kind
  past_is : (t : Turn k) (s i : ℕ) → KnowsUseless t.view s i → IsUseless k s t.rule.history t.state.words i
  past_is t s i u = let seat = seat_holds k t in ⊎_elim (λ d. inl (done_is t i d))
      (λ a. ⊎_elim (λ f. let so = seat.known (RowHead i f.0) f.1 in inr (f.0, so.1, so.2 (other_full s f.0 f.2), f.2))
      (λ g. let so = seat.known (RowTail g.0 g.1 g.2) g.3 in let it = so.1 i g.4 g.5 in inr (Filled g.1 it.0 it.1, it.2, it.3, g.6)) a) u

  pub raises_go : (v : View) (word from to c p : ℕ) → IsOnePass v → v.limits ≡ k → IsThere k (MarkWord c p) → word ≡ mark_place k c p → from ≤ to → IsInside k p to
      → ((i : ℕ) → p * k.rows + from ≤ i → i < p * k.rows + to → KnowsUseless v c i) → Permits k v word (λ x. either (eqb x from) to x) (raises word from to v)
  raises_go v word from to c p one lim room place up top done s r id at = let t : Turn k = record { state = s; rule = r; id = id; view = v; at = at; one = one } in let x : ℕ = get_or s.words word 0 in let h = r.history in
      let seat = seat_holds k t in let seen = seat.seen in let mine = hand_holds k t in let ws : List ℕ = set s.words (mark_place k c p) to in dite (ℕ_discrete x from)
      (λ hit. let was : get_or s.words (mark_place k c p) 0 ≡ from = ap (λ z. get_or s.words z 0) (sym place) ∙ hit in
      let known : List Known = PartMark c p to ∷ v.known in
      let old = r.world.marks c p room in
      let marked : (d q : ℕ) → MarkWord c p ≡ MarkWord d q → MarkHolds k d h ws q to = λ d q e. let kind : c ≡ d = cc in let part : p ≡ q = cc in subst (λ (z : ℕ × ℕ). MarkHolds k z.0 h ws z.1 to) (λ i. (kind i, part i)) record {
        inside = top;
        below = λ i low high. useless_later k c h h s.words ws i (begins_refl h) r.world.legal (heads_kept k s.words (MarkWord c p) to room (λ j e. absurd cc) i (let all = inside_rows k p to room.2 top in omega arith))
            (dite (dec_le (p * k.rows + from) i) (λ past. past_is t c i (done i past high)) (λ not. old.below i low (omega arith)));
      } in
      let may : MayStore k s.words (MarkWord c p) to = record {
        head = λ j e. absurd cc;
        mark = λ d q e. let kind : c ≡ d = cc in let part : p ≡ q = cc in subst (λ (z : ℕ × ℕ). get_or s.words (mark_place k z.0 z.1) 0 ≤ to) (λ i. (kind i, part i)) (omega arith);
        count = λ e. absurd cc;
        word = λ i j e. absurd cc;
      } in
      let world : World k h ws = world_stored k h h s.words (MarkWord c p) to r.world r.world.legal (begins_refl h) room tt (λ w there _. r.world.tells w there) may marked in
      let still : (z : Known) → StillSo k s.words z → StillSo k ws z = still_left k s.words (MarkWord c p) to room r.world.wide may in let rises = drawn_rises k s.words (MarkWord c p) to room r.world.wide may in
      let now : get_or ws (mark_place k c p) 0 ≡ to = stored k s.words (MarkWord c p) to room r.world.wide in
      let quiet : (a : Hand) → HandHolds k h s.words a → HandHolds k h ws a = λ a hold. hand_quiet k h s.words ws a rises hold (λ first end i own low high. let top = own_inside k a.number a.blocks first end own in row_left k s.words (MarkWord c p) to room i (omega arith) (λ q. cc)) in
      let rule = moved k t record {
        kind = kinds.Raise;
        f = unchanged;
        seen = v.seen;
        history = h;
        words = ws;
        owner = r.owner;
        stays = λ a. refl;
        begins = seen;
        grows = begins_refl h;
        world = world;
        mine = quiet (hand v) mine;
        others = λ b _ _ hold. quiet b hold;
        known = known;
        knows = λ z q. ⊎_elim (λ e. subst (StillSo k ws) (sym e) (room, omega arith)) (λ o. still z (seat.known z o)) (in_cons q);
        still = still;
        same = λ c. refl;
        draws = mine_drawn k t;
        drew = λ b ne hold draws. draws;
        raised = λ b below. inl (drawn_left k s.words (MarkWord c p) to room (λ q. cc) b below);
        holds = λ b has. has;
      } in (
        after kinds.Raise unchanged v.seen known v,
        subst (λ (z : ℕ × ℕ). Rule k record { words = set s.words z.0 z.1; homes = s.homes; views = set s.views id (after kinds.Raise unchanged v.seen known v) }) (λ i. (sym place i, sym (ap (λ b. either b to x) (eq-eqb x from hit)) i)) rule,
        λ d q is inside. let same = one_mark c p d q room (subst (λ (l : Limits). IsThere l (MarkWord d q)) lim inside) (sym place ∙ (is ∙ ap (λ (l : Limits). mark_place l d q) lim)) in (
          (refl, λ z o. there o, λ z o. ⊎_elim (λ e. inr (inl (e ∙ (λ i. PartMark (same.0 i) (same.1 i) to)))) (λ o'. inl o') (in_cons o)),
          λ _. subst (λ (z : ℕ × ℕ). In (PartMark z.0 z.1 to) known) (λ i. (same.0 i, same.1 i)) here,
          λ not _. absurd (not hit),
        ),
      ))
      (λ miss. let kept : (known : List Known) → ((z : Known) → In z known → StillSo k s.words z) → Rule k record { words = set s.words word (either (eqb x from) to x); homes = s.homes; views = set s.views id (after kinds.Raise unchanged v.seen known v) } = λ known knows.
      subst (λ (z : List ℕ). Rule k record { words = z; homes = s.homes; views = set s.views id (after kinds.Raise unchanged v.seen known v) }) (sym (ap (λ z. set s.words word z) (ap (λ b. either b to x) (ne_eqb x from miss)) ∙ set-get_or s.words word 0)) (moved k t record {
        kind = kinds.Raise;
        f = unchanged;
        seen = v.seen;
        history = h;
        words = s.words;
        owner = r.owner;
        stays = λ a. refl;
        begins = seen;
        grows = begins_refl h;
        world = r.world;
        mine = mine;
        others = λ b _ _ hold. hold;
        known = known;
        knows = knows;
        still = λ z so. so;
        same = λ c. refl;
        draws = mine_drawn k t;
        drew = λ b ne hold draws. draws;
        raised = λ b below. inl below;
        holds = λ b has. has;
      }) in dite (dec_le (from + 1) x)
      (λ above. let more : from < get_or s.words word 0 = omega arith in let high : from < get_or s.words (mark_place k c p) 0 = subst (λ z. from < get_or s.words z 0) place more in let known : List Known = MarkAbove c p from ∷ v.known in (
        after kinds.Raise unchanged v.seen known v,
        kept known (λ z q. ⊎_elim (λ e. subst (StillSo k s.words) (sym e) (room, high)) (λ o. seat.known z o) (in_cons q)),
        λ d q is inside. let same = one_mark c p d q room (subst (λ (l : Limits). IsThere l (MarkWord d q)) lim inside) (sym place ∙ (is ∙ ap (λ (l : Limits). mark_place l d q) lim)) in (
          (refl, λ z o. there o, λ z o. ⊎_elim (λ e. inr (inr (e ∙ (λ i. MarkAbove (same.0 i) (same.1 i) from)))) (λ o'. inl o') (in_cons o)),
          λ hit. absurd (miss hit),
          λ _ _. subst (λ (z : ℕ × ℕ). In (MarkAbove z.0 z.1 from) known) (λ i. (same.0 i, same.1 i)) here,
        ),
      ))
      (λ below. (
        after kinds.Raise unchanged v.seen v.known v,
        kept v.known seat.known,
        λ d q is inside. let same = one_mark c p d q room (subst (λ (l : Limits). IsThere l (MarkWord d q)) lim inside) (sym place ∙ (is ∙ ap (λ (l : Limits). mark_place l d q) lim)) in (
          (refl, λ z o. o, λ z o. inl o),
          λ hit. absurd (miss hit),
          λ _ found. let least : from ≤ get_or s.words (mark_place k d q) 0 = (seat.known (PartMark d q from) found).1 in let at_word : get_or s.words (mark_place k d q) 0 ≡ x = ap (λ (z : ℕ × ℕ). get_or s.words (mark_place k z.0 z.1) 0) (λ i. (sym same.0 i, sym same.1 i)) ∙ sym (ap (λ z. get_or s.words z 0) place) in absurd (miss (omega arith)),
        ),
      )))
