-- What a desk has served, after a few events more.
use Rattle.std.proofs.Common.{◌≡◌, ℕ, List, [], ◌∷◌, ◌++◌, Option, Some, None, length, drop, inl, inr, ⊎_elim, refl, sym, ◌∙◌, ap, subst, append_assoc}
use Rattle.std.proofs.lemmas.Option.{option_and_then_some}
use Rattle.std.proofs.lemmas.List.Elements.{filter_map-append}
use Rattle.std.specs.List.{filter_map, cons_option}
use Rattle.std.specs.Option.{option_map}
use mathlib.Core.List.{IsPrefix}
use Rattle.tp_model.specs.declared.types.Element.{Element}
use Rattle.tp_model.specs.declared.event.Event.{Event}
use Rattle.tp_model.specs.declared.event.Event.TheVariants.{Enqueue, Claim, Commit, Abort, Kill, Requeue}
use Rattle.tp_model.specs.Counts.{taken_by}
use Rattle.tp_model.specs.History.{In, here, there, UnitClaim, claim_by, claim_of, element_of}
use Rattle.tp_model.proofs.Bridges.{begins_trans, in_either, in_none}
use Rattle.tp_model.proofs.Histories.{element_of-kept}
use Rattle.tp_model.proofs.Lists.{first-kept, option_or-some, first-snoc, first-append, option_or-none}
use Rattle.tp_server.specs.Behaviour.{Behaviour, Done, Folds}
use Rattle.tp_server.proofs.Made.{folds-append}
use Rattle.tp_manager.specs.Calls.{HasEnded}
use Rattle.tp_manager.specs.Shown.{PassShown}
use Rattle.tp_desk.specs.Serving.{AreUnitsEnded, AreUnitsFresh, AreTaken, Leaves, Serves, done, done_by, done_with, gained}

dropped : (a more : List Event) → drop (length a) (a ++ more) ≡ more
dropped [] more = refl
dropped (x ∷ a) more = dropped a more

-- what is gained grows by what is added
pub gained_more : (a b more : List Event) → IsPrefix a b → gained a (b ++ more) ≡ gained a b ++ more
gained_more a b more p =
    let whole : b ++ more ≡ a ++ (p.0 ++ more) = ap (λ (l : List Event). l ++ more) (sym p.1) ∙ append_assoc a p.0 more in
    ap (drop (length a)) whole ∙ (dropped a (p.0 ++ more) ∙ ap (λ (l : List Event). l ++ more) (sym (dropped a p.0) ∙ ap (drop (length a)) p.1))

pub begun_more : (a b more : List Event) → IsPrefix a b → IsPrefix a (b ++ more)
begun_more a b more p = (p.0 ++ more, sym (append_assoc a p.0 more) ∙ ap (λ (l : List Event). l ++ more) p.1)

-- the list itself, and what it gained
pub whole : (a b : List Event) → IsPrefix a b → b ≡ a ++ gained a b
whole a b p = sym p.1 ∙ ap (λ (l : List Event). a ++ l) (sym (dropped a p.0) ∙ ap (drop (length a)) p.1)

-- a unit took the same element in longer lists
kept : (g more h news : List Event) (e : Event) (x : Element) → taken_by g h e ≡ Some x → taken_by (g ++ more) (h ++ news) e ≡ Some x
kept g more h news (Enqueue c y) x is = is
kept g more h news (Claim c u i n) x is = is
kept g more h news (Commit c u outs) x is =
    option_and_then_some (λ (t : UnitClaim). element_of h t.item) (claim_of g u) x is (λ t claimed found.
    rw (first-kept (claim_by u) g more t claimed) (element_of-kept h news t.item x found))
kept g more h news (Abort c u) x is = is
kept g more h news (Kill c i) x is = is
kept g more h news (Requeue c i k) x is = is

-- a unit that took the same element did the same work
same_work : (outs : List Element) (a b : Option Element) → a ≡ b → (xs ys : List Done) → xs ≡ ys
    → cons_option (option_map (done_with outs) a) xs ≡ cons_option (option_map (done_with outs) b) ys
same_work outs a b same xs ys others =
    ap (λ (o : Option Element). cons_option (option_map (done_with outs) o) xs) same
    ∙ ap (λ (l : List Done). cons_option (option_map (done_with outs) b) l) others

-- and so did all units that were committed
all_kept : (g more h news es : List Event) → ((c u : ℕ) (outs : List Element) → In (Commit c u outs) es → (x : Element) × (taken_by g h (Commit c u outs) ≡ Some x))
    → filter_map (done_by (g ++ more) (h ++ news)) es ≡ filter_map (done_by g h) es
all_kept g more h news [] all = refl
all_kept g more h news (Enqueue c y ∷ es) all = all_kept g more h news es (λ c u outs p. all c u outs (there p))
all_kept g more h news (Claim c u i n ∷ es) all = all_kept g more h news es (λ c u outs p. all c u outs (there p))
all_kept g more h news (Commit c u outs ∷ es) all =
    let one = all c u outs here in
    let after : taken_by (g ++ more) (h ++ news) (Commit c u outs) ≡ Some one.0 = kept g more h news (Commit c u outs) one.0 one.1 in
    same_work outs _ _ (after ∙ sym one.1) _ _ (all_kept g more h news es (λ c u outs p. all c u outs (there p)))
all_kept g more h news (Abort c u ∷ es) all = all_kept g more h news es (λ c u outs p. all c u outs (there p))
all_kept g more h news (Kill c i ∷ es) all = all_kept g more h news es (λ c u outs p. all c u outs (there p))
all_kept g more h news (Requeue c i k ∷ es) all = all_kept g more h news es (λ c u outs p. all c u outs (there p))

-- no claim among all is none among the first
unclaimed_before : (a b : List Event) (u : ℕ) → IsPrefix a b → claim_of b u ≡ None → claim_of a u ≡ None
unclaimed_before a b u p none =
    (option_or-none (claim_of a u) (claim_of (gained a b) u) (sym (first-append (claim_by u) a (gained a b)) ∙ (sym (ap (λ (l : List Event). claim_of l u) (whole a b p)) ∙ none))).0

-- the pass made these events more, which consumed these elements
pub serves_more : (behaviour : Behaviour) (start r r' : List ℕ) (f p q : PassShown) (more : List Event) (es : List Done)
    → q.number ≡ p.number → IsPrefix p.seen q.seen → q.mine ≡ p.mine ++ more
    → filter_map (done_by (gained f.mine p.mine ++ more) q.seen) more ≡ es
    → ((c u : ℕ) (outs : List Element) → In (Commit c u outs) more → (x : Element) × (taken_by (gained f.mine p.mine ++ more) q.seen (Commit c u outs) ≡ Some x))
    → Folds behaviour r es r'
    → AreUnitsFresh p.mine more
    → Serves behaviour start r f p → Serves behaviour start r' f q
serves_more behaviour start r r' f p q more es number seen adds took all folds fresh_more s =
    let g : List Event = gained f.mine p.mine in
    let now : gained f.mine q.mine ≡ g ++ more = ap (gained f.mine) adds ∙ gained_more f.mine p.mine more s.mine in
    let same : filter_map (done_by (g ++ more) q.seen) g ≡ done g p.seen =
    subst (λ (h : List Event). filter_map (done_by (g ++ more) h) g ≡ done g p.seen) seen.1 (all_kept g more p.seen seen.0 g s.claimed) in
    let total : done (g ++ more) q.seen ≡ done g p.seen ++ es =
    filter_map-append (done_by (g ++ more) q.seen) g more ∙ (ap (λ (xs : List Done). xs ++ filter_map (done_by (g ++ more) q.seen) more) same ∙ ap (λ (xs : List Done). done g p.seen ++ xs) took) in
    let folded : Folds behaviour start (done (g ++ more) q.seen) r' =
    subst (λ (ds : List Done). Folds behaviour start ds r') (sym total) (folds-append behaviour start r r' (done g p.seen) es s.folded folds) in
    let claimed : AreTaken (g ++ more) q.seen = λ c u outs at.
    ⊎_elim (λ before. let one = s.claimed c u outs before in
    (one.0, subst (λ (h : List Event). taken_by (g ++ more) h (Commit c u outs) ≡ Some one.0) seen.1 (kept g more p.seen seen.0 (Commit c u outs) one.0 one.1)))
    (λ after. all c u outs after) (in_either g more at) in
    let fresh : AreUnitsFresh f.mine (g ++ more) = λ u t claimed.
    ⊎_elim (λ before. s.fresh u t before) (λ after. unclaimed_before f.mine p.mine u s.mine (fresh_more u t after.1))
    (option_or-some (claim_of g u) (claim_of more u) t (sym (first-append (claim_by u) g more) ∙ claimed)) in
    record {
      number = number ∙ s.number;
      seen = begins_trans f.seen p.seen q.seen s.seen seen;
      mine = subst (IsPrefix f.mine) (sym adds) (begun_more f.mine p.mine more s.mine);
      claimed = subst (λ (l : List Event). AreTaken l q.seen) (sym now) claimed;
      fresh = subst (AreUnitsFresh f.mine) (sym now) fresh;
      folded = subst (λ (l : List Event). Folds behaviour start (done l q.seen) r') (sym now) folded;
    }

-- a unit that ended has ended in a longer history
pub ended_later : (h k : List Event) (u : ℕ) → IsPrefix h k → HasEnded h u → HasEnded k u
ended_later h k u b e = subst (λ (l : List Event). HasEnded l u) b.1 (e.0, first-kept _ h b.0 e.0 e.1)

-- all units have ended, where the open one has
pub all_ended : (g h k : List Event) (o : Option ℕ) (u : ℕ) → IsPrefix h k → o ≡ Some u → HasEnded k u → AreUnitsEnded o g h → AreUnitsEnded None g k
all_ended g h k o u b is e all = λ v t claimed.
    ⊎_elim (λ same. inr (subst (HasEnded k) (some_same u v (sym is ∙ same)) e)) (λ old. inr (ended_later h k v b old)) (all v t claimed)
  where
    some_same : (x y : ℕ) → Some x ≡ Some y → x ≡ y
    some_same x y e = cc

-- they stay so
pub still_ended : (g h k : List Event) (o : Option ℕ) → IsPrefix h k → AreUnitsEnded o g h → AreUnitsEnded o g k
still_ended g h k o b all = λ v t claimed. ⊎_elim (λ same. inl same) (λ old. inr (ended_later h k v b old)) (all v t claimed)

-- an event that is no claim
pub ended_other : (g h : List Event) (o : Option ℕ) (e : Event) → ((u : ℕ) → claim_by u e ≡ None) → AreUnitsEnded o g h → AreUnitsEnded o (g ++ e ∷ []) h
ended_other g h o e other all = λ v t claimed.
    ⊎_elim (λ before. all v t before) (λ now. absurd (no_some _ t (other v) now.1)) (option_or-some (claim_of g v) (claim_by v e) t (sym (first-snoc (claim_by v) g e) ∙ claimed))
  where
    no_some : (x : Option UnitClaim) (t : UnitClaim) → x ≡ None → x ≡ Some t → ⊥
    no_some x t a b = cc

-- no claim among all is none among the gained
pub fresh_gained : (a b : List Event) (u : ℕ) → IsPrefix a b → claim_of b u ≡ None → claim_of (gained a b) u ≡ None
fresh_gained a b u p none =
    (option_or-none (claim_of a u) (claim_of (gained a b) u) (sym (first-append (claim_by u) a (gained a b)) ∙ (sym (ap (λ (l : List Event). claim_of l u) (whole a b p)) ∙ none))).1

-- ---- one desk after another

-- a unit of later events took the same element, where none of them was claimed before
taken_later : (g more h : List Event) → AreUnitsFresh g more → (c u : ℕ) (outs : List Element) (x : Element) → taken_by more h (Commit c u outs) ≡ Some x → taken_by (g ++ more) h (Commit c u outs) ≡ Some x
taken_later g more h fresh c u outs x is =
    option_and_then_some (λ (t : UnitClaim). element_of h t.item) (claim_of more u) x is (λ t claimed found.
    let none : claim_of g u ≡ None = fresh u t claimed in
    let both : claim_of (g ++ more) u ≡ Some t = first-append (claim_by u) g more ∙ rw (none) claimed in
    rw (both) found)

all_later : (g more h es : List Event) → AreUnitsFresh g more → ((c u : ℕ) (outs : List Element) → In (Commit c u outs) es → (x : Element) × (taken_by more h (Commit c u outs) ≡ Some x)) → filter_map (done_by (g ++ more) h) es ≡ filter_map (done_by more h) es
all_later g more h [] fresh all = refl
all_later g more h (Enqueue c y ∷ es) fresh all = all_later g more h es fresh (λ c u outs p. all c u outs (there p))
all_later g more h (Claim c u i n ∷ es) fresh all = all_later g more h es fresh (λ c u outs p. all c u outs (there p))
all_later g more h (Commit c u outs ∷ es) fresh all =
    let one = all c u outs here in
    let after : taken_by (g ++ more) h (Commit c u outs) ≡ Some one.0 = taken_later g more h fresh c u outs one.0 one.1 in
    same_work outs _ _ (after ∙ sym one.1) _ _ (all_later g more h es fresh (λ c u outs p. all c u outs (there p)))
all_later g more h (Abort c u ∷ es) fresh all = all_later g more h es fresh (λ c u outs p. all c u outs (there p))
all_later g more h (Kill c i ∷ es) fresh all = all_later g more h es fresh (λ c u outs p. all c u outs (there p))
all_later g more h (Requeue c i k ∷ es) fresh all = all_later g more h es fresh (λ c u outs p. all c u outs (there p))

-- what was served goes on from what was served before
pub serves_then : (behaviour : Behaviour) (start r r' : List ℕ) (f p q : PassShown) → Serves behaviour start r f p → Serves behaviour r r' p q → Serves behaviour start r' f q
serves_then behaviour start r r' f p q a b =
    let g : List Event = gained f.mine p.mine in
    let more : List Event = gained p.mine q.mine in
    let fresh : AreUnitsFresh g more = λ u t claimed. fresh_gained f.mine p.mine u a.mine (b.fresh u t claimed) in
    serves_more behaviour start r r' f p q more (done more q.seen) b.number b.seen (whole p.mine q.mine b.mine) (all_later g more q.seen more fresh b.claimed)
    (λ c u outs at. let one = b.claimed c u outs at in (one.0, taken_later g more q.seen fresh c u outs one.0 one.1)) b.folded b.fresh a

-- and the units of both have ended
pub ended_then : (f p q : PassShown) → IsPrefix f.mine p.mine → IsPrefix p.mine q.mine → IsPrefix p.seen q.seen
    → AreUnitsEnded None (gained f.mine p.mine) p.seen → AreUnitsEnded None (gained p.mine q.mine) q.seen → AreUnitsEnded None (gained f.mine q.mine) q.seen
ended_then f p q first mine seen a b =
    let g : List Event = gained f.mine p.mine in
    let more : List Event = gained p.mine q.mine in
    let both : gained f.mine q.mine ≡ g ++ more = ap (gained f.mine) (whole p.mine q.mine mine) ∙ gained_more f.mine p.mine more first in
    subst (λ (l : List Event). AreUnitsEnded None l q.seen) (sym both) (λ u t claimed.
    ⊎_elim (λ before. still_ended g p.seen q.seen None seen a u t before) (λ after. b u t after.1)
    (option_or-some (claim_of g u) (claim_of more u) t (sym (first-append (claim_by u) g more) ∙ claimed)))

-- what a desk leaves goes on from what another left before
pub leaves_then : (behaviour : Behaviour) (start r r' : List ℕ) (f p q : PassShown) → Serves behaviour start r f p
    → AreUnitsEnded None (gained f.mine p.mine) p.seen → Leaves behaviour r r' p q → Leaves behaviour start r' f q
leaves_then behaviour start r r' f p q serves ended b = record {
  shows = b.shows;
  serves = serves_then behaviour start r r' f p q serves b.serves;
  ended = ended_then f p q serves.mine b.serves.mine b.serves.seen ended b.ended;
}

-- ---- nothing was done yet

gained_none : (a : List Event) → gained a a ≡ []
gained_none [] = refl
gained_none (x ∷ a) = gained_none a

append_none : (l : List Event) → l ++ [] ≡ l
append_none [] = refl
append_none (x ∷ l) = ap (λ (m : List Event). x ∷ m) (append_none l)

none_is : (u : ℕ) (t : UnitClaim) → claim_of [] u ≡ Some t → ⊥
none_is u t e = cc

pub serves_none : (behaviour : Behaviour) (start : List ℕ) (p : PassShown) → Serves behaviour start start p p
serves_none behaviour start p = record {
  number = refl;
  seen = ([], append_none p.seen);
  mine = ([], append_none p.mine);
  claimed = subst (λ (l : List Event). AreTaken l p.seen) (sym (gained_none p.mine)) (λ c u outs at. absurd (in_none at));
  fresh = subst (AreUnitsFresh p.mine) (sym (gained_none p.mine)) (λ u t claimed. absurd (none_is u t claimed));
  folded = subst (λ (l : List Event). Folds behaviour start (done l p.seen) start) (sym (gained_none p.mine)) refl;
}

pub ended_none : (p : PassShown) → AreUnitsEnded None (gained p.mine p.mine) p.seen
ended_none p =
    subst (λ (l : List Event). AreUnitsEnded None l p.seen) (sym (gained_none p.mine)) (λ u t claimed. absurd (none_is u t claimed))
