-- The order in which calls were made, and their points.
use Rattle.std.proofs.Common.{IsPermutation, ◌≡◌, ◌⊎◌, ◌<◌, ◌≤◌, List, [], ◌∷◌, ◌++◌, length, refl, sym, ap, subst, inl, inr, ⊎_elim, arith, length-append}
use Rattle.std.proofs.lemmas.List.Sorted.{IsPermutation-cons, IsPermutation-middle, IsPermutation-refl, IsPermutation-trans}
use mathlib.Core.List.{IsPrefix}
use mathlib.Core.Logic.{dite}
use native.Mathlib.Decide.{dec_le, dec_lt}
use Rattle.tp_model.specs.declared.event.Event.{Event}
use Rattle.tp_model.specs.History.{In, here, there}
use Rattle.tp_model.specs.declared.types.Limits.{Limits}
use Rattle.tp_model.specs.Steps.{IsLegal}
use Rattle.tp_model.proofs.Bridges.{begins_refl, begins_trans, element_of-id, in_cons, in_left, in_none, in_right}
use Rattle.tp_manager.specs.Calls.{IsLook}
use Rattle.tp_manager.specs.Observed.{SaidAtPoints, AreLinear, Before, Same, Called, Told, Met, MetBy, Then, Call, EachInOrder, IsCallIn, Linearizable, Precedes}
use Rattle.tp_manager.specs.Shown.{PassShown}

-- what came before has been seen
pub before_saw : {a b : PassShown} → Before a b → IsPrefix a.seen b.seen
before_saw {a} {b} Same = begins_refl _
before_saw {a} {b} (Called n f) = begins_trans _ _ _ f.opened f.closed
before_saw {a} {b} (Told r left then) = subst (λ h. IsPrefix h b.seen) left.seen then.saw
before_saw {a} {b} (Met m) = subst (IsPrefix a.seen) m.same m.first_saw
before_saw {a} {b} (MetBy m) = subst (IsPrefix a.seen) (sym m.same) m.second_saw
before_saw {a} {b} (Then x y) = begins_trans _ _ _ (before_saw x) (before_saw y)

in_longer : (a b : List Event) (e : Event) → IsPrefix a b → In e a → In e b
in_longer a b e t p = subst (In e) t.1 (in_left t.0 p)

pub each_in_order : EachInOrder
each_in_order n m a b c d first between second = let saw = begins_trans _ _ _ (before_saw between) second.opened in record {
  points = λ p q ip iq. begins_trans _ _ _ ip.seen (begins_trans _ _ _ saw iq.opened);
  made = λ e q adds iq. in_longer b.seen q e (begins_trans _ _ _ saw iq.opened) (subst (In e) (sym adds.seen) (in_right adds.before here));
  makes = λ e p adds ip. begins_trans _ _ _ ip.seen (begins_trans _ _ _ (before_saw between) adds.begins);
}

-- of two beginnings of one history the shorter begins the longer
begins_shorter : (a b h : List Event) → IsPrefix a h → IsPrefix b h → length a ≤ length b → IsPrefix a b
begins_shorter [] b h p q le = (b, refl)
begins_shorter (x ∷ a) [] h p q le = absurd (omega arith)
begins_shorter (x ∷ a) (y ∷ b) [] p q le = let e : x ∷ (a ++ p.0) ≡ [] = p.1 in absurd cc
begins_shorter (x ∷ a) (y ∷ b) (z ∷ h) p q le =
    let e : x ∷ (a ++ p.0) ≡ z ∷ h = p.1 in let f : y ∷ (b ++ q.0) ≡ z ∷ h = q.1 in
    let one : a ++ p.0 ≡ h = cc in let two : b ++ q.0 ≡ h = cc in
    let t = begins_shorter a b h (p.0, one) (q.0, two) (omega arith) in let g : a ++ t.0 ≡ b = t.1 in
    let whole : x ∷ (a ++ t.0) ≡ y ∷ b = cc in (t.0, whole)

-- a call goes first whose point is the shorter; where these are one, the one that returned first
abbrev GoesFirst : Call → Call → Type 0
GoesFirst c d = (length c.point < length d.point) ⊎ ((length c.point ≡ length d.point) × (c.returned ≤ d.returned))

one_first : (c d : Call) → GoesFirst c d ⊎ GoesFirst d c
one_first c d = dite (dec_lt (length c.point) (length d.point)) (λ p. inl (inl p)) (λ p. dite (dec_lt (length d.point) (length c.point)) (λ q. inr (inl q))
    (λ q. dite (dec_le c.returned d.returned) (λ r. inl (inr (omega arith, r))) (λ r. inr (inr (omega arith, omega arith)))))

first_then : (c d e : Call) → GoesFirst c d → GoesFirst d e → GoesFirst c e
first_then c d e x y = ⊎_elim (λ p. ⊎_elim (λ q. inl (omega arith)) (λ q. let same = q.0 in inl (omega arith)) y)
    (λ p. let same = p.0 in let by = p.1 in ⊎_elim (λ q. inl (omega arith)) (λ q. let again = q.0 in let then = q.1 in inr (omega arith, omega arith)) y) x

abbrev AreSorted : List Call → Type 0
AreSorted [] = Unit {0}
AreSorted (c ∷ calls) = ((d : Call) → In d calls → GoesFirst c d) × AreSorted calls

abbrev Order : List Call → Type 0
Order calls = (order : List Call) × IsPermutation calls order × AreSorted order × ((d : Call) → In d order → In d calls)

put_in : (c : Call) (calls : List Call) → AreSorted calls → Order (c ∷ calls)
put_in c [] sorted = (c ∷ [], IsPermutation-refl _, ((λ d i. absurd (in_none i)), tt), λ d i. i)
put_in c (d ∷ calls) sorted = ⊎_elim
    (λ first. (c ∷ d ∷ calls, IsPermutation-refl _, ((λ e i. ⊎_elim (λ same. subst (GoesFirst c) (sym same) first) (λ j. first_then c d e first (sorted.0 e j)) (in_cons i)), sorted), λ e i. i))
    (λ later. let t = put_in c calls sorted.1 in (
      d ∷ t.0,
      IsPermutation-trans (c ∷ d ∷ calls) (d ∷ c ∷ calls) (d ∷ t.0) (IsPermutation-middle (c ∷ []) d calls) (IsPermutation-cons d (c ∷ calls) t.0 t.1),
      ((λ e i. ⊎_elim (λ same. subst (GoesFirst d) (sym same) later) (λ j. sorted.0 e j) (in_cons (t.3 e i))), t.2),
      λ e i. ⊎_elim (λ same. subst (λ z. In z (c ∷ d ∷ calls)) (sym same) (there here)) (λ j. ⊎_elim (λ same. subst (λ z. In z (c ∷ d ∷ calls)) (sym same) here) (λ k. there (there k)) (in_cons (t.3 e j))) (in_cons i),
    ))
    (one_first c d)

sort : (calls : List Call) → Order calls
sort [] = ([], IsPermutation-refl _, tt, λ d i. i)
sort (c ∷ calls) = let t = sort calls in let u = put_in c t.0 t.2 in (
  u.0,
  IsPermutation-trans (c ∷ calls) (c ∷ t.0) u.0 (IsPermutation-cons c calls t.0 t.1) u.1,
  u.2,
  λ d i. ⊎_elim (λ same. subst (λ z. In z (c ∷ calls)) (sym same) here) (λ j. there (t.3 d j)) (in_cons (u.3 d i)),
)

-- a point of a call that precedes another is no later
points_ascend : (l : Limits) (h : List Event) (c d : Call) → IsCallIn l h c → IsCallIn l h d → Precedes c d → IsPrefix c.point d.point
points_ascend l h c d one two before = (each_in_order _ _ _ _ _ _ one.follows before.1 two.follows).points c.point d.point one.at_point two.at_point

begins_length : (a b : List Event) → IsPrefix a b → length a ≤ length b
begins_length a b t = let e = sym (ap length t.1) in omega (arith, length-append a t.0)

linear_pair : (l : Limits) (h : List Event) (c d : Call) → IsCallIn l h c → IsCallIn l h d → GoesFirst c d → IsPrefix c.point d.point × ¬ Precedes d c
linear_pair l h c d one two first = (
  begins_shorter c.point d.point h (begins_trans _ _ _ one.at_point.seen one.within) (begins_trans _ _ _ two.at_point.seen two.within) (⊎_elim (λ p. omega arith) (λ p. let same = p.0 in omega arith) first),
  λ before. let less = begins_length d.point c.point (points_ascend l h d c two one before) in let then = before.0 in let takes = one.takes_time in
      ⊎_elim (λ p. absurd (omega arith)) (λ p. let by = p.1 in absurd (omega arith)) first,
)

linear_sorted : (l : Limits) (h : List Event) (calls : List Call) → ((c : Call) → In c calls → IsCallIn l h c) → AreSorted calls → AreLinear calls
linear_sorted l h [] each sorted = tt
linear_sorted l h (c ∷ calls) each sorted = ((λ d i. linear_pair l h c d (each c here) (each d (there i)) (sorted.0 d i)), linear_sorted l h calls (λ d i. each d (there i)) sorted.1)

pub linearizable : (l : Limits) → Linearizable l
linearizable l h calls each = let t = sort calls in (t.0, t.1, linear_sorted l h t.0 (λ c i. each c (t.3 c i)) t.2)

pub said_at_points : (l : Limits) → SaidAtPoints l
said_at_points l = record {
  made = λ n e old new lim follows adds. (new.seen, record { opened = follows.closed; seen = begins_refl new.seen }, (adds.before, adds.seen, subst (λ (z : Limits). IsLegal z new.seen) lim follows.shows.legal));
  found = λ id look old new reads. let t = reads.0 in let same : id ≡ look.element.id = sym (element_of-id t.0 id look.element t.2.0) in (t.0, t.1, subst (λ i. IsLook l i look t.0) same t.2);
  idle = λ stage old new x none born of. none x born of;
}
