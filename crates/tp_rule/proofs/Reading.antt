-- What a load says of the place that it read.
use Rattle.std.proofs.Common.{◌≡◌, ℕ, List, [], ◌∷◌, ◌++◌, map, sym, ◌∙◌, subst, ap, append_assoc, Option, Some, None}
use Rattle.tp_rule.specs.Rule.{WordIs}
use Rattle.tp_rule.specs.Views.{IsOnePass, first_hand, hand}
use Rattle.tp_rule.specs.Steps.{Found, Loads, Misses, Grew, after, noted}
use Rattle.tp_model.specs.declared.event.Event.{Event}
use Rattle.tp_model.specs.declared.types.Limits.{Limits}
use Rattle.tp_rule.specs.declared.view.Hand.{Hand}
use Rattle.tp_rule.specs.declared.view.Known.{Known}
use Rattle.tp_model.specs.declared.trace.StepKind.{StepKind}
use Rattle.tp_rule.specs.declared.view.View.{View}
use Rattle.tp_rule.specs.Places.{Word, IsThere, place_of}
use mathlib.Core.List.{IsPrefix}

-- what a load says of a word that is there
pub told : (v w : View) (l : Limits) (x : Word) (word r : ℕ) → v.limits ≡ l → IsThere l x → word ≡ place_of l x → Loads v word r w → WordIs w.seen x r
told v w l x word r lim there at t = t.1 x (subst (λ (z : Limits). IsThere z x) (sym lim) there) (at ∙ ap (λ (z : Limits). place_of z x) (sym lim))

-- and what an exchange that failed does
pub missed_told : (kind : StepKind) (v w : View) (l : Limits) (x : Word) (word r : ℕ) → v.limits ≡ l → IsThere l x → word ≡ place_of l x → Misses kind v word r w → WordIs w.seen x r
missed_told kind v w l x word r lim there at t = t.1 x (subst (λ (z : Limits). IsThere z x) (sym lim) there) (at ∙ ap (λ (z : Limits). place_of z x) (sym lim))

pub found_told : (h : List Event) (k l : Limits) (x : Word) (word r : ℕ) → k ≡ l → IsThere l x → word ≡ place_of l x → Found k h word r → WordIs h x r
found_told h k l x word r lim there at t = t x (subst (λ (z : Limits). IsThere z x) (sym lim) there) (at ∙ ap (λ (z : Limits). place_of z x) (sym lim))

pub not_none : {A : Type 0} (o : Option A) (y : A) → o ≡ None → o ≡ Some y → ⊥
not_none {A} o y a b = let q : ◌≡◌ {A = Option A} None (Some y) = sym a ∙ b in absurd cc

-- the view after a step of a seat with one pass
pub one_after : (kind : StepKind) (f : Hand → Hand) (seen : List Event) (known : List Known) (v w : View) → IsOnePass v → w ≡ after kind f seen known v → IsOnePass w × (hand w ≡ noted kind seen (f (hand v))) × (w.limits ≡ v.limits)
one_after kind f seen known v w one is = let g : Hand → Hand = λ z. noted kind seen (f z) in let h : w.hands ≡ g (hand v) ∷ [] = ap (λ (z : View). z.hands) is ∙ ap (map g) one in
    let it : hand w ≡ g (hand v) = ap first_hand h in (h ∙ ap (λ (z : Hand). z ∷ []) (sym it), it, ap (λ (z : View). z.limits) is)

-- what was seen before begins what is seen now
pub grew_begins : (kind : StepKind) (f : Hand → Hand) (es : List Event) (v w : View) → Grew kind f es v w → IsPrefix v.seen w.seen
grew_begins kind f es v w g = (g.between ++ es, sym (append_assoc v.seen g.between es) ∙ sym g.seen)
