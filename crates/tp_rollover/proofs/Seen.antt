-- Passes that look, one look after another.
use Rattle.std.proofs.Common.{◌≡◌, ℕ, List, [], ◌∷◌, ◌++◌, refl, sym, ◌∙◌, ap, subst, append_assoc, arith}
use Rattle.std.proofs.lemmas.List.{append_cancel_left}
use mathlib.Core.List.{IsPrefix}
use Rattle.tp_model.specs.declared.event.Event.{Event}
use Rattle.tp_model.proofs.Bridges.{append_nil, begins_refl, begins_trans}
use Rattle.tp_manager.specs.Calls.{AtPoint, Follows, IsQuiet, opening}
use Rattle.tp_manager.specs.Shown.{PassShown}
use Rattle.tp_rollover.specs.Thread.{Stays}

nil_start : {A : Type 0} (xs ys : List A) → xs ++ ys ≡ [] → xs ≡ []
nil_start [] ys e = refl
nil_start (x ∷ xs) ys e = absurd cc

-- between a history and itself there is no other
pub between : (a b c : List Event) → IsPrefix a b → IsPrefix b c → c ≡ a → b ≡ a
between a b c x y e =
    let none : x.0 ++ y.0 ≡ [] = append_cancel_left a (x.0 ++ y.0) [] (sym (append_assoc a x.0 y.0) ∙ (ap (λ z. z ++ y.0) x.1 ∙ (y.1 ∙ (e ∙ sym (append_nil a))))) in
    sym x.1 ∙ (ap (λ z. a ++ z) (nil_start x.0 y.0 none) ∙ append_nil a)

pub stays_refl : (p : PassShown) → Stays p p
stays_refl p = record { number = refl; quiet = record { mine = refl; open_unit = refl; run = (refl, refl, refl) }; sees = begins_refl p.seen; drawn = omega arith; turn = refl }

pub stays_trans : (p q r : PassShown) → Stays p q → Stays q r → Stays p r
stays_trans p q r a b = record {
  number = b.number ∙ a.number;
  quiet = record {
    mine = b.quiet.mine ∙ a.quiet.mine;
    open_unit = b.quiet.open_unit ∙ a.quiet.open_unit;
    run = (b.quiet.run.0 ∙ a.quiet.run.0, b.quiet.run.1 ∙ a.quiet.run.1, b.quiet.run.2 ∙ a.quiet.run.2);
  };
  sees = begins_trans p.seen q.seen r.seen a.sees b.sees;
  drawn = (let x = a.drawn in let y = b.drawn in omega arith);
  turn = b.turn ∙ a.turn;
}

-- a quiet call stays
pub quiet_stays : (n : ℕ) (p q : PassShown) → Follows n p q → IsQuiet p q → q.from ≡ p.from → Stays p q
quiet_stays n p q follows quiet turn = record {
  number = follows.number;
  quiet = quiet;
  sees = begins_trans p.seen (opening p q) q.seen follows.opened follows.closed;
  drawn = follows.drawn;
  turn = turn;
}

-- a point of a call of a pass that has seen nothing new is what it had seen
pub point_told : (n : ℕ) (p q : PassShown) (P : List Event → Type 0) → Follows n p q → AtPoint p q P → q.seen ≡ p.seen → P p.seen
point_told n p q P follows at same =
    subst P (between p.seen at.0 q.seen (begins_trans p.seen (opening p q) at.0 follows.opened at.1.opened) at.1.seen same) at.2

-- the first of two parts tells
pub told_first : (P : List Event → Type 0) (a b c : List Event) → IsPrefix a b → IsPrefix b c → (b ≡ a → P a) → c ≡ a → P a
told_first P a b c x y told e = told (between a b c x y e)

-- and so does the second
pub told_second : (P : List Event → Type 0) (a b c : List Event) → IsPrefix a b → IsPrefix b c → (c ≡ b → P b) → c ≡ a → P a
told_second P a b c x y told e = let m = between a b c x y e in subst P m (told (e ∙ sym m))
