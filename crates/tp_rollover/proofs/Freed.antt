-- A rollover of a manager none of whose passes has a unit open.
use Rattle.std.proofs.Common.{◌≡◌, ℕ, Option, None, Some, List, [], ◌∷◌, ◌++◌, get_or, map, IfSome, refl, sym, ◌∙◌, ap, subst, ⊎_elim}
use Rattle.tp_model.specs.declared.types.Limits.{Limits}
use Rattle.tp_model.specs.declared.types.Status.{Status}
use Rattle.tp_model.specs.declared.types.Status.TheVariants.{Waiting, Held, Consumed, Parked, Killed}
use Rattle.tp_model.specs.declared.event.Event.{Event}
use Rattle.tp_model.specs.declared.event.Event.TheVariants.{Kill}
use Rattle.tp_model.specs.History.{In, status_of}
use Rattle.tp_model.proofs.Bridges.{append_nil, born_or_not}
use Rattle.tp_model.proofs.Histories.{unborn_waits}
use Rattle.tp_manager.specs.Shown.{KeeperShown, PassShown}
use Rattle.tp_rollover.specs.Answers.{Rolls}
use Rattle.tp_rollover.specs.Faults.{AreFree}
use Rattle.tp_rollover.specs.Hands.{HasOpen, holder_of}
use Rattle.tp_rollover.specs.Laws.{FreeIsPlain, RollsPlainly}
use Rattle.tp_rollover.specs.Rolls.{IsSame, ends, kills}
use Rattle.tp_rollover.specs.Survivors.{AreHands, AreInHand, AreUnheld, IsLiving}
use Rattle.tp_rollover.specs.declared.moved.Moved.{Moved}
use Rattle.tp_rollover.specs.declared.survivors.Survivor.{Survivor}
use Rattle.tp_rollover.proofs.Carrying.{each_of}
use Rattle.tp_rollover.proofs.Lists.{in_at}
use Rattle.tp_rollover.proofs.Tallies.{legal_before}

same_free : (l k : Limits) (is is' : Status) → ((u n : ℕ) → is ≡ Held u n → ⊥) → IsSame l k is is' → is' ≡ is
same_free l k (Waiting n) is' none same = same
same_free l k (Held u n) is' none same = absurd (none u n refl)
same_free l k (Consumed u) is' none same = absurd same
same_free l k (Parked n) is' none same = same
same_free l k Killed is' none same = absurd same

no_ends : (c : ℕ) (s : Status) → ((u n : ℕ) → s ≡ Held u n → ⊥) → ends c s ≡ []
no_ends c (Waiting n) none = refl
no_ends c (Held u n) none = absurd (none u n refl)
no_ends c (Consumed u) none = refl
no_ends c (Parked n) none = refl
no_ends c Killed none = refl

kills_alone : (limit : ℕ) (h : List Event) (c : ℕ) (ms : List Moved) → ((i u n : ℕ) → status_of limit h i ≡ Held u n → ⊥) → kills limit h c ms ≡ map (λ (m : Moved). Kill c m.old) ms
kills_alone limit h c [] none = refl
kills_alone limit h c (m ∷ ms) none =
    ap (λ es. es ++ Kill c m.old ∷ kills limit h c ms) (no_ends c (status_of limit h m.old) (none m.old))
    ∙ ap (λ es. Kill c m.old ∷ es) (kills_alone limit h c ms none)

none_open : (ps : List PassShown) (c : ℕ) → AreFree ps → HasOpen ps c → ⊥
none_open ps c free has =
    let none = each_of (λ (p : PassShown). p.open_unit ≡ None) ps has.0 free has.1 in
    let q : None ≡ Some has.3 = sym none ∙ has.4 in
    absurd cc

module _ (l k : Limits) (old' new' : KeeperShown) (olds olds' news : List PassShown) (moved : List Moved) (r : Rolls l k old' new' olds olds' news moved) (free : AreFree olds) where
  abbrev h : List Event
  h = r.before

  none_named : (m : Moved) (u n : ℕ) → In m moved → status_of l.attempts h m.old ≡ Held u n → ⊥
  none_named m u n p held = none_open olds (holder_of l u) free (r.hands.had m p u n held)

  idle : (i u n : ℕ) → status_of l.attempts h i ≡ Held u n → ⊥
  idle i u n held = ⊎_elim
      (λ t. let at : status_of l.attempts h t.0.id ≡ Held u n = ap (status_of l.attempts h) t.2 ∙ held in
      let m = r.over.each t.0 t.1 (subst IsLiving (sym at) tt) in
      none_named m.0 u n m.1 (ap (status_of l.attempts h) m.2 ∙ at))
      (λ unborn. let q : Waiting 0 ≡ Held u n = sym (unborn_waits l h (legal_before l k 0 h old'.seen new'.seen moved r.over) i unborn) ∙ held in absurd cc)
      (born_or_not h i)

  given : r.over.given_up ≡ []
  given = ⊎_elim (λ none. none) (λ t. absurd (idle t.0 t.1 t.2 t.3)) r.over.own

  killed : old'.seen ≡ h ++ map (λ (m : Moved). Kill 0 m.old) moved
  killed = r.over.killed ∙ (ap (λ es. (h ++ es) ++ kills l.attempts (h ++ es) 0 moved) given
      ∙ (ap (λ z. z ++ kills l.attempts z 0 moved) (append_nil h) ∙ ap (λ es. h ++ es) (kills_alone l.attempts h 0 moved idle)))

  pub plain : RollsPlainly l k h old'.seen new'.seen moved
  plain = record {
    same = λ m p. same_free l k (status_of l.attempts h m.old) (status_of k.attempts new'.seen m.new) (λ u n held. none_named m u n p held) (r.over.carried m p).same;
    idle = idle;
    killed = killed;
  }

  pub free_again : AreFree news
  free_again = λ i d less. r.hands.free (get_or news i d) (in_at news i d less) (λ holds. idle holds.0 holds.1 holds.2 holds.3)

pub free_is_plain : FreeIsPlain
free_is_plain l k old' new' olds olds' news moved r free = (plain l k old' new' olds olds' news moved r free, free_again l k old' new' olds olds' news moved r free)
