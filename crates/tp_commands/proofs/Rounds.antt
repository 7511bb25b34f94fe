-- Turns of a round, and rounds of a drain, one behind the other.
use Rattle.std.proofs.Common.{◌≡◌, ℕ, suc, ◌+◌, ◌≤◌, ◌||◌, Bool, true, false, List, [], ◌∷◌, All, Option, length, refl, sym, ◌∙◌, ap, subst, arith}
use Rattle.std.specs.declared.alloc.Global.{Global}
use Rattle.std.specs.declared.dyn_box.DynBox.{DynBox}
use Rattle.tp_server.specs.Behaviour.{Behaviour}
use Rattle.tp_server.specs.Pending.{Pending}
use Rattle.tp_manager.specs.Shown.{KeeperShown, ManagerShown, PassShown}
use Rattle.tp_server.specs.declared.order.Order.{Order}
use Rattle.tp_report.specs.Answer.{answer_text, line}
use Rattle.tp_report.specs.declared.answer.Answer.TheVariants as answer
use Rattle.tp_commands.specs.declared.place.Place.{Place}
use Rattle.tp_commands.specs.Acting.{IsSteadyPlace, places_shown}
use Rattle.tp_commands.specs.Places.{AllLie, workers}
use Rattle.tp_commands.specs.Drains.{Drains, Round, RoundsClaim, Turn, TurnsBelow}
use Rattle.tp_commands.specs.Scenes.{Scene, passes_in}
use Rattle.tp_commands.specs.Told.{AreReady, IsScene}
use Rattle.tp_commands.specs.Units.{all_units_left}
use Rattle.tp_commands.proofs.Chains.{all_steady}
use Rattle.tp_commands.proofs.Gatherings.{all_in}
use Rattle.tp_commands.proofs.Slices.{one_scene, scene_there}
use Rattle.tp_commands.proofs.UnitsUsed.{count, turn_left}

pub or_true : (b : Bool) → true ≡ b || true
or_true true = refl
or_true false = refl

pub or_false : (b : Bool) → b ≡ b || false
or_false true = refl
or_false false = refl

module _ {X : Type 0} {F : X → Type 0} (behaviour : DynBox X Global F → Behaviour) (registers : DynBox X Global F → List ℕ) (pending : DynBox X Global F → Option Pending) where
  abbrev Box : Type 0
  Box = DynBox X Global F

  abbrev Is : List PassShown → List Box → List (Place X F) → Scene → Type 0
  Is ps ss os s = IsScene behaviour registers pending ps ss os s

  abbrev Ready : ManagerShown → List PassShown → List Box → List (Place X F) → Type 0
  Ready m ps ss os = AreReady behaviour registers pending m ps ss os

  -- as many places are shown as lie
  shown_long : (ps : List PassShown) (ss : List Box) (os : List (Place X F)) → AllLie behaviour registers pending ps ss os → length (places_shown behaviour registers pending ps ss os) ≡ length os
  shown_long [] [] [] all = refl
  shown_long [] [] (o ∷ os) all = absurd all
  shown_long [] (s ∷ ss) os all = absurd all
  shown_long (p ∷ ps) [] os all = absurd all
  shown_long (p ∷ ps) (s ∷ ss) [] all = absurd all
  shown_long (p ∷ ps) (s ∷ ss) (o ∷ os) all = ap suc (shown_long ps ss os all.1)

  pub places_long : (m : ManagerShown) (ps : List PassShown) (ss : List Box) (os : List (Place X F)) (a : Scene) → Ready m ps ss os → Is ps ss os a → length a.places ≡ length os
  places_long m ps ss os a ready is = ap length is.1 ∙ shown_long (workers (length ss) ps) ss os ready.lie

  -- what the turns so far have claimed
  abbrev pub Turned : Order → ManagerShown → ℕ → KeeperShown → List PassShown → List Box → List (Place X F) → Bool → KeeperShown → List PassShown → List Box → List (Place X F) → Type 0
  Turned order m n keeper ps ss os claims keeper' qs ts ns =
      (old : Scene) × (new : Scene) × Is ps ss os old × TurnsBelow order m n keeper old claims keeper' new × Is qs ts ns new

  abbrev pub TurnedOnce : Order → ManagerShown → ℕ → KeeperShown → List PassShown → List Box → List (Place X F) → Bool → KeeperShown → List PassShown → List Box → List (Place X F) → Type 0
  TurnedOnce order m n keeper ps ss os claims keeper' qs ts ns =
      (old : Scene) × (new : Scene) × Is ps ss os old × Turn order m n keeper old claims keeper' new × Is qs ts ns new

  module _ (order : Order) (m : ManagerShown) (n : ℕ) (keeper kept keeper' : KeeperShown) (ps qs rs : List PassShown) (ss ts us : List Box) (os ns vs : List (Place X F)) where
    -- one turn more
    pub turned_more : (a b c : Bool) → Turned order m n keeper ps ss os a kept qs ts ns → TurnedOnce order m n kept qs ts ns b keeper' rs us vs → c ≡ a || b → Turned order m (n + 1) keeper ps ss os c keeper' rs us vs
    turned_more a b c t o is =
        let same : o.0 ≡ t.1 = one_scene behaviour registers pending qs ts ns o.0 t.1 o.2 t.4 in
        let turn : Turn order m n kept t.1 b keeper' o.1 = subst (λ z. Turn order m n kept z b keeper' o.1) same o.3 in
        let all : TurnsBelow order m (suc n) keeper t.0 c keeper' o.1 = (kept, t.1, a, b, t.3, turn, is) in
        let next : suc n ≡ n + 1 = omega arith in
        (t.0, o.1, t.2, subst (λ k. TurnsBelow order m k keeper t.0 c keeper' o.1) next all, o.4)

  -- before the first turn
  pub turned_none : (order : Order) (m : ManagerShown) (keeper : KeeperShown) (ps : List PassShown) (ss : List Box) (os : List (Place X F)) → 1 ≤ length ps → Turned order m 0 keeper ps ss os false keeper ps ss os
  turned_none order m keeper ps ss os some =
      let a = scene_there behaviour registers pending ps ss os some in
      (a.0, a.0, a.1, (refl, refl, refl), a.1)

  -- what a turn uses up
  pub units_used : (order : Order) (m : ManagerShown) (n : ℕ) (keeper keeper' : KeeperShown) (ps qs : List PassShown) (ss ts : List Box) (os ns : List (Place X F)) (b : Bool) → Ready m ps ss os → Ready m qs ts ns
      → TurnedOnce order m n keeper ps ss os b keeper' qs ts ns → count b + all_units_left m.limits qs ≡ all_units_left m.limits ps
  units_used order m n keeper keeper' ps qs ss ts os ns b before after o =
      let was : passes_in o.0 ≡ ps = all_in behaviour registers pending m ps ss os o.0 before o.2 in
      let is : passes_in o.1 ≡ qs = all_in behaviour registers pending m qs ts ns o.1 after o.4 in
      subst (λ z. count b + all_units_left m.limits z ≡ all_units_left m.limits ps) is
      (turn_left order m n keeper keeper' o.0 o.1 b o.3 ∙ ap (all_units_left m.limits) was)

  -- a round
  abbrev pub WentRound : Order → ManagerShown → KeeperShown → List PassShown → List Box → List (Place X F) → Bool → KeeperShown → List PassShown → List Box → List (Place X F) → Type 0
  WentRound order m keeper ps ss os claims keeper' qs ts ns =
      (old : Scene) × (new : Scene) × Is ps ss os old × Round order m keeper old claims keeper' new × Is qs ts ns new

  pub whole_round : (order : Order) (m : ManagerShown) (n : ℕ) (keeper keeper' : KeeperShown) (ps qs : List PassShown) (ss ts : List Box) (os ns : List (Place X F)) (b : Bool) → Ready m ps ss os → n ≡ length os
      → Turned order m n keeper ps ss os b keeper' qs ts ns → WentRound order m keeper ps ss os b keeper' qs ts ns
  whole_round order m n keeper keeper' ps qs ss ts os ns b ready all t =
      let long : n ≡ length t.0.places = all ∙ sym (places_long m ps ss os t.0 ready t.2) in
      (t.0, t.1, t.2, subst (λ k. TurnsBelow order m k keeper t.0 b keeper' t.1) long t.3, t.4)

  -- rounds
  abbrev pub WentRounds : Order → ManagerShown → KeeperShown → List PassShown → List Box → List (Place X F) → KeeperShown → List PassShown → List Box → List (Place X F) → Type 0
  WentRounds order m keeper ps ss os keeper' qs ts ns =
      (n : ℕ) × (old : Scene) × (new : Scene) × Is ps ss os old × RoundsClaim order m n keeper old keeper' new × Is qs ts ns new

  pub rounds_none : (order : Order) (m : ManagerShown) (keeper : KeeperShown) (ps : List PassShown) (ss : List Box) (os : List (Place X F)) → 1 ≤ length ps → WentRounds order m keeper ps ss os keeper ps ss os
  rounds_none order m keeper ps ss os some =
      let a = scene_there behaviour registers pending ps ss os some in
      (0, a.0, a.0, a.1, (refl, refl), a.1)

  module _ (order : Order) (m : ManagerShown) (keeper kept keeper' : KeeperShown) (ps qs rs : List PassShown) (ss ts us : List Box) (os ns vs : List (Place X F)) where
    pub round_more : (b : Bool) → b ≡ true → WentRounds order m keeper ps ss os kept qs ts ns → WentRound order m kept qs ts ns b keeper' rs us vs → WentRounds order m keeper ps ss os keeper' rs us vs
    round_more b is t o =
        let same : o.0 ≡ t.2 = one_scene behaviour registers pending qs ts ns o.0 t.2 o.2 t.5 in
        (suc t.0, t.1, o.1, t.3, (kept, t.2, t.4, subst (λ c. Round order m kept t.2 c keeper' o.1) is (subst (λ z. Round order m kept z b keeper' o.1) same o.3)), o.4)

    -- and one that claims nothing
    pub drained : (text : List ℕ) (b : Bool) → b ≡ false → Ready m rs us vs → text ≡ line (answer_text answer.Drained) → WentRounds order m keeper ps ss os kept qs ts ns → WentRound order m kept qs ts ns b keeper' rs us vs
        → (old : Scene) × (new : Scene) × Is ps ss os old × Drains order m keeper old text keeper' new × Is rs us vs new
    drained text b is ready told t o =
        let same : o.0 ≡ t.2 = one_scene behaviour registers pending qs ts ns o.0 t.2 o.2 t.5 in (
          t.1,
          o.1,
          t.3,
          record {
            rounds = t.0;
            kept = kept;
            between = t.2;
            claiming = t.4;
            last = subst (λ c. Round order m kept t.2 c keeper' o.1) is (subst (λ z. Round order m kept z b keeper' o.1) same o.3);
            text_is = told;
            steady = subst (All IsSteadyPlace) (sym o.4.1) (all_steady behaviour registers pending (workers (length us) rs) us vs ready.lie);
          },
          o.4,
        )
