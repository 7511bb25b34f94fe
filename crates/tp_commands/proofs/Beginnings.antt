-- What is there before the first command.
use Rattle.std.proofs.Common.{◌≡◌, ℕ, List, [], ◌∷◌, All, Option, refl, ap, arith, length, map}
use Rattle.std.specs.declared.alloc.Global.{Global}
use Rattle.std.specs.declared.dyn_box.DynBox.{DynBox}
use Rattle.std.proofs.lemmas.List.Elements.{All-cons, All-nil}
use Rattle.tp_server.specs.Behaviour.{Behaviour, behaviour_of}
use Rattle.tp_server.specs.Pending.{Pending}
use Rattle.tp_manager.specs.Shown.{PassShown}
use Rattle.tp_script.specs.declared.script.ScriptServer.{ScriptServer}
use Rattle.tp_script.specs.Script.{ServerView, server_view}
use Rattle.tp_commands.specs.Acting.{new_place, new_places}
use Rattle.tp_commands.specs.Scenes.{IsNewPlace}

module _ {X : Type 0} {F : X → Type 0} (behaviour : DynBox X Global F → Behaviour) (registers : DynBox X Global F → List ℕ) (pending : DynBox X Global F → Option Pending) where
  abbrev Box : Type 0
  Box = DynBox X Global F

  pub all_new : (ps : List PassShown) (ss : List Box) → All IsNewPlace (new_places behaviour registers pending ps ss)
  all_new [] [] = All-nil IsNewPlace
  all_new [] (s ∷ ss) = All-nil IsNewPlace
  all_new (p ∷ ps) [] = All-nil IsNewPlace
  all_new (p ∷ ps) (s ∷ ss) = All-cons IsNewPlace (new_place behaviour registers pending p s) (new_places behaviour registers pending ps ss) (record { began = refl; work = refl; kept = refl }) (all_new ps ss)

  pub new_behaviours : (ps : List PassShown) (ss : List Box) → length ps ≡ length ss → map (λ p. p.desk.behaviour) (new_places behaviour registers pending ps ss) ≡ map behaviour ss
  new_behaviours [] [] long = refl
  new_behaviours [] (s ∷ ss) long = absurd (omega (arith, long))
  new_behaviours (p ∷ ps) [] long = absurd (omega (arith, long))
  new_behaviours (p ∷ ps) (s ∷ ss) long = ap (λ qs. behaviour s ∷ qs) (new_behaviours ps ss (omega (arith, long)))

  pub new_registers : (ps : List PassShown) (ss : List Box) → length ps ≡ length ss → map (λ p. p.desk.registers) (new_places behaviour registers pending ps ss) ≡ map registers ss
  new_registers [] [] long = refl
  new_registers [] (s ∷ ss) long = absurd (omega (arith, long))
  new_registers (p ∷ ps) [] long = absurd (omega (arith, long))
  new_registers (p ∷ ps) (s ∷ ss) long = ap (λ qs. registers s ∷ qs) (new_registers ps ss (omega (arith, long)))

-- what the lines of a script say, as it shows them
pub recipes_shown : (xs : List ScriptServer) → map (λ (x : ScriptServer). behaviour_of x.recipe) xs ≡ map (λ (x : ServerView). behaviour_of x.recipe) (map server_view xs)
recipes_shown [] = refl
recipes_shown (x ∷ xs) = ap (λ l. behaviour_of x.recipe ∷ l) (recipes_shown xs)

pub registers_shown : (xs : List ScriptServer) → map (λ (x : ScriptServer). x.registers) xs ≡ map (λ (x : ServerView). x.registers) (map server_view xs)
registers_shown [] = refl
registers_shown (x ∷ xs) = ap (λ l. x.registers ∷ l) (registers_shown xs)
