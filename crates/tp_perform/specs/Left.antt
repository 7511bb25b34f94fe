-- What desks began with and what they leave, also where a line could not be told.
use Rattle.std.specs.Prelude.{◌≡◌, ◌⊎◌, ℕ, List, Option, map}
use Rattle.std.specs.declared.alloc.Global.{Global}
use Rattle.std.specs.declared.dyn_box.DynBox.{DynBox}
use Rattle.tp_server.specs.Behaviour.{Behaviour}
use Rattle.tp_server.specs.Pending.{Pending}
use Rattle.tp_manager.specs.Shown.{PassShown}
use Rattle.tp_script.specs.declared.head.Act.{Act}
use Rattle.tp_script.specs.declared.head.Head.{Head}
use Rattle.tp_commands.specs.Scenes.{Stand}
use Rattle.tp_commands.specs.Told.{began_of}
use Rattle.tp_perform.specs.Standing.{ActTold, IsStand}
use Rattle.tp_perform.specs.declared.held.Held.{Held}

module _ {X : Type 0} {F : X → Type 0} (registers : DynBox X Global F → List ℕ) where
  -- what the pass and the registers of each desk were as it began
  abbrev pub began_in : Held X F → List (Option (PassShown × List ℕ))
  began_in h = map (began_of registers) h.places.items

-- the same of what is shown
abbrev pub began_at : Stand → List (Option (PassShown × List ℕ))
began_at s = map (λ p. p.began) s.scene.places

-- nothing is told to be done, or this was
abbrev pub OrSame : (Stand → Stand → Type 0) → Stand → Stand → Type 0
OrSame R old new = (new ≡ old) ⊎ R old new

-- it was done, whatever became of its answer
abbrev pub ActDone : Head → ℕ → Act → Stand → Stand → Type 0
ActDone head raced act = OrSame (λ old new. (text : List ℕ) × ActTold head raced act old text new)

module _ {X : Type 0} {F : X → Type 0} (behaviour : DynBox X Global F → Behaviour)
    (registers : DynBox X Global F → List ℕ) (pending : DynBox X Global F → Option Pending) where
  -- This was done, and the desks began as those do that are there.
  pub record Reaches (R : Stand → Stand → Type 0) (old new : Held X F) : Type 0 where
    pub before : Stand
    pub after : Stand
    pub was : IsStand behaviour registers pending old before
    pub done : R before after
    pub began : began_at after ≡ began_in registers new
