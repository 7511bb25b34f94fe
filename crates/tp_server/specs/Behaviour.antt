-- What a server does with the elements that it takes, as the server says it.
use Rattle.std.specs.Prelude.{◌≡◌, ℕ, List, [], ◌∷◌, Option, Some, None, Result, Ok}
use Rattle.tp_model.specs.Drafts.{DraftView}
use Rattle.tp_model.specs.declared.types.Element.{Element}
use Rattle.tp_server.specs.declared.recipe.Declined.{Declined}
use Rattle.tp_server.specs.declared.recipe.Recipe.{Recipe}
use Rattle.tp_server.specs.Effect.{Effect, effect_of}
use Rattle.tp_server.specs.Pending.{Pending}

-- The stage whose elements a server takes, and its effect. The effect is a function of the registers of
-- committed work, of the element, and of the numbers that the server hears from outside meanwhile. It gives
-- what the server does, or why it declines the element. A server that hears nothing leaves the third argument
-- alone.
pub record Behaviour : Type 0 where
  pub stage : ℕ
  pub effect : List ℕ → Element → List ℕ → Result Effect Declined

-- this may come of an element: the effect gives it for something that is heard
abbrev pub Allows : Behaviour → List ℕ → Element → Result Effect Declined → Type 0
Allows behaviour registers element came = (heard : List ℕ) × (behaviour.effect registers element heard ≡ came)

-- what is prepared is the work of this very element, with these drafts, and the server may do it
abbrev pub IsMade : Behaviour → List ℕ → Element → Option Pending → List DraftView → Type 0
IsMade behaviour registers element None drafts = ⊥
IsMade behaviour registers element (Some p) drafts =
    (p.prepared_for ≡ element)
    × Allows behaviour registers element (Ok (record { registers = p.registers; drafts = drafts }))

-- it may come to these drafts
abbrev pub Makes : Behaviour → List ℕ → Element → List DraftView → Type 0
Makes behaviour registers element drafts =
    (after : List ℕ) × Allows behaviour registers element (Ok (record { registers = after; drafts = drafts }))

-- work that was committed: its element, and the drafts that were committed with it
pub record Done : Type 0 where
  pub element : Element
  pub drafts : List DraftView

-- from the first registers to the last ones by effects that the server may have, one for each work in order
abbrev pub Folds : Behaviour → List ℕ → List Done → List ℕ → Type 0
Folds behaviour start [] end = start ≡ end
Folds behaviour start (d ∷ ds) end =
    (next : List ℕ) × Allows behaviour start d.element (Ok (record { registers = next; drafts = d.drafts }))
    × Folds behaviour next ds end

-- what a server does that follows a recipe: it hears nothing
abbrev pub behaviour_of : Recipe → Behaviour
behaviour_of recipe = record {
  stage = recipe.stage;
  effect = λ registers element heard.
      effect_of recipe registers element;
}
