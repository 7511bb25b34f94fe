-- What is so of a desk whose server follows a recipe.
use Rattle.std.specs.Prelude.{◌≡◌, ℕ, List, Some, Ok, Err}
use Rattle.tp_model.specs.Counts.{taken}
use Rattle.tp_model.specs.declared.types.Outcome.{Outcome}
use Rattle.tp_model.specs.declared.types.Work.{Work}
use Rattle.tp_server.specs.Behaviour.{behaviour_of}
use Rattle.tp_server.specs.Effect.{Effect, effect_of, fold_of}
use Rattle.tp_server.specs.declared.recipe.Declined.{Declined}
use Rattle.tp_server.specs.declared.recipe.Recipe.{Recipe}
use Rattle.tp_manager.specs.Calls.{Settles}
use Rattle.tp_manager.specs.Shown.{PassShown}
use Rattle.tp_desk.specs.Serving.{Serves, gained}
use Rattle.tp_desk.specs.Turns.{Declines, Finishes, GivesUpUnit, kept_by}

-- the server's registers of committed work are the fold of the recipe over the elements that the events
-- consumed
abbrev pub ServesRecipe : Type 0
ServesRecipe = (recipe : Recipe) (start registers : List ℕ) (old new : PassShown)
    → Serves (behaviour_of recipe) start registers old new
    → fold_of recipe start (taken (gained old.mine new.mine) new.seen) ≡ Some registers

-- the work was committed with the drafts of the recipe's effect, whose registers are left where it went
-- through
abbrev pub RecipeFinishes : Type 0
RecipeFinishes =
    (recipe : Recipe) (registers : List ℕ) (work : Work) (old new : PassShown) (outcome : Outcome)
    (left : List ℕ)
    → Finishes (behaviour_of recipe) registers work old new outcome left
    → (effect : Effect) × (effect_of recipe registers work.element ≡ Ok effect)
    × Settles effect.drafts old new outcome × (left ≡ kept_by outcome registers effect.registers)

-- the recipe declines the work, for this reason
abbrev pub RecipeDeclines : Type 0
RecipeDeclines = (recipe : Recipe) (registers : List ℕ) (work : Work) (why : Declined) (old new : PassShown)
    → Declines (behaviour_of recipe) registers work why old new
    → (effect_of recipe registers work.element ≡ Err why) × GivesUpUnit old new
