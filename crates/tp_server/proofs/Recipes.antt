-- What a server that follows a recipe has done.
use Rattle.std.proofs.Common.{◌≡◌, ℕ, List, [], ◌∷◌, Some, Ok, Err, ap, ◌∙◌, map}
use Rattle.tp_model.specs.Drafts.{DraftView}
use Rattle.tp_model.specs.declared.types.Element.{Element}
use Rattle.tp_server.specs.declared.recipe.Declined.{Declined}
use Rattle.tp_server.specs.declared.recipe.Recipe.{Recipe}
use Rattle.tp_server.specs.Behaviour.{Allows, Done, Folds, Makes, behaviour_of}
use Rattle.tp_server.specs.Effect.{effect_of, fold_from, fold_of, registers_after}

-- it is the fold of the recipe
pub folds_recipe : (recipe : Recipe) (start : List ℕ) (ds : List Done) (end : List ℕ) → Folds (behaviour_of recipe) start ds end
    → fold_of recipe start (map (λ (d : Done). d.element) ds) ≡ Some end
folds_recipe recipe start [] end same = ap Some same
folds_recipe recipe start (d ∷ ds) end (next, (heard, came), others) =
    ap (λ x. fold_from recipe (registers_after x) (map (λ (d : Done). d.element) ds)) came ∙ folds_recipe recipe next ds end others

-- it declines what the recipe declines
pub declines_recipe : (recipe : Recipe) (r : List ℕ) (x : Element) (why : Declined) → Allows (behaviour_of recipe) r x (Err why) → effect_of recipe r x ≡ Err why
declines_recipe recipe r x why (heard, came) = came
