use Rattle.tp_desk.proofs.Recipes.{serves_recipe}
use Rattle.tp_desk.proofs.laws.serves_recipe.Goals as goal

pub returns : goal.returns
returns c = serves_recipe
