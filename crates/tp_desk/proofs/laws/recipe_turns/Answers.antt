use Rattle.tp_server.proofs.Recipes.{declines_recipe}
use Rattle.tp_desk.proofs.laws.recipe_turns.Goals as goal

pub returns : goal.returns
returns c = record {
  finishes = λ recipe registers work old new outcome left finishes. (finishes.0, finishes.1.1, finishes.2, finishes.3);
  declines = λ recipe registers work why old new declines. (declines_recipe recipe registers work.element why declines.0, declines.1);
}
