-- What a `server` line says.
use Rattle.tp_lines.specs.Names.{NameView}
use Rattle.tp_script.specs.declared.script.Kind.{Kind}
use Rattle.tp_server.specs.declared.recipe.Recipe.{Recipe}

-- what a server is called, its kind, and what it does with an element
pub record ServerLineView : Type 0 where
  pub name : NameView
  pub kind : Kind
  pub recipe : Recipe
