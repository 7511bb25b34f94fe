-- The lines that make servers.
use Rattle.std.specs.Prelude.{ℕ, List, is_ok, Result, Ok}
use Rattle.tp_script.specs.declared.fault.LineFault.{LineFault}
use Rattle.tp_script.specs.declared.fault.LineFault.TheVariants.{BadRecipe}
use Rattle.tp_script.specs.LineWords.{◌>>=◌, require}
use Rattle.tp_script.specs.ServerLines.{recipe_at, shape_at}
use Rattle.tp_server.specs.Check.{check_of}
use Rattle.tp_lines.specs.Lines.{ServerLineView}
use Rattle.tp_lines.specs.Words.{name_at}

-- NAME KIND STAGE REGISTERS ACT OUT..: the words come first, then the name, then the numbers
unfoldable pub server_said : List (List ℕ) → Result ServerLineView LineFault
server_said ws = do
  shape ← shape_at ws
  name ← name_at shape.name
  recipe ← recipe_at shape
  _ ← require (is_ok (check_of recipe)) BadRecipe
  Ok (record { name = name; kind = shape.kind; recipe = recipe })
