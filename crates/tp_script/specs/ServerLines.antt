-- The lines that make servers.
use Rattle.std.specs.Prelude.{ℕ, ◌-◌, ◌^◌, List, [], ◌∷◌, ◌++◌, length, ◌&&◌, Result}
use Rattle.std.specs.Prelude.{Ok, Err}
use Rattle.std.specs.Prelude.{nat_lt, nat_le, replicate, slice_set, position, slice_get, is_none, is_ok}
use Rattle.std.specs.List.{list_all}
use Rattle.std.specs.Str.{bytes_eq}
use Rattle.tp_server.specs.declared.recipe.Act.{Act}
use Rattle.tp_server.specs.declared.recipe.Recipe.{Recipe}
use Rattle.tp_server.specs.Check.{check_of}
use Rattle.tp_script.specs.declared.fault.LineFault.{LineFault}
use Rattle.tp_script.specs.declared.fault.LineFault.TheVariants.{Syntax, BadLimits, BadRecipe, BadName}
use Rattle.tp_script.specs.declared.script.Kind.{Kind}
use Rattle.tp_script.specs.declared.script.TheConstants.{MAX_SERVERS}
use Rattle.tp_script.specs.LineWords.{◌>>=◌, require, known, number_at, is_name, kind_at, act_and_place}
use Rattle.tp_script.specs.LineWords.{has_two_colons}
use Rattle.tp_script.specs.LineWords.{outputs_at}
use Rattle.tp_script.specs.Script.{HeadView, ServerView}
use Rattle.tp_model.specs.declared.types.TheConstants.{MAX_OUTPUTS}

-- the place of the server of this name
abbrev pub server_at : List ℕ → HeadView → Result ℕ LineFault
server_at name h = known (position (λ server. bytes_eq server.name name) h.servers) BadName

-- the words of a server line, each in its place
pub record Shape : Type 0 where
  pub name : List ℕ
  pub kind : Kind
  pub stage : List ℕ
  pub registers : List ℕ
  pub act : Act
  pub word : ℕ
  pub outputs : List (List ℕ)

-- NAME KIND STAGE REGISTERS ACT OUT.., with at most four OUT of two colons each
unfoldable pub shape_at : List (List ℕ) → Result Shape LineFault
shape_at (name ∷ kind ∷ stage ∷ registers ∷ act ∷ outputs) = do
  kind ← kind_at kind
  deed ← act_and_place act
  _ ← require (nat_le (length outputs) MAX_OUTPUTS && list_all has_two_colons outputs) Syntax
  Ok (record {
    name = name;
    kind = kind;
    stage = stage;
    registers = registers;
    act = deed.0;
    word = deed.1;
    outputs = outputs;
  })
shape_at ws = Err Syntax

-- a name that no server has
unfoldable pub new_name : List ℕ → HeadView → Result (List ℕ) LineFault
new_name name h = do
  _ ← require (is_name name && is_none (position (λ server. bytes_eq server.name name) h.servers)) BadName
  Ok name

-- the numbers of a server line
unfoldable pub recipe_at : Shape → Result Recipe LineFault
recipe_at shape = do
  stage ← number_at 255 shape.stage
  registers ← number_at 255 shape.registers
  outputs ← outputs_at shape.outputs
  Ok (record {
    stage = stage;
    registers = registers;
    act = shape.act;
    word = shape.word;
    outputs = record { items = outputs };
  })

-- the registers of a good recipe, all zero
unfoldable pub registers_for : Recipe → Result (List ℕ) LineFault
registers_for recipe = do
  _ ← require (is_ok (check_of recipe)) BadRecipe
  Ok (replicate recipe.registers 0)

-- the head with one server more
abbrev pub with_server : ServerView → HeadView → HeadView
with_server server h = record h { servers = h.servers ++ server ∷ [] }

-- the server that such words make, where there is room for it
unfoldable pub server_said : List (List ℕ) → HeadView → Result ServerView LineFault
server_said ws h = do
  shape ← shape_at ws
  name ← new_name shape.name h
  recipe ← recipe_at shape
  _ ← require (nat_lt (length h.servers) MAX_SERVERS) BadLimits
  registers ← registers_for recipe
  Ok (record { name = name; kind = shape.kind; recipe = recipe; registers = registers })

-- `server NAME KIND STAGE REGISTERS ACT OUT..`
unfoldable pub server_line : List (List ℕ) → HeadView → Result HeadView LineFault
server_line ws h = server_said ws h >>= λ server. Ok (with_server server h)

-- register k of a server begins with v
unfoldable pub with_start : ℕ → ℕ → ServerView → Result ServerView LineFault
with_start k v server = do
  _ ← require (nat_lt k (length server.registers)) BadRecipe
  Ok (record server { registers = slice_set server.registers k v })

-- register k of the server at a place begins with v
unfoldable pub begin_at : ℕ → ℕ → ℕ → HeadView → Result HeadView LineFault
begin_at place k v h = do
  server ← known (slice_get h.servers place) BadName
  server ← with_start k v server
  Ok (record h { servers = slice_set h.servers place server })

-- `start NAME K V`
unfoldable pub start_line : List ℕ × List ℕ × List ℕ → HeadView → Result HeadView LineFault
start_line (name, k, v) h = do
  _ ← require (is_name name) BadName
  place ← server_at name h
  k ← number_at (2 ^ 64 - 1) k
  v ← number_at (2 ^ 64 - 1) v
  begin_at place k v h
