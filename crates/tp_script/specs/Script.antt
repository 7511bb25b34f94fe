-- A script and its head as contracts see them, without where they lie in memory.
use Rattle.std.specs.Prelude.{ℕ, ◌+◌, Bool, List, [], length, map, string_bytes}
use Rattle.tp_server.specs.declared.recipe.Recipe.{Recipe}
use Rattle.tp_script.specs.declared.head.Act.{Act}
use Rattle.tp_script.specs.declared.head.Head.{Head}
use Rattle.tp_script.specs.declared.script.Kind.{Kind}
use Rattle.tp_script.specs.declared.script.Settings.{Settings}
use Rattle.tp_script.specs.declared.script.ScriptServer.{ScriptServer}
use Rattle.tp_script.specs.declared.whole.Script.{Script}
use Rattle.tp_script.specs.Passes.{racing}

-- the limits that a head sets
pub record SettingsView : Type 0 where
  pub rows : ℕ
  pub units : ℕ
  pub attempts : ℕ
  pub spare : ℕ

-- a server line, and what its registers begin with
pub record ServerView : Type 0 where
  pub name : List ℕ
  pub kind : Kind
  pub recipe : Recipe
  pub registers : List ℕ

-- the lines before the first command: settings and servers
pub record HeadView : Type 0 where
  pub settings : SettingsView
  pub servers : List ServerView

-- a whole script: its head, what its commands ask for, and whether it asks for the closing account
pub record ScriptView : Type 0 where
  pub head : HeadView
  pub acts : List Act
  pub account : Bool

-- a head without lines
abbrev pub no_head : HeadView
no_head = record {
  settings = record { rows = 64; units = 256; attempts = 3; spare = 0 };
  servers = [];
}

-- how many passes a script needs: the client's, one for each server, and those of its races
abbrev pub passes : ScriptView → ℕ
passes s = 1 + length s.head.servers + racing s.acts

-- what settings show
abbrev pub settings_view : Settings → SettingsView
settings_view s = record { rows = s.rows; units = s.units; attempts = s.attempts; spare = s.spare }

-- what a server line shows
abbrev pub server_view : ScriptServer → ServerView
server_view s = record {
  name = string_bytes s.name;
  kind = s.kind;
  recipe = s.recipe;
  registers = s.registers;
}

-- what a head shows
abbrev pub head_view : Head → HeadView
head_view h = record { settings = settings_view h.settings; servers = map server_view h.servers.items }

-- what a script shows
abbrev pub script_view : Script → ScriptView
script_view s = record { head = head_view s.head; acts = s.acts.items; account = s.account }
