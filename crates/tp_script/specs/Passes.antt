-- How many passes what a script asks for needs for itself, and whether it races.
use Rattle.std.specs.Prelude.{ℕ, ◌+◌, List, Bool, true, false}
use Rattle.std.specs.List.{list_any, sum_by}
use Rattle.tp_script.specs.declared.head.Act.{Act}
use Rattle.tp_script.specs.declared.head.Act.TheVariants.{Race}

-- what an act needs for itself: a race's clients and killers
abbrev pub racers : Act → ℕ
racers (Race race) = race.clients + race.killers
racers other = 0

-- a race
abbrev pub is_race : Act → Bool
is_race (Race race) = true
is_race other = false

-- what all of them need
abbrev pub racing : List Act → ℕ
racing acts = sum_by racers acts

-- whether there is a race among them
abbrev pub has_race : List Act → Bool
has_race acts = list_any is_race acts
