-- What commands name.
use Rattle.std.specs.Prelude.{ℕ, ◌<◌, ◌≤◌}
use Rattle.std.specs.Coded.{×_prop, Unit-prop, le_prop}
use Rattle.tp_script.specs.declared.head.Act.{Act}
use Rattle.tp_script.specs.declared.head.Act.TheVariants as act
use Rattle.tp_script.specs.declared.head.Said.{Said}
use Rattle.tp_script.specs.declared.head.Said.TheVariants as said
use Rattle.tp_script.specs.declared.script.Command.{Command}
use Rattle.tp_script.specs.declared.script.Command.TheVariants.{Desk, Balance}
use Rattle.tp_script.specs.declared.script.Race.{Race}

-- one of this many servers, where it is a command on a server
abbrev pub IsInRange : ℕ → Command → Type 0
IsInRange servers (Desk server act) = server < servers
IsInRange servers (Balance server k) = server < servers
IsInRange servers other = Unit {0}

-- a race's stage is one that clients may submit to
abbrev pub IsRaceInRange : Race → Type 0
IsRaceInRange race = (1 ≤ race.stage) × (race.stage ≤ 14)

-- a command on one of this many servers, or a race
abbrev pub IsActInRange : ℕ → Act → Type 0
IsActInRange servers (act.Command c) = IsInRange servers c
IsActInRange servers (act.Race race) = IsRaceInRange race
IsActInRange servers other = Unit {0}

-- the same of what a line says
abbrev pub IsSaidInRange : ℕ → Said → Type 0
IsSaidInRange servers (said.Act a) = IsActInRange servers a
IsSaidInRange servers said.Account = Unit {0}

-- it has one proof at most
pub IsInRange-prop : (servers : ℕ) (c : Command) → IsProp (IsInRange servers c)
IsInRange-prop servers (Desk server act) = le_prop
IsInRange-prop servers (Balance server k) = le_prop
IsInRange-prop servers other = Unit-prop

pub IsActInRange-prop : (servers : ℕ) (a : Act) → IsProp (IsActInRange servers a)
IsActInRange-prop servers (act.Command c) = IsInRange-prop servers c
IsActInRange-prop servers (act.Race race) = ×_prop le_prop le_prop
IsActInRange-prop servers other = Unit-prop
