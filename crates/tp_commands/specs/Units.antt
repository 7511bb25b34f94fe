-- How many units of work are left to passes.
use Rattle.std.specs.Prelude.{ℕ, ◌-◌, List, sum_by}
use Rattle.tp_model.specs.declared.types.Limits.{Limits}
use Rattle.tp_manager.specs.Calls.{claims_in}
use Rattle.tp_manager.specs.Shown.{PassShown}

-- the units of a pass that no claim of it has taken
abbrev pub units_left_to : Limits → PassShown → ℕ
units_left_to l p = l.units - claims_in p.mine

-- those of all these passes
abbrev pub all_units_left : Limits → List PassShown → ℕ
all_units_left l passes = sum_by (units_left_to l) passes
