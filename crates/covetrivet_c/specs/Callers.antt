-- What contracts say of a caller.
use Rattle.std.specs.Prelude.{ℕ, Option, Some, None}
use Rattle.std.specs.Arc.{arc_value}
use Rattle.tp_model.specs.declared.types.Limits.{Limits}
use Rattle.covetrivet_c.specs.declared.caller.Caller.{Caller}

-- the limits of its manager
abbrev pub caller_limits : Caller → Limits
caller_limits c = (arc_value c.manager).limits

-- 1 where a unit is open
abbrev pub open_code : Option ℕ → ℕ
open_code (Some unit) = 1
open_code None = 0
