-- The roles of a pipeline.
use Rattle.std.specs.Prelude.{◌≡◌, None}
use Rattle.tp_manager.specs.Shown.{IsOf, ManagerShown}
use Rattle.tp_bench.specs.declared.pipeline.Role.{Role}
use Rattle.tp_bench.specs.declared.pipeline.Roles.{Roles}

-- the role's pass is the manager's, and has no unit open
pub record IsFreeRole (m : ManagerShown) (r : Role) : Type 0 where
  pub own : IsOf m r.pass
  pub free : r.pass.open_unit ≡ None

-- and so are all
pub record AreRolesReady (m : ManagerShown) (r : Roles) : Type 0 where
  pub client : IsFreeRole m r.client
  pub first : IsFreeRole m r.first
  pub second : IsFreeRole m r.second
  pub third : IsFreeRole m r.third
