-- How much is left to the pass that has the least.
use Rattle.std.specs.Prelude.{◌≡◌, ◌⊎◌, ℕ, ◌-◌, ◌<◌, ◌≤◌, List, length, slice_index_or}
use Rattle.tp_model.specs.declared.types.Limits.{Limits}
use Rattle.tp_manager.specs.Calls.{claims_in}
use Rattle.tp_manager.specs.Shown.{PassShown}
use Rattle.tp_crew.specs.declared.crew.Crew.{Crew}

-- how many units of work a pass can begin
abbrev pub units_left : Limits → PassShown → ℕ
units_left l p = l.units - claims_in p.mine

-- how many rows are left to it before it draws a spare block
abbrev pub part_rows_left : PassShown → ℕ
part_rows_left p = p.left

-- n is the least of what the passes among the first k have
pub record IsLeastOf (measure : PassShown → ℕ) (passes : List PassShown) (k n : ℕ) : Type 0 where
  pub least : (i : ℕ) (d : PassShown) → i < k → n ≤ measure (slice_index_or passes i d)
  pub at : ℕ
  pub within : at < k
  pub has : (d : PassShown) → n ≡ measure (slice_index_or passes at d)

-- the least of what all passes have
abbrev pub IsLeastOfAll : (PassShown → ℕ) → List PassShown → ℕ → Type 0
IsLeastOfAll measure passes n = IsLeastOf measure passes (length passes) n

module _ {X : Type 0} {F : X → Type 0} where
  -- one of the crew's passes has the fewest rows left, and one the fewest units: so many
  pub record HasLeft (rows units : ℕ) (c : Crew X F) : Type 0 where
    pub rows_are : IsLeastOfAll part_rows_left c.managed.passes.items rows
    pub units_are : IsLeastOfAll (units_left c.managed.manager.limits) c.managed.passes.items units

  -- each has as many rows and units left, or more
  pub record CrewHasRoom (rows units : ℕ) (c : Crew X F) : Type 0 where
    pub least_rows : ℕ
    pub least_units : ℕ
    pub left : HasLeft least_rows least_units c
    pub enough : (rows ≤ least_rows) × (units ≤ least_units)

  -- one has fewer rows or units left
  pub record LacksRoom (rows units : ℕ) (c : Crew X F) : Type 0 where
    pub least_rows : ℕ
    pub least_units : ℕ
    pub left : HasLeft least_rows least_units c
    pub short : (least_rows < rows) ⊎ (least_units < units)
