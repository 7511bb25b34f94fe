-- The memory of a rollover, which is lent to it. l and k are the limits of the old and of the new manager.
use Rattle.std.specs.Prelude.{◌≡◌, ℕ, ◌<◌, ◌≤◌, All, List, vec_capacity}
use Rattle.tp_model.specs.declared.types.Limits.{Limits}
use Rattle.tp_model.specs.Steps.{rows_of}
use Rattle.tp_rollover.specs.declared.moved.Moved.{Moved}
use Rattle.tp_rollover.specs.declared.space.RestoreSpace.{RestoreSpace}
use Rattle.tp_rollover.specs.declared.space.Space.{Space}
use Rattle.tp_rollover.specs.declared.space.SurveySpace.{SurveySpace}

-- it holds all that can be alive
pub record HasSurveySpace (l : Limits) (space : SurveySpace) : Type 0 where
  pub ids : rows_of l ≤ vec_capacity space.ids
  pub found : rows_of l ≤ vec_capacity space.found

-- it holds n elements, and a place for each root in either manager
pub record HasRestoreSpace (l k : Limits) (n : ℕ) (space : RestoreSpace) : Type 0 where
  pub moved : n ≤ vec_capacity space.moved
  pub families : rows_of l ≤ vec_capacity space.families
  pub new_roots : rows_of l ≤ vec_capacity space.new_roots
  pub old_roots : rows_of k ≤ vec_capacity space.old_roots

-- it holds both, for all that can be alive
pub record HasSpace (l k : Limits) (space : Space) : Type 0 where
  pub survey : HasSurveySpace l space.survey
  pub restore : HasRestoreSpace l k (rows_of l) space.restore

-- it holds just that, and no more
pub record TakesSurveySpace (l : Limits) (space : SurveySpace) : Type 0 where
  pub ids : vec_capacity space.ids ≡ rows_of l
  pub found : vec_capacity space.found ≡ rows_of l

pub record TakesRestoreSpace (l k : Limits) (n : ℕ) (space : RestoreSpace) : Type 0 where
  pub moved : vec_capacity space.moved ≡ n
  pub families : vec_capacity space.families ≡ rows_of l
  pub new_roots : vec_capacity space.new_roots ≡ rows_of l
  pub old_roots : vec_capacity space.old_roots ≡ rows_of k

pub record TakesSpace (l k : Limits) (space : Space) : Type 0 where
  pub survey : TakesSurveySpace l space.survey
  pub restore : TakesRestoreSpace l k (rows_of l) space.restore

-- it holds no less than before
pub record KeepsSurveySpace (old new : SurveySpace) : Type 0 where
  pub ids : vec_capacity old.ids ≤ vec_capacity new.ids
  pub found : vec_capacity old.found ≤ vec_capacity new.found

pub record KeepsRestoreSpace (old new : RestoreSpace) : Type 0 where
  pub moved : vec_capacity old.moved ≤ vec_capacity new.moved
  pub families : vec_capacity old.families ≤ vec_capacity new.families
  pub new_roots : vec_capacity old.new_roots ≤ vec_capacity new.new_roots
  pub old_roots : vec_capacity old.old_roots ≤ vec_capacity new.old_roots

pub record KeepsSpace (old new : Space) : Type 0 where
  pub survey : KeepsSurveySpace old.survey new.survey
  pub restore : KeepsRestoreSpace old.restore new.restore

-- so it is enough again
abbrev pub SpaceLasts : Type 0
SpaceLasts = (l k : Limits) (old new : Space) → HasSpace l k old → KeepsSpace old new → HasSpace l k new

-- the roots of these are below n in the old manager, and below n' in the new one
abbrev pub AreWithin : ℕ → ℕ → List Moved → Type 0
AreWithin n n' moved = All (λ (m : Moved). (m.old_root < n) × (m.new_root < n')) moved
