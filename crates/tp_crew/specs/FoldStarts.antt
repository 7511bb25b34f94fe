-- Where the folds of boxes' work began.
use Rattle.std.specs.Prelude.{List, map}
use Rattle.std.specs.declared.alloc.Global.{Global}
use Rattle.std.specs.declared.dyn_box.DynBox.{DynBox}
use Rattle.tp_manager.specs.Shown.{PassShown}
use Rattle.tp_crew.specs.declared.fold_start.FoldStart.{FoldStart}

-- what each box showed when the fold of its work began, behind the pass of its desk
abbrev pub begun : {X : Type 0} {F : X → Type 0} → List (FoldStart X F) → List (PassShown × DynBox X Global F)
begun starts = map (λ s. (s.pass.value, s.server.value)) starts
