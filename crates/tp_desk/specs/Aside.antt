-- What is laid aside of a desk.
use Rattle.std.specs.Prelude.{ℕ, List, Option}
use Rattle.std.specs.declared.alloc.Global.{Global}
use Rattle.std.specs.declared.dyn_box.DynBox.{DynBox}
use Rattle.tp_server.specs.Behaviour.{Behaviour}
use Rattle.tp_server.specs.Pending.{Pending}
use Rattle.tp_manager.specs.Shown.{PassShown}
use Rattle.tp_desk.specs.declared.aside.Aside.{Aside}
use Rattle.tp_desk.specs.InHand.{IsDeskSteady}

-- A desk of this pass and this server would be steady with what was laid aside. The first three arguments say
-- of a box what its server shows, as those of `SteadyDesk`.
abbrev pub SteadyAside : {X : Type 0} {F : X → Type 0} → (DynBox X Global F → Behaviour)
    → (DynBox X Global F → List ℕ)
    → (DynBox X Global F → Option Pending) → Aside X F → PassShown → DynBox X Global F → Type 0
SteadyAside behaviour registers pending a pass server =
    IsDeskSteady (behaviour server) (registers server) (pending server) (registers a.first_server.value)
    a.first_pass.value pass a.work a.drafts.items
