-- What holds of a desk between its calls, and what no call changes. The first three arguments say of a box
-- what its server shows: its behaviour, the registers of its committed work, and its prepared work.
use Rattle.std.specs.Prelude.{◌≡◌, ℕ, List, Option}
use Rattle.std.specs.declared.alloc.Global.{Global}
use Rattle.std.specs.declared.dyn_box.DynBox.{DynBox}
use Rattle.tp_server.specs.Behaviour.{Behaviour}
use Rattle.tp_server.specs.Pending.{Pending}
use Rattle.tp_desk.specs.declared.desk.Desk.{Desk}
use Rattle.tp_desk.specs.InHand.{IsDeskSteady}

module _ {X : Type 0} {F : X → Type 0} where
  -- the desk is steady
  abbrev pub SteadyDesk : (DynBox X Global F → Behaviour) → (DynBox X Global F → List ℕ)
      → (DynBox X Global F → Option Pending) → Desk X F → Type 0
  SteadyDesk behaviour registers pending d =
      IsDeskSteady (behaviour d.server.now) (registers d.server.now) (pending d.server.now)
      (registers d.first_server.value)
      d.first_pass.value d.pass.now d.work d.drafts.items

  -- What a boxed server shows. In crates above, where a desk's fields can't be seen, its members are named of
  -- a pair.
  abbrev pub shown : {A : Type 0} → ((x : X) × F x → A) → DynBox X Global F → A
  shown part box = part (box.vtable, box.value)

  -- it is the same desk: it has the same manager and the same lenders, and began alike
  pub record IsSameDesk (old new : Desk X F) : Type 0 where
    pub manager : new.manager ≡ old.manager
    pub pass : new.pass.ghost_name ≡ old.pass.ghost_name
    pub server : new.server.ghost_name ≡ old.server.ghost_name
    pub first_pass : new.first_pass ≡ old.first_pass
    pub first_server : new.first_server ≡ old.first_server
