-- What holds of a crew between its calls, and what its calls leave. The first three arguments say of a box
-- what its server shows: its behaviour, the registers of its committed work, and its prepared work.
use Rattle.std.specs.Prelude.{◌≡◌, ℕ, List, ◌∷◌, Option, None, All, length, sum_by}
use Rattle.std.specs.declared.alloc.Global.{Global}
use Rattle.std.specs.declared.dyn_box.DynBox.{DynBox}
use Rattle.tp_server.specs.Behaviour.{Behaviour}
use Rattle.tp_server.specs.Pending.{Pending}
use Rattle.tp_model.specs.declared.types.Account.{Account}
use Rattle.tp_manager.specs.Accounts.{Accounts}
use Rattle.tp_manager.specs.Calls.{Follows}
use Rattle.tp_manager.specs.Shown.{PassShown}
use Rattle.tp_rollover.specs.Managed.{IsManaged}
use Rattle.tp_crew.specs.declared.crew.Crew.{Crew}
use Rattle.tp_crew.specs.FoldStarts.{begun}
use Rattle.tp_crew.specs.CrewPasses.{HaveServed, clients_in, crew_passes, desks_in}
use Rattle.tp_workers.specs.Free.{IsFreePass}
use Rattle.tp_workers.specs.Gains.{commits_in, enqueues_in}
use Rattle.tp_workers.specs.Ran.{RanEach}
use Rattle.tp_workers.specs.declared.tally.Shift.{Shift}

module _ {X : Type 0} {F : X → Type 0} where
  -- where the folds of a crew's boxes' work began, in the boxes' order
  abbrev pub folds : Crew X F → List (PassShown × DynBox X Global F)
  folds c = begun c.starts.items

  -- A crew is steady: it has its manager with all passes, none of them has a unit open, and no box has
  -- anything prepared. Each box has served since the fold of its work began.
  pub record IsSteadyCrew (behaviour : DynBox X Global F → Behaviour) (registers : DynBox X Global F → List ℕ)
      (pending : DynBox X Global F → Option Pending) (c : Crew X F) : Type 0 where
    pub managed : IsManaged c.managed
    pub free : All (IsFreePass c.managed.manager) c.managed.passes.items
    pub count : length c.managed.passes.items ≡ crew_passes (length c.boxes.items) c.clients
    pub clear : All (λ b. pending b ≡ None) c.boxes.items
    pub same_count : length c.starts.items ≡ length c.boxes.items
    pub served : HaveServed behaviour registers (folds c) c.managed.passes.items c.boxes.items

  -- it is the same crew: it has the same manager, as many boxes and clients, and the folds of its boxes' work
  -- began alike
  pub record IsSameCrew (old new : Crew X F) : Type 0 where
    pub manager : new.managed.manager ≡ old.managed.manager
    pub boxes : length new.boxes.items ≡ length old.boxes.items
    pub clients : new.clients ≡ old.clients
    pub starts : new.starts ≡ old.starts

  -- A call by the caller's own pass, in at most n steps, which left it with no unit open. All else is as it
  -- was.
  pub record OwnCall (n : ℕ) (R : PassShown → PassShown → Type 0) (old new : Crew X F) : Type 0 where
    pub before : PassShown
    pub after : PassShown
    pub others : List PassShown
    pub was : old.managed.passes.items ≡ before ∷ others
    pub left : new.managed.passes.items ≡ after ∷ others
    pub follows : Follows n before after
    pub free : after.open_unit ≡ None
    pub answer : R before after
    pub same : IsSameCrew old new
    pub keeper : new.managed.keeper ≡ old.managed.keeper
    pub same_boxes : new.boxes ≡ old.boxes

  -- each desk ran so, with these counts in all
  abbrev pub EachDesk : (PassShown × DynBox X Global F → Shift → PassShown × DynBox X Global F → Type 0)
      → Shift → Crew X F → Crew X F → Type 0
  EachDesk R counts old new = RanEach R (desks_in (length old.boxes.items) old.managed.passes.items)
      old.boxes.items counts (desks_in (length old.boxes.items) new.managed.passes.items) new.boxes.items

  -- how many units the desks of so many boxes have committed
  abbrev pub committed_by : ℕ → Crew X F → ℕ
  committed_by boxes c = sum_by commits_in (desks_in boxes c.managed.passes.items)

  -- how many requests the clients behind so many boxes have submitted
  abbrev pub submitted_by : ℕ → Crew X F → ℕ
  submitted_by boxes c = sum_by enqueues_in (clients_in boxes c.managed.passes.items)

  -- the keeper has counted, with all passes, how each element stands
  abbrev pub CountsAll : Account → Crew X F → Crew X F → Type 0
  CountsAll account old new = let m = old.managed in
      Accounts m.manager.limits m.keeper new.managed.keeper m.passes.items new.managed.passes.items account
