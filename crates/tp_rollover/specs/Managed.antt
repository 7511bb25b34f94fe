-- A manager with its keeper and all its passes, and how it goes on in a new one.
use Rattle.std.specs.Prelude.{◌≡◌, ℕ, ◌*◌, All, None, List, [], length}
use Rattle.std.specs.List.{AllZip}
use Rattle.tp_model.specs.declared.types.Limits.{Limits}
use Rattle.tp_model.specs.Passes.{IsPassView}
use Rattle.tp_model.specs.Steps.{AreLimits}
use Rattle.tp_manager.specs.Accounts.{AreAll}
use Rattle.tp_manager.specs.Shown.{IsKeptBy, IsOf, KeeperShown, PassShown, low_of, turn_of, view_in}
use Rattle.tp_plain.specs.OneThread.{start}
use Rattle.tp_rollover.specs.Thread.{Stays, thread_of}
use Rattle.tp_rollover.specs.Answers.{Rolls}
use Rattle.tp_rollover.specs.Bounds.{made_by_all}
use Rattle.tp_rollover.specs.Carries.{Carries, WouldNotFit}
use Rattle.tp_rollover.specs.declared.managed.Managed.{Managed}
use Rattle.tp_rollover.specs.declared.moved.Moved.{Moved}
use Rattle.tp_rollover.specs.declared.moved.RollFault.{RollFault}
use Rattle.tp_rollover.specs.declared.moved.RollFault.TheVariants.{BadLimits, Full, NoMemory, Unequal}

-- The pass has seen nothing and has done nothing: all rows of its part are left to it, it has drawn no spare
-- block and knows of none, it has no unit open, and its marks and turns are at the first row.
pub record IsNewPass (p : PassShown) : Type 0 where
  pub shows : IsPassView p.limits (view_in p)
  pub seen : p.seen ≡ []
  pub mine : p.mine ≡ []
  pub open_unit : p.open_unit ≡ None
  pub next : p.next ≡ p.number * p.limits.rows
  pub left : p.left ≡ p.limits.rows
  pub blocks : p.blocks ≡ []
  pub turn : (stage : ℕ) → turn_of p stage ≡ 0
  pub lows : (c part : ℕ) → low_of p c part ≡ 0
  pub drawn : p.seen_blocks ≡ 0

-- it has the keeper and all passes of its manager, in order of number
pub record IsManaged (m : Managed) : Type 0 where
  pub keeper : IsKeptBy m.manager m.keeper
  pub limits : AreLimits m.manager.limits
  pub own : All (IsOf m.manager) m.passes.items
  pub all : AreAll m.keeper m.passes.items
  pub parts : length m.passes.items ≡ m.manager.limits.parts

-- it is one with these limits, and its passes have done nothing but being given out
pub record IsNewManaged (l : Limits) (m : Managed) : Type 0 where
  pub managed : IsManaged m
  pub limits : m.manager.limits ≡ l
  pub new : All IsNewPass m.passes.items
  pub steps : made_by_all m.keeper m.passes.items ≡ l.parts

-- It has gone on in another manager, of the same limits. From what the old passes had done before the
-- rollover went to what the new ones have seen, and what was alive was made anew as it is computed. The old
-- manager's keeper and passes showed these at the last.
pub record GoesOnAnew (old new : Managed) (moved : List Moved) : Type 0 where
  pub keeper : KeeperShown
  pub passes : List PassShown
  pub given : keeper.given ≡ old.keeper.given
  pub limits : new.manager.limits ≡ old.manager.limits
  pub rolls : Rolls old.manager.limits new.manager.limits keeper new.keeper old.passes.items passes
      new.passes.items moved
  pub carries : let l = old.manager.limits in
      Carries l old.passes.items l.parts (start l) moved (thread_of l new.passes.items new.keeper.seen)

-- it has the same manager, and its passes have done nothing but look
pub record StaysManaged (old new : Managed) : Type 0 where
  pub manager : new.manager ≡ old.manager
  pub given : new.keeper.given ≡ old.keeper.given
  pub passes : AllZip Stays old.passes.items new.passes.items

-- Which fault a manager with these limits and passes is refused with: one of these two, Full only where what
-- is alive finds no room in a new manager.
abbrev pub IsRefusedFor : Limits → List PassShown → RollFault → Type 0
IsRefusedFor l passes NoMemory = Unit {0}
IsRefusedFor l passes Full = WouldNotFit l passes l.parts (start l)
IsRefusedFor l passes other = ⊥

-- what is alive in it finds room in a new manager with the same limits
abbrev pub FindsRoom : Limits → List PassShown → Type 0
FindsRoom l passes = ¬ WouldNotFit l passes l.parts (start l)

-- why it isn't surveyed: for want of memory alone
abbrev pub IsUnsurveyed : RollFault → Type 0
IsUnsurveyed NoMemory = Unit {0}
IsUnsurveyed other = ⊥

-- why none with these limits is made of descriptions
abbrev pub IsUnrestored : Limits → RollFault → Type 0
IsUnrestored l BadLimits = ¬ AreLimits l
IsUnrestored l NoMemory = AreLimits l
IsUnrestored l Full = AreLimits l
IsUnrestored l Unequal = AreLimits l
IsUnrestored l other = ⊥
