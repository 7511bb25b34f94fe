-- What a rollover does between two commands.
use Rattle.std.specs.Prelude.{◌≡◌, ℕ, List, All, None, Some, length, map}
use Rattle.std.specs.List.{AllZip}
use Rattle.tp_manager.specs.Shown.{IsOf, KeeperShown, PassShown}
use Rattle.tp_model.specs.declared.types.Limits.{Limits}
use Rattle.tp_model.specs.declared.types.Refusal.TheVariants as refusals
use Rattle.tp_plain.specs.OneThread.{start}
use Rattle.tp_rollover.specs.Thread.{Stays, thread_of}
use Rattle.tp_rollover.specs.Answers.{Rolls}
use Rattle.tp_rollover.specs.Carries.{Carries, WouldNotFit}
use Rattle.tp_rollover.specs.Faults.{AreFree}
use Rattle.tp_rollover.specs.declared.managed.Managed.{Managed}
use Rattle.tp_rollover.specs.declared.moved.Moved.{Moved}
use Rattle.tp_rollover.specs.declared.moved.RollFault.{RollFault}
use Rattle.tp_rollover.specs.declared.moved.RollFault.TheVariants as faults
use Rattle.tp_report.specs.Answer.{answer_text, line, refusal_text}
use Rattle.tp_report.specs.declared.answer.Answer.TheVariants as answer
use Rattle.tp_report.specs.declared.answer.Renamed.{Renamed}
use Rattle.tp_commands.specs.Acting.{PlaceShown}
use Rattle.tp_commands.specs.Scenes.{Gathered, OnlyPass, Scene, Stand, own_passes, passes_in}

-- what a manager with its keeper and this scene shows
abbrev pub stand : Managed → Scene → Stand
stand m s = record { manager = m.manager; keeper = m.keeper; scene = s }

-- what an element is called that was carried over
abbrev pub renamed : Moved → Renamed
renamed m = record { old = m.old; new = m.new }

-- the desk at a place had nothing in hand, and begins anew with another pass: its server has the same
-- registers. One that was dropped stays dropped
pub record BeginsAgain (old new : PlaceShown) : Type 0 where
  pub idle : old.desk.work ≡ None
  pub unprepared : old.desk.pending ≡ None
  pub desk : new.desk ≡ record old.desk { pass = new.desk.pass }
  pub began : new.began ≡ Some (new.desk.pass, new.desk.registers)
  pub kept : new.is_dropped ≡ old.is_dropped

-- No desk had a unit open. What was alive goes on in another manager with the same limits, whose passes are
-- together; there are as many of them, and no desk has a unit open. What another pass had in hand, it has
-- in hand there (`Rolls`). What each element is called there and what that manager is then is computed of
-- what was alive. The old manager's keeper and passes showed these at the last.
pub record RolledOver (old : Stand) (moved : List Moved) (new : Stand) : Type 0 where
  pub keeper : KeeperShown
  pub passes : List PassShown
  pub given : keeper.given ≡ old.keeper.given
  pub limits : new.manager.limits ≡ old.manager.limits
  pub rolls : Rolls old.manager.limits new.manager.limits keeper new.keeper (passes_in old.scene) passes
      (passes_in new.scene) moved
  pub carries : let l = old.manager.limits in
      Carries l (passes_in old.scene) l.parts (start l) moved
      (thread_of l (passes_in new.scene) new.keeper.seen)
  pub idle : AreFree (own_passes old.scene)
  pub free : AreFree (own_passes new.scene)
  pub own : All (IsOf new.manager) (passes_in new.scene)
  pub places : AllZip BeginsAgain old.scene.places new.scene.places
  pub racers : length new.scene.racers ≡ length old.scene.racers

-- the line of a rollover that was refused
abbrev pub roll_refused_text : RollFault → List ℕ
roll_refused_text faults.NoMemory = refusal_text refusals.NoMemory
roll_refused_text faults.Full = refusal_text refusals.Full
roll_refused_text faults.Busy = answer_text answer.Busy
roll_refused_text other = answer_text answer.Unequal

-- nothing has changed at the places but what their passes show, and these have done nothing but look
pub record OnlyLooked (old new : Scene) : Type 0 where
  pub passes : AllZip Stays (passes_in old) (passes_in new)
  pub places : AllZip OnlyPass old.places new.places

-- It was refused, with a fault that was due to this scene. The manager is the same, its passes have done
-- nothing but look, and then all have gathered.
pub record RollRefused (is_due : Scene → RollFault → Type 0) (old : Stand) (text : List ℕ)
    (new : Stand) : Type 0 where
  pub why : RollFault
  pub due : is_due old.scene why
  pub manager : new.manager ≡ old.manager
  pub keeper : KeeperShown
  pub given : keeper.given ≡ old.keeper.given
  pub between : Scene
  pub looked : OnlyLooked old.scene between
  pub gathered : Gathered old.manager keeper new.keeper between new.scene
  pub text_is : text ≡ line (roll_refused_text why)

-- Why it was refused, of a manager with these limits and passes, of which these are the program's own: Busy
-- where one of them has a unit open, and else one of these two, Full only where what is alive finds no room
-- in a new manager.
abbrev pub IsUnrolledFor : Limits → List PassShown → List PassShown → RollFault → Type 0
IsUnrolledFor l own passes faults.Busy = ¬ AreFree own
IsUnrolledFor l own passes faults.NoMemory = AreFree own
IsUnrolledFor l own passes faults.Full = AreFree own × WouldNotFit l passes l.parts (start l)
IsUnrolledFor l own passes other = ⊥

-- the same of a scene
abbrev pub IsUnrolled : Limits → Scene → RollFault → Type 0
IsUnrolled l s why = IsUnrolledFor l (own_passes s) (passes_in s) why
