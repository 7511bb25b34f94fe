-- What a script's acts are told, one after another, how it begins and how it ends.
use Rattle.std.specs.Prelude.{◌≡◌, ◌⊎◌, ◌+◌, ◌++◌, ℕ, Bool, true, false, if◌then◌else◌, List, [], ◌∷◌, All}
use Rattle.std.specs.Prelude.{Option, Some, None, Result, Ok, Err, length, map, take}
use Rattle.std.specs.Io.KnownBytes.{Appends, Keeps}
use Rattle.tp_model.specs.Accounts.{account_of}
use Rattle.tp_model.specs.declared.types.Account.{Account}
use Rattle.tp_model.specs.declared.types.Limits.{Limits}
use Rattle.tp_server.specs.Behaviour.{behaviour_of}
use Rattle.tp_manager.specs.Accounts.{AreAll}
use Rattle.tp_manager.specs.Bounds.{account_steps}
use Rattle.tp_manager.specs.Shown.{PassShown}
use Rattle.tp_rollover.specs.Faults.{AreFree}
use Rattle.tp_rollover.specs.Managed.{IsManaged, IsNewPass}
use Rattle.tp_rollover.specs.declared.managed.Managed.{Managed}
use Rattle.tp_workers.specs.Free.{IsFreePass}
use Rattle.tp_report.specs.Answer.{account_text, line}
use Rattle.tp_report.specs.Written.{AppendsFront}
use Rattle.tp_report.specs.declared.fault.Exit.{Exit}
use Rattle.tp_report.specs.declared.fault.Exit.TheVariants as exits
use Rattle.tp_report.specs.declared.fault.Fault.{Fault}
use Rattle.tp_report.specs.declared.fault.Fault.TheVariants as faults
use Rattle.tp_script.specs.Fault.{refused_text}
use Rattle.tp_script.specs.Passes.{has_race, racers, racing}
use Rattle.tp_script.specs.Script.{HeadView, ScriptView, head_view, script_view}
use Rattle.tp_script.specs.declared.fault.Refused.{Refused}
use Rattle.tp_script.specs.declared.head.Act.{Act}
use Rattle.tp_script.specs.declared.head.Head.{Head}
use Rattle.tp_script.specs.declared.whole.Script.{Script}
use Rattle.tp_commands.specs.Acting.{AllEnded, IsSteadyPlace}
use Rattle.tp_commands.specs.Ending.{final_lines}
use Rattle.tp_commands.specs.GivingUp.{GiveUpAll}
use Rattle.tp_commands.specs.Scenes.{GatheredIn, IsNewPlace, Stand, passes_in}
use Rattle.tp_perform.specs.Standing.{ActTold, SceneTold}

-- ---- what is made

-- the limits: a pass for the client, one for each server, and so many for races
abbrev pub limits_of : HeadView → ℕ → Limits
limits_of h racers = record {
  parts = 1 + length h.servers + racers;
  rows = h.settings.rows;
  units = h.settings.units;
  attempts = h.settings.attempts;
  spare = h.settings.spare;
}

-- a new manager with these limits, and all its passes, in order of number: none of them has done anything
pub record IsNew (l : Limits) (s : Stand) : Type 0 where
  pub limits : s.manager.limits ≡ l
  pub many : length (passes_in s.scene) ≡ l.parts
  pub all : AreAll s.keeper (passes_in s.scene)
  pub seen : s.keeper.seen ≡ []
  pub own : All (IsFreePass s.manager) (passes_in s.scene)
  pub new : All IsNewPass (passes_in s.scene)

-- the same in memory
pub record IsNewInMemory (l : Limits) (m : Managed) : Type 0 where
  pub managed : IsManaged m
  pub limits : m.manager.limits ≡ l
  pub seen : m.keeper.seen ≡ []
  pub free : AreFree m.passes.items
  pub new : All IsNewPass m.passes.items

-- what is there before the first act: a new manager, and new desks, of which each has the recipe and the
-- registers of its line
pub record Begun (h : HeadView) (racers : ℕ) (first : Stand) : Type 0 where
  pub new : IsNew (limits_of h racers) first
  pub desks : All IsNewPlace first.scene.places
  pub recipes : map (λ p. p.desk.behaviour) first.scene.places ≡ map (λ x. behaviour_of x.recipe) h.servers
  pub registers : map (λ p. p.desk.registers) first.scene.places ≡ map (λ x. x.registers) h.servers

-- ---- acts

-- What is asked for was done, one after another, behind races that took so many passes, and this is what is
-- told.
abbrev pub ActsTold : Head → ℕ → List Act → Stand → List ℕ → Stand → Type 0
ActsTold head raced [] old text new = (text ≡ []) × (new ≡ old)
ActsTold head raced (a ∷ others) old text new =
    (first : List ℕ) × (rest : List ℕ) × (between : Stand)
    × ActTold head raced a old first between
    × ActsTold head (raced + racers a) others between rest new
    × (text ≡ first ++ rest)

-- some first ones were done, whatever became of what they tell
pub record ActsDone (s : Script) (old new : Stand) (Told : List ℕ → Type 0) : Type 0 where
  pub many : ℕ
  pub text : List ℕ
  pub acts : ActsTold s.head 0 (take many s.acts.items) old text new
  pub told : Told text

-- ---- the end

-- the desks gave up what they had in hand, one after another, and all gathered behind each
abbrev pub DesksClose : Stand → Stand → Type 0
DesksClose old new = SceneTold GiveUpAll old new

-- all passes gathered, and this is the account of what all of them have seen
pub record Counts (old : Stand) (account : Account) (new : Stand) : Type 0 where
  pub manager : new.manager ≡ old.manager
  pub gathered :
      let l = old.manager.limits in GatheredIn (account_steps l (length (passes_in old.scene))) old.manager
      old.keeper new.keeper old.scene new.scene
  pub account_is : account ≡ account_of old.manager.limits.attempts new.keeper.seen

-- so it was where the account is asked for, and else nothing was done
abbrev pub CountsAtEnd : Bool → Stand → Option Account → Stand → Type 0
CountsAtEnd false old account new = (account ≡ None) × (new ≡ old)
CountsAtEnd true old None new = ⊥
CountsAtEnd true old (Some account) new = Counts old account new

-- the desks were ended: the registers that are left are the fold of what each has committed since it began
pub record DesksEnd (last : Stand) (registers : List (List ℕ)) : Type 0 where
  pub passes : List PassShown
  pub ended : AllEnded last.scene.places passes registers
  pub steady : All IsSteadyPlace last.scene.places

-- Behind the last act what is in hand was given up, the account was taken, where it is asked for, and the
-- desks were ended, which left these registers.
pub record Ended (s : Script) (account : Option Account) (last : Stand) (registers : List (List ℕ))
    : Type 0 where
  pub closed : Stand
  pub closes : DesksClose last closed
  pub counted : Stand
  pub counts : CountsAtEnd s.account closed account counted
  pub ends : DesksEnd counted registers

-- ---- the report

-- the final lines: one for each server of the head, with the registers that are left
abbrev pub finals_of : HeadView → List (List ℕ) → List ℕ
finals_of h registers = final_lines h.servers registers (length h.servers)

-- a script with races has none, since they depend on which requests won
abbrev pub finals_text : Script → List (List ℕ) → List ℕ
finals_text s registers = if has_race s.acts.items then [] else finals_of (head_view s.head) registers

-- the line of the closing account, where it was taken
abbrev pub closing_text : Option Account → List ℕ
closing_text None = []
closing_text (Some account) = line (account_text account.total)

-- Over a new manager all was done that the script asks for, and its end, and this is what was told: the line
-- of each act, the final lines, and the account's.
pub record Report (s : Script) (Told : List ℕ → Type 0) : Type 0 where
  pub first : Stand
  pub begins : Begun (head_view s.head) (racing s.acts.items) first
  pub text : List ℕ
  pub last : Stand
  pub acts : ActsTold s.head 0 s.acts.items first text last
  pub account : Option Account
  pub registers : List (List ℕ)
  pub ends : Ended s account last registers
  pub told : Told (text ++ (finals_text s registers ++ closing_text account))

-- some first acts were done, and this was told
pub record ReportPart (s : Script) (Told : List ℕ → Type 0) : Type 0 where
  pub first : Stand
  pub begins : Begun (head_view s.head) (racing s.acts.items) first
  pub last : Stand
  pub acts : ActsDone s first last Told

-- after a fault: nothing was told, or a front of that
abbrev pub ReportFront : Script → (List ℕ → Type 0) → Type 0
ReportFront s Told = Told [] ⊎ (ReportPart s Told ⊎ Report s Told)

-- ---- the whole run

-- the same of a script that was read, if it was
abbrev pub RanFront : ScriptView → Option (List ℕ) → Option (List ℕ) → Type 0
RanFront v old new = AppendsFront old new []
    ⊎ ((s : Script) × (script_view s ≡ v) × ReportFront s (AppendsFront old new))

-- What a run leaves: of a script that was read its report, of a refused one the one line of its refusal;
-- after a fault a front of that, and nothing where the script wasn't read.
abbrev pub Ran : Result Exit Fault → Result ScriptView Refused → Option (List ℕ) → Option (List ℕ) → Type 0
Ran (Ok exits.Done) (Ok v) old new = (s : Script) × (script_view s ≡ v) × Report s (Appends old new)
Ran (Ok exits.Done) (Err refused) old new = ⊥
Ran (Ok exits.Refused) (Ok v) old new = ⊥
Ran (Ok exits.Refused) (Err refused) old new = Appends old new (line (refused_text refused))
Ran (Err faults.Read) read old new = Keeps old new
Ran (Err faults.NoMemory) (Ok v) old new = RanFront v old new
Ran (Err faults.NoMemory) (Err refused) old new = AppendsFront old new (line (refused_text refused))
Ran (Err faults.Write) (Ok v) old new = RanFront v old new
Ran (Err faults.Write) (Err refused) old new = AppendsFront old new (line (refused_text refused))
