-- What a command on a desk is answered where nobody else acts: the computed answer.
use Rattle.std.specs.Prelude.{◌≡◌, ℕ, List}
use Rattle.tp_model.specs.declared.types.Limits.{Limits}
use Rattle.tp_model.specs.declared.event.Event.{Event}
use Rattle.tp_model.specs.Steps.{IsServerStage}
use Rattle.tp_server.specs.declared.recipe.Recipe.{Recipe}
use Rattle.tp_server.specs.Behaviour.{Behaviour, behaviour_of}
use Rattle.tp_manager.specs.Shown.{KeeperShown, PassShown}
use Rattle.tp_report.specs.declared.answer.ServerAnswer.{ServerAnswer}
use Rattle.tp_script.specs.declared.script.DeskAct.{DeskAct}
use Rattle.tp_script.specs.declared.script.DeskAct.TheVariants as acts
use Rattle.tp_commands.specs.Acting.{DeskShown, Does}
use Rattle.tp_reference.specs.declared.plain_desk.PlainDesk.{PlainDesk}
use Rattle.tp_reference.specs.PlainDesks.{does}
use Rattle.tp_rollover.specs.Thread.{thread_of}
use Rattle.tp_exact.specs.Acts.{Acts}
use Rattle.tp_exact.specs.Stands.{IsForDesk}

-- the server does what the recipe says; where no work is done, it is enough that it is of the recipe's stage
abbrev pub FollowsRecipe : DeskAct → Recipe → Behaviour → Type 0
FollowsRecipe acts.Turn recipe behaviour = behaviour ≡ behaviour_of recipe
FollowsRecipe acts.Prepare recipe behaviour = behaviour ≡ behaviour_of recipe
FollowsRecipe acts.Commit recipe behaviour = behaviour ≡ behaviour_of recipe
FollowsRecipe other recipe behaviour = behaviour.stage ≡ recipe.stage

-- pass c of a desk, whose server is the recipe's, did so between two gatherings: the answer is the computed
-- one, and so are the state and the desk that are left
abbrev pub ExactDesk : Type 0
ExactDesk =
    (act : DeskAct) (recipe : Recipe) (l : Limits) (keeper keeper' : KeeperShown)
    (olds news : List PassShown) (h h' : List Event) (c : ℕ) (old new : DeskShown) (answer : ServerAnswer)
    (d : PlainDesk)
    → IsServerStage recipe.stage → FollowsRecipe act recipe old.behaviour → new.pass.limits ≡ l
    → Acts l keeper keeper' olds news h h' c old.pass new.pass → IsForDesk old d → Does l act old answer new
    → let done = does recipe act c (thread_of l olds h) d in
    (answer ≡ done.answer) × (thread_of l news h' ≡ done.manager) × IsForDesk new done.desk
