-- What the script's own client is told where nobody else acts: the computed line.
use Rattle.std.specs.Prelude.{◌≡◌, ℕ, List}
use Rattle.tp_model.specs.declared.types.Limits.{Limits}
use Rattle.tp_model.specs.declared.event.Event.{Event}
use Rattle.tp_manager.specs.Shown.{KeeperShown, PassShown}
use Rattle.tp_script.specs.declared.script.ClientAct.{ClientAct}
use Rattle.tp_commands.specs.Asked.{TellsClient}
use Rattle.tp_reference.specs.PlainClient.{client, client_step}
use Rattle.tp_rollover.specs.Thread.{thread_of}
use Rattle.tp_exact.specs.Acts.{Acts}

-- the line of a client's command is the one that is computed of the state before it, and so is the state that
-- it leaves
abbrev pub ExactClient : Type 0
ExactClient =
    (act : ClientAct) (l : Limits) (keeper keeper' : KeeperShown) (olds news : List PassShown)
    (h h' : List Event) (old new : PassShown) (text : List ℕ)
    → Acts l keeper keeper' olds news h h' client old new → TellsClient l act old text new
    → (text, thread_of l news h') ≡ client_step act (thread_of l olds h)
