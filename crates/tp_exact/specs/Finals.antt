-- The lines at the end of a script: they are the computed ones.
use Rattle.std.specs.Prelude.{◌≡◌, ℕ, List, length, map}
use Rattle.tp_model.specs.declared.types.Limits.{Limits}
use Rattle.tp_model.specs.declared.event.Event.{Event}
use Rattle.tp_model.specs.Accounts.{account_of}
use Rattle.tp_manager.specs.Shown.{KeeperShown, PassShown}
use Rattle.tp_script.specs.Script.{HeadView}
use Rattle.tp_perform.specs.Performed.{finals_of}
use Rattle.tp_reference.specs.declared.plain_desk.PlainDesk.{PlainDesk}
use Rattle.tp_reference.specs.PlainClient.{counts_of}
use Rattle.tp_reference.specs.PlainReport.{finals_below}
use Rattle.tp_rollover.specs.Thread.{AreTogether, thread_of}

-- of registers that the computed desks have, the final lines are the computed ones
abbrev pub ExactFinals : Type 0
ExactFinals =
    (head : HeadView) (registers : List (List ℕ)) (desks : List PlainDesk)
    → registers ≡ map (λ d. d.registers) desks
    → finals_of head registers ≡ finals_below head.servers desks (length head.servers)

-- where all are together, the account of what they have seen has in all what is computed by counting the
-- elements
abbrev pub ExactAccount : Type 0
ExactAccount =
    (l : Limits) (keeper : KeeperShown) (passes : List PassShown) (h : List Event)
    → AreTogether l keeper passes h → (account_of l.attempts h).total ≡ counts_of (thread_of l passes h)
