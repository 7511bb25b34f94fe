-- What crosses between the library and C.
use Rattle.std.specs.Prelude.{ℕ, ◌≤◌, List, [], ◌∷◌, Option, Some, None}
use Rattle.tp_model.specs.Drafts.{DraftView}
use Rattle.tp_model.specs.declared.types.TheConstants.{REPLY_STAGE}
use Rattle.covetrivet_c.specs.declared.shapes.DraftIn.{DraftIn}
use Rattle.tp_model.specs.declared.types.Limits.{Limits}
use Rattle.tp_model.specs.declared.types.Element.{Element}
use Rattle.tp_model.specs.declared.types.Work.{Work}
use Rattle.tp_model.specs.declared.types.Look.{Look}
use Rattle.tp_model.specs.declared.types.Status.{Status}
use Rattle.tp_model.specs.declared.types.Status.TheVariants as statuses
use Rattle.tp_model.specs.declared.types.Released.{Released}
use Rattle.covetrivet_c.specs.declared.shapes.ReleasedOut.{ReleasedOut}
use Rattle.covetrivet_c.specs.declared.shapes.PlainLimits.{PlainLimits}
use Rattle.covetrivet_c.specs.declared.shapes.ElementOut.{ElementOut}
use Rattle.covetrivet_c.specs.declared.shapes.WorkOut.{WorkOut}
use Rattle.covetrivet_c.specs.declared.shapes.StatusOut.{StatusOut}
use Rattle.covetrivet_c.specs.declared.shapes.LookOut.{LookOut}
use Rattle.tp_model.specs.declared.types.Counts.{Counts}
use Rattle.tp_rollover.specs.declared.moved.Moved.{Moved}
use Rattle.covetrivet_c.specs.declared.shapes.CountsOut.{CountsOut}
use Rattle.covetrivet_c.specs.declared.shapes.MovedOut.{MovedOut}

abbrev pub limits_in : PlainLimits → Limits
limits_in l = record {
  parts = l.parts;
  rows = l.rows;
  units = l.units;
  attempts = l.attempts;
  spare = l.spare;
}

-- the number of a unit or of a pass, and 65,536 for none
abbrev pub number_code : Option ℕ → ℕ
number_code (Some number) = number
number_code None = 65536

abbrev pub element_shape : Element → ElementOut
element_shape e = record { body = e.body; id = e.id; root = e.root; by = number_code e.by; stage = e.stage }

abbrev pub work_shape : Work → WorkOut
work_shape w = record { element = element_shape w.element; unit = w.unit; attempt = w.attempt }

abbrev pub status_shape : Status → StatusOut
status_shape (statuses.Waiting n) = record { unit = 0; kind = 0; attempts = n }
status_shape (statuses.Held u n) = record { unit = u; kind = 1; attempts = n }
status_shape (statuses.Consumed u) = record { unit = u; kind = 2; attempts = 0 }
status_shape (statuses.Parked n) = record { unit = 0; kind = 3; attempts = n }
status_shape statuses.Killed = record { unit = 0; kind = 4; attempts = 0 }

abbrev pub look_shape : Look → LookOut
look_shape l = record { element = element_shape l.element; status = status_shape l.status }

abbrev pub released_shape : Released → ReleasedOut
released_shape r = record { unit = r.unit; attempt = r.attempt }

-- the stage is one of an output
abbrev pub IsDraftIn : DraftIn → Type 0
IsDraftIn d = (1 ≤ d.stage) × (d.stage ≤ REPLY_STAGE)

abbrev pub draft_given : DraftIn → DraftView
draft_given d = record { stage = d.stage; body = d.body }

abbrev pub counts_shape : Counts → CountsOut
counts_shape n =
    record { waiting = n.waiting; held = n.held; consumed = n.consumed; parked = n.parked; killed = n.killed }

abbrev pub limits_shape : Limits → PlainLimits
limits_shape l = record {
  parts = l.parts;
  rows = l.rows;
  units = l.units;
  spare = l.spare;
  attempts = l.attempts;
}

abbrev pub moved_shape : Moved → MovedOut
moved_shape m = record {
  old_id = m.old;
  new_id = m.new;
  old_root = m.old_root;
  new_root = m.new_root;
  holder = number_code m.holder;
}

-- how many bytes each type that crosses takes, and of a handle what the library uses, in the order that C knows
abbrev pub sizes : List ℕ
sizes = 10 ∷ 48 ∷ 56 ∷ 4 ∷ 56 ∷ 40 ∷ 8 ∷ 4 ∷ 4 ∷ 20 ∷ 20 ∷ 8 ∷ 8 ∷ []
