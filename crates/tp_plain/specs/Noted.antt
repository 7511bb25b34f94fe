-- The event that a `Note` speaks of.
use Rattle.tp_model.specs.declared.event.Event.{Event}
use Rattle.tp_model.specs.declared.event.Event.TheVariants.{Enqueue, Claim, Commit, Abort, Kill, Requeue}
use Rattle.tp_plain.specs.declared.history.Note.{Note}
use Rattle.tp_plain.specs.declared.history.Note.TheVariants as note

-- the event of a note
abbrev pub noted_event : Note → Event
noted_event (note.Enqueue c e) = Enqueue c e
noted_event (note.Claim c u i n) = Claim c u i n
noted_event (note.Commit c u outs) = Commit c u outs.now
noted_event (note.Abort c u) = Abort c u
noted_event (note.Kill c i) = Kill c i
noted_event (note.Requeue c i r) = Requeue c i r
