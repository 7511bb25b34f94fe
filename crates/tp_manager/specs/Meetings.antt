-- What a meeting leaves. `a` and `b` are what the two passes show before the call, and `a'` and `b'` what
-- they show after it.
use Rattle.std.specs.Prelude.{◌≡◌, List, [], ◌∷◌, ◌++◌}
use mathlib.Core.List.{IsPrefix}
use Rattle.tp_model.specs.declared.event.Event.{Event}
use Rattle.tp_model.specs.declared.trace.StepKind.TheVariants.{Load, SeatLoad}
use Rattle.tp_model.specs.declared.trace.TraceEntry.{TraceEntry}
use Rattle.tp_manager.specs.Shown.{PassShown}

-- a load, after which this is seen
abbrev pub load : List Event → TraceEntry
load h = record { kind = Load; seen = h }

-- a load that joins or cuts what the passes step with
abbrev pub seat_load : List Event → TraceEntry
seat_load h = record { kind = SeatLoad; seen = h }

-- both passes have seen the same, and all that either had seen
pub record Meets (a b a' b' : PassShown) : Type 0 where
  pub same : a'.seen ≡ b'.seen
  pub first_saw : IsPrefix a.seen a'.seen
  pub second_saw : IsPrefix b.seen b'.seen
  -- the first joined, looked and parted, and the second was there at the look
  pub first_trace : a'.trace ≡ a.trace ++ seat_load a.seen ∷ load a'.seen ∷ seat_load a'.seen ∷ []
  pub second_trace : b'.trace ≡ b.trace ++ load b'.seen ∷ []
