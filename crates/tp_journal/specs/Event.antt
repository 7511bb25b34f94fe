-- A call of a device's file.
use Rattle.std.specs.Prelude.{ℕ, Bool, List, slice_index, ◌==◌}

-- which call it was, a number that it was given, whether it succeeded, and bytes that it was given
abbrev pub FileCall : Type 0
FileCall = ℕ × ℕ × Bool × List ℕ

abbrev pub told_event : List ℕ → List ℕ → FileCall
told_event numbers bytes = (slice_index numbers 0, slice_index numbers 1, slice_index numbers 2 == 1, bytes)
