-- The roots of what was carried over, of those that weren't carried over themselves.
use Rattle.std.specs.Prelude.{◌==◌, ◌||◌, ℕ, zero, suc, Bool, if◌then◌else◌, List, [], ◌∷◌, ◌++◌, Option}
use Rattle.std.specs.Prelude.{Some, None}
use Rattle.std.specs.Prelude.{codes, length, slice_get, take}
use Rattle.std.specs.List.{flat_map, list_any}
use Rattle.tp_rollover.specs.declared.moved.Moved.{Moved}
use Rattle.tp_report.specs.Answer.{renamed_text}
use Rattle.tp_report.specs.declared.answer.Renamed.{Renamed}
use Rattle.tp_script.specs.Fault.{◌<>◌}

-- whether one of these elements had this id
abbrev pub is_carried : ℕ → List Moved → Bool
is_carried id moved = list_any (λ m. m.old == id) moved

-- whether one of them had this root
abbrev pub has_root : ℕ → List Moved → Bool
has_root root moved = list_any (λ m. m.old_root == root) moved

-- the root of an element, by its id before and its id now, unless it is one of all elements, or the root of
-- one of those before
abbrev pub root_at : List Moved → List Moved → Option Moved → List Renamed
root_at moved before None = []
root_at moved before (Some m) = if is_carried m.old_root moved || has_root m.old_root before then []
    else record { old = m.old_root; new = m.new_root } ∷ []

-- those of the first n elements
abbrev pub roots_below : List Moved → ℕ → List Renamed
roots_below moved zero = []
roots_below moved (suc n) = roots_below moved n ++ root_at moved (take n moved) (slice_get moved n)

-- and of all
abbrev pub roots_of : List Moved → List Renamed
roots_of moved = roots_below moved (length moved)

-- ` roots OLD:NEW ..`, where there is one
abbrev pub roots_text : List Renamed → List ℕ
roots_text roots = if length roots == 0 then [] else codes " roots" <> flat_map renamed_text roots
