-- The walk through a request's family, computed: from which elements it goes on, one after another. In each
-- definition root is the id of the request, and `gone` says from which elements the walk has gone on.
use Rattle.std.specs.Prelude.{ℕ, ◌==◌, ◌&&◌, ◌||◌, Bool, false, not, Option, Some, None, List, [], ◌∷◌, ◌++◌}
use Rattle.std.specs.List.{find, fold, list_any, range_with_len}
use Rattle.std.specs.Option.{option_map_or}
use Rattle.tp_model.specs.declared.types.Element.{Element}
use Rattle.tp_model.specs.History.{element_of, status_of}
use Rattle.tp_model.specs.Steps.{rows_of}
use Rattle.tp_plain.specs.Looks.{is_consumed_by}
use Rattle.tp_plain.specs.OneThread.{State}

-- whether unit u consumed one of these elements
abbrev pub consumed_one : State → List ℕ → ℕ → Bool
consumed_one s gone u = list_any (λ i. is_consumed_by u (status_of s.limits.attempts s.history i)) gone

-- whether what was found under an id was made by a unit that did
abbrev pub comes_from : State → List ℕ → Option Element → Bool
comes_from s gone None = false
comes_from s gone (Some x) = option_map_or (consumed_one s gone) x.by false

-- whether the walk has come to element j
abbrev pub is_reached : State → ℕ → List ℕ → ℕ → Bool
is_reached s root gone j = j == root || comes_from s gone (element_of s.history j)

-- and not gone on from it
abbrev pub is_ahead : State → ℕ → List ℕ → ℕ → Bool
is_ahead s root gone j = is_reached s root gone j && not (list_any (λ i. i == j) gone)

-- it goes on from the least of those
abbrev pub next_of_walk : State → ℕ → List ℕ → Option ℕ
next_of_walk s root gone = find (is_ahead s root gone) (range_with_len 0 (rows_of s.limits))

-- and has then gone on from one more, if there was one
abbrev pub and_one_more : List ℕ → Option ℕ → List ℕ
and_one_more gone None = gone
and_one_more gone (Some i) = gone ++ i ∷ []

-- the walk after this many elements at most
abbrev pub walk_for : State → ℕ → ℕ → List ℕ
walk_for s root n = fold (λ gone k. and_one_more gone (next_of_walk s root gone)) [] (range_with_len 0 n)

-- the whole of it
abbrev pub walk_of : State → ℕ → List ℕ
walk_of s root = walk_for s root (rows_of s.limits)
