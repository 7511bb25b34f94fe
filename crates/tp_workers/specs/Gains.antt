-- What a worker's pass gained.
use Rattle.std.specs.Prelude.{◌≡◌, ℕ, List, ◌++◌, All, Bool, true, false, count_by}
use Rattle.tp_model.specs.declared.event.Event.{Event}
use Rattle.tp_model.specs.declared.event.Event.TheVariants.{Enqueue, Commit, Kill}
use Rattle.tp_manager.specs.Shown.{PassShown}

-- the pass made events more, each of which is such a one
abbrev pub GainsOnly : (Event → Type 0) → PassShown → PassShown → Type 0
GainsOnly Is old new = (more : List Event) × (new.mine ≡ old.mine ++ more) × All Is more

-- the events differ
abbrev pub is_enqueue : Event → Bool
is_enqueue (Enqueue c e) = true
is_enqueue other = false

abbrev pub is_commit : Event → Bool
is_commit (Commit c u outs) = true
is_commit other = false

abbrev pub is_kill : Event → Bool
is_kill (Kill c i) = true
is_kill other = false

-- how many Enqueues, Commits and Kills the pass has made
abbrev pub enqueues_in : PassShown → ℕ
enqueues_in p = count_by is_enqueue p.mine

abbrev pub commits_in : PassShown → ℕ
commits_in p = count_by is_commit p.mine

abbrev pub kills_in : PassShown → ℕ
kills_in p = count_by is_kill p.mine
