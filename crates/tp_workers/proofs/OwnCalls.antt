-- What the manager's own calls add to the commits of a pass.
use Rattle.std.proofs.Common.{◌≡◌, ℕ, ◌+◌, List, ap, refl, ⊎_elim, arith, count_by}
use Rattle.tp_model.specs.Drafts.{DraftView}
use Rattle.tp_model.specs.declared.types.Limits.{Limits}
use Rattle.tp_model.specs.declared.types.Outcome.{Outcome}
use Rattle.tp_model.specs.declared.types.Outcome.TheVariants as outcomes
use Rattle.tp_model.specs.declared.types.Work.{Work}
use Rattle.tp_manager.specs.Calls.{Settles, Takes}
use Rattle.tp_manager.specs.Shown.{PassShown}
use Rattle.tp_workers.specs.Gains.{commits_in, is_commit}
use Rattle.tp_workers.proofs.Events.{counted_one}

quiet : (p q : PassShown) → q.mine ≡ p.mine → commits_in q ≡ commits_in p
quiet p q same = ap (count_by is_commit) same

-- a claim adds none
pub takes_commits : (l : Limits) (stage : ℕ) (work : Work) (p q : PassShown) → Takes l stage work p q → commits_in q ≡ commits_in p
takes_commits l stage work p q takes = omega (arith, counted_one is_commit p.mine q.mine _ 0 takes.opens.adds.mine refl)

-- a commit adds one where it answers that it did
abbrev pub committed : Outcome → ℕ
committed (outcomes.Committed first count) = 1
committed outcomes.Lost = 0
committed outcomes.Full = 0

pub settles_commits : (drafts : List DraftView) (p q : PassShown) (o : Outcome) → Settles drafts p q o → committed o + commits_in p ≡ commits_in q
settles_commits drafts p q (outcomes.Committed first count) commits = counted_one is_commit p.mine q.mine _ 1 commits.adds.mine refl
settles_commits drafts p q outcomes.Lost (u, closes, row, uses, loses) = omega (arith, quiet p q loses.0)
settles_commits drafts p q outcomes.Full (few, all_drawn, (u, closes, run, how)) =
    ⊎_elim (λ adds. counted_one is_commit p.mine q.mine _ 0 adds.mine refl) (λ loses. omega (arith, quiet p q loses.0)) how
