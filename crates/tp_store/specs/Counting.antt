-- How many elements of each kind there are, in all and by stage.
use Rattle.std.specs.Prelude.{ℕ, ◌+◌, ◌-◌, ◌^◌, min, Option, Some, None, List, [], ◌∷◌, replicate}
use Rattle.std.specs.Prelude.{slice_index_or, slice_set}
use Rattle.tp_model.specs.Drafts.{DraftView}
use Rattle.tp_store.specs.declared.counts.Counts.{Counts}
use Rattle.tp_store.specs.declared.element.TheConstants.{LAST_STAGE}
use Rattle.tp_store.specs.declared.element.Status.{Status}
use Rattle.tp_store.specs.declared.element.Status.TheVariants.{Waiting, Held, Consumed, Parked, Killed}

-- one more, but no number passes the largest
abbrev pub one_more : ℕ → ℕ
one_more n = min (n + 1) (2 ^ 64 - 1)

-- one more of this kind
abbrev pub more : Status → Counts → Counts
more (Waiting n) c = record c { waiting = one_more c.waiting }
more (Held u n) c = record c { held = one_more c.held }
more (Consumed u) c = record c { consumed = one_more c.consumed }
more (Parked n) c = record c { parked = one_more c.parked }
more Killed c = record c { killed = one_more c.killed }

-- one less of this kind
abbrev pub less : Status → Counts → Counts
less (Waiting n) c = record c { waiting = c.waiting - 1 }
less (Held u n) c = record c { held = c.held - 1 }
less (Consumed u) c = record c { consumed = c.consumed - 1 }
less (Parked n) c = record c { parked = c.parked - 1 }
less Killed c = record c { killed = c.killed - 1 }

-- one that had the first status, if it was there, has the second
abbrev pub counted : Option Status → Status → Counts → Counts
counted None to c = more to c
counted (Some from) to c = more to (less from c)

abbrev pub no_counts : Counts
no_counts = record { waiting = 0; held = 0; consumed = 0; parked = 0; killed = 0 }

-- the counts of all, and those of each stage at its index
pub record TallyView : Type 0 where
  pub total : Counts
  pub stages : List Counts

abbrev pub no_tally : TallyView
no_tally = record { total = no_counts; stages = replicate (LAST_STAGE + 1) no_counts }

-- an element of this stage that had the first status, if it was there, has the second
abbrev pub tallied : ℕ → Option Status → Status → TallyView → TallyView
tallied stage from to t = record {
  total = counted from to t.total;
  stages = slice_set t.stages stage (counted from to (slice_index_or t.stages stage no_counts));
}

-- these are born, and wait
abbrev pub tallied_births : List DraftView → TallyView → TallyView
tallied_births [] t = t
tallied_births (d ∷ ds) t = tallied_births ds (tallied d.stage None (Waiting 0) t)
