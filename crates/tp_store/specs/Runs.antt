-- Runs of calls.
use Rattle.std.specs.Prelude.{ℕ, Option, List, [], ◌∷◌}
use Rattle.tp_model.specs.Drafts.{DraftView}
use Rattle.tp_store.specs.declared.store.Limits.{Limits}
use Rattle.tp_store.specs.Calls.{abort_of, cancel_of, claim_from_of, claim_of, collect_of, commit_of, kill_of}
use Rattle.tp_store.specs.Calls.{release_of, requeue_of, submit_of, take_of}
use Rattle.tp_store.specs.State.{State, with_limits}

-- a call that may change a store
pub data Call : Type 0 where
  Submit : ℕ → List ℕ → Option ℕ → Call
  Claim : ℕ → Call
  ClaimFrom : ℕ → ℕ → Call
  Take : ℕ → Call
  Commit : ℕ → ℕ → List DraftView → Call
  Abort : ℕ → ℕ → Call
  Release : ℕ → Call
  Kill : ℕ → Call
  Cancel : ℕ → Call
  Requeue : ℕ → Call
  Collect : ℕ → Call
  SetLimits : Limits → Call

-- what it leaves
abbrev pub after : Call → State → State
after (Submit stage body owner) s = (submit_of stage body owner s).1
after (Claim stage) s = (claim_of stage s).1
after (ClaimFrom stage from) s = (claim_from_of stage from s).1
after (Take id) s = (take_of id s).1
after (Commit id unit drafts) s = (commit_of id unit drafts s).1
after (Abort id unit) s = (abort_of id unit s).1
after (Release id) s = (release_of id s).1
after (Kill id) s = (kill_of id s).1
after (Cancel root) s = (cancel_of root s).1
after (Requeue id) s = (requeue_of id s).1
after (Collect id) s = (collect_of id s).1
after (SetLimits limits) s = with_limits limits s

-- the limits that hold behind it
abbrev pub limits_after : Call → State → Limits
limits_after (SetLimits limits) s = limits
limits_after other s = s.limits

-- what these calls leave, one after another
abbrev pub run : List Call → State → State
run [] s = s
run (call ∷ calls) s = run calls (after call s)
