-- What the listings find: the first id from one on that passes a test.
use Rattle.std.specs.Prelude.{ℕ, ◌-◌, ◌==◌, ◌&&◌, Bool, false, Option, Some, None}
use Rattle.std.specs.List.{find, range_with_len}
use Rattle.tp_model.specs.declared.types.TheConstants.{REPLY_STAGE}
use Rattle.tp_model.specs.declared.types.Element.{Element}
use Rattle.tp_model.specs.declared.types.Status.{Status}
use Rattle.tp_model.specs.Counts.{is_parked, is_waiting}
use Rattle.tp_model.specs.History.{element_of, status_of}
use Rattle.tp_model.specs.Steps.{rows_of}
use Rattle.tp_plain.specs.OneThread.{State}

-- whether what was found under an id is a reply to this request that waits
abbrev pub reply_found : ℕ → Status → Option Element → Bool
reply_found root st None = false
reply_found root st (Some e) = (e.stage == REPLY_STAGE) && ((e.root == root) && is_waiting st)

-- whether what was found under an id is parked
abbrev pub error_found : Status → Option Element → Bool
error_found st None = false
error_found st (Some e) = is_parked st

-- whether what was found under an id is an element of this request
abbrev pub member_found : ℕ → Option Element → Bool
member_found root None = false
member_found root (Some e) = e.root == root

-- the first id from this one on that passes a test
abbrev pub next_of : State → (ℕ → Bool) → ℕ → Option ℕ
next_of s test from = find test (range_with_len from (rows_of s.limits - from))

-- the next reply, the next element that is parked, and the next one of a request
abbrev pub next_reply_of : State → ℕ → ℕ → Option ℕ
next_reply_of s root from =
    next_of s (λ i. reply_found root (status_of s.limits.attempts s.history i) (element_of s.history i)) from

abbrev pub next_error_of : State → ℕ → Option ℕ
next_error_of s from =
    next_of s (λ i. error_found (status_of s.limits.attempts s.history i) (element_of s.history i)) from

abbrev pub next_member_of : State → ℕ → ℕ → Option ℕ
next_member_of s root from = next_of s (λ i. member_found root (element_of s.history i)) from
