-- What a claim leaves, by what its steps said.
use Rattle.std.proofs.Common.{◌≡◌, ℕ, ◌+◌, ◌<◌, Some, None, List, slice_set, slice_index, ◌∙◌, ap, subst}
use Rattle.tp_model.specs.declared.types.Claimed.TheVariants as claimed
use Rattle.tp_model.specs.declared.types.Look.{Look}
use Rattle.tp_model.specs.declared.types.Work.{Work}
use Rattle.tp_model.specs.Steps.{IsServerStage}
use Rattle.tp_plain.specs.declared.pass_state.PassState.{PassState}
use Rattle.tp_plain.specs.Computed.{next_waiting, work_on, with_claimed, claim_next_of_stage}
use Rattle.tp_plain.specs.OneThread.{State, PlainTakes, PlainTakesNext, pass_at, turn_of_pass}
use Rattle.tp_plain.specs.Reached.{IsReachable}
use Rattle.tp_plain.proofs.Claims.{claim_takes, claim_next_takes}
use Rattle.tp_plain.proofs.Computations.{claim_next_works}

-- a claim
pub claim_left : (s t : State) (c stage : ℕ) (look : Look) (used : PassState) (work : Work) → IsReachable s → c < s.limits.parts → IsServerStage stage → (pass_at s c).holding ≡ None
    → used ≡ pass_at s c → used.claimed < s.limits.units → next_waiting s 0 stage ≡ Some look → work ≡ work_on s c look → t ≡ with_claimed s c look used.turns
    → PlainTakes s c stage work t
claim_left s t c stage look used work reached is_pass good free is room found by left =
    rw (by, left, is) (claim_takes s c stage look reached is_pass good (subst (λ (x : PassState). x.claimed < s.limits.units) is room) free found)

-- and a claim in turn
pub claim_next_left : (s t : State) (c stage turn : ℕ) (look : Look) (used : PassState) (turns : List ℕ) (work : Work) → IsReachable s → c < s.limits.parts → IsServerStage stage
    → (pass_at s c).holding ≡ None → used ≡ pass_at s c → used.claimed < s.limits.units → turn ≡ slice_index used.turns stage → next_waiting s turn stage ≡ Some look
    → turns ≡ slice_set used.turns stage (look.element.id + 1) → work ≡ work_on s c look → t ≡ with_claimed s c look turns
    → PlainTakesNext s c stage work t × (claim_next_of_stage s c stage ≡ (claimed.Work work, t))
claim_next_left s t c stage turn look used turns work reached is_pass good free is room begins found next by left =
    let first : turn ≡ turn_of_pass s c stage = begins ∙ ap (λ (x : PassState). slice_index x.turns stage) is in
    let waits : next_waiting s (turn_of_pass s c stage) stage ≡ Some look = subst (λ k. next_waiting s k stage ≡ Some look) first found in
    let less : (pass_at s c).claimed < s.limits.units = subst (λ (x : PassState). x.claimed < s.limits.units) is room in
    rw (by, left, next, is) (claim_next_takes s c stage look reached is_pass good less free waits, claim_next_works s c stage look less waits)
