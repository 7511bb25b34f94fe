use Rattle.std.proofs.Common.{◌≡◌, ◌+◌, ◌≤◌, ◌<◌, sym, ◌∙◌, ap, refl, rules, arith, subst}
use Rattle.tp_model.specs.declared.trace.StepKind.TheVariants as kinds
use Rattle.tp_model.specs.declared.types.Limits.{Limits}
use Rattle.tp_model.specs.Words.{TakenWord, claim_word}
use Rattle.tp_model.proofs.Bridges.{begins_refl, begins_trans, found_later, status_again, status_free, status_killed}
use Rattle.tp_model.proofs.Later.{unit_inside}
use Rattle.tp_rule.specs.Words.{claim_value, unit_value}
use Rattle.tp_rule.specs.declared.packing.Claim.{Claim}
use Rattle.tp_rule.specs.Tables.{table_limits}
use Rattle.tp_rule.specs.Steps.{AllowsRequeue}
use Rattle.tp_rule.specs.Views.{seen_by, view_of}
use Rattle.tp_manager.specs.Bounds.{renew_steps}
use Rattle.tp_manager.specs.CallSteps.{Looked}
use Rattle.tp_manager.proofs.Calls.CallSteps.{acted_by, looked, looked_begins, looked_few, looked_then}
use Rattle.tp_manager.proofs.Rows.Looks.{consumed_now, held_yet}
use Rattle.tp_manager.proofs.Kills.Requeues.{gone_on, no_round, not_consumed, not_held, not_killed, not_waiting, not_yet, renewed_by}
use Rattle.tp_manager.proofs.manager.Shared.requeue_row.Goals as goal
use Rattle.tp_manager.proofs.manager.Shared.requeue_row.Goals.{After-load_claim-claim, In-Taken, After-load_unit, In-Err}

one : (c : After-load_claim-claim) → Looked (table_limits c.args.self.now.words) 1 (view_of c.args.seat.now) (view_of c.load_claim-claim.new.seat)
one c = looked _ 1 _ _ (acted_by _ kinds.Load _ _ c.requires.steady.steady refl c.load_claim-claim.ensures.grew)

-- the claim was found, and then its unit
two : (c : After-load_unit) → Looked (table_limits c.args.self.now.words) 1 (view_of c.args.seat.now) (view_of c.load_claim-claim.new.seat) → Looked (table_limits c.args.self.now.words) 1 (view_of c.load_claim-claim.new.seat) (view_of c.load_unit.new.seat)
two c o = looked _ 1 _ _ (acted_by _ kinds.Load _ _ o.walk.steady refl c.load_unit.ensures.grew)

taken : (c : In-Taken) → claim_word (seen_by c.load_claim-claim.new.seat) c.args.row ≡ TakenWord c.in-Taken.attempt c.in-Taken.unit c.in-Taken.round
taken c = sym c.load_claim-claim.ensures.claim ∙ ap claim_value c.in-Taken.is

attempts_are : (l k : Limits) → l ≡ k → k.attempts ≡ l.attempts
attempts_are l k same = ap (λ (z : Limits). z.attempts) (sym same)

pub load_unit-requires-clause-unit : goal.load_unit-requires-clause-unit
load_unit-requires-clause-unit c = let at = goal.at.load_unit-requires-clause-unit c in let o = one at.After-load_claim-claim in
    unit_inside (table_limits c.args.self.now.words) (seen_by c.load_claim-claim.new.seat) c.args.row c.in-Taken.attempt c.in-Taken.unit o.walk.steady.shows.legal (taken at.In-Taken)

pub returns-in-Free-clause-told : goal.returns-in-Free-clause-told
returns-in-Free-clause-told c = let l : Limits = table_limits c.args.self.now.words in let o = one (goal.at.returns-in-Free-clause-told c).After-load_claim-claim in let h = seen_by c.load_claim-claim.new.seat in (
  looked_few l 1 renew_steps _ _ (omega arith) o,
  (h, looked_begins l 1 _ _ o, begins_refl h, not_waiting l h c.args.row 0 (status_free l h c.args.row o.walk.steady.shows.legal (sym c.load_claim-claim.ensures.claim ∙ ap claim_value c.in-Free.is))),
)

pub returns-in-Again-clause-told : goal.returns-in-Again-clause-told
returns-in-Again-clause-told c = let l : Limits = table_limits c.args.self.now.words in let o = one (goal.at.returns-in-Again-clause-told c).After-load_claim-claim in let h = seen_by c.load_claim-claim.new.seat in (
  looked_few l 1 renew_steps _ _ (omega arith) o,
  (h, looked_begins l 1 _ _ o, begins_refl h, not_waiting l h c.args.row 0 (status_again l h c.args.row c.in-Again.round o.walk.steady.shows.legal (sym c.load_claim-claim.ensures.claim ∙ ap claim_value c.in-Again.is))),
)

pub returns-in-Killed-clause-told : goal.returns-in-Killed-clause-told
returns-in-Killed-clause-told c = let l : Limits = table_limits c.args.self.now.words in let o = one (goal.at.returns-in-Killed-clause-told c).After-load_claim-claim in let h = seen_by c.load_claim-claim.new.seat in (
  looked_few l 1 renew_steps _ _ (omega arith) o,
  (h, looked_begins l 1 _ _ o, begins_refl h, not_killed l h c.args.row (status_killed l h c.args.row c.in-Killed.attempt c.in-Killed.unit o.walk.steady.shows.legal (sym c.load_claim-claim.ensures.claim ∙ ap claim_value c.in-Killed.is))),
)

pub returns-then-attempt-self-clause-told : goal.returns-then-attempt-self-clause-told
returns-then-attempt-self-clause-told c = let l : Limits = table_limits c.args.self.now.words in let at = goal.at.returns-then-attempt-self-clause-told c in let o = one at.After-load_claim-claim in let h = seen_by c.load_claim-claim.new.seat in
    let less = subst (λ n. c.in-Taken.attempt < n) (attempts_are l c.args.self.now.places.limits c.args.self.now.same) c.if-attempt-self.true in (
      looked_few l 1 renew_steps _ _ (omega arith) o,
      (h, looked_begins l 1 _ _ o, begins_refl h, not_yet l h c.args.row c.in-Taken.attempt c.in-Taken.unit c.in-Taken.round o.walk.steady.shows.legal (taken at.In-Taken) less),
    )

pub returns-in-Undecided-clause-told : goal.returns-in-Undecided-clause-told
returns-in-Undecided-clause-told c = let l : Limits = table_limits c.args.self.now.words in let at = goal.at.returns-in-Undecided-clause-told c in let o = one at.After-load_claim-claim in let t = two at.After-load_unit o in let h = seen_by c.load_unit.new.seat in let all = looked_then l 1 1 _ _ _ o t in (
  looked_few l 2 renew_steps _ _ (omega arith) all,
  (
    h,
    looked_begins l 2 _ _ all,
    begins_refl h,
    not_held l h c.args.row c.in-Taken.unit c.in-Taken.attempt
        (sym (held_yet l (seen_by c.load_claim-claim.new.seat) h t.walk.steady.shows.legal (looked_begins l 1 _ _ t) c.args.row c.in-Taken.attempt c.in-Taken.unit (taken at.In-Taken) (sym (ap unit_value c.in-Undecided.is) ∙ c.load_unit.ensures.end))),
  ),
)

pub returns-in-Committed-clause-told : goal.returns-in-Committed-clause-told
returns-in-Committed-clause-told c = let l : Limits = table_limits c.args.self.now.words in let at = goal.at.returns-in-Committed-clause-told c in let o = one at.After-load_claim-claim in let t = two at.After-load_unit o in let h = seen_by c.load_unit.new.seat in let all = looked_then l 1 1 _ _ _ o t in (
  looked_few l 2 renew_steps _ _ (omega arith) all,
  (
    h,
    looked_begins l 2 _ _ all,
    begins_refl h,
    not_consumed l h c.args.row c.in-Taken.unit
        (sym (consumed_now l (seen_by c.load_claim-claim.new.seat) h t.walk.steady.shows.legal (looked_begins l 1 _ _ t) c.args.row c.in-Taken.attempt c.in-Taken.unit c.in-Committed.first c.in-Committed.count (taken at.In-Taken) (sym (ap unit_value c.in-Committed.is) ∙ c.load_unit.ensures.end))),
  ),
)

pub returns-then-round-ge-MAX_ROUNDS-clause-told : goal.returns-then-round-ge-MAX_ROUNDS-clause-told
returns-then-round-ge-MAX_ROUNDS-clause-told c = let l : Limits = table_limits c.args.self.now.words in let at = goal.at.returns-then-round-ge-MAX_ROUNDS-clause-told c in let o = one at.After-load_claim-claim in let t = two at.After-load_unit o in let h = seen_by c.load_unit.new.seat in let all = looked_then l 1 1 _ _ _ o t in
    let high = subst (λ n. n ≤ c.in-Taken.attempt) (attempts_are l c.args.self.now.places.limits c.args.self.now.same) c.if-attempt-self.false in
    let p = no_round l (seen_by c.load_claim-claim.new.seat) h c.args.row c.in-Taken.attempt c.in-Taken.unit c.in-Taken.round t.walk.steady.shows.legal (looked_begins l 1 _ _ t) (taken at.In-Taken) (sym c.load_unit.ensures.end ∙ ap unit_value c.in-Aborted.is) high c.if-round-ge-MAX_ROUNDS.true in (
      looked_few l 2 renew_steps _ _ (omega arith) all,
      (p.0, begins_trans _ _ _ (looked_begins l 1 _ _ o) p.1, p.2, p.3),
    )

pub requeue_exchange-requires-clause-row : goal.requeue_exchange-requires-clause-row
requeue_exchange-requires-clause-row c = let at = goal.at.requeue_exchange-requires-clause-row c in let o = one at.After-load_claim-claim in let all = looked_then _ 1 1 _ _ _ o (two at.After-load_unit o) in let b = c.requires.row.1 in
    (c.requires.row.0, (b.0, found_later _ _ (looked_begins _ 2 _ _ all) c.args.row b.0 b.1))

pub requeue_exchange-requires-clause-found : goal.requeue_exchange-requires-clause-found
requeue_exchange-requires-clause-found c = let l : Limits = table_limits c.args.self.now.words in let h = seen_by c.load_unit.new.seat in
    let parked : AllowsRequeue l h (TakenWord c.in-Taken.attempt c.in-Taken.unit c.in-Taken.round) = search rules in
    subst (λ (x : Claim). AllowsRequeue l h (claim_value x)) (sym c.in-Taken.is) parked

pub returns-in-Ok-clause-told : goal.returns-in-Ok-clause-told
returns-in-Ok-clause-told c = let l : Limits = table_limits c.args.self.now.words in let at = goal.at.returns-in-Ok-clause-told c in let o = one at.After-load_claim-claim in let all = looked_then l 1 1 _ _ _ o (two at.After-load_unit o) in
    let few : c.in-Taken.round < 3 = c.if-round-ge-MAX_ROUNDS.false in
    renewed_by l 2 c.args.row (c.in-Taken.round + 1) _ _ _ (omega arith) (omega arith) all (search rules)

pub returns-in-Err-clause-told : goal.returns-in-Err-clause-told
returns-in-Err-clause-told c = let l : Limits = table_limits c.args.self.now.words in let at = goal.at.returns-in-Err-clause-told c in let o = one at.After-load_claim-claim in let t = two at.After-load_unit o in let miss = c.in-Err.ensures.miss in
    let e = looked l 1 _ _ (acted_by l kinds.RequeueExchange (view_of c.load_unit.new.seat) (view_of c.requeue_exchange.new.seat) t.walk.steady refl miss.0) in let rest = looked_then l 1 1 _ _ _ t e in
    let p = gone_on l (seen_by c.load_claim-claim.new.seat) (seen_by c.requeue_exchange.new.seat) c.args.row (claim_value c.load_claim-claim.result.tells) rest.walk.steady.shows.legal (looked_begins l 2 _ _ rest) c.load_claim-claim.ensures.claim (λ same. miss.1 (miss.2 ∙ same)) in (
      looked_then l 1 2 _ _ _ o rest,
      (p.0, begins_trans _ _ _ (looked_begins l 1 _ _ o) p.1, p.2, p.3),
    )
