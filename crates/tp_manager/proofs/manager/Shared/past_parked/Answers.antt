use Rattle.std.proofs.Common.{◌+◌, ◌-◌, ℕ, sym, ◌∙◌, ap, refl, inr, rules, arith}
use Rattle.tp_model.specs.declared.types.Limits.{Limits}
use Rattle.tp_model.specs.declared.trace.StepKind.TheVariants as kinds
use Rattle.tp_model.proofs.Bridges.{begins_refl}
use Rattle.tp_rule.specs.Tables.{table_limits}
use Rattle.tp_rule.specs.Views.{seen_by, view_of}
use Rattle.tp_manager.specs.CallSteps.{Acted, Looked}
use Rattle.tp_manager.specs.Scans.{EachRow, PassedBy, Sought}
use Rattle.tp_manager.proofs.Calls.CallSteps.{acted_by, looked_none}
use Rattle.tp_manager.proofs.Claims.Behind.{begun_less}
use Rattle.tp_manager.proofs.Claims.Leans.{lean_apart, lean_at, lean_other, lean_row}
use Rattle.tp_manager.proofs.Claims.Scans.{none_passed, pass_status, passed_widens, stands_last}
use Rattle.tp_manager.proofs.Rows.Seeks.{begun_few, begun_hit, begun_looked, begun_on, sought_on}
use Rattle.tp_manager.proofs.manager.Shared.past_parked.Goals as goal
use Rattle.tp_manager.proofs.manager.Shared.past_parked.Goals.{After-load_claim}

-- the steps up to the row, and the look at its claim
since : (c : After-load_claim) → Looked (table_limits c.args.self.now.words) (c.loop-row.row - c.args.from) (view_of c.args.seat.now) (view_of c.loop-row.seat)
since c = let l : Limits = table_limits c.args.self.now.words in begun_looked l (PassedBy l c.args.stage) (passed_widens l c.args.stage) _ _ c.loop-row.row _ _ c.loop-row.invariant.begun c.requires.steady.steady

acted : (c : After-load_claim) → Acted (table_limits c.args.self.now.words) 1 (view_of c.loop-row.seat) (view_of c.load_claim.new.seat)
acted c = acted_by _ kinds.Load _ _ (since c).walk.steady refl c.load_claim.ensures.grew

pub returns-then-not-is_attempt-clause-lean : goal.returns-then-not-is_attempt-clause-lean
returns-then-not-is_attempt-clause-lean c = let l : Limits = table_limits c.args.self.now.words in let a = acted (goal.at.returns-then-not-is_attempt-clause-lean c).After-load_claim in let i = c.loop-row.invariant in let up = i.from in let m : ℕ = c.loop-row.row - c.args.from in
    inr (c.loop-row-test.true, lean_apart l c.args.stage 0 c.args.from m 1 c.loop-row.row 0 1 c.args.from m _ _ _ (omega arith) (omega arith) (omega arith) (omega arith) i.lean (lean_at l c.args.stage 1 c.loop-row.row _ _ _ a.walk))

pub returns-then-not-is_attempt-clause-told : goal.returns-then-not-is_attempt-clause-told
returns-then-not-is_attempt-clause-told c = let l : Limits = table_limits c.args.self.now.words in let a = acted (goal.at.returns-then-not-is_attempt-clause-told c).After-load_claim in
    inr (begun_hit l (PassedBy l c.args.stage) (passed_widens l c.args.stage) (c.loop-row.row - c.args.from) c.args.from 1 c.loop-row.row _ _ _ c.loop-row.invariant.begun a)

pub loop-row-preserved : goal.loop-row-preserved
loop-row-preserved c = let l : Limits = table_limits c.args.self.now.words in let P = PassedBy l c.args.stage in let at = (goal.at.loop-row-preserved c).After-load_claim in let a = acted at in let i = c.loop-row.invariant in let up = i.from in
    let h = seen_by c.load_claim.new.seat in let v = view_of c.loop-row.seat in let w = view_of c.load_claim.new.seat in let row : ℕ = c.loop-row.row in let m : ℕ = row - c.args.from in
    let taken = c.is_attempt.ensures c.if-not-is_attempt.false in let most = ap (λ (z : Limits). z.attempts) c.args.self.now.same in
    let t = stands_last l row h h c.args.self.now.places.limits.attempts taken.0 taken.1 a.walk.steady.shows.legal (begins_refl h) (sym c.load_claim.ensures.claim ∙ taken.2) (omega arith) in
    let one : Sought l 1 (EachRow P row (row + 1)) v w = sought_on l P (passed_widens l c.args.stage) 1 0 row (row + 1) v w w a (looked_none l w a.walk.steady) (omega arith) (none_passed l c.args.stage) (λ j low high. absurd (omega arith))
    (pass_status l c.args.stage row h t.0 h t.1 t.2 t.3) in record {
      same = search rules;
      from = omega arith;
      lean = lean_row l c.args.stage c.args.from m row _ _ _ up (omega arith) i.lean (lean_other l c.args.stage row _ _ _ a.walk);
      begun = begun_few l P (passed_widens l c.args.stage) (m + 1) c.args.from (row + 1 - c.args.from) (row + 1) _ _ (omega arith) (begun_on l P (passed_widens l c.args.stage) m c.args.from 1 row _ _ _ i.begun (row + 1) up one);
    }

pub returns-clause-told : goal.returns-clause-told
returns-clause-told c = let l : Limits = table_limits c.args.self.now.words in let i = c.loop-row.invariant in let past = c.loop-row-test.false in let high = c.loop-row.auto.row-end in
    begun_less l (PassedBy l c.args.stage) (c.loop-row.row - c.args.from) (c.args.to - c.args.from + 1) c.args.from c.args.to c.loop-row.row _ _ (omega arith) c.requires.rows.0 (omega arith) i.begun
