use Rattle.std.proofs.Common.{◌≡◌, ℕ, [], ◌∷◌, sym, ◌∙◌, ap, refl, arith, subst}
use Rattle.tp_model.specs.declared.types.Limits.{Limits}
use Rattle.tp_model.specs.declared.event.Event.TheVariants.{Abort}
use Rattle.tp_model.specs.declared.trace.StepKind.TheVariants as kinds
use Rattle.tp_model.specs.Words.{TakenWord, claim_word}
use Rattle.tp_model.proofs.Bridges.{status_killed}
use Rattle.tp_model.proofs.Later.{claim_taken, unit_inside}
use Rattle.tp_rule.specs.declared.packing.Claim.{Claim}
use Rattle.tp_rule.specs.declared.packing.Claim.TheVariants as claims
use Rattle.tp_rule.specs.Words.{claim_value, unit_value}
use Rattle.tp_rule.specs.Steps.{AllowsKill}
use Rattle.tp_rule.specs.Tables.{table_limits}
use Rattle.tp_rule.specs.Views.{hand, seen_by, view_of}
use Rattle.tp_rule.specs.declared.view.View.{View}
use Rattle.tp_manager.specs.Kills.{Freed, Loosened, takers}
use Rattle.tp_manager.specs.CallSteps.{Looked, Steady}
use Rattle.tp_manager.proofs.Calls.CallSteps.{acted_by, looked, looked_begins, looked_none}
use Rattle.tp_manager.proofs.Rows.Looks.{consumed_now}
use Rattle.tp_manager.proofs.Kills.OneKill.{allows_aborted, freed_abort, freed_looked}
use Rattle.tp_manager.proofs.manager.Shared.loosen.Goals as goal
use Rattle.tp_manager.proofs.manager.Shared.loosen.Goals.{In-Taken}

taken : (c : In-Taken) → claim_word (seen_by c.args.seat.now) c.args.row ≡ TakenWord c.in-Taken.attempt c.in-Taken.unit c.in-Taken.round
taken c = sym c.requires.found ∙ ap claim_value c.in-Taken.is

-- what is found of the claim, and of the number of units in the way
told : (l : Limits) (i count : ℕ) (v w : View) (x y : Claim) → x ≡ y → Loosened l i (claim_value y) count v w → Loosened l i (claim_value x) count v w
told l i count v w x y is t = subst (λ z. Loosened l i (claim_value z) count v w) (sym is) t

way : (l : Limits) (v w : View) (x y : Claim) → x ≡ y → Looked l (takers (claim_value y)) v w → Looked l (takers (claim_value x)) v w
way l v w x y is a = subst (λ z. Looked l (takers (claim_value z)) v w) (sym is) a

pub abort_exchange-requires-clause-unit : goal.abort_exchange-requires-clause-unit
abort_exchange-requires-clause-unit c = let l : Limits = table_limits c.args.self.now.words in let is = taken (goal.at.abort_exchange-requires-clause-unit c).In-Taken in let legal = c.requires.steady.steady.shows.legal in
    let t = claim_taken l (seen_by c.args.seat.now) c.args.row c.in-Taken.attempt c.in-Taken.unit legal is in
    ((t.0, t.1), unit_inside l (seen_by c.args.seat.now) c.args.row c.in-Taken.attempt c.in-Taken.unit legal is)

-- nobody is in the way
free_way : (l : Limits) (i : ℕ) (v : View) (x : Claim) → Steady l v → takers (claim_value x) ≡ 0 → AllowsKill l v.seen (claim_value x) → Loosened l i (claim_value x) 0 v v
free_way l i v x st none may = ([], refl, omega arith, subst (λ n. Freed l n i [] v v) (sym none) (freed_looked l 0 i v v (looked_none l v st)), may)

pub returns-in-Free-clause-told : goal.returns-in-Free-clause-told
returns-in-Free-clause-told c = let l : Limits = table_limits c.args.self.now.words in let v = view_of c.args.seat.now in
    told l c.args.row 0 v v c.args.claim claims.Free c.in-Free.is (free_way l c.args.row v claims.Free c.requires.steady.steady refl tt)

pub returns-in-Again-clause-told : goal.returns-in-Again-clause-told
returns-in-Again-clause-told c = let l : Limits = table_limits c.args.self.now.words in let v = view_of c.args.seat.now in
    told l c.args.row 0 v v c.args.claim (claims.Again c.in-Again.round) c.in-Again.is (free_way l c.args.row v (claims.Again c.in-Again.round) c.requires.steady.steady refl tt)

pub returns-in-Killed-clause-told : goal.returns-in-Killed-clause-told
returns-in-Killed-clause-told c = let l : Limits = table_limits c.args.self.now.words in let v = view_of c.args.seat.now in (
  way l v v c.args.claim (claims.Killed c.in-Killed.attempt c.in-Killed.unit c.in-Killed.round) c.in-Killed.is (looked_none l v c.requires.steady.steady),
  status_killed l _ c.args.row c.in-Killed.attempt c.in-Killed.unit c.requires.steady.steady.shows.legal (sym c.requires.found ∙ ap claim_value c.in-Killed.is),
)

pub returns-in-Ok-clause-told : goal.returns-in-Ok-clause-told
returns-in-Ok-clause-told c = let l : Limits = table_limits c.args.self.now.words in let v = view_of c.args.seat.now in let w = view_of c.abort_exchange.new.seat in let is = taken (goal.at.returns-in-Ok-clause-told c).In-Taken in
    let t = freed_abort l c.args.row c.in-Taken.attempt c.in-Taken.unit v w c.requires.steady.steady is c.in-Ok.ensures.hit in
    told l c.args.row 1 v w c.args.claim (claims.Taken c.in-Taken.attempt c.in-Taken.unit c.in-Taken.round) c.in-Taken.is
    (Abort (hand v).number c.in-Taken.unit ∷ [], refl, omega arith, t.0, allows_aborted l w.seen c.in-Taken.attempt c.in-Taken.unit c.in-Taken.round t.1)

pub unreachable-requires : goal.unreachable-requires
unreachable-requires c = c.in-Err.ensures.miss.ended (ap unit_value c.in-Undecided.is)

pub returns-in-Committed-clause-told : goal.returns-in-Committed-clause-told
returns-in-Committed-clause-told c = let l : Limits = table_limits c.args.self.now.words in let is = taken (goal.at.returns-in-Committed-clause-told c).In-Taken in let miss = c.in-Err.ensures.miss in
    let a = acted_by l kinds.AbortExchange _ _ c.requires.steady.steady refl (miss.other c.requires.free) in let b = looked l 1 _ _ a in (
      way l _ _ c.args.claim (claims.Taken c.in-Taken.attempt c.in-Taken.unit c.in-Taken.round) c.in-Taken.is b,
      sym (consumed_now l (seen_by c.args.seat.now) (seen_by c.abort_exchange.new.seat) a.walk.steady.shows.legal (looked_begins l 1 _ _ b) c.args.row c.in-Taken.attempt c.in-Taken.unit c.in-Committed.first c.in-Committed.count is (sym (ap unit_value c.in-Committed.is) ∙ miss.found_is)),
    )

pub returns-in-Aborted-clause-told : goal.returns-in-Aborted-clause-told
returns-in-Aborted-clause-told c = let l : Limits = table_limits c.args.self.now.words in let miss = c.in-Err.ensures.miss in let a = acted_by l kinds.AbortExchange _ _ c.requires.steady.steady refl (miss.other c.requires.free) in
    told l c.args.row 0 _ _ c.args.claim (claims.Taken c.in-Taken.attempt c.in-Taken.unit c.in-Taken.round) c.in-Taken.is
    ([], refl, omega arith, freed_looked l 1 c.args.row _ _ (looked l 1 _ _ a), allows_aborted l (seen_by c.abort_exchange.new.seat) c.in-Taken.attempt c.in-Taken.unit c.in-Taken.round (sym miss.found_is ∙ ap unit_value c.in-Aborted.is))
