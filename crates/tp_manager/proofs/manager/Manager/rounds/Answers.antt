use Rattle.std.proofs.Common.{◌≡◌, ◌≤◌, sym, ◌∙◌, ap, refl, arith, subst}
use Rattle.tp_model.specs.declared.trace.StepKind.TheVariants as kinds
use Rattle.tp_model.specs.declared.types.Limits.{Limits}
use Rattle.tp_model.specs.History.{IsUnborn}
use Rattle.tp_model.specs.Steps.{rows_of}
use Rattle.tp_model.specs.Words.{round_in}
use Rattle.tp_model.proofs.Bridges.{found_later}
use Rattle.tp_model.proofs.WordProofs.{rounds_by_words}
use Rattle.tp_rule.specs.Tables.{table_limits}
use Rattle.tp_rule.specs.Views.{seen_by, view_of}
use Rattle.tp_manager.specs.Shown.{ManagerShown, PassShown, spot}
use Rattle.tp_manager.specs.Bounds.{birth_steps, rounds_steps}
use Rattle.tp_manager.specs.Requeues.{HasHadRounds}
use Rattle.tp_manager.specs.CallSteps.{Acted}
use Rattle.tp_manager.proofs.Calls.CallSteps.{acted_by, acted_then, looked, looked_begins, follows, at_point, has_looked, point_last, climbs_same, remembers}
use Rattle.tp_manager.proofs.Calls.Passes.{rests_looked, point_none, unborn_beyond}
use Rattle.tp_manager.proofs.manager.Manager.rounds.Goals as goal
use Rattle.tp_manager.proofs.manager.Manager.rounds.Goals.{After-rows, After-birth_from, After-load_claim-claim}

lim : (c : After-rows) → (view_of c.pass.inside.seat).limits ≡ table_limits c.self.inside.shared.words
lim c = ap (λ (p : PassShown). p.limits) c.pass.view_is ∙ (c.requires.own.1 ∙ (sym (ap (λ (m : ManagerShown). m.limits) c.self.view_is) ∙ sym c.self.inside.shared.same))

none : (c : After-birth_from) → Acted (table_limits c.self.inside.shared.words) birth_steps (view_of c.pass.inside.seat) (view_of c.birth_from.new.seat)
none c = acted_then _ 1 1 _ _ _ c.head_at-head.ensures.acted c.birth_from.ensures.looked

-- the load of the claim
last : (c : After-load_claim-claim) → Acted (table_limits c.self.inside.shared.words) birth_steps (view_of c.pass.inside.seat) (view_of c.birth_from.new.seat) → Acted (table_limits c.self.inside.shared.words) 1 (view_of c.birth_from.new.seat) (view_of c.load_claim-claim.new.seat)
last c n = acted_by _ kinds.Load _ _ n.walk.steady refl c.load_claim-claim.ensures.grew

whole : (c : After-load_claim-claim) → Acted (table_limits c.self.inside.shared.words) birth_steps (view_of c.pass.inside.seat) (view_of c.birth_from.new.seat) → Acted (table_limits c.self.inside.shared.words) rounds_steps (view_of c.pass.inside.seat) (view_of c.load_claim-claim.new.seat)
whole c n = acted_then _ birth_steps 1 _ _ _ n (looked _ 1 _ _ (last c n))

pub returns-then-id-rows-clause-answer : goal.returns-then-id-rows-clause-answer
returns-then-id-rows-clause-answer c = let r = c.pass.invariant.0 in let at = (goal.at.returns-then-id-rows-clause-answer c).After-rows in
    let out : rows_of (view_of c.pass.inside.seat).limits ≤ c.args.id = subst (λ (z : Limits). rows_of z ≤ c.args.id) (sym (lim at ∙ c.self.inside.shared.same)) (subst (λ n. n ≤ c.args.id) c.rows.ensures c.if-id-rows.true) in
    (refl, point_none (spot c.pass.inside.seat.table c.pass.inside.lows c.pass.inside.run.drawn c.pass.inside.from) (view_of c.pass.inside.seat) c.args.pass.now c.pass.view_is _ r.steady (λ h. IsUnborn h c.args.id) (unborn_beyond _ _ c.args.id r.steady.shows.legal out))

pub invariant_of-pass-in_default : goal.invariant_of-pass-in_default
invariant_of-pass-in_default c = let at = goal.at.invariant_of-pass-in_default c in
    (rests_looked _ c.pass.inside.seat c.birth_from.new.seat (lim at.After-rows) _ _ _ _ c.pass.invariant.0 birth_steps (looked _ _ _ _ (none at.After-birth_from)), remembers c.pass.inside.lows _ _ _ _ _ (none at.After-birth_from).walk c.pass.invariant.1)

pub returns-in_default-clause-follows : goal.returns-in_default-clause-follows
returns-in_default-clause-follows c = let at = goal.at.returns-in_default-clause-follows c in
    follows (spot c.pass.inside.seat.table c.pass.inside.lows c.pass.inside.run.drawn c.pass.inside.from) (spot c.birth_from.new.seat.table c.pass.inside.lows c.pass.inside.run.drawn c.pass.inside.from) (climbs_same c.pass.inside.lows c.pass.inside.run.drawn) (view_of c.pass.inside.seat) (view_of c.birth_from.new.seat) c.args.pass.now c.pass.view_is _ birth_steps _ (none at.After-birth_from).walk rounds_steps (omega arith)

pub returns-in_default-clause-looks : goal.returns-in_default-clause-looks
returns-in_default-clause-looks c = λ _. let at = goal.at.returns-in_default-clause-looks c in let a = none at.After-birth_from in
    has_looked (spot c.pass.inside.seat.table c.pass.inside.lows c.pass.inside.run.drawn c.pass.inside.from) (spot c.birth_from.new.seat.table c.pass.inside.lows c.pass.inside.run.drawn c.pass.inside.from) (view_of c.pass.inside.seat) (view_of c.birth_from.new.seat) c.args.pass.now c.pass.view_is _ birth_steps _ a.walk a.step

pub returns-in_default-clause-answer : goal.returns-in_default-clause-answer
returns-in_default-clause-answer c = let n = none (goal.at.returns-in_default-clause-answer c).After-birth_from in (
  refl,
  at_point (spot c.pass.inside.seat.table c.pass.inside.lows c.pass.inside.run.drawn c.pass.inside.from) (spot c.birth_from.new.seat.table c.pass.inside.lows c.pass.inside.run.drawn c.pass.inside.from) (view_of c.pass.inside.seat) (view_of c.birth_from.new.seat) c.args.pass.now c.pass.view_is _ birth_steps n.marks n.walk (λ z. IsUnborn z c.args.id) (seen_by c.birth_from.new.seat)
      (point_last _ birth_steps n.marks _ _ n.walk) c.in_default.ensures.told,
)

pub invariant_of-pass-2 : goal.invariant_of-pass-2
invariant_of-pass-2 c = let at = goal.at.invariant_of-pass-2 c in let a = whole at.After-load_claim-claim (none at.After-birth_from) in
    (rests_looked _ c.pass.inside.seat c.load_claim-claim.new.seat (lim at.After-rows) _ _ _ _ c.pass.invariant.0 rounds_steps (looked _ _ _ _ a), remembers c.pass.inside.lows _ _ _ _ _ a.walk c.pass.invariant.1)

pub returns-clause-follows : goal.returns-clause-follows
returns-clause-follows c = let at = goal.at.returns-clause-follows c in
    follows (spot c.pass.inside.seat.table c.pass.inside.lows c.pass.inside.run.drawn c.pass.inside.from) (spot c.load_claim-claim.new.seat.table c.pass.inside.lows c.pass.inside.run.drawn c.pass.inside.from) (climbs_same c.pass.inside.lows c.pass.inside.run.drawn) (view_of c.pass.inside.seat) (view_of c.load_claim-claim.new.seat) c.args.pass.now c.pass.view_is _ rounds_steps _ (whole at.After-load_claim-claim (none at.After-birth_from)).walk rounds_steps (omega arith)

pub returns-clause-looks : goal.returns-clause-looks
returns-clause-looks c = λ _. let at = goal.at.returns-clause-looks c in let a = whole at.After-load_claim-claim (none at.After-birth_from) in
    has_looked (spot c.pass.inside.seat.table c.pass.inside.lows c.pass.inside.run.drawn c.pass.inside.from) (spot c.load_claim-claim.new.seat.table c.pass.inside.lows c.pass.inside.run.drawn c.pass.inside.from) (view_of c.pass.inside.seat) (view_of c.load_claim-claim.new.seat) c.args.pass.now c.pass.view_is _ rounds_steps _ a.walk a.step

pub returns-clause-answer : goal.returns-clause-answer
returns-clause-answer c =
    let at = goal.at.returns-clause-answer c in let l : Limits = table_limits c.self.inside.shared.words in let n = none at.After-birth_from in let a = whole at.After-load_claim-claim n in let h = seen_by c.load_claim-claim.new.seat in
    let told = rounds_by_words l h c.args.id a.walk.steady.shows.legal in
    let round = c.round.ensures ∙ (ap round_in c.load_claim-claim.ensures.claim ∙ told.0) in
    let there = c.in-Some.ensures.told.0 in (
      subst (λ n. n ≤ 3) (sym round) told.1,
      at_point (spot c.pass.inside.seat.table c.pass.inside.lows c.pass.inside.run.drawn c.pass.inside.from) (spot c.load_claim-claim.new.seat.table c.pass.inside.lows c.pass.inside.run.drawn c.pass.inside.from) (view_of c.pass.inside.seat) (view_of c.load_claim-claim.new.seat) c.args.pass.now c.pass.view_is l rounds_steps a.marks a.walk
          (HasHadRounds c.args.id c.round.result) h (point_last l rounds_steps a.marks _ _ a.walk)
          ((there.0, found_later _ h (looked_begins _ 1 _ _ (looked _ 1 _ _ (last at.After-load_claim-claim n))) c.args.id there.0 there.1), sym round),
    )
