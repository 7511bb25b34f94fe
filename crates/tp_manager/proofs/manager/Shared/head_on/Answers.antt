use Rattle.std.proofs.Common.{◌≡◌, sym, subst, arith, rules}
use Rattle.tp_rule.specs.declared.packing.Head.TheVariants.{Empty}
use Rattle.tp_model.specs.declared.types.Limits.{Limits}
use Rattle.tp_model.specs.Steps.{IsArea}
use Rattle.tp_rule.specs.Tables.{table_limits}
use Rattle.tp_rule.specs.Views.{seen_by}
use Rattle.tp_manager.proofs.Rows.Looks.{ahead_on, goes_end}
use Rattle.tp_manager.proofs.manager.Shared.head_on.Goals as goal

pub returns-then-eq-clause-on : goal.returns-then-eq-clause-on
returns-then-eq-clause-on c = goes_end _ _ c.args.self.now.same c.args.row.now c.area_end.result c.area_end.ensures.area c.area_end.ensures.inside

pub returns-then-eq-clause-none : goal.returns-then-eq-clause-none
returns-then-eq-clause-none c = λ i low high. let t = c.area_end.ensures.area in
    (c.head_at-head.ensures.none (search rules)).none t.0 c.area_end.result i (subst (λ (l : Limits). IsArea l t.0 c.area_end.result) (sym c.args.self.now.same) t.1) t.2 (omega arith) high

pub returns-then-eq-clause-ahead : goal.returns-then-eq-clause-ahead
returns-then-eq-clause-ahead c = λ i low high _. let t = c.area_end.ensures.area in
    ahead_on (table_limits c.args.self.now.words) (seen_by c.head_at-head.new.seat) c.args.row.now i t.0 c.area_end.result (subst (λ (l : Limits). IsArea l t.0 c.area_end.result) (sym c.args.self.now.same) t.1) t.2 low high (c.head_at-head.ensures.none (search rules))

pub returns-else-eq-clause-ahead : goal.returns-else-eq-clause-ahead
returns-else-eq-clause-ahead c = λ i low high is. let empty : c.head_at-head.result ≡ Empty = is (omega arith) in absurd (search rules)
