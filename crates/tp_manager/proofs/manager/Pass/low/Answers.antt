use Rattle.std.proofs.Common.{◌≡◌, rules, slice_index, subst}
use Rattle.tp_rule.specs.Steps.{IsLow}
use Rattle.tp_rule.specs.Views.{view_of}
use Rattle.tp_manager.specs.Shown.{PassShown, marks_of}
use Rattle.tp_manager.proofs.Marks.Lows.{low_is}
use Rattle.tp_manager.proofs.manager.Pass.low.Goals as goal

pub returns-in-Some-get-clause-low : goal.returns-in-Some-get-clause-low
returns-in-Some-get-clause-low c = let n = c.in-Some-get.low.now in let v = view_of c.self.inside.seat in
    let is : n ≡ slice_index (marks_of c.self.inside.lows c.args.stage) c.args.part = search rules in
    subst (λ (p : PassShown). IsLow p.limits c.args.stage p.seen c.args.part n) c.self.view_is (low_is v.limits v c.self.inside.lows c.args.stage c.args.part n c.self.invariant.0.steady c.self.invariant.1.marks is)
