use Rattle.std.proofs.Common.{◌≢◌, ◌≤◌, None, refl, subst}
use Rattle.tp_manager.specs.Shown.{PassShown}
use Rattle.tp_rollover.proofs.Lists.{in_at}
use Rattle.covetrivet_c.proofs.places.has_open_from.Goals as goal

pub returns-then-is_open_from : goal.returns-then-is_open_from
returns-then-is_open_from c same =
    let found = c.index-passes-place.result in
    let is = subst (λ (p : PassShown). (c.args.number ≤ p.number) × (p.open_unit ≢ None))
    c.index-passes-place.is (c.if-is_open_from.ensures refl) in
    (_, in_at c.args.passes.now c.loop-place.place found c.loop-place-test.true, is.0, is.1)
