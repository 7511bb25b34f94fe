use Rattle.std.proofs.Common.{◌<◌, ◌≤◌, length, ap, sym, ◌∙◌, subst}
use Rattle.tp_rollover.specs.Thread.{thread_of}
use Rattle.tp_rollover.specs.Anew.{drawer, least_units, units_unclaimed}
use Rattle.tp_rollover.proofs.BirthsPlaces.{drawer_on, drawer_past, drawer_used, left_units}
use Rattle.tp_rollover.proofs.places.drawing.Goals as goal

pub returns-in_default-clause-drawer : goal.returns-in_default-clause-drawer
returns-in_default-clause-drawer c h =
    let s = thread_of c.args.manager.now.limits c.args.passes.now h in
    c.last_drawing.ensures.last h ∙ sym (ap (drawer c.args.kept.now (length c.args.passes.now) s c.args.rows c.args.units) c.in_default.is)

pub returns-then-at-passes-clause-drawer : goal.returns-then-at-passes-clause-drawer
returns-then-at-passes-clause-drawer c h =
    let s = thread_of c.args.manager.now.limits c.args.passes.now h in
    c.last_drawing-then-at-passes.ensures.last h
    ∙ sym (ap (drawer c.args.kept.now (length c.args.passes.now) s c.args.rows c.args.units) c.in-Some.is ∙ drawer_past c.args.kept.now (length c.args.passes.now) s c.args.rows c.args.units c.in-Some.at c.if-at-passes.true)

pub returns-then-room-least-clause-drawer : goal.returns-then-room-least-clause-drawer
returns-then-room-least-clause-drawer c h =
    let l = c.args.manager.now.limits in
    let ps = c.args.passes.now in
    let s = thread_of l ps h in
    let i = c.index-passes-at in
    let left = left_units l ps h c.in-Some.at i.result i.is c.args.kept.now c.args.rows c.args.units c.room.result.rows c.room.result.units c.least_units-least.result c.least_units-least.ensures c.if-at-passes.false c.room.ensures.rows c.room.ensures.units in
    let used : units_unclaimed s c.in-Some.at < least_units c.args.kept.now c.args.units c.in-Some.at = subst (λ u. u < least_units c.args.kept.now c.args.units c.in-Some.at) (sym left) (subst (λ n. c.room.result.units < n) c.least_units-least.ensures c.if-room-least.true) in
    c.last_drawing-then-room-least.ensures.last h
    ∙ sym (ap (drawer c.args.kept.now (length ps) s c.args.rows c.args.units) c.in-Some.is ∙ drawer_used c.args.kept.now (length ps) s c.args.rows c.args.units c.in-Some.at used)

pub returns-clause-drawer : goal.returns-clause-drawer
returns-clause-drawer c h =
    let l = c.args.manager.now.limits in
    let ps = c.args.passes.now in
    let s = thread_of l ps h in
    let i = c.index-passes-at in
    let left = left_units l ps h c.in-Some.at i.result i.is c.args.kept.now c.args.rows c.args.units c.room.result.rows c.room.result.units c.least_units-least.result c.least_units-least.ensures c.if-at-passes.false c.room.ensures.rows c.room.ensures.units in
    let enough : least_units c.args.kept.now c.args.units c.in-Some.at ≤ units_unclaimed s c.in-Some.at = subst (λ u. least_units c.args.kept.now c.args.units c.in-Some.at ≤ u) (sym left) (subst (λ n. n ≤ c.room.result.units) c.least_units-least.ensures c.if-room-least.false) in
    sym (ap (drawer c.args.kept.now (length ps) s c.args.rows c.args.units) c.in-Some.is ∙ drawer_on c.args.kept.now (length ps) s c.args.rows c.args.units c.in-Some.at c.if-at-passes.false enough)
