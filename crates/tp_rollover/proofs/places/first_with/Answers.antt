use Rattle.std.proofs.Common.{◌≡◌, false, length, sym, ◌∙◌, ⊎_elim}
use Rattle.tp_rollover.specs.Thread.{thread_of}
use Rattle.tp_rollover.specs.Anew.{has_left}
use Rattle.tp_rollover.proofs.BirthsPlaces.{few_rows, few_units, first_end, first_hit, first_miss, has_both}
use Rattle.tp_rollover.proofs.places.first_with.Goals as goal

pub loop-at-preserved : goal.loop-at-preserved
loop-at-preserved c h =
    let l = c.args.manager.now.limits in
    let ps = c.args.passes.now in
    let at = c.loop-at.at in
    let i = c.index-passes-at in
    let room = c.room-room.result in
    let says = c.room-room.ensures in
    let none : has_left c.args.kept.now (thread_of l ps h) c.args.rows c.args.units at ≡ false =
    ⊎_elim (λ p. few_units l ps h at i.result i.is c.args.kept.now c.args.rows c.args.units room.rows room.units c.least_units-least.result c.least_units-least.ensures c.loop-at-test.true says.rows says.units p.1)
    (λ p. few_rows l ps h at i.result i.is c.args.kept.now c.args.rows c.args.units room.rows room.units c.least_units-least.result c.least_units-least.ensures c.loop-at-test.true says.rows says.units p) c.else-room-rows.either in
    c.loop-at.invariant h ∙ first_miss (has_left c.args.kept.now (thread_of l ps h) c.args.rows c.args.units) at (length ps) c.loop-at-test.true none

pub returns-then-room-least-clause-first : goal.returns-then-room-least-clause-first
returns-then-room-least-clause-first c h =
    let l = c.args.manager.now.limits in
    let ps = c.args.passes.now in
    let at = c.loop-at.at in
    let i = c.index-passes-at in
    let room = c.room-room.result in
    let says = c.room-room.ensures in
    sym (c.loop-at.invariant h ∙ first_hit (has_left c.args.kept.now (thread_of l ps h) c.args.rows c.args.units) at (length ps) c.loop-at-test.true
    (has_both l ps h at i.result i.is c.args.kept.now c.args.rows c.args.units room.rows room.units c.least_units-least.result c.least_units-least.ensures c.loop-at-test.true says.rows says.units c.if-room-rows.true c.if-room-least.true))

pub returns-clause-first : goal.returns-clause-first
returns-clause-first c h =
    let ps = c.args.passes.now in
    sym (c.loop-at.invariant h ∙ first_end (has_left c.args.kept.now (thread_of c.args.manager.now.limits ps h) c.args.rows c.args.units) c.loop-at.at (length ps) c.loop-at-test.false)
