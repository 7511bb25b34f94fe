use Rattle.std.proofs.Common.{◌≡◌, zero, ◌+◌, ◌-◌, ◌<◌, false, length, ap, sym, ◌∙◌, ⊎_elim, arith}
use Rattle.tp_rollover.specs.Thread.{thread_of}
use Rattle.tp_rollover.specs.Anew.{last_below, would_draw}
use Rattle.tp_rollover.proofs.BirthsPlaces.{draws_here, draws_not, enough_rows, last_hit, last_miss}
use Rattle.tp_rollover.proofs.places.last_drawing.Goals as goal

pub loop-back-init : goal.loop-back-init
loop-back-init c h =
    ap (last_below (would_draw c.args.kept.now (thread_of c.args.manager.now.limits c.args.passes.now h) c.args.rows c.args.units)) (let e : length c.args.passes.now ≡ length c.args.passes.now - 0 = omega arith in e)

pub loop-back-preserved : goal.loop-back-preserved
loop-back-preserved c h =
    let l = c.args.manager.now.limits in
    let ps = c.args.passes.now in
    let at = length ps - 1 - c.loop-back.back in
    let i = c.index-passes-at in
    let room = c.room-room.result in
    let says = c.room-room.ensures in
    let holds = would_draw c.args.kept.now (thread_of l ps h) c.args.rows c.args.units in
    let within : at < length ps = omega arith in
    let none : holds at ≡ false =
    ⊎_elim (λ p. draws_not l ps h at i.result i.is c.args.kept.now c.args.rows c.args.units room.rows room.units c.least_units-least.result c.least_units-least.ensures within says.rows says.units p.1)
    (λ p. enough_rows l ps h at i.result i.is c.args.kept.now c.args.rows c.args.units room.rows room.units c.least_units-least.result c.least_units-least.ensures within says.rows says.units p) c.else-room-rows.either in
    c.loop-back.invariant h
    ∙ (last_miss holds at (length ps - c.loop-back.back) (omega arith) none ∙ ap (last_below holds) (let e : at ≡ length ps - (c.loop-back.back + 1) = omega arith in e))

pub returns-then-room-least-clause-last : goal.returns-then-room-least-clause-last
returns-then-room-least-clause-last c h =
    let l = c.args.manager.now.limits in
    let ps = c.args.passes.now in
    let at = length ps - 1 - c.loop-back.back in
    let i = c.index-passes-at in
    let room = c.room-room.result in
    let says = c.room-room.ensures in
    let holds = would_draw c.args.kept.now (thread_of l ps h) c.args.rows c.args.units in
    let within : at < length ps = omega arith in
    sym (c.loop-back.invariant h
    ∙ last_hit holds at (length ps - c.loop-back.back) (omega arith)
    (draws_here l ps h at i.result i.is c.args.kept.now c.args.rows c.args.units room.rows room.units c.least_units-least.result c.least_units-least.ensures within says.rows says.units c.if-room-rows.true c.if-room-least.true))

pub returns-clause-last : goal.returns-clause-last
returns-clause-last c h =
    let ps = c.args.passes.now in
    let holds = would_draw c.args.kept.now (thread_of c.args.manager.now.limits ps h) c.args.rows c.args.units in
    sym (c.loop-back.invariant h ∙ ap (last_below holds) (let e : length ps - c.loop-back.back ≡ zero = omega arith in e))
