use Rattle.std.proofs.Common.{All, None, ◌≡◌, ◌-◌, ◌*◌, ◌≤◌, ◌++◌, ◌∙◌, Ok, Err, Result, ap, drop, length, refl, subst, sym, take, arith}
use Rattle.std.proofs.lemmas.List.Elements.{All-drop, All-take}
use Rattle.tp_rollover.specs.Bounds.{AllMake, bear_steps}
use Rattle.tp_rollover.specs.Fits.{AreFit, HasFamilyPlace}
use Rattle.tp_rollover.specs.Lone.{bearing, lone, placing}
use Rattle.tp_rollover.specs.Runs.{GoesFurther}
use Rattle.tp_rollover.specs.declared.stops.Stop.{Stop}
use Rattle.tp_rollover.proofs.BirthsAll.{all_start, all_there, left_of, not_past, one_on, put_back, same_turn, stops_fit, stops_unfit}
use Rattle.tp_rollover.proofs.BirthsSteps.{born_of_all, born_on}
use Rattle.tp_rollover.proofs.Kinships.{may_still}
use Rattle.tp_rollover.proofs.births.bear_all.Goals as goal

pub returns-in_err-bear_turn-clause-steps : goal.returns-in_err-bear_turn-clause-steps
returns-in_err-bear_turn-clause-steps c =
    let i = c.loop-turn.invariant in
    let l = c.args.manager.now.limits in
    let q = c.args.keeper.now.given in
    let n = length (left_of c.args.survivors.now c.len-from.result) in
    let m = length c.loop-turn.moved.items in
    let few = not_past c.args.survivors.now c.len-from.result m n (c.len-from.ensures ∙ c.loop-turn.moved.ok.0) c.if-from-survivors.false (omega arith) in
    born_of_all l q m n c.args.keeper.now c.loop-turn.keeper c.bear_turn.new.keeper c.args.passes.now c.loop-turn.passes c.bear_turn.new.passes (length c.args.survivors.now) few
    (born_on l q m n c.args.keeper.now c.loop-turn.keeper c.bear_turn.new.keeper c.args.passes.now c.loop-turn.passes c.bear_turn.new.passes i.alone.1 i.made c.in_err-bear_turn.ensures.steps)

pub returns-in_err-bear_turn-clause-gives : goal.returns-in_err-bear_turn-clause-gives
returns-in_err-bear_turn-clause-gives c =
    let i = c.loop-turn.invariant in
    let l = c.args.of.now.limits in
    let p = length c.args.passes.now in
    let rest = left_of c.args.survivors.now c.len-from.result in
    let at = placing c.args.manager.now c.loop-turn.keeper c.loop-turn.passes c.loop-turn.cursor in
    let at' = placing c.args.manager.now c.bear_turn.new.keeper c.bear_turn.new.passes c.bear_turn.new.cursor in
    let fs = c.loop-turn.families.items in
    let moved = c.loop-turn.moved.items in
    let moved' = c.bear_turn.new.moved.items in
    let why : Result (Unit {0}) Stop = Err c.in_err-bear_turn.field-0.0 in
    let on = same_turn c.limits.result l (length c.loop-turn.passes) p rest moved moved' at at' c.deref_mut.result.now fs c.bear_turn.new.families c.bear_turn.new.families why c.limits.ensures c.loop-turn.auto.passes c.deref_mut.ensures.value refl c.in_err-bear_turn.ensures.on in
    stops_fit l p c.args.survivors.now c.len-from.result moved (record { placing = at; families = fs }) _ i.so_far (c.len-from.ensures ∙ c.loop-turn.moved.ok.0) c.if-from-survivors.false (Unit {0}) (AreFit l c.args.manager.now.limits c.args.survivors.now) c.from_residual-in_err-bear_turn.result c.in_err-bear_turn.field-0.0 _ moved'
    (record { placing = at'; families = c.bear_turn.new.families }) c.from_residual-in_err-bear_turn.ensures.1 on

pub loop-turn-init : goal.loop-turn-init
loop-turn-init c =
    let m = c.args.manager.now in
    let none = c.reserve_exact.ensures.items ∙ c.clear.ensures.items in
    let zero = ap length none in
    record {
      alone = (c.requires.lone, refl);
      few = omega (arith, zero);
      space = omega arith;
      families = omega arith;
      turns = omega arith;
      made = subst (λ ms. AllMake (length ms * bear_steps m.limits c.args.keeper.now.given 1) c.args.keeper.now c.args.passes.now c.args.keeper.now c.args.passes.now) (sym none) (omega arith);
      may = c.in_ok-families_for.ensures.may;
      so_far = all_start c.args.of.now.limits (length c.args.passes.now) c.args.survivors.now (lone m c.args.keeper.now c.args.passes.now) c.reserve_exact.new.self.items c.start-cursor.result c.families_for.new.families.items none
          (c.start-cursor.ensures ∙ ap (λ kept. record { at = 0; block = None; kept = kept }) c.kept_for.ensures) c.in_ok-families_for.ensures.counted;
    }

pub loop-turn-preserved : goal.loop-turn-preserved
loop-turn-preserved c =
    let i = c.loop-turn.invariant in
    let l = c.args.manager.now.limits in
    let q = c.args.keeper.now.given in
    let of = c.args.of.now.limits in
    let p = length c.args.passes.now in
    let rest = left_of c.args.survivors.now c.len-from.result in
    let at = placing c.args.manager.now c.loop-turn.keeper c.loop-turn.passes c.loop-turn.cursor in
    let at' = placing c.args.manager.now c.bear_turn.new.keeper c.bear_turn.new.passes c.bear_turn.new.cursor in
    let fs = c.loop-turn.families.items in
    let all = take c.loop-turn.families.len (c.bear_turn.new.families ++ drop (length c.bear_turn.new.families) fs) in
    let back = put_back c.loop-turn.families.len fs c.bear_turn.new.families c.deref_mut.result.now c.deref_mut.ensures.value c.loop-turn.families.ok.0 c.bear_turn.auto.families in
    let moved = c.loop-turn.moved.items in
    let moved' = c.bear_turn.new.moved.items in
    let done : Result (Unit {0}) Stop = Ok tt in
    let on : GoesFurther of p rest moved moved' (record { placing = at; families = fs }) (record { placing = at'; families = all }) =
    same_turn c.limits.result of (length c.loop-turn.passes) p rest moved moved' at at' c.deref_mut.result.now fs c.bear_turn.new.families all done c.limits.ensures c.loop-turn.auto.passes c.deref_mut.ensures.value (sym back) c.in_ok-bear_turn.ensures.on in
    let m = length moved in
    let n = on.count in
    let some = on.some in
    let many = on.many in
    let few = not_past c.args.survivors.now c.len-from.result m n (c.len-from.ensures ∙ c.loop-turn.moved.ok.0) c.if-from-survivors.false on.inside in
    let turn = subst (λ z. AllMake (z * bear_steps l c.loop-turn.keeper.given 1) c.loop-turn.keeper c.loop-turn.passes c.bear_turn.new.keeper c.bear_turn.new.passes) (let e : length moved' - m ≡ n = omega (arith, many) in e) c.in_ok-bear_turn.ensures.steps in
    let made = born_on l q m n c.args.keeper.now c.loop-turn.keeper c.bear_turn.new.keeper c.args.passes.now c.loop-turn.passes c.bear_turn.new.passes i.alone.1 i.made turn in
    record {
      alone = (c.bear_turn.ensures.lone.0, c.bear_turn.ensures.lone.1 ∙ i.alone.1);
      few = subst (λ z. z ≤ length c.args.survivors.now) (sym many) few;
      space = (let more = c.bear_turn.ensures.space in let so_far = i.space in omega (arith, more, so_far));
      families = i.families;
      turns = (let e = i.turns in omega (arith, e, many, some));
      made = subst (λ z. AllMake (z * bear_steps l q 1) c.args.keeper.now c.args.passes.now c.bear_turn.new.keeper c.bear_turn.new.passes) (sym many) made;
      may = may_still c.args.survivors.now fs all i.may (ap length back ∙ (c.bear_turn.ensures.long ∙ ap length c.deref_mut.ensures.value));
      so_far = one_on of p c.args.survivors.now c.len-from.result moved (record { placing = at; families = fs }) _ i.so_far (c.len-from.ensures ∙ c.loop-turn.moved.ok.0) c.if-from-survivors.false moved' (record { placing = at'; families = all }) on;
    }

pub returns-after-loop-turn-clause-gives : goal.returns-after-loop-turn-clause-gives
returns-after-loop-turn-clause-gives c =
    let i = c.loop-turn.invariant in
    let past = c.loop-turn-test.false in
    let e = i.turns in
    all_there c.args.of.now.limits (length c.args.passes.now) c.args.survivors.now (length c.loop-turn.moved.items) c.loop-turn.moved.items (bearing c.args.manager.now c.loop-turn.keeper c.loop-turn.passes c.loop-turn.cursor c.loop-turn.families.items) _ i.so_far refl (omega (arith, past, e))

pub returns-then-from-survivors-clause-gives : goal.returns-then-from-survivors-clause-gives
returns-then-from-survivors-clause-gives c =
    all_there c.args.of.now.limits (length c.args.passes.now) c.args.survivors.now c.len-from.result c.loop-turn.moved.items (bearing c.args.manager.now c.loop-turn.keeper c.loop-turn.passes c.loop-turn.cursor c.loop-turn.families.items) _ c.loop-turn.invariant.so_far (c.len-from.ensures ∙ c.loop-turn.moved.ok.0) c.if-from-survivors.true

pub returns-after-loop-turn-clause-many : goal.returns-after-loop-turn-clause-many
returns-after-loop-turn-clause-many c =
    let i = c.loop-turn.invariant in
    let past = c.loop-turn-test.false in
    omega (arith, past, i.turns, i.few)

pub returns-then-from-survivors-clause-many : goal.returns-then-from-survivors-clause-many
returns-then-from-survivors-clause-many c =
    let past = c.if-from-survivors.true in
    let long = c.len-from.ensures in
    let len = c.loop-turn.moved.ok.0 in
    omega (arith, past, long, len, c.loop-turn.invariant.few)

pub returns-in_err-families_for-clause-gives : goal.returns-in_err-families_for-clause-gives
returns-in_err-families_for-clause-gives c =
    stops_unfit c.args.of.now.limits c.args.manager.now.limits c.args.survivors.now c.from_residual.result c.in_err-families_for.field-0.0 _ _ c.from_residual.ensures.1
    c.in_err-families_for.ensures.stops

pub bear_turn-requires-clause-may : goal.bear_turn-requires-clause-may
bear_turn-requires-clause-may c =
    let from = c.len-from.result in
    let survivors = c.args.survivors.now in
    All-take (HasFamilyPlace c.deref_mut.result.now) (length survivors - from) (drop from survivors) (All-drop (HasFamilyPlace c.deref_mut.result.now) from survivors
    (subst (λ fs. All (HasFamilyPlace fs) survivors) (sym c.deref_mut.ensures.value) c.loop-turn.invariant.may))
