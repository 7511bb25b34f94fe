use Rattle.std.proofs.Common.{◌≡◌, ◌+◌, ◌≤◌, ◌∙◌, All, arith, ap, get_or, length, refl, replicate, rules, subst, sym}
use Rattle.std.proofs.lemmas.List.{length-replicate, length-set}
use Rattle.tp_rollover.specs.Anew.{unborn}
use Rattle.tp_rollover.specs.declared.births.Family.{Family}
use Rattle.tp_rollover.proofs.BirthsGroups.{blank}
use Rattle.tp_rollover.proofs.Heads.{default_same}
use Rattle.tp_rollover.proofs.Kinships.{counted_on, few_more, has_place, none_counted}
use Rattle.tp_rollover.proofs.fitting.count_families.Goals as goal

pub loop-place-init : goal.loop-place-init
loop-place-init c =
    let is : c.refill.new.places.items ≡ replicate c.min-places.result (unborn 0) = search rules in
    let long : length c.refill.new.places.items ≡ c.min-places.result = ap length is ∙ length-replicate c.min-places.result (unborn 0) in
    record {
      counted = refl;
      space = omega arith;
      places = λ k d less. (let low = has_place c.args.of.now.limits c.args.survivors.now c.min-places.result (search rules) c.requires.roots k d less in omega (arith, low, long));
      few = subst (All (λ (f : Family). f.left ≤ 0)) (sym is) (none_counted c.min-places.result);
    }

pub loop-place-preserved : goal.loop-place-preserved
loop-place-preserved c =
    let i = c.loop-place.invariant in
    let fs = c.loop-place.families.items in
    let root = (get_or c.args.survivors.now c.loop-place.place blank).root in
    let is : c.index.result.now ≡ get_or fs root (unborn 0) = c.index.ensures ∙ default_same fs root c.index.result.now (unborn 0) (i.places c.loop-place.place blank c.loop-place-test.true) in
    let few : c.index.result.now.left ≤ c.loop-place.place = subst (λ (f : Family). f.left ≤ c.loop-place.place) (sym is) (i.few root (unborn 0) (i.places c.loop-place.place blank c.loop-place-test.true)) in
    record {
      counted = counted_on fs c.args.survivors.now c.loop-place.place c.index.result.now c.loop-place-test.true is _ i.counted;
      places = λ k d less. (let low = i.places k d less in let long = length-set fs root (unborn (c.index.result.now.left + 1)) in omega (arith, low, long));
      space = i.space;
      few = few_more fs root c.loop-place.place (c.loop-place.place + 1) (unborn (c.index.result.now.left + 1)) (omega arith) (omega (arith, few)) i.few;
    }
