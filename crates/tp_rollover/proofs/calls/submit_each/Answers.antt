use Rattle.std.proofs.Common.{◌≡◌, ◌+◌, ◌++◌, ◌∷◌, ◌∙◌, [], ap, get_or, length, length-append, take, arith, rules}
use Rattle.tp_rollover.specs.Runs.{named_root}
use Rattle.tp_rollover.specs.declared.survivors.Survivor.{Survivor}
use Rattle.tp_rollover.proofs.BirthsGroups.{blank}
use Rattle.tp_rollover.proofs.Calling.{at_place}
use Rattle.tp_rollover.proofs.Lists.{take_more}
use Rattle.tp_rollover.proofs.Running.{makes_more, refused_as, runs_on}
use Rattle.tp_rollover.proofs.calls.submit_each.Goals as goal

pub returns-in-Err-clause-runs : goal.returns-in-Err-clause-runs
returns-in-Err-clause-runs c =
    let i = c.loop-place.place in
    let one : Survivor = get_or c.args.roots.now i blank in
    refused_as (Unit {0}) c.args.manager.now.limits c.args.roots.now c.args.moved.now.items c.loop-place.moved.items c.args.pass.now c.submit.new.pass c.stop_for.result (record {
      done = take i c.args.roots.now;
      next = one;
      rest = _;
      roots_are = at_place c.args.roots.now i blank (omega arith);
      names = c.loop-place.invariant.ran.names;
      middle = c.loop-place.pass;
      all = c.loop-place.invariant.ran.all;
      why = c.in-Err.refusal;
      refused = record { limits = c.submit.ensures.own.1; turn = c.submit.ensures.turn; follows = c.submit.ensures.follows; says = c.in-Err.ensures.answer };
    })

pub loop-place-preserved : goal.loop-place-preserved
loop-place-preserved c =
    let i = c.loop-place.place in
    let l = c.args.manager.now.limits in
    let one : Survivor = get_or c.args.roots.now i blank in
    let was = c.loop-place.invariant in
    let pushed : c.push.new.self.items ≡ c.loop-place.moved.items ++ named_root one c.in-Ok.id ∷ [] = search rules in
    record {
      own = (c.submit.ensures.own, c.submit.ensures.follows.number ∙ was.own.1);
      many = (let long = length-append c.loop-place.moved.items (named_root one c.in-Ok.id ∷ []) in let so_far = was.many in ap length pushed ∙ omega (arith, long, so_far));
      space = (let more = c.push.ensures.capacity in let so_far = was.space in omega (arith, more, so_far));
      made = makes_more i (i + 1) _ c.args.pass.now c.loop-place.pass c.submit.new.pass (omega arith) was.made c.submit.ensures.follows;
      ran = runs_on l (take i c.args.roots.now) (take (i + 1) c.args.roots.now) c.args.moved.now.items c.loop-place.moved.items c.push.new.self.items one c.in-Ok.id c.args.pass.now c.loop-place.pass c.submit.new.pass
          (take_more c.args.roots.now i blank (omega arith)) pushed was.ran
          (record { limits = c.submit.ensures.own.1; turn = c.submit.ensures.turn; follows = c.submit.ensures.follows; says = c.in-Ok.ensures.answer });
    }
