use Rattle.std.proofs.Common.{◌≡◌, None}
use Rattle.tp_manager.specs.Shown.{IsOf, PassShown}
use Rattle.tp_witness.proofs.Fours.{each_of_four, four_again}
use Rattle.tp_witness.proofs.play_with.Goals as goal

pub play_four-requires-clause-own : goal.play_four-requires-clause-own
play_four-requires-clause-own g c κs within =
    each_of_four (IsOf c.args.manager.now) c.args.passes.now c.in-Some.others.now c.in-Some-split_first_mut.others.now c.in-Some-split_first_mut-2.others.now c.in-Some-split_first_mut-3._others.now
    c.in-Some.first.now c.in-Some-split_first_mut.second.now c.in-Some-split_first_mut-2.third.now c.in-Some-split_first_mut-3.fourth.now
    c.in-Some.ensures.cases.0 c.in-Some-split_first_mut.ensures.cases.0 c.in-Some-split_first_mut-2.ensures.cases.0 c.in-Some-split_first_mut-3.ensures.cases.0 c.requires.own

pub play_four-requires-clause-free : goal.play_four-requires-clause-free
play_four-requires-clause-free g c κs within =
    each_of_four (λ (p : PassShown). p.open_unit ≡ None) c.args.passes.now c.in-Some.others.now c.in-Some-split_first_mut.others.now c.in-Some-split_first_mut-2.others.now c.in-Some-split_first_mut-3._others.now
    c.in-Some.first.now c.in-Some-split_first_mut.second.now c.in-Some-split_first_mut-2.third.now c.in-Some-split_first_mut-3.fourth.now
    c.in-Some.ensures.cases.0 c.in-Some-split_first_mut.ensures.cases.0 c.in-Some-split_first_mut-2.ensures.cases.0 c.in-Some-split_first_mut-3.ensures.cases.0 c.requires.free

pub returns : goal.returns
returns g c = record {
  own = four_again (IsOf c.args.manager.now) c.args.passes.now c.in-Some.others.now c.in-Some-split_first_mut.others.now c.in-Some-split_first_mut-2.others.now c.in-Some-split_first_mut-3._others.now
      c.in-Some.first.now c.in-Some-split_first_mut.second.now c.in-Some-split_first_mut-2.third.now c.in-Some-split_first_mut-3.fourth.now
      c.in-Some.ensures.cases.0 c.in-Some-split_first_mut.ensures.cases.0 c.in-Some-split_first_mut-2.ensures.cases.0 c.in-Some-split_first_mut-3.ensures.cases.0 c.requires.own
      c.play_four.new.first c.play_four.new.second c.play_four.new.third c.play_four.new.fourth c.play_four.ensures.own;
}
