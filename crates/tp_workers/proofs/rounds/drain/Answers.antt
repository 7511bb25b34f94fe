use Rattle.std.proofs.Common.{arith, refl}
use Rattle.tp_workers.specs.Tally.{empty_shift, plus}
use Rattle.tp_workers.proofs.Asking.{each_nothing, each_on}
use Rattle.tp_workers.proofs.Drains.{all_end, all_last, drained_clear, drained_free, drained_numbers, drained_sum, further_smaller, going_clear, going_few, going_free, going_further, going_none, going_on, round_smaller}
use Rattle.tp_workers.proofs.Shifts.{each_paired}
use Rattle.tp_workers.proofs.rounds.drain.Goals as goal

pub rounds-init : goal.rounds-init
rounds-init g c = record { counts = empty_shift; ran = going_none _ _ _ c.args.manager.now c.args.order _ _ c.requires.paired c.requires.free c.requires.clear; asked = each_nothing _ _ _ _ c.args.manager.now c.args.order _ _; counted = refl }

pub round-counts-requires-clause-paired : goal.round-counts-requires-clause-paired
round-counts-requires-clause-paired g c = each_paired _ _ _ _ _ _ c.requires.paired c.rounds.invariant.ran

pub round-counts-requires-clause-free : goal.round-counts-requires-clause-free
round-counts-requires-clause-free g c = going_free _ _ _ c.args.manager.now c.args.order _ _ _ _ _ c.requires.paired c.rounds.invariant.ran

pub round-counts-requires-clause-clear : goal.round-counts-requires-clause-clear
round-counts-requires-clause-clear g c = going_clear _ _ _ c.args.manager.now c.args.order _ _ _ _ _ c.requires.paired c.rounds.invariant.ran

pub round-counts-requires-clause-fit : goal.round-counts-requires-clause-fit
round-counts-requires-clause-fit g c = let same = c.rounds.invariant.ran.on_kept in omega arith

pub overflow_add-done : goal.overflow_add-done
overflow_add-done g c =
    let few = going_few _ _ _ c.args.manager.now c.args.order _ _ _ _ _ c.requires.paired (going_on _ _ _ c.args.manager.now c.args.order _ _ _ _ _ _ _ _ c.rounds.invariant.ran c.round-counts.ensures.ran) in
    omega (arith, few, c.rounds.invariant.counted)

pub returns-then-not-has_claimed-clause-desks : goal.returns-then-not-has_claimed-clause-desks
returns-then-not-has_claimed-clause-desks g c =
    (plus c.rounds.invariant.counts c.round-counts.result, omega (arith, c.rounds.invariant.counted), all_end _ _ _ c.args.manager.now c.args.order _ _ _ _ _ _ _ _ c.rounds.invariant.ran c.round-counts.ensures.ran c.if-not-has_claimed.ensures.unclaimed)

pub returns-then-not-has_claimed-clause-last_turns : goal.returns-then-not-has_claimed-clause-last_turns
returns-then-not-has_claimed-clause-last_turns g c =
    (c.round-counts.result, omega arith, all_last _ _ _ c.args.manager.now c.args.order _ _ _ _ _ _ _ _ c.rounds.invariant.ran c.round-counts.ensures.ran c.if-not-has_claimed.ensures.unclaimed)

pub returns-then-not-has_claimed-clause-asked : goal.returns-then-not-has_claimed-clause-asked
returns-then-not-has_claimed-clause-asked g c =
    (plus c.rounds.invariant.counts c.round-counts.result, omega (arith, c.rounds.invariant.counted), each_on _ _ _ _ c.args.manager.now c.args.order _ _ _ _ _ _ _ _ c.rounds.invariant.asked c.round-counts.ensures.asked)

pub returns-then-not-has_claimed-clause-done : goal.returns-then-not-has_claimed-clause-done
returns-then-not-has_claimed-clause-done g c =
    let sum = drained_sum _ _ _ c.args.manager.now c.args.order _ _ _ _ _ c.requires.paired (all_end _ _ _ c.args.manager.now c.args.order _ _ _ _ _ _ _ _ c.rounds.invariant.ran c.round-counts.ensures.ran c.if-not-has_claimed.ensures.unclaimed) in
    omega (arith, sum, c.rounds.invariant.counted)

pub returns-then-not-has_claimed-clause-free : goal.returns-then-not-has_claimed-clause-free
returns-then-not-has_claimed-clause-free g c = drained_free _ _ _ c.args.manager.now c.args.order _ _ _ _ _ c.requires.paired (returns-then-not-has_claimed-clause-desks g c).2

pub returns-then-not-has_claimed-clause-clear : goal.returns-then-not-has_claimed-clause-clear
returns-then-not-has_claimed-clause-clear g c = drained_clear _ _ _ c.args.manager.now c.args.order _ _ _ _ _ c.requires.paired (returns-then-not-has_claimed-clause-desks g c).2

pub returns-then-not-has_claimed-clause-numbered : goal.returns-then-not-has_claimed-clause-numbered
returns-then-not-has_claimed-clause-numbered g c = drained_numbers _ _ _ c.args.manager.now c.args.order _ _ _ _ _ c.requires.paired (returns-then-not-has_claimed-clause-desks g c).2

pub returns-then-not-has_claimed-clause-kept : goal.returns-then-not-has_claimed-clause-kept
returns-then-not-has_claimed-clause-kept g c = let all = (returns-then-not-has_claimed-clause-desks g c).2 in (all.on_kept, all.by_kept)

pub work_off_each-more-requires-clause-paired : goal.work_off_each-more-requires-clause-paired
work_off_each-more-requires-clause-paired g c = each_paired _ _ _ _ _ _ c.requires.paired (going_on _ _ _ c.args.manager.now c.args.order _ _ _ _ _ _ _ _ c.rounds.invariant.ran c.round-counts.ensures.ran)

pub work_off_each-more-requires-clause-free : goal.work_off_each-more-requires-clause-free
work_off_each-more-requires-clause-free g c = going_free _ _ _ c.args.manager.now c.args.order _ _ _ _ _ c.requires.paired (going_on _ _ _ c.args.manager.now c.args.order _ _ _ _ _ _ _ _ c.rounds.invariant.ran c.round-counts.ensures.ran)

pub work_off_each-more-requires-clause-clear : goal.work_off_each-more-requires-clause-clear
work_off_each-more-requires-clause-clear g c = going_clear _ _ _ c.args.manager.now c.args.order _ _ _ _ _ c.requires.paired (going_on _ _ _ c.args.manager.now c.args.order _ _ _ _ _ _ _ _ c.rounds.invariant.ran c.round-counts.ensures.ran)

pub work_off_each-more-requires-clause-fit : goal.work_off_each-more-requires-clause-fit
work_off_each-more-requires-clause-fit g c = let same = (going_on _ _ _ c.args.manager.now c.args.order _ _ _ _ _ _ _ _ c.rounds.invariant.ran c.round-counts.ensures.ran).on_kept in omega (arith, same, c.requires.fit)

pub overflow_add-done-in-rounds : goal.overflow_add-done-in-rounds
overflow_add-done-in-rounds g c =
    let few = going_few _ _ _ c.args.manager.now c.args.order _ _ _ _ _ c.requires.paired (going_further _ _ _ c.args.manager.now c.args.order _ refl _ _ _ _ _ _ _ _ _ _ _ c.rounds.invariant.ran c.round-counts.ensures.ran c.work_off_each-more.ensures.ran) in
    omega (arith, few, c.rounds.invariant.counted)

pub rounds-smaller : goal.rounds-smaller
rounds-smaller g c =
    let paired = each_paired _ _ _ _ _ _ c.requires.paired (going_on _ _ _ c.args.manager.now c.args.order _ _ _ _ _ _ _ _ c.rounds.invariant.ran c.round-counts.ensures.ran) in
    let less = further_smaller _ _ _ c.args.manager.now c.args.order _ refl _ _ _ _ _ paired c.work_off_each-more.ensures.ran in
    let round = round_smaller _ _ _ c.args.manager.now c.args.order _ _ _ _ _ (each_paired _ _ _ _ _ _ c.requires.paired c.rounds.invariant.ran) c.round-counts.ensures.ran c.if-not-has_claimed.ensures.claimed in
    omega (arith, less, round)

pub rounds-preserved : goal.rounds-preserved
rounds-preserved g c = record {
  counts = plus (plus c.rounds.invariant.counts c.round-counts.result) c.work_off_each-more.result;
  ran = (going_further _ _ _ c.args.manager.now c.args.order _ refl _ _ _ _ _ _ _ _ _ _ _ c.rounds.invariant.ran c.round-counts.ensures.ran c.work_off_each-more.ensures.ran);
  asked = each_on _ _ _ _ c.args.manager.now c.args.order _ _ _ _ _ _ _ _ (each_on _ _ _ _ c.args.manager.now c.args.order _ _ _ _ _ _ _ _ c.rounds.invariant.asked c.round-counts.ensures.asked) c.work_off_each-more.ensures.asked;
  counted = omega (arith, c.rounds.invariant.counted);
}
