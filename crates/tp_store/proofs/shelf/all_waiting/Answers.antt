use Rattle.std.proofs.Common.{◌+◌, filter, sym, ◌∙◌}
use Rattle.tp_store.specs.Listing.{is_among_from}
use Rattle.tp_store.specs.declared.group.Group.TheVariants.{Queue}
use Rattle.tp_store.proofs.Listed.{listed_none, listed_step, none_left}
use Rattle.tp_store.proofs.Queued.{first_next, none_next, others_next}
use Rattle.tp_store.proofs.Walked.{none_walked, walked_none, walked_one}
use Rattle.tp_store.proofs.shelf.all_waiting.Goals as goal

pub returns-in_default : goal.returns-in_default
returns-in_default c =
    let none = rw c.from.ensures at c.in_default.ensures.none in
    none_walked _ _ _ c.new-list.ensures.items (walked_none c.args.queue c.args.from c.args.elements.now.entries c.args.queues.now c.requires.sorted c.requires.fits c.requires.index none)

pub loop-step-init : goal.loop-step-init
loop-step-init c = (c.args.from, rw c.from.ensures at c.in-Some.ensures.some, listed_none c.new-list.result.items (filter (is_among_from (Queue c.args.queue) c.args.from) c.args.elements.now.entries) c.args.most c.new-list.ensures.items)

pub returns-in_default-next : goal.returns-in_default-next
returns-in_default-next c =
    let next = c.loop-step.invariant.0 in
    let are = rw c.in_default-next.ensures.steps.0 at c.loop-step.invariant.1 in
    sym (none_left _ _ _ (walked_none c.args.queue next c.args.elements.now.entries c.args.queues.now c.requires.sorted c.requires.fits c.requires.index (none_next c.args.queues.now c.args.queue next are))) ∙ c.loop-step.invariant.2

pub loop-step-preserved : goal.loop-step-preserved
loop-step-preserved c =
    let next = c.loop-step.invariant.0 in
    let id = c.in-Some-next.id.now in
    let are = rw c.in-Some-next.ensures.steps at c.loop-step.invariant.1 in
    let there = rw (← c.element.ensures) at (sym c.in-Some-get.ensures.value) in
    let more = walked_one c.args.queue next c.args.elements.now.entries c.args.queues.now c.requires.sorted c.requires.fits c.requires.index id c.element.result (first_next c.args.queues.now c.args.queue next id c.next.new.self are) there in
    (id + 1, others_next c.args.queues.now c.args.queue next id c.next.new.self are, rw c.in_ok-push.ensures.items (listed_step _ _ _ _ _ _ c.loop-step-test.true more ∙ c.loop-step.invariant.2))
