use Rattle.std.proofs.Common.{filter, sym, ◌∙◌, arith}
use Rattle.tp_store.specs.Listing.{is_among_from}
use Rattle.tp_store.proofs.Listed.{first_listed, list_full, listed_none, listed_step, none_left, none_listed}
use Rattle.tp_store.proofs.Striking.{below_end}
use Rattle.tp_store.proofs.store.Store.list_by_steps.Goals as goal

pub loop-step-init : goal.loop-step-init
loop-step-init c = listed_none c.new-list.result.items (filter (is_among_from c.args.group c.args.from) c.args.self.now.elements) c.args.most c.new-list.ensures.items

pub returns-in_default : goal.returns-in_default
returns-in_default c =
    let so_far = rw (← c.self.view_is) at c.loop-step.invariant in
    rw (← c.self.view_is) (sym (none_left _ _ _ (none_listed c.args.group c.loop-step.next c.self.inside.shelf (sym c.first.ensures.first ∙ c.in_default.is))) ∙ so_far)

pub overflow_add-next : goal.overflow_add-next
overflow_add-next c = let low = below_end c.in-Some.id c.self.inside.next c.in-Some.element c.self.inside.shelf c.in-Some.ensures.there c.self.invariant in omega arith

pub loop-step-preserved : goal.loop-step-preserved
loop-step-preserved c =
    let so_far = rw (← c.self.view_is) at c.loop-step.invariant in
    let more = first_listed c.args.group c.loop-step.next c.in-Some.id c.in-Some.element c.self.inside.shelf c.first.ensures.sorted (sym c.first.ensures.first ∙ c.in-Some.is) in
    rw (← c.self.view_is, c.in_ok-push.ensures.items) (listed_step _ _ _ _ _ _ c.loop-step-test.true more ∙ so_far)

pub returns : goal.returns
returns c = sym (list_full _ _ _ (let full = c.loop-step-test.false in omega arith)) ∙ c.loop-step.invariant
