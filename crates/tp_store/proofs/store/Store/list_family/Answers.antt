use Rattle.std.proofs.Common.{◌≢◌, ◌<◌, ℕ, sym, ◌∙◌, arith}
use Rattle.tp_store.specs.declared.group.Group.TheVariants.{Family}
use Rattle.tp_store.proofs.Listed.{first_listed, none_listed}
use Rattle.tp_store.proofs.Walked.{first_and_others, none_walked}
use Rattle.tp_store.proofs.store.Store.list_family.Goals as goal

pub returns-in_default : goal.returns-in_default
returns-in_default c = rw (← c.self.view_is) (none_walked _ _ _ c.new-list.ensures.items (none_listed (Family c.args.root) c.args.from c.self.inside.shelf (sym c.first.ensures.first ∙ c.in_default.is)))

some : (n : ℕ) → n ≢ 0 → 0 < n
some n h = omega arith

pub returns : goal.returns
returns c =
    let more = first_listed (Family c.args.root) c.args.from c.in-Some.id c.in-Some.element c.self.inside.shelf c.first.ensures.sorted (sym c.first.ensures.first ∙ c.in-Some.is) in
    rw (← c.self.view_is, c.in_ok-add_members.ensures, c.in_ok-push.ensures.items, c.new-list.ensures.items) (first_and_others _ _ (c.in-Some.id, c.in-Some.element) c.args.most (some c.args.most c.if-most-eq0.false) more)
