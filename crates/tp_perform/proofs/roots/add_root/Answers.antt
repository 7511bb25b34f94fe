use Rattle.std.proofs.Common.{slice_get, take}
use Rattle.tp_perform.proofs.RootLemmas.{root_none, root_one}
use Rattle.tp_perform.proofs.roots.add_root.Goals as goal

pub returns-then-is_told : goal.returns-then-is_told
returns-then-is_told c =
    let moved = c.args.moved.now in
    root_none moved (take c.args.at moved) (slice_get moved c.args.at) c.element_at-element.result c.element_at-element.ensures c.is_told.result c.is_told.ensures c.args.roots.now.items c.if-is_told.true

pub returns : goal.returns
returns c =
    let moved = c.args.moved.now in
    root_one moved (take c.args.at moved) (slice_get moved c.args.at) c.element_at-element.result c.element_at-element.ensures c.is_told.result c.is_told.ensures c.args.roots.now.items c.if-is_told.false c.push.new.self.items c.in_ok-push.ensures.items
