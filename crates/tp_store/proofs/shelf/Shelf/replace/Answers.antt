use Rattle.std.proofs.Common.{◌≡◌, Option, Some, None, sym, ap, ◌∙◌}
use Rattle.std.specs.Option.{option_copied_mut}
use Rattle.tp_store.specs.declared.element.Element.{Element}
use Rattle.tp_store.specs.Shelves.{groups_at}
use Rattle.tp_store.proofs.Placing.{indexed_put, replaced}
use Rattle.tp_store.proofs.shelf.Shelf.replace.Goals.{in-Some, in_default}
use Rattle.tp_store.proofs.shelf.Shelf.replace.Goals as goal

missing : (x : Option Element) (e : Element) → x ≡ Some e → x ≡ None → ⊥
missing x e there none = absurd cc

pub invariant_of-self-2 : goal.invariant_of-self-2
invariant_of-self-2 c =
    let there = rw (← c.self.view_is) at c.requires.there in
    elim c.match-get_mut.branch [
      | in-Some w ↦ (
          let r = replaced c.args.id c.args.before.now c.args.after c.of-kept.result c.self.inside.elements.entries _ c.of-kept.ensures c.self.invariant.sorted there (c.get_mut.follows.holds _).0 in
          let left = rw (w.self-inside-is, c.groups-from.ensures, c.groups-to.ensures, ← ap (groups_at c.args.id) there) at c.leave.ensures in
          rw w.self-inside-is (indexed_put c.args.id c.self.inside.elements.entries c.self.inside.indexes c.self.invariant (Some c.args.after) _ c.enter.new.self c.leave.new.self c.ranges.id.fits r.at r.sorted (rw c.groups-to.ensures at c.in-Ok.ensures.ok) left)
          )
      | in_default w ↦ absurd (missing _ c.args.before.now there (sym c.get_mut.ensures.value ∙ ap option_copied_mut w.in_default.is))
    ]

pub returns-clause-ok : goal.returns-clause-ok
returns-clause-ok c =
    let there = rw (← c.self.view_is) at c.requires.there in
    elim c.match-get_mut.branch [
      | in-Some w ↦ (rw (w.self-inside-is, ← c.self.view_is) (replaced c.args.id c.args.before.now c.args.after c.of-kept.result c.self.inside.elements.entries _ c.of-kept.ensures c.self.invariant.sorted there (c.get_mut.follows.holds _).0).put_is)
      | in_default w ↦ absurd (missing _ c.args.before.now there (sym c.get_mut.ensures.value ∙ ap option_copied_mut w.in_default.is))
    ]
