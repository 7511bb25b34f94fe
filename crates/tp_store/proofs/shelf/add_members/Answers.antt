use Rattle.std.proofs.Common.{◌≡◌, ◌+◌, ◌<◌, ◌≤◌, ℕ, arith, Option, None, true, filter, sym, subst, ◌∙◌}
use Rattle.tp_store.specs.declared.element.Element.{Element}
use Rattle.tp_store.specs.Elements.{family_of, unless_own}
use Rattle.tp_store.specs.Listing.{is_among_from}
use Rattle.tp_store.specs.Shelves.{stands}
use Rattle.tp_store.specs.declared.group.Group.TheVariants.{Family}
use Rattle.tp_store.proofs.Listed.{listed_step, none_left}
use Rattle.tp_store.proofs.Walked.{all_to_come, members_none, members_one}
use Rattle.tp_store.proofs.Places.{first_place, later_place, no_place, other_places}
use Rattle.tp_store.proofs.shelf.add_members.Goals as goal

pub loop-step-init : goal.loop-step-init
loop-step-init c = (c.args.from, c.requires.above, c.places-places.ensures, all_to_come c.args.list.now.items (filter (is_among_from (Family c.args.root) c.args.from) c.args.elements.now.entries) c.args.most)

pub returns-in_default : goal.returns-in_default
returns-in_default c =
    let i = c.loop-step.invariant in
    let are = rw c.in_default.ensures.steps.0 at i.2 in
    sym (none_left _ _ _ (members_none c.args.root i.0 i.1 c.args.elements.now.entries c.args.families.now c.requires.sorted c.requires.fits c.requires.index (no_place c.args.families.now c.args.root i.0 are))) ∙ i.3

pub returns-then-group-root : goal.returns-then-group-root
returns-then-group-root c =
    let i = c.loop-step.invariant in
    let are = rw c.in-Some.ensures.steps at i.2 in
    sym (none_left _ _ _ (members_none c.args.root i.0 i.1 c.args.elements.now.entries c.args.families.now c.requires.sorted c.requires.fits c.requires.index (later_place c.args.families.now c.args.root i.0 c.in-Some.place.now.0 c.in-Some.place.now.1 c.next.new.self are c.if-group-root.true))) ∙ i.3

missing : (root id : ℕ) (x : Option Element) → x ≡ None → stands (unless_own family_of) root id x ≡ true → ⊥
missing root id x none stood = let none_stands = subst (λ y. stands (unless_own family_of) root id y ≡ true) none stood in absurd cc

pub unreachable-requires : goal.unreachable-requires
unreachable-requires c =
    let i = c.loop-step.invariant in
    let id = c.in-Some.place.now.1 in
    let are = rw c.in-Some.ensures.steps at i.2 in
    let first = first_place c.args.families.now c.args.root i.0 c.in-Some.place.now.0 id c.next.new.self are c.if-group-root.false in
    missing c.args.root id _ (sym c.in_default-get.ensures.value) (sym (c.requires.index c.args.root id) ∙ first.1)

pub loop-step-preserved : goal.loop-step-preserved
loop-step-preserved c =
    let i = c.loop-step.invariant in
    let id = c.in-Some.place.now.1 in
    let are = rw c.in-Some.ensures.steps at i.2 in
    let first = first_place c.args.families.now c.args.root i.0 c.in-Some.place.now.0 id c.next.new.self are c.if-group-root.false in
    let there = rw (← c.element.ensures) at (sym c.in-Some-get.ensures.value) in
    let more = members_one c.args.root i.0 i.1 c.args.elements.now.entries c.args.families.now c.requires.sorted c.requires.fits c.requires.index id c.element.result first there in
    (id + 1, above c.args.root i.0 id i.1 first.0, other_places c.args.families.now c.args.root i.0 c.in-Some.place.now.0 id c.next.new.self are c.if-group-root.false, rw c.in_ok-push.ensures.items (listed_step _ _ _ _ _ _ c.loop-step-test.true more ∙ i.3))
  where
    above : (root next id : ℕ) → root < next → next ≤ id → root < id + 1
    above root next id low high = omega arith
