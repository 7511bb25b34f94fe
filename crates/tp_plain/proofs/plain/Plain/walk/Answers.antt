use Rattle.std.proofs.Common.{◌≡◌, ◌+◌, ◌-◌, None, Some, [], ◌∷◌, ◌++◌, sym, ◌∙◌, ap, arith}
use Rattle.tp_model.specs.Steps.{rows_of}
use Rattle.tp_plain.specs.Walks.{and_one_more, next_of_walk, walk_for}
use Rattle.tp_plain.proofs.Walks.{walk_next, walk_stays}
use Rattle.tp_plain.proofs.plain.Plain.walk.Goals as goal

pub returns-in_default : goal.returns-in_default
returns-in_default c =
    let s = c.args.self.now in
    let root = c.args.root in
    let n = c.loop-past._past in
    let so_far = c.loop-past.invariant.so_far in
    let none : next_of_walk s root (walk_for s root n) ≡ None = ap (next_of_walk s root) (sym so_far ∙ sym c.deref.ensures.0) ∙ sym c.in_default.ensures in
    let all = c.capacity-past-end.ensures in
    let less = c.loop-past-test.true in
    so_far ∙ sym (ap (walk_for s root) (let e : rows_of s.limits ≡ n + (rows_of s.limits - n) = omega arith in e) ∙ walk_stays s root n (rows_of s.limits - n) none)

pub loop-past-preserved : goal.loop-past-preserved
loop-past-preserved c =
    let s = c.args.self.now in
    let root = c.args.root in
    let n = c.loop-past._past in
    let so_far = c.loop-past.invariant.so_far in
    let found : next_of_walk s root (walk_for s root n) ≡ Some c.in-Some.id = ap (next_of_walk s root) (sym so_far ∙ sym c.deref.ensures.0) ∙ sym c.in-Some.ensures in
    let few = c.loop-past.invariant.few in
    record {
      so_far = c.push.ensures.items ∙ (ap (λ xs. xs ++ c.in-Some.id ∷ []) so_far ∙ sym (walk_next s root n ∙ ap (and_one_more (walk_for s root n)) found));
      few = (let long = c.push.ensures.len in omega arith);
    }
