use Rattle.std.proofs.Common.{◌≡◌, ◌+◌, ◌<◌, ◌≤◌, ℕ, List, length, get_or, true, false, sym, ◌∙◌, ap, subst, arith}
use Rattle.tp_plain.specs.Computed.{is_unsettled}
use Rattle.tp_plain.specs.Walks.{walk_of}
use Rattle.tp_plain.proofs.Cancels.{same_limits, same_passes, killed_one, counted_one, left_alone}
use Rattle.tp_plain.proofs.plain.Plain.kill_family.Goals as goal
use Rattle.tp_plain.proofs.plain.Plain.kill_family.Goals.{At-loop-id, After-is_left, then-is_left, else-is_left}

-- the list that is gone through is the walk
on_walk : (c : At-loop-id) → c.deref-id-items.result.now ≡ walk_of c.args.self.now c.args.root
on_walk c = c.deref-id-items.ensures.0 ∙ c.walk-ids.ensures

so_far : (c : At-loop-id) → c.loop-id.id-index ≤ length (walk_of c.args.self.now c.args.root)
so_far c = subst (λ (xs : List ℕ). c.loop-id.id-index ≤ length xs) (on_walk c) c.loop-id.auto.id-index-end

limits_stay : (c : At-loop-id) → c.loop-id.self.limits ≡ c.args.self.now.limits
limits_stay c = same_limits c.args.self.now c.args.caller c.args.root c.requires.pass c.show_reached.ensures.legal c.loop-id.id-index (so_far c) c.loop-id.self c.loop-id.invariant.state

passes_stay : (c : At-loop-id) → c.loop-id.self.passes ≡ c.args.self.now.passes
passes_stay c = same_passes c.args.self.now c.args.caller c.args.root c.requires.pass c.show_reached.ensures.legal c.loop-id.id-index (so_far c) c.loop-id.self c.loop-id.invariant.state

pub kill-killed-requires-clause-pass : goal.kill-killed-requires-clause-pass
kill-killed-requires-clause-pass c = rw (limits_stay (goal.at.kill-killed-requires-clause-pass c).At-loop-id) c.requires.pass

pub kill-killed-requires-clause-free : goal.kill-killed-requires-clause-free
kill-killed-requires-clause-free c = rw (passes_stay (goal.at.kill-killed-requires-clause-free c).At-loop-id) c.requires.free

pub loop-id-preserved : goal.loop-id-preserved
loop-id-preserved c =
    let at = (goal.at.loop-id-preserved c).At-loop-id in
    let s = c.args.self.now in
    let root = c.args.root in
    let legal = c.show_reached.ensures.legal in
    let n = c.loop-id.id-index in
    let t = c.loop-id.self in
    let state = c.loop-id.invariant.state in
    let few = c.loop-id.invariant.few in
    let le = so_far at in
    let less : n < length (walk_of s root) = subst (λ (xs : List ℕ). n < length xs) (on_walk at) c.loop-id-test.true in
    let i = get_or c.deref-id-items.result.now n 0 in
    let is : i ≡ get_or (walk_of s root) n 0 = ap (λ (xs : List ℕ). get_or xs n 0) (on_walk at) in
    elim c.if-is_left.branch [
      | then-is_left w ↦
          (let left : is_unsettled t root i ≡ true = sym c.is_left.ensures ∙ w.if-is_left.true in
          record {
            state = w.self-is ∙ (w.kill-killed.ensures.computed.1 ∙ killed_one s c.args.caller root c.requires.pass legal n le t state i less is left);
            count = w.killed-is ∙ (ap (λ k. k + 1) c.loop-id.invariant.count ∙ sym (counted_one s c.args.caller root c.requires.pass legal n le t state i less is left));
            few = rw w.killed-is (omega arith);
          })
      | else-is_left w ↦
          (let left : is_unsettled t root i ≡ false = sym c.is_left.ensures ∙ w.if-is_left.false in
          let same = left_alone s c.args.caller root c.requires.pass legal n le t state i less is left in
          record {
            state = rw same (w.self-is ∙ state);
            count = rw same (w.killed-is ∙ c.loop-id.invariant.count);
            few = rw w.killed-is (omega arith);
          })
    ]

pub returns-clause-limits : goal.returns-clause-limits
returns-clause-limits c = limits_stay (goal.at.returns-clause-limits c).At-loop-id

pub returns-clause-passes : goal.returns-clause-passes
returns-clause-passes c = passes_stay (goal.at.returns-clause-passes c).At-loop-id
