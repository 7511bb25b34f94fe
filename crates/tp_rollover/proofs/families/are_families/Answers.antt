use Rattle.std.proofs.Common.{◌∙◌, None, length, sym, vec_capacity, arith}
use Rattle.tp_rollover.specs.declared.moved.Moved.{Moved}
use Rattle.tp_rollover.proofs.Roots.{not_none, on_err}
use Rattle.tp_rollover.proofs.families.are_families.Goals as goal

abbrev blank : Moved
blank = record { old = 0; new = 0; old_root = 0; new_root = 0; holder = None }

pub returns-in_err-refill-clause-memory : goal.returns-in_err-refill-clause-memory
returns-in_err-refill-clause-memory c = on_err c.from_residual.result _ (λ within.
    let n = vec_capacity c.args.new_roots.now in
    let n' = vec_capacity c.args.old_roots.now in
    let first = within 0 blank (not_none (length c.args.moved.now) (sym c.is_empty.ensures ∙ c.if-is_empty.false)) in
    let a = first.0 in
    let b = first.1 in
    let low = (c.highest_roots-old_root.ensures.least n n' (omega (arith, a)) (omega (arith, b)) within).0 in
    let room = c.in_err-refill.ensures.room in
    omega (arith, low, room))

pub returns-in_err-refill-2-clause-memory : goal.returns-in_err-refill-2-clause-memory
returns-in_err-refill-2-clause-memory c = on_err c.from_residual-in_err-refill-2.result _ (λ within.
    let n = vec_capacity c.args.new_roots.now in
    let n' = vec_capacity c.args.old_roots.now in
    let first = within 0 blank (not_none (length c.args.moved.now) (sym c.is_empty.ensures ∙ c.if-is_empty.false)) in
    let a = first.0 in
    let b = first.1 in
    let low = (c.highest_roots-old_root.ensures.least n n' (omega (arith, a)) (omega (arith, b)) within).1 in
    let room = c.in_err-refill-2.ensures.room in
    omega (arith, low, room))
