use Rattle.std.proofs.Common.{◌+◌, arith, ap, sym, ◌∙◌, rules, get_or, sum_by, take, zip}
use Rattle.std.proofs.lemmas.List.{take_all}
use Rattle.tp_workers.proofs.Shifts.{zip_length}
use Rattle.tp_commands.specs.Registers.{value_at}
use Rattle.tp_commands.proofs.Shows.{value_next}
use Rattle.tp_commands.proofs.lines.sum.Goals as goal

pub loop-i-preserved : goal.loop-i-preserved
loop-i-preserved g c =
    let next = value_next (λ b. (goal.Server-dyn g (b.vtable, b.value)).behaviour b.value) (λ b. (goal.Server-dyn g (b.vtable, b.value)).registers b.value) (λ b. (goal.Server-dyn g (b.vtable, b.value)).pending b.value)
    c.args.k c.args.servers.now c.args.places.now c.loop-i.i c.index-servers-i.result c.index-places-i.result c.requires c.loop-i-test.true in
    record {
      few = search rules;
      is = ap (λ n. n + c.from-sum.result) c.loop-i.invariant.is ∙ (ap (λ n. sum_by (value_at (λ b. (goal.Server-dyn g (b.vtable, b.value)).registers b.value) c.args.k) (take c.loop-i.i (zip c.args.servers.now c.args.places.now)) + n) (c.from-sum.ensures ∙ (c.counted_value.ensures ∙ ap (λ b. value_at (λ b. (goal.Server-dyn g (b.vtable, b.value)).registers b.value) c.args.k (b, get_or c.args.places.now c.loop-i.i c.index-places-i.result)) c.index-servers-i.is)) ∙ sym next);
    }

pub returns : goal.returns
returns g c =
    let long = zip_length c.args.servers.now c.args.places.now c.requires in
    c.loop-i.invariant.is ∙ ap (sum_by (value_at (λ b. (goal.Server-dyn g (b.vtable, b.value)).registers b.value) c.args.k)) (take_all c.loop-i.i (zip c.args.servers.now c.args.places.now) (omega (arith, long, c.requires, c.loop-i-test.false)))
