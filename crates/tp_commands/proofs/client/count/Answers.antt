use Rattle.std.proofs.Common.{arith, ◌∙◌}
use Rattle.tp_report.specs.declared.answer.Answer.TheVariants as answer
use Rattle.tp_commands.proofs.Listings.{one_counted, read_counted}
use Rattle.tp_commands.proofs.client.count.Goals.{in-Ok, in_default}
use Rattle.tp_commands.proofs.client.count.Goals as goal

pub loop-id-preserved : goal.loop-id-preserved
loop-id-preserved c = elim c.match-read.branch [
  | in-Ok w ↦ (
      let counts = w.counts-is ∙ w.one_more-counts.ensures in
      let one = one_counted w.in-Ok.look.status c.loop-id.counts in
      record {
        free = record { own = c.read.ensures.own; free = c.read.ensures.quiet.open_unit ∙ c.loop-id.invariant.free.free };
        number = c.read.ensures.follows.number ∙ c.loop-id.invariant.number;
        few = rw counts (omega (arith, one, c.loop-id.invariant.few));
        counted = read_counted c.args.manager.now.limits c.loop-id.id c.args.client.now c.loop-id.client c.read.new.pass c.loop-id.counts _ (answer.Read w.in-Ok.look) c.loop-id.invariant.counted (record { follows = c.read.ensures.follows; limits = c.read.ensures.own.1; turn = c.read.ensures.turn }, c.read.ensures.quiet, c.read.ensures.looks, w.in-Ok.ensures.answer) counts;
      })
  | in_default w ↦ record {
    free = record { own = c.read.ensures.own; free = c.read.ensures.quiet.open_unit ∙ c.loop-id.invariant.free.free };
    number = c.read.ensures.follows.number ∙ c.loop-id.invariant.number;
    few = rw w.counts-is (omega (arith, c.loop-id.invariant.few));
    counted = read_counted c.args.manager.now.limits c.loop-id.id c.args.client.now c.loop-id.client c.read.new.pass c.loop-id.counts _ (answer.Refused w.in_default.field-0) c.loop-id.invariant.counted (record { follows = c.read.ensures.follows; limits = c.read.ensures.own.1; turn = c.read.ensures.turn }, c.read.ensures.quiet, c.read.ensures.looks, w.in_default.ensures.answer) w.counts-is;
  }
]
