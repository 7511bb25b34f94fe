use Rattle.std.proofs.Common.{rules}
use Rattle.tp_workers.proofs.Asking.{lent_asks, took_asks}
use Rattle.tp_workers.proofs.Turns.{desk_took}
use Rattle.tp_workers.proofs.desks.take_turn.Goals as goal

pub returns-clause-took : goal.returns-clause-took
returns-clause-took g c =
    desk_took (λ v. (goal.Server-dyn g v).behaviour v.1) (λ v. (goal.Server-dyn g v).registers v.1) (λ v. (goal.Server-dyn g v).pending v.1) c.args.manager.now (c.args.pass.now, c.args.server.now) c.new-desk.result c.turn_by-turned.new.self _
    (record {
      manager = c.new-desk.ensures.manager;
      pass = c.new-desk.ensures.pass;
      server = c.new-desk.ensures.server;
      first_pass = c.new-desk.ensures.first_pass;
      first_server = c.new-desk.ensures.first_server;
      same = c.turn_by-turned.ensures.same;
      resting = record { steady = c.turn_by-turned.ensures.steady; free = c.turn_by-turned.ensures.free };
      ends = search rules;
      behaviour_is = search rules;
      registers_are = search rules;
      left = search rules;
      ready = search rules;
    })
    c.args.order c.turn_by-turned.result _ (record { answer = c.turn_by-turned.ensures.answer; follows = c.turn_by-turned.ensures.follows; keeps_turn = c.turn_by-turned.ensures.turn; behaviour_is = c.turn_by-turned.ensures.behaviour })
    c.turn_by-turned.ensures.limits c.of_turn.ensures

pub returns-clause-asked : goal.returns-clause-asked
returns-clause-asked g c =
    lent_asks (λ v. (goal.Server-dyn g v).behaviour v.1) (λ v. (goal.Server-dyn g v).registers v.1) (λ v. (goal.Server-dyn g v).pending v.1) (λ v. (goal.Server-dyn g v).asked v.1) c.args.manager.now (c.args.pass.now, c.args.server.now) c.new-desk.result c.turn_by-turned.new.self _ c.args.order _
    c.new-desk.ensures.manager c.new-desk.ensures.pass c.new-desk.ensures.server (record { steady = c.turn_by-turned.ensures.steady; free = c.turn_by-turned.ensures.free })
    (search rules) (search rules) (search rules) (took_asks (λ v. (goal.Server-dyn g v).behaviour v.1) (λ v. (goal.Server-dyn g v).registers v.1) (λ v. (goal.Server-dyn g v).pending v.1) (λ v. (goal.Server-dyn g v).asked v.1) c.args.order c.turn_by-turned.result c.new-desk.result c.turn_by-turned.new.self _
    (record { answer = c.turn_by-turned.ensures.answer; follows = c.turn_by-turned.ensures.follows; keeps_turn = c.turn_by-turned.ensures.turn; behaviour_is = c.turn_by-turned.ensures.behaviour }) c.turn_by-turned.ensures.asked c.of_turn.ensures) (search rules)
