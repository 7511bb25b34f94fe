use Rattle.std.proofs.Common.{rules}
use Rattle.tp_workers.proofs.Asking.{lent_asks}
use Rattle.tp_workers.proofs.Turns.{desk_ran}
use Rattle.tp_workers.proofs.desks.run_desk.Goals as goal

pub returns-clause-ran : goal.returns-clause-ran
returns-clause-ran g c =
    desk_ran (λ v. (goal.Server-dyn g v).behaviour v.1) (λ v. (goal.Server-dyn g v).registers v.1) (λ v. (goal.Server-dyn g v).pending v.1) c.args.manager.now (c.args.pass.now, c.args.server.now) c.new-desk.result c.take_turns-counts.new.desk _
    (record {
      manager = c.new-desk.ensures.manager;
      pass = c.new-desk.ensures.pass;
      server = c.new-desk.ensures.server;
      first_pass = c.new-desk.ensures.first_pass;
      first_server = c.new-desk.ensures.first_server;
      same = c.take_turns-counts.ensures.same;
      resting = c.take_turns-counts.ensures.resting;
      ends = search rules;
      behaviour_is = search rules;
      registers_are = search rules;
      left = search rules;
      ready = search rules;
    })
    c.args.plan c.take_turns-counts.result c.take_turns-counts.ensures.turns

pub returns-clause-asked : goal.returns-clause-asked
returns-clause-asked g c =
    lent_asks (λ v. (goal.Server-dyn g v).behaviour v.1) (λ v. (goal.Server-dyn g v).registers v.1) (λ v. (goal.Server-dyn g v).pending v.1) (λ v. (goal.Server-dyn g v).asked v.1) c.args.manager.now (c.args.pass.now, c.args.server.now) c.new-desk.result c.take_turns-counts.new.desk _ c.args.plan.order c.take_turns-counts.result
    c.new-desk.ensures.manager c.new-desk.ensures.pass c.new-desk.ensures.server c.take_turns-counts.ensures.resting
    (search rules) (search rules) (search rules) c.take_turns-counts.ensures.asked (search rules)
