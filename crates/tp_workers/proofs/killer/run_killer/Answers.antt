use Rattle.std.proofs.Common.{◌≡◌, ℕ, ◌-◌, ◌≤◌, arith, ap, refl, subst, ◌∙◌}
use Rattle.tp_workers.specs.Calling.{MadeCalls}
use Rattle.tp_workers.specs.Killers.{KillsNext, killing}
use Rattle.tp_workers.specs.Tally.{kill_count, total}
use Rattle.tp_workers.proofs.Killers.{kills_counted, kills_gained, kills_more, kills_none, one_kill, total_kills}
use Rattle.tp_workers.proofs.killer.run_killer.Goals as goal

pub loop-id-init : goal.loop-id-init
loop-id-init g c = record {
  own = c.requires.ready.pass.own;
  free = c.requires.ready.pass.free;
  calls = rw c.none-counts.ensures (kills_none c.args.manager.now.limits c.args.job.now.first c.args.pass.now);
}

pub plus-counts-requires : goal.plus-counts-requires
plus-counts-requires g c =
    let before = total_kills _ _ _ _ _ c.loop-id.invariant.calls in
    let now = ap total c.of_kill.ensures ∙ one_kill c.kill_at-answer.result in
    omega arith

pub loop-id-preserved : goal.loop-id-preserved
loop-id-preserved g c = record {
  own = c.kill_at-answer.ensures.own;
  free = c.kill_at-answer.ensures.call.free;
  calls = kills_more c.args.manager.now.limits c.args.job.now.first c.loop-id.id c.args.pass.now c.loop-id.pass c.kill_at-answer.new.pass c.kill_at-answer.result c.loop-id.counts c.of_kill.result c.plus-counts.result (omega arith) c.loop-id.invariant.calls c.kill_at-answer.ensures.call c.of_kill.ensures c.plus-counts.ensures;
}

pub returns-clause-ran : goal.returns-clause-ran
returns-clause-ran g c =
    let job = c.args.job.now in
    let low : job.first ≤ job.end = c.requires.ready.job in
    let all : c.loop-id.id ≡ job.end = omega (arith, low) in
    let calls = subst (λ (n : ℕ). MadeCalls (KillsNext c.args.manager.now.limits) kill_count (n - job.first) (killing job.first c.args.pass.now) c.loop-id.counts (killing n c.loop-id.pass)) all c.loop-id.invariant.calls in
    record {
      calls = calls;
      gains = (kills_gained _ _ _ _ _ calls).gains;
      killed = kills_counted _ _ _ _ _ calls;
      number = (kills_gained _ _ _ _ _ calls).number;
      same_job = refl;
      ready = record { pass = record { own = c.loop-id.invariant.own; free = c.loop-id.invariant.free }; job = low };
    }

pub returns-clause-bound : goal.returns-clause-bound
returns-clause-bound g c =
    let all = total_kills _ _ _ _ _ c.loop-id.invariant.calls in
    omega arith
