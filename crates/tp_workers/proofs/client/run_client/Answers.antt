use Rattle.std.proofs.Common.{◌≡◌, ℕ, List, [], length, drop, arith, ap, refl, subst, ◌∙◌}
use Rattle.std.proofs.Math.Seq.{drop-length}
use Rattle.tp_workers.specs.Calling.{MadeCalls}
use Rattle.tp_workers.specs.Clients.{SubmitsFirst, submitting}
use Rattle.tp_workers.specs.Sums.{calls_of}
use Rattle.tp_workers.specs.Tally.{submit_count, total}
use Rattle.tp_workers.proofs.Calling.{called_none}
use Rattle.tp_workers.proofs.Clients.{one_submit, submits_counted, submits_did, submits_gained, submits_more, total_submits}
use Rattle.tp_workers.proofs.client.run_client.Goals as goal

pub loop-at-init : goal.loop-at-init
loop-at-init g c = record {
  own = c.requires.ready.pass.own;
  calls = rw c.none-counts.ensures (called_none _ submit_count (submitting c.args.job.now.bodies c.args.pass.now));
}

pub plus-counts-requires : goal.plus-counts-requires
plus-counts-requires g c =
    let before = total_submits _ _ _ _ _ _ c.loop-at.invariant.calls in
    let now = ap total c.of_submit.ensures ∙ one_submit c.submit_at-answer.result in
    let many = ap calls_of c.job.view_is in
    omega (arith, c.requires.fits)

pub loop-at-preserved : goal.loop-at-preserved
loop-at-preserved g c = record {
  own = c.submit_at-answer.ensures.own;
  calls = submits_more c.args.manager.now.limits c.args.job.now.stage c.args.job.now.bodies c.loop-at.at [] c.args.pass.now _ _ c.submit_at-answer.result _ _ _ (let many = ap calls_of c.job.view_is in omega arith) c.loop-at.invariant.calls c.submit_at-answer.ensures.call c.of_submit.ensures c.plus-counts.ensures;
}

pub returns-clause-ran : goal.returns-clause-ran
returns-clause-ran g c =
    let job = c.args.job.now in
    let Calls : ℕ → List (List ℕ) → Type 0 = λ n left. MadeCalls (SubmitsFirst c.args.manager.now.limits job.stage) submit_count n (submitting job.bodies c.args.pass.now) c.loop-at.counts (submitting left c.loop-at.pass) in
    let many = ap calls_of c.job.view_is in
    let all : c.loop-at.at ≡ length job.bodies = omega arith in
    let none : drop c.loop-at.at job.bodies ≡ [] = ap (λ n. drop n job.bodies) all ∙ drop-length job.bodies in
    let calls : Calls (length job.bodies) [] = subst (Calls (length job.bodies)) none (subst (λ n. Calls n (drop c.loop-at.at job.bodies)) all c.loop-at.invariant.calls) in
    let did = submits_did _ _ _ _ _ _ calls in
    record {
      calls = calls;
      gains = submits_gained _ _ _ _ _ _ _ calls;
      submitted = submits_counted _ _ _ _ _ _ calls;
      number = did.number;
      same_job = refl;
      ready = record {
        pass = record { own = c.loop-at.invariant.own; free = did.open_unit ∙ c.requires.ready.pass.free };
        job = c.requires.ready.job;
      };
    }

pub returns-clause-bound : goal.returns-clause-bound
returns-clause-bound g c =
    let all = total_submits _ _ _ _ _ _ c.loop-at.invariant.calls in
    let many = ap calls_of c.job.view_is in
    omega arith
