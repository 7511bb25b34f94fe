use Rattle.std.proofs.Common.{rules, arith}
use Rattle.tp_model.specs.declared.types.Claimed.TheVariants as claimeds
use Rattle.tp_workers.proofs.OwnCalls.{settles_commits, takes_commits}
use Rattle.tp_images.proofs.Resizing.{aborts, aborts_commits, begins, claims, commits}
use Rattle.tp_images.proofs.own_calls.resize.Goals as goal
use Rattle.tp_images.proofs.own_calls.resize.Goals.{in-Committed, in-Lost, in-Full}

pub loop-turn-init : goal.loop-turn-init
loop-turn-init c = record { free = c.requires.free; resized = omega arith; at_most = omega arith; steady = begins c.args.pass.now c.requires.free.free }

pub loop-turn-preserved : goal.loop-turn-preserved
loop-turn-preserved c =
    let took = takes_commits _ _ _ _ _ c.in-Work.ensures.answer in
    let adds = settles_commits _ _ _ _ c.commit.ensures.answer in
    let held = claims _ _ _ _ _ (claimeds.Work c.in-Work.work) c.loop-turn.invariant.steady c.in-Work.ensures.follows c.in-Work.ensures.answer in
    let steady = commits _ _ _ _ _ _ c.commit.result held (search rules) (search rules) c.commit.ensures.follows c.commit.ensures.answer c.commit.ensures.free in
    elim c.match-commit.branch [
      | in-Committed w ↦ let now = rw w.in-Committed.is at adds in record { free = search rules; resized = omega (arith, took, now); at_most = omega arith; steady = steady }
      | in-Lost w ↦ let now = rw w.in-Lost.is at adds in record { free = search rules; resized = omega (arith, took, now); at_most = omega arith; steady = steady }
      | in-Full w ↦ let now = rw w.in-Full.is at adds in record { free = search rules; resized = omega (arith, took, now); at_most = omega arith; steady = steady }
    ]

pub loop-turn-preserved-then-bytes-eq0 : goal.loop-turn-preserved-then-bytes-eq0
loop-turn-preserved-then-bytes-eq0 c =
    let held = claims _ _ _ _ _ (claimeds.Work c.in-Work.work) c.loop-turn.invariant.steady c.in-Work.ensures.follows c.in-Work.ensures.answer in
    record {
      free = search rules;
      resized = omega (arith, c.loop-turn.invariant.resized, takes_commits _ _ _ _ _ c.in-Work.ensures.answer, aborts_commits _ _ _ c.abort.ensures.answer);
      at_most = omega arith;
      steady = aborts _ _ _ _ _ c.abort.result held c.abort.ensures.follows c.abort.ensures.answer c.abort.ensures.free;
    }

pub returns-in_default : goal.returns-in_default
returns-in_default c = record {
  free = search rules;
  resized = search rules;
  at_most = omega arith;
  smaller = (claims _ _ _ _ _ c.claim.result c.loop-turn.invariant.steady c.claim.ensures.follows c.claim.ensures.answer).serves;
}
