use Rattle.std.proofs.Common.{map}
use Rattle.tp_script.specs.Script.{server_view}
use Rattle.tp_reference.specs.PlainRunning.{state}
use Rattle.tp_reference.proofs.ReportLemmas.{round_none, round_more}
use Rattle.tp_reference.proofs.plain_run.PlainRun.round.Goals as goal

pub loop-at-init : goal.loop-at-init
loop-at-init c = record { turns = round_none c.args.order (map server_view c.args.servers.now) (state c.args.self.now); ready = c.requires.ready }

pub loop-at-preserved : goal.loop-at-preserved
loop-at-preserved c = record {
  turns = round_more c.args.order (map server_view c.args.servers.now) c.loop-at.at (state c.args.self.now) (state c.loop-at.self) (state c.round_turn.new.self) c.loop-at.claimed _
      c.loop-at.invariant.turns c.in_ok-claimed.ensures.gives;
  ready = c.in_ok-claimed.ensures.ready;
}
