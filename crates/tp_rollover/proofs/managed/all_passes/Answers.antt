use Rattle.std.proofs.Common.{[], ◌∷◌, ◌∙◌, rules}
use Rattle.std.proofs.lemmas.List.Elements.{All-append, All-cons, All-nil}
use Rattle.tp_rollover.specs.Managed.{IsNewPass}
use Rattle.tp_rollover.proofs.Managing.{all_more}
use Rattle.tp_rollover.proofs.Sums.{one_more}
use Rattle.tp_rollover.proofs.managed.all_passes.Goals as goal

pub loop-pass-preserved : goal.loop-pass-preserved
loop-pass-preserved c = record {
  keeper = search rules;
  own = search rules;
  room = search rules;
  seen = c.in-Ok.ensures.given.1 ∙ c.loop-pass.invariant.seen;
  new = rw c.in_ok-push.ensures.items (All-append IsNewPass c.loop-pass.passes.items (c.in-Ok.pass ∷ []) c.loop-pass.invariant.new
      (All-cons IsNewPass c.in-Ok.pass [] (record {
        shows = c.in-Ok.ensures.own.1;
        seen = c.in-Ok.ensures.fresh.2 ∙ c.loop-pass.invariant.seen;
        mine = c.in-Ok.ensures.fresh.1;
        open_unit = c.in-Ok.ensures.fresh.3;
        next = c.in-Ok.ensures.rows.0;
        left = c.in-Ok.ensures.rows.1;
        blocks = c.in-Ok.ensures.rows.2;
        turn = c.in-Ok.ensures.turn;
        lows = c.in-Ok.ensures.fresh.4;
        drawn = c.in-Ok.ensures.fresh.5;
      }) (All-nil IsNewPass)));
  given = rw c.in_ok-push.ensures.items (all_more c.loop-pass.keeper c.pass.new.self c.loop-pass.passes.items c.in-Ok.pass c.in-Ok.ensures.fresh.0 c.in-Ok.ensures.given.0 c.loop-pass.invariant.given);
  made = rw c.in_ok-push.ensures.items (one_more c.loop-pass.passes.items c.in-Ok.pass c.loop-pass.keeper c.pass.new.self c.args.keeper.now.steps c.in-Ok.ensures.steps c.loop-pass.invariant.made);
}
