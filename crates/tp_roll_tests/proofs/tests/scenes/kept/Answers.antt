use Rattle.std.proofs.Common.{[], ◌∷◌, rules}
use Rattle.std.proofs.lemmas.List.Elements.{All-append, All-cons, All-nil}
use Rattle.tp_manager.specs.Shown.{IsOf}
use Rattle.tp_roll_tests.proofs.tests.scenes.kept.Goals as goal

pub loop-i-preserved : goal.loop-i-preserved
loop-i-preserved g c = let P = IsOf c.expect-manager.result.0 in record {
  keeper = search rules;
  own = rw c.in-Ok-push.ensures.items (All-append P c.loop-i.passes.items (c.in-Ok.pass ∷ []) c.loop-i.invariant.own
      (All-cons P c.in-Ok.pass [] c.in-Ok.ensures.own.0 (All-nil P)));
}
