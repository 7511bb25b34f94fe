use Rattle.std.proofs.Common.{rules}
use Rattle.tp_manager.specs.Shown.{IsOf}
use Rattle.tp_commands.proofs.Alls.{all_rest}
use Rattle.tp_commands.proofs.Lies.{lie_parts}
use Rattle.tp_commands.proofs.place.+end_all.Goals as goal

pub end_all-requires : goal.end_all-requires
end_all-requires g t c = (
  search rules,
  (
    all_rest (IsOf c.args.manager.now) c.args.passes.now _ _ c.in-Some.ensures.cases.0 c.requires.own,
    (lie_parts _ _ _ c.args.passes.now c.args.servers.now c.args.places.now _ _ _ _ _ _ c.in-Some.ensures.cases.0 c.in-Some-split_first_mut.ensures.cases.0 c.in-Some-split_first_mut-2.ensures.cases.0 c.requires.lie).1,
  ),
)
