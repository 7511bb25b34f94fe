use Rattle.std.proofs.Common.{◌≡◌, ◌∙◌, ◌++◌, ap, arith, length, map}
use Rattle.tp_script.specs.Script.{head_view}
use Rattle.tp_commands.specs.Ending.{final_lines}
use Rattle.tp_perform.proofs.ending.add_finals.Goals as goal

pub returns-clause-told : goal.returns-clause-told
returns-clause-told g c =
    let all : c.loop-i.i ≡ length c.args.servers.now = omega (arith, c.loop-i-test.false, c.loop-i.auto.i-end) in
    c.loop-i.invariant ∙ ap (λ n. c.args.told.now.items ++ final_lines (head_view c.args.head.now).servers (map (λ b. (goal.Server-dyn g (b.vtable, b.value)).registers b.value) c.args.servers.now) n) all
