use Rattle.std.proofs.Common.{◌≡◌, ◌++◌, map}
use Rattle.tp_script.specs.Script.{head_view}
use Rattle.tp_commands.specs.Ending.{final_lines}
use Rattle.tp_perform.proofs.ending.add_finals.Given as goal

-- the lines so far
abbrev pub invariant-loop-i : goal.invariant-loop-i
invariant-loop-i g l = l.told.items ≡ l.fn.told.items ++ final_lines (head_view l.head).servers (map (λ b. (goal.Server-dyn g (b.vtable, b.value)).registers b.value) l.servers) l.i
