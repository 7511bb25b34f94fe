use Rattle.std.proofs.Common.{◌≡◌, ◌+◌, drop, map}
use Rattle.tp_script.specs.Text.{lines}
use Rattle.tp_script.specs.Whole.{lines_from, no_lines}
use Rattle.tp_script.specs.Script.{script_view}
use Rattle.tp_script.proofs.parse.parse.Given as goal

abbrev pub invariant-loop-text : goal.invariant-loop-text
invariant-loop-text l = (lines_from l.line (map (λ x. x.now) (drop l.text-index l.text-items)) (script_view l.script) ≡ lines_from 1 (lines l.bytes) no_lines) × (l.line ≡ l.text-index + 1)
