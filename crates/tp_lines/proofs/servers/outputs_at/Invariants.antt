use Rattle.std.proofs.Common.{◌≡◌, drop, map}
use Rattle.arrayvec.specs.ArrayVec.{array_vec_len}
use Rattle.tp_script.specs.LineWords.{outputs_at}
use Rattle.tp_script.proofs.GrammarLemmas.{with_front}
use Rattle.tp_lines.proofs.servers.outputs_at.Given as goal

abbrev pub invariant-loop-word : goal.invariant-loop-word
invariant-loop-word l = (with_front l.outputs.items (outputs_at (map (λ x. x.now) (drop l.word-index l.words))) ≡ outputs_at (map (λ x. x.now) l.words)) × (array_vec_len l.outputs ≡ l.word-index)
