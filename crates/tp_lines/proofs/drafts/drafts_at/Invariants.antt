use Rattle.std.proofs.Common.{◌≡◌, drop, map}
use Rattle.arrayvec.specs.ArrayVec.{array_vec_len}
use Rattle.tp_lines.specs.Drafts.{drafts_at}
use Rattle.tp_lines.proofs.DraftLemmas.{with_front}
use Rattle.tp_lines.proofs.drafts.drafts_at.Given as goal

abbrev pub invariant-loop-word : goal.invariant-loop-word
invariant-loop-word l = (with_front l.drafts.items (drafts_at (map (λ x. x.now) (drop l.word-index l.words))) ≡ drafts_at (map (λ x. x.now) l.words)) × (array_vec_len l.drafts ≡ l.word-index)
