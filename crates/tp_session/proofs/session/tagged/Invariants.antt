use Rattle.std.proofs.Common.{◌≡◌, ◌∷◌, ◌++◌, [], drop, true}
use Rattle.tp_session.specs.Session.{marked}
use Rattle.tp_session.proofs.session.tagged.Given as goal

-- what is there, and what is still to come
abbrev pub invariant-loop-byte : goal.invariant-loop-byte
invariant-loop-byte l = l.lines.items ++ marked l.begins (64 ∷ (l.tag ++ 32 ∷ [])) (drop l.byte-index l.text) ≡ marked true (64 ∷ (l.tag ++ 32 ∷ [])) l.text
