-- A line that is taken from what was read.
use Rattle.std.proofs.Common.{◌≡◌, ◌∙◌, ◌+◌, ◌≤◌, ◌++◌, List, ℕ, [], ◌∷◌, Option, true, false, refl, sym, ap, append-nil, arith, length}
use Rattle.std.proofs.lemmas.List.{length-append}
use Rattle.std.specs.Option.{option_map}
use Rattle.tp_wire.specs.Heard.{Next, ReadsLine}
use Rattle.tp_wire.specs.Reading.{TakesLine, room, to_come, unused}
use Rattle.tp_wire.specs.declared.reading.Lines.{Lines}
use Rattle.tp_wire.specs.declared.reading.TheConstants.{MAX_KEPT}
use Rattle.tp_wire.proofs.HeardLemmas.{read_whole, reads_more, used}

-- up to its end
pub took_whole : (a rest : Option (List ℕ)) (old new : Lines) → ReadsLine a (to_come old rest) old.line.items → TakesLine true old new → Next true a new.line.items (to_come new rest)
took_whole a rest old new so_far took =
    let mid = option_map (λ more. (10 ∷ unused new) ++ more) rest in
    let part = reads_more MAX_KEPT a (to_come old rest) mid old.line.items took.bytes new.line.items so_far refl took.in_line (used (unused old) (10 ∷ unused new) took.bytes rest took.taken) took.kept in
    read_whole a mid (to_come new rest) new.line.items part (used (10 ∷ unused new) (unused new) (10 ∷ []) rest refl)

-- all that was there
pub took_part : (a rest : Option (List ℕ)) (old new : Lines) → ReadsLine a (to_come old rest) old.line.items → TakesLine false old new → ReadsLine a (to_come new rest) new.line.items
took_part a rest old new so_far took =
    reads_more MAX_KEPT a (to_come old rest) (to_come new rest) old.line.items took.bytes new.line.items so_far refl took.in_line (used (unused old) (unused new) took.bytes rest (took.taken.0 ∙ sym (ap (λ w. took.bytes ++ w) took.taken.1 ∙ append-nil took.bytes))) took.kept

-- a line that is taken leaves room for fewer
pub whole_room : (old new : Lines) → new.left ≡ old.left → TakesLine true old new → room new + 1 ≤ room old
whole_room old new left took = omega (arith, left, ap length took.taken, length-append took.bytes (10 ∷ unused new))

pub part_room : (old new : Lines) → new.left ≡ old.left → TakesLine false old new → room new ≤ room old
part_room old new left took = omega (arith, left, ap length took.taken.1)
