-- Final lines, server by server.
use Rattle.std.proofs.Common.{◌≡◌, ℕ, zero, suc, List, [], ◌∷◌, ◌++◌, length, map, Option, Some, None, refl, sym, ◌∙◌, ap}
use Rattle.std.specs.Prelude.{option_map, slice_get}
use Rattle.std.proofs.lemmas.Option.{slice_get-map}
use Rattle.std.specs.List.{AllZip}
use Rattle.tp_manager.specs.Shown.{PassShown}
use Rattle.tp_commands.specs.Acting.{AllEnded, PlaceShown}
use Rattle.tp_script.specs.Script.{ServerView}
use Rattle.tp_commands.specs.Ending.{final_line, final_lines}
use Rattle.tp_reference.specs.declared.plain_desk.PlainDesk.{PlainDesk}
use Rattle.tp_reference.specs.PlainReport as plain
use Rattle.tp_reference.specs.PlainReport.{finals_below}
use Rattle.tp_exact.specs.Finals.{ExactFinals}
use Rattle.tp_exact.specs.Stands.{IsFor}

-- one of them
line_so : (a : Option ServerView) (b : Option PlainDesk) → final_line a (option_map (λ (d : PlainDesk). d.registers) b) ≡ plain.desk_final_line a b
line_so (Some server) (Some desk) = refl
line_so (Some server) None = refl
line_so None b = refl

-- those of the first n servers
pub lines_so : (servers : List ServerView) (desks : List PlainDesk) (n : ℕ) → final_lines servers (map (λ d. d.registers) desks) n ≡ finals_below servers desks n
unfolding finals_below
lines_so servers desks zero = refl
lines_so servers desks (suc n) =
    ap (λ (xs : List ℕ). xs ++ final_line (slice_get servers n) (slice_get (map (λ (d : PlainDesk). d.registers) desks) n)) (lines_so servers desks n)
    ∙ ap (λ (xs : List ℕ). finals_below servers desks n ++ xs) (ap (final_line (slice_get servers n)) (slice_get-map (λ (d : PlainDesk). d.registers) desks n) ∙ line_so (slice_get servers n) (slice_get desks n))

pub exact_finals : ExactFinals
exact_finals head registers desks same = ap (λ rs. final_lines head.servers rs (length head.servers)) same ∙ lines_so head.servers desks (length head.servers)

-- the registers that are left
pub registers_left : (ps : List PlaceShown) (qs : List PassShown) (rs : List (List ℕ)) (ds : List PlainDesk) → AllEnded ps qs rs → AllZip IsFor ps ds → rs ≡ map (λ d. d.registers) ds
registers_left [] [] [] [] ended zip = refl
registers_left [] [] [] (d ∷ ds) ended zip = absurd zip
registers_left [] [] (r ∷ rs) ds ended zip = absurd ended
registers_left [] (q ∷ qs) rs ds ended zip = absurd ended
registers_left (p ∷ ps) [] rs ds ended zip = absurd ended
registers_left (p ∷ ps) (q ∷ qs) [] ds ended zip = absurd ended
registers_left (p ∷ ps) (q ∷ qs) (r ∷ rs) [] ended zip = absurd zip
registers_left (p ∷ ps) (q ∷ qs) (r ∷ rs) (d ∷ ds) ended zip =
    ap (λ z. z ∷ rs) (ended.0.same ∙ sym zip.0.desk.registers) ∙ ap (λ zs. d.registers ∷ zs) (registers_left ps qs rs ds ended.1 zip.1)
