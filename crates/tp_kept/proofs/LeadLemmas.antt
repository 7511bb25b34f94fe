-- Lines that are performed one after another.
use Rattle.std.proofs.Common.{◌≡◌, ◌∙◌, ◌==◌, ℕ, ◌+◌, ◌-◌, ◌≤◌, Bool, true, List, [], ◌∷◌, ◌++◌, Option, Some, None, sym, ap, subst, arith, append-nil, append_assoc, drop, length, length-append, length-drop, take}
use Rattle.std.specs.Prelude.{if◌then◌else◌, nat_le, position}
use Rattle.std.proofs.lemmas.Bool.{le-leb}
use Rattle.std.proofs.lemmas.List.{drop-drop, length-take, take_at}
use Rattle.tp_wire.specs.Heard.{heard}
use Rattle.tp_wire.proofs.HeardLemmas.{EndsAt, ends_at, heard_next}
use Rattle.tp_session.specs.Session.{line_step, lines_step}
use Rattle.tp_session.specs.State.{SessionState, begin}
use Rattle.tp_kept.specs.Lines.{IsWhole}
use Rattle.tp_kept.specs.Lives.{life_behind, session_behind}
use Rattle.tp_kept.proofs.LinesLemmas.{whole_drop}
use Rattle.tp_kept.proofs.LivesLemmas.{both_steps, same_left}

-- the first of whole lines, and the others
pub first_of : (lines : List ℕ) (place : ℕ) → IsWhole lines → position (λ b. b == 10) lines ≡ Some place
    → (heard lines ≡ take place lines ∷ heard (drop 1 (drop place lines))) × IsWhole (drop 1 (drop place lines)) × (length (drop 1 (drop place lines)) + 1 ≤ length lines)
first_of lines place whole found =
    let ends : EndsAt lines place = ends_at lines place found in
    let behind : drop (place + 1) lines ≡ drop 1 (drop place lines) = sym (drop-drop 1 place lines) in (
      ap heard ends.parts ∙ (heard_next (take place lines) (drop (place + 1) lines) ends.in_line ∙ ap (λ l. take place lines ∷ heard l) behind),
      whole_drop 1 (drop place lines) (whole_drop place lines whole),
      omega (arith, ends.within, length-drop place lines, length-drop 1 (drop place lines)),
    )

-- one line more
pub record OneMore (all : List (List ℕ)) (k : ℕ) (line : List ℕ) (others : List (List ℕ)) : Type 0 where
  pub few : k + 1 ≤ length all
  pub front : take (k + 1) all ≡ take k all ++ line ∷ []
  pub parts : all ≡ take (k + 1) all ++ others

pub one_more : (all rest others : List (List ℕ)) (k : ℕ) (line : List ℕ) → k ≤ length all → all ≡ take k all ++ rest → rest ≡ line ∷ others → OneMore all k line others
one_more all rest others k line few parts is =
    let long : length (take k all) ≡ k = omega (arith, length-take k all, few) in
    let whole : all ≡ (take k all ++ line ∷ []) ++ others = parts ∙ (ap (λ r. take k all ++ r) is ∙ sym (append_assoc (take k all) (line ∷ []) others)) in
    let longer : length (take k all ++ line ∷ []) ≡ k + 1 = omega (arith, long, length-append (take k all) (line ∷ [])) in
    let front : take (k + 1) all ≡ take k all ++ line ∷ [] = ap (take (k + 1)) whole ∙ take_at (take k all ++ line ∷ []) others (k + 1) longer in
    record {
      few = omega (arith, ap length whole, longer, length-append (take k all ++ line ∷ []) others);
      front = front;
      parts = whole ∙ ap (λ f. f ++ others) (sym front);
    }

-- and what it does
pub one_step : (all : List (List ℕ)) (k : ℕ) (line : List ℕ) (s mid : SessionState) → k ≤ length all → take (k + 1) all ≡ take k all ++ line ∷ [] → mid ≡ (lines_step 0 (take k all) s).1
    → lines_step 0 (take (k + 1) all) s ≡ ((lines_step 0 (take k all) s).0 ++ (line_step (k + 1) line mid).0, (line_step (k + 1) line mid).1)
one_step all k line s mid few front is =
    let before = lines_step 0 (take k all) s in
    let long : 0 + length (take k all) ≡ k = omega (arith, length-take k all, few) in
    ap (λ ls. lines_step 0 ls s) front ∙ (both_steps 0 (take k all) (line ∷ []) s
    ∙ (ap (λ n. (before.0 ++ (lines_step n (line ∷ []) before.1).0, (lines_step n (line ∷ []) before.1).1)) long
    ∙ (ap (λ t. (before.0 ++ (lines_step k (line ∷ []) t).0, (lines_step k (line ∷ []) t).1)) (sym is)
    ∙ ap (λ w. (before.0 ++ w, (line_step (k + 1) line mid).1)) (append-nil (line_step (k + 1) line mid).0))))

-- a dump, and the lines behind it
pub leads_behind : (dumped for many counted : ℕ) (all rest : List (List ℕ)) (mid s : SessionState) → all ≡ take dumped all ++ rest → dumped ≤ length all → mid ≡ (lines_step 0 (take dumped all) begin).1
    → s ≡ (lines_step 0 rest mid).1 → many ≡ length rest → counted ≡ for + many → life_behind dumped for all ≡ Some (record { lines = counted; session = s })
leads_behind dumped for many counted all rest mid s parts few is left long counts =
    let longs : length all ≡ dumped + many = omega (arith, ap length parts, length-append (take dumped all) rest, length-take dumped all, few, long) in
    let lines : for + (length all - dumped) ≡ counted = omega (arith, longs, counts) in
    let behind : session_behind all ≡ s =
    ap session_behind parts ∙ (ap (λ t. t.1) (both_steps 0 (take dumped all) rest begin) ∙ (same_left (0 + length (take dumped all)) 0 rest (lines_step 0 (take dumped all) begin).1
    ∙ (ap (λ t. (lines_step 0 rest t).1) (sym is) ∙ sym left))) in
    ap (λ (b : Bool). if b then Some (record { lines = for + (length all - dumped); session = session_behind all }) else None) (le-leb dumped (length all) few)
    ∙ (ap (λ n. Some (record { lines = n; session = session_behind all })) lines ∙ ap (λ t. Some (record { lines = counted; session = t })) behind)
