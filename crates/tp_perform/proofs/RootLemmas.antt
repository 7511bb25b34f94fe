-- One element's root more, or none.
use Rattle.std.proofs.Common.{◌≡◌, ◌∙◌, ◌||◌, Bool, true, false, List, [], ◌∷◌, ◌++◌, Option, Some, sym, ap}
use Rattle.std.specs.Prelude.{if◌then◌else◌}
use Rattle.std.proofs.lemmas.List.{append-nil}
use Rattle.tp_report.specs.declared.answer.Renamed.{Renamed}
use Rattle.tp_rollover.specs.declared.moved.Moved.{Moved}
use Rattle.tp_perform.specs.Roots.{has_root, is_carried, root_at}

module _ (moved before : List Moved) (o : Option Moved) (m : Moved) (is : o ≡ Some m) (b : Bool) (told : b ≡ is_carried m.old_root moved || has_root m.old_root before) (roots : List Renamed) where
  abbrev own : List Renamed
  own = record { old = m.old_root; new = m.new_root } ∷ []

  at_by : (c : Bool) → b ≡ c → roots ++ root_at moved before o ≡ roots ++ (if c then [] else own)
  at_by c at = ap (λ x. roots ++ root_at moved before x) is ∙ ap (λ (x : Bool). roots ++ (if x then [] else own)) (sym told ∙ at)

  -- it was told before
  pub root_none : b ≡ true → roots ≡ roots ++ root_at moved before o
  root_none so = sym (at_by true so ∙ append-nil roots)

  -- it is told now
  pub root_one : b ≡ false → (new : List Renamed) → new ≡ roots ++ own → new ≡ roots ++ root_at moved before o
  root_one so new is_new = is_new ∙ sym (at_by false so)
