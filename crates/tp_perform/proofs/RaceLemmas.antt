-- Races of a script: the passes that they take are free.
use Rattle.std.proofs.Common.{◌≡◌, ℕ, List, All, None, drop}
use Rattle.std.proofs.lemmas.List.Elements.{All-drop, All-take}
use Rattle.tp_manager.specs.Shown.{IsOf, ManagerShown, PassShown}
use Rattle.tp_commands.specs.Told.{RaceFree, after_servers, units_held}
use Rattle.tp_workers.specs.Free.{IsFreePass}
use Rattle.tp_perform.proofs.EndLemmas.{all_free}

pub race_free : (m : ManagerShown) (n k many : ℕ) (ps : List PassShown) → All (IsOf m) ps → All (λ unit. unit ≡ None) (units_held n ps) → RaceFree m n k many ps
race_free m n k many ps own none =
    let rest : All (IsOf m) (after_servers n ps) = All-drop (IsOf m) n (drop 1 ps) (All-drop (IsOf m) 1 ps own) in
    All-take (IsFreePass m) many (drop k (after_servers n ps)) (All-drop (IsFreePass m) k (after_servers n ps) (all_free m (after_servers n ps) rest none))
