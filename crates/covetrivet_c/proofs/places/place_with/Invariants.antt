use Rattle.std.proofs.Common.{◌≡◌, ◌≢◌, ◌+◌, All, drop, take}
use Rattle.tp_manager.specs.Shown.{PassShown}
use Rattle.covetrivet_c.specs.Homes.{place_with}
use Rattle.covetrivet_c.proofs.places.place_with.Given as goal

abbrev pub invariant-loop-place : goal.invariant-loop-place
invariant-loop-place l =
    (l.place + place_with (drop l.place l.passes) l.number ≡ place_with l.passes l.number)
    × All (λ (p : PassShown). p.number ≢ l.number) (take l.place l.passes)
