use Rattle.std.proofs.Common.{◌≡◌, ◌+◌, drop}
use Rattle.covetrivet_c.specs.Homes.{place_in}
use Rattle.covetrivet_c.proofs.places.place_of.Given as goal

abbrev pub invariant-loop-place : goal.invariant-loop-place
invariant-loop-place l = l.place + place_in (drop l.place l.passes) l.number ≡ place_in l.passes l.number
