-- A race: all free servers work, each on a thread of its own, beside clients and killers.
use Rattle.std.specs.Prelude.{◌≡◌, ◌≤◌, ◌<◌, get_or, ℕ, ◌+◌, ◌*◌, Bool, true, false, List}
use Rattle.std.specs.Prelude.{[], ◌∷◌, All, None, drop, length, replicate, take}
use Rattle.std.specs.List.{AllZip}
use Rattle.tp_model.specs.Steps.{IsServerStage}
use Rattle.tp_model.specs.declared.types.Limits.{Limits}
use Rattle.tp_model.specs.declared.types.TheConstants.{MAX_PART_ROWS}
use Rattle.tp_manager.specs.Shown.{ManagerShown, PassShown, numbers}
use Rattle.tp_workers.specs.declared.killer.KillJob.{KillJob}
use Rattle.tp_workers.specs.declared.tally.Shift.{Shift}
use Rattle.tp_workers.specs.Clients.{ClientRan, JobShown}
use Rattle.tp_workers.specs.Desks.{TakesTurns}
use Rattle.tp_workers.specs.Desks as workers
use Rattle.tp_workers.specs.Free.{IsFreePass}
use Rattle.tp_workers.specs.Killers.{KillerRan}
use Rattle.tp_workers.specs.Plans.{least_first}
use Rattle.tp_workers.specs.Ran.{RanEach}
use Rattle.tp_commands.specs.declared.place.Place.{Place}
use Rattle.tp_script.specs.declared.script.Race.{Race}
use Rattle.tp_commands.specs.Acting.{PlaceShown, is_free, place_of_desk}
use Rattle.tp_commands.specs.Places.{is_free_at}

-- ---- desks

-- none of the places from the one up to the other is free
abbrev pub ArePassed : {X : Type 0} {F : X → Type 0} → ℕ → ℕ → List (Place X F) → Type 0
ArePassed {X = X} {F = F} from to places = (i : ℕ) (d : Place X F) → from ≤ i → i < to
    → is_free_at (get_or places i d) ≡ false

-- the desk did this, and has nothing in hand
pub record TookPart (Did : workers.DeskPlace → workers.DeskPlace → Type 0) (old new : PlaceShown)
    : Type 0 where
  pub did : Did (place_of_desk old.desk) (place_of_desk new.desk)
  pub none_left : new.desk.work ≡ None
  pub began : new.began ≡ old.began
  pub kept : new.is_dropped ≡ old.is_dropped

-- a desk that takes part did this, and any other is as it was
abbrev pub TakesPart : Bool → (workers.DeskPlace → workers.DeskPlace → Type 0) → PlaceShown → PlaceShown
    → Type 0
TakesPart true Did old new = TookPart Did old new
TakesPart false Did old new = new ≡ old

-- so it is at each place
abbrev pub AllTakePart : (workers.DeskPlace → workers.DeskPlace → Type 0) → List PlaceShown → List PlaceShown
    → Type 0
AllTakePart Did olds news = AllZip (λ old new. TakesPart (is_free old) Did old new) olds news

-- at most so many turns were taken there, each of which claimed the element with the least id
abbrev pub TookTurns : Limits → ℕ → workers.DeskPlace → workers.DeskPlace → Type 0
TookTurns l turns old new = (counts : Shift) × TakesTurns (least_first turns) l old counts new

-- ---- clients and killers

-- what each client of a race is to do: to submit the same body so often, of which words 2 and 3 are 0
abbrev pub client_job : Race → JobShown
client_job plan = record {
  stage = plan.stage;
  bodies = replicate plan.submits (plan.key ∷ plan.amount ∷ 0
      ∷ 0 ∷ []);
}

-- the number of the first of these passes
abbrev pub first_number : List PassShown → ℕ
first_number [] = 0
first_number (p ∷ ps) = p.number

-- each killer is to kill the elements of all rows in the parts of these clients
abbrev pub kill_job : ℕ → Race → List PassShown → KillJob
kill_job rows plan clients =
    let first = first_number clients * rows in
    record { first = first; end = first + plan.clients * rows }

-- passes that a race may have, whose manager has parts of so many rows: all are free, and there are enough
-- for its clients
pub record MayRace (m : ManagerShown) (rows : ℕ) (plan : Race) (racers : List PassShown) : Type 0 where
  pub free : All (IsFreePass m) racers
  pub enough : plan.clients ≤ length racers
  pub most : length racers ≤ 510
  pub few : rows ≤ MAX_PART_ROWS
  pub stage : IsServerStage plan.stage

-- free passes are free again, each with its number
pub record AreStillFree (m : ManagerShown) (old new : List PassShown) : Type 0 where
  pub free : All (IsFreePass m) new
  pub numbered : numbers new ≡ numbers old

-- clients of the first passes and killers of the others did their jobs, and so many submits were accepted
pub record RacersRan (m : ManagerShown) (submits : List JobShown) (kills : List KillJob)
    (clients killers : List PassShown) (submitted : ℕ) (clients' killers' : List PassShown)
    : Type 0 where
  pub client_counts : Shift
  pub killer_counts : Shift
  pub clients_ran : RanEach (ClientRan m) clients submits client_counts clients' submits
  pub killers_ran : RanEach (KillerRan m) killers kills killer_counts killers' kills
  pub accepted : submitted ≡ client_counts.submitted

-- a race by the first passes as clients and the others as killers
pub record Races (m : ManagerShown) (rows : ℕ) (plan : Race)
    (racers : List PassShown) (submitted : ℕ) (racers' : List PassShown)
    (olds news : List PlaceShown) : Type 0 where
  pub desks : AllTakePart (TookTurns m.limits plan.turns) olds news
  pub ran :
      let clients = take plan.clients racers in
      let killers = drop plan.clients racers in
      RacersRan m (replicate (length clients) (client_job plan))
      (replicate (length killers) (kill_job rows plan clients))
      clients killers submitted (take plan.clients racers') (drop plan.clients racers')
