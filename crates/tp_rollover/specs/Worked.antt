-- Two worked rollovers: the first with one pass of 8 rows and 8 units, and one attempt.
use Rattle.std.specs.Prelude.{◌≡◌, ℕ, None, Some, List, [], ◌∷◌, ◌++◌}
use Rattle.tp_model.specs.declared.types.Counts.{Counts}
use Rattle.tp_model.specs.declared.types.Element.{Element}
use Rattle.tp_model.specs.declared.types.Limits.{Limits}
use Rattle.tp_model.specs.declared.types.Status.{Status}
use Rattle.tp_model.specs.declared.types.Status.TheVariants.{Waiting, Held, Parked}
use Rattle.tp_model.specs.declared.event.Event.{Event}
use Rattle.tp_model.specs.declared.event.Event.TheVariants.{Enqueue, Claim, Commit, Abort, Kill}
use Rattle.tp_model.specs.Births.{request}
use Rattle.tp_model.specs.Counts.{counts}
use Rattle.tp_model.specs.History.{status_of}
use Rattle.tp_plain.specs.OneThread.{start}
use Rattle.tp_rollover.specs.Carries.{IsMadeAlike}
use Rattle.tp_rollover.specs.Rolls.{IsSame, RollsOver}
use Rattle.tp_rollover.specs.Survivors.{AreSurvivors, StandAgain}
use Rattle.tp_rollover.specs.declared.moved.Moved.{Moved}
use Rattle.tp_rollover.specs.declared.survivors.Survivor.{Survivor}

abbrev pub small : Limits
small = record { parts = 1; rows = 8; units = 8; attempts = 1; spare = 0 }

abbrev pub word : ℕ → List ℕ
word w = w ∷ 0 ∷ 0 ∷ 0 ∷ []

-- an output of the request's unit, 0
abbrev pub worked_output : ℕ → ℕ → ℕ → Element
worked_output id stage w = record { id = id; stage = stage; root = 0; body = word w; by = Some 0 }

-- a request of which three elements are born: one is consumed, one waits, and one is parked
abbrev pub before : List Event
before =
    Enqueue 0 (request 0 1 (word 5)) ∷ Claim 0 0 0 1 ∷ Commit 0 0 (worked_output 1 2 10 ∷ worked_output 2 2 20
    ∷ worked_output 3 3 30 ∷ []) ∷ Claim 0 1 1 1 ∷ Commit 0 1 [] ∷ Claim 0 2 3 1 ∷ Abort 0 2 ∷ []

-- the two that are alive, and what they are in the new manager
abbrev pub first_moved : Moved
first_moved = record { old = 2; new = 1; old_root = 0; new_root = 0; holder = None }

abbrev pub second_moved : Moved
second_moved = record { old = 3; new = 2; old_root = 0; new_root = 0; holder = None }

-- there a carrier is their root, and the second one has its attempt
abbrev pub anew : List Event
anew = Enqueue 0 (request 0 1 (word 5)) ∷ Claim 0 0 0 1
    ∷ Commit 0 0 (worked_output 1 2 20 ∷ worked_output 2 3 30 ∷ [])
    ∷ Claim 0 1 2 1 ∷ Abort 0 1 ∷ []

-- how many elements have each status before it, and in the new manager
abbrev pub counted_before : Counts
counted_before = record { waiting = 1; held = 0; consumed = 2; parked = 1; killed = 0 }

abbrev pub counted_anew : Counts
counted_anew = record { waiting = 1; held = 0; consumed = 1; parked = 1; killed = 0 }

-- they are described so
abbrev pub survivor : ℕ → ℕ → ℕ → Status → Survivor
survivor id stage w status = record {
  id = id;
  root = 0;
  stage = stage;
  body = word w;
  status = status;
  holder = None;
  rounds = 0;
  root_stage = 1;
  root_body = word 5;
}

abbrev pub described : List Survivor
described = survivor 2 2 20 (Waiting 0) ∷ survivor 3 3 30 (Parked 1) ∷ []

-- this is a rollover, and it is none where an element that was alive is left out; and these descriptions are
-- of what is alive, which stands again so
pub record WorkedPair : Type 0 where
  pub described_so : AreSurvivors small before described
  pub again : StandAgain small anew described (first_moved ∷ second_moved ∷ [])
  pub over : RollsOver small small 0 before (before ++ Kill 0 2 ∷ Kill 0 3 ∷ []) anew (first_moved
      ∷ second_moved ∷ [])
  pub waits : status_of 1 anew 1 ≡ Waiting 0
  pub parked : status_of 1 anew 2 ≡ Parked 1
  pub counts_before : counts 1 before ≡ counted_before
  pub counts_anew : counts 1 anew ≡ counted_anew
  pub left_out : ¬ RollsOver small small 0 before (before ++ Kill 0 2 ∷ []) anew (first_moved ∷ [])

-- the second one has two passes, and two attempts
abbrev pub twice : Limits
twice = record { parts = 2; rows = 8; units = 8; attempts = 2; spare = 0 }

-- Of three requests one is consumed. Pass 1 has the second one in hand, in its second attempt, and pass 0 the
-- third one, in its first.
abbrev pub in_hand : List Event
in_hand = Enqueue 0 (request 0 1 (word 4)) ∷ Claim 1 8 0 1 ∷ Commit 1 8 [] ∷ Enqueue 0 (request 1 1 (word 5))
    ∷ Claim 1 9 1 1 ∷ Abort 1 9 ∷ Claim 1 10 1 2 ∷ Enqueue 0 (request 2 1 (word 6)) ∷ Claim 0 0 2 1 ∷ []

-- pass 0 gives up its own, and kills both: the other one's unit it aborts before
abbrev pub over_in_hand : List Event
over_in_hand = in_hand ++ Abort 0 0 ∷ Abort 0 10 ∷ Kill 0 1 ∷ Kill 0 2 ∷ []

-- in the new manager both have them in hand, in the attempts that they had
abbrev pub in_hand_anew : List Event
in_hand_anew = Enqueue 0 (request 0 1 (word 5)) ∷ Enqueue 0 (request 1 1 (word 6)) ∷ Claim 0 0 0 1 ∷ Abort 0 0
    ∷ Claim 1 8 0 2 ∷ Claim 0 1 1 1 ∷ []

abbrev pub moved_in_hand : ℕ → ℕ → ℕ → Moved
moved_in_hand old new c = record { old = old; new = new; old_root = old; new_root = new; holder = Some c }

abbrev pub both_in_hand : List Moved
both_in_hand = moved_in_hand 1 0 1 ∷ moved_in_hand 2 1 0 ∷ []

abbrev pub survivor_in_hand : ℕ → ℕ → ℕ → ℕ → Survivor
survivor_in_hand id c waited w = record {
  id = id;
  root = id;
  stage = 1;
  body = word w;
  status = Waiting waited;
  holder = Some c;
  rounds = 0;
  root_stage = 1;
  root_body = word w;
}

abbrev pub described_in_hand : List Survivor
described_in_hand = survivor_in_hand 1 1 1 5 ∷ survivor_in_hand 2 0 0 6 ∷ []

-- This is a rollover too, and these descriptions are of what is in hand. It would be none where the second
-- one were in its first attempt there, waited, or were held by the other pass.
pub record HeldPair : Type 0 where
  pub described_so : AreSurvivors twice in_hand described_in_hand
  pub again : StandAgain twice in_hand_anew described_in_hand both_in_hand
  pub over : RollsOver twice twice 0 in_hand over_in_hand in_hand_anew both_in_hand
  pub second : status_of 2 in_hand_anew 0 ≡ Held 8 2
  pub third : status_of 2 in_hand_anew 1 ≡ Held 1 1
  pub attempt : ¬ IsSame twice twice (status_of 2 in_hand 1) (Held 8 1)
  pub waits : ¬ IsSame twice twice (status_of 2 in_hand 1) (Waiting 1)
  pub other : ¬ IsSame twice twice (status_of 2 in_hand 1) (Held 1 2)

-- What is computed of both descriptions stands as it was: by contract these rollovers, and restorations of
-- them, are never Unequal.
pub record WorkedAlike : Type 0 where
  pub waits : IsMadeAlike small 1 described (start small)
  pub held : IsMadeAlike twice 2 described_in_hand (start twice)
