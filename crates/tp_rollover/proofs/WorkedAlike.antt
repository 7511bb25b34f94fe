-- What is computed of the worked descriptions, which are alive again as they were.
use Rattle.std.proofs.Common.{ℕ, None, Some, List, [], ◌∷◌, refl, replicate}
use Rattle.tp_model.specs.Births.{request}
use Rattle.tp_model.specs.declared.event.Event.{Event}
use Rattle.tp_model.specs.declared.event.Event.TheVariants.{Abort, Claim, Enqueue}
use Rattle.tp_plain.specs.OneThread.{State, start}
use Rattle.tp_plain.specs.declared.pass_state.PassState.{PassState}
use Rattle.tp_rollover.specs.Alike.{StandsUnheld}
use Rattle.tp_rollover.specs.Carries.{IsMadeAlike}
use Rattle.tp_rollover.specs.Worked.{WorkedAlike, anew, both_in_hand, described, described_in_hand, first_moved, in_hand_anew, moved_in_hand, worked_output, second_moved, small, survivor, survivor_in_hand, twice, word}
use Rattle.tp_rollover.specs.declared.moved.Moved.{Moved}
use Rattle.tp_rollover.proofs.Worked as worked
use Rattle.tp_rollover.proofs.WorkedHeld as in_hand
use Rattle.tp_model.specs.declared.types.Status.TheVariants.{Waiting, Parked}

abbrev used : ℕ → ℕ → ℕ → PassState
used next left claimed = record { next = next; left = left; claimed = claimed; holding = None; turns = replicate 16 0 }

-- ---- one waits, and one is parked

abbrev both : List Moved
both = first_moved ∷ second_moved ∷ []

abbrev unheld : State
unheld = record { limits = small; history = anew; passes = used 3 5 2 ∷ []; drawn = 0 }

first_stands : StandsUnheld 1 anew (survivor 2 2 20 (Waiting 0)) first_moved
first_stands = record {
  named = (refl, refl);
  holder = refl;
  item = worked_output 1 2 20;
  born = refl;
  root = refl;
  stage = refl;
  body = refl;
  status = refl;
  alive = tt;
  rounds_are = refl;
  request = request 0 1 (word 5);
  began = refl;
  by_client = refl;
  root_stage = refl;
  root_body = refl;
  itself = λ e. absurd cc;
}

second_stands : StandsUnheld 1 anew (survivor 3 3 30 (Parked 1)) second_moved
second_stands = record {
  named = (refl, refl);
  holder = refl;
  item = worked_output 2 3 30;
  born = refl;
  root = refl;
  stage = refl;
  body = refl;
  status = refl;
  alive = tt;
  rounds_are = refl;
  request = request 0 1 (word 5);
  began = refl;
  by_client = refl;
  root_stage = refl;
  root_body = refl;
  itself = λ e. absurd cc;
}

waits : IsMadeAlike small 1 described (start small)
waits = record {
  moved = both;
  unheld = unheld;
  made = refl;
  alike = record { each = (first_stands, (second_stands, tt)); once = worked.pair.again.once; families = worked.pair.again.families };
  only = record { alive = refl; held = refl; killed = refl };
  after = unheld;
  held = refl;
}

-- ---- two are in hand

abbrev waiting : List Event
waiting = Enqueue 0 (request 0 1 (word 5)) ∷ Enqueue 0 (request 1 1 (word 6)) ∷ Claim 0 0 0 1 ∷ Abort 0 0 ∷ []

abbrev free : State
free = record { limits = twice; history = waiting; passes = used 2 6 1 ∷ used 8 8 0 ∷ []; drawn = 0 }

abbrev taken : State
taken = record {
  limits = twice;
  history = in_hand_anew;
  passes = record { next = 2; left = 6; claimed = 2; holding = Some 1; turns = replicate 16 0 } ∷ record { next = 8; left = 8; claimed = 1; holding = Some 8; turns = replicate 16 0 } ∷ [];
  drawn = 0;
}

one_waits : StandsUnheld 2 waiting (survivor_in_hand 1 1 1 5) (moved_in_hand 1 0 1)
one_waits = record {
  named = (refl, refl);
  holder = refl;
  item = request 0 1 (word 5);
  born = refl;
  root = refl;
  stage = refl;
  body = refl;
  status = refl;
  alive = tt;
  rounds_are = refl;
  request = request 0 1 (word 5);
  began = refl;
  by_client = refl;
  root_stage = refl;
  root_body = refl;
  itself = λ e. refl;
}

other_waits : StandsUnheld 2 waiting (survivor_in_hand 2 0 0 6) (moved_in_hand 2 1 0)
other_waits = record {
  named = (refl, refl);
  holder = refl;
  item = request 1 1 (word 6);
  born = refl;
  root = refl;
  stage = refl;
  body = refl;
  status = refl;
  alive = tt;
  rounds_are = refl;
  request = request 1 1 (word 6);
  began = refl;
  by_client = refl;
  root_stage = refl;
  root_body = refl;
  itself = λ e. refl;
}

held : IsMadeAlike twice 2 described_in_hand (start twice)
held = record {
  moved = both_in_hand;
  unheld = free;
  made = refl;
  alike = record { each = (one_waits, (other_waits, tt)); once = in_hand.pair.again.once; families = in_hand.pair.again.families };
  only = record { alive = refl; held = refl; killed = refl };
  after = taken;
  held = refl;
}

pub alike : WorkedAlike
alike = record { waits = waits; held = held }
