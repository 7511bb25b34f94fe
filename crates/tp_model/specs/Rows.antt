-- Worked histories, with two passes (the second is the server's) of 8 rows and 256 units, and three attempts.
use Rattle.std.specs.Prelude.{◌≡◌, ℕ, ◌+◌, Some, List, [], ◌∷◌, ◌++◌, map, replicate}
use Rattle.tp_model.specs.declared.types.Counts.{Counts}
use Rattle.tp_model.specs.declared.types.Element.{Element}
use Rattle.tp_model.specs.declared.types.Limits.{Limits}
use Rattle.tp_model.specs.declared.types.TheConstants.{MAX_ROUNDS}
use Rattle.tp_model.specs.declared.types.Status.TheVariants.{Waiting, Held, Consumed, Parked, Killed}
use Rattle.tp_model.specs.declared.event.Event.{Event}
use Rattle.tp_model.specs.declared.event.Event.TheVariants.{Enqueue, Claim, Commit, Abort, Kill, Requeue}
use Rattle.tp_model.specs.History.{born, Committed, end_of, status_of, rounds, events_by}
use Rattle.tp_model.specs.Words.{TakenWord, KilledWord, AgainWord, claim_word}
use Rattle.tp_model.specs.Counts.{taken, counts, counts_in}
use Rattle.tp_model.specs.Accounts.{account_of, elements_below, taken_of}
use Rattle.tp_model.specs.Families.{family, IsSettledFamily}
use Rattle.tp_model.specs.Steps.{IsLegal, Step, rows_of}
use Rattle.tp_model.specs.Births.{request}

-- the limits of the worked histories
abbrev pub row_limits : Limits
row_limits = record { parts = 2; rows = 8; units = 256; attempts = 3; spare = 0 }

-- a body whose words follow from an amount: the key is 0, and the others count on from the amount
abbrev pub body : ℕ → List ℕ
body amount = 0 ∷ amount ∷ (amount + 1) ∷ (amount + 2) ∷ []

-- an output of a unit
abbrev row_output : ℕ → ℕ → ℕ → ℕ → ℕ → Element
row_output id stage root amount unit = record {
  id = id;
  stage = stage;
  root = root;
  body = body amount;
  by = Some unit;
}

-- a request, and its reply
abbrev pub with_reply : List Event
with_reply =
    Enqueue 0 (request 0 1 (body 10)) ∷ Claim 1 256 0 1 ∷ Commit 1 256 (row_output 8 15 0 10 256 ∷ [])
    ∷ []

-- a request that is taken and given up three times
abbrev pub given_up : List Event
given_up = Enqueue 0 (request 0 1 (body 11)) ∷ Claim 1 256 0 1 ∷ Abort 1 256 ∷ Claim 1 257 0 2 ∷ Abort 1 257
    ∷ Claim 1 258 0 3 ∷ Abort 1 258 ∷ []

-- a request that is killed while a unit holds it
abbrev pub killed_in_hand : List Event
killed_in_hand = Enqueue 0 (request 0 1 (body 5)) ∷ Claim 1 256 0 1 ∷ Abort 0 256 ∷ Kill 0 0 ∷ []

-- the given up one is given another round
abbrev pub given_again : List Event
given_again = given_up ++ Requeue 0 0 1 ∷ []

-- and is taken in it
abbrev pub taken_again : List Event
taken_again = given_again ++ Claim 1 259 0 1 ∷ []

-- limits with one row for each pass, and one spare block, of the rows 2 to 9
abbrev pub spare_limits : Limits
spare_limits = record { parts = 2; rows = 1; units = 1; attempts = 1; spare = 1 }

-- the second pass makes an element in the spare block before it used its own row
abbrev pub in_spare_block : List Event
in_spare_block = Enqueue 1 (request 2 1 (body 4)) ∷ []

-- this many wait and this many are consumed
abbrev pub so_many : ℕ → ℕ → Counts
so_many waiting consumed = record { waiting = waiting; held = 0; consumed = consumed; parked = 0; killed = 0 }

-- what these histories come to
pub record WorkedRows : Type 0 where
  -- a parked element is given three more rounds at most
  pub most_rounds : MAX_ROUNDS ≡ 3
  pub reply_is : map (λ (e : Element). e.id) (born with_reply) ≡ 0 ∷ 8 ∷ []
  pub reply_end : end_of with_reply 256 ≡ Some (Committed 8 1)
  pub reply_status : status_of 3 with_reply 0 ≡ Consumed 256
  pub reply_waits : status_of 3 with_reply 8 ≡ Waiting 0
  pub reply_taken : map (λ (e : Element). e.body) (taken (events_by 1 with_reply) with_reply) ≡ (0 ∷ 10 ∷ 11
      ∷ 12 ∷ []) ∷ []
  pub client_took_none : taken_of with_reply 0 ≡ []
  pub reply_counts : counts 3 with_reply ≡ so_many 1 1
  pub reply_stage_counts : counts_in 3 with_reply 15 ≡ so_many 1 0
  pub reply_account : account_of 3 with_reply ≡ record {
    total = so_many 1 1;
    stages = so_many 0 1
        ∷ replicate 13 (so_many 0 0) ++ so_many 1 0 ∷ [];
  }
  pub reply_rows : map (λ (e : Element). e.id) (elements_below with_reply (rows_of row_limits)) ≡ 0 ∷ 8 ∷ []
  pub parked : status_of 3 given_up 0 ≡ Parked 3
  pub parked_word : claim_word given_up 0 ≡ TakenWord 3 258 0
  pub again : status_of 3 given_again 0 ≡ Waiting 0
  pub again_rounds : rounds given_again 0 ≡ 1
  pub again_word : claim_word given_again 0 ≡ AgainWord 1
  pub held_again : status_of 3 taken_again 0 ≡ Held 259 1
  pub held_word : claim_word taken_again 0 ≡ TakenWord 1 259 1
  pub killed_again : claim_word (given_again ++ Kill 0 0 ∷ []) 0 ≡ KilledWord 0 0 1
  pub killed_held : claim_word (taken_again ++ Abort 0 259 ∷ Kill 0 0 ∷ []) 0 ≡ KilledWord 1 259 1
  pub killed : status_of 3 killed_in_hand 0 ≡ Killed
  pub killed_word : claim_word killed_in_hand 0 ≡ KilledWord 1 256 0
  pub reply_family : map (λ (e : Element). e.id) (family with_reply 0) ≡ 0 ∷ 8 ∷ []
  pub reply_settled : IsSettledFamily 3 with_reply 0
  pub parked_unsettled : ¬ IsSettledFamily 3 given_up 0
  pub killed_settled : IsSettledFamily 3 killed_in_hand 0
  pub legal : IsLegal row_limits with_reply
  pub spare_legal : IsLegal spare_limits in_spare_block
  -- that pass may make another one there, and no other pass may
  pub spare_again : Step spare_limits in_spare_block (Enqueue 1 (request 9 1 (body 5)))
  pub spare_of_another : ¬ Step spare_limits in_spare_block (Enqueue 0 (request 9 1 (body 5)))
  -- the one that has no row is after the block
  pub behind_spare : ¬ Step spare_limits in_spare_block (Enqueue 1 (request 10 1 (body 5)))
