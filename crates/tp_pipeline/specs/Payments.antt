-- What each server of the pipeline does with a payment. The words of its body are the amount, the payment's
-- number, and the bank's receipt once there is one.
use Rattle.std.specs.Prelude.{ℕ, ◌+◌, ◌^◌, nat_le, nat_lt, List, [], ◌∷◌, Option, Some, None, Result, Ok, Err}
use Rattle.std.specs.Prelude.{if◌then◌else◌, slice_index}
use Rattle.tp_model.specs.declared.types.Element.{Element}
use Rattle.tp_server.specs.Behaviour.{Behaviour}
use Rattle.tp_server.specs.Effect.{Effect}
use Rattle.tp_server.specs.declared.recipe.Declined.{Declined}
use Rattle.tp_server.specs.declared.recipe.Declined.TheVariants.{NoRegister, Own, TooLarge}

abbrev pub payment_amount : Element → ℕ
payment_amount payment = slice_index payment.body 0

-- one register, raised by one, and the payment goes on to this stage as it is
abbrev pub counted : ℕ → ℕ → Element → Effect
counted n stage payment = record {
  registers = (n + 1) ∷ [];
  drafts = record { stage = stage; body = payment.body } ∷ [];
}

abbrev pub count_on : ℕ → List ℕ → Element → Result Effect Declined
count_on stage (n ∷ []) payment =
    if nat_lt (n + 1) (2 ^ 64) then Ok (counted n stage payment) else Err TooLarge
count_on stage other payment = Err NoRegister

-- the validator counts what it lets through, which is what isn't above its ceiling; else it declines for its
-- own reason
abbrev pub payment_validated : ℕ → List ℕ → Element → Result Effect Declined
payment_validated ceiling registers payment =
    if nat_le (payment_amount payment) ceiling then count_on 2 registers payment else Err (Own 1)

abbrev pub payment_validator : ℕ → Behaviour
payment_validator ceiling = record {
  stage = 1;
  effect = λ registers payment heard. payment_validated ceiling registers payment;
}

-- the charge adds the amount to the takings, counts one more, and notes the bank's receipt
abbrev pub charge : ℕ → ℕ → Element → ℕ → Effect
charge takings n payment receipt = record {
  registers = (takings + payment_amount payment) ∷ (n + 1) ∷ [];
  drafts = record {
    stage = 3;
    body = payment_amount payment ∷ slice_index payment.body 1 ∷ receipt ∷ 0 ∷ [];
  } ∷ [];
}

-- what was heard from the bank: a receipt, if it is open
abbrev pub receipt_heard : Option ℕ → List ℕ
receipt_heard (Some receipt) = receipt ∷ []
receipt_heard None = []

-- with no receipt the charge is declined, for a reason of the server's own
abbrev pub answered : ℕ → ℕ → Element → List ℕ → Result Effect Declined
answered takings n payment (receipt ∷ []) = Ok (charge takings n payment receipt)
answered takings n payment heard = Err (Own 2)

-- the charger has two registers: the takings, and how many charges there were
abbrev pub charged : List ℕ → Element → List ℕ → Result Effect Declined
charged (takings ∷ n ∷ []) payment heard =
    if nat_lt (takings + payment_amount payment) (2 ^ 64)
    then (if nat_lt (n + 1) (2 ^ 64) then answered takings n payment heard else Err TooLarge)
    else Err TooLarge
charged registers payment heard = Err NoRegister

abbrev pub charger : Behaviour
charger = record { stage = 2; effect = charged }

-- the shipper counts what it ships, and replies
abbrev pub shipper : Behaviour
shipper = record { stage = 3; effect = λ registers payment heard. count_on 15 registers payment }
