-- What a quoting server does, whose prices come from outside.
use Rattle.std.specs.Prelude.{ℕ, ◌+◌, ◌^◌, nat_lt, List, [], ◌∷◌, Option, Some, None, Result, Ok, Err}
use Rattle.std.specs.Prelude.{if◌then◌else◌, slice_index}
use Rattle.tp_model.specs.declared.types.Element.{Element}
use Rattle.tp_server.specs.Behaviour.{Behaviour}
use Rattle.tp_server.specs.Effect.{Effect}
use Rattle.tp_server.specs.declared.recipe.Declined.{Declined}
use Rattle.tp_server.specs.declared.recipe.Declined.TheVariants.{NoRegister, Own, TooLarge}
use Rattle.tp_model.specs.declared.types.TheConstants.{REPLY_STAGE}

-- one quote more is counted, and the reply has the price that was heard
abbrev pub quote : ℕ → Element → ℕ → Effect
quote n question price = record {
  registers = (n + 1) ∷ [];
  drafts = record {
    stage = REPLY_STAGE;
    body = slice_index question.body 0 ∷ price ∷ slice_index question.body 2 ∷ 0 ∷ [];
  } ∷ [];
}

-- without a price the question is declined, for a reason of the server's own
abbrev pub quote_heard : ℕ → Element → List ℕ → Result Effect Declined
quote_heard n question (price ∷ []) = Ok (quote n question price)
quote_heard n question heard = Err (Own 2)

-- what was heard: the price, if there is one
abbrev pub price_heard : Option ℕ → List ℕ
price_heard (Some price) = price ∷ []
price_heard None = []

-- one register: how many quotes were given
abbrev pub quoted : List ℕ → Element → List ℕ → Result Effect Declined
quoted (n ∷ []) question heard =
    if nat_lt (n + 1) (2 ^ 64) then quote_heard n question heard else Err TooLarge
quoted registers question heard = Err NoRegister

abbrev pub quotes : Behaviour
quotes = record { stage = 3; effect = quoted }
