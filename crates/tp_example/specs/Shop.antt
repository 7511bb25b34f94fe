-- What the shop does with an order.
use Rattle.std.specs.Prelude.{ℕ, ◌+◌, ◌-◌, ◌*◌, ◌^◌, ◌==◌, nat_le, nat_lt, List, [], ◌∷◌, Result, Ok, Err}
use Rattle.std.specs.Prelude.{if◌then◌else◌, slice_index}
use Rattle.tp_model.specs.declared.types.Element.{Element}
use Rattle.tp_server.specs.Behaviour.{Behaviour}
use Rattle.tp_server.specs.Effect.{Effect}
use Rattle.tp_server.specs.declared.recipe.Declined.{Declined}
use Rattle.tp_server.specs.declared.recipe.Declined.TheVariants.{NoRegister, Own, Short, TooLarge}
use Rattle.tp_model.specs.declared.types.TheConstants.{REPLY_STAGE}

-- how many an order asks for
abbrev pub how_many : Element → ℕ
how_many order = slice_index order.body 1

-- what they cost
abbrev pub cost : Element → ℕ
cost order = slice_index order.body 1 * slice_index order.body 3

-- an order for six or more goes to the packers, a smaller one is replied to at once
abbrev pub order_route : ℕ → ℕ
order_route n = if nat_le 6 n then 2 else REPLY_STAGE

-- what is left and what was taken change at once, and the output has both
abbrev pub sale : ℕ → ℕ → Element → Effect
sale left takings order = record {
  registers = (left - how_many order) ∷ (takings + cost order) ∷ [];
  drafts = record {
    stage = order_route (how_many order);
    body = slice_index order.body 0 ∷ (left - how_many order) ∷ slice_index order.body 2 ∷ cost order ∷ [];
  } ∷ [];
}

-- an order for nothing is declined for a reason of the shop's own
abbrev pub sold : ℕ → ℕ → Element → Result Effect Declined
sold left takings order =
    if how_many order == 0 then Err (Own 1)
    else (if nat_le (how_many order) left
    then (if nat_lt (takings + cost order) (2 ^ 64) then Ok (sale left takings order) else Err TooLarge)
    else Err Short)

-- two registers: what is left in stock, and what was taken for it
abbrev pub sell : List ℕ → Element → Result Effect Declined
sell (left ∷ takings ∷ []) order = sold left takings order
sell other order = Err NoRegister

abbrev pub shop : Behaviour
shop = record { stage = 1; effect = λ registers order heard. sell registers order }
