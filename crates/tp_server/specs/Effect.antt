-- What a recipe does with an element, and with a list of them.
use Rattle.std.specs.Prelude.{ℕ, ◌+◌, ◌-◌, ◌^◌, nat_lt, nat_le, List, [], ◌∷◌, map, Option, Some, None}
use Rattle.std.specs.Prelude.{Result, Ok, Err, slice_get, slice_set, slice_index, if◌then◌else◌}
use Rattle.tp_model.specs.Drafts.{DraftView}
use Rattle.tp_model.specs.declared.types.Element.{Element}
use Rattle.tp_server.specs.declared.recipe.Recipe.{Recipe}
use Rattle.tp_server.specs.declared.recipe.Output.{Output}
use Rattle.tp_server.specs.declared.recipe.Act.{Act}
use Rattle.tp_server.specs.declared.recipe.Act.TheVariants.{Add, Take, Pass}
use Rattle.tp_server.specs.declared.recipe.KeyFrom.{KeyFrom}
use Rattle.tp_server.specs.declared.recipe.KeyFrom.TheVariants.{Same, Fixed}
use Rattle.tp_server.specs.declared.recipe.AmountFrom.{AmountFrom}
use Rattle.tp_server.specs.declared.recipe.AmountFrom.TheVariants.{Same as SameAmount, After}
use Rattle.tp_server.specs.declared.recipe.AmountFrom.TheVariants.{Fixed as FixedAmount}
use Rattle.tp_server.specs.declared.recipe.Declined.{Declined}
use Rattle.tp_server.specs.declared.recipe.Declined.TheVariants.{NoRegister, TooLarge, Short}

-- work that was done: all registers as it leaves them, and the drafts that it makes
pub record Effect : Type 0 where
  pub registers : List ℕ
  pub drafts : List DraftView

-- the key of a body is its word 0
abbrev pub key_in : List ℕ → ℕ
key_in body = slice_index body 0

-- a register's value after the act, or why the act can't be done
abbrev pub act_on : Act → ℕ → ℕ → Result ℕ Declined
act_on Add value amount = if nat_lt (value + amount) (2 ^ 64) then Ok (value + amount) else Err TooLarge
act_on Take value amount = if nat_le amount value then Ok (value - amount) else Err Short
act_on Pass value amount = Ok value

-- the same where there may be no such register
abbrev pub act_at : Act → Option ℕ → ℕ → Result ℕ Declined
act_at act None amount = Err NoRegister
act_at act (Some value) amount = act_on act value amount

-- the register that the element's key names, after the recipe's act with the amount, or why that can't be
-- done
abbrev pub register_after : Recipe → List ℕ → Element → Result ℕ Declined
register_after recipe registers element = act_at recipe.act (slice_get registers (key_in element.body))
    (slice_index element.body recipe.word)

-- an output's key: the element's own, or a fixed one
abbrev pub output_key : KeyFrom → ℕ → ℕ
output_key Same key = key
output_key (Fixed k) key = k

-- an output's amount: the element's own, the register's value after the act, or a fixed one
abbrev pub amount_of : AmountFrom → ℕ → ℕ → ℕ
amount_of SameAmount amount after = amount
amount_of After amount after = after
amount_of (FixedAmount n) amount after = n

-- an output's body is the element's own, with the output's key as its word 0 and the output's amount as its
-- word at this place
abbrev pub body_of : ℕ → List ℕ → ℕ → Output → List ℕ
body_of word body after output =
    slice_set (slice_set body 0 (output_key output.key (key_in body))) word
    (amount_of output.amount (slice_index body word) after)

-- the draft of one output of a recipe whose amount is the word at this place, where the act leaves the
-- register at after
abbrev pub draft_of : ℕ → Element → ℕ → Output → DraftView
draft_of word element after output = record {
  stage = output.stage;
  body = body_of word element.body after output;
}

-- the whole effect, once it is known what becomes of the one register
abbrev pub effect_with : Recipe → List ℕ → Element → Result ℕ Declined → Result Effect Declined
effect_with recipe registers element (Err why) = Err why
effect_with recipe registers element (Ok after) = Ok (record {
  registers = slice_set registers (key_in element.body) after;
  drafts = map (draft_of recipe.word element after) recipe.outputs.items;
})

-- what the recipe does with an element, or why it declines
abbrev pub effect_of : Recipe → List ℕ → Element → Result Effect Declined
effect_of recipe registers element =
    effect_with recipe registers element (register_after recipe registers element)

-- the registers that an effect leaves, if it wasn't declined
abbrev pub registers_after : Result Effect Declined → Option (List ℕ)
registers_after (Ok e) = Some e.registers
registers_after (Err why) = None

-- the registers after the effects of the elements in order, from registers that are there only if nothing was
-- declined yet
abbrev pub fold_from : Recipe → Option (List ℕ) → List Element → Option (List ℕ)
fold_from recipe None es = None
fold_from recipe (Some registers) [] = Some registers
fold_from recipe (Some registers) (e ∷ es) =
    fold_from recipe (registers_after (effect_of recipe registers e)) es

-- the registers after the effects of the elements in order, if none of them is declined
abbrev pub fold_of : Recipe → List ℕ → List Element → Option (List ℕ)
fold_of recipe start es = fold_from recipe (Some start) es
