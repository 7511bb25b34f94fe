-- What is to hold of sales.
use Rattle.std.specs.Prelude.{◌≡◌, ℕ, ◌+◌, List, slice_index}
use Rattle.std.specs.List.{sum_by}
use Rattle.tp_model.specs.declared.types.Element.{Element}
use Rattle.tp_example.specs.Shop.{cost, how_many}

-- What is left and what the orders took make what there was, and the takings have grown by what the orders
-- cost: nothing is sold twice, nothing is lost, and goods and money change together.
pub record AddsUp (before after : List ℕ) (orders : List Element) : Type 0 where
  pub goods : slice_index after 0 + sum_by how_many orders ≡ slice_index before 0
  pub money : slice_index after 1 ≡ slice_index before 1 + sum_by cost orders

-- the goods that are left
abbrev pub goods_in : List ℕ → ℕ
goods_in registers = slice_index registers 0

-- what was taken for those that were sold
abbrev pub money_in : List ℕ → ℕ
money_in registers = slice_index registers 1
