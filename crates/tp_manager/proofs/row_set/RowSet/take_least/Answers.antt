use Rattle.std.proofs.Common.{◌≢◌, ◌↔◌, ℕ, List, subst}
use Rattle.tp_manager.specs.RowSets.{Has, IsLeast}
use Rattle.tp_manager.proofs.Families.RowBits.{first_word, out}
use Rattle.tp_manager.proofs.row_set.RowSet.take_least.Goals as goal
use Rattle.tp_manager.proofs.row_set.RowSet.take_least.Goals.{After-clear_bit}

taken : (c : After-clear_bit) → IsLeast c.args.self.now c.lowest_bit-row.result × ((i : ℕ) → Has c.clear_bit.new.words i ↔ (Has c.args.self.now i × (i ≢ c.lowest_bit-row.result)))
taken c = subst (λ (xs : List ℕ). IsLeast xs c.lowest_bit-row.result × ((i : ℕ) → Has c.clear_bit.new.words i ↔ (Has xs i × (i ≢ c.lowest_bit-row.result)))) c.self.view_is (
  c.lowest_bit-row.ensures.least (first_word c.self.inside.words c.self.inside.groups c.in-Some.word c.self.invariant c.in-Some.ensures),
  out c.self.inside.words c.clear_bit.new.words c.lowest_bit-row.result c.clear_bit.ensures.has c.clear_bit.ensures.others,
)

pub returns-then-self-word-eq0 : goal.returns-then-self-word-eq0
returns-then-self-word-eq0 c = taken (goal.at.returns-then-self-word-eq0 c).After-clear_bit

pub returns-else-self-word-eq0 : goal.returns-else-self-word-eq0
returns-else-self-word-eq0 c = taken (goal.at.returns-else-self-word-eq0 c).After-clear_bit
