use Rattle.std.proofs.Common.{refl}
use Rattle.tp_store.proofs.counts.Tally.new.Goals as goal

pub returns : goal.returns
returns c = let items = c.in_ok-stages.ensures.items_if_clones_equal (λ y h. h) in rw (items, c.from.ensures) refl
