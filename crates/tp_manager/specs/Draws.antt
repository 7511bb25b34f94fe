-- What a pass is like after it has looked for room for rows.
use Rattle.std.specs.Prelude.{◌≡◌, ◌⊎◌, ℕ, ◌+◌, ◌<◌, ◌≤◌, [], ◌∷◌, ◌++◌}
use Rattle.tp_model.specs.declared.types.Limits.{Limits}
use Rattle.tp_model.specs.declared.types.TheConstants.{BLOCK_ROWS}
use Rattle.tp_model.specs.Steps.{block_first}
use Rattle.tp_rule.specs.declared.view.View.{View}
use Rattle.tp_manager.specs.declared.manager.Run.{Run}
use Rattle.tp_manager.specs.Bounds.{draw_steps, room_steps}
use Rattle.tp_manager.specs.Calls.{FindsNoBlock, Follows}
use Rattle.tp_manager.specs.Shown.{PassShown}
use Rattle.tp_manager.specs.Drafts.{Drew}

-- in at most n steps a spare block is drawn, and it is the run
abbrev pub Drawn : Limits → ℕ → View → View → Run → Type 0
Drawn l n v w run = (b : ℕ) × Drew l n b v w × (run.next ≡ block_first l b) × (run.left ≡ BLOCK_ROWS)
    × (run.drawn ≡ b + 1) × (run.tail ≡ 0)

-- the pass has drawn spare block b, and it is its run
abbrev pub on_block : ℕ → PassShown → PassShown → PassShown
on_block b old new = record old {
  next = block_first old.limits b;
  left = BLOCK_ROWS;
  blocks = old.blocks ++ b ∷ [];
  trace = new.trace;
  seen_blocks = new.seen_blocks;
}

-- the pass has rows for this many: they were left to it, or it has drawn a block
abbrev pub HasRoom : Limits → ℕ → PassShown → PassShown → Type 0
HasRoom l rows old new = ((rows ≤ old.left) × (new ≡ old))
    ⊎ ((old.left < rows) × (b : ℕ) × (new ≡ on_block b old new)
    × ((old.seen_blocks ≤ b) × (b < new.seen_blocks)) × Follows (room_steps l rows) old new)

-- it has none, and all blocks are drawn
abbrev pub NoRoom : Limits → ℕ → PassShown → PassShown → Type 0
NoRoom l rows old new = FindsNoBlock rows old new × Follows (draw_steps l) old new
