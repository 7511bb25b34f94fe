-- What the pipeline's books count: each payment that was submitted has one end, or is open.
use Rattle.std.specs.Prelude.{◌≡◌, ℕ, ◌+◌, length}
use Rattle.tp_pipeline.specs.declared.books.Books.{Books}

-- of the payments that were submitted, one reply each was collected, some are cancelled, and the others are
-- open
pub record AddUp (b : Books) : Type 0 where
  pub each_once : b.collected + b.cancelled + length b.roots.items ≡ b.submitted

-- so many payments were submitted, and each has its end: its reply was collected, or it was cancelled
pub record AreClosed (payments : ℕ) (b : Books) : Type 0 where
  pub submitted : b.submitted ≡ payments
  pub ended : b.collected + b.cancelled ≡ payments
