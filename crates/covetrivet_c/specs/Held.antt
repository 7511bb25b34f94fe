use Rattle.std.specs.Prelude.{◌≡◌, Option, Some, None}
use base.Fml.{Fml, ftrue, fex}
use denote.RattleType.{RattleType}
use denote.RawPtr.{Ptr, null_ptr}
use Rattle.std.specs.contracts.impls.GlobalAllocator.TheImpl.{ghosts}
use Rattle.std_alloc.specs.Box.Ownership.{box_owns}

-- what a handle to a boxed value owns: nothing at null, and else the box
abbrev pub held_at : (R : RattleType) → Ptr → Option R.Denot → Fml
held_at R p None = fex (p ≡ null_ptr) (λ _. ftrue)
held_at R p (Some x) = box_owns (ghosts.dealloc_token (record { memory = record { seal = tt } })) R p x
