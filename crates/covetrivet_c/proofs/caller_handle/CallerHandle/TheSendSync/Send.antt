-- What it leads to may go to another thread, and so may it.
use mir.Raw.{raw}
use base.Shift.{Keyless}
use denote.Memory.{lone}
use denote.RattleType.{RattleType}
use denote.RawPtr.{Ptr}
use denote.Builtin.{RawPtr}
use denote.Param.Send.{IsSend, Frees, owning_send, struct_send, sendable}
use denote.Struct.Struct.{exits_of}
use denote.Struct.Owning.{shape, fields, to}
use Rattle.std_alloc.proofs.SendSync.{quiet, lies}
use Rattle.std_heap.proofs.GlobalAllocator.TheSendSync as heap_sent
use Rattle.std.specs.declared.option.Option.{Option}
use Rattle.std.specs.declared.option.Option.TheVariants.{None, Some}
use Rattle.std.specs.contracts.impls.GlobalAllocator.TheImpl.{ghosts}
use Rattle.covetrivet_c.specs.Held.{held_at}
use Rattle.covetrivet_c.specs.contracts.caller.Caller as inner
use Rattle.covetrivet_c.proofs.caller.Caller.TheSendSync as inner_sent
use Rattle.covetrivet_c.specs.contracts.caller_handle.CallerHandle.{the_row, the_type}

abbrev R : RattleType
R = inner.the_row

sent : IsSend R
sent = inner_sent.the_send

frees : Frees ghosts ghosts.dealloc_token
frees = heap_sent.the_frees

keyless : (p : Ptr) (k : Option R.Denot) → Keyless (held_at R p k)
keyless p None = λ e. tt
keyless p (Some x) = (lies R sent p x, frees.frees (record { memory = record { seal = tt } }) (raw (lone R.mir)) p)

pub send : IsSend the_row
send = let ps : IsSend RawPtr = search sendable in
    owning_send the_type (ps, tt) (λ d. keyless d.at d.held)
    (λ k. quiet (to the_type) (exits_of k (fields the_type)) ((struct_send (shape the_type) (ps, tt)).leaving k))
