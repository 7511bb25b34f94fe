use Rattle.std.proofs.Common.{◌≡◌, ◌+◌, ℕ, List, drop, length, take}
use Rattle.std.specs.Io.KnownBytes.{Appends}
use Rattle.tp_script.specs.Passes.{racing}
use Rattle.tp_perform.specs.Standing.{IsHeld, Leads}
use Rattle.tp_perform.specs.Performed.{ActsTold}
use Rattle.tp_perform.proofs.performing.perform_all.Given as goal

-- the acts so far
abbrev pub invariant-loop-act : goal.invariant-loop-act
invariant-loop-act g l = record {
  held : IsHeld (λ b. (goal.Server-dyn g (b.vtable, b.value)).behaviour b.value) (λ b. (goal.Server-dyn g (b.vtable, b.value)).registers b.value) (λ b. (goal.Server-dyn g (b.vtable, b.value)).pending b.value) l.script.head l.held;
  limits : l.held.managed.manager.limits ≡ l.fn.held.managed.manager.limits;
  raced : l.raced ≡ racing (take l.act-index l.script.acts.items);
  left : l.raced + racing (drop l.act-index l.script.acts.items) ≡ racing l.script.acts.items;
  told : Leads (λ b. (goal.Server-dyn g (b.vtable, b.value)).behaviour b.value) (λ b. (goal.Server-dyn g (b.vtable, b.value)).registers b.value) (λ b. (goal.Server-dyn g (b.vtable, b.value)).pending b.value) (λ old new. (text : List ℕ) × ActsTold l.script.head 0 (take l.act-index l.script.acts.items) old text new × Appends (g.W.Sink.contents l.fn.writer) (g.W.Sink.contents l.writer) text)
      l.fn.held l.held;
}
