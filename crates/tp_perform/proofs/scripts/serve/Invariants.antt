use Rattle.std.proofs.Common.{◌≡◌, None, map, take, All}
use Rattle.tp_server.specs.Behaviour.{behaviour_of}
use Rattle.tp_commands.specs.contracts.boxes.put.{dyn-1-ghosts}
use Rattle.tp_perform.proofs.scripts.serve.OwnLists.{own-1, lawful-own-1}
use Rattle.tp_perform.proofs.scripts.serve.Hidden.{sends-own-1}
use Rattle.tp_perform.proofs.scripts.serve.Given as goal

-- each box so far shows the recipe and the registers of its line, and has nothing prepared
abbrev pub invariant-loop-server : goal.invariant-loop-server
invariant-loop-server g l = record {
  behaviours : map (λ server. ((dyn-1-ghosts (own-1, lawful-own-1, sends-own-1)).0.entry server.vtable).1.behaviour server.value) l.servers.items ≡ map (λ s. behaviour_of s.recipe) (take l.server-index l.server-items);
  registers : map (λ server. ((dyn-1-ghosts (own-1, lawful-own-1, sends-own-1)).0.entry server.vtable).1.registers server.value) l.servers.items ≡ map (λ s. s.registers) (take l.server-index l.server-items);
  clear : All (λ server. ((dyn-1-ghosts (own-1, lawful-own-1, sends-own-1)).0.entry server.vtable).1.pending server.value ≡ None) l.servers.items;
}
