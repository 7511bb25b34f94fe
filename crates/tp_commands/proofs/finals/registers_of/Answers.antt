use Rattle.std.proofs.Common.{sym, ◌∙◌, arith}
use Rattle.std.proofs.lemmas.List.{take_all}
use Rattle.tp_commands.proofs.RegisterLemmas.{read_more, read_past}
use Rattle.tp_commands.proofs.finals.registers_of.Goals.{in-Some+in_ok-push, in_default}
use Rattle.tp_commands.proofs.finals.registers_of.Goals as goal

pub loop-k-preserved : goal.loop-k-preserved
loop-k-preserved g c = elim c.match-register.branch [
  | in-Some+in_ok-push w ↦ (let more = read_more _ c.loop-k.k w.in-Some.value (sym c.register.ensures ∙ w.in-Some.is) in rw (w.values-is, w.in_ok-push.ensures.items, c.loop-k.invariant) (sym more))
  | in_default w ↦ (let past = read_past _ c.loop-k.k (sym c.register.ensures ∙ w.in_default.is) in rw w.values-is (c.loop-k.invariant ∙ sym past))
]

pub returns : goal.returns
returns g c =
    let all = take_all c.loop-k.k _ (omega (arith, c.register_count-k-end.ensures, c.loop-k-test.false)) in
    c.loop-k.invariant ∙ all
