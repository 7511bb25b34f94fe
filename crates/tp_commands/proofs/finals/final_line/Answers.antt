use Rattle.tp_commands.proofs.finals.final_line.Goals as goal

pub returns : goal.returns
returns g c = rw (c.as_slice-registers.ensures.value, c.in_ok-values.ensures) at c.line.ensures.text
