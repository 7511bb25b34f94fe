use Rattle.std.proofs.Common.{Vec, ℕ, Global}
use Rattle.std.proofs.lemmas.Result.{err_from_is_err_and}
use Rattle.tp_script.proofs.LinesLemmas.{answers_all, answers_none}
use Rattle.tp_script.proofs.parse.read_script.Goals as goal

pub returns-in_err-bytes-clause-script : goal.returns-in_err-bytes-clause-script
returns-in_err-bytes-clause-script g c =
    let p = err_from_is_err_and c.from_residual.result c.from_residual.ensures.1 in
    rw (p.1, p.2) (answers_none (Vec ℕ Global) (g.S.Source.rest c.args.source.now) c.in_err-bytes.field-0.0 c.in_err-bytes.ensures.no_script)

pub returns-clause-script : goal.returns-clause-script
returns-clause-script g c = answers_all (g.S.Source.rest c.args.source.now) c.in_ok-bytes.bytes.items c.parse.result c.in_ok-bytes.ensures.bytes (rw c.as_slice.ensures.value at c.parse.ensures.script)

pub returns-clause-fault : goal.returns-clause-fault
returns-clause-fault g c = λ h. absurd (c.parse.ensures.no_read h)
