use Rattle.std.proofs.Common.{sym, ap}
use Rattle.tp_plain.specs.Looks.{is_consumed_by}
use Rattle.tp_model.proofs.Histories.{unborn_waits}
use Rattle.tp_plain.proofs.Walks.{read_none}
use Rattle.tp_plain.proofs.plain.Plain.is_consumed_by.Goals as goal

pub returns-in-Err : goal.returns-in-Err
returns-in-Err c =
    let s = c.args.self.now in
    sym (ap (is_consumed_by c.args.unit) (unborn_waits s.limits s.history c.show_reached.ensures.legal c.args.id (read_none s c.args.id c.in-Err.field-0 c.in-Err.ensures.computed)))
