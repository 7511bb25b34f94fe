use Rattle.std.proofs.Common.{subst, sym}
use Rattle.covetrivet_c.specs.Homes.{IsUncarried}
use Rattle.covetrivet_c.proofs.Uncarried.{uncarried}
use Rattle.covetrivet_c.proofs.rolling.carry.Goals as goal

pub returns-in-Ok-clause-answer : goal.returns-in-Ok-clause-answer
returns-in-Ok-clause-answer c =
    record {
      given = c.roll_over.ensures.old_keeper.1;
      rolls = c.in-Ok.ensures.moved;
      all = c.roll_over.ensures.all.1;
      computed = c.in-Ok.ensures.computed;
    }

pub returns-in-Err-clause-answer : goal.returns-in-Err-clause-answer
returns-in-Err-clause-answer c =
    let l = c.args.old.now.limits in let k = c.args.new.now.limits in
    let olds = c.args.old_passes.now in let news = c.args.new_passes.now in (
      record { given = c.roll_over.ensures.old_keeper.1; passes = c.in-Err.ensures.refused },
      subst (IsUncarried l k olds news) (sym c.fault_of.ensures)
          (uncarried l k olds news c.in-Err.fault c.in-Err.ensures.due),
    )
