use Rattle.tp_model.proofs.RowTallies as rows
use Rattle.tp_model.proofs.laws.counts_by_rows.Goals as goal

pub returns : goal.returns
returns c = rows.counts_by_rows
