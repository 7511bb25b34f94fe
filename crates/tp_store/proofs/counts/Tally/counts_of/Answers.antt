use Rattle.std.proofs.Common.{sym, ◌∙◌, ap}
use Rattle.std.proofs.lemmas.Option.{unwrap_or-slice_get}
use Rattle.std.specs.Option.{unwrap_or}
use Rattle.tp_store.specs.Counting.{no_counts}
use Rattle.tp_store.proofs.counts.Tally.counts_of.Goals as goal

pub returns-in-None : goal.returns-in-None
returns-in-None c = sym (ap (λ x. unwrap_or x no_counts) (sym c.stage.ensures ∙ c.in-None.is)) ∙ unwrap_or-slice_get c.args.self.now.stages c.args.stage no_counts
