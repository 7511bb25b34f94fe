use Rattle.std.proofs.Common.{◌≡◌, rules}
use Rattle.tp_rule.specs.Doors.{key_of}
use Rattle.tp_rule.specs.Tables.{table_limits}
use Rattle.tp_rule.proofs.Voiding.{voids_go}
use Rattle.tp_rule.proofs.words.Words.void.Goals as goal

pub compare_exchange-requires-clause-permits : goal.compare_exchange-requires-clause-permits
compare_exchange-requires-clause-permits c = let keyed : table_limits c.args.self.now ≡ key_of c.args.self.now.table = search rules in
    voids_go _ (table_limits c.args.self.now) c.args.seat.now.view c.head-word.result c.args.row keyed c.requires.one.0 c.requires.one.1 c.requires.left c.head-word.ensures.place
