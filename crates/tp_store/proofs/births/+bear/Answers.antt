use Rattle.std.proofs.Common.{arith}
use Rattle.tp_store.proofs.Newborn.{without_put}
use Rattle.tp_store.proofs.births.+bear.Goals as goal

pub returns-in-Err-clause-err : goal.returns-in-Err-clause-err
returns-in-Err-clause-err t c = rw (c.remove.ensures.without, c.in-Err.ensures.err, c.in_ok-insert.ensures.ok) (without_put c.args.id c.made.result c.args.shelf.now (c.requires.unborn c.args.id (omega arith)))
