use Rattle.std.proofs.Common.{◌≡◌, rules}
use Rattle.tp_store.specs.Elements.{family_of, first_in}
use Rattle.tp_store.proofs.ends.forget_one.Goals as goal

pub returns-in-Some-first-clause-forgets : goal.returns-in-Some-first-clause-forgets
returns-in-Some-first-clause-forgets c = let first : c.first.result ≡ first_in family_of c.in-Some.root 0 c.args.shelf.now = c.first.ensures.first in search rules

pub returns-in-None-clause-forgets : goal.returns-in-None-clause-forgets
returns-in-None-clause-forgets c = let first : c.first.result ≡ first_in family_of c.in-Some.root 0 c.args.shelf.now = c.first.ensures.first in search rules
