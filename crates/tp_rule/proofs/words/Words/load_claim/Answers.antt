use Rattle.std.proofs.Common.{sym, subst}
use Rattle.tp_rule.specs.Places.{ClaimWord}
use Rattle.tp_rule.specs.Words.{IsFitClaim}
use Rattle.tp_rule.specs.Rule.{WordIs}
use Rattle.tp_rule.specs.Views.{seen_by}
use Rattle.tp_rule.proofs.Seats.{one_has}
use Rattle.tp_rule.proofs.Reading.{told}
use Rattle.tp_rule.proofs.words.Words.load_claim.Goals as goal
use Rattle.tp_rule.proofs.words.Words.load_claim.Goals.{After-load-found}

pub load-found-requires-clause-pass : goal.load-found-requires-clause-pass
load-found-requires-clause-pass c = one_has c.args.seat.now.view c.requires.one.0

says : (c : After-load-found) → WordIs (seen_by c.load-found.new.seat) (ClaimWord c.args.row) c.load-found.result
says c = told _ _ _ (ClaimWord c.args.row) _ _ c.requires.one.1 c.requires.row c.claim-word.ensures.place c.load-found.ensures.looks

pub read-requires : goal.read-requires
read-requires c = let t = says (goal.at.read-requires c).After-load-found in (_, t.1, t.0)

pub returns-clause-claim : goal.returns-clause-claim
returns-clause-claim c = let t = says (goal.at.returns-clause-claim c).After-load-found in c.read.ensures.of_pack _ t.1 t.0

pub returns-clause-fits : goal.returns-clause-fits
returns-clause-fits c = let t = says (goal.at.returns-clause-fits c).After-load-found in subst IsFitClaim (sym ((c.read.ensures.of_pack _ t.1 t.0))) t.1
