use Rattle.std.proofs.Common.{◌≡◌, rules, sym, ◌∙◌, ap, subst}
use Rattle.tp_model.specs.declared.types.Limits.{Limits}
use Rattle.tp_rule.specs.Places.{UnitWord, unit_place}
use Rattle.tp_rule.specs.Doors.{Permits, key_of}
use Rattle.tp_rule.specs.Plays.{loads_unit}
use Rattle.tp_rule.specs.Rule.{WordIs}
use Rattle.tp_rule.specs.Steps.{AreInOrder}
use Rattle.tp_rule.specs.Tables.{table_limits}
use Rattle.tp_rule.specs.Views.{seen_by}
use Rattle.tp_rule.proofs.InOrder.{looks_unit}
use Rattle.tp_rule.proofs.Seats.{one_has}
use Rattle.tp_rule.proofs.Reading.{told}
use Rattle.tp_rule.proofs.words.Words.load_unit_tail.Goals as goal
use Rattle.tp_rule.proofs.words.Words.load_unit_tail.Goals.{After-load-found}

pub load-found-requires-clause-permits : goal.load-found-requires-clause-permits
load-found-requires-clause-permits c = let keyed : table_limits c.args.self.now ≡ key_of c.args.self.now.table = search rules in
    subst (λ word. Permits (key_of c.args.self.now.table) c.args.seat.now.view word (λ n. n) (loads_unit word 0 0 c.args.seat.now.view)) (sym (c.unit-word.ensures.place ∙ ap (λ (l : Limits). unit_place l c.args.unit) keyed))
    (looks_unit _ c.args.seat.now.view c.args.unit (one_has c.args.seat.now.view c.requires.one.0))

says : (c : After-load-found) → WordIs (seen_by c.load-found.new.seat) (UnitWord c.args.unit) c.load-found.result
says c = told _ _ _ (UnitWord c.args.unit) _ _ c.requires.one.1 c.requires.unit c.unit-word.ensures.place c.load-found.ensures.told.0

pub read-requires : goal.read-requires
read-requires c = let t = says (goal.at.read-requires c).After-load-found in (_, t.fit, t.packed)

pub returns-clause-end : goal.returns-clause-end
returns-clause-end c = let t = says (goal.at.returns-clause-end c).After-load-found in c.read.ensures.of_pack _ t.fit t.packed

pub returns-clause-order : goal.returns-clause-order
returns-clause-order c = subst (λ l. AreInOrder l (seen_by c.load-found.new.seat)) c.requires.one.1 c.load-found.ensures.told.1

pub returns-clause-before : goal.returns-clause-before
returns-clause-before c = (says (goal.at.returns-clause-before c).After-load-found).before
