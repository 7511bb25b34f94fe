use Rattle.std.proofs.Common.{◌<◌, rules, sym, ◌∙◌, ap, subst}
use Rattle.tp_model.specs.Steps.{rows_of}
use Rattle.tp_rule.specs.Doors.{Permits, key_of}
use Rattle.tp_rule.specs.Plays.{loads_head}
use Rattle.tp_rule.specs.Places.{HeadWord}
use Rattle.tp_rule.specs.Words.{IsFitHead, pack_head}
use Rattle.tp_rule.specs.Rule.{HeadTold}
use Rattle.tp_rule.specs.Views.{seen_by}
use Rattle.tp_rule.proofs.Seats.{looks_head, one_has}
use Rattle.tp_rule.proofs.Reading.{told}
use Rattle.tp_rule.proofs.words.Words.load_stage.Goals as goal
use Rattle.tp_rule.proofs.words.Words.load_stage.Goals.{After-load-found}

pub load-found-requires-clause-permits : goal.load-found-requires-clause-permits
load-found-requires-clause-permits c = let room : c.args.row < rows_of (key_of c.args.self.now.table) = search rules in
    subst (λ word. Permits (key_of c.args.self.now.table) c.args.seat.now.view word (λ n. n) (loads_head word 0 0 c.args.seat.now.view)) (sym c.head-word.ensures.place)
    (looks_head _ c.args.seat.now.view c.args.row (one_has c.args.seat.now.view c.requires.one.0) room)

says : (c : After-load-found) → HeadTold (seen_by c.load-found.new.seat) c.args.row c.load-found.result
says c = told _ _ _ (HeadWord c.args.row) _ _ c.requires.one.1 c.requires.row c.head-word.ensures.place c.load-found.ensures.told.0

pub stage-requires : goal.stage-requires
stage-requires c = let t = says (goal.at.stage-requires c).After-load-found in (t.head, t.fit, t.packed)

pub returns-clause-born : goal.returns-clause-born
returns-clause-born c = let t = says (goal.at.returns-clause-born c).After-load-found in λ e p. c.stage.ensures e.stage e.root e.by (subst IsFitHead (t.born e p) t.fit) (t.packed ∙ ap pack_head (t.born e p))
