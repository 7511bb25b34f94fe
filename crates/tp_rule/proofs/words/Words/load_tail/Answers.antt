use Rattle.std.proofs.Common.{◌≡◌, ◌<◌, rules, sym, ◌∙◌, ap, subst}
use Rattle.tp_model.specs.Steps.{rows_of}
use Rattle.tp_rule.specs.Doors.{Permits, key_of}
use Rattle.tp_rule.specs.Plays.{loads_head}
use Rattle.tp_rule.specs.Places.{HeadWord}
use Rattle.tp_rule.specs.Words.{IsFitHead, pack_head}
use Rattle.tp_rule.specs.declared.packing.Head.TheVariants.{Filled}
use Rattle.tp_rule.specs.Steps.{MayBeBorn}
use Rattle.tp_rule.specs.Rule.{HeadTold, IsDraft}
use Rattle.tp_rule.specs.Views.{seen_by}
use Rattle.tp_rule.proofs.Seats.{looks_head, one_has}
use Rattle.tp_rule.proofs.Reading.{told}
use Rattle.tp_rule.proofs.words.Words.load_tail.Goals as goal
use Rattle.tp_rule.proofs.words.Words.load_tail.Goals.{After-load-found}

pub load-found-requires-clause-permits : goal.load-found-requires-clause-permits
load-found-requires-clause-permits c = let room : c.args.row < rows_of (key_of c.args.self.now.table) = search rules in
    subst (λ word. Permits (key_of c.args.self.now.table) c.args.seat.now.view word (λ n. n) (loads_head word 0 0 c.args.seat.now.view)) (sym c.head-word.ensures.place)
    (looks_head _ c.args.seat.now.view c.args.row (one_has c.args.seat.now.view c.requires.one.0) room)

says : (c : After-load-found) → HeadTold (seen_by c.load-found.new.seat) c.args.row c.load-found.result
says c = told _ _ _ (HeadWord c.args.row) _ _ c.requires.one.1 c.requires.row c.head-word.ensures.place c.load-found.ensures.told.0

pub read-requires : goal.read-requires
read-requires c = let t = says (goal.at.read-requires c).After-load-found in (t.head, t.fit, t.packed)

pub returns-clause-born : goal.returns-clause-born
returns-clause-born c = let t = says (goal.at.returns-clause-born c).After-load-found in λ e p. c.read.ensures.of_pack t.head t.fit t.packed ∙ t.born e p

pub returns-clause-draft : goal.returns-clause-draft
returns-clause-draft c = let t = says (goal.at.returns-clause-draft c).After-load-found in λ un. subst IsDraft (sym (c.read.ensures.of_pack t.head t.fit t.packed)) (t.draft un)

pub returns-clause-none : goal.returns-clause-none
returns-clause-none c = λ is. let t = says (goal.at.returns-clause-none c).After-load-found in let zero : c.load-found.result ≡ 0 = t.bare (sym (c.read.ensures.of_pack t.head t.fit t.packed) ∙ is) in
    subst (λ l. MayBeBorn l (seen_by c.load-found.new.seat) c.args.row) c.requires.one.1 (c.load-found.ensures.told.3 c.args.row c.head-word.ensures.place zero)

pub returns-clause-tail : goal.returns-clause-tail
returns-clause-tail c = let t = says (goal.at.returns-clause-tail c).After-load-found in λ stage root by is. let same : t.head ≡ Filled stage root by = sym (c.read.ensures.of_pack t.head t.fit t.packed) ∙ is in
    c.load-found.ensures.told.2 c.args.row stage root by c.head-word.ensures.place (t.packed ∙ ap pack_head same) (subst IsFitHead same t.fit)
