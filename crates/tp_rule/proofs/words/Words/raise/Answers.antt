use Rattle.std.proofs.Common.{◌≡◌, ◌+◌, ◌*◌, ◌<◌, ◌≤◌, ℕ, rules, sym, ◌∙◌, ap, subst}
use Rattle.tp_model.specs.declared.types.Limits.{Limits}
use Rattle.tp_rule.specs.Places.{IsThere, MarkWord, mark_place}
use Rattle.tp_rule.specs.Doors.{key_of}
use Rattle.tp_rule.specs.Rule.{IsInside}
use Rattle.tp_rule.specs.Steps.{KnowsUseless, Knows, RaisesMark}
use Rattle.tp_rule.specs.Tables.{table_limits}
use Rattle.tp_rule.specs.Views.{view_of}
use Rattle.tp_rule.specs.declared.view.Known.TheVariants.{MarkAbove, PartMark}
use Rattle.tp_rule.proofs.Raising.{raises_go}
use Rattle.tp_rule.proofs.words.Words.raise.Goals as goal
use Rattle.tp_rule.proofs.words.Words.raise.Goals.{After-compare_exchange-was}

pub compare_exchange-was-requires-clause-permits : goal.compare_exchange-was-requires-clause-permits
compare_exchange-was-requires-clause-permits c = let keyed : table_limits c.args.self.now ≡ key_of c.args.self.now.table = search rules in
    raises_go _ c.args.seat.now.view c.mark-word.result c.args.from c.args.to c.args.kind c.args.part c.requires.one.0 (c.requires.one.1 ∙ keyed) (subst (λ (l : Limits). IsThere l (MarkWord c.args.kind c.args.part)) keyed c.mark-word.ensures.there)
    (c.mark-word.ensures.place ∙ ap (λ (l : Limits). mark_place l c.args.kind c.args.part) keyed) c.requires.up.0 (subst (λ (l : Limits). IsInside l c.args.part c.args.to) keyed c.requires.up.1)
    (subst (λ (l : Limits). (i : ℕ) → c.args.part * l.rows + c.args.from ≤ i → i < c.args.part * l.rows + c.args.to → KnowsUseless (view_of c.args.seat.now) c.args.kind i) keyed c.requires.done)

told : (c : After-compare_exchange-was) → RaisesMark (view_of c.args.seat.now) c.args.kind c.args.part c.args.from c.args.to (view_of c.compare_exchange-was.new.seat)
    × (c.compare_exchange-was.result ≡ c.args.from → Knows (view_of c.compare_exchange-was.new.seat) (PartMark c.args.kind c.args.part c.args.to))
    × (¬ (c.compare_exchange-was.result ≡ c.args.from) → Knows (view_of c.args.seat.now) (PartMark c.args.kind c.args.part c.args.from) → Knows (view_of c.compare_exchange-was.new.seat) (MarkAbove c.args.kind c.args.part c.args.from))
told c = c.compare_exchange-was.ensures.told c.args.kind c.args.part (c.mark-word.ensures.place ∙ ap (λ (l : Limits). mark_place l c.args.kind c.args.part) (sym c.requires.one.1)) (subst (λ (l : Limits). IsThere l (MarkWord c.args.kind c.args.part)) (sym c.requires.one.1) c.mark-word.ensures.there)

pub returns-clause-raises : goal.returns-clause-raises
returns-clause-raises c = (told (goal.at.returns-clause-raises c).After-compare_exchange-was).0
