use Rattle.std.proofs.Common.{◌≡◌, ℕ, ◌≤◌, rules, sym, ◌∙◌, ap, subst, arith}
use Rattle.tp_model.specs.declared.types.Limits.{Limits}
use Rattle.tp_rule.specs.Places.{IsThere, MarkWord, mark_place}
use Rattle.tp_rule.specs.Doors.{Permits, key_of}
use Rattle.tp_rule.specs.Plays.{loads_mark}
use Rattle.tp_rule.specs.Steps.{IsLow, Knows}
use Rattle.tp_rule.specs.Tables.{table_limits}
use Rattle.tp_rule.specs.Views.{seen_by, view_of}
use Rattle.tp_rule.specs.declared.view.Known.TheVariants.{PartMark}
use Rattle.tp_rule.proofs.Parts.{fair_rows}
use Rattle.tp_rule.proofs.Raising.{looks_mark}
use Rattle.tp_rule.proofs.Tellings.{inside_rows}
use Rattle.tp_rule.proofs.words.Words.load_mark.Goals as goal
use Rattle.tp_rule.proofs.words.Words.load_mark.Goals.{After-load-found}

pub load-found-requires-clause-permits : goal.load-found-requires-clause-permits
load-found-requires-clause-permits c = let keyed : table_limits c.args.self.now ≡ key_of c.args.self.now.table = search rules in
    subst (λ word. Permits (key_of c.args.self.now.table) c.args.seat.now.view word (λ n. n) (loads_mark word 0 0 c.args.seat.now.view)) (sym (c.mark-word.ensures.place ∙ ap (λ (l : Limits). mark_place l c.args.kind c.args.part) keyed))
    (looks_mark _ c.args.seat.now.view c.args.kind c.args.part c.requires.one.0 (c.requires.one.1 ∙ keyed) (subst (λ (l : Limits). IsThere l (MarkWord c.args.kind c.args.part)) keyed c.mark-word.ensures.there))

told : (c : After-load-found) → Knows (view_of c.load-found.new.seat) (PartMark c.args.kind c.args.part c.load-found.result) × IsLow (view_of c.args.seat.now).limits c.args.kind (seen_by c.load-found.new.seat) c.args.part c.load-found.result
    × ((n : ℕ) → Knows (view_of c.args.seat.now) (PartMark c.args.kind c.args.part n) → n ≤ c.load-found.result)
told c = let lim = c.requires.one.1 in c.load-found.ensures.told.1 c.args.kind c.args.part (c.mark-word.ensures.place ∙ ap (λ (l : Limits). mark_place l c.args.kind c.args.part) (sym lim)) (subst (λ (l : Limits). IsThere l (MarkWord c.args.kind c.args.part)) (sym lim) c.mark-word.ensures.there)

low : (c : After-load-found) → IsLow (table_limits c.args.self.now) c.args.kind (seen_by c.load-found.new.seat) c.args.part c.load-found.result
low c = subst (λ (l : Limits). IsLow l c.args.kind (seen_by c.load-found.new.seat) c.args.part c.load-found.result) c.requires.one.1 (told c).1

pub overflow_cast-result : goal.overflow_cast-result
overflow_cast-result c = let l : Limits = table_limits c.args.self.now in let a = inside_rows l c.args.part c.load-found.result c.requires.part (low (goal.at.overflow_cast-result c).After-load-found).0 in
    let most = fair_rows l c.args.self.now.places.valid in omega arith

pub returns-clause-knows : goal.returns-clause-knows
returns-clause-knows c = (told (goal.at.returns-clause-knows c).After-load-found).0

pub returns-clause-low : goal.returns-clause-low
returns-clause-low c = low (goal.at.returns-clause-low c).After-load-found

pub returns-clause-rises : goal.returns-clause-rises
returns-clause-rises c = (told (goal.at.returns-clause-rises c).After-load-found).2
