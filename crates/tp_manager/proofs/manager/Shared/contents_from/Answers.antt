use Rattle.std.proofs.Common.{◌≡◌, subst, sym, ◌∙◌, ap, arith, refl, Some, None}
use Rattle.tp_model.specs.declared.types.Element.{Element}
use Rattle.tp_model.specs.declared.trace.StepKind.TheVariants as kinds
use Rattle.tp_model.specs.History.{Committed, element_of, end_of}
use Rattle.tp_rule.specs.Words.{head_of, unit_value}
use Rattle.tp_rule.specs.Tables.{table_limits}
use Rattle.tp_rule.specs.Views.{seen_by, view_of}
use Rattle.tp_rule.specs.Steps.{Knows, MayBeBorn}
use Rattle.tp_rule.specs.declared.view.Known.TheVariants.{RowHead}
use Rattle.tp_rule.specs.declared.packing.Head.TheVariants.{Filled}
use Rattle.tp_manager.specs.CallSteps.{Acted}
use Rattle.tp_manager.proofs.Calls.CallSteps.{acted_by, looked, looked_none, looked_few}
use Rattle.tp_manager.proofs.Rows.Looks.{head_now, none_outside, none_unit, there_unit, unended_outside}
use Rattle.tp_manager.proofs.manager.Shared.contents_from.Goals as goal
use Rattle.tp_manager.proofs.manager.Shared.contents_from.Goals.{After-load_unit, In-Committed}

one : (c : After-load_unit) → Acted (table_limits c.args.self.now.words) 1 (view_of c.args.seat.now) (view_of c.load_unit.new.seat)
one c = acted_by _ kinds.Load _ _ c.requires.steady.steady refl c.load_unit.ensures.grew

now : (c : After-load_unit) → (x : Element) → element_of (seen_by c.load_unit.new.seat) c.args.row ≡ Some x → c.args.head ≡ head_of x
now c = head_now kinds.Load _ _ _ _ c.args.row c.in-Filled.stage c.in-Filled.root c.in-Filled.by c.args.head c.requires.told c.load_unit.ensures.grew c.in-Filled.is

-- the head is known afterwards
still_known : (c : After-load_unit) → Knows (view_of c.load_unit.new.seat) (RowHead c.args.row (Filled c.in-Filled.stage c.in-Filled.root (Some c.in-Some.unit)))
still_known c = subst (λ z. Knows (view_of c.load_unit.new.seat) (RowHead c.args.row z)) (c.in-Filled.is ∙ ap (λ b. Filled c.in-Filled.stage c.in-Filled.root b) c.in-Some.is)
    (c.load_unit.ensures.grew.knows (RowHead c.args.row c.args.head) c.requires.told.knows)

ended : (c : In-Committed) → end_of (seen_by c.load_unit.new.seat) c.in-Some.unit ≡ Some (Committed c.in-Committed.first c.in-Committed.count)
ended c = sym c.load_unit.ensures.end ∙ ap unit_value c.in-Committed.is

pub returns-in_default-by-clause-looked : goal.returns-in_default-by-clause-looked
returns-in_default-by-clause-looked c = looked_few _ 0 1 _ _ (omega arith) (looked_none _ _ c.requires.steady.steady)

pub returns-then-not-is_unit-clause-looked : goal.returns-then-not-is_unit-clause-looked
returns-then-not-is_unit-clause-looked c = looked_few _ 0 1 _ _ (omega arith) (looked_none _ _ c.requires.steady.steady)

pub returns-then-not-is_unit-clause-told : goal.returns-then-not-is_unit-clause-told
returns-then-not-is_unit-clause-told c = let a = c.in-Filled in let legal = c.requires.steady.steady.shows.legal in (
  none_outside (table_limits c.args.self.now.words) (view_of c.args.seat.now) c.args.row a.stage a.root c.in-Some.unit a.by c.args.head a.is c.in-Some.is c.requires.told legal (c.is_unit.ensures.no c.if-not-is_unit.true),
  λ some full. c.requires.told.ahead a.stage a.root c.in-Some.unit (a.is ∙ ap (λ b. Filled a.stage a.root b) c.in-Some.is)
      (unended_outside (table_limits c.args.self.now.words) (seen_by c.args.seat.now) c.in-Some.unit legal (c.is_unit.ensures.no c.if-not-is_unit.true)),
)

pub returns-in-Undecided-clause-looked : goal.returns-in-Undecided-clause-looked
returns-in-Undecided-clause-looked c = looked _ 1 _ _ (one (goal.at.returns-in-Undecided-clause-looked c).After-load_unit)

pub returns-in-Undecided-clause-told : goal.returns-in-Undecided-clause-told
returns-in-Undecided-clause-told c = let a = c.in-Filled in let o = (goal.at.returns-in-Undecided-clause-told c).After-load_unit in let w = view_of c.load_unit.new.seat in
    let none : end_of w.seen c.in-Some.unit ≡ None = sym c.load_unit.ensures.end ∙ ap unit_value c.in-Undecided.is in (
      none_unit (table_limits c.args.self.now.words) w.seen c.args.row a.stage a.root c.in-Some.unit a.by c.args.head a.is c.in-Some.is (now o) (one o).walk.steady.shows.legal (λ f m e low high. absurd cc),
      λ some full. subst (λ l. MayBeBorn l w.seen c.args.row) (c.requires.steady.steady.pass.1 ∙ sym (one o).walk.steady.pass.1)
          (c.load_unit.ensures.grew.ahead c.args.row a.stage a.root c.in-Some.unit (still_known o) none),
    )

pub returns-in-Aborted-clause-looked : goal.returns-in-Aborted-clause-looked
returns-in-Aborted-clause-looked c = looked _ 1 _ _ (one (goal.at.returns-in-Aborted-clause-looked c).After-load_unit)

pub returns-in-Aborted-clause-told : goal.returns-in-Aborted-clause-told
returns-in-Aborted-clause-told c = let a = c.in-Filled in let o = (goal.at.returns-in-Aborted-clause-told c).After-load_unit in (
  none_unit (table_limits c.args.self.now.words) (seen_by c.load_unit.new.seat) c.args.row a.stage a.root c.in-Some.unit a.by c.args.head a.is c.in-Some.is (now o) (one o).walk.steady.shows.legal
      (λ f m e low high. let lost = sym c.load_unit.ensures.end ∙ ap unit_value c.in-Aborted.is in absurd cc),
  (
    a.stage,
    a.root,
    c.in-Some.unit,
    still_known o,
    sym c.load_unit.ensures.end ∙ ap unit_value c.in-Aborted.is,
  ),
)

pub returns-in-Committed-clause-looked : goal.returns-in-Committed-clause-looked
returns-in-Committed-clause-looked c = looked _ 1 _ _ (one (goal.at.returns-in-Committed-clause-looked c).After-load_unit)

pub returns-in-Committed-clause-told : goal.returns-in-Committed-clause-told
returns-in-Committed-clause-told c = let o = (goal.at.returns-in-Committed-clause-told c).After-load_unit in let a = c.in-Filled in let end_is = ended (goal.at.returns-in-Committed-clause-told c).In-Committed in
    let place = c.load_unit.ensures.grew.output c.args.row a.stage a.root c.in-Some.unit c.in-Committed.first c.in-Committed.count (still_known o) end_is in (
      there_unit (table_limits c.args.self.now.words) (seen_by c.load_unit.new.seat) c.args.row c.in-Some.unit c.in-Committed.first c.in-Committed.count a.stage a.root a.by c.args.head (one o).walk.steady.shows.legal end_is place.0 place.1 a.is (now o),
      a.is,
    )
