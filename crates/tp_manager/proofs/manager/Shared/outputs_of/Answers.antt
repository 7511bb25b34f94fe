use Rattle.std.proofs.Common.{◌≡◌, ℕ, Some, sym, ◌∙◌, ap, refl}
use Rattle.tp_model.specs.declared.trace.StepKind.TheVariants as kinds
use Rattle.tp_model.specs.declared.types.Limits.{Limits}
use Rattle.tp_model.specs.History.{Committed, end_of}
use Rattle.tp_model.proofs.Bridges.{end_stays, taking_later}
use Rattle.tp_model.proofs.Descents.{consumed_later}
use Rattle.tp_model.proofs.Later.{claim_taken, unit_inside}
use Rattle.tp_rule.specs.Words.{unit_value}
use Rattle.tp_rule.specs.Tables.{table_limits}
use Rattle.tp_rule.specs.Views.{seen_by, view_of}
use Rattle.tp_manager.specs.CallSteps.{Looked}
use Rattle.tp_manager.proofs.Families.CancelWalks.{consumed_taken}
use Rattle.tp_manager.proofs.Calls.CallSteps.{acted_by, looked, looked_begins}
use Rattle.tp_manager.proofs.manager.Shared.outputs_of.Goals as goal
use Rattle.tp_manager.proofs.manager.Shared.outputs_of.Goals.{After-load_unit}

one : (c : After-load_unit) → Looked (table_limits c.args.self.now.words) 1 (view_of c.args.seat.now) (view_of c.load_unit.new.seat)
one c = looked _ 1 _ _ (acted_by _ kinds.Load _ _ c.requires.steady.steady refl c.load_unit.ensures.grew)

-- the unit had been committed, and is so
ended : (c : After-load_unit) → (f : ℕ) × (m : ℕ) × (end_of (seen_by c.load_unit.new.seat) c.args.unit ≡ Some (Committed f m))
ended c = let t = consumed_taken (table_limits c.args.self.now.words) c.args.row (seen_by c.args.seat.now) c.args.unit c.requires.steady.steady.shows.legal c.requires.consumed in
    (t.3, t.4, end_stays _ _ c.args.unit (Committed t.3 t.4) (looked_begins _ 1 _ _ (one c)) t.5)

pub load_unit-requires-clause-unit : goal.load_unit-requires-clause-unit
load_unit-requires-clause-unit c = let l : Limits = table_limits c.args.self.now.words in let h = seen_by c.args.seat.now in
    let t = consumed_taken l c.args.row h c.args.unit c.requires.steady.steady.shows.legal c.requires.consumed in
    unit_inside l h c.args.row t.0 c.args.unit c.requires.steady.steady.shows.legal t.2

pub returns-clause-looked : goal.returns-clause-looked
returns-clause-looked c = one (goal.at.returns-clause-looked c).After-load_unit

pub returns-clause-told : goal.returns-clause-told
returns-clause-told c = let l : Limits = table_limits c.args.self.now.words in let h = seen_by c.args.seat.now in let g = seen_by c.load_unit.new.seat in
    let o = one (goal.at.returns-clause-told c).After-load_unit in let begins = looked_begins l 1 _ _ o in
    let t = consumed_taken l c.args.row h c.args.unit c.requires.steady.steady.shows.legal c.requires.consumed in
    let k = claim_taken l h c.args.row t.0 c.args.unit c.requires.steady.steady.shows.legal t.2 in (
      c.args.unit,
      k.0,
      taking_later h g begins c.args.unit k.0 k.1,
      k.2,
      consumed_later l h g c.args.row c.args.unit o.walk.steady.shows.legal begins c.requires.consumed,
      sym c.load_unit.ensures.end ∙ ap unit_value c.in-Committed.is,
    )

pub unreachable-requires : goal.unreachable-requires
unreachable-requires c = let t = ended (goal.at.unreachable-requires c).After-load_unit in let q = sym t.2 ∙ (sym c.load_unit.ensures.end ∙ ap unit_value c.in-Undecided.is) in absurd cc

pub unreachable-requires-in-Aborted : goal.unreachable-requires-in-Aborted
unreachable-requires-in-Aborted c = let t = ended (goal.at.unreachable-requires-in-Aborted c).After-load_unit in let q = sym t.2 ∙ (sym c.load_unit.ensures.end ∙ ap unit_value c.in-Aborted.is) in absurd cc
