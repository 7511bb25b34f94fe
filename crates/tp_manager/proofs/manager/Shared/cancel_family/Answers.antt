use Rattle.std.proofs.Common.{◌≡◌, ◌+◌, ◌<◌, ◌≤◌, ℕ, List, refl, sym, ◌∙◌, subst, arith, rules}
use Rattle.tp_model.specs.declared.types.Limits.{Limits}
use Rattle.tp_model.specs.Families.{IsOfFamily}
use Rattle.tp_model.specs.Steps.{max_rows, rows_of}
use Rattle.tp_rule.specs.Tables.{table_limits}
use Rattle.tp_rule.specs.Views.{seen_by, view_of}
use Rattle.tp_manager.specs.Endings.{Cancelling}
use Rattle.tp_manager.specs.Aheads.{IsAhead, IsSorted}
use Rattle.tp_manager.specs.declared.ahead.Ahead.{Ahead}
use Rattle.tp_manager.proofs.Families.Cancels.{few_rows}
use Rattle.tp_manager.proofs.Families.CancelWalks.{cancelling_begins, cancelling_ends, cancelling_most, cancelling_outputs, cancelling_there, cancelling_unworked}
use Rattle.tp_manager.proofs.Families.ReplyWalks.{outputs_inside}
use Rattle.tp_manager.proofs.manager.Shared.cancel_family.Goals as goal
use Rattle.tp_manager.proofs.manager.Shared.cancel_family.Goals.{In-Some, in-Outputs, in-Killed, in-Before}

-- the element that was taken is of the family
of : (c : In-Some) → (c.in-Some.row < rows_of (table_limits c.args.self.now.words)) × IsOfFamily (seen_by c.loop-past.seat) c.args.root c.in-Some.row
of c = let l : Limits = table_limits c.args.self.now.words in
    cancelling_there l c.args.root c.loop-past._past c.loop-past.killed c.in-Some.row (IsAhead c.loop-past.ahead c.loop-past.rows) (view_of c.args.seat.now) (view_of c.loop-past.seat) c.loop-past.invariant.cancelling c.in-Some.ensures.least.0.0

pub loop-past-init : goal.loop-past-init
loop-past-init c = let l : Limits = table_limits c.args.self.now.words in let v = view_of c.args.seat.now in record {
  sorted = c.of-ahead.ensures.sorted c.args.rows.now c.requires.none;
  same = search rules;
  cancelling = cancelling_begins l c.args.root (IsAhead c.of-ahead.result c.args.rows.now) v c.requires.steady.steady c.requires.request.1 ((c.of-ahead.ensures.has c.args.rows.now c.requires.none c.args.root).1 refl)
      (λ i has. (c.of-ahead.ensures.has c.args.rows.now c.requires.none i).0 has);
}

pub returns-in_default-clause-told : goal.returns-in_default-clause-told
returns-in_default-clause-told c = let l : Limits = table_limits c.args.self.now.words in
    cancelling_ends l c.args.root c.loop-past._past c.loop-past.killed (IsAhead c.loop-past.ahead c.loop-past.rows) (view_of c.args.seat.now) (view_of c.loop-past.seat) c.in_default.ensures.least.0 c.loop-past.invariant.cancelling

pub end_row-requires-clause-row : goal.end_row-requires-clause-row
end_row-requires-clause-row c = let t = of (goal.at.end_row-requires-clause-row c).In-Some in (t.0, (t.1.0, t.1.1))

pub insert_rows-requires-clause-inside : goal.insert_rows-requires-clause-inside
insert_rows-requires-clause-inside c = λ i low high. let l : Limits = table_limits c.args.self.now.words in let f = of (goal.at.insert_rows-requires-clause-inside c).In-Some in
    let e = c.in-Outputs.ensures.told c.args.root f.1 in let t = e.is in
    let inside = outputs_inside l (seen_by c.end_row.new.seat) t.0 c.in-Outputs.first c.in-Outputs.count i e.swept.gained.walk.steady.shows.legal t.5 low high in
    let few : rows_of l ≤ max_rows = few_rows l c.args.self.now.words.places.valid in
    omega arith

pub loop-past-preserved : goal.loop-past-preserved
loop-past-preserved c =
    let l : Limits = table_limits c.args.self.now.words in let v = view_of c.args.seat.now in let w = view_of c.loop-past.seat in let y = view_of c.end_row.new.seat in
    let p = c.loop-past._past in let root = c.args.root in let row = c.in-Some.row in let k = c.loop-past.killed in
    let s = c.loop-past.invariant.cancelling in let f = (of (goal.at.loop-past-preserved c).In-Some).1 in
    let Left = IsAhead c.loop-past.ahead c.loop-past.rows in let Less = IsAhead c.take_least.new.self c.take_least.new.rows in let taken = c.in-Some.ensures.least in record {
      sorted = elim c.match-end_row.branch [
        | in-Outputs b ↦
            subst (λ (rs : List ℕ). IsSorted c.match-end_row.ahead rs) (sym b.rows-is)
            (subst (λ (a : Ahead). IsSorted a b.insert_rows.new.rows) (sym b.ahead-is) b.insert_rows.ensures.sorted)
        | in-Killed b ↦
            subst (λ (rs : List ℕ). IsSorted c.match-end_row.ahead rs) (sym b.rows-is)
            (subst (λ (a : Ahead). IsSorted a c.take_least.new.rows) (sym b.ahead-is) c.in-Some.ensures.sorted)
        | in-Before b ↦
            subst (λ (rs : List ℕ). IsSorted c.match-end_row.ahead rs) (sym b.rows-is)
            (subst (λ (a : Ahead). IsSorted a c.take_least.new.rows) (sym b.ahead-is) c.in-Some.ensures.sorted)
      ];
      same = search rules;
      cancelling = elim c.match-end_row.branch [
        | in-Outputs b ↦
            subst (λ (rs : List ℕ). Cancelling l root (p + 1) c.match-end_row.killed (IsAhead c.match-end_row.ahead rs) v y) (sym b.rows-is)
            (subst (λ (a : Ahead). Cancelling l root (p + 1) c.match-end_row.killed (IsAhead a b.insert_rows.new.rows) v y) (sym b.ahead-is)
            (subst (λ (z : ℕ). Cancelling l root (p + 1) z (IsAhead b.insert_rows.new.self b.insert_rows.new.rows) v y) (let same : k + 0 ≡ k = omega arith in same ∙ sym b.killed-is)
            (cancelling_outputs l root p k row b.in-Outputs.first b.in-Outputs.count Left Less (IsAhead b.insert_rows.new.self b.insert_rows.new.rows) v w y taken.0.0 taken.0.1 taken.1 b.insert_rows.ensures.has s f (b.in-Outputs.ensures.told root f))))
        | in-Killed b ↦
            subst (λ (rs : List ℕ). Cancelling l root (p + 1) c.match-end_row.killed (IsAhead c.match-end_row.ahead rs) v y) (sym b.rows-is)
            (subst (λ (a : Ahead). Cancelling l root (p + 1) c.match-end_row.killed (IsAhead a c.take_least.new.rows) v y) (sym b.ahead-is)
            (subst (λ (z : ℕ). Cancelling l root (p + 1) z Less v y) (sym b.killed-is)
            (cancelling_unworked l root p k row Left Less _ v w y taken.0.0 taken.0.1 taken.1 s f (b.in-Killed.ensures.told root f) (b.in-Killed.ensures.told root f).is)))
        | in-Before b ↦
            subst (λ (rs : List ℕ). Cancelling l root (p + 1) c.match-end_row.killed (IsAhead c.match-end_row.ahead rs) v y) (sym b.rows-is)
            (subst (λ (a : Ahead). Cancelling l root (p + 1) c.match-end_row.killed (IsAhead a c.take_least.new.rows) v y) (sym b.ahead-is)
            (subst (λ (z : ℕ). Cancelling l root (p + 1) z Less v y) (let same : k + 0 ≡ k = omega arith in same ∙ sym b.killed-is)
            (cancelling_unworked l root p k row Left Less _ v w y taken.0.0 taken.0.1 taken.1 s f (b.in-Before.ensures.told root f) (b.in-Before.ensures.told root f).is)))
      ];
    }

pub unreachable-requires : goal.unreachable-requires
unreachable-requires c =
    let l : Limits = table_limits c.args.self.now.words in
    let over = c.loop-past-test.false in let rows : rows_of l ≤ max_rows = few_rows l c.args.self.now.words.places.valid in
    let few = cancelling_most l c.args.root c.loop-past._past c.loop-past.killed (IsAhead c.loop-past.ahead c.loop-past.rows) (view_of c.args.seat.now) (view_of c.loop-past.seat) c.loop-past.invariant.cancelling in
    omega arith
