use Rattle.std.proofs.Common.{◌+◌, ◌≤◌, ℕ, Option, List, refl, sym, subst, arith, rules}
use Rattle.tp_model.specs.declared.types.Limits.{Limits}
use Rattle.tp_model.specs.Steps.{max_rows, rows_of}
use Rattle.tp_rule.specs.Tables.{table_limits}
use Rattle.tp_rule.specs.Views.{seen_by, view_of}
use Rattle.tp_manager.specs.Bounds.{stride_steps, walk_steps}
use Rattle.tp_manager.specs.Families.{Following, Followed}
use Rattle.tp_manager.specs.Aheads.{IsAhead, IsSorted}
use Rattle.tp_manager.specs.declared.ahead.Ahead.{Ahead}
use Rattle.tp_manager.proofs.Families.Cancels.{few_rows}
use Rattle.tp_manager.proofs.Families.ReplyWalks.{outputs_inside}
use Rattle.tp_manager.proofs.Families.Onward.{following_begins, following_ends, following_most, following_nothing, following_outputs, following_reply, following_there}
use Rattle.tp_manager.proofs.Calls.CallSteps.{looked_begins, looked_few, looked_none, looked_then}
use Rattle.tp_manager.proofs.manager.Shared.first_of_family.Goals as goal
use Rattle.tp_manager.proofs.manager.Shared.first_of_family.Goals.{In-Some, in-Outputs, in-Reply, in-Nothing}

pub loop-past-init : goal.loop-past-init
loop-past-init c = let l : Limits = table_limits c.args.self.now.words in let v = view_of c.args.seat.now in record {
  sorted = c.of-ahead.ensures.sorted c.args.rows.now c.requires.none;
  same = search rules;
  looked = looked_none l v c.requires.steady.steady;
  following = subst (λ (o : Option ℕ). Following l c.args.root c.args.from 0 (IsAhead c.of-ahead.result c.args.rows.now) o v.seen v) (sym c.none-least.ensures)
      (following_begins l c.args.root c.args.from (IsAhead c.of-ahead.result c.args.rows.now) v c.requires.steady.steady.shows.legal c.requires.request.1 ((c.of-ahead.ensures.has c.args.rows.now c.requires.none c.args.root).1 refl)
      (λ i has. (c.of-ahead.ensures.has c.args.rows.now c.requires.none i).0 has));
}

pub returns-in_default-clause-told : goal.returns-in_default-clause-told
returns-in_default-clause-told c = let l : Limits = table_limits c.args.self.now.words in
    subst (λ (o : Option ℕ). Followed l c.args.root c.args.from o (view_of c.args.seat.now) (view_of c.loop-past.seat)) (sym c.id.ensures)
    (following_ends l c.args.root c.args.from c.loop-past._past (IsAhead c.loop-past.ahead c.loop-past.rows) c.loop-past.least (view_of c.args.seat.now) (view_of c.loop-past.seat) c.requires.steady.steady.shows.legal c.in_default.ensures.least.0 c.loop-past.invariant.looked c.loop-past.invariant.following)

pub look_on-requires-clause-row : goal.look_on-requires-clause-row
look_on-requires-clause-row c = let l : Limits = table_limits c.args.self.now.words in
    following_there l c.args.root c.args.from c.loop-past._past c.in-Some.row (IsAhead c.loop-past.ahead c.loop-past.rows) c.loop-past.least (seen_by c.args.seat.now) (view_of c.loop-past.seat) c.loop-past.invariant.looked.walk.steady.shows.legal c.loop-past.invariant.following c.in-Some.ensures.least.0.0

pub add-requires : goal.add-requires
add-requires c = let l : Limits = table_limits c.args.self.now.words in
    let t = following_there l c.args.root c.args.from c.loop-past._past c.in-Some.row (IsAhead c.loop-past.ahead c.loop-past.rows) c.loop-past.least (seen_by c.args.seat.now) (view_of c.loop-past.seat) c.loop-past.invariant.looked.walk.steady.shows.legal c.loop-past.invariant.following c.in-Some.ensures.least.0.0 in
    let inside = t.0 in let few : rows_of l ≤ max_rows = few_rows l c.args.self.now.words.places.valid in
    omega arith

pub insert_rows-requires-clause-inside : goal.insert_rows-requires-clause-inside
insert_rows-requires-clause-inside c = λ i low high. let l : Limits = table_limits c.args.self.now.words in let t = c.in-Outputs.ensures.told in
    let inside = outputs_inside l (seen_by c.look_on.new.seat) t.0 c.in-Outputs.first c.in-Outputs.count i c.look_on.ensures.looked.walk.steady.shows.legal t.5 low high in
    let few : rows_of l ≤ max_rows = few_rows l c.args.self.now.words.places.valid in
    omega arith

pub loop-past-preserved : goal.loop-past-preserved
loop-past-preserved c =
    let l : Limits = table_limits c.args.self.now.words in let v = view_of c.args.seat.now in let w = view_of c.loop-past.seat in let y = view_of c.look_on.new.seat in
    let p = c.loop-past._past in let root = c.args.root in let from = c.args.from in let row = c.in-Some.row in
    let s = c.loop-past.invariant.following in let looked = c.loop-past.invariant.looked in
    let Left = IsAhead c.loop-past.ahead c.loop-past.rows in let Less = IsAhead c.take_least.new.self c.take_least.new.rows in let taken = c.in-Some.ensures.least in
    let early = looked.walk.steady.shows.legal in let legal = c.look_on.ensures.looked.walk.steady.shows.legal in
    let fewer = c.add.ensures.fewer in let not = c.add.ensures.row in let one = c.add.ensures.one in
    let before = looked_begins l (walk_steps p) v w looked in let after = looked_begins l stride_steps w y c.look_on.ensures.looked in record {
      sorted = elim c.match-look_on.branch [
        | in-Outputs b ↦
            subst (λ (rs : List ℕ). IsSorted c.match-look_on.ahead rs) (sym b.rows-is)
            (subst (λ (a : Ahead). IsSorted a b.insert_rows.new.rows) (sym b.ahead-is) b.insert_rows.ensures.sorted)
        | in-Reply b ↦
            subst (λ (rs : List ℕ). IsSorted c.match-look_on.ahead rs) (sym b.rows-is)
            (subst (λ (a : Ahead). IsSorted a c.take_least.new.rows) (sym b.ahead-is) c.in-Some.ensures.sorted)
        | in-Nothing b ↦
            subst (λ (rs : List ℕ). IsSorted c.match-look_on.ahead rs) (sym b.rows-is)
            (subst (λ (a : Ahead). IsSorted a c.take_least.new.rows) (sym b.ahead-is) c.in-Some.ensures.sorted)
      ];
      same = search rules;
      looked = looked_few l (walk_steps p + stride_steps) (walk_steps (p + 1)) v y (omega arith) (looked_then l (walk_steps p) stride_steps v w y looked c.look_on.ensures.looked);
      following = elim c.match-look_on.branch [
        | in-Outputs b ↦
            subst (λ (rs : List ℕ). Following l root from (p + 1) (IsAhead c.match-look_on.ahead rs) c.add.new.self v.seen y) (sym b.rows-is)
            (subst (λ (a : Ahead). Following l root from (p + 1) (IsAhead a b.insert_rows.new.rows) c.add.new.self v.seen y) (sym b.ahead-is)
            (following_outputs l root from p row Left Less c.loop-past.least c.add.new.self v.seen w y early legal before after taken.0.0 taken.1 fewer not one s
            b.in-Outputs.first b.in-Outputs.count (IsAhead b.insert_rows.new.self b.insert_rows.new.rows) b.insert_rows.ensures.has b.in-Outputs.ensures.told))
        | in-Reply b ↦
            subst (λ (rs : List ℕ). Following l root from (p + 1) (IsAhead c.match-look_on.ahead rs) c.add.new.self v.seen y) (sym b.rows-is)
            (subst (λ (a : Ahead). Following l root from (p + 1) (IsAhead a c.take_least.new.rows) c.add.new.self v.seen y) (sym b.ahead-is)
            (following_reply l root from p row Left Less c.loop-past.least c.add.new.self v.seen w y early legal before after taken.0.0 taken.1 fewer not one s b.in-Reply.ensures.told))
        | in-Nothing b ↦
            subst (λ (rs : List ℕ). Following l root from (p + 1) (IsAhead c.match-look_on.ahead rs) c.add.new.self v.seen y) (sym b.rows-is)
            (subst (λ (a : Ahead). Following l root from (p + 1) (IsAhead a c.take_least.new.rows) c.add.new.self v.seen y) (sym b.ahead-is)
            (following_nothing l root from p row Left Less c.loop-past.least c.add.new.self v.seen w y early legal before after taken.0.0 taken.1 fewer not one s b.in-Nothing.ensures.told))
      ];
    }

pub unreachable-requires : goal.unreachable-requires
unreachable-requires c =
    let l : Limits = table_limits c.args.self.now.words in
    let all = c.loop-past-test.false in let rows : rows_of l ≤ max_rows = few_rows l c.args.self.now.words.places.valid in
    let few = following_most l c.args.root c.args.from c.loop-past._past (IsAhead c.loop-past.ahead c.loop-past.rows) c.loop-past.least (seen_by c.args.seat.now) (view_of c.loop-past.seat) c.loop-past.invariant.following in
    omega arith
