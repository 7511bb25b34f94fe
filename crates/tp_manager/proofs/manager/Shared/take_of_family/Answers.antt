use Rattle.std.proofs.Common.{◌≡◌, ◌<◌, ◌≤◌, Some, sym, ◌∙◌, ap, arith, rules}
use Rattle.tp_model.specs.declared.types.Element.{Element}
use Rattle.tp_model.specs.declared.types.Limits.{Limits}
use Rattle.tp_model.specs.History.{element_of}
use Rattle.tp_model.specs.Steps.{max_rows, rows_of}
use Rattle.tp_model.proofs.Bridges.{element_of-id, found_later, is_born}
use Rattle.tp_model.proofs.Later.{births_inside}
use Rattle.tp_rule.specs.Tables.{table_limits}
use Rattle.tp_rule.specs.Views.{seen_by, view_of}
use Rattle.tp_manager.specs.Lists.{IsReply}
use Rattle.tp_manager.proofs.Families.Cancels.{few_rows}
use Rattle.tp_manager.proofs.Families.Taken.{found_there, slain_on, taken_none, taken_some, taking_most, taking_on}
use Rattle.tp_manager.proofs.Calls.CallSteps.{looked_begins}
use Rattle.tp_manager.proofs.manager.Shared.take_of_family.Goals as goal
use Rattle.tp_manager.proofs.manager.Shared.take_of_family.Goals.{In-Some}

-- the reply that was found
reply : (c : In-Some) → (x : Element) × (element_of (seen_by c.list_family.new.seat) c.in-Some.id ≡ Some x) × IsReply c.args.root x
reply c = found_there (table_limits c.args.self.now.words) c.args.root c.in-Some.id (seen_by c.loop-past.seat) (seen_by c.list_family.new.seat) c.in-Some.ensures.told.found.1

inside : (c : In-Some) → c.in-Some.id < rows_of (table_limits c.args.self.now.words)
inside c = let l : Limits = table_limits c.args.self.now.words in let h = seen_by c.list_family.new.seat in let e = reply c in
    let less = births_inside l h c.in-Some.ensures.told.looked.walk.steady.shows.legal e.0 (is_born h c.in-Some.id e.0 e.1) in let own = element_of-id h c.in-Some.id e.0 e.1 in omega arith

pub list_family-requires-clause-request : goal.list_family-requires-clause-request
list_family-requires-clause-request c = let r = c.requires.request.1 in
    (c.requires.request.0, (r.0, found_later _ _ (looked_begins _ _ _ _ c.loop-past.invariant.taking.looked) c.args.root r.0 r.1, r.2))

pub returns-in_default-clause-told : goal.returns-in_default-clause-told
returns-in_default-clause-told c = taken_none (table_limits c.args.self.now.words) c.args.root c.loop-past.from c.loop-past._past (view_of c.args.seat.now) (view_of c.loop-past.seat) (view_of c.list_family.new.seat) c.loop-past.invariant.taking c.in_default.ensures.told

pub take_row-requires-clause-row : goal.take_row-requires-clause-row
take_row-requires-clause-row c = inside (goal.at.take_row-requires-clause-row c).In-Some

pub take_row-requires-clause-reply : goal.take_row-requires-clause-reply
take_row-requires-clause-reply c = let e = reply (goal.at.take_row-requires-clause-reply c).In-Some in (e.0, e.1, e.2.0)

pub returns-in-Some-take_row-clause-told : goal.returns-in-Some-take_row-clause-told
returns-in-Some-take_row-clause-told c = let told = c.in-Some-take_row.ensures.told in
    taken_some (table_limits c.args.self.now.words) c.args.root c.loop-past.from c.loop-past._past (view_of c.args.seat.now) (view_of c.loop-past.seat) (view_of c.list_family.new.seat) c.loop-past.invariant.taking
    c.in-Some.id (view_of c.take_row.new.seat) c.in-Some.ensures.told c.in-Some-take_row.taken told.0 told.1 (slain_on (table_limits c.args.self.now.words) _ _ _ _ _ told.0)

pub overflow_add-from : goal.overflow_add-from
overflow_add-from c = let l : Limits = table_limits c.args.self.now.words in let less = inside (goal.at.overflow_add-from c).In-Some in let few : rows_of l ≤ max_rows = few_rows l c.args.self.now.words.places.valid in record { fits = omega arith }

pub loop-past-preserved : goal.loop-past-preserved
loop-past-preserved c = let told = c.in_default-take_row.ensures.told in record {
  same = search rules;
  none = c.in-Some.ensures.none;
  taking = taking_on (table_limits c.args.self.now.words) c.args.root c.loop-past.from c.loop-past._past (view_of c.args.seat.now) (view_of c.loop-past.seat) (view_of c.list_family.new.seat) c.loop-past.invariant.taking
      c.in-Some.id (view_of c.take_row.new.seat) c.in-Some.ensures.told told.0 told.1;
}

pub unreachable-requires : goal.unreachable-requires
unreachable-requires c =
    let l : Limits = table_limits c.args.self.now.words in
    let over = c.loop-past-test.false in let rows : c.rows-past-end.result ≡ rows_of l = c.rows-past-end.ensures ∙ ap rows_of (sym c.args.self.now.same) in
    let few = taking_most l c.args.root c.loop-past.from c.loop-past._past (view_of c.args.seat.now) (view_of c.loop-past.seat) c.loop-past.invariant.taking in
    omega arith
