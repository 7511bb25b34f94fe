use Rattle.std.proofs.Common.{◌≡◌, ◌+◌, ◌<◌, ◌∙◌, sym, ap, arith, subst, List}
use Rattle.tp_model.specs.declared.types.Limits.{Limits}
use Rattle.tp_model.specs.declared.event.Event.{Event}
use Rattle.tp_rule.specs.Tables.{table_limits}
use Rattle.tp_rule.specs.Views.{seen_by, view_of}
use Rattle.tp_manager.specs.Bounds.{birth_steps, look_steps}
use Rattle.tp_manager.specs.Together.{account_below, with_one}
use Rattle.tp_manager.specs.CallSteps.{Acted}
use Rattle.tp_manager.proofs.Calls.CallSteps.{acted_then, looked, looked_begins, looked_few}
use Rattle.tp_manager.proofs.Rows.Looks.{there_later, unborn_before}
use Rattle.tp_manager.proofs.Accounts.RowCounts.{none_counted, none_more, one_counted, stage_there, within_more}
use Rattle.tp_rule.proofs.Parts.{fair_rows}
use Rattle.tp_model.specs.Steps.{max_rows}
use Rattle.tp_manager.proofs.manager.Shared.count_row.Goals as goal
use Rattle.tp_manager.proofs.manager.Shared.count_row.Goals.{After-head_on-head, After-birth_from}

two : (c : After-birth_from) → Acted (table_limits c.args.self.now.words) birth_steps (view_of c.args.seat.now) (view_of c.birth_from.new.seat)
two c = acted_then _ 1 1 _ _ _ c.head_on-head.ensures.acted c.birth_from.ensures.looked

-- the rows that are passed over add nothing
skips : (c : After-head_on-head) → let l : Limits = table_limits c.args.self.now.words in account_below l (seen_by c.args.seat.now) (c.args.row.now + 1) ≡ account_below l (seen_by c.args.seat.now) c.head_on-head.new.row
skips c = let on = c.head_on-head.ensures.on in let first : c.args.row.now < c.head_on-head.new.row = on.on in
    none_more (table_limits c.args.self.now.words) (seen_by c.args.seat.now) (c.args.row.now + 1) c.head_on-head.new.row (omega arith)
    (λ i low high. unborn_before _ _ i (looked_begins _ 1 _ _ (looked _ 1 _ _ c.head_on-head.ensures.acted)) (c.head_on-head.ensures.none i (omega arith) high))

pub returns-in_default-clause-looked : goal.returns-in_default-clause-looked
returns-in_default-clause-looked c = let l : Limits = table_limits c.args.self.now.words in
    looked_few l birth_steps (look_steps l) _ _ (omega arith) (looked l birth_steps _ _ (two (goal.at.returns-in_default-clause-looked c).After-birth_from))

pub returns-in_default-clause-counted : goal.returns-in_default-clause-counted
returns-in_default-clause-counted c = λ before same. let l : Limits = table_limits c.args.self.now.words in
    before ∙ (subst (λ (h : List Event). account_below l h c.args.row.now ≡ account_below l h (c.args.row.now + 1)) same (none_counted l (seen_by c.birth_from.new.seat) c.args.row.now c.in_default.ensures.told)
    ∙ skips (goal.at.returns-in_default-clause-counted c).After-head_on-head)

pub count_one-requires-clause-stage : goal.count_one-requires-clause-stage
count_one-requires-clause-stage c = stage_there (table_limits c.args.self.now.words) (seen_by c.birth_from.new.seat) c.args.row.now c.in-Some.birth c.birth_from.ensures.looked.walk.steady.shows.legal c.in-Some.ensures.told.0

pub count_one-requires-clause-few : goal.count_one-requires-clause-few
count_one-requires-clause-few c = let few = fair_rows (table_limits c.args.self.now.words) c.args.self.now.words.places.valid in let row = c.requires.row in
    within_more c.args.row.now max_rows c.args.account.now (omega arith) c.requires.few

pub returns-clause-few : goal.returns-clause-few
returns-clause-few c = let on = c.head_on-head.ensures.on.on in
    within_more (c.args.row.now + 1) c.head_on-head.new.row c.count_one.new.account (omega arith) (c.count_one.ensures.within c.args.row.now c.requires.few)

pub returns-clause-looked : goal.returns-clause-looked
returns-clause-looked c = let l : Limits = table_limits c.args.self.now.words in
    looked l (look_steps l) _ _ (acted_then l birth_steps _ _ _ _ (two (goal.at.returns-clause-looked c).After-birth_from) (looked l _ _ _ c.status_at-status.ensures.acted))

pub returns-clause-counted : goal.returns-clause-counted
returns-clause-counted c = λ before same. let l : Limits = table_limits c.args.self.now.words in let h = seen_by c.status_at-status.new.seat in
    c.count_one.ensures.counted ∙ (subst (λ (z : List Event). with_one c.in-Some.birth.stage c.status_at-status.result c.args.account.now ≡ account_below l z (c.args.row.now + 1)) same
    (one_counted l h c.args.row.now c.in-Some.birth c.status_at-status.result c.args.account.now c.status_at-status.ensures.acted.walk.steady.shows.legal
    (there_later _ _ c.args.row.now c.in-Some.birth (looked_begins l _ _ _ (looked l _ _ _ c.status_at-status.ensures.acted)) c.in-Some.ensures.told.0) c.status_at-status.ensures.status
    (before ∙ ap (λ (z : List Event). account_below l z c.args.row.now) (sym same)))
    ∙ skips (goal.at.returns-clause-counted c).After-head_on-head)
