use Rattle.std.proofs.Common.{sym, ◌∙◌, refl}
use Rattle.tp_model.specs.declared.trace.StepKind.TheVariants as kinds
use Rattle.tp_model.specs.declared.types.Limits.{Limits}
use Rattle.tp_model.proofs.Bridges.{begins_refl, found_later}
use Rattle.tp_rule.specs.Tables.{table_limits}
use Rattle.tp_rule.specs.Views.{seen_by, view_of}
use Rattle.tp_manager.specs.CallSteps.{Looked}
use Rattle.tp_manager.proofs.Families.ReplyWalks.{found_other, found_reply}
use Rattle.tp_manager.proofs.Calls.CallSteps.{acted_by, looked, looked_begins}
use Rattle.tp_manager.proofs.manager.Shared.look_untaken.Goals as goal
use Rattle.tp_manager.proofs.manager.Shared.look_untaken.Goals.{After-load_stage-stage}

one : (c : After-load_stage-stage) → Looked (table_limits c.args.self.now.words) 1 (view_of c.args.seat.now) (view_of c.load_stage-stage.new.seat)
one c = looked _ 1 _ _ (acted_by _ kinds.Load _ _ c.requires.steady.steady refl c.load_stage-stage.ensures.grew)

pub returns-then-stage-eq-REPLY_STAGE-clause-looked : goal.returns-then-stage-eq-REPLY_STAGE-clause-looked
returns-then-stage-eq-REPLY_STAGE-clause-looked c = one (goal.at.returns-then-stage-eq-REPLY_STAGE-clause-looked c).After-load_stage-stage

pub returns-else-stage-eq-REPLY_STAGE-clause-looked : goal.returns-else-stage-eq-REPLY_STAGE-clause-looked
returns-else-stage-eq-REPLY_STAGE-clause-looked c = one (goal.at.returns-else-stage-eq-REPLY_STAGE-clause-looked c).After-load_stage-stage

pub returns-then-stage-eq-REPLY_STAGE-clause-told : goal.returns-then-stage-eq-REPLY_STAGE-clause-told
returns-then-stage-eq-REPLY_STAGE-clause-told c =
    let l : Limits = table_limits c.args.self.now.words in let a = seen_by c.args.seat.now in let b = seen_by c.load_stage-stage.new.seat in
    let after = looked_begins l 1 _ _ (one (goal.at.returns-then-stage-eq-REPLY_STAGE-clause-told c).After-load_stage-stage) in
    let t = c.requires.row.1 in let born = found_later a b after c.args.row t.0 t.1 in
    found_reply l c.args.row a a b (begins_refl a) after c.requires.waits t.0 born (sym (c.load_stage-stage.ensures.born t.0 born) ∙ c.if-stage-eq-REPLY_STAGE.true)

pub returns-else-stage-eq-REPLY_STAGE-clause-told : goal.returns-else-stage-eq-REPLY_STAGE-clause-told
returns-else-stage-eq-REPLY_STAGE-clause-told c =
    let l : Limits = table_limits c.args.self.now.words in let a = seen_by c.args.seat.now in let b = seen_by c.load_stage-stage.new.seat in
    let after = looked_begins l 1 _ _ (one (goal.at.returns-else-stage-eq-REPLY_STAGE-clause-told c).After-load_stage-stage) in
    found_other l c.args.row a a b c.requires.steady.steady.shows.legal (begins_refl a) after c.requires.waits (λ x born is. c.if-stage-eq-REPLY_STAGE.false (c.load_stage-stage.ensures.born x born ∙ is))
