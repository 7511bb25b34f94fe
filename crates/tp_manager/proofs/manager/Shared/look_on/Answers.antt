use Rattle.std.proofs.Common.{◌≡◌, Some, sym, ◌∙◌, ap, refl, arith}
use Rattle.tp_model.specs.declared.trace.StepKind.TheVariants as kinds
use Rattle.tp_model.specs.declared.types.Limits.{Limits}
use Rattle.tp_model.specs.History.{Committed, end_of}
use Rattle.tp_model.specs.Words.{TakenWord, claim_word}
use Rattle.tp_model.proofs.Bridges.{begins_refl, found_later, status_again, status_free, status_killed, taking_later}
use Rattle.tp_model.proofs.Later.{claim_taken, unit_inside}
use Rattle.tp_rule.specs.Words.{claim_value, unit_value}
use Rattle.tp_rule.specs.Steps.{HasElement}
use Rattle.tp_rule.specs.Tables.{table_limits}
use Rattle.tp_rule.specs.Views.{seen_by, view_of}
use Rattle.tp_manager.specs.Bounds.{stride_steps}
use Rattle.tp_manager.specs.CallSteps.{Looked}
use Rattle.tp_manager.proofs.Rows.Looks.{consumed_now}
use Rattle.tp_manager.proofs.Families.ReplyWalks.{found_killed, found_sooner, found_taken}
use Rattle.tp_manager.proofs.Calls.CallSteps.{acted_by, looked, looked_begins, looked_few, looked_then}
use Rattle.tp_manager.proofs.manager.Shared.look_on.Goals as goal
use Rattle.tp_manager.proofs.manager.Shared.look_on.Goals.{After-load_claim-claim, In-Taken, After-load_unit}

one : (c : After-load_claim-claim) → Looked (table_limits c.args.self.now.words) 1 (view_of c.args.seat.now) (view_of c.load_claim-claim.new.seat)
one c = looked _ 1 _ _ (acted_by _ kinds.Load _ _ c.requires.steady.steady refl c.load_claim-claim.ensures.grew)

born : (c : After-load_claim-claim) → HasElement (seen_by c.load_claim-claim.new.seat) c.args.row
born c = let t = c.requires.row.1 in (t.0, found_later _ _ (looked_begins _ 1 _ _ (one c)) c.args.row t.0 t.1)

taken : (c : In-Taken) → claim_word (seen_by c.load_claim-claim.new.seat) c.args.row ≡ TakenWord c.in-Taken.attempt c.in-Taken.unit c.in-Taken.round
taken c = sym c.load_claim-claim.ensures.claim ∙ ap claim_value c.in-Taken.is

two : (c : After-load_unit) → Looked (table_limits c.args.self.now.words) 1 (view_of c.args.seat.now) (view_of c.load_claim-claim.new.seat) → Looked (table_limits c.args.self.now.words) 1 (view_of c.load_claim-claim.new.seat) (view_of c.load_unit.new.seat)
two c o = looked _ 1 _ _ (acted_by _ kinds.Load _ _ o.walk.steady refl c.load_unit.ensures.grew)

pub look_untaken-requires-clause-steady : goal.look_untaken-requires-clause-steady
look_untaken-requires-clause-steady c = record { own = c.load_claim-claim.ensures.same ∙ c.requires.steady.own; steady = (one (goal.at.look_untaken-requires-clause-steady c).After-load_claim-claim).walk.steady }

pub look_untaken-requires-clause-row : goal.look_untaken-requires-clause-row
look_untaken-requires-clause-row c = (c.requires.row.0, born (goal.at.look_untaken-requires-clause-row c).After-load_claim-claim)

pub look_untaken-requires-clause-waits : goal.look_untaken-requires-clause-waits
look_untaken-requires-clause-waits c = let o = one (goal.at.look_untaken-requires-clause-waits c).After-load_claim-claim in
    status_free (table_limits c.args.self.now.words) (seen_by c.load_claim-claim.new.seat) c.args.row o.walk.steady.shows.legal (sym c.load_claim-claim.ensures.claim ∙ ap claim_value c.in-Free.is)

pub look_untaken-requires-in-Again-clause-steady :
    goal.look_untaken-requires-in-Again-clause-steady
look_untaken-requires-in-Again-clause-steady c = record { own = c.load_claim-claim.ensures.same ∙ c.requires.steady.own; steady = (one (goal.at.look_untaken-requires-in-Again-clause-steady c).After-load_claim-claim).walk.steady }

pub look_untaken-requires-in-Again-clause-row : goal.look_untaken-requires-in-Again-clause-row
look_untaken-requires-in-Again-clause-row c = (c.requires.row.0, born (goal.at.look_untaken-requires-in-Again-clause-row c).After-load_claim-claim)

pub look_untaken-requires-in-Again-clause-waits : goal.look_untaken-requires-in-Again-clause-waits
look_untaken-requires-in-Again-clause-waits c = let o = one (goal.at.look_untaken-requires-in-Again-clause-waits c).After-load_claim-claim in
    status_again (table_limits c.args.self.now.words) (seen_by c.load_claim-claim.new.seat) c.args.row c.in-Again.round o.walk.steady.shows.legal (sym c.load_claim-claim.ensures.claim ∙ ap claim_value c.in-Again.is)

pub load_unit-requires-clause-unit : goal.load_unit-requires-clause-unit
load_unit-requires-clause-unit c = let l : Limits = table_limits c.args.self.now.words in let at = goal.at.load_unit-requires-clause-unit c in let o = one at.After-load_claim-claim in
    unit_inside l (seen_by c.load_claim-claim.new.seat) c.args.row c.in-Taken.attempt c.in-Taken.unit o.walk.steady.shows.legal (taken at.In-Taken)

pub returns-in-Free-clause-looked : goal.returns-in-Free-clause-looked
returns-in-Free-clause-looked c = looked_then _ 1 1 _ _ _ (one (goal.at.returns-in-Free-clause-looked c).After-load_claim-claim) c.look_untaken.ensures.looked

pub returns-in-Free-clause-told : goal.returns-in-Free-clause-told
returns-in-Free-clause-told c = let l : Limits = table_limits c.args.self.now.words in let o = one (goal.at.returns-in-Free-clause-told c).After-load_claim-claim in
    found_sooner l c.args.row (seen_by c.args.seat.now) (seen_by c.load_claim-claim.new.seat) (seen_by c.look_untaken.new.seat) c.look_untaken.result o.walk.steady.shows.legal (looked_begins l 1 _ _ o) c.look_untaken.ensures.told

pub returns-in-Again-clause-looked : goal.returns-in-Again-clause-looked
returns-in-Again-clause-looked c = looked_then _ 1 1 _ _ _ (one (goal.at.returns-in-Again-clause-looked c).After-load_claim-claim) c.look_untaken-in-Again.ensures.looked

pub returns-in-Again-clause-told : goal.returns-in-Again-clause-told
returns-in-Again-clause-told c = let l : Limits = table_limits c.args.self.now.words in let o = one (goal.at.returns-in-Again-clause-told c).After-load_claim-claim in
    found_sooner l c.args.row (seen_by c.args.seat.now) (seen_by c.load_claim-claim.new.seat) (seen_by c.look_untaken-in-Again.new.seat) c.look_untaken-in-Again.result o.walk.steady.shows.legal (looked_begins l 1 _ _ o) c.look_untaken-in-Again.ensures.told

pub returns-in-Killed-clause-looked : goal.returns-in-Killed-clause-looked
returns-in-Killed-clause-looked c = looked_few _ 1 stride_steps _ _ (omega arith) (one (goal.at.returns-in-Killed-clause-looked c).After-load_claim-claim)

pub returns-in-Killed-clause-told : goal.returns-in-Killed-clause-told
returns-in-Killed-clause-told c = let l : Limits = table_limits c.args.self.now.words in let o = one (goal.at.returns-in-Killed-clause-told c).After-load_claim-claim in let h = seen_by c.load_claim-claim.new.seat in
    found_killed l c.args.row (seen_by c.args.seat.now) h h o.walk.steady.shows.legal (looked_begins l 1 _ _ o) (begins_refl h)
    (status_killed l h c.args.row c.in-Killed.attempt c.in-Killed.unit o.walk.steady.shows.legal (sym c.load_claim-claim.ensures.claim ∙ ap claim_value c.in-Killed.is))

pub returns-in-Undecided-clause-looked : goal.returns-in-Undecided-clause-looked
returns-in-Undecided-clause-looked c = let at = goal.at.returns-in-Undecided-clause-looked c in let o = one at.After-load_claim-claim in looked_then _ 1 1 _ _ _ o (two at.After-load_unit o)

pub returns-in-Undecided-clause-told : goal.returns-in-Undecided-clause-told
returns-in-Undecided-clause-told c = let l : Limits = table_limits c.args.self.now.words in let at = goal.at.returns-in-Undecided-clause-told c in let o = one at.After-load_claim-claim in let t = two at.After-load_unit o in
    found_taken l c.args.row (seen_by c.args.seat.now) (seen_by c.load_claim-claim.new.seat) (seen_by c.load_unit.new.seat) c.in-Taken.attempt c.in-Taken.unit o.walk.steady.shows.legal (looked_begins l 1 _ _ o) (looked_begins l 1 _ _ t) (taken at.In-Taken)
    (λ f m e. let q = sym c.load_unit.ensures.end ∙ ap unit_value c.in-Undecided.is in cc)

pub returns-in-Aborted-clause-looked : goal.returns-in-Aborted-clause-looked
returns-in-Aborted-clause-looked c = let at = goal.at.returns-in-Aborted-clause-looked c in let o = one at.After-load_claim-claim in looked_then _ 1 1 _ _ _ o (two at.After-load_unit o)

pub returns-in-Aborted-clause-told : goal.returns-in-Aborted-clause-told
returns-in-Aborted-clause-told c = let l : Limits = table_limits c.args.self.now.words in let at = goal.at.returns-in-Aborted-clause-told c in let o = one at.After-load_claim-claim in let t = two at.After-load_unit o in
    found_taken l c.args.row (seen_by c.args.seat.now) (seen_by c.load_claim-claim.new.seat) (seen_by c.load_unit.new.seat) c.in-Taken.attempt c.in-Taken.unit o.walk.steady.shows.legal (looked_begins l 1 _ _ o) (looked_begins l 1 _ _ t) (taken at.In-Taken)
    (λ f m e. let q = sym c.load_unit.ensures.end ∙ ap unit_value c.in-Aborted.is in cc)

pub returns-in-Committed-clause-looked : goal.returns-in-Committed-clause-looked
returns-in-Committed-clause-looked c = let at = goal.at.returns-in-Committed-clause-looked c in let o = one at.After-load_claim-claim in looked_then _ 1 1 _ _ _ o (two at.After-load_unit o)

pub returns-in-Committed-clause-told : goal.returns-in-Committed-clause-told
returns-in-Committed-clause-told c = let l : Limits = table_limits c.args.self.now.words in let at = goal.at.returns-in-Committed-clause-told c in let o = one at.After-load_claim-claim in let t = two at.After-load_unit o in
    let h = seen_by c.load_claim-claim.new.seat in let g = seen_by c.load_unit.new.seat in let u = c.in-Taken.unit in
    let k = claim_taken l h c.args.row c.in-Taken.attempt u o.walk.steady.shows.legal (taken at.In-Taken) in
    let ended : end_of g u ≡ Some (Committed c.in-Committed.first c.in-Committed.count) = sym c.load_unit.ensures.end ∙ ap unit_value c.in-Committed.is in (
      u,
      k.0,
      taking_later h g (looked_begins l 1 _ _ t) u k.0 k.1,
      k.2,
      sym (consumed_now l h g t.walk.steady.shows.legal (looked_begins l 1 _ _ t) c.args.row c.in-Taken.attempt u c.in-Committed.first c.in-Committed.count (taken at.In-Taken) (sym ended)),
      ended,
    )
