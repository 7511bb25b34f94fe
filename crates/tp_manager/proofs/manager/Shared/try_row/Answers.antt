use Rattle.tp_rule.specs.Steps.{MayBeBorn}
use Rattle.std.proofs.Common.{nat_eq, true, ◌≡◌, ◌+◌, ◌<◌, ◌≤◌, ℕ, List, sym, ◌∙◌, inl, inr, refl, ⊎_elim, arith, subst}
use Rattle.tp_model.specs.declared.event.Event.{Event}
use Rattle.tp_model.specs.declared.types.Element.{Element}
use Rattle.tp_model.specs.declared.types.Limits.{Limits}
use Rattle.tp_model.specs.declared.trace.StepKind.TheVariants as kinds
use Rattle.tp_model.specs.History.{status_of}
use Rattle.tp_model.specs.Steps.{IsServerStage}
use Rattle.tp_model.specs.declared.trace.TraceEntry.{TraceEntry}
use Rattle.tp_model.proofs.Bridges.{begins_refl, begins_trans, found_later}
use Rattle.tp_rule.specs.Words.{head_of}
use Rattle.tp_rule.specs.declared.packing.Head.TheVariants.{Filled}
use Rattle.tp_rule.specs.Tables.{table_limits}
use Rattle.tp_rule.specs.Views.{seen_by, view_of}
use Rattle.tp_rule.specs.declared.view.View.{View}
use Rattle.tp_manager.specs.Bounds.{body_steps, try_steps}
use Rattle.tp_manager.specs.declared.row_reads.Birth.{Birth}
use Rattle.tp_manager.specs.declared.scanning.Stand.TheVariants as stands
use mathlib.Core.List.{IsPrefix}
use Rattle.std.proofs.lemmas.Bool.Decides.{eqb_tells}
use Rattle.tp_rule.proofs.Reading.{grew_begins}
use Rattle.tp_manager.specs.Looks.{IsBornAs}
use Rattle.tp_manager.specs.CallSteps.{Looked, Stepped}
use Rattle.tp_manager.specs.Marks.{AreOfStage, Rose, WasOfUse, WasUnsettled}
use Rattle.tp_manager.proofs.Claims.Runs.{of_later, of_more, of_none}
use Rattle.tp_manager.specs.Scans.{EachRow, PassedBy, Sought}
use Rattle.tp_manager.proofs.Families.Cancels.{few_rows}
use Rattle.tp_manager.proofs.Marks.Raises.{near_low, near_past, not_waiting, stays_by, use_empty, use_found, use_later, use_unborn, rose_aside, rose_dead, rose_none, rose_one, unconcerned}
use Rattle.tp_manager.proofs.Calls.CallSteps.{acted_by, looked, looked_begins, looked_none, looked_then, walked_then}
use Rattle.tp_manager.proofs.Rows.Looks.{there_later}
use Rattle.tp_manager.specs.Leans.{IsLeanAt}
use Rattle.tp_manager.proofs.Claims.Leans.{changes_later, changes_more, lean_changed, lean_other, lean_own, lean_took, lean_unborn}
use Rattle.tp_manager.proofs.Claims.Scans.{allows_later, none_passed, pass_missed, pass_other, pass_status, pass_unborn, passed_widens, took_by, took_few}
use Rattle.tp_manager.proofs.Rows.Seeks.{sought_on}
use Rattle.tp_manager.proofs.manager.Shared.try_row.Goals as goal
use Rattle.tp_manager.proofs.manager.Shared.try_row.Goals.{After-head_on-head, After-load_claim-claim, After-stand_of}

-- what is passed where the row's own element is
passed : (c : After-head_on-head) (m : ℕ) (y : View) → Looked (table_limits c.args.self.now.words) m (view_of c.head_on-head.new.seat) y → 1 + m ≤ try_steps
    → PassedBy (table_limits c.args.self.now.words) c.args.stage c.args.row.now (seen_by c.head_on-head.new.seat) y.seen
    → Sought (table_limits c.args.self.now.words) try_steps (EachRow (PassedBy (table_limits c.args.self.now.words) c.args.stage) c.args.row.now c.head_on-head.new.row) (view_of c.args.seat.now) y
passed c m y rest le own = let l : Limits = table_limits c.args.self.now.words in let e = c.head_on-head.ensures in
    sought_on l (PassedBy l c.args.stage) (passed_widens l c.args.stage) try_steps m c.args.row.now c.head_on-head.new.row (view_of c.args.seat.now) (view_of c.head_on-head.new.seat) y e.acted rest le (none_passed l c.args.stage) e.none own

-- the steps from the head to the claim
claimed : (c : After-load_claim-claim) → Looked (table_limits c.args.self.now.words) 2 (view_of c.head_on-head.new.seat) (view_of c.load_claim-claim.new.seat)
claimed c = let b = c.contents_from.ensures.looked in looked_then _ 1 1 _ _ _ b (looked _ 1 _ _ (acted_by _ kinds.Load _ _ b.walk.steady refl c.load_claim-claim.ensures.grew))

-- the element whose head was found is of the stage
staged : (stage : ℕ) (h : List Event) (i : ℕ) (b : Birth) → IsBornAs h i b → ((e : Element) → Filled b.stage b.root b.by ≡ head_of e → e.stage ≡ stage) → b.stage ≡ stage
staged stage h i b there is = head_stage there.0 there.2 ∙ is there.0 (sym there.2)
  where
    head_stage : (e : Element) → head_of e ≡ Filled b.stage b.root b.by → b.stage ≡ e.stage
    head_stage e p = cc

born_stage : (e : Element) (b : Birth) → head_of e ≡ Filled b.stage b.root b.by → e.stage ≡ b.stage
born_stage e b p = cc

of_stage : (c : After-load_claim-claim) → c.in-Holds.birth.stage ≡ c.args.stage
of_stage c = staged c.args.stage (seen_by c.contents_from.new.seat) c.args.row.now c.in-Holds.birth c.in-Holds.ensures.told.0
    (λ e is. c.is_of_stage.ensures.yes c.if-not-is_of_stage.false e (c.in-Holds.ensures.told.1 ∙ is))

-- nothing more is known of no use
still_low : (c : After-head_on-head) (y : View) → (c.args.low.now ≤ c.head_on-head.new.row) × Rose c.args.stage y c.args.low.now c.args.low.now
still_low c y = let on = c.head_on-head.ensures.on.on in let low = c.requires.low in (omega arith, rose_none (table_limits c.args.self.now.words) c.args.stage y c.args.low.now)

-- the row is none of too many
small : (c : After-head_on-head) → c.args.row.now < 65536
small c = let few = few_rows (table_limits c.args.self.now.words) c.args.self.now.words.places.valid in let less = c.requires.row in omega arith

pub past_other-requires : goal.past_other-requires
past_other-requires c = record { few = small (goal.at.past_other-requires c).After-head_on-head }

pub past-requires : goal.past-requires
past-requires c = record { few = small (goal.at.past-requires c).After-head_on-head }

pub past-requires-in-Over : goal.past-requires-in-Over
past-requires-in-Over c = record { few = small (goal.at.past-requires-in-Over c).After-head_on-head }

pub returns-then-not-is_of_stage-clause-told : goal.returns-then-not-is_of_stage-clause-told
returns-then-not-is_of_stage-clause-told c = let l : Limits = table_limits c.args.self.now.words in let h = seen_by c.head_on-head.new.seat in let at = goal.at.returns-then-not-is_of_stage-clause-told c in
    passed at.After-head_on-head 0 (view_of c.head_on-head.new.seat) (looked_none l _ c.head_on-head.ensures.acted.walk.steady) (omega arith)
    (pass_other l c.args.stage c.args.row.now h h h (begins_refl h) (λ x p. c.is_of_stage.ensures.no c.if-not-is_of_stage.true x (c.head_on-head.ensures.told.born x p)))

pub returns-then-not-is_of_stage-clause-low : goal.returns-then-not-is_of_stage-clause-low
returns-then-not-is_of_stage-clause-low c = let l : Limits = table_limits c.args.self.now.words in let on = c.head_on-head.ensures.on.on in let low = c.requires.low in (
  near_low l c.args.low.now c.past_other.result c.args.row.now c.head_on-head.new.row low on c.past_other.ensures.moves,
  rose_aside l c.args.stage (view_of c.head_on-head.new.seat) c.args.low.now c.past_other.result c.args.row.now c.head_on-head.result c.head_on-head.ensures.told.knows
      (λ stage root by is. unconcerned l c.args.stage stage c.requires.stage.0 (c.is_of_stage.ensures.aside c.if-not-is_of_stage.true stage root by is)) c.past_other.ensures.moves,
)

pub returns-in-Nothing-clause-told : goal.returns-in-Nothing-clause-told
returns-in-Nothing-clause-told c = let l : Limits = table_limits c.args.self.now.words in let h = seen_by c.contents_from.new.seat in let at = goal.at.returns-in-Nothing-clause-told c in let b = c.contents_from.ensures.looked in
    passed at.After-head_on-head 1 (view_of c.contents_from.new.seat) b (omega arith) (pass_unborn l c.args.stage c.args.row.now _ h h (looked_begins l _ _ _ b) c.in-Nothing.ensures.told.0)

pub returns-in-Nothing-clause-low : goal.returns-in-Nothing-clause-low
returns-in-Nothing-clause-low c = still_low (goal.at.returns-in-Nothing-clause-low c).After-head_on-head (view_of c.contents_from.new.seat)

pub returns-in-DeadDraft-clause-told : goal.returns-in-DeadDraft-clause-told
returns-in-DeadDraft-clause-told c = let l : Limits = table_limits c.args.self.now.words in let h = seen_by c.contents_from.new.seat in let at = goal.at.returns-in-DeadDraft-clause-told c in let b = c.contents_from.ensures.looked in
    passed at.After-head_on-head 1 (view_of c.contents_from.new.seat) b (omega arith) (pass_unborn l c.args.stage c.args.row.now _ h h (looked_begins l _ _ _ b) c.in-DeadDraft.ensures.told.0)

pub returns-in-DeadDraft-clause-low : goal.returns-in-DeadDraft-clause-low
returns-in-DeadDraft-clause-low c = let l : Limits = table_limits c.args.self.now.words in let on = c.head_on-head.ensures.on.on in let low = c.requires.low in (
  near_past l c.args.low.now c.past.result c.args.row.now c.head_on-head.new.row low on c.past.ensures.moves,
  rose_dead l c.args.stage (view_of c.contents_from.new.seat) c.args.low.now c.past.result c.args.row.now c.in-DeadDraft.ensures.told.1 c.past.ensures.moves,
)

pub stand_of-requires-clause-steady : goal.stand_of-requires-clause-steady
stand_of-requires-clause-steady c = record { own = c.load_claim-claim.ensures.same ∙ (c.contents_from.ensures.same ∙ (c.head_on-head.ensures.same ∙ c.requires.steady.own)); steady = (claimed (goal.at.stand_of-requires-clause-steady c).After-load_claim-claim).walk.steady }

-- the steps from the head to the word of the claim's unit
found : (c : After-stand_of) → Looked (table_limits c.args.self.now.words) 2 (view_of c.head_on-head.new.seat) (view_of c.load_claim-claim.new.seat) → Looked (table_limits c.args.self.now.words) 3 (view_of c.head_on-head.new.seat) (view_of c.stand_of.new.seat)
found c a = looked_then _ 2 1 _ _ _ a c.stand_of.ensures.looked

-- the element is there still
there : (c : After-stand_of) → Looked (table_limits c.args.self.now.words) 2 (view_of c.head_on-head.new.seat) (view_of c.load_claim-claim.new.seat) → IsBornAs (seen_by c.stand_of.new.seat) c.args.row.now c.in-Holds.birth
there c a = there_later (seen_by c.contents_from.new.seat) (seen_by c.stand_of.new.seat) c.args.row.now c.in-Holds.birth
    (looked_begins _ 2 _ _ (looked_then _ 1 1 _ _ _ (looked _ 1 _ _ (acted_by _ kinds.Load _ _ c.contents_from.ensures.looked.walk.steady refl c.load_claim-claim.ensures.grew)) c.stand_of.ensures.looked)) c.in-Holds.ensures.told.0

pub returns-in-Over-clause-low : goal.returns-in-Over-clause-low
returns-in-Over-clause-low c = let l : Limits = table_limits c.args.self.now.words in let at = goal.at.returns-in-Over-clause-low c in let on = c.head_on-head.ensures.on.on in let low = c.requires.low in
    let a = claimed at.After-load_claim-claim in let w = view_of c.stand_of.new.seat in (
      near_past l c.args.low.now c.past-in-Over.result c.args.row.now c.head_on-head.new.row low on c.past-in-Over.ensures.moves,
      rose_one l c.args.stage w c.args.low.now c.past-in-Over.result c.args.row.now c.in-Holds.birth (status_of l.attempts w.seen c.args.row.now) c.stand_of.ensures.looked.walk.steady.pass.1 (there at.After-stand_of a) refl
          (⊎_elim (λ same. inl same) (λ t. inr (t.0, t.1, c.in-Over.ensures.stands)) c.past-in-Over.ensures.moves),
    )

pub returns-in-Over-clause-told : goal.returns-in-Over-clause-told
returns-in-Over-clause-told c = let l : Limits = table_limits c.args.self.now.words in let at = goal.at.returns-in-Over-clause-told c in let b = found at.After-stand_of (claimed at.After-load_claim-claim) in let h = seen_by c.stand_of.new.seat in
    passed at.After-head_on-head 3 (view_of c.stand_of.new.seat) b (omega arith) (pass_status l c.args.stage c.args.row.now _ h h (looked_begins l _ _ _ b) (begins_refl h) (not_waiting l (status_of l.attempts h c.args.row.now) c.in-Over.ensures.stands))

pub returns-in-Busy-clause-low : goal.returns-in-Busy-clause-low
returns-in-Busy-clause-low c = still_low (goal.at.returns-in-Busy-clause-low c).After-head_on-head (view_of c.stand_of.new.seat)

pub returns-in-Busy-clause-told : goal.returns-in-Busy-clause-told
returns-in-Busy-clause-told c = let l : Limits = table_limits c.args.self.now.words in let at = goal.at.returns-in-Busy-clause-told c in let a = claimed at.After-load_claim-claim in let t = c.in-Busy.ensures.stands in
    passed at.After-head_on-head 3 (view_of c.stand_of.new.seat) (found at.After-stand_of a) (omega arith) (pass_status l c.args.stage c.args.row.now _ t.0 _ (begins_trans _ _ t.0 (looked_begins l _ _ _ a) t.1) t.2 t.3)

pub element_at-element-requires-clause-there : goal.element_at-element-requires-clause-there
element_at-element-requires-clause-there c = let at = goal.at.element_at-element-requires-clause-there c in there at.After-stand_of (claimed at.After-load_claim-claim)

pub overflow_add-attempt : goal.overflow_add-attempt
overflow_add-attempt c = let less = c.in-Ready.ensures.stands.1 in let most = c.args.self.now.words.places.valid.attempts.1 in omega arith

pub claim_exchange-requires-clause-row : goal.claim_exchange-requires-clause-row
claim_exchange-requires-clause-row c = let at = goal.at.claim_exchange-requires-clause-row c in let e = c.element_at-element.ensures in
    (c.requires.row, (c.element_at-element.result, e.born, subst IsServerStage (sym (e.head.0 ∙ of_stage at.After-load_claim-claim)) c.requires.stage))

pub claim_exchange-requires-clause-found : goal.claim_exchange-requires-clause-found
claim_exchange-requires-clause-found c = allows_later (table_limits c.args.self.now.words) (seen_by c.stand_of.new.seat) (seen_by c.element_at-element.new.seat) _ (c.in-Ready.attempts + 1) (looked_begins _ _ _ _ c.element_at-element.ensures.looked) c.in-Ready.ensures.stands.0

pub returns-in-Err-clause-told : goal.returns-in-Err-clause-told
returns-in-Err-clause-told c = let l : Limits = table_limits c.args.self.now.words in let at = goal.at.returns-in-Err-clause-told c in let first = claimed at.After-load_claim-claim in let e = c.element_at-element.ensures.looked in let miss = c.in-Err.ensures.miss in
    let since = looked_then l 1 body_steps _ _ _ c.stand_of.ensures.looked e in
    let b = acted_by l kinds.ClaimExchange _ _ e.walk.steady refl miss.0 in
    passed at.After-head_on-head _ (view_of c.claim_exchange.new.seat) (looked_then l _ 1 _ _ _ (looked_then l 2 (1 + body_steps) _ _ _ first since) (looked l 1 _ _ b)) (omega arith)
    (pass_missed l c.args.stage c.args.row.now _ (seen_by c.load_claim-claim.new.seat) (seen_by c.claim_exchange.new.seat) _ b.walk.steady.shows.legal (looked_begins l _ _ _ first)
    (begins_trans _ _ _ (looked_begins l _ _ _ since) (looked_begins l 1 _ _ (looked l 1 _ _ b))) c.load_claim-claim.ensures.claim (λ same. miss.1 (miss.2 ∙ same)))

pub returns-in-Ok-clause-told : goal.returns-in-Ok-clause-told
returns-in-Ok-clause-told c = let l : Limits = table_limits c.args.self.now.words in let at = goal.at.returns-in-Ok-clause-told c in let m = found at.After-stand_of (claimed at.After-load_claim-claim) in let e = c.element_at-element.ensures in
    let a = looked_then l _ body_steps _ _ _ (looked_then l 1 3 _ _ _ (looked l 1 _ _ c.head_on-head.ensures.acted) m) e.looked in
    let is : c.element_at-element.result.stage ≡ c.args.stage = e.head.0 ∙ of_stage at.After-load_claim-claim in (
      took_few l c.args.stage c.args.unit (c.in-Ready.attempts + 1) c.element_at-element.result _ try_steps c.args.row.now _ _ (omega arith)
          (took_by l c.args.stage c.args.unit (c.in-Ready.attempts + 1) c.element_at-element.result _ c.args.row.now _ _ _ e.head.2 a e.born is c.in-Ok.ensures.hit),
      e.head.1,
    )

pub returns-in-Err-clause-low : goal.returns-in-Err-clause-low
returns-in-Err-clause-low c = still_low (goal.at.returns-in-Err-clause-low c).After-head_on-head (view_of c.claim_exchange.new.seat)

pub returns-in-Ok-clause-low : goal.returns-in-Ok-clause-low
returns-in-Ok-clause-low c = still_low (goal.at.returns-in-Ok-clause-low c).After-head_on-head (view_of c.claim_exchange.new.seat)

-- what is made at the row, by what is born in it
lean_to : (c : After-head_on-head) (m : ℕ) (y : View) → Looked (table_limits c.args.self.now.words) m (view_of c.head_on-head.new.seat) y → (ms : List TraceEntry) × Stepped (table_limits c.args.self.now.words) (1 + m) ms (view_of c.args.seat.now) y
lean_to c m y rest = (_, walked_then (table_limits c.args.self.now.words) 1 m _ _ _ _ y c.head_on-head.ensures.acted.walk rest.walk)

pub returns-then-not-is_of_stage-clause-lean : goal.returns-then-not-is_of_stage-clause-lean
returns-then-not-is_of_stage-clause-lean c = lean_other (table_limits c.args.self.now.words) c.args.stage c.args.row.now _ _ _ c.head_on-head.ensures.acted.walk

pub returns-in-Nothing-clause-lean : goal.returns-in-Nothing-clause-lean
returns-in-Nothing-clause-lean c = let b = c.contents_from.ensures.looked in let w = lean_to (goal.at.returns-in-Nothing-clause-lean c).After-head_on-head 1 (view_of c.contents_from.new.seat) b in
    lean_unborn (table_limits c.args.self.now.words) c.args.stage c.args.row.now w.0 _ _ c.head_on-head.result (b.walk.knows _ c.head_on-head.ensures.told.knows) ((c.is_of_stage.ensures.full c.if-not-is_of_stage.false).0) (c.is_of_stage.ensures.yes c.if-not-is_of_stage.false) w.1

pub returns-in-DeadDraft-clause-lean : goal.returns-in-DeadDraft-clause-lean
returns-in-DeadDraft-clause-lean c = let b = c.contents_from.ensures.looked in let w = lean_to (goal.at.returns-in-DeadDraft-clause-lean c).After-head_on-head 1 (view_of c.contents_from.new.seat) b in
    lean_unborn (table_limits c.args.self.now.words) c.args.stage c.args.row.now w.0 _ _ c.head_on-head.result (b.walk.knows _ c.head_on-head.ensures.told.knows) ((c.is_of_stage.ensures.full c.if-not-is_of_stage.false).0) (c.is_of_stage.ensures.yes c.if-not-is_of_stage.false) w.1

-- where an element of the stage is born, whose claim isn't exchanged
own_lean : (c : After-stand_of) → Looked (table_limits c.args.self.now.words) 2 (view_of c.head_on-head.new.seat) (view_of c.load_claim-claim.new.seat) → c.in-Holds.birth.stage ≡ c.args.stage
    → (ms : List TraceEntry) → Stepped (table_limits c.args.self.now.words) 4 ms (view_of c.args.seat.now) (view_of c.stand_of.new.seat) → IsLeanAt (table_limits c.args.self.now.words) c.args.stage 0 c.args.row.now 1 (view_of c.args.seat.now) (view_of c.stand_of.new.seat)
own_lean c a staged ms walk = let t = there c a in lean_own (table_limits c.args.self.now.words) c.args.stage c.args.row.now ms _ _ t.0 t.1 (born_stage t.0 c.in-Holds.birth t.2 ∙ staged) walk

pub returns-in-Over-clause-lean : goal.returns-in-Over-clause-lean
returns-in-Over-clause-lean c = let at = goal.at.returns-in-Over-clause-lean c in let a = claimed at.After-load_claim-claim in
    let w = lean_to at.After-head_on-head 3 (view_of c.stand_of.new.seat) (found at.After-stand_of a) in own_lean at.After-stand_of a (of_stage at.After-load_claim-claim) w.0 w.1

pub returns-in-Busy-clause-lean : goal.returns-in-Busy-clause-lean
returns-in-Busy-clause-lean c = let at = goal.at.returns-in-Busy-clause-lean c in let a = claimed at.After-load_claim-claim in
    let w = lean_to at.After-head_on-head 3 (view_of c.stand_of.new.seat) (found at.After-stand_of a) in own_lean at.After-stand_of a (of_stage at.After-load_claim-claim) w.0 w.1

pub returns-in-Err-clause-lean : goal.returns-in-Err-clause-lean
returns-in-Err-clause-lean c = let l : Limits = table_limits c.args.self.now.words in let at = goal.at.returns-in-Err-clause-lean c in let first = claimed at.After-load_claim-claim in let e = c.element_at-element.ensures in let miss = c.in-Err.ensures.miss in
    let since = looked_then l 1 body_steps _ _ _ c.stand_of.ensures.looked e.looked in let b = looked l 1 _ _ (acted_by l kinds.ClaimExchange _ _ e.looked.walk.steady refl miss.0) in let i = c.args.row.now in
    let w = lean_to at.After-head_on-head _ (view_of c.claim_exchange.new.seat) (looked_then l _ 1 _ _ _ (looked_then l 2 (1 + body_steps) _ _ _ first since) b) in
    let low = changes_later (seen_by c.args.seat.now) (seen_by c.load_claim-claim.new.seat) i (begins_trans _ _ _ (looked_begins l 1 _ _ (looked l 1 _ _ c.head_on-head.ensures.acted)) (looked_begins l _ _ _ first)) in
    let more = changes_more (seen_by c.load_claim-claim.new.seat) (seen_by c.claim_exchange.new.seat) i (begins_trans _ _ _ (looked_begins l _ _ _ since) (looked_begins l 1 _ _ b)) (λ same. miss.1 (miss.2 ∙ (same ∙ sym c.load_claim-claim.ensures.claim))) in
    lean_changed l c.args.stage i w.0 _ _ c.element_at-element.result (found_later _ _ (looked_begins l 1 _ _ b) i _ e.born) (e.head.0 ∙ of_stage at.After-load_claim-claim) (omega arith) w.1

pub returns-in-Ok-clause-lean : goal.returns-in-Ok-clause-lean
returns-in-Ok-clause-lean c = let l : Limits = table_limits c.args.self.now.words in let at = goal.at.returns-in-Ok-clause-lean c in let m = found at.After-stand_of (claimed at.After-load_claim-claim) in let e = c.element_at-element.ensures in
    let a = looked_then l _ body_steps _ _ _ (looked_then l 1 3 _ _ _ (looked l 1 _ _ c.head_on-head.ensures.acted) m) e.looked in
    let is : c.element_at-element.result.stage ≡ c.args.stage = e.head.0 ∙ of_stage at.After-load_claim-claim in
    subst (λ z. IsLeanAt l c.args.stage 0 z 1 (view_of c.args.seat.now) (view_of c.claim_exchange.new.seat)) e.head.2
    (lean_took l c.args.stage _ c.args.row.now c.args.unit (c.in-Ready.attempts + 1) c.element_at-element.result _ _ (omega arith)
    (took_by l c.args.stage c.args.unit (c.in-Ready.attempts + 1) c.element_at-element.result _ c.args.row.now _ _ _ e.head.2 a e.born is c.in-Ok.ensures.hit))

-- two rows that are one are found so
nat_eq_of : (m n : ℕ) → m ≡ n → nat_eq m n ≡ true
nat_eq_of m n same = ⊎_elim (λ t. t.0) (λ t. absurd (t.1 same)) (eqb_tells m n)

-- the call goes on from its beginning
on : (c : After-head_on-head) (m : ℕ) (y : View) → Looked (table_limits c.args.self.now.words) m (view_of c.head_on-head.new.seat) y → IsPrefix (seen_by c.args.seat.now) (seen_by c.head_on-head.new.seat) × IsPrefix (seen_by c.head_on-head.new.seat) y.seen
on c m y rest = let l : Limits = table_limits c.args.self.now.words in (looked_begins l 1 _ _ (looked l 1 _ _ c.head_on-head.ensures.acted), looked_begins l m _ _ rest)

-- nothing is born between the row and the next
gap : (c : After-head_on-head) (m : ℕ) (y : View) → Looked (table_limits c.args.self.now.words) m (view_of c.head_on-head.new.seat) y → (now : ℕ) → c.args.row.now < now → now < c.head_on-head.new.row
    → WasOfUse (table_limits c.args.self.now.words) c.args.stage now (seen_by c.args.seat.now) y.seen
gap c m y rest now past less = let t = on c m y rest in (
  seen_by c.head_on-head.new.seat,
  t.0,
  t.1,
  use_unborn (table_limits c.args.self.now.words) c.args.stage now (seen_by c.head_on-head.new.seat) (c.head_on-head.ensures.none now past less)
      (c.head_on-head.ensures.ahead now (omega arith) less (λ same. absurd (omega arith))),
)

-- the element is there as its claim is found
there_now : (c : After-stand_of) → Looked (table_limits c.args.self.now.words) 2 (view_of c.head_on-head.new.seat) (view_of c.load_claim-claim.new.seat) → IsBornAs (seen_by c.load_claim-claim.new.seat) c.args.row.now c.in-Holds.birth
there_now c a = there_later (seen_by c.contents_from.new.seat) (seen_by c.load_claim-claim.new.seat) c.args.row.now c.in-Holds.birth
    (looked_begins _ 1 _ _ (looked _ 1 _ _ (acted_by _ kinds.Load _ _ c.contents_from.ensures.looked.walk.steady refl c.load_claim-claim.ensures.grew))) c.in-Holds.ensures.told.0

-- the row's own element was of use
own : (c : After-stand_of) → Looked (table_limits c.args.self.now.words) 2 (view_of c.head_on-head.new.seat) (view_of c.load_claim-claim.new.seat) → c.in-Holds.birth.stage ≡ c.args.stage
    → WasUnsettled (table_limits c.args.self.now.words) c.args.row.now (seen_by c.load_claim-claim.new.seat) (seen_by c.stand_of.new.seat) → (y : View) → IsPrefix (seen_by c.stand_of.new.seat) y.seen
    → WasOfUse (table_limits c.args.self.now.words) c.args.stage c.args.row.now (seen_by c.args.seat.now) y.seen
own c a staged was y after = let l : Limits = table_limits c.args.self.now.words in let first = looked_begins l 1 _ _ (looked l 1 _ _ c.head_on-head.ensures.acted) in
    use_later l c.args.stage c.args.row.now (seen_by c.args.seat.now) (seen_by c.load_claim-claim.new.seat) (seen_by c.stand_of.new.seat) y.seen (begins_trans _ _ _ first (looked_begins l 2 _ _ a)) after
    (use_found l c.args.stage c.args.row.now (seen_by c.load_claim-claim.new.seat) (seen_by c.stand_of.new.seat) c.in-Holds.birth (there_now c a) staged was)

pub returns-then-not-is_of_stage-clause-stays : goal.returns-then-not-is_of_stage-clause-stays
returns-then-not-is_of_stage-clause-stays c = let l : Limits = table_limits c.args.self.now.words in let at = (goal.at.returns-then-not-is_of_stage-clause-stays c).After-head_on-head in let e = c.head_on-head.ensures in let y = view_of c.head_on-head.new.seat in
    let none = looked_none l y e.acted.walk.steady in let t = on at 0 y none in
    stays_by l c.args.stage c.args.low.now c.args.row.now c.past_other.result c.head_on-head.new.row (seen_by c.args.seat.now) y.seen c.requires.low (⊎_elim (λ same. inl same) (λ t. inr (t.0, t.1)) c.past_other.ensures.moves)
    (λ here same. (y.seen, t.0, t.1, use_empty l c.args.stage c.args.row.now y.seen c.head_on-head.result e.told.born (λ empty. e.ahead c.args.row.now (omega arith) e.on.on (λ same. empty)) (λ full. let up = c.past_other.ensures.exact here full in absurd (omega arith))))
    (gap at 0 y none c.past_other.result)

pub returns-in-Nothing-clause-stays : goal.returns-in-Nothing-clause-stays
returns-in-Nothing-clause-stays c = let l : Limits = table_limits c.args.self.now.words in let at = (goal.at.returns-in-Nothing-clause-stays c).After-head_on-head in let y = view_of c.contents_from.new.seat in let b = c.contents_from.ensures.looked in let t = on at 1 y b in
    stays_by l c.args.stage c.args.low.now c.args.row.now c.args.low.now c.head_on-head.new.row (seen_by c.args.seat.now) y.seen c.requires.low (inl refl)
    (λ _ _. (
      y.seen,
      begins_trans _ _ _ t.0 t.1,
      begins_refl y.seen,
      use_unborn l c.args.stage c.args.row.now y.seen c.in-Nothing.ensures.told.0
          (let full = c.is_of_stage.ensures.full c.if-not-is_of_stage.false in subst (λ k. MayBeBorn k y.seen c.args.row.now) b.walk.steady.pass.1 (c.in-Nothing.ensures.told.1 full.0 full.1)),
    )) (gap at 1 y b c.args.low.now)

pub returns-in-DeadDraft-clause-stays : goal.returns-in-DeadDraft-clause-stays
returns-in-DeadDraft-clause-stays c = let l : Limits = table_limits c.args.self.now.words in let at = (goal.at.returns-in-DeadDraft-clause-stays c).After-head_on-head in let y = view_of c.contents_from.new.seat in
    stays_by l c.args.stage c.args.low.now c.args.row.now c.past.result c.head_on-head.new.row (seen_by c.args.seat.now) y.seen c.requires.low c.past.ensures.moves
    (λ here same. let up = c.past.ensures.exact here in absurd (omega arith)) (gap at 1 y c.contents_from.ensures.looked c.past.result)

pub returns-in-Over-clause-stays : goal.returns-in-Over-clause-stays
returns-in-Over-clause-stays c = let l : Limits = table_limits c.args.self.now.words in let at = goal.at.returns-in-Over-clause-stays c in let y = view_of c.stand_of.new.seat in
    stays_by l c.args.stage c.args.low.now c.args.row.now c.past-in-Over.result c.head_on-head.new.row (seen_by c.args.seat.now) y.seen c.requires.low c.past-in-Over.ensures.moves
    (λ here same. let up = c.past-in-Over.ensures.exact here in absurd (omega arith)) (gap at.After-head_on-head 3 y (found at.After-stand_of (claimed at.After-load_claim-claim)) c.past-in-Over.result)

pub returns-in-Busy-clause-stays : goal.returns-in-Busy-clause-stays
returns-in-Busy-clause-stays c = let l : Limits = table_limits c.args.self.now.words in let at = goal.at.returns-in-Busy-clause-stays c in let y = view_of c.stand_of.new.seat in let a = claimed at.After-load_claim-claim in
    stays_by l c.args.stage c.args.low.now c.args.row.now c.args.low.now c.head_on-head.new.row (seen_by c.args.seat.now) y.seen c.requires.low (inl refl)
    (λ here _. own at.After-stand_of a (of_stage at.After-load_claim-claim) (c.stand_of.ensures.unsettled (nat_eq_of c.args.row.now c.args.low.now (sym here)) (λ over. let e : stands.Busy ≡ stands.Over = sym c.in-Busy.is ∙ over in absurd cc)) y (begins_refl y.seen))
    (gap at.After-head_on-head 3 y (found at.After-stand_of a) c.args.low.now)

pub returns-in-Err-clause-stays : goal.returns-in-Err-clause-stays
returns-in-Err-clause-stays c = let l : Limits = table_limits c.args.self.now.words in let at = goal.at.returns-in-Err-clause-stays c in let y = view_of c.claim_exchange.new.seat in let a = claimed at.After-load_claim-claim in
    let e = c.element_at-element.ensures.looked in let x = looked l 1 _ _ (acted_by l kinds.ClaimExchange _ _ e.walk.steady refl c.in-Err.ensures.miss.0) in let rest = looked_then l body_steps 1 _ _ _ e x in
    stays_by l c.args.stage c.args.low.now c.args.row.now c.args.low.now c.head_on-head.new.row (seen_by c.args.seat.now) y.seen c.requires.low (inl refl)
    (λ here _. own at.After-stand_of a (of_stage at.After-load_claim-claim) (c.stand_of.ensures.unsettled (nat_eq_of c.args.row.now c.args.low.now (sym here)) (λ over. let e : stands.Ready c.in-Ready.attempts ≡ stands.Over = sym c.in-Ready.is ∙ over in absurd cc)) y (looked_begins l _ _ _ rest))
    (gap at.After-head_on-head _ y (looked_then l 3 _ _ _ _ (found at.After-stand_of a) rest) c.args.low.now)

pub returns-in-Ok-clause-stays : goal.returns-in-Ok-clause-stays
returns-in-Ok-clause-stays c = let l : Limits = table_limits c.args.self.now.words in let at = goal.at.returns-in-Ok-clause-stays c in let y = view_of c.claim_exchange.new.seat in let a = claimed at.After-load_claim-claim in
    let e = c.element_at-element.ensures.looked in let m = found at.After-stand_of a in let up = grew_begins kinds.ClaimExchange _ _ (view_of c.element_at-element.new.seat) y c.in-Ok.ensures.hit in
    let after = begins_trans _ _ _ (looked_begins l _ _ _ e) up in
    stays_by l c.args.stage c.args.low.now c.args.row.now c.args.low.now c.head_on-head.new.row (seen_by c.args.seat.now) y.seen c.requires.low (inl refl)
    (λ here _. own at.After-stand_of a (of_stage at.After-load_claim-claim) (c.stand_of.ensures.unsettled (nat_eq_of c.args.row.now c.args.low.now (sym here)) (λ over. let e : stands.Ready c.in-Ready.attempts ≡ stands.Over = sym c.in-Ready.is ∙ over in absurd cc)) y after)
    (λ past less. use_later l c.args.stage c.args.low.now (seen_by c.args.seat.now) (seen_by c.args.seat.now) (seen_by c.stand_of.new.seat) y.seen (begins_refl _) after (gap at.After-head_on-head 3 (view_of c.stand_of.new.seat) m c.args.low.now past less))

pub returns-in-Ok-clause-behind : goal.returns-in-Ok-clause-behind
returns-in-Ok-clause-behind c = let next = c.head_on-head.ensures.on.on in let low = c.requires.low in omega arith

-- a run of rows of the stage begins behind the row
pub returns-then-not-is_of_stage-clause-born : goal.returns-then-not-is_of_stage-clause-born
returns-then-not-is_of_stage-clause-born c = (omega arith, of_none c.args.stage (seen_by c.head_on-head.new.seat) c.head_on-head.new.row)

pub returns-in-DeadDraft-clause-born : goal.returns-in-DeadDraft-clause-born
returns-in-DeadDraft-clause-born c = (omega arith, of_none c.args.stage (seen_by c.contents_from.new.seat) c.head_on-head.new.row)

pub returns-in-Nothing-clause-born : goal.returns-in-Nothing-clause-born
returns-in-Nothing-clause-born c = (omega arith, of_none c.args.stage (seen_by c.contents_from.new.seat) c.head_on-head.new.row)

-- or goes on over it
run : (c : After-load_claim-claim) (y : View) → IsPrefix (seen_by c.contents_from.new.seat) y.seen → (c.args.born.now ≤ c.head_on-head.new.row) × AreOfStage c.args.stage y.seen c.args.born.now c.head_on-head.new.row
run c y after = let l : Limits = table_limits c.args.self.now.words in let stage = c.args.stage in let i = c.args.row.now in let t = c.in-Holds.ensures.told.0 in
    let first = looked_begins l 1 _ _ (looked l 1 _ _ c.head_on-head.ensures.acted) in let b = looked_begins l 1 _ _ c.contents_from.ensures.looked in
    let full = c.is_of_stage.ensures.full c.if-not-is_of_stage.false in let next = c.head_on-head.ensures.next full.0 in let up = c.requires.born.0 in (
      omega arith,
      of_more stage y.seen c.args.born.now i c.head_on-head.new.row t.0 next (of_later stage (seen_by c.args.seat.now) y.seen c.args.born.now i (begins_trans _ _ _ first (begins_trans _ _ _ b after)) c.requires.born.1)
          (found_later (seen_by c.contents_from.new.seat) y.seen after i t.0 t.1) (born_stage t.0 c.in-Holds.birth t.2 ∙ of_stage c),
    )

-- the steps since it was found born
since_born : (c : After-stand_of) → Looked (table_limits c.args.self.now.words) 1 (view_of c.load_claim-claim.new.seat) (view_of c.stand_of.new.seat) → IsPrefix (seen_by c.contents_from.new.seat) (seen_by c.stand_of.new.seat)
since_born c s = let l : Limits = table_limits c.args.self.now.words in
    looked_begins l 2 _ _ (looked_then l 1 1 _ _ _ (looked l 1 _ _ (acted_by l kinds.Load _ _ c.contents_from.ensures.looked.walk.steady refl c.load_claim-claim.ensures.grew)) s)

pub returns-in-Over-clause-born : goal.returns-in-Over-clause-born
returns-in-Over-clause-born c = let at = goal.at.returns-in-Over-clause-born c in run at.After-load_claim-claim (view_of c.stand_of.new.seat) (since_born at.After-stand_of c.stand_of.ensures.looked)

pub returns-in-Busy-clause-born : goal.returns-in-Busy-clause-born
returns-in-Busy-clause-born c = let at = goal.at.returns-in-Busy-clause-born c in run at.After-load_claim-claim (view_of c.stand_of.new.seat) (since_born at.After-stand_of c.stand_of.ensures.looked)

pub returns-in-Err-clause-born : goal.returns-in-Err-clause-born
returns-in-Err-clause-born c = let l : Limits = table_limits c.args.self.now.words in let at = goal.at.returns-in-Err-clause-born c in let e = c.element_at-element.ensures.looked in
    let x = looked l 1 _ _ (acted_by l kinds.ClaimExchange _ _ e.walk.steady refl c.in-Err.ensures.miss.0) in
    run at.After-load_claim-claim (view_of c.claim_exchange.new.seat) (begins_trans _ _ _ (since_born at.After-stand_of c.stand_of.ensures.looked) (looked_begins l _ _ _ (looked_then l body_steps 1 _ _ _ e x)))

pub returns-in-Ok-clause-born : goal.returns-in-Ok-clause-born
returns-in-Ok-clause-born c = let l : Limits = table_limits c.args.self.now.words in let at = goal.at.returns-in-Ok-clause-born c in let e = c.element_at-element.ensures.looked in
    let up = grew_begins kinds.ClaimExchange _ _ (view_of c.element_at-element.new.seat) (view_of c.claim_exchange.new.seat) c.in-Ok.ensures.hit in
    run at.After-load_claim-claim (view_of c.claim_exchange.new.seat) (begins_trans _ _ _ (since_born at.After-stand_of c.stand_of.ensures.looked) (begins_trans _ _ _ (looked_begins l _ _ _ e) up))
