use Rattle.std.proofs.Common.{◌≡◌, ◌+◌, ◌-◌, ◌≤◌, ℕ, sym, ◌∙◌, refl, arith, subst}
use Rattle.tp_model.specs.declared.types.Element.{Element}
use Rattle.tp_model.specs.declared.types.Limits.{Limits}
use Rattle.tp_model.specs.declared.trace.StepKind.TheVariants as kinds
use Rattle.tp_model.specs.History.{status_of}
use Rattle.tp_model.specs.Steps.{IsServerStage}
use Rattle.tp_model.proofs.Bridges.{begins_refl, found_later}
use Rattle.tp_rule.specs.Words.{head_of}
use Rattle.tp_rule.specs.declared.packing.Head.TheVariants.{Filled}
use Rattle.tp_rule.specs.Tables.{table_limits}
use Rattle.tp_rule.specs.Views.{seen_by, view_of}
use Rattle.tp_rule.specs.declared.view.View.{View}
use Rattle.tp_manager.specs.Bounds.{body_steps, try_steps}
use Rattle.tp_manager.specs.declared.row_reads.Birth.{Birth}
use Rattle.tp_manager.specs.Leans.{IsLean}
use Rattle.tp_manager.specs.RowSteps.{try_steps_at}
use Rattle.tp_manager.specs.Looks.{IsBornAs}
use Rattle.tp_manager.specs.CallSteps.{Acted, Looked}
use Rattle.tp_manager.specs.Scans.{EachRow, PassedBy, Sought}
use Rattle.tp_manager.proofs.Marks.Raises.{not_waiting}
use Rattle.tp_manager.proofs.Calls.CallSteps.{acted_by, looked, looked_begins, looked_then, walked_few}
use Rattle.tp_manager.proofs.Claims.Leans.{changes_later, changes_more, rest_changed, rest_own, rest_took}
use Rattle.tp_manager.proofs.Claims.Scans.{allows_later, none_passed, pass_missed, pass_status, passed_widens, took_by, took_few}
use Rattle.tp_manager.proofs.Rows.Seeks.{sought_on}
use Rattle.tp_manager.proofs.manager.Shared.take_born.Goals as goal
use Rattle.tp_manager.proofs.manager.Shared.take_born.Goals.{After-birth_of-birth, After-load_claim-claim, After-stand_of}

-- the look at the claim
acted : (c : After-load_claim-claim) → Acted (table_limits c.args.self.now.words) 1 (view_of c.args.seat.now) (view_of c.load_claim-claim.new.seat)
acted c = acted_by _ kinds.Load _ _ c.requires.steady.steady refl c.load_claim-claim.ensures.grew

-- what is passed where the row's element is
passed : (c : After-load_claim-claim) (m : ℕ) (y : View) → Looked (table_limits c.args.self.now.words) m (view_of c.load_claim-claim.new.seat) y → 1 + m ≤ try_steps - 1
    → PassedBy (table_limits c.args.self.now.words) c.args.stage c.args.row (seen_by c.load_claim-claim.new.seat) y.seen
    → Sought (table_limits c.args.self.now.words) (try_steps - 1) (EachRow (PassedBy (table_limits c.args.self.now.words) c.args.stage) c.args.row (c.args.row + 1)) (view_of c.args.seat.now) y
passed c m y rest le own = let l : Limits = table_limits c.args.self.now.words in
    sought_on l (PassedBy l c.args.stage) (passed_widens l c.args.stage) (try_steps - 1) m c.args.row (c.args.row + 1) (view_of c.args.seat.now) (view_of c.load_claim-claim.new.seat) y (acted c) rest le (none_passed l c.args.stage) (λ j low high. absurd (omega arith)) own

pub stand_of-requires-clause-steady : goal.stand_of-requires-clause-steady
stand_of-requires-clause-steady c = record { own = c.load_claim-claim.ensures.same ∙ c.requires.steady.own; steady = (acted (goal.at.stand_of-requires-clause-steady c).After-load_claim-claim).walk.steady }

pub returns-in-Over-clause-told : goal.returns-in-Over-clause-told
returns-in-Over-clause-told c = let l : Limits = table_limits c.args.self.now.words in let at = goal.at.returns-in-Over-clause-told c in let b = c.stand_of.ensures.looked in let h = seen_by c.stand_of.new.seat in
    passed at.After-load_claim-claim 1 (view_of c.stand_of.new.seat) b (omega arith) (pass_status l c.args.stage c.args.row _ h h (looked_begins l 1 _ _ b) (begins_refl h) (not_waiting l (status_of l.attempts h c.args.row) c.in-Over.ensures.stands))

pub returns-in-Busy-clause-told : goal.returns-in-Busy-clause-told
returns-in-Busy-clause-told c = let l : Limits = table_limits c.args.self.now.words in let at = goal.at.returns-in-Busy-clause-told c in let t = c.in-Busy.ensures.stands in
    passed at.After-load_claim-claim 1 (view_of c.stand_of.new.seat) c.stand_of.ensures.looked (omega arith) (pass_status l c.args.stage c.args.row _ t.0 _ t.1 t.2 t.3)

-- the steps so far, and the element is there still
to_stand : (c : After-stand_of) → Looked (table_limits c.args.self.now.words) 2 (view_of c.args.seat.now) (view_of c.stand_of.new.seat)
to_stand c = let l : Limits = table_limits c.args.self.now.words in looked_then l 1 1 _ _ _ (looked l 1 _ _ (acted_by l kinds.Load _ _ c.requires.steady.steady refl c.load_claim-claim.ensures.grew)) c.stand_of.ensures.looked

to_head : (c : After-birth_of-birth) → Looked (table_limits c.args.self.now.words) 2 (view_of c.args.seat.now) (view_of c.stand_of.new.seat) → Looked (table_limits c.args.self.now.words) 3 (view_of c.args.seat.now) (view_of c.head_at-head.new.seat)
to_head c a = let l : Limits = table_limits c.args.self.now.words in looked_then l 2 1 _ _ _ a (looked l 1 _ _ c.head_at-head.ensures.acted)

there : (c : After-birth_of-birth) → Looked (table_limits c.args.self.now.words) 3 (view_of c.args.seat.now) (view_of c.head_at-head.new.seat) → IsBornAs (seen_by c.head_at-head.new.seat) c.args.row c.birth_of-birth.result
there c a = let t = c.requires.born in let now = found_later _ _ (looked_begins _ 3 _ _ a) c.args.row t.0 t.1 in (t.0, now, c.birth_of-birth.ensures t.0 (c.head_at-head.ensures.told.born t.0 now))

-- its stage
of_head : (x : Element) (b : Birth) → head_of x ≡ Filled b.stage b.root b.by → b.stage ≡ x.stage
of_head x b p = cc

staged : (c : After-birth_of-birth) → Looked (table_limits c.args.self.now.words) 3 (view_of c.args.seat.now) (view_of c.head_at-head.new.seat) → c.birth_of-birth.result.stage ≡ c.args.stage
staged c a = let t = c.requires.born in let now = found_later _ _ (looked_begins _ 3 _ _ a) c.args.row t.0 t.1 in
    of_head t.0 c.birth_of-birth.result (c.birth_of-birth.ensures t.0 (c.head_at-head.ensures.told.born t.0 now)) ∙ t.2

pub element_at-element-requires-clause-there : goal.element_at-element-requires-clause-there
element_at-element-requires-clause-there c = let at = goal.at.element_at-element-requires-clause-there c in there at.After-birth_of-birth (to_head at.After-birth_of-birth (to_stand at.After-stand_of))

pub overflow_add-attempt : goal.overflow_add-attempt
overflow_add-attempt c = let less = c.in-Ready.ensures.stands.1 in let most = c.args.self.now.words.places.valid.attempts.1 in omega arith

pub claim_exchange-requires-clause-row : goal.claim_exchange-requires-clause-row
claim_exchange-requires-clause-row c = let at = goal.at.claim_exchange-requires-clause-row c in let e = c.element_at-element.ensures in
    (c.requires.row, (c.element_at-element.result, e.born, subst IsServerStage (sym (e.head.0 ∙ staged at.After-birth_of-birth (to_head at.After-birth_of-birth (to_stand at.After-stand_of)))) c.requires.stage))

-- the steps from the claim's unit to the body
since : (c : After-birth_of-birth) (y : View) → Looked (table_limits c.args.self.now.words) body_steps (view_of c.head_at-head.new.seat) y → Looked (table_limits c.args.self.now.words) (1 + body_steps) (view_of c.stand_of.new.seat) y
since c y e = let l : Limits = table_limits c.args.self.now.words in looked_then l 1 body_steps _ _ y (looked l 1 _ _ c.head_at-head.ensures.acted) e

pub claim_exchange-requires-clause-found : goal.claim_exchange-requires-clause-found
claim_exchange-requires-clause-found c = let at = goal.at.claim_exchange-requires-clause-found c in
    allows_later (table_limits c.args.self.now.words) (seen_by c.stand_of.new.seat) (seen_by c.element_at-element.new.seat) _ (c.in-Ready.attempts + 1) (looked_begins _ _ _ _ (since at.After-birth_of-birth (view_of c.element_at-element.new.seat) c.element_at-element.ensures.looked)) c.in-Ready.ensures.stands.0

pub returns-in-Err-clause-told : goal.returns-in-Err-clause-told
returns-in-Err-clause-told c = let l : Limits = table_limits c.args.self.now.words in let at = goal.at.returns-in-Err-clause-told c in let e = c.element_at-element.ensures.looked in let miss = c.in-Err.ensures.miss in
    let all = looked_then l 1 (1 + body_steps) _ _ _ c.stand_of.ensures.looked (since at.After-birth_of-birth (view_of c.element_at-element.new.seat) e) in
    let b = acted_by l kinds.ClaimExchange _ _ e.walk.steady refl miss.0 in let rest = looked_then l _ 1 _ _ _ all (looked l 1 _ _ b) in
    passed at.After-load_claim-claim _ (view_of c.claim_exchange.new.seat) rest (omega arith)
    (pass_missed l c.args.stage c.args.row _ (seen_by c.load_claim-claim.new.seat) (seen_by c.claim_exchange.new.seat) _ b.walk.steady.shows.legal (begins_refl _)
    (looked_begins l _ _ _ rest) c.load_claim-claim.ensures.claim (λ same. miss.1 (miss.2 ∙ same)))

pub returns-in-Ok-clause-told : goal.returns-in-Ok-clause-told
returns-in-Ok-clause-told c = let l : Limits = table_limits c.args.self.now.words in let at = goal.at.returns-in-Ok-clause-told c in let e = c.element_at-element.ensures in
    let h = to_head at.After-birth_of-birth (to_stand at.After-stand_of) in let a = looked_then l 3 body_steps _ _ _ h e.looked in
    let is : c.element_at-element.result.stage ≡ c.args.stage = e.head.0 ∙ staged at.After-birth_of-birth h in (
      took_few l c.args.stage c.args.unit (c.in-Ready.attempts + 1) c.element_at-element.result _ (try_steps - 1) c.args.row _ _ (omega arith)
          (took_by l c.args.stage c.args.unit (c.in-Ready.attempts + 1) c.element_at-element.result _ c.args.row _ _ _ e.head.2 a e.born is c.in-Ok.ensures.hit),
      e.head.1,
    )

-- where its claim isn't exchanged
own_lean : (c : After-stand_of) → Looked (table_limits c.args.self.now.words) 2 (view_of c.args.seat.now) (view_of c.stand_of.new.seat) → IsLean (table_limits c.args.self.now.words) (λ a h. try_steps_at c.args.stage a h c.args.row - 1) (view_of c.args.seat.now) (view_of c.stand_of.new.seat)
own_lean c a = let l : Limits = table_limits c.args.self.now.words in let t = c.requires.born in
    rest_own l c.args.stage c.args.row a.marks _ _ t.0 (found_later _ _ (looked_begins l 2 _ _ a) c.args.row t.0 t.1) t.2 (walked_few l 2 3 a.marks _ _ (omega arith) a.walk)

pub returns-in-Over-clause-lean : goal.returns-in-Over-clause-lean
returns-in-Over-clause-lean c = let at = (goal.at.returns-in-Over-clause-lean c).After-stand_of in own_lean at (to_stand at)

pub returns-in-Busy-clause-lean : goal.returns-in-Busy-clause-lean
returns-in-Busy-clause-lean c = let at = (goal.at.returns-in-Busy-clause-lean c).After-stand_of in own_lean at (to_stand at)

pub returns-in-Err-clause-lean : goal.returns-in-Err-clause-lean
returns-in-Err-clause-lean c = let l : Limits = table_limits c.args.self.now.words in let at = goal.at.returns-in-Err-clause-lean c in let e = c.element_at-element.ensures in let miss = c.in-Err.ensures.miss in let i = c.args.row in
    let h = to_head at.After-birth_of-birth (to_stand at.After-stand_of) in let b = looked l 1 _ _ (acted_by l kinds.ClaimExchange _ _ e.looked.walk.steady refl miss.0) in
    let w = looked_then l _ 1 _ _ _ (looked_then l 3 body_steps _ _ _ h e.looked) b in
    let since_claim = looked_then l _ 1 _ _ _ (looked_then l 1 (1 + body_steps) _ _ _ c.stand_of.ensures.looked (since at.After-birth_of-birth (view_of c.element_at-element.new.seat) e.looked)) b in
    let low = changes_later (seen_by c.args.seat.now) (seen_by c.load_claim-claim.new.seat) i (looked_begins l 1 _ _ (looked l 1 _ _ (acted at.After-load_claim-claim))) in
    let more = changes_more (seen_by c.load_claim-claim.new.seat) (seen_by c.claim_exchange.new.seat) i (looked_begins l _ _ _ since_claim) (λ same. miss.1 (miss.2 ∙ (same ∙ sym c.load_claim-claim.ensures.claim))) in
    rest_changed l c.args.stage i w.marks _ _ c.element_at-element.result (found_later _ _ (looked_begins l 1 _ _ b) i _ e.born) (e.head.0 ∙ staged at.After-birth_of-birth h) (omega arith) (walked_few l _ (try_steps - 1) w.marks _ _ (omega arith) w.walk)

pub returns-in-Ok-clause-lean : goal.returns-in-Ok-clause-lean
returns-in-Ok-clause-lean c = let l : Limits = table_limits c.args.self.now.words in let at = goal.at.returns-in-Ok-clause-lean c in let e = c.element_at-element.ensures in
    let h = to_head at.After-birth_of-birth (to_stand at.After-stand_of) in let a = looked_then l 3 body_steps _ _ _ h e.looked in
    let is : c.element_at-element.result.stage ≡ c.args.stage = e.head.0 ∙ staged at.After-birth_of-birth h in
    subst (λ z. IsLean l (λ a h. try_steps_at c.args.stage a h z - 1) (view_of c.args.seat.now) (view_of c.claim_exchange.new.seat)) e.head.2
    (rest_took l c.args.stage _ c.args.row c.args.unit (c.in-Ready.attempts + 1) c.element_at-element.result _ _ (omega arith)
    (took_by l c.args.stage c.args.unit (c.in-Ready.attempts + 1) c.element_at-element.result _ c.args.row _ _ _ e.head.2 a e.born is c.in-Ok.ensures.hit))
