use Rattle.std.proofs.Common.{◌≡◌, ◌+◌, ◌*◌, ◌<◌, ◌≤◌, ℕ, sym, ◌∙◌, ap, refl, arith, subst}
use Rattle.tp_model.specs.declared.types.Element.{Element}
use Rattle.tp_model.specs.declared.types.Limits.{Limits}
use Rattle.tp_rule.specs.Words.{head_of}
use Rattle.tp_rule.specs.declared.packing.Head.TheVariants.{Filled}
use Rattle.tp_manager.specs.declared.row_reads.Birth.{Birth}
use Rattle.tp_model.specs.declared.types.Refusal.TheVariants as refusals
use Rattle.tp_model.specs.History.{IsUnborn, there}
use Rattle.tp_model.specs.Steps.{IsServerStage, rows_of}
use Rattle.tp_model.proofs.Bridges.{found_later}
use Rattle.tp_rule.specs.Tables.{table_limits}
use Rattle.tp_rule.specs.Views.{seen_by, view_of}
use Rattle.tp_manager.specs.Shown.{ManagerShown, PassShown, shown, spot}
use Rattle.tp_manager.specs.Bounds.{birth_steps, claim_id_steps, claim_row_steps}
use Rattle.tp_manager.specs.Calls.{Opens, claims_in}
use Rattle.tp_manager.specs.Given.{ClaimIdFails, HasReplyStage, HasUnwaiting}
use Rattle.tp_manager.specs.Looks.{IsBornAs}
use Rattle.tp_manager.specs.CallSteps.{Acted, Steady}
use Rattle.tp_manager.specs.Scans.{Took}
use Rattle.tp_manager.proofs.Calls.CallSteps.{acted_then, climbs_same, follows, has_looked, looked, looked_none, remembers}
use Rattle.tp_manager.proofs.Calls.Passes.{point_none, quiet_looked, steady_at, unborn_beyond}
use Rattle.tp_manager.proofs.Claims.UnitsChosen.{chose_steady, took_walked, took_answer, took_rests}
use Rattle.tp_manager.proofs.Accounts.RowCounts.{stage_there}
use Rattle.tp_manager.proofs.Kills.Releases.{head_stage}
use Rattle.tp_manager.proofs.Claims.Scans.{took_behind}
use Rattle.tp_manager.proofs.Claims.GivenRows.{left_between, left_last, left_looked, left_quiet, left_rests, left_walked, some_unit}
use Rattle.tp_manager.proofs.manager.Manager.claim_id.Goals as goal
use Rattle.tp_manager.proofs.manager.Manager.claim_id.Goals.{After-rows, After-birth_from, In_default-claim_row, In-Some-claim_row}

lim : (c : After-rows) → (view_of c.pass.inside.seat).limits ≡ table_limits c.self.inside.shared.words
lim c = ap (λ (p : PassShown). p.limits) c.pass.view_is ∙ (c.requires.own.1 ∙ (sym (ap (λ (m : ManagerShown). m.limits) c.self.view_is) ∙ sym c.self.inside.shared.same))

limits : (c : After-rows) → table_limits c.self.inside.shared.words ≡ c.args.self.now.limits
limits c = c.self.inside.shared.same ∙ ap (λ (m : ManagerShown). m.limits) c.self.view_is

steady : (c : After-rows) → Steady (table_limits c.self.inside.shared.words) (view_of c.pass.inside.seat)
steady c = steady_at _ _ _ (lim c) c.pass.invariant.0.steady

not : (c : After-rows) → ¬ (c.pass.inside.used ≡ (table_limits c.self.inside.shared.words).units)
not c = subst (λ (z : Limits). ¬ (c.pass.inside.used ≡ z.units)) (sym c.self.inside.shared.same) c.if-pass-units.false

-- the pass has a unit left
room : (c : After-rows) → claims_in c.args.pass.now.mine < (table_limits c.self.inside.shared.words).units
room c = some_unit _ c.pass.inside.seat _ _ _ _ (spot c.pass.inside.seat.table c.pass.inside.lows c.pass.inside.run.drawn c.pass.inside.from) c.args.pass.now (lim c) c.pass.view_is c.pass.invariant.0 (not c)

-- the look at the row's birth
two : (c : After-birth_from) → Acted (table_limits c.self.inside.shared.words) birth_steps (view_of c.choose_unit.new.seat) (view_of c.birth_from.new.seat)
two c = acted_then _ 1 1 _ _ _ c.head_at-head.ensures.acted c.birth_from.ensures.looked

pub returns-then-id-rows-clause-answer : goal.returns-then-id-rows-clause-answer
returns-then-id-rows-clause-answer c = let r = c.pass.invariant.0 in let at = (goal.at.returns-then-id-rows-clause-answer c).After-rows in
    let out : rows_of (view_of c.pass.inside.seat).limits ≤ c.args.id = subst (λ (z : Limits). rows_of z ≤ c.args.id) (sym (lim at ∙ c.self.inside.shared.same)) (subst (λ n. n ≤ c.args.id) c.rows.ensures c.if-id-rows.true) in (
      subst (λ (z : Limits). claims_in c.args.pass.now.mine < z.units) (limits at) (room at),
      quiet_looked (spot c.pass.inside.seat.table c.pass.inside.lows c.pass.inside.run.drawn c.pass.inside.from) (spot c.pass.inside.seat.table c.pass.inside.lows c.pass.inside.run.drawn c.pass.inside.from) (view_of c.pass.inside.seat) (view_of c.pass.inside.seat) c.args.pass.now c.pass.view_is _ 0 (looked_none _ _ r.steady),
      point_none (spot c.pass.inside.seat.table c.pass.inside.lows c.pass.inside.run.drawn c.pass.inside.from) (view_of c.pass.inside.seat) c.args.pass.now c.pass.view_is _ r.steady (λ h. IsUnborn h c.args.id) (unborn_beyond _ _ c.args.id r.steady.shows.legal out),
    )

pub head_at-head-requires-clause-steady : goal.head_at-head-requires-clause-steady
head_at-head-requires-clause-steady c = record {
  own = c.choose_unit.ensures.same ∙ (ap (λ (p : PassShown). p.table) c.pass.view_is ∙ (c.requires.own.0 ∙ sym (ap (λ (m : ManagerShown). m.table) c.self.view_is)));
  steady = chose_steady _ _ _ _ (steady (goal.at.head_at-head-requires-clause-steady c).After-rows) c.choose_unit.ensures.chooses;
}

-- nothing is born in the row

pub invariant_of-pass-in_default : goal.invariant_of-pass-in_default
invariant_of-pass-in_default c = let at = goal.at.invariant_of-pass-in_default c in let s = steady at.After-rows in let g = c.choose_unit.ensures.chooses in let a = two at.After-birth_from in (
  left_rests _ _ birth_steps _ _ _ _ c.pass.inside.seat c.birth_from.new.seat (view_of c.choose_unit.new.seat) s g a (lim at.After-rows) c.pass.invariant.0,
  remembers c.pass.inside.lows _ _ _ _ _ (left_walked _ _ birth_steps _ _ _ s g a) c.pass.invariant.1,
)

pub returns-in_default-clause-follows : goal.returns-in_default-clause-follows
returns-in_default-clause-follows c = let at = goal.at.returns-in_default-clause-follows c in let s = steady at.After-rows in let g = c.choose_unit.ensures.chooses in let a = two at.After-birth_from in
    follows (spot c.pass.inside.seat.table c.pass.inside.lows c.pass.inside.run.drawn c.pass.inside.from) (spot c.birth_from.new.seat.table c.pass.inside.lows c.pass.inside.run.drawn c.pass.inside.from) (climbs_same c.pass.inside.lows c.pass.inside.run.drawn) (view_of c.pass.inside.seat) (view_of c.birth_from.new.seat) c.args.pass.now c.pass.view_is _ _ _
    (left_walked _ _ birth_steps _ _ _ s g a) claim_id_steps (omega arith)

pub returns-in_default-clause-looks : goal.returns-in_default-clause-looks
returns-in_default-clause-looks c = λ _ _. let at = goal.at.returns-in_default-clause-looks c in let s = steady at.After-rows in let g = c.choose_unit.ensures.chooses in let a = two at.After-birth_from in
    left_looked _ _ birth_steps _ _ _ s g a (spot c.pass.inside.seat.table c.pass.inside.lows c.pass.inside.run.drawn c.pass.inside.from) (spot c.birth_from.new.seat.table c.pass.inside.lows c.pass.inside.run.drawn c.pass.inside.from) c.args.pass.now c.pass.view_is

pub returns-in_default-clause-answer : goal.returns-in_default-clause-answer
returns-in_default-clause-answer c = let at = goal.at.returns-in_default-clause-answer c in let s = steady at.After-rows in let g = c.choose_unit.ensures.chooses in let a = two at.After-birth_from in
    let t = spot c.pass.inside.seat.table c.pass.inside.lows c.pass.inside.run.drawn c.pass.inside.from in let t' = spot c.birth_from.new.seat.table c.pass.inside.lows c.pass.inside.run.drawn c.pass.inside.from in (
      subst (λ (z : Limits). claims_in c.args.pass.now.mine < z.units) (limits at.After-rows) (room at.After-rows),
      left_quiet _ _ birth_steps _ _ _ s g a t t' c.args.pass.now c.pass.view_is,
      left_last _ _ birth_steps _ _ _ s g a t t' c.args.pass.now c.pass.view_is (λ h. IsUnborn h c.args.id) c.in_default.ensures.told,
    )

-- the element is a reply

pub invariant_of-pass-then-birth-eq-REPLY_STAGE : goal.invariant_of-pass-then-birth-eq-REPLY_STAGE
invariant_of-pass-then-birth-eq-REPLY_STAGE c = let at = goal.at.invariant_of-pass-then-birth-eq-REPLY_STAGE c in let s = steady at.After-rows in let g = c.choose_unit.ensures.chooses in let a = two at.After-birth_from in (
  left_rests _ _ birth_steps _ _ _ _ c.pass.inside.seat c.birth_from.new.seat (view_of c.choose_unit.new.seat) s g a (lim at.After-rows) c.pass.invariant.0,
  remembers c.pass.inside.lows _ _ _ _ _ (left_walked _ _ birth_steps _ _ _ s g a) c.pass.invariant.1,
)

pub returns-then-birth-eq-REPLY_STAGE-clause-follows : goal.returns-then-birth-eq-REPLY_STAGE-clause-follows
returns-then-birth-eq-REPLY_STAGE-clause-follows c = let at = goal.at.returns-then-birth-eq-REPLY_STAGE-clause-follows c in let s = steady at.After-rows in let g = c.choose_unit.ensures.chooses in let a = two at.After-birth_from in
    follows (spot c.pass.inside.seat.table c.pass.inside.lows c.pass.inside.run.drawn c.pass.inside.from) (spot c.birth_from.new.seat.table c.pass.inside.lows c.pass.inside.run.drawn c.pass.inside.from) (climbs_same c.pass.inside.lows c.pass.inside.run.drawn) (view_of c.pass.inside.seat) (view_of c.birth_from.new.seat) c.args.pass.now c.pass.view_is _ _ _
    (left_walked _ _ birth_steps _ _ _ s g a) claim_id_steps (omega arith)

pub returns-then-birth-eq-REPLY_STAGE-clause-looks : goal.returns-then-birth-eq-REPLY_STAGE-clause-looks
returns-then-birth-eq-REPLY_STAGE-clause-looks c = λ _ _. let at = goal.at.returns-then-birth-eq-REPLY_STAGE-clause-looks c in let s = steady at.After-rows in let g = c.choose_unit.ensures.chooses in let a = two at.After-birth_from in
    left_looked _ _ birth_steps _ _ _ s g a (spot c.pass.inside.seat.table c.pass.inside.lows c.pass.inside.run.drawn c.pass.inside.from) (spot c.birth_from.new.seat.table c.pass.inside.lows c.pass.inside.run.drawn c.pass.inside.from) c.args.pass.now c.pass.view_is

pub returns-then-birth-eq-REPLY_STAGE-clause-answer : goal.returns-then-birth-eq-REPLY_STAGE-clause-answer
returns-then-birth-eq-REPLY_STAGE-clause-answer c = let at = goal.at.returns-then-birth-eq-REPLY_STAGE-clause-answer c in let s = steady at.After-rows in let g = c.choose_unit.ensures.chooses in let a = two at.After-birth_from in
    let t = spot c.pass.inside.seat.table c.pass.inside.lows c.pass.inside.run.drawn c.pass.inside.from in let t' = spot c.birth_from.new.seat.table c.pass.inside.lows c.pass.inside.run.drawn c.pass.inside.from in let there = c.in-Some.ensures.told.0 in (
      subst (λ (z : Limits). claims_in c.args.pass.now.mine < z.units) (limits at.After-rows) (room at.After-rows),
      left_quiet _ _ birth_steps _ _ _ s g a t t' c.args.pass.now c.pass.view_is,
      left_last _ _ birth_steps _ _ _ s g a t t' c.args.pass.now c.pass.view_is (HasReplyStage c.args.id) (there.0, there.1, staged there.0 c.in-Some.birth there.2 c.if-birth-eq-REPLY_STAGE.true),
    )
  where
    staged : (e : Element) (b : Birth) → head_of e ≡ Filled b.stage b.root b.by → b.stage ≡ 15 → e.stage ≡ 15
    staged e b p q = cc

-- an element that is no reply is of a server's stage
served : (c : After-birth_from) → (b : Birth) → IsBornAs (seen_by c.birth_from.new.seat) c.args.id b → ¬ (b.stage ≡ 15) → IsServerStage b.stage
served c b born other = let all = stage_there (table_limits c.self.inside.shared.words) (seen_by c.birth_from.new.seat) c.args.id b c.birth_from.ensures.looked.walk.steady.shows.legal born in
    let high = all.1 in (all.0, (let a : b.stage ≤ 15 = high in omega arith))

pub claim_row-requires-clause-stage : goal.claim_row-requires-clause-stage
claim_row-requires-clause-stage c = served (goal.at.claim_row-requires-clause-stage c).After-birth_from c.in-Some.birth c.in-Some.ensures.told.0 c.if-birth-eq-REPLY_STAGE.false

-- it didn't wait

left : (c : In_default-claim_row) → Acted (table_limits c.self.inside.shared.words) birth_steps (view_of c.choose_unit.new.seat) (view_of c.birth_from.new.seat) → Acted (table_limits c.self.inside.shared.words) (birth_steps + claim_row_steps) (view_of c.choose_unit.new.seat) (view_of c.claim_row.new.seat)
left c a = acted_then _ birth_steps (claim_row_steps) _ _ _ a c.in_default-claim_row.ensures.told.0

pub invariant_of-pass-in_default-claim_row : goal.invariant_of-pass-in_default-claim_row
invariant_of-pass-in_default-claim_row c = let at = goal.at.invariant_of-pass-in_default-claim_row c in let s = steady at.After-rows in let g = c.choose_unit.ensures.chooses in let a = left at.In_default-claim_row (two at.After-birth_from) in (
  left_rests _ _ _ _ _ _ _ c.pass.inside.seat c.claim_row.new.seat (view_of c.choose_unit.new.seat) s g a (lim at.After-rows) c.pass.invariant.0,
  remembers c.pass.inside.lows _ _ _ _ _ (left_walked _ _ _ _ _ _ s g a) c.pass.invariant.1,
)

pub returns-in_default-claim_row-clause-follows : goal.returns-in_default-claim_row-clause-follows
returns-in_default-claim_row-clause-follows c = let at = goal.at.returns-in_default-claim_row-clause-follows c in let s = steady at.After-rows in let g = c.choose_unit.ensures.chooses in let a = left at.In_default-claim_row (two at.After-birth_from) in
    follows (spot c.pass.inside.seat.table c.pass.inside.lows c.pass.inside.run.drawn c.pass.inside.from) (spot c.claim_row.new.seat.table c.pass.inside.lows c.pass.inside.run.drawn c.pass.inside.from) (climbs_same c.pass.inside.lows c.pass.inside.run.drawn) (view_of c.pass.inside.seat) (view_of c.claim_row.new.seat) c.args.pass.now c.pass.view_is _ _ _
    (left_walked _ _ _ _ _ _ s g a) claim_id_steps (omega arith)

pub returns-in_default-claim_row-clause-looks : goal.returns-in_default-claim_row-clause-looks
returns-in_default-claim_row-clause-looks c = λ _ _. let at = goal.at.returns-in_default-claim_row-clause-looks c in let s = steady at.After-rows in let g = c.choose_unit.ensures.chooses in let a = left at.In_default-claim_row (two at.After-birth_from) in
    left_looked _ _ _ _ _ _ s g a (spot c.pass.inside.seat.table c.pass.inside.lows c.pass.inside.run.drawn c.pass.inside.from) (spot c.claim_row.new.seat.table c.pass.inside.lows c.pass.inside.run.drawn c.pass.inside.from) c.args.pass.now c.pass.view_is

pub returns-in_default-claim_row-clause-answer : goal.returns-in_default-claim_row-clause-answer
returns-in_default-claim_row-clause-answer c = let at = goal.at.returns-in_default-claim_row-clause-answer c in let l : Limits = table_limits c.self.inside.shared.words in let s = steady at.After-rows in let g = c.choose_unit.ensures.chooses in let b = two at.After-birth_from in let told = c.in_default-claim_row.ensures.told in
    let t = spot c.pass.inside.seat.table c.pass.inside.lows c.pass.inside.run.drawn c.pass.inside.from in let t' = spot c.claim_row.new.seat.table c.pass.inside.lows c.pass.inside.run.drawn c.pass.inside.from in let there = c.in-Some.ensures.told.0 in
    subst (λ (z : Limits). ClaimIdFails z c.args.id c.args.pass.now (shown t' (view_of c.claim_row.new.seat)) refusals.NotWaiting) (limits at.After-rows) (
      room at.After-rows,
      left_quiet _ _ _ _ _ _ s g (left at.In_default-claim_row b) t t' c.args.pass.now c.pass.view_is,
      left_between l _ birth_steps claim_row_steps _ _ (view_of c.birth_from.new.seat) _ s g b told.0 t t' c.args.pass.now c.pass.view_is (HasUnwaiting l c.args.id)
          (let p = told.1 in (p.0, p.1, p.2, (there.0, found_later (seen_by c.birth_from.new.seat) p.0 p.1 c.args.id there.0 there.1, (λ reply. c.if-birth-eq-REPLY_STAGE.false (sym (head_stage there.0 _ _ _ there.2) ∙ reply)), p.3))),
    )

-- it was taken

taken : (c : In-Some-claim_row) → Acted (table_limits c.self.inside.shared.words) birth_steps (view_of c.choose_unit.new.seat) (view_of c.birth_from.new.seat) → let l : Limits = table_limits c.self.inside.shared.words in let x = c.in-Some-claim_row.taken.element in
    Took l (birth_steps + claim_row_steps) c.args.id x.stage (c.pass.inside.number * c.self.inside.shared.places.limits.units + c.pass.inside.used) (view_of c.choose_unit.new.seat) (view_of c.claim_row.new.seat) x c.in-Some-claim_row.taken.attempt
taken c a = let l : Limits = table_limits c.self.inside.shared.words in let x = c.in-Some-claim_row.taken.element in
    took_behind l x.stage _ c.in-Some-claim_row.taken.attempt x birth_steps claim_row_steps c.args.id _ _ _ (looked l birth_steps _ _ a) c.in-Some-claim_row.ensures.told.0

pub invariant_of-pass-2 : goal.invariant_of-pass-2
invariant_of-pass-2 c = let at = goal.at.invariant_of-pass-2 c in let l : Limits = table_limits c.self.inside.shared.words in let s = steady at.After-rows in let g = c.choose_unit.ensures.chooses in let k = taken at.In-Some-claim_row (two at.After-birth_from) in let told = c.in-Some-claim_row.ensures.told in let x = c.in-Some-claim_row.taken in (
  took_rests l _ _ c.args.id x.element.stage x.attempt x.root _ _ _ _ _ c.pass.inside.seat c.claim_row.new.seat (view_of c.choose_unit.new.seat) x.element s g k (lim at.After-rows) told.1 refl (not at.After-rows) c.pass.invariant.0,
  remembers c.pass.inside.lows _ _ _ _ _ (took_walked l _ _ (view_of c.choose_unit.new.seat) s g _ _ _ _ _ _ k) c.pass.invariant.1,
)

pub returns-clause-follows : goal.returns-clause-follows
returns-clause-follows c = let at = goal.at.returns-clause-follows c in let l : Limits = table_limits c.self.inside.shared.words in let s = steady at.After-rows in let g = c.choose_unit.ensures.chooses in let k = taken at.In-Some-claim_row (two at.After-birth_from) in
    follows (spot c.pass.inside.seat.table c.pass.inside.lows c.pass.inside.run.drawn c.pass.inside.from) (spot c.claim_row.new.seat.table c.pass.inside.lows c.pass.inside.run.drawn c.pass.inside.from) (climbs_same c.pass.inside.lows c.pass.inside.run.drawn) (view_of c.pass.inside.seat) (view_of c.claim_row.new.seat) c.args.pass.now c.pass.view_is l _ _
    (took_walked l _ _ (view_of c.choose_unit.new.seat) s g _ _ _ _ _ _ k) claim_id_steps (omega arith)

pub returns-clause-looks : goal.returns-clause-looks
returns-clause-looks c = λ _ _. let at = goal.at.returns-clause-looks c in let l : Limits = table_limits c.self.inside.shared.words in let s = steady at.After-rows in let g = c.choose_unit.ensures.chooses in let k = taken at.In-Some-claim_row (two at.After-birth_from) in
    has_looked (spot c.pass.inside.seat.table c.pass.inside.lows c.pass.inside.run.drawn c.pass.inside.from) (spot c.claim_row.new.seat.table c.pass.inside.lows c.pass.inside.run.drawn c.pass.inside.from) (view_of c.pass.inside.seat) (view_of c.claim_row.new.seat) c.args.pass.now c.pass.view_is l _ _
    (took_walked l _ _ (view_of c.choose_unit.new.seat) s g _ _ _ _ _ _ k) (k.step.0, there k.step.1, k.step.2)

pub returns-clause-answer : goal.returns-clause-answer
returns-clause-answer c = let at = goal.at.returns-clause-answer c in let l : Limits = table_limits c.self.inside.shared.words in let s = steady at.After-rows in let g = c.choose_unit.ensures.chooses in let k = taken at.In-Some-claim_row (two at.After-birth_from) in let told = c.in-Some-claim_row.ensures.told in let x = c.in-Some-claim_row.taken in
    let u : ℕ = c.pass.inside.number * c.self.inside.shared.places.limits.units + c.pass.inside.used in
    let t = spot c.pass.inside.seat.table c.pass.inside.lows c.pass.inside.run.drawn c.pass.inside.from in let t' = spot c.claim_row.new.seat.table c.pass.inside.lows c.pass.inside.run.drawn c.pass.inside.from in record {
      opens = subst (λ (z : Limits). Opens z x.element.stage (record { unit = u; element = x.element; attempt = x.attempt }) c.args.pass.now (shown t' (view_of c.claim_row.new.seat))) (limits at.After-rows)
          (took_answer l u _ (view_of c.choose_unit.new.seat) s g _ _ x.element.stage x.attempt _ x.element k _ _ _ _ c.pass.inside.seat t t' c.args.pass.now refl (lim at.After-rows) c.pass.view_is
          c.pass.invariant.0 (not at.After-rows) (ap (λ (z : Limits). c.pass.inside.number * z.units + c.pass.inside.used) (sym c.self.inside.shared.same)));
      id_is = told.2;
      server = subst IsServerStage (sym told.3) (served at.After-birth_from c.in-Some.birth c.in-Some.ensures.told.0 c.if-birth-eq-REPLY_STAGE.false);
    }
