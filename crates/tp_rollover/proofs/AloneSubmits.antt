-- A submit where nobody else acts.
use Rattle.std.proofs.Common.{◌≡◌, ℕ, ◌+◌, ◌-◌, nat_le, Bool, true, false, List, [], ◌∷◌, ◌++◌, Ok, Err, refl, sym, ◌∙◌, ap, inl, inr, arith}
use Rattle.std.proofs.lemmas.Bool.{and_from, and_parts, leb-true, lt-leb, le-leb}
use Rattle.tp_model.specs.declared.types.Limits.{Limits}
use Rattle.tp_model.specs.declared.types.Refusal.TheVariants as refusal
use Rattle.tp_model.specs.declared.event.Event.{Event}
use Rattle.tp_model.specs.declared.event.Event.TheVariants.{Enqueue}
use Rattle.tp_model.specs.Births.{request}
use Rattle.tp_model.specs.Steps.{IsServerStage}
use Rattle.tp_plain.specs.declared.pass_state.PassState.{PassState}
use Rattle.tp_plain.specs.OneThread.{State, HasPlainRoom, ready, first_row, with_draw, used_up}
use Rattle.tp_plain.specs.Computed.{has_room, is_server_stage, submit_of, with_request}
use Rattle.tp_plain.proofs.Computations.{submit_goes}
use Rattle.tp_manager.specs.Calls.{FindsNoBlock, IsQuiet, Submits, claims_in}
use Rattle.tp_manager.specs.Shown.{KeeperShown, PassShown}
use Rattle.tp_rollover.specs.Thread.{Alone, state_of, thread_of, turns_in}
use Rattle.tp_rollover.specs.AloneLaws.{AloneSubmit}
use Rattle.tp_rollover.proofs.AloneApart.{end_is, number_is, old_seen}
use Rattle.tp_rollover.proofs.AloneThreads.{all_drawn, claims_more, leaves, quiet_leaves, ready_full, uses, was}

pub both : {A B : Type 0} (x y : A) (s t : B) → x ≡ y → s ≡ t → let p : A × B = (x, s) in let q : A × B = (y, t) in p ≡ q
both x y s t e f = cc

bad_stage : (stage : ℕ) → ¬ IsServerStage stage → is_server_stage stage ≡ false
bad_stage stage bad = go (is_server_stage stage) refl
  where
    go : (b : Bool) → is_server_stage stage ≡ b → b ≡ false
    go false is = refl
    go true is = let p = and_parts (nat_le 1 stage) (nat_le stage 14) is in absurd (bad (leb-true 1 stage p.0, leb-true stage 14 p.1))

-- a pass that found no block has done nothing else
pub no_block_quiet : (k : ℕ) (old new : PassShown) → FindsNoBlock k old new → IsQuiet old new
no_block_quiet k old new found = let same = found.same in record {
  mine = ap (λ (p : PassShown). p.mine) same;
  open_unit = ap (λ (p : PassShown). p.open_unit) same;
  run = (ap (λ (p : PassShown). p.next) same, ap (λ (p : PassShown). p.left) same, ap (λ (p : PassShown). p.blocks) same);
}

pub same_quiet : (old new : PassShown) → new ≡ old → IsQuiet old new
same_quiet old new same = record {
  mine = ap (λ (p : PassShown). p.mine) same;
  open_unit = ap (λ (p : PassShown). p.open_unit) same;
  run = (ap (λ (p : PassShown). p.next) same, ap (λ (p : PassShown). p.left) same, ap (λ (p : PassShown). p.blocks) same);
}

module _ (l : Limits) (keeper keeper' : KeeperShown) (olds news : List PassShown) (h h' : List Event) (n c : ℕ) (old new : PassShown) (a : Alone l keeper keeper' olds news h h' n c old new) (turn : new.from ≡ old.from) (stage : ℕ) (body : List ℕ) where
  abbrev before : State
  before = was l keeper keeper' olds news h h' n c old new a

  goes : (id : ℕ) → Submits id stage body old new → (Ok id, thread_of l news h') ≡ submit_of before c stage body
  goes id says =
      let u = uses l keeper keeper' olds news h h' n c old new a 1 id says.run in
      let r = u.readied in
      let room : HasPlainRoom before c 1 = let x : (ready before c 1).left ≡ u.left = ap (λ (p : PassState). p.left) r.0 in let y = u.room in omega arith in
      let at : id ≡ first_row before c 1 = u.first_is ∙ sym (ap (λ (p : PassState). p.next) r.0) in
      let number = number_is l keeper keeper' olds news h h' n c old new a in
      let event : Enqueue old.number (request id stage body) ≡ Enqueue c (request (first_row before c 1) stage body) = ap (λ d. Enqueue d (request id stage body)) number ∙ ap (λ i. Enqueue c (request i stage body)) at in
      let now : state_of new ≡ used_up (ready before c 1) 1 = used u.next u.left u.new_next u.new_left ∙ ap (λ (p : PassState). used_up p 1) (sym r.0) in
      let last : h' ≡ h ++ Enqueue c (request (first_row before c 1) stage body) ∷ [] = end_is l keeper keeper' olds news h h' n c old new a _ says.adds.mine ∙ ap (λ e. h ++ e ∷ []) event in
      both (Ok id) (Ok (first_row before c 1)) (thread_of l news h') (with_request before c stage body) (ap (λ i. Ok i) at)
      (leaves l keeper keeper' olds news h h' n c old new a _ (used_up (ready before c 1) 1) (with_draw before c 1).drawn last now (sym r.1))
      ∙ sym (submit_goes before c stage body says.stage_is room)
    where
      used : (next left : ℕ) → new.next ≡ next + 1 → new.left ≡ left - 1
          → let x : PassState = record { next = next + 1; left = left - 1; claimed = claims_in old.mine; holding = old.open_unit; turns = turns_in old.from } in state_of new ≡ x
      used next left x y =
          let z : claims_in new.mine ≡ claims_in old.mine = ap claims_in says.adds.mine ∙ (claims_more old.mine _ ∙ omega arith) in
          let o = says.open_unit in
          let turns : turns_in new.from ≡ turns_in old.from = ap turns_in turn in
          cc

  bad : ¬ IsServerStage stage → submit_of before c stage body ≡ (Err refusal.BadStage, before)
  bad not = rw (bad_stage stage not) refl

  full : IsServerStage stage → FindsNoBlock 1 old new → submit_of before c stage body ≡ (Err refusal.Full, before)
  full good found =
      let q = no_block_quiet 1 old new found in
      let spare : new.seen_blocks ≡ l.spare = ap (λ (p : PassShown). p.seen_blocks) found.same ∙ ap (λ (m : Limits). m.spare) (old_seen l keeper keeper' olds news h h' n c old new a).limits in
      let r = ready_full l keeper keeper' olds news h h' n c old new a 1 (all_drawn l keeper keeper' olds news h h' n c old new a q.run.2 spare) in
      let none : (ready before c 1).left ≡ old.left = ap (λ (p : PassState). p.left) r.0 in
      let few = found.few in
      let no_room : has_room before c 1 ≡ false = lt-leb 1 (ready before c 1).left (omega arith) in
      let staged : is_server_stage stage ≡ true = good_stage in
      rw (staged, no_room) refl
    where
      good_stage : is_server_stage stage ≡ true
      good_stage = and_from (nat_le 1 stage) (nat_le stage 14) (le-leb 1 stage good.0) (le-leb stage 14 good.1)

pub alone_submit : AloneSubmit
alone_submit stage body l keeper keeper' olds news h h' n c old new (Ok id) a turn says = goes l keeper keeper' olds news h h' n c old new a turn stage body id says
alone_submit stage body l keeper keeper' olds news h h' n c old new (Err e) a turn says = elim says [
  | inl p ↦ ap (λ t. (Err e, t)) (quiet_leaves l keeper keeper' olds news h h' n c old new a turn (same_quiet old new p.2)) ∙ (ap (λ x. (Err x, was l keeper keeper' olds news h h' n c old new a)) p.0 ∙ sym (bad l keeper keeper' olds news h h' n c old new a turn stage body p.1))
  | inr p ↦ ap (λ t. (Err e, t)) (quiet_leaves l keeper keeper' olds news h h' n c old new a turn (no_block_quiet 1 old new p.2)) ∙ (ap (λ x. (Err x, was l keeper keeper' olds news h h' n c old new a)) p.0 ∙ sym (full l keeper keeper' olds news h h' n c old new a turn stage body p.1 p.2))
]
