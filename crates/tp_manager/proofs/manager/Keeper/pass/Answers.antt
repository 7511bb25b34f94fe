use Rattle.std.proofs.Common.{refl, replicate, ◌∙◌, ◌*◌, ◌<◌, ap, arith, subst, sym}
use Rattle.tp_model.specs.declared.types.Limits.{Limits}
use Rattle.tp_manager.specs.Shown.{ManagerShown, KeeperShown, marks_of}
use Rattle.tp_rule.specs.declared.view.Hand.{Hand}
use Rattle.tp_manager.proofs.Calls.Fresh.{keeps_on, no_gaps, none_in, no_lows, fresh_hand, fresh_seen, fresh_rests, fresh_shows, fresh_limits}
use Rattle.tp_rule.specs.Views.{view_of}
use Rattle.tp_manager.specs.Marks.{IsBehind, IsGap}
use Rattle.tp_manager.proofs.Claims.Runs.{of_none}
use Rattle.tp_manager.proofs.manager.Keeper.pass.Goals as goal

pub invariant_of-result-2 : goal.invariant_of-result-2
invariant_of-result-2 c = (
  fresh_rests c.self.inside.seat c.self.inside.limits c.self.inside.given c.self.invariant c.if-self.false c.hand_out-seat.result c.hand_out-seat.ensures.hands_out,
  record {
    marks = λ k p some. absurd (let none = no_lows 16 33 k p in omega arith);
    gaps = λ k p. subst (IsGap k (view_of c.hand_out-seat.result)) (sym (no_gaps 16 99 k p)) (of_none k (view_of c.hand_out-seat.result).seen 0, (omega arith, λ i low high. absurd (omega arith)));
    behind = λ k. subst (IsBehind (view_of c.hand_out-seat.result).limits (marks_of (replicate 16 (replicate 33 0)) k)) (sym (none_in 16 k))
        (subst (λ (z : Limits). 0 < z.parts) (sym (fresh_limits c.self.inside.seat c.self.inside.limits c.self.inside.given c.self.invariant c.if-self.false c.hand_out-seat.result c.hand_out-seat.ensures.hands_out)) c.self.invariant.valid.parts.0, λ p less. absurd (omega arith));
    committed = λ d w own low. let none = none_in 33 d in let from = own.1 in absurd (omega arith);
    streak = λ w low. absurd (omega arith);
  },
)

pub invariant_of-self : goal.invariant_of-self
invariant_of-self c = keeps_on c.self.inside.seat c.self.inside.limits c.self.inside.given c.self.invariant c.if-self.false c.hand_out-seat.new.keeper c.hand_out-seat.ensures.keeps

pub returns-clause-own : goal.returns-clause-own
returns-clause-own c = let k = c.self.invariant in let seat = c.hand_out-seat.result in (
  (
    c.hand_out-seat.ensures.at_table ∙ ap (λ (m : ManagerShown). m.table) c.manager.view_is,
    fresh_limits c.self.inside.seat c.self.inside.limits c.self.inside.given k c.if-self.false seat c.hand_out-seat.ensures.hands_out ∙ (ap (λ (s : KeeperShown). s.limits) c.self.view_is ∙ c.requires.keeper.1),
  ),
  fresh_shows c.self.inside.seat c.self.inside.limits c.self.inside.given k c.if-self.false seat c.hand_out-seat.ensures.hands_out,
)

pub returns-clause-fresh : goal.returns-clause-fresh
returns-clause-fresh c = let h = fresh_hand c.self.inside.seat c.self.inside.limits c.self.inside.given c.self.invariant c.if-self.false c.hand_out-seat.result c.hand_out-seat.ensures.hands_out in (
  ap (λ (a : Hand). a.number) h ∙ ap (λ (s : KeeperShown). s.given) c.self.view_is,
  ap (λ (a : Hand). a.mine) h,
  fresh_seen c.self.inside.seat c.self.inside.limits c.self.inside.given c.self.invariant c.if-self.false c.hand_out-seat.result c.hand_out-seat.ensures.hands_out ∙ ap (λ (s : KeeperShown). s.seen) c.self.view_is,
  ap (λ (a : Hand). a.open_unit) h,
  no_lows 16 33,
  refl,
)

pub returns-clause-turn : goal.returns-clause-turn
returns-clause-turn c = none_in 16

pub returns-clause-rows : goal.returns-clause-rows
returns-clause-rows c = let h = fresh_hand c.self.inside.seat c.self.inside.limits c.self.inside.given c.self.invariant c.if-self.false c.hand_out-seat.result c.hand_out-seat.ensures.hands_out in
    let lim = fresh_limits c.self.inside.seat c.self.inside.limits c.self.inside.given c.self.invariant c.if-self.false c.hand_out-seat.result c.hand_out-seat.ensures.hands_out in (
      ap (λ (a : Hand). a.next) h ∙ (λ i. sym (ap (λ (a : Hand). a.number) h) i * (sym lim i).rows),
      ap (λ (a : Hand). a.left) h ∙ ap (λ (l : Limits). l.rows) (sym lim),
      ap (λ (a : Hand). a.blocks) h,
    )
