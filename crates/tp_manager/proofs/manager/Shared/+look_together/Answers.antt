use Rattle.std.proofs.Common.{refl, ◌∙◌, ◌+◌, ◌≤◌, ap, rules, length}
use mathlib.Core.List.{IsPrefix}
use Rattle.tp_rule.specs.Tables.{table_limits, table_of}
use Rattle.tp_rule.specs.Views.{seen_by, view_of}
use Rattle.tp_rule.proofs.Seats.{one_has}
use Rattle.tp_manager.specs.Bounds.{led_steps}
use Rattle.tp_manager.specs.Shown.{PassShown, spot}
use Rattle.tp_manager.specs.Together.{IsAt}
use Rattle.tp_manager.specs.CallSteps.{Steady}
use Rattle.tp_manager.specs.BetweenCalls.{RemembersDrawn}
use Rattle.tp_manager.proofs.Calls.Passes.{rests_drawn, rests_looked, steady_at}
use Rattle.tp_manager.proofs.Calls.CallSteps.{looked, looked_begins, rises_same, remembers}
use Rattle.tp_manager.proofs.Accounts.Together.{first_at, rest_at, met_one, joined_acted, joined_drawn, joined_found, joined_lots, joined_others, joined_risen, joined_shown, looks_with}
use Rattle.tp_manager.proofs.manager.Shared.+look_together.Goals as goal
use Rattle.tp_manager.proofs.manager.Shared.+look_together.Goals.{After-meet_seat-2, After-part}

at_table : (t : _) (c : After-meet_seat-2 t) → IsAt (table_of c.args.self.now.words) (table_limits c.args.self.now.words) c.in-Some.pass.now
at_table t c = first_at (table_of c.args.self.now.words) (table_limits c.args.self.now.words) c.args.passes.now c.in-Some.pass.now c.in-Some.rest.now c.in-Some.ensures.cases.0 c.requires.passes

steady : (t : _) (c : After-meet_seat-2 t) → Steady (table_limits c.args.self.now.words) (view_of c.pass.inside.seat)
steady t c = steady_at _ _ _ (ap (λ (p : PassShown). p.limits) c.pass.view_is ∙ (at_table t c).limits_are) c.pass.invariant.0.steady

pub join-requires-clause-pass : goal.join-requires-clause-pass
join-requires-clause-pass t c = let at = (goal.at.join-requires-clause-pass t c).After-meet_seat-2 in
    one_has (view_of c.meet_seat-2.new.others) (met_one (table_limits c.args.self.now.words) (seen_by c.meet_seat-2.new.first) (view_of c.pass.inside.seat) (view_of c.meet_seat-2.new.others) (steady t at).pass.0 c.meet_seat-2.ensures.others)

pub look_together-drawn-requires : goal.look_together-drawn-requires
look_together-drawn-requires t c = let at = (goal.at.look_together-drawn-requires t c).After-meet_seat-2 in let table = table_of c.args.self.now.words in let l = table_limits c.args.self.now.words in (
  search rules,
  (
    (c.meet_seat-2.ensures.same.0 ∙ c.requires.own.0, c.join.ensures.same ∙ (c.meet_seat-2.ensures.same.1 ∙ (ap (λ (p : PassShown). p.table) c.pass.view_is ∙ (at_table t at).table_is))),
    (c.meet_seat-2.ensures.acted.walk.steady, rest_at table l c.args.passes.now c.in-Some.pass.now c.in-Some.rest.now c.in-Some.ensures.cases.0 c.requires.passes),
  ),
)

pub part-requires : goal.part-requires
part-requires t c = let at = (goal.at.part-requires t c).After-meet_seat-2 in record { own = c.look_together-drawn.ensures.same.1 ∙ (c.join.ensures.same ∙ (c.meet_seat-2.ensures.same.1 ∙ (ap (λ (p : PassShown). p.table) c.pass.view_is ∙ (at_table t at).table_is))) }

-- what was seen at the meeting begins what all have seen
more : (t : _) (c : After-part t) → IsPrefix (seen_by c.meet_seat-2.new.first) (seen_by c.look_together-drawn.new.first)
more t c = looked_begins (table_limits c.args.self.now.words) _ _ _ (looked _ _ _ _ c.look_together-drawn.ensures.look.first)

-- what the pass has found by then
drawn : (t : _) (c : After-part t) → Steady (table_limits c.args.self.now.words) (view_of c.pass.inside.seat) → RemembersDrawn (view_of c.part.new.seat) c.look_together-drawn.result
drawn t c s = let l = table_limits c.args.self.now.words in
    joined_drawn l (view_of c.pass.inside.seat) (view_of c.meet_seat-2.new.others) (view_of c.join.new.seat) (view_of c.look_together-drawn.new.others) (view_of c.part.new.seat) (view_of c.args.others.now) (view_of c.part.result)
    (seen_by c.meet_seat-2.new.first) (seen_by c.look_together-drawn.new.first) s c.meet_seat-2.ensures.others c.meet_seat-2.ensures.saw c.join.ensures.joins c.look_together-drawn.ensures.look.others c.look_together-drawn.ensures.look.first.walk.steady.shows.legal (more t c)
    c.part.ensures.keeps c.part.ensures.parts _ _ _ c.look_together-drawn.ensures.found

risen : (t : _) (c : After-part t) → Steady (table_limits c.args.self.now.words) (view_of c.pass.inside.seat) → c.pass.inside.run.drawn ≤ c.look_together-drawn.result
risen t c s = let l = table_limits c.args.self.now.words in
    joined_risen l (view_of c.pass.inside.seat) (view_of c.meet_seat-2.new.others) (view_of c.join.new.seat) (view_of c.look_together-drawn.new.others) (view_of c.part.new.seat) (view_of c.args.others.now) (view_of c.part.result)
    (seen_by c.meet_seat-2.new.first) (seen_by c.look_together-drawn.new.first) s c.meet_seat-2.ensures.others c.meet_seat-2.ensures.saw c.join.ensures.joins c.look_together-drawn.ensures.look.others c.look_together-drawn.ensures.look.first.walk.steady.shows.legal (more t c)
    c.part.ensures.keeps c.part.ensures.parts _ c.pass.inside.run.drawn _ _ c.look_together-drawn.ensures.found c.pass.invariant.0.drawn

pub invariant_of-pass : goal.invariant_of-pass
invariant_of-pass t c = let at = goal.at.invariant_of-pass t c in let l = table_limits c.args.self.now.words in let s = steady t at.After-meet_seat-2 in
    let a = joined_acted l (view_of c.pass.inside.seat) (view_of c.meet_seat-2.new.others) (view_of c.join.new.seat) (view_of c.look_together-drawn.new.others) (view_of c.part.new.seat) (view_of c.args.others.now) (view_of c.part.result)
    (seen_by c.meet_seat-2.new.first) (seen_by c.look_together-drawn.new.first) s c.meet_seat-2.ensures.others c.meet_seat-2.ensures.saw c.join.ensures.joins c.look_together-drawn.ensures.look.others c.look_together-drawn.ensures.look.first.walk.steady.shows.legal (more t at.After-part)
    c.part.ensures.keeps c.part.ensures.parts in
    (rests_drawn c.part.new.seat _ _ _ _ c.look_together-drawn.result (rests_looked l c.pass.inside.seat c.part.new.seat (s.pass.1) _ _ _ _ c.pass.invariant.0 led_steps (looked l led_steps _ _ a)) (drawn t at.After-part s), remembers c.pass.inside.lows _ _ _ _ _ a.walk c.pass.invariant.1)

pub returns-clause-look : goal.returns-clause-look
returns-clause-look t c = let at = goal.at.returns-clause-look t c in let table = table_of c.args.self.now.words in let l = table_limits c.args.self.now.words in let s = steady t at.After-meet_seat-2 in
    looks_with table l (length c.in-Some.rest.now + 1) (length c.args.passes.now + 1) (view_of c.args.first.now) (view_of c.meet_seat-2.new.first) (view_of c.look_together-drawn.new.first) (view_of c.args.others.now) (view_of c.part.result)
    c.args.passes.now c.in-Some.rest.now c.look_together-drawn.new.passes c.in-Some.pass.now _ c.in-Some.ensures.cases.0 refl refl c.meet_seat-2.ensures.acted c.look_together-drawn.ensures.look.first
    (joined_others l (view_of c.pass.inside.seat) (view_of c.meet_seat-2.new.others) (view_of c.join.new.seat) (view_of c.look_together-drawn.new.others) (view_of c.part.new.seat) (view_of c.args.others.now) (view_of c.part.result)
    (seen_by c.meet_seat-2.new.first) (seen_by c.look_together-drawn.new.first) s c.meet_seat-2.ensures.others c.meet_seat-2.ensures.saw c.join.ensures.joins c.look_together-drawn.ensures.look.others c.look_together-drawn.ensures.look.first.walk.steady.shows.legal (more t at.After-part)
    c.part.ensures.keeps c.part.ensures.parts)
    (joined_shown l (view_of c.pass.inside.seat) (view_of c.meet_seat-2.new.others) (view_of c.join.new.seat) (view_of c.look_together-drawn.new.others) (view_of c.part.new.seat) (view_of c.args.others.now) (view_of c.part.result)
    (seen_by c.meet_seat-2.new.first) (seen_by c.look_together-drawn.new.first) s c.meet_seat-2.ensures.others c.meet_seat-2.ensures.saw c.join.ensures.joins c.look_together-drawn.ensures.look.others c.look_together-drawn.ensures.look.first.walk.steady.shows.legal (more t at.After-part)
    c.part.ensures.keeps c.part.ensures.parts table (spot c.pass.inside.seat.table c.pass.inside.lows c.pass.inside.run.drawn c.pass.inside.from) (spot c.part.new.seat.table c.pass.inside.lows c.look_together-drawn.result c.pass.inside.from) c.in-Some.pass.now c.pass.view_is
    (c.part.ensures.same ∙ (c.look_together-drawn.ensures.same.1 ∙ (c.join.ensures.same ∙ (c.meet_seat-2.ensures.same.1 ∙ (ap (λ (p : PassShown). p.table) c.pass.view_is ∙ (at_table t at.After-meet_seat-2).table_is)))))
    (rises_same c.pass.inside.lows, risen t at.After-part s) refl)
    c.look_together-drawn.ensures.look.passes

pub returns-clause-found : goal.returns-clause-found
returns-clause-found t c = let at = goal.at.returns-clause-found t c in let l = table_limits c.args.self.now.words in let s = steady t at.After-meet_seat-2 in
    joined_found l (view_of c.pass.inside.seat) (view_of c.meet_seat-2.new.others) (view_of c.join.new.seat) (view_of c.look_together-drawn.new.others) (view_of c.part.new.seat) (view_of c.args.others.now) (view_of c.part.result)
    (seen_by c.meet_seat-2.new.first) (seen_by c.look_together-drawn.new.first) s c.meet_seat-2.ensures.others c.meet_seat-2.ensures.saw c.join.ensures.joins c.look_together-drawn.ensures.look.others c.look_together-drawn.ensures.look.first.walk.steady.shows.legal (more t at.After-part)
    c.part.ensures.keeps c.part.ensures.parts _ (view_of c.args.first.now) (view_of c.meet_seat-2.new.first) _ (λ z. c.meet_seat-2.ensures.acted.walk.knows z) c.look_together-drawn.ensures.found

pub returns-clause-shares : goal.returns-clause-shares
returns-clause-shares t c = let at = goal.at.returns-clause-shares t c in let l = table_limits c.args.self.now.words in let s = steady t at.After-meet_seat-2 in
    joined_lots l (view_of c.pass.inside.seat) (view_of c.meet_seat-2.new.others) (view_of c.join.new.seat) (view_of c.look_together-drawn.new.others) (view_of c.part.new.seat) (view_of c.args.others.now) (view_of c.part.result)
    (seen_by c.meet_seat-2.new.first) (seen_by c.look_together-drawn.new.first) s c.meet_seat-2.ensures.others c.meet_seat-2.ensures.saw c.join.ensures.joins c.look_together-drawn.ensures.look.others c.look_together-drawn.ensures.look.first.walk.steady.shows.legal (more t at.After-part)
    c.part.ensures.keeps c.part.ensures.parts _ (view_of c.look_together-drawn.new.first) c.look_together-drawn.new.passes (spot c.part.new.seat.table c.pass.inside.lows c.look_together-drawn.result c.pass.inside.from) c.look_together-drawn.ensures.shares
