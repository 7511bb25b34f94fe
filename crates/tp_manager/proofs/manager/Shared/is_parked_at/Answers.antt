use Rattle.std.proofs.Common.{◌+◌, ◌≤◌, ℕ, arith, refl, inl, inr, ⊎_elim, subst}
use Rattle.tp_model.specs.declared.types.Limits.{Limits}
use Rattle.tp_model.proofs.Bridges.{begins_refl}
use Rattle.tp_model.specs.History.{status_of}
use Rattle.tp_rule.specs.Tables.{table_limits}
use Rattle.tp_rule.specs.Views.{seen_by, view_of}
use Rattle.tp_rule.specs.declared.view.View.{View}
use Rattle.tp_manager.specs.Bounds.{error_steps}
use Rattle.tp_manager.specs.Finds.{HasFate, PassedOver}
use Rattle.tp_manager.specs.CallSteps.{Acted, Looked}
use Rattle.tp_manager.specs.Marks.{Rose}
use Rattle.tp_manager.specs.Scans.{EachRow, Sought}
use Rattle.tp_manager.proofs.Calls.CallSteps.{acted_few, acted_then, looked, looked_begins, looked_none, looked_then}
use Rattle.tp_manager.proofs.Rows.Looks.{there_later}
use Rattle.tp_manager.proofs.Families.Cancels.{few_rows}
use Rattle.tp_manager.proofs.Rows.Finds.{head_aside, none_over, over_aside, over_fate, over_unborn, over_widens}
use Rattle.tp_manager.proofs.Marks.Raises.{near_low, near_past, rose_aside, rose_dead, rose_none, rose_one}
use Rattle.tp_manager.proofs.Rows.Seeks.{sought_on}
use Rattle.tp_manager.proofs.manager.Shared.is_parked_at.Goals as goal
use Rattle.tp_manager.proofs.manager.Shared.is_parked_at.Goals.{After-contents_from, After-head_on-head, After-fate_of-fate}

two : (c : After-contents_from) → Acted (table_limits c.args.self.now.words) 2 (view_of c.args.seat.now) (view_of c.contents_from.new.seat)
two c = acted_then _ 1 1 _ _ _ c.head_on-head.ensures.acted c.contents_from.ensures.looked

-- the steps from the head to the status
rest : (c : After-fate_of-fate) → Looked (table_limits c.args.self.now.words) 4 (view_of c.head_on-head.new.seat) (view_of c.fate_of-fate.new.seat)
rest c = looked_then _ 1 _ _ _ _ c.contents_from.ensures.looked (looked _ _ _ _ c.fate_of-fate.ensures.acted)

-- what is passed over where the row's own element is
passed : (c : After-head_on-head) (m : ℕ) (y : View) → Looked (table_limits c.args.self.now.words) m (view_of c.head_on-head.new.seat) y → 1 + m ≤ error_steps
    → PassedOver (table_limits c.args.self.now.words) c.args.row.now (seen_by c.head_on-head.new.seat) y.seen
    → Sought (table_limits c.args.self.now.words) (error_steps) (EachRow (PassedOver (table_limits c.args.self.now.words)) c.args.row.now c.head_on-head.new.row) (view_of c.args.seat.now) y
passed c m y a le own = let l : Limits = table_limits c.args.self.now.words in let e = c.head_on-head.ensures in
    sought_on l (PassedOver l) (over_widens l) (error_steps) m c.args.row.now c.head_on-head.new.row (view_of c.args.seat.now) (view_of c.head_on-head.new.seat) y e.acted a le (none_over l) e.none own

pub returns-then-not-is_listed-clause-acted : goal.returns-then-not-is_listed-clause-acted
returns-then-not-is_listed-clause-acted c = acted_few _ 1 _ _ _ (omega arith) c.head_on-head.ensures.acted

pub returns-then-not-is_listed-clause-no : goal.returns-then-not-is_listed-clause-no
returns-then-not-is_listed-clause-no c = λ _. let l : Limits = table_limits c.args.self.now.words in let h = seen_by c.head_on-head.new.seat in let e = c.head_on-head.ensures in
    passed (goal.at.returns-then-not-is_listed-clause-no c).After-head_on-head 0 (view_of c.head_on-head.new.seat) (looked_none l _ e.acted.walk.steady) (omega arith)
    (over_aside l c.args.row.now h h e.acted.walk.steady.shows.legal (begins_refl h) (λ x p. head_aside 0 c.head_on-head.result x (e.told.born x p) (c.is_listed.ensures.aside c.if-not-is_listed.true)))

pub returns-then-not-is_listed-clause-low : goal.returns-then-not-is_listed-clause-low
returns-then-not-is_listed-clause-low c = let on = c.head_on-head.ensures.on.on in let low = c.requires.low in (
  near_low (table_limits c.args.self.now.words) c.args.low.now c.past_other.result c.args.row.now c.head_on-head.new.row low on c.past_other.ensures.moves,
  rose_aside (table_limits c.args.self.now.words) 0 (view_of c.head_on-head.new.seat) c.args.low.now c.past_other.result c.args.row.now c.head_on-head.result c.head_on-head.ensures.told.knows
      (c.is_listed.ensures.aside c.if-not-is_listed.true) c.past_other.ensures.moves,
)

-- nothing more is known of no use
still_low : (c : After-head_on-head) (y : View) → (c.args.low.now ≤ c.head_on-head.new.row) × Rose 0 y c.args.low.now c.args.low.now
still_low c y = let on = c.head_on-head.ensures.on.on in let low = c.requires.low in (omega arith, rose_none (table_limits c.args.self.now.words) 0 y c.args.low.now)

pub returns-in-DeadDraft-clause-acted : goal.returns-in-DeadDraft-clause-acted
returns-in-DeadDraft-clause-acted c = acted_few _ 2 _ _ _ (omega arith) (two (goal.at.returns-in-DeadDraft-clause-acted c).After-contents_from)

pub returns-in-DeadDraft-clause-no : goal.returns-in-DeadDraft-clause-no
returns-in-DeadDraft-clause-no c = λ _. let l : Limits = table_limits c.args.self.now.words in let b = c.contents_from.ensures.looked in
    passed (goal.at.returns-in-DeadDraft-clause-no c).After-head_on-head 1 (view_of c.contents_from.new.seat) b (omega arith) (over_unborn l c.args.row.now _ (seen_by c.contents_from.new.seat) (looked_begins l _ _ _ b) c.in-DeadDraft.ensures.told.0)

pub returns-in-DeadDraft-clause-low : goal.returns-in-DeadDraft-clause-low
returns-in-DeadDraft-clause-low c = let on = c.head_on-head.ensures.on.on in let low = c.requires.low in (
  near_past (table_limits c.args.self.now.words) c.args.low.now c.past.result c.args.row.now c.head_on-head.new.row low on c.past.ensures.moves,
  rose_dead (table_limits c.args.self.now.words) 0 (view_of c.contents_from.new.seat) c.args.low.now c.past.result c.args.row.now c.in-DeadDraft.ensures.told.1 c.past.ensures.moves,
)

pub returns-in-Nothing-clause-acted : goal.returns-in-Nothing-clause-acted
returns-in-Nothing-clause-acted c = acted_few _ 2 _ _ _ (omega arith) (two (goal.at.returns-in-Nothing-clause-acted c).After-contents_from)

pub returns-in-Nothing-clause-no : goal.returns-in-Nothing-clause-no
returns-in-Nothing-clause-no c = λ _. let l : Limits = table_limits c.args.self.now.words in let b = c.contents_from.ensures.looked in
    passed (goal.at.returns-in-Nothing-clause-no c).After-head_on-head 1 (view_of c.contents_from.new.seat) b (omega arith) (over_unborn l c.args.row.now _ (seen_by c.contents_from.new.seat) (looked_begins l _ _ _ b) c.in-Nothing.ensures.told.0)

pub returns-in-Nothing-clause-low : goal.returns-in-Nothing-clause-low
returns-in-Nothing-clause-low c = still_low (goal.at.returns-in-Nothing-clause-low c).After-head_on-head (view_of c.contents_from.new.seat)

pub past_other-requires : goal.past_other-requires
past_other-requires c = let few = few_rows (table_limits c.args.self.now.words) c.args.self.now.words.places.valid in let less = c.requires.row in omega arith

pub past-requires : goal.past-requires
past-requires c = let few = few_rows (table_limits c.args.self.now.words) c.args.self.now.words.places.valid in let less = c.requires.row in omega arith

pub past_over-requires : goal.past_over-requires
past_over-requires c = let few = few_rows (table_limits c.args.self.now.words) c.args.self.now.words.places.valid in let less = c.requires.row in omega arith

pub returns-clause-low : goal.returns-clause-low
returns-clause-low c = let l : Limits = table_limits c.args.self.now.words in let on = c.head_on-head.ensures.on.on in let low = c.requires.low in let s = c.fate_of-fate.ensures in let g = seen_by c.fate_of-fate.new.seat in
    let there = there_later _ _ c.args.row.now c.in-Holds.birth (looked_begins l _ _ _ (looked l _ _ _ s.acted)) c.in-Holds.ensures.told.0 in (
      near_low (table_limits c.args.self.now.words) c.args.low.now c.past_over.result c.args.row.now c.head_on-head.new.row low on c.past_over.ensures.moves,
      rose_one l 0 (view_of c.fate_of-fate.new.seat) c.args.low.now c.past_over.result c.args.row.now c.in-Holds.birth (status_of l.attempts g c.args.row.now) s.acted.walk.steady.pass.1 there refl
          (⊎_elim (λ e. inl e) (λ t. inr (t.0, t.1, subst (HasFate l c.args.row.now (seen_by c.contents_from.new.seat) g) t.2 s.fate)) c.past_over.ensures.moves),
    )

pub returns-clause-acted : goal.returns-clause-acted
returns-clause-acted c = let l : Limits = table_limits c.args.self.now.words in
    acted_few l 5 error_steps _ _ (omega arith) (acted_then l 1 _ _ _ _ c.head_on-head.ensures.acted (rest (goal.at.returns-clause-acted c).After-fate_of-fate))

pub returns-clause-no : goal.returns-clause-no
returns-clause-no c = λ no. let l : Limits = table_limits c.args.self.now.words in let at = goal.at.returns-clause-no c in let a = rest at.After-fate_of-fate in
    passed at.After-head_on-head _ (view_of c.fate_of-fate.new.seat) a (omega arith)
    (over_fate l c.args.row.now _ (seen_by c.contents_from.new.seat) (seen_by c.fate_of-fate.new.seat) c.fate_of-fate.result (looked_begins l _ _ _ c.contents_from.ensures.looked) (looked_begins l _ _ _ (looked l _ _ _ c.fate_of-fate.ensures.acted)) (c.is_error.ensures.no no) c.fate_of-fate.ensures.fate)

pub returns-clause-yes : goal.returns-clause-yes
returns-clause-yes c = λ yes. let l : Limits = table_limits c.args.self.now.words in let g = seen_by c.fate_of-fate.new.seat in
    let there = there_later _ _ c.args.row.now c.in-Holds.birth (looked_begins l _ _ _ (looked l _ _ _ c.fate_of-fate.ensures.acted)) c.in-Holds.ensures.told.0 in
    (there.0, there.1, subst (HasFate l c.args.row.now (seen_by c.contents_from.new.seat) g) (c.is_error.ensures.yes yes) c.fate_of-fate.ensures.fate)
