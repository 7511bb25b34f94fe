use Rattle.std.proofs.Common.{◌≡◌, ◌+◌, ◌*◌, ◌<◌, ◌≤◌, ⊎_elim, ℕ, None, length, slice_index, slice_set, sym, ◌∙◌, ap, refl, rules, arith, subst}
use Rattle.std.proofs.lemmas.List.{get_or-set_same, get_or-set_other}
use mathlib.Core.Logic.{dite}
use native.Mathlib.Decide.{dec_le, ℕ_discrete}
use Rattle.tp_model.specs.declared.types.Limits.{Limits}
use Rattle.tp_model.specs.declared.trace.StepKind.TheVariants as kinds
use Rattle.tp_model.specs.History.{end_of}
use Rattle.tp_model.specs.Steps.{IsUnitOf}
use Rattle.tp_rule.specs.Words.{unit_value}
use Rattle.tp_rule.specs.Tables.{table_limits}
use Rattle.tp_rule.specs.Views.{seen_by, view_of}
use Rattle.tp_manager.specs.CallSteps.{Acted}
use Rattle.tp_manager.specs.Scans.{EachRow, Sought}
use Rattle.tp_rule.specs.Rule.{IsCommitted}
use Rattle.tp_manager.specs.UnitsSeen.{NoneAborted, RemembersUnits}
use Rattle.tp_manager.proofs.Calls.CallSteps.{acted_by, looked, units_kept}
use Rattle.tp_manager.proofs.Rows.UnitsSeen.{well_all, well_sought, well_until}
use Rattle.tp_manager.proofs.manager.Shared.shows_none_aborted.Goals as goal
use Rattle.tp_manager.proofs.manager.Shared.shows_none_aborted.Goals.{After-load_unit_tail-found, In-Committed}

-- the unit that was looked at
abbrev unit : (c : After-load_unit_tail-found) → ℕ
unit c = c.args.part * c.args.self.now.places.limits.units + c.earlier-at.result

-- the first one that wasn't known to be committed
abbrev next : (c : After-load_unit_tail-found) → ℕ
next c = c.args.part * c.args.self.now.places.limits.units + slice_index c.args.units.now.committed c.args.part

near : (c : After-load_unit_tail-found) → next c ≤ unit c
near c = let e = c.earlier-at.ensures in let less = c.if-count-all.false in ⊎_elim (λ is. omega arith) (λ is. omega arith) e.2

acted : (c : After-load_unit_tail-found) → Acted (table_limits c.args.self.now.words) 1 (view_of c.args.seat.now) (view_of c.load_unit_tail-found.new.seat)
acted c = acted_by _ kinds.Load _ _ c.requires.steady.steady refl c.load_unit_tail-found.ensures.grew

kept : (c : After-load_unit_tail-found) → RemembersUnits (view_of c.load_unit_tail-found.new.seat) c.args.units.now.committed
kept c = units_kept c.args.units.now.committed _ 1 _ _ _ (acted c).walk c.requires.remembers

-- what the seat knows of the limits
lim : (c : After-load_unit_tail-found) → (view_of c.load_unit_tail-found.new.seat).limits ≡ table_limits c.args.self.now.words
lim c = (acted c).walk.steady.pass.1

wide : (c : After-load_unit_tail-found) → (table_limits c.args.self.now.words).units ≡ c.args.self.now.places.limits.units
wide c = ap (λ (z : Limits). z.units) c.args.self.now.same

first : (c : After-load_unit_tail-found) → c.args.part * (table_limits c.args.self.now.words).units ≡ c.args.part * c.args.self.now.places.limits.units
first c = ap (λ (z : Limits). c.args.part * z.units) c.args.self.now.same

own : (c : After-load_unit_tail-found) → IsUnitOf (table_limits c.args.self.now.words) c.args.part (unit c)
own c = let a = wide c in let m = first c in let less = c.if-count-all.false in let top = c.earlier-at.ensures.1 in (c.requires.part, omega arith, omega arith)

known : (c : After-load_unit_tail-found) (w : ℕ) → IsUnitOf (table_limits c.args.self.now.words) c.args.part w → w < next c → IsCommitted (seen_by c.load_unit_tail-found.new.seat) w
known c w its less = kept c c.args.part w (subst (λ (z : Limits). IsUnitOf z c.args.part w) (sym (lim c)) its)
    (subst (λ (z : Limits). w < c.args.part * z.units + slice_index c.args.units.now.committed c.args.part) (sym (lim c ∙ c.args.self.now.same)) less)

-- where the tail reaches back to that one, all before the unit are committed
before : (c : After-load_unit_tail-found) → unit c ≤ next c + c.load_unit_tail-found.result.tail → (w : ℕ) → IsUnitOf (table_limits c.args.self.now.words) c.args.part w → w < unit c → IsCommitted (seen_by c.load_unit_tail-found.new.seat) w
before c long w its less = dite (dec_le (next c) w)
    (λ past. c.load_unit_tail-found.ensures.before w less (omega arith))
    (λ not. known c w its (omega arith))

-- so many of the part's first units are remembered
stored : (c : After-load_unit_tail-found) (n : ℕ) → ((w : ℕ) → IsUnitOf (table_limits c.args.self.now.words) c.args.part w → w < c.args.part * c.args.self.now.places.limits.units + n → IsCommitted (seen_by c.load_unit_tail-found.new.seat) w)
    → RemembersUnits (view_of c.load_unit_tail-found.new.seat) (slice_set c.args.units.now.committed c.args.part n)
stored c n done = let xs = c.args.units.now.committed in let p : ℕ = c.args.part in let inside : p < length xs = search rules in λ d w its low. dite (ℕ_discrete d p)
    (λ same. let k = c.args.self.now.places.limits in let is = lim c ∙ c.args.self.now.same in
    let less : w < p * k.units + n = subst (λ z. w < p * k.units + z) (get_or-set_same xs p n 0 inside) (subst (λ (z : ℕ × Limits). w < z.0 * z.1.units + slice_index (slice_set xs p n) z.0) (λ j. (same j, is j)) low) in
    let own_w : IsUnitOf (view_of c.load_unit_tail-found.new.seat).limits p w = subst (λ z. IsUnitOf (view_of c.load_unit_tail-found.new.seat).limits z w) same its in
    done w (subst (λ (z : Limits). IsUnitOf z p w) (lim c) own_w) less)
    (λ other. kept c d w its (subst (λ z. w < d * (view_of c.load_unit_tail-found.new.seat).limits.units + z) (get_or-set_other xs p d n 0 other) low))

-- the unit is committed
now : (c : In-Committed) (at : After-load_unit_tail-found) → IsCommitted (seen_by c.load_unit_tail-found.new.seat) (c.args.part * c.args.self.now.places.limits.units + c.earlier-at.result)
now c at = (c.in-Committed.first, c.in-Committed.count, sym c.load_unit_tail-found.ensures.end ∙ ap unit_value c.in-Committed.is)

pub returns-in-Undecided-clause-remembers : goal.returns-in-Undecided-clause-remembers
returns-in-Undecided-clause-remembers c = kept (goal.at.returns-in-Undecided-clause-remembers c).After-load_unit_tail-found

pub returns-in-Undecided-clause-looked : goal.returns-in-Undecided-clause-looked
returns-in-Undecided-clause-looked c = looked _ 1 _ _ (acted (goal.at.returns-in-Undecided-clause-looked c).After-load_unit_tail-found)

pub returns-in-Undecided-clause-none : goal.returns-in-Undecided-clause-none
returns-in-Undecided-clause-none c = λ yes. let l : Limits = table_limits c.args.self.now.words in let at = (goal.at.returns-in-Undecided-clause-none c).After-load_unit_tail-found in let h = seen_by c.load_unit_tail-found.new.seat in
    let un : end_of h (unit at) ≡ None = sym c.load_unit_tail-found.ensures.end ∙ ap unit_value c.in-Undecided.is in
    let first_one : c.earlier-at.result ≤ slice_index c.args.units.now.committed c.args.part = search rules in
    well_sought l c.args.part _ _ (acted at) (well_until l h c.args.part (unit at) (acted at).walk.steady.shows.legal c.load_unit_tail-found.ensures.order (own at) (λ w its less. known at w its (omega arith)) un)

pub returns-in-Aborted-clause-remembers : goal.returns-in-Aborted-clause-remembers
returns-in-Aborted-clause-remembers c = kept (goal.at.returns-in-Aborted-clause-remembers c).After-load_unit_tail-found

pub returns-in-Aborted-clause-looked : goal.returns-in-Aborted-clause-looked
returns-in-Aborted-clause-looked c = looked _ 1 _ _ (acted (goal.at.returns-in-Aborted-clause-looked c).After-load_unit_tail-found)

pub returns-then-found-at-clause-remembers : goal.returns-then-found-at-clause-remembers
returns-then-found-at-clause-remembers c = kept (goal.at.returns-then-found-at-clause-remembers c).After-load_unit_tail-found

pub returns-then-found-at-clause-looked : goal.returns-then-found-at-clause-looked
returns-then-found-at-clause-looked c = looked _ 1 _ _ (acted (goal.at.returns-then-found-at-clause-looked c).After-load_unit_tail-found)

-- where it is the last one, all are
shown : (c : After-load_unit_tail-found) → unit c ≤ next c + c.load_unit_tail-found.result.tail → c.earlier-at.result + 1 ≡ c.args.self.now.places.limits.units → IsCommitted (seen_by c.load_unit_tail-found.new.seat) (unit c)
    → Sought (table_limits c.args.self.now.words) 1 (EachRow (NoneAborted (table_limits c.args.self.now.words)) c.args.part (c.args.part + 1)) (view_of c.args.seat.now) (view_of c.load_unit_tail-found.new.seat)
shown c long last done = let l : Limits = table_limits c.args.self.now.words in let h = seen_by c.load_unit_tail-found.new.seat in let a = wide c in let m = first c in
    well_sought l c.args.part _ _ (acted c) (well_all l h c.args.part (λ w its. dite (ℕ_discrete w (unit c))
    (λ same. subst (IsCommitted h) (sym same) done)
    (λ ne. let top = its.2 in before c long w its (omega arith))))

pub returns-then-at-count-clause-remembers : goal.returns-then-at-count-clause-remembers
returns-then-at-count-clause-remembers c = let at = (goal.at.returns-then-at-count-clause-remembers c).After-load_unit_tail-found in let long = c.if-found-at.false in let up = near at in
    stored at c.earlier-at.result (λ w its less. before at (omega arith) w its less)

pub returns-then-at-count-clause-looked : goal.returns-then-at-count-clause-looked
returns-then-at-count-clause-looked c = looked _ 1 _ _ (acted (goal.at.returns-then-at-count-clause-looked c).After-load_unit_tail-found)

pub returns-then-at-count-clause-none : goal.returns-then-at-count-clause-none
returns-then-at-count-clause-none c = λ _. let at = goal.at.returns-then-at-count-clause-none c in let found = at.After-load_unit_tail-found in let long = c.if-found-at.false in let up = near found in
    shown found (omega arith) c.if-at-all.true (now at.In-Committed found)

pub returns-else-at-count-clause-remembers : goal.returns-else-at-count-clause-remembers
returns-else-at-count-clause-remembers c = kept (goal.at.returns-else-at-count-clause-remembers c).After-load_unit_tail-found

pub returns-else-at-count-clause-looked : goal.returns-else-at-count-clause-looked
returns-else-at-count-clause-looked c = looked _ 1 _ _ (acted (goal.at.returns-else-at-count-clause-looked c).After-load_unit_tail-found)

pub returns-else-at-count-clause-none : goal.returns-else-at-count-clause-none
returns-else-at-count-clause-none c = λ _. let at = goal.at.returns-else-at-count-clause-none c in let found = at.After-load_unit_tail-found in let long = c.if-found-at.false in let up = near found in
    shown found (omega arith) c.if-at-all.true (now at.In-Committed found)

pub returns-else-at-all-clause-looked : goal.returns-else-at-all-clause-looked
returns-else-at-all-clause-looked c = looked _ 1 _ _ (acted (goal.at.returns-else-at-all-clause-looked c).After-load_unit_tail-found)

pub returns-else-at-all-clause-remembers : goal.returns-else-at-all-clause-remembers
returns-else-at-all-clause-remembers c = let at = goal.at.returns-else-at-all-clause-remembers c in let found = at.After-load_unit_tail-found in let n : ℕ = c.earlier-at.result in let long = c.if-found-at.false in let up = near found in
    stored found (n + 1) (λ w its less. dite (ℕ_discrete w (unit found))
    (λ one. subst (IsCommitted (seen_by c.load_unit_tail-found.new.seat)) (sym one) (now at.In-Committed found))
    (λ ne. before found (omega arith) w its (omega arith)))
