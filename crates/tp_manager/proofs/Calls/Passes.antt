-- What is so of a pass after a call.
use Rattle.std.proofs.Common.{◌≡◌, ℕ, ◌+◌, ◌≤◌, List, [], ◌∷◌, ◌++◌, sym, refl, ap, ◌∙◌, subst, arith, Option, Some, None}
use Rattle.tp_rule.specs.declared.view.Known.TheVariants.{BlocksDrawn, RowHead}
use Rattle.tp_rule.specs.declared.view.Known.{Known}
use Rattle.tp_rule.specs.Steps.{tail_before, Knows, HasCleared}
use mathlib.Core.List.{IsPrefix}
use mathlib.Core.Logic.{dite}
use native.Mathlib.Decide.{dec_le}
use Rattle.tp_model.specs.declared.types.Limits.{Limits}
use Rattle.tp_model.specs.declared.event.Event.{Event}
use Rattle.tp_model.specs.History.{IsUnborn}
use Rattle.tp_model.specs.Steps.{rows_of, IsLegal}
use Rattle.tp_model.proofs.Bridges.{begins_refl, claim_later, found_later, is_born, element_of-id}
use Rattle.tp_model.proofs.Later.{births_inside}
use Rattle.tp_rule.specs.Views.{SeatShown, view_of, hand}
use Rattle.tp_rule.specs.declared.view.Hand.{Hand}
use Rattle.tp_rule.specs.declared.view.View.{View}
use Rattle.tp_manager.specs.declared.manager.Run.{Run}
use Rattle.tp_manager.specs.declared.manager.Task.{Task}
use Rattle.tp_manager.specs.Shown.{Spot, PassShown, shown}
use Rattle.tp_manager.specs.Calls.{AtPoint, IsQuiet}
use Rattle.tp_model.specs.declared.trace.TraceEntry.{TraceEntry}
use Rattle.tp_manager.specs.CallSteps.{Steady, Looked, Stepped, SamePassed}
use Rattle.tp_manager.specs.BetweenCalls.{Rests, IsTask, unit_in, RemembersDone, RemembersDrawn}
use Rattle.tp_manager.specs.Calls.{claims_in}
use Rattle.tp_manager.proofs.Rows.Looks.{unborn_if}
use Rattle.tp_manager.proofs.Marks.Useless.{settled_row}
use Rattle.tp_rule.specs.Rule.{IsSettledRow}
use Rattle.tp_manager.proofs.Calls.CallSteps.{walked_begins, walked_none, looked_begins, at_point}

pub task_later : (h g : List Event) (c : ℕ) (task : Option Task) → IsPrefix h g → IsTask h c task → IsTask g c task
task_later h g c None b t = tt
task_later h g c (Some k) b t = (t.0, t.1, t.2, claim_later h g b c k.unit t.0 t.1 t.3, found_later h g b t.0 t.2 t.4, t.5, t.6)

pub claims_append : (h m : List Event) → claims_in (h ++ m) ≡ claims_in h + claims_in m
claims_append [] m = omega arith
claims_append (e ∷ h) m = let i = claims_append h m in omega arith

pub steady_at : (k l : Limits) (v : View) → k ≡ l → Steady k v → Steady l v
steady_at k l v same s = subst (λ (z : Limits). Steady z v) same s

-- the counter of drawn blocks never falls
pub drawn_later : (v w : View) (n : ℕ) → w.limits ≡ v.limits → ((x : Known) → Knows v x → Knows w x) → RemembersDrawn v n → RemembersDrawn w n
drawn_later v w n same knows r = (subst (λ (z : Limits). n ≤ z.spare) (sym same) r.0, λ some. knows (BlocksDrawn n) (r.1 some))

pub drawn_walked : (l : Limits) (n : ℕ) (ms : List TraceEntry) (v w : View) (d : ℕ) → v.limits ≡ l → Stepped l n ms v w → RemembersDrawn v d → RemembersDrawn w d
drawn_walked l n ms v w d lim a r = drawn_later v w d (a.steady.pass.1 ∙ sym lim) a.knows r

-- so one that is found isn't below the one that was remembered
pub drawn_risen : (v : View) (d r : ℕ) → RemembersDrawn v d → ((n : ℕ) → Knows v (BlocksDrawn n) → n ≤ r) → d ≤ r
drawn_risen v d r known rises = dite (dec_le 1 d) (λ some. rises d (known.1 some)) (λ none. omega arith)

-- what is consumed or killed stays so
pub done_walked : (l : Limits) (n : ℕ) (ms : List TraceEntry) (v w : View) (last : Option ℕ) → v.limits ≡ l → Stepped l n ms v w → RemembersDone v last → RemembersDone w last
done_walked l n ms v w last same a old = λ i is. subst (λ (z : Limits). IsSettledRow z w.seen i) (sym a.steady.pass.1)
    (settled_row l v.seen w.seen i a.steady.shows.legal (walked_begins l n ms v w a) (subst (λ (z : Limits). IsSettledRow z v.seen i) same (old i is)))

-- rows that are known to have heads are so
pub cleared_later : (v w : View) → SamePassed (hand v) (hand w) → ((x : Known) → Knows v x → Knows w x) → HasCleared v → HasCleared w
cleared_later v w same knows r i low high = let from = same.0 in let to = same.1 in let t = r i (omega arith) (omega arith) in (t.0, t.1, knows (RowHead i t.0) t.2)

-- the pass has looked at it
pub rests_drawn : (seat : SeatShown) (number : ℕ) (run : Run) (used : ℕ) (task : Option Task) (n : ℕ) → Rests seat number run used task → RemembersDrawn (view_of seat) n → Rests seat number (record run { drawn = n }) used task
rests_drawn seat number run used task n r drawn = record {
  steady = r.steady;
  number_is = r.number_is;
  run_is = r.run_is;
  tail = r.tail;
  drawn = drawn;
  done = r.done;
  used_is = r.used_is;
  used_below = r.used_below;
  claims = r.claims;
  no_drafts = r.no_drafts;
  cleared = r.cleared;
  blank = r.blank;
  open_is = r.open_is;
  work = r.work;
}

module _ (l : Limits) (seat next : SeatShown) (same : (view_of seat).limits ≡ l) (number : ℕ) (run : Run) (used : ℕ) (task : Option Task) (r : Rests seat number run used task) where
  -- the pass has looked, and no more
  pub rests_looked : (n : ℕ) → Looked l n (view_of seat) (view_of next) → Rests next number run used task
  rests_looked n a = let k = a.kept in let lim : l ≡ (view_of next).limits = sym a.walk.steady.pass.1 in record {
    steady = steady_at l (view_of next).limits (view_of next) lim a.walk.steady;
    number_is = ap (λ (z : Hand). z.number) k ∙ r.number_is;
    run_is = (ap (λ (z : Hand). z.next) k ∙ r.run_is.0, ap (λ (z : Hand). z.left) k ∙ r.run_is.1);
    tail = subst (λ (z : Hand). run.tail ≤ tail_before run.tail_stage z) (sym k) r.tail;
    drawn = drawn_later (view_of seat) (view_of next) run.drawn (sym (same ∙ lim)) a.walk.knows r.drawn;
    done = done_walked l n a.marks (view_of seat) (view_of next) run.done same a.walk r.done;
    used_is = ap (λ (z : Hand). z.claimed) k ∙ r.used_is;
    used_below = subst (λ (z : Limits). used ≤ z.units) (same ∙ lim) r.used_below;
    claims = ap (λ (z : Hand). claims_in z.mine) k ∙ r.claims;
    no_drafts = ap (λ (z : Hand). z.drafts) k ∙ r.no_drafts;
    cleared = cleared_later (view_of seat) (view_of next) (ap (λ (z : Hand). z.passed_from) k, ap (λ (z : Hand). z.passed_to) k) a.walk.knows r.cleared;
    blank = ap (λ (z : Hand). z.next_body) k ∙ r.blank;
    open_is = ap (λ (z : Hand). z.open_unit) k ∙ r.open_is;
    work = task_later (view_of seat).seen (view_of next).seen number task (looked_begins l n (view_of seat) (view_of next) a) r.work;
  }

-- what a call that has looked shows
module _ (t t' : Spot) (v w : View) (old : PassShown) (is : shown t v ≡ old) (l : Limits) (n : ℕ) (a : Looked l n v w) where
  pub quiet_looked : IsQuiet old (shown t' w)
  quiet_looked = let k = a.kept in record {
    mine = ap (λ (z : Hand). z.mine) k ∙ ap (λ (p : PassShown). p.mine) is;
    open_unit = ap (λ (z : Hand). z.open_unit) k ∙ ap (λ (p : PassShown). p.open_unit) is;
    run = (ap (λ (z : Hand). z.next) k ∙ ap (λ (p : PassShown). p.next) is, ap (λ (z : Hand). z.left) k ∙ ap (λ (p : PassShown). p.left) is, ap (λ (z : Hand). z.blocks) k ∙ ap (λ (p : PassShown). p.blocks) is);
  }

-- a call that made no step has its entry for a point
pub point_none : (t : Spot) (v : View) (old : PassShown) → shown t v ≡ old → (l : Limits) → Steady l v → (Holds : List Event → Type 0) → Holds v.seen → AtPoint old (shown t v) Holds
point_none t v old is l s Holds h = at_point t t v v old is l 0 [] (walked_none l v s) Holds v.seen (record { opened = begins_refl v.seen; seen = begins_refl v.seen }) h

-- no element has an id from the capacity on
pub unborn_beyond : (l : Limits) (h : List Event) (i : ℕ) → IsLegal l h → rows_of l ≤ i → IsUnborn h i
unborn_beyond l h i legal out = unborn_if h i (λ x p. let b = births_inside l h legal x (is_born h i x p) in let at : x.id ≡ i = element_of-id h i x p in absurd (omega arith))

pub task_none : (t : Option Task) → unit_in t ≡ None → t ≡ None
task_none None e = refl
task_none (Some k) e = absurd cc
