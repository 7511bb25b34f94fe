-- Draft stores, and the birth of a client's element.
use Rattle.std.proofs.Common.{◌≡◌, ℕ, zero, suc, ◌+◌, ◌-◌, ◌<◌, ◌≤◌, List, [], ◌∷◌, ◌++◌, sym, refl, ap, ◌∙◌, subst, arith, Option, Some, None}
use mathlib.Core.List.{IsPrefix}
use Rattle.tp_model.specs.declared.types.Element.{Element}
use Rattle.tp_model.specs.declared.types.Limits.{Limits}
use Rattle.tp_model.specs.declared.event.Event.{Event}
use Rattle.tp_model.specs.declared.event.Event.TheVariants.{Enqueue}
use Rattle.tp_model.specs.declared.trace.StepKind.TheVariants as kinds
use Rattle.tp_model.specs.declared.trace.TraceEntry.{TraceEntry}
use Rattle.tp_model.specs.History.{element_of}
use Rattle.tp_model.specs.Births.{request}
use Rattle.tp_model.specs.Passes.{IsRun}
use Rattle.tp_model.specs.Steps.{IsLegal, Step}
use Rattle.tp_model.proofs.Histories.{legal_at}
use Rattle.tp_model.proofs.Bridges.{new_birth}
use Rattle.tp_model.proofs.Lists.{if_same}
use Rattle.tp_rule.specs.Views.{SeatShown, hand, next_row, view_of}
use Rattle.tp_rule.specs.Steps.{Bodied, Drafts, Publishes, birth, bodied, drafted, next_element, noted, stored, tail_before, unchanged, with_birth, with_body, with_draft, HasCleared}
use Rattle.tp_rule.proofs.Bodied.{bodied_seen}
use Rattle.tp_rule.specs.declared.view.Hand.{Hand}
use Rattle.tp_rule.specs.declared.view.View.{View}
use Rattle.tp_manager.proofs.Calls.Unseen.{unseen_hand, unseen_steady, unseen_walked}
use Rattle.tp_manager.specs.declared.manager.Run.{Run}
use Rattle.tp_manager.specs.declared.manager.Task.{Task}
use Rattle.tp_manager.specs.CallSteps.{Steady, Stepped}
use Rattle.tp_manager.specs.BetweenCalls.{Rests}
use Rattle.tp_manager.specs.Drafts.{Wrote}
use Rattle.tp_manager.specs.Bounds.{body_steps, next_steps}
use Rattle.tp_manager.specs.Calls.{Adds, claims_in}
use Rattle.tp_manager.specs.Shown.{PassShown, Spot, shown}
use Rattle.tp_manager.proofs.Calls.CallSteps.{grew_steady, grew_hand, grew_walked, walked_begins, walked_few, walked_none, walked_then}
use Rattle.tp_manager.proofs.Calls.Passes.{claims_append, done_walked, steady_at, task_later, drawn_later, cleared_later}

-- a run whose first row is used
pub run_on : (l : Limits) (h : List Event) (c : ℕ) (blocks : List ℕ) (next left : ℕ) → 0 < left → IsRun l h c blocks next left → IsRun l h c blocks (next + 1) (left - 1)
run_on l h c blocks next left some r = let low = r.begins in let high = r.ends in record {
  drawn = r.drawn;
  first = r.first;
  end = r.end;
  own = r.own;
  usable = λ i more less. r.usable i (omega arith) (omega arith);
  begins = omega arith;
  ends = omega arith;
  unborn = λ i more less. r.unborn i (omega arith) (omega arith);
}

module _ (l : Limits) (f : Hand → Hand) (v w : View) (s : Steady l v) (is : w ≡ drafted f v) where
  pub stored_hand : hand w ≡ noted kinds.DraftStore v.seen (f (hand v))
  stored_hand = unseen_hand l kinds.DraftStore f v.known v w s is

  pub stored_steady : (f (hand v)).number ≡ (hand v).number → IsRun l v.seen (f (hand v)).number (f (hand v)).blocks (f (hand v)).next (f (hand v)).left → (f (hand v)).mine ≡ (hand v).mine → (f (hand v)).open_unit ≡ (hand v).open_unit → Steady l w
  stored_steady number run mine open_unit = unseen_steady l kinds.DraftStore f v.known v w s is number run mine open_unit s.known

  pub stored_walked : (f (hand v)).number ≡ (hand v).number → (f (hand v)).trace ≡ (hand v).trace → Steady l w → Stepped l 1 (record { kind = kinds.DraftStore; seen = v.seen } ∷ []) v w
  stored_walked number trace steady = unseen_walked l kinds.DraftStore f v.known v w s is refl number trace (λ x q. q) steady

-- some stores to a row's body
module _ (l : Limits) (v : View) (s : Steady l v) where
  many_steady : (n : ℕ) → Steady l (stored n v)
  many_steady zero = s
  many_steady (suc n) = let before = many_steady n in stored_steady l unchanged (stored n v) (stored (suc n) v) before refl refl before.shows.run refl refl

  abbrev many_marks : ℕ → List TraceEntry
  many_marks zero = []
  many_marks (suc n) = many_marks n ++ record { kind = kinds.DraftStore; seen = (stored n v).seen } ∷ []

  many_walked : (n : ℕ) → Stepped l n (many_marks n) v (stored n v)
  many_walked zero = walked_none l v s
  many_walked (suc n) = walked_few l (n + 1) (suc n) _ v (stored (suc n) v) (omega arith)
      (walked_then l n 1 _ _ v (stored n v) (stored (suc n) v) (many_walked n) (stored_walked l unchanged (stored n v) (stored (suc n) v) (many_steady n) refl refl refl (many_steady (suc n))))

-- the stores of a row's body
module _ (l : Limits) (body : List ℕ) (v a : View) (s : Steady l v) (whole : Bodied body v a) where
  steady_by : (n : ℕ) → a ≡ bodied n body v → Steady l a
  steady_by zero is = subst (Steady l) (sym is) s
  steady_by (suc n) is = let b = many_steady l v s n in stored_steady l (with_body body) (stored n v) a b is refl b.shows.run refl refl

  pub body_steady : Steady l a
  body_steady = steady_by whole.stores whole.view

  abbrev pub with_stored : Hand → Hand
  with_stored h = record h { trace = (hand a).trace; next_body = body }

  pub body_hand : hand a ≡ with_stored (hand v)
  body_hand = whole.hand_is

  walked_by : (n : ℕ) → a ≡ bodied n body v → Stepped l n (many_marks l v s n) v a
  walked_by zero is = subst (λ z. Stepped l 0 [] v z) (sym is) (walked_none l v s)
  walked_by (suc n) is = walked_few l (n + 1) (suc n) _ v a (omega arith)
      (walked_then l n 1 _ _ v (stored n v) a (many_walked l v s n) (stored_walked l (with_body body) (stored n v) a (many_steady l v s n) is refl refl (steady_by (suc n) is)))

  abbrev pub body_marks : List TraceEntry
  body_marks = many_marks l v s whole.stores

  pub body_walked : Stepped l body_steps body_marks v a
  body_walked = walked_few l whole.stores body_steps _ v a whole.few (walked_by whole.stores whole.view)

  pub body_seen : a.seen ≡ v.seen
  body_seen = bodied_seen whole.stores body v a whole.view

-- they leave what is known of rows that the pass left unused
pub body_cleared : (l : Limits) (body : List ℕ) (v a : View) → Steady l v → Bodied body v a → HasCleared v → HasCleared a
body_cleared l body v a s whole = cleared_later v a (ap (λ (z : Hand). z.passed_from) whole.hand_is, ap (λ (z : Hand). z.passed_to) whole.hand_is) (body_walked l body v a s whole).knows

-- a draft of unit u: its body, and then its head
module _ (l : Limits) (body : List ℕ) (stage root u : ℕ) (v a w : View) (s : Steady l v) (whole : Bodied body v a) (head : Drafts a stage root u w) (room : 0 < (hand v).left) where
  abbrev pub D : Element
  D = next_element a stage root (Some u)

  pub draft_is : (row : ℕ) → (hand v).next ≡ row → D ≡ record { id = row; stage = stage; root = root; body = body; by = Some u }
  draft_is row at = let b = body_hand l body v a s whole in
      let id : next_row a ≡ row = ap (λ (z : Hand). z.next) b ∙ at in
      (λ i. record { id = id i; stage = stage; root = root; body = (b i).next_body; by = Some u })

  draft_hand : hand w ≡ noted kinds.DraftStore a.seen (with_draft D (with_stored l body v a s whole (hand v)))
  draft_hand = stored_hand l (with_draft D) a w (body_steady l body v a s whole) head ∙ ap (λ h. noted kinds.DraftStore a.seen (with_draft D h)) (body_hand l body v a s whole)

  draft_steady : Steady l w
  draft_steady = let rest : (hand a).left ≡ (hand v).left = ap (λ (z : Hand). z.left) (body_hand l body v a s whole) in let before = body_steady l body v a s whole in
      stored_steady l (with_draft D) a w before head refl (run_on l a.seen (hand a).number (hand a).blocks (hand a).next (hand a).left (omega arith) before.shows.run) refl refl

  pub draft_wrote : Wrote l (D ∷ []) v w
  draft_wrote = let h = draft_hand in record {
    marks = body_marks l body v a s whole ++ record { kind = kinds.DraftStore; seen = a.seen } ∷ [];
    walk = walked_then l body_steps 1 _ _ v a w (body_walked l body v a s whole) (stored_walked l (with_draft D) a w (body_steady l body v a s whole) head refl refl draft_steady);
    seen = ap (λ (z : View). z.seen) head ∙ body_seen l body v a s whole;
    run = (ap (λ (z : Hand). z.next) h, (let rest : (hand w).left ≡ (hand v).left - 1 = ap (λ (z : Hand). z.left) h in omega arith), ap (λ (z : Hand). z.blocks) h, (ap (λ (z : Hand). z.passed_from) h, ap (λ (z : Hand). z.passed_to) h));
    claimed = ap (λ (z : Hand). z.claimed) h;
    mine = ap (λ (z : Hand). z.mine) h;
    drafts = ap (λ (z : Hand). z.drafts) h;
    blank = λ q. ap (λ (z : Hand). z.next_body) h;
    open_unit = ap (λ (z : Hand). z.open_unit) h;
  }

-- a submit as a whole
module _ (l : Limits) (body : List ℕ) (stage told : ℕ) (v a w : View) (s : Steady l v) (whole : Bodied body v a) (g : Publishes a stage told w) (room : 0 < (hand v).left) where
  abbrev E : Event
  E = birth a stage

  pub made_hand : hand w ≡ noted kinds.Publish w.seen (with_birth stage told E (hand a))
  made_hand = grew_hand l kinds.Publish (with_birth stage told E) (E ∷ []) a w (body_steady l body v a s whole) g

  before_steady : Steady l a
  before_steady = body_steady l body v a s whole

  pub made_steady : Steady l w
  made_steady = grew_steady l kinds.Publish (with_birth stage told E) (E ∷ []) a w before_steady g refl

  pub made_walked : Stepped l next_steps (body_marks l body v a s whole ++ record { kind = kinds.Publish; seen = w.seen } ∷ []) v w
  made_walked = walked_then l body_steps 1 _ _ v a w (body_walked l body v a s whole) (grew_walked l kinds.Publish (with_birth stage told E) (E ∷ []) a w before_steady g refl refl refl made_steady)

  -- the element is born in what is seen afterwards
  pub made_born : element_of w.seen (next_row a) ≡ Some (next_element a stage (next_row a) None)
  made_born = let y : Element = next_element a stage (next_row a) None in let p : List Event = a.seen ++ g.between in let legal : IsLegal l (p ++ E ∷ []) = subst (IsLegal l) g.seen made_steady.shows.legal in
      let step : Step l p E = legal_at l p E [] legal in subst (λ h. element_of h y.id ≡ Some y) (sym g.seen) (new_birth p (hand a).number y step.unborn)

  -- it is the client's element with this body, in the pass's next row
  pub made_request : (element_of w.seen (next_row a) ≡ Some (request (next_row a) stage body)) × (next_row a ≡ (hand v).next)
  made_request = let b = body_hand l body v a s whole in (
    made_born ∙ ap (λ (h : Hand). Some (record { id = next_row a; stage = stage; root = next_row a; body = h.next_body; by = None })) b,
    ap (λ (z : Hand). z.next) b,
  )

  made_all : hand w ≡ noted kinds.Publish w.seen (with_birth stage told E (with_stored l body v a s whole (hand v)))
  made_all = made_hand ∙ ap (λ h. noted kinds.Publish w.seen (with_birth stage told E h)) (body_hand l body v a s whole)

  -- and the last that was seen
  pub made_adds : (t t' : Spot) (old : PassShown) → shown t v ≡ old → Adds (Enqueue old.number (request (hand v).next stage body)) old (shown t' w)
  made_adds t t' old is = let birth_is : E ≡ Enqueue (hand v).number (request (hand v).next stage body) = ap (λ (h : Hand). Enqueue h.number (request h.next stage h.next_body)) (body_hand l body v a s whole) in
      subst (λ (p : PassShown). Adds (Enqueue p.number (request (hand v).next stage body)) p (shown t' w)) is record {
        mine = ap (λ (h : Hand). h.mine) made_all ∙ ap (λ e. (hand v).mine ++ e ∷ []) birth_is;
        before = a.seen ++ g.between;
        seen = g.seen ∙ ap (λ e. (a.seen ++ g.between) ++ e ∷ []) birth_is;
        begins = subst (λ h. IsPrefix h (a.seen ++ g.between)) (body_seen l body v a s whole) (g.between, refl);
      }

pub made_rests : (l : Limits) (body : List ℕ) (stage told tail : ℕ) (seat next : SeatShown) (a : View) → (same : (view_of seat).limits ≡ l) → (s : Steady l (view_of seat)) → (whole : Bodied body (view_of seat) a) → tail ≤ told + 1 → Publishes a stage told (view_of next)
    → 0 < (hand (view_of seat)).left → (number : ℕ) (run : Run) (used : ℕ) (task : Option Task) → Rests seat number run used task
    → Rests next number (record { next = run.next + 1; left = run.left - 1; tail = tail; tail_stage = stage; drawn = run.drawn; done = run.done }) used task
made_rests l body stage told tail seat next a same s whole short g room number run used task r =
    let v : View = view_of seat in let w : View = view_of next in
    let h = made_all l body stage told v a w s whole g room in
    let steady : Steady l w = made_steady l body stage told v a w s whole g room in
    let lim : l ≡ w.limits = sym steady.pass.1 in
    let walk = made_walked l body stage told v a w s whole g room in
    record {
      steady = steady_at l w.limits w lim steady;
      number_is = ap (λ (z : Hand). z.number) h ∙ r.number_is;
      run_is = (ap (λ (z : Hand). z.next) h ∙ ap (λ n. n + 1) r.run_is.0, ap (λ (z : Hand). z.left) h ∙ ap (λ n. n - 1) r.run_is.1);
      tail = subst (λ (z : Hand). tail ≤ tail_before stage z) (sym h) (let is : tail_before stage (with_birth stage told (birth a stage) (hand v)) ≡ told + 1 = if_same stage stage (told + 1) 0 refl in omega arith);
      drawn = drawn_later v w run.drawn (sym (same ∙ lim)) walk.knows r.drawn;
      done = done_walked l next_steps _ v w run.done same walk r.done;
      used_is = ap (λ (z : Hand). z.claimed) h ∙ r.used_is;
      used_below = subst (λ (z : Limits). used ≤ z.units) (same ∙ lim) r.used_below;
      claims = ap (λ (z : Hand). claims_in z.mine) h ∙ (claims_append (hand v).mine (birth a stage ∷ []) ∙ (let c = r.claims in omega arith));
      no_drafts = ap (λ (z : Hand). z.drafts) h;
      cleared = cleared_later v w (ap (λ (z : Hand). z.passed_from) h, ap (λ (z : Hand). z.passed_to) h) walk.knows r.cleared;
      blank = ap (λ (z : Hand). z.next_body) h;
      open_is = ap (λ (z : Hand). z.open_unit) h ∙ r.open_is;
      work = task_later v.seen w.seen number task (walked_begins l next_steps _ v w walk) r.work;
    }
