-- The drafts of a pass's own unit, and the unit's end.
use Rattle.std.proofs.Common.{◌≡◌, ℕ, suc, ◌+◌, ◌*◌, ◌<◌, ◌≤◌, List, [], ◌∷◌, ◌++◌, length, true, slice_index_or, take, sym, refl, ap, ◌∙◌, subst, ⊎_elim, arith, append_assoc, length-append, mul-le-mul_right, Option, Some, None, inl}
use Rattle.tp_model.specs.Drafts.{DraftView}
use Rattle.std.specs.List.{All}
use Rattle.std.proofs.lemmas.List.Elements.{All-head, All-tail}
use Rattle.tp_model.specs.declared.types.Element.{Element}
use Rattle.tp_model.specs.declared.types.Limits.{Limits}
use Rattle.tp_model.specs.declared.event.Event.{Event}
use Rattle.tp_model.specs.declared.event.Event.TheVariants.{Abort, Commit}
use Rattle.tp_model.specs.declared.trace.StepKind.{StepKind}
use Rattle.tp_model.specs.History.{Aborted, Committed, In, UnitEnd, committed as committed_status, end_by, end_of, first_id, element_of, IsClaim, claim_of, status_of, IsSettled, UnitClaim}
use Rattle.tp_model.specs.Births.{IsWhole, outputs}
use Rattle.tp_model.specs.Passes.{looks}
use Rattle.tp_model.specs.Steps.{AreLimits, IsLegal, Step, units_of}
use Rattle.tp_model.proofs.Bridges.{append_nil, begins_trans, claim_kept, claim_later, found_later, in_cons, in_none}
use Rattle.std.specs.Prelude.{IfSome}
use Rattle.std.specs.Option.{option_or}
use Rattle.tp_model.proofs.Lists.{if_same}
use Rattle.tp_model.specs.declared.types.Status.TheVariants.{Consumed, Held}
use Rattle.tp_model.proofs.Histories.{legal_at, legal_start, open_holds, status_of-snoc}
use Rattle.tp_model.proofs.WordProofs.{end_of-snoc}
use Rattle.tp_model.proofs.Outputs.{length-outputs, outputs_more}
use Rattle.tp_model.proofs.Later.{aborted_by, abort_ends}
use Rattle.tp_model.proofs.Bridges.{in_right}
use Rattle.tp_model.specs.History.{here}
use Rattle.tp_rule.specs.Views.{SeatShown, hand, view_of}
use Rattle.tp_rule.specs.Steps.{Grew, IsOut, IsOwnWork, IsClaimed, commit_event, with_end, with_lost}
use Rattle.tp_rule.specs.declared.view.Hand.{Hand}
use Rattle.tp_rule.specs.declared.view.View.{View}
use Rattle.tp_manager.specs.declared.manager.Run.{Run}
use Rattle.tp_manager.specs.declared.manager.Task.{Task}
use Rattle.tp_manager.specs.Shown.{Spot, PassShown, shown}
use Rattle.tp_manager.specs.Calls.{Adds, Closes, Commits, EndedByOther, HasConsumed, HasEnded, Loses, claims_in, KeepsRun, UsesRun}
use Rattle.tp_manager.specs.Bounds.{close_steps, draft_steps}
use Rattle.tp_manager.specs.CallSteps.{SameRun, Steady}
use Rattle.tp_manager.specs.BetweenCalls.{Rests, IsTask, RemembersDone, RemembersDrawn}
use Rattle.tp_manager.specs.Drafts.{Shut, Wrote, output}
use Rattle.tp_rule.specs.Rule.{IsCommitted, IsSettledRow}
use Rattle.tp_rule.proofs.Births.{claimed_inside}
use Rattle.tp_manager.proofs.Calls.Passes.{claims_append, steady_at, drawn_later, cleared_later}
use Rattle.tp_manager.proofs.Calls.CallSteps.{grew_hand, grew_steady, grew_walked, walked_few, walked_none, walked_then, walked_begins}

module _ (l : Limits) where
  pub wrote_then : (xs ys : List Element) (v w y : View) → Wrote l xs v w → Wrote l ys w y → Wrote l (xs ++ ys) v y
  wrote_then xs ys v w y a b = let g = walked_then l (draft_steps (length xs)) (draft_steps (length ys)) a.marks b.marks v w y a.walk b.walk in record {
    marks = a.marks ++ b.marks;
    walk = walked_few l (draft_steps (length xs) + draft_steps (length ys)) (draft_steps (length (xs ++ ys))) _ v y (omega (arith, length-append xs ys)) g;
    seen = b.seen ∙ a.seen;
    run = let p = a.run.0 in let q = b.run.0 in let r = a.run.1 in let s = b.run.1 in (omega (arith, length-append xs ys), omega (arith, length-append xs ys), b.run.2 ∙ a.run.2, (b.run.3.0 ∙ a.run.3.0, b.run.3.1 ∙ a.run.3.1));
    claimed = b.claimed ∙ a.claimed;
    mine = b.mine ∙ a.mine;
    drafts = b.drafts ∙ (ap (λ z. z ++ ys) a.drafts ∙ append_assoc (hand v).drafts xs ys);
    blank = λ q. b.blank (a.blank q);
    open_unit = b.open_unit ∙ a.open_unit;
  }

  pub wrote_none : (v : View) → Steady l v → Wrote l [] v v
  wrote_none v s = record { marks = []; walk = walked_none l v s; seen = refl; run = (omega arith, omega arith, refl, (refl, refl)); claimed = refl; mine = refl; drafts = sym (append_nil (hand v).drafts); blank = λ q. q; open_unit = refl }

  shut_by : (kind : StepKind) (f : Hand → Hand) (es : List Event) (v w : View) → looks kind ≡ true → (s : Steady l v) → (g : Grew kind f es v w) → Steady l w → (f (hand v)).trace ≡ (hand v).trace → (f (hand v)).number ≡ (hand v).number → SameRun (hand v) (f (hand v))
      → (f (hand v)).claimed ≡ (hand v).claimed → (f (hand v)).mine ≡ (hand v).mine ++ es → (f (hand v)).drafts ≡ [] → (f (hand v)).next_body ≡ (hand v).next_body → (f (hand v)).open_unit ≡ None → Shut l 1 0 es v w
  shut_by kind f es v w d s g steady t number run claimed mine drafts body held = let x = grew_hand l kind f es v w s g in record {
    marks = record { kind = kind; seen = w.seen } ∷ [];
    walk = grew_walked l kind f es v w s g d t number steady;
    before = v.seen ++ g.between;
    begins = (g.between, refl);
    ends = g.seen;
    run = let d : (hand w).next ≡ (hand v).next = ap (λ (a : Hand). a.next) x ∙ run.0 in let e : (hand w).left ≡ (hand v).left = ap (λ (a : Hand). a.left) x ∙ run.1 in (omega arith, omega arith, ap (λ (a : Hand). a.blocks) x ∙ run.2, (ap (λ (a : Hand). a.passed_from) x ∙ run.3.0, ap (λ (a : Hand). a.passed_to) x ∙ run.3.1));
    claimed = ap (λ (a : Hand). a.claimed) x ∙ claimed;
    mine = ap (λ (a : Hand). a.mine) x ∙ mine;
    drafts = ap (λ (a : Hand). a.drafts) x ∙ drafts;
    blank = λ q. ap (λ (a : Hand). a.next_body) x ∙ (body ∙ q);
    open_unit = ap (λ (a : Hand). a.open_unit) x ∙ held;
  }

  pub shut_hit : (kind : StepKind) (e : Event) (v w : View) → looks kind ≡ true → (s : Steady l v) → Grew kind (with_end e) (e ∷ []) v w → Shut l 1 0 (e ∷ []) v w
  shut_hit kind e v w d s g = shut_by kind (with_end e) (e ∷ []) v w d s g (grew_steady l kind (with_end e) (e ∷ []) v w s g refl) refl refl (refl, refl, refl, (refl, refl), (refl, refl)) refl refl refl refl refl

  pub shut_miss : (kind : StepKind) (v w : View) → looks kind ≡ true → (s : Steady l v) → Grew kind with_lost [] v w → Shut l 1 0 [] v w
  shut_miss kind v w d s g = shut_by kind with_lost [] v w d s g (grew_steady l kind with_lost [] v w s g refl) refl refl (refl, refl, refl, (refl, refl), (refl, refl)) refl (sym (append_nil (hand v).mine)) refl refl refl

pub other_abort : (c u : ℕ) (h : List Event) → end_of h u ≡ Some Aborted → ¬ (In (Abort c u) h) → EndedByOther c u h
other_abort c u h lost not = let t = aborted_by h u lost in (t.0, t.1, λ same. not (subst (λ z. In (Abort z u) h) same t.1))

-- the open unit is claimed
pub task_claimed : (l : Limits) (h : List Event) (c : ℕ) (t : Task) → IsLegal l h → IsTask h c (Some t) → IsClaimed h t.unit × (t.unit < units_of l)
task_claimed l h c t legal w = let k : IsClaimed h t.unit = (record { pass = c; item = w.0; attempt = w.1 }, w.3) in (k, claimed_inside l h t.unit k.0 legal k.1)

-- an aborted unit has ended
pub abort_ended : (u : ℕ) (c : ℕ) (h before : List Event) → h ≡ before ++ Abort c u ∷ [] → (how : UnitEnd) × (end_of h u ≡ Some how)
abort_ended u c h before is = some (end_of h u) (abort_ends h c u (subst (λ (z : List Event). In (Abort c u) z) (sym is) (in_right before here)))
  where
    some : (o : Option UnitEnd) → ¬ (o ≡ None) → (how : UnitEnd) × (o ≡ Some how)
    some None not = absurd (not refl)
    some (Some x) not = (x, refl)

-- a pass whose unit is closed
pub shut_rests : (l : Limits) (n k : ℕ) (es : List Event) (seat next : SeatShown) (number : ℕ) (run : Run) (used : ℕ) (run' : Run) (task : Option Task) → (view_of seat).limits ≡ l → Shut l n k es (view_of seat) (view_of next) → claims_in es ≡ 0 → run'.next ≡ run.next + k → run'.left + k ≡ run.left → run'.tail ≡ 0 → run'.drawn ≡ run.drawn → RemembersDone (view_of next) run'.done → Rests seat number run used task → Rests next number run' used None
shut_rests l n k es seat next number run used run' task same t none more less forgot still done r = let w : View = view_of next in let lim : l ≡ w.limits = sym t.walk.steady.pass.1 in record {
  steady = steady_at l w.limits w lim t.walk.steady;
  number_is = t.walk.number ∙ r.number_is;
  run_is = let a = t.run.0 in let b = t.run.1 in let c = r.run_is.0 in let d = r.run_is.1 in (omega arith, omega arith);
  tail = omega arith;
  drawn = subst (λ z. RemembersDrawn w z) (sym still) (drawn_later (view_of seat) w run.drawn (sym (same ∙ lim)) t.walk.knows r.drawn);
  done = done;
  used_is = t.claimed ∙ r.used_is;
  used_below = subst (λ (z : Limits). used ≤ z.units) (same ∙ lim) r.used_below;
  claims = ap claims_in t.mine ∙ (claims_append (hand (view_of seat)).mine es ∙ (let c = r.claims in omega arith));
  no_drafts = t.drafts;
  cleared = cleared_later (view_of seat) w t.run.3 t.walk.knows r.cleared;
  blank = t.blank r.blank;
  open_is = t.open_unit;
  work = tt;
}

pub shut_closes : (t t' : Spot) (v w : View) (old : PassShown) → shown t v ≡ old → (l : Limits) (n k u : ℕ) (es : List Event) → Shut l n k es v w → (hand v).open_unit ≡ Some u → (how : UnitEnd) × (end_of w.seen u ≡ Some how) → Closes u old (shown t' w)
shut_closes t t' v w old is l n k u es sh held ended = record {
  was_open = sym (ap (λ (p : PassShown). p.open_unit) is) ∙ held;
  open_unit = sh.open_unit;
  ended = ended;
}

-- the rows that it has used
pub shut_uses : (t t' : Spot) (v w : View) (old : PassShown) → shown t v ≡ old → (l : Limits) (n k : ℕ) (es : List Event) → Shut l n k es v w → UsesRun k (hand v).next old (shown t' w)
shut_uses t t' v w old is l n k es sh = subst (λ (p : PassShown). UsesRun k (hand v).next p (shown t' w)) is (let all = sh.run.1 in record {
  room = omega arith;
  first_is = refl;
  next = sh.run.0;
  left = sh.run.1;
  blocks = sh.run.2;
})

-- none
pub shut_keeps : (t t' : Spot) (v w : View) (old : PassShown) → shown t v ≡ old → (l : Limits) (n : ℕ) (es : List Event) → Shut l n 0 es v w → KeepsRun old (shown t' w)
shut_keeps t t' v w old is l n es sh = subst (λ (p : PassShown). KeepsRun p (shown t' w)) is (let a = sh.run.0 in let b = sh.run.1 in (omega arith, omega arith, sh.run.2))

pub shut_adds : (t t' : Spot) (v w : View) (old : PassShown) → shown t v ≡ old → (l : Limits) (n k u : ℕ) → Shut l n k (Abort (hand v).number u ∷ []) v w → Adds (Abort old.number u) old (shown t' w)
shut_adds t t' v w old is l n k u sh = subst (λ (p : PassShown). Adds (Abort p.number u) p (shown t' w)) is record { mine = sh.mine; before = sh.before; seen = sh.ends; begins = sh.begins }

pub shut_loses : (t t' : Spot) (v w : View) (old : PassShown) → shown t v ≡ old → (l : Limits) (n k u : ℕ) → Shut l n k [] v w → end_of w.seen u ≡ Some Aborted → ¬ (In (Abort (hand v).number u) w.seen) → Loses u old (shown t' w)
shut_loses t t' v w old is l n k u sh lost not = subst (λ (p : PassShown). Loses u p (shown t' w)) is (sh.mine ∙ append_nil (hand v).mine, other_abort (hand v).number u w.seen lost not)

-- the drafts, and then the end
pub wrote_shut : (l : Limits) (xs : List Element) (es : List Event) (v w y : View) → Wrote l xs v w → Shut l 1 0 es w y → Shut l (close_steps (length xs)) (length xs) es v y
wrote_shut l xs es v w y wr sh = record {
  marks = wr.marks ++ sh.marks;
  walk = walked_then l (draft_steps (length xs)) 1 wr.marks sh.marks v w y wr.walk sh.walk;
  before = sh.before;
  begins = begins_trans v.seen w.seen sh.before (walked_begins l _ wr.marks v w wr.walk) sh.begins;
  ends = sh.ends;
  run = let a = sh.run.0 in let b = wr.run.0 in let c = sh.run.1 in let d = wr.run.1 in (omega arith, omega arith, sh.run.2 ∙ wr.run.2, (sh.run.3.0 ∙ wr.run.3.0, sh.run.3.1 ∙ wr.run.3.1));
  claimed = sh.claimed ∙ wr.claimed;
  mine = sh.mine ∙ ap (λ z. z ++ es) wr.mine;
  drafts = sh.drafts;
  blank = λ q. sh.blank (wr.blank q);
  open_unit = sh.open_unit;
}

pub outs_fit : (u root i : ℕ) (ds : List DraftView) (y : Element) → All IsWhole ds → In y (outputs u root i ds) → IsOut u root y
outs_fit u root i [] y whole p = absurd (in_none p)
outs_fit u root i (d ∷ ds) y whole p =
    ⊎_elim (λ e. subst (IsOut u root) (sym e) ((All-head IsWhole d ds whole).0, refl, refl, (All-head IsWhole d ds whole).1)) (λ q. outs_fit u root (i + 1) ds y (All-tail IsWhole d ds whole) q) (in_cons p)

pub outs_first : (u root i : ℕ) (ds : List DraftView) (f : ℕ) → (0 < length ds → f ≡ i) → (length ds ≡ 0 → f ≡ 0) → f ≡ first_id (outputs u root i ds)
outs_first u root i [] f a b = b refl
outs_first u root i (d ∷ ds) f a b = a (omega arith)

-- the unit with its drafts written
module _ (l : Limits) (v w : View) (number : ℕ) (run : Run) (used row : ℕ) (t : Task) (ds : List DraftView) (seat : SeatShown) (same : view_of seat ≡ v) (r : Rests seat number run used (Some t)) (next : row ≡ run.next) (wr : Wrote l (outputs t.unit t.root row ds) v w) where
  outs_are : (hand w).drafts ≡ outputs t.unit t.root row ds
  outs_are = wr.drafts ∙ ap (λ z. z ++ outputs t.unit t.root row ds) (subst (λ (z : View). (hand z).drafts ≡ []) same r.no_drafts)

  pub own_count : length ds ≡ length (hand w).drafts
  own_count = sym (ap length outs_are ∙ length-outputs t.unit t.root row ds)

  pub own_first : (f : ℕ) → (0 < length ds → f ≡ row) → (length ds ≡ 0 → f ≡ 0) → f ≡ first_id (hand w).drafts
  own_first f a b = outs_first t.unit t.root row ds f a b ∙ ap first_id (sym outs_are)

  own_task : IsTask v.seen number (Some t)
  own_task = subst (λ (z : View). IsTask z.seen number (Some t)) same r.work

  own_number : (hand v).number ≡ number
  own_number = subst (λ (z : View). (hand z).number ≡ number) same r.number_is

  own_next : (hand v).next ≡ run.next
  own_next = subst (λ (z : View). (hand z).next ≡ run.next) same r.run_is.0

  pub own_work : All IsWhole ds → IsOwnWork w t.unit
  own_work whole = let k = own_task in record {
    taking = record { pass = number; item = k.0; attempt = k.1 };
    claimed = ap (λ z. claim_of z t.unit) wr.seen ∙ k.3;
    own = sym (wr.walk.number ∙ own_number);
    item = k.2;
    taken = ap (λ z. element_of z k.0) wr.seen ∙ k.4;
    outputs = λ y p. subst (λ z. IsOut t.unit z y) (sym k.5) (outs_fit t.unit t.root row ds y whole (subst (λ (xs : List Element). In y xs) outs_are p));
  }

  pub row_is : row ≡ (hand v).next
  row_is = next ∙ sym own_next

  pub committed_is : commit_event w t.unit ≡ Commit (hand v).number t.unit (outputs t.unit t.root (hand v).next ds)
  committed_is = let outs : (hand w).drafts ≡ outputs t.unit t.root (hand v).next ds = outs_are ∙ ap (λ z. outputs t.unit t.root z ds) row_is in
      (λ i. Commit (wr.walk.number i) t.unit (outs i))

pub outs_next : (u root id : ℕ) (ds : List DraftView) (i : ℕ) (d : DraftView) → i < length ds → d ≡ slice_index_or ds i d → outputs u root id (take (i + 1) ds) ≡ outputs u root id (take i ds) ++ output u root (id + i) d ∷ []
outs_next u root id ds i d less is = let one : i + 1 ≡ suc i = omega arith in ap (λ n. outputs u root id (take n ds)) one ∙ outputs_more u root id ds i d less is

pub units_few : (l : Limits) → AreLimits l → units_of l ≤ 32768
units_few l f = let a = f.parts.1 in let b = f.units.1 in let m : l.parts * l.units ≤ 32 * l.units = mul-le-mul_right l.units a in omega arith

-- a commit has an end of its unit
pub commit_ended : (c u : ℕ) (h before : List Event) (outs : List Element) → h ≡ before ++ Commit c u outs ∷ [] → (how : UnitEnd) × (end_of h u ≡ Some how)
commit_ended c u h before outs is = go (end_of before u) refl
  where
    last : end_of h u ≡ option_or (end_of before u) (end_by u (Commit c u outs))
    last = ap (λ z. end_of z u) is ∙ end_of-snoc before (Commit c u outs) u

    go : (o : Option UnitEnd) → end_of before u ≡ o → (how : UnitEnd) × (end_of h u ≡ Some how)
    go None e = (Committed (first_id outs) (length outs), last ∙ (ap (λ o. option_or o (end_by u (Commit c u outs))) e ∙ if_same u u (Some (Committed (first_id outs) (length outs))) None refl))
    go (Some x) e = (x, last ∙ ap (λ o. option_or o (end_by u (Commit c u outs))) e)

-- a commit consumes the element that its unit took
pub commit_consumes : (l : Limits) (c u : ℕ) (h before : List Event) (outs : List Element) → IsLegal l h → h ≡ before ++ Commit c u outs ∷ [] → HasConsumed l c u h
commit_consumes l c u h before outs legal is = let whole = subst (IsLegal l) is legal in let step : Step l before (Commit c u outs) = legal_at l before (Commit c u outs) [] whole in
    let start : IsLegal l before = legal_start l before (Commit c u outs ∷ []) whole in let t = step.taking in
    let held = open_holds l before start u t step.open_unit in
    let claim : IsClaim before c u t.item t.attempt = subst (λ z. IsClaim before z u t.item t.attempt) step.own step.open_unit.claimed in (
      t.item,
      t.attempt,
      subst (λ z. IsClaim z c u t.item t.attempt) (sym is) (claim_kept before (Commit c u outs ∷ []) c u t.item t.attempt claim),
      ap (λ z. status_of l.attempts z t.item) is ∙ (status_of-snoc l.attempts before (Commit c u outs) t.item ∙ (ap (committed_status u) held ∙ if_same u u (Consumed u) (Held u t.attempt) refl)),
    )

-- and commits the unit
pub commit_commits : (l : Limits) (c u : ℕ) (h before : List Event) (outs : List Element) → IsLegal l h → h ≡ before ++ Commit c u outs ∷ [] → IsCommitted h u
commit_commits l c u h before outs legal is = let step : Step l before (Commit c u outs) = legal_at l before (Commit c u outs) [] (subst (IsLegal l) is legal) in (
  first_id outs,
  length outs,
  ap (λ z. end_of z u) is ∙ (end_of-snoc before (Commit c u outs) u ∙ (ap (λ o. option_or o (end_by u (Commit c u outs))) step.open_unit.unfinished ∙ if_same u u (Some (Committed (first_id outs) (length outs))) None refl)),
)

-- a unit takes one element
one_item : (h : List Event) (u c d i j n m : ℕ) → IsClaim h c u i n → IsClaim h d u j m → i ≡ j
one_item h u c d i j n m p q = ap item_in (sym p ∙ q)
  where
    item_in : Option UnitClaim → ℕ
    item_in None = 0
    item_in (Some t) = t.item

some_row : (a b : ℕ) → Some a ≡ Some b → a ≡ b
some_row a b e = cc

-- the element of a committed unit is consumed, in the row of the pass's task
pub shut_done : (l : Limits) (n k c : ℕ) (outs : List Element) (v y : View) (number : ℕ) (t : Task) → Shut l n k (Commit c t.unit outs ∷ []) v y → IsTask v.seen number (Some t) → RemembersDone y (Some t.row)
shut_done l n k c outs v y number t sh work = λ i is. let legal = sh.walk.steady.shows.legal in let begins = walked_begins l n sh.marks v y sh.walk in
    let end = commit_consumes l c t.unit y.seen sh.before outs legal sh.ends in
    let taken : claim_of y.seen t.unit ≡ Some (record { pass = number; item = work.0; attempt = work.1 }) = claim_later v.seen y.seen begins number t.unit work.0 work.1 work.3 in
    let same : end.0 ≡ work.0 = one_item y.seen t.unit c number end.0 work.0 end.1 work.1 end.2 taken in let row : t.row ≡ i = some_row t.row i is in let here : work.0 ≡ i = work.6 ∙ row in
    subst (λ (z : Limits). IsSettledRow z y.seen i) (sym sh.walk.steady.pass.1) (subst (IsSettledRow l y.seen) here
    (work.2, found_later v.seen y.seen begins work.0 work.2 work.4, subst (λ z. IsSettled (status_of l.attempts y.seen z)) same (subst IsSettled (sym end.3) tt)))

-- the answer of a commit that was made
pub committed_answer : (t t' : Spot) (l : Limits) (v w y : View) (old : PassShown) → shown t v ≡ old → (number : ℕ) (run : Run) (used row : ℕ) (k : Task) (ds : List DraftView) (seat : SeatShown) → view_of seat ≡ v → Rests seat number run used (Some k) → row ≡ run.next
    → Wrote l (outputs k.unit k.root row ds) v w → v.limits ≡ l → (hand v).open_unit ≡ Some k.unit → (f n : ℕ) → Shut l n (length ds) (commit_event w k.unit ∷ []) v y → (0 < length ds → f ≡ row) → (length ds ≡ 0 → f ≡ 0) → Commits f (length ds) ds old (shown t' y)
committed_answer t t' l v w y old is number run used row k ds seat same r next wr lim held f n sh a b =
    let e = committed_is l v w number run used row k ds seat same r next wr in
    let work : IsTask v.seen number (Some k) = subst (λ (z : View). IsTask z.seen number (Some k)) same r.work in
    let num : (hand v).number ≡ number = subst (λ (z : View). (hand z).number ≡ number) same r.number_is in
    subst (λ (p : PassShown). Commits f (length ds) ds p (shown t' y)) is record {
      unit = k.unit;
      root = k.root;
      row = (hand v).next;
      run = inl (let all = sh.run.1 in record { room = omega arith; first_is = refl; next = sh.run.0; left = sh.run.1; blocks = sh.run.2 });
      root_is = (work.0, work.1, work.2, subst (λ c. IsClaim v.seen c k.unit work.0 work.1) (sym num) work.3, work.4, work.5);
      closes = record { was_open = held; open_unit = sh.open_unit; ended = commit_ended (hand w).number k.unit y.seen sh.before (hand w).drafts sh.ends };
      adds = record { mine = sh.mine ∙ ap (λ z. (hand v).mine ++ z ∷ []) e; before = sh.before; seen = sh.ends ∙ ap (λ z. sh.before ++ z ∷ []) e; begins = sh.begins };
      consumed = subst (λ (z : Limits). HasConsumed z (hand v).number k.unit y.seen) (sym lim) (subst (λ c. HasConsumed l c k.unit y.seen) wr.walk.number (commit_consumes l (hand w).number k.unit y.seen sh.before (hand w).drafts sh.walk.steady.shows.legal sh.ends));
      first_is = outs_first k.unit k.root row ds f a b ∙ ap (λ z. first_id (outputs k.unit k.root z ds)) (row_is l v w number run used row k ds seat same r next wr);
      count_is = refl;
    }

-- what a closed unit leaves
pub closed_ended : (u : ℕ) (old new : PassShown) → Closes u old new → IfSome old.open_unit (HasEnded new.seen)
closed_ended u old new closed = subst (λ o. IfSome o (HasEnded new.seen)) (sym closed.was_open) closed.ended
