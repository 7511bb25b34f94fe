-- The exchange of a mark, and rows that were seen finished.
use Rattle.std.proofs.Common.{◌≡◌, ◌⊎◌, ℕ, zero, suc, ◌+◌, ◌*◌, ◌<◌, ◌≤◌, Option, Some, None, List, [], ◌∷◌, ◌++◌, slice_index, sym, refl, ap, ◌∙◌, subst, inl, inr, ⊎_elim, arith}
use mathlib.Core.Logic.{dite}
use native.Mathlib.Decide.{dec_le, ℕ_discrete}
use mathlib.Core.List.{IsPrefix}
use Rattle.tp_model.specs.declared.types.Element.{Element}
use Rattle.tp_model.specs.declared.types.Limits.{Limits}
use Rattle.tp_model.specs.declared.types.Status.{Status}
use Rattle.tp_model.specs.declared.event.Event.{Event}
use Rattle.tp_model.specs.declared.trace.StepKind.TheVariants as kinds
use Rattle.tp_model.specs.History.{IsSettled, IsUnborn, element_of, status_of}
use Rattle.tp_model.proofs.Bridges.{begins_refl, begins_trans, found_later}
use Rattle.tp_rule.specs.Rule.{Concerns, IsInside, IsOther, IsSettledRow}
use Rattle.tp_rule.proofs.Tellings.{inside_below, other_full}
use Rattle.tp_rule.specs.Steps.{AreFinishedFor, HasAside, HasDead, IsLow, IsSo, Knows, KnowsUseless, RaisesMark, noted, unchanged, MayBeBorn}
use Rattle.tp_rule.specs.Views.{hand}
use Rattle.tp_rule.specs.declared.view.Hand.{Hand}
use Rattle.tp_rule.specs.declared.view.Known.TheVariants.{PartMark, RowHead, RowTail}
use Rattle.tp_rule.specs.declared.view.View.{View}
use Rattle.tp_manager.proofs.Calls.Unseen.{unseen_hand, unseen_steady, unseen_walked}
use Rattle.tp_manager.specs.Calls.{IsWaiting}
use Rattle.tp_manager.specs.Looks.{IsBornAs}
use Rattle.tp_manager.specs.declared.row_reads.Birth.{Birth}
use Rattle.tp_manager.specs.Raises.{IsOfUse}
use Rattle.tp_manager.specs.CallSteps.{Looked, Steady, Stepped, with_trace}
use Rattle.tp_manager.specs.BetweenCalls.{RemembersDone}
use Rattle.tp_manager.specs.Marks.{MayRemember, Remembers, Rose, WasOfUse, WasUnsettled}
use Rattle.tp_manager.specs.Scans.{PassedBy, Took, EachRow}
use Rattle.tp_rule.specs.declared.packing.Head.{Head}
use Rattle.tp_rule.specs.declared.packing.Head.TheVariants.{Empty, Void, Filled}
use Rattle.tp_model.specs.Passes.{opening_of}
use Rattle.tp_manager.proofs.Calls.Points.{has_more, opening_kept}
use Rattle.tp_rule.specs.Words.{head_of}
use Rattle.tp_model.specs.declared.trace.TraceEntry.{TraceEntry}
use Rattle.tp_manager.proofs.Rows.Looks.{none_unit}
use Rattle.tp_manager.proofs.Calls.CallSteps.{remembers_kind, walked_begins, walked_then}
use Rattle.tp_manager.proofs.Marks.Useless.{Goes, useless_later}

module _ (l : Limits) (c p m n : ℕ) (v w : View) (s : Steady l v) (r : RaisesMark v c p m n w) (new : IsLow l c v.seen p n) (up : m < n) where
  raised_hand : hand w ≡ noted kinds.Raise v.seen (hand v)
  raised_hand = unseen_hand l kinds.Raise unchanged w.known v w s r.0

  raised_steady : Steady l w
  raised_steady = unseen_steady l kinds.Raise unchanged w.known v w s r.0 refl s.shows.run refl refl (λ x q. ⊎_elim (λ old. s.known x old) (λ o. ⊎_elim (λ e. subst (IsSo l v.seen) (sym e) new) (λ e. subst (IsSo l v.seen) (sym e) (inside_below l p (m + 1) n (omega arith) new.0)) o) (r.2 x q))

  pub raised_looked : Looked l 1 v w
  raised_looked = record {
    marks = record { kind = kinds.Raise; seen = v.seen } ∷ [];
    walk = unseen_walked l kinds.Raise unchanged w.known v w s r.0 refl refl refl r.1 raised_steady;
    kept = raised_hand ∙ ap (λ t. with_trace t (hand v)) (sym (ap (λ (a : Hand). a.trace) raised_hand));
  }

pub goes_walked : (l : Limits) (n : ℕ) (ms : List TraceEntry) (v w : View) → v.limits ≡ l → Stepped l n ms v w → Goes l v w
goes_walked l n ms v w lim a = record { limits = (lim, a.steady.pass.1); legal = a.steady.shows.legal; begins = walked_begins l n ms v w a; knows = a.knows }

module _ (l : Limits) where
  -- what was taken stays the last of what is seen, where nothing more is
  pub took_looked : (from stage u attempt : ℕ) (e : Element) (n m : ℕ) (v w y : View) → Took l n from stage u v w e attempt → Looked l m w y → y.seen ≡ w.seen → Took l (n + m) from stage u v y e attempt
  took_looked from stage u attempt e n m v w y t a same = record {
    marks = t.marks ++ a.marks;
    walk = walked_then l n m t.marks a.marks v w y t.walk a.walk;
    kept = a.kept ∙ ap (λ z. with_trace (hand y).trace z) t.kept;
    before = t.before;
    begins = t.begins;
    ends = same ∙ t.ends;
    born = subst (λ z. element_of z e.id ≡ Some e) (sym same) t.born;
    of_stage = t.of_stage;
    reach = t.reach;
    step = has_more t.marks a.marks t.step;
    passed = subst (λ z. EachRow (PassedBy l stage) from e.id z y.seen) (sym (opening_kept v.seen t.marks a.marks t.step.0 t.step.1 t.step.2))
        (subst (λ z. EachRow (PassedBy l stage) from e.id (opening_of v.seen t.marks) z) (sym same) t.passed);
  }

  pub rose_none : (c : ℕ) (v : View) (a : ℕ) → Rose c v a a
  rose_none c v a = (omega arith, λ i low high. absurd (omega arith))

  pub rose_then : (d : ℕ) (v w : View) (a b c : ℕ) → Goes l v w → Rose d v a b → Rose d w b c → Rose d w a c
  rose_then d v w a b c g r t = let up = r.0 in let on = t.0 in (omega arith, λ i low high. dite (dec_le b i) (λ past. t.1 i past high) (λ not. useless_later l d v w i g (r.1 i low (omega arith))))

  pub rose_both : (d : ℕ) (v : View) (a b c : ℕ) → Rose d v a b → Rose d v b c → Rose d v a c
  rose_both d v a b c r t = let up = r.0 in let on = t.0 in (omega arith, λ i low high. dite (dec_le b i) (λ past. t.1 i past high) (λ not. r.1 i low (omega arith)))

  -- one more row, whose element is consumed or killed
  pub rose_one : (c : ℕ) (v : View) (a b row : ℕ) (birth : Birth) (s : Status) → v.limits ≡ l → IsBornAs v.seen row birth → s ≡ status_of l.attempts v.seen row → (b ≡ a) ⊎ ((b ≡ a + 1) × (a ≡ row) × IsSettled s) → Rose c v a b
  rose_one c v a b row birth s lim there is o = ⊎_elim (λ e. (omega arith, λ i low high. absurd (omega arith)))
      (λ t. (
        let up = t.0 in omega arith,
        λ i low high. let same : row ≡ i = (let up = t.0 in let at = t.1 in omega arith) in
            inl (inl (subst (λ (z : Limits). IsSettledRow z v.seen i) (sym lim) (subst (IsSettledRow l v.seen) same (there.0, there.1, subst IsSettled is t.2)))),
      )) o

  -- or which has a draft that is never born
  pub rose_dead : (c : ℕ) (v : View) (a b row : ℕ) → HasDead v row → (b ≡ a) ⊎ ((b ≡ a + 1) × (a ≡ row)) → Rose c v a b
  rose_dead c v a b row dead o = ⊎_elim (λ e. (omega arith, λ i low high. absurd (omega arith)))
      (λ t. (let up = t.0 in omega arith, λ i low high. let same : row ≡ i = (let up = t.0 in let at = t.1 in omega arith) in inl (inr (subst (HasDead v) same dead)))) o

  -- or whose head is void, or of a stage that the kind isn't about
  pub rose_aside : (c : ℕ) (v : View) (a b row : ℕ) (head : Head) → Knows v (RowHead row head) → ((stage root : ℕ) (by : Option ℕ) → head ≡ Filled stage root by → ¬ Concerns c stage)
      → (b ≡ a) ⊎ ((b ≡ a + 1) × (a ≡ row) × ¬ (head ≡ Empty)) → Rose c v a b
  rose_aside c v a b row Empty known not o = ⊎_elim (λ e. (omega arith, λ i low high. absurd (omega arith))) (λ t. absurd (t.2 refl)) o
  rose_aside c v a b row Void known not o = ⊎_elim (λ e. (omega arith, λ i low high. absurd (omega arith)))
      (λ t. (
        let up = t.0 in omega arith,
        λ i low high. let same : row ≡ i = (let up = t.0 in let at = t.1 in omega arith) in inr (inl (Void, subst (λ z. Knows v (RowHead z Void)) same known, tt)),
      )) o
  rose_aside c v a b row (Filled stage root by) known not o = ⊎_elim (λ e. (omega arith, λ i low high. absurd (omega arith)))
      (λ t. (
        let up = t.0 in omega arith,
        λ i low high. let same : row ≡ i = (let up = t.0 in let at = t.1 in omega arith) in
            inr (inl (Filled stage root by, subst (λ z. Knows v (RowHead z (Filled stage root by))) same known, not stage root by refl)),
      )) o

  -- no element is born in a row whose draft is dead
  dead_over : (v : View) (i : ℕ) → Steady l v → HasDead v i → (x : Element) → element_of v.seen i ≡ Some x → ⊥
  dead_over v i s n x born =
      let head : Filled n.0 n.1 (Some n.2) ≡ head_of x = s.known (RowHead i (Filled n.0 n.1 (Some n.2))) n.3 (λ e. absurd cc) x born in
      let none = none_unit l v.seen i n.0 n.1 n.2 (Some n.2) (Filled n.0 n.1 (Some n.2)) refl refl (s.known (RowHead i (Filled n.0 n.1 (Some n.2))) n.3 (λ e. absurd cc)) s.shows.legal (λ f m e low high. let gone = n.4 in absurd cc) in
      let e : None ≡ Some x = sym none ∙ born in absurd cc

  -- an element in a row whose head is known of no use is of a stage that the kind isn't about
  aside_is : (c : ℕ) (v : View) (i : ℕ) → Steady l v → HasAside v c i → (x : Element) → element_of v.seen i ≡ Some x → ¬ Concerns c x.stage
  aside_is c v i s a x born = ⊎_elim (λ f. subst (IsOther c) (s.known (RowHead i f.0) f.1 (other_full c f.0 f.2) x born) f.2)
      (λ t about. t.6 (subst (Concerns c) (s.known (RowTail t.0 t.1 t.2) t.3 i t.4 t.5 x born) about)) a

  -- the rows of a run of a stage that the kind isn't about are of no use to it
  pub rose_tail : (c : ℕ) (v : View) (a row stage run : ℕ) → Knows v (RowTail row stage run) → a ≤ row + 1 → row ≤ a + run → ¬ Concerns c stage → Rose c v a (row + 1)
  rose_tail c v a row stage run known low up not = (low, λ i more less. inr (inr (row, stage, run, known, omega arith, omega arith, not)))

  -- what isn't known of no use yet is no row after the next
  pub near_low : {S : Type 0} (low now row next : ℕ) → low ≤ row → row < next → (now ≡ low) ⊎ ((now ≡ low + 1) × (low ≡ row) × S) → now ≤ next
  near_low low now row next a b o = ⊎_elim (λ e. omega arith) (λ t. (let x = t.0 in let y = t.1 in omega arith)) o

  pub near_past : (low now row next : ℕ) → low ≤ row → row < next → (now ≡ low) ⊎ ((now ≡ low + 1) × (low ≡ row)) → now ≤ next
  near_past low now row next a b o = ⊎_elim (λ e. omega arith) (λ t. (let x = t.0 in let y = t.1 in omega arith)) o

  -- and a mark that the seat knows can rise over them
  pub rose_low : (c : ℕ) (v : View) (p m n : ℕ) → Steady l v → Knows v (PartMark c p m) → IsInside l p n → Rose c v (p * l.rows + m) (p * l.rows + n) → IsLow l c v.seen p n
  rose_low c v p m n s known top r = (
    top,
    λ i low high x born about. dite (dec_le (p * l.rows + m) i)
        (λ past. ⊎_elim (λ d. ⊎_elim (λ t. settled_is v i x s t born) (λ e. absurd (dead_over v i s e x born)) d) (λ a. absurd (aside_is c v i s a x born about)) (r.1 i past high))
        (λ not. (s.known (PartMark c p m) known).1 i low (omega arith) x born about),
  )
    where
      settled_is : (v : View) (i : ℕ) (x : Element) → Steady l v → IsSettledRow v.limits v.seen i → element_of v.seen i ≡ Some x → IsSettled (status_of l.attempts v.seen i)
      settled_is v i x s t born = subst (λ (z : Limits). IsSettled (status_of z.attempts v.seen i)) s.pass.1 t.2

  -- a stage is what its own kind of marks is about
  pub concerned : (c stage : ℕ) → 1 ≤ c → stage ≡ c → Concerns c stage
  concerned zero stage some is = absurd (omega arith)
  concerned (suc c) stage some is = is

  -- and no other stage
  pub unconcerned : (c stage : ℕ) → 1 ≤ c → ¬ (stage ≡ c) → ¬ Concerns c stage
  unconcerned zero stage some other about = absurd (omega arith)
  unconcerned (suc c) stage some other about = other about

  pub not_waiting : (s : Status) → IsSettled s → ¬ IsWaiting s
  not_waiting s settled w = subst IsSettled w.1 settled

  -- what is over is passed by
  pub over_passed : (stage : ℕ) (h : List Event) (p n i : ℕ) → 1 ≤ stage → AreFinishedFor l stage h p n → p * l.rows ≤ i → i < p * l.rows + n → PassedBy l stage i h h
  over_passed stage h p n i server over low high x born st = (h, begins_refl h, begins_refl h, not_waiting (status_of l.attempts h i) (over i low high x born (concerned stage x.stage server st)))

  -- and so is what the seat knows of no use
  pub useless_passed : (stage : ℕ) (v : View) (i : ℕ) → 1 ≤ stage → Steady l v → KnowsUseless v stage i → PassedBy l stage i v.seen v.seen
  useless_passed stage v i server s u x born st = ⊎_elim
      (λ d. ⊎_elim
      (λ t. (v.seen, begins_refl v.seen, begins_refl v.seen, not_waiting (status_of l.attempts v.seen i) (subst (λ (z : Limits). IsSettled (status_of z.attempts v.seen i)) s.pass.1 t.2)))
      (λ e. absurd (dead_over v i s e x born)) d)
      (λ a. absurd (aside_is stage v i s a x born (concerned stage x.stage server st))) u

  -- a scan that begins at row x, or after it where that row is done
  abbrev pub IsPast : ℕ → ℕ → ℕ → Option ℕ → Type 0
  IsPast b x end last = (b ≡ x) ⊎ ((b ≡ x + 1) × (x < end) × (last ≡ Some x))

  pub past_near : (b x end : ℕ) (last : Option ℕ) → x ≤ end → IsPast b x end last → (x ≤ b) × (b ≤ x + 1) × (b ≤ end)
  past_near b x end last inside past = ⊎_elim (λ e. (omega arith, omega arith, omega arith)) (λ t. let e = t.0 in let less = t.1 in (omega arith, omega arith, omega arith)) past

  past_done : (v : View) (b x end : ℕ) (last : Option ℕ) → RemembersDone v last → IsPast b x end last → (i : ℕ) → x ≤ i → i < b → IsSettledRow v.limits v.seen i
  past_done v b x end last old past i low high = ⊎_elim (λ e. absurd (omega arith)) (λ t. let e = t.0 in let same : x ≡ i = omega arith in old i (t.2 ∙ ap Some same)) past

  pub rose_past : (v : View) (b x end : ℕ) (last : Option ℕ) → RemembersDone v last → IsPast b x end last → x ≤ b → (c : ℕ) → Rose c v x b
  rose_past v b x end last old past le c = (le, λ i low high. inl (inl (past_done v b x end last old past i low high)))

  pub done_passed : (stage : ℕ) (v : View) (b x end : ℕ) (last : Option ℕ) → v.limits ≡ l → RemembersDone v last → IsPast b x end last → (i : ℕ) → x ≤ i → i < b → PassedBy l stage i v.seen v.seen
  done_passed stage v b x end last same old past i low high y born st = let t = subst (λ (z : Limits). IsSettledRow z v.seen i) same (past_done v b x end last old past i low high) in
      (v.seen, begins_refl v.seen, begins_refl v.seen, not_waiting (status_of l.attempts v.seen i) t.2)

  -- no row below a mark that a pass may remember is of use
  pub low_may : (c : ℕ) (v : View) (p n : ℕ) → Steady l v → MayRemember l c v p n → IsLow l c v.seen p n
  low_may c v p n s may = ⊎_elim (λ k. s.known (PartMark c p n) k) (λ m. rose_low c v p m.found n s m.knows m.inside m.rose) may

  pub low_remembered : (c : ℕ) (v : View) (p : ℕ) (lows : List ℕ) → Steady l v → Remembers c v lows → 0 < slice_index lows p → IsLow l c v.seen p (slice_index lows p)
  low_remembered c v p lows s r some = low_may c v p (slice_index lows p) s (subst (λ (z : Limits). MayRemember z c v p (slice_index lows p)) s.pass.1 (r p some))

  pub low_any : (c : ℕ) (v : View) (p : ℕ) (lows : List ℕ) → Steady l v → Remembers c v lows → IsLow l c v.seen p (slice_index lows p)
  low_any c v p lows s r = dite (dec_le 1 (slice_index lows p)) (λ some. low_remembered c v p lows s r some) (λ none. ((λ _. omega arith, λ _. omega arith), λ i low high. absurd (omega arith)))

  -- what the pass remembers says of the rows below a mark also later
  pub low_kept : (c : ℕ) (v w : View) (p n : ℕ) (ms : List TraceEntry) (lows : List ℕ) → Stepped l n ms v w → Remembers c v lows → 0 < slice_index lows p → IsLow l c w.seen p (slice_index lows p)
  low_kept c v w p n ms lows a r some = low_remembered c w p lows a.steady (remembers_kind c lows l n ms v w a r) some

  pub remembered_passed : (stage : ℕ) (lows : List ℕ) (p i n : ℕ) (ms : List TraceEntry) (v w : View) → 1 ≤ stage → Remembers stage v lows → Stepped l n ms v w → p * l.rows ≤ i → i < p * l.rows + slice_index lows p → PassedBy l stage i w.seen w.seen
  remembered_passed stage lows p i n ms v w server r a low high = over_passed stage w.seen p (slice_index lows p) i server (low_kept stage v w p n ms lows a r (omega arith)).1 low high

  -- a row in which nothing is born, and something may be yet, may be of use
  pub use_unborn : (stage i : ℕ) (h : List Event) → IsUnborn h i → MayBeBorn l h i → IsOfUse l stage i h
  use_unborn stage i h un may = (λ x born. let e : None ≡ Some x = sym un ∙ born in absurd cc, λ _. may)

  -- and one whose head was found empty
  pub use_empty : (stage i : ℕ) (h : List Event) (head : Head) → ((x : Element) → element_of h i ≡ Some x → head ≡ head_of x) → (head ≡ Empty → MayBeBorn l h i) → ¬ ¬ (head ≡ Empty) → IsOfUse l stage i h
  use_empty stage i h Empty is may none = (λ x born. let e : Empty ≡ head_of x = is x born in absurd cc, λ _. may refl)
  use_empty stage i h Void is may none = absurd (none (λ e. absurd cc))
  use_empty stage i h (Filled found root by) is may none = absurd (none (λ e. absurd cc))

  -- and one with an element of the stage that was neither consumed nor killed
  pub use_found : (stage i : ℕ) (a b : List Event) (birth : Birth) → IsBornAs a i birth → birth.stage ≡ stage → WasUnsettled l i a b → WasOfUse l stage i a b
  use_found stage i a b birth there staged was = let e = there.0 in let born_then : element_of was.0 i ≡ Some e = found_later a was.0 was.1 i e there.1 in (
    was.0,
    was.1,
    was.2,
    (
      λ x born. let same : x ≡ e = one x e born born_then in (ap (λ (z : Element). z.stage) same ∙ (of_head e there.2 ∙ staged), was.3),
      λ un. let q : None ≡ Some e = sym un ∙ born_then in absurd cc,
    ),
  )
    where
      one : (x y : Element) → element_of was.0 i ≡ Some x → element_of was.0 i ≡ Some y → x ≡ y
      one x y p q = cc

      of_head : (e : Element) → head_of e ≡ Filled birth.stage birth.root birth.by → e.stage ≡ birth.stage
      of_head e p = cc

  pub use_later : (stage i : ℕ) (a a' b b' : List Event) → IsPrefix a a' → IsPrefix b b' → WasOfUse l stage i a' b → WasOfUse l stage i a b'
  use_later stage i a a' b b' before after was = (was.0, begins_trans a a' was.0 before was.1, begins_trans was.0 b b' was.2 after, was.3)

  -- where a scan is after the first row that it doesn't know of no use, that row may have been of use
  pub stays_by : (stage low row now next : ℕ) (a b : List Event) → low ≤ row → (now ≡ low) ⊎ ((now ≡ low + 1) × (low ≡ row)) → (low ≡ row → now ≡ low → WasOfUse l stage row a b) → (row < now → now < next → WasOfUse l stage now a b)
      → now < next → ((low < row) × (now ≡ low)) ⊎ WasOfUse l stage now a b
  stays_by stage low row now next a b le moved own gap less = ⊎_elim
      (λ same. dite (ℕ_discrete low row) (λ at. inr (subst (λ z. WasOfUse l stage z a b) (sym (same ∙ at)) (own at same))) (λ other. inl (omega arith, same)))
      (λ t. inr (gap (let up = t.0 in let at = t.1 in omega arith) less)) moved
