-- How many steps a scan makes by what is born in each row.
use Rattle.std.proofs.Common.{◌≡◌, ◌≢◌, ℕ, zero, suc, ◌+◌, ◌-◌, ◌*◌, ◌<◌, ◌≤◌, ◌==◌, Bool, true, false, cond, Option, Some, None, List, [], ◌∷◌, ◌++◌, ◌⊎◌, inl, inr, MatchOption, nat_lt, slice_index, suc-mul, refl, sym, ◌∙◌, ap, subst, ⊎_elim, arith}
use Rattle.std.proofs.lemmas.Bool.Decides.{eqb_tells, nat_tests}
use Rattle.std.proofs.lemmas.List.Sums.{fold-append, sum_by-append, sum_by-cons}
use Rattle.std.specs.List.{fold}
use mathlib.Core.List.{IsPrefix}
use mathlib.Core.Logic.{dite}
use native.Mathlib.Decide.{dec_le}
use Rattle.tp_model.specs.declared.types.Element.{Element}
use Rattle.tp_model.specs.declared.types.Limits.{Limits}
use Rattle.tp_model.specs.declared.event.Event.{Event}
use Rattle.tp_model.specs.declared.event.Event.TheVariants.{Enqueue, Claim, Commit, Abort, Kill, Requeue}
use Rattle.tp_model.specs.declared.trace.TraceEntry.{TraceEntry}
use Rattle.tp_model.specs.declared.types.TheConstants.{BLOCK_ROWS}
use Rattle.tp_model.specs.History.{element_of}
use Rattle.tp_model.specs.Steps.{part_rows, rows_of}
use Rattle.tp_model.proofs.Later.{births_inside}
use Rattle.tp_model.specs.Words.{AgainWord, ClaimWord, FreeWord, TakenWord, claim_word, claim_word_after, kill_word, round_in}
use Rattle.tp_model.proofs.Bridges.{begins_refl, begins_trans, found_later}
use Rattle.tp_model.proofs.Lists.{if_same}
use Rattle.tp_rule.specs.declared.packing.Head.{Head}
use Rattle.tp_rule.specs.declared.packing.Head.TheVariants.{Empty}
use Rattle.tp_rule.specs.Words.{head_of}
use Rattle.tp_rule.specs.Steps.{Knows}
use Rattle.tp_rule.specs.Views.{hand}
use Rattle.tp_rule.specs.declared.view.Known.TheVariants.{RowHead}
use Rattle.tp_rule.specs.declared.view.View.{View}
use Rattle.tp_manager.specs.Bounds.{drawn_steps, try_steps}
use Rattle.tp_manager.specs.RowSteps.{changes_claim, claim_changes, lean_scan_steps, own_steps, parts_left, sum_left, sum_rows, try_steps_at, try_steps_of, until}
use Rattle.tp_manager.specs.CallSteps.{Steady, Stepped, StepsTo}
use Rattle.tp_manager.specs.Leans.{IsAfter, IsLean, IsLeanAt, IsLeanIn, scan_end}
use Rattle.tp_manager.specs.declared.seeker.Taken.{Taken}
use Rattle.tp_manager.specs.Scans.{Took}
use Rattle.tp_manager.proofs.Calls.CallSteps.{walked_begins, walked_few}
use Rattle.tp_manager.proofs.Calls.Makes.{made, made_few}

-- changes of a claim

one : ℕ → Event → ℕ
one i e = cond (changes_claim i e) 1 0

changes_both : (h g : List Event) (i : ℕ) → claim_changes (h ++ g) i ≡ claim_changes h i + claim_changes g i
changes_both h g i = sum_by-append (λ e. cond (changes_claim i e) 1 0) h g

pub changes_later : (h g : List Event) (i : ℕ) → IsPrefix h g → claim_changes h i ≤ claim_changes g i
changes_later h g i b = let e = changes_both h b.0 i in subst (λ z. claim_changes h i ≤ claim_changes z i) b.1 (omega arith)

-- an event that doesn't change it leaves the claim word
event_stays : (i : ℕ) (w : ClaimWord) (e : Event) → changes_claim i e ≡ false → claim_word_after i w e ≡ w
event_stays i w (Enqueue c y) not = refl
event_stays i w (Claim c u j n) not = ap (λ b. cond b (TakenWord n u (round_in w)) w) not
event_stays i w (Commit c u outs) not = refl
event_stays i w (Abort c u) not = refl
event_stays i w (Kill c j) not = ap (λ b. cond b (kill_word w) w) not
event_stays i w (Requeue c j r) not = ap (λ b. cond b (AgainWord r) w) not

events_stay : (i : ℕ) (w : ClaimWord) (g : List Event) → claim_changes g i ≡ 0 → fold (claim_word_after i) w g ≡ w
events_stay i w [] none = refl
events_stay i w (e ∷ g) none = go (changes_claim i e) refl (sum_by-cons (λ x. cond (changes_claim i x) 1 0) e g) (events_stay i w g)
  where
    go : (b : Bool) → changes_claim i e ≡ b → claim_changes (e ∷ g) i ≡ cond (changes_claim i e) 1 0 + claim_changes g i → (claim_changes g i ≡ 0 → fold (claim_word_after i) w g ≡ w) → fold (claim_word_after i) w (e ∷ g) ≡ w
    go true is all rest = absurd (let z : ◌≡◌ {A = ℕ} (cond (changes_claim i e) 1 0) 1 = ap (λ b. cond b 1 0) is in omega arith)
    go false is all rest = ap (λ z. fold (claim_word_after i) z g) (event_stays i w e is) ∙ rest (omega arith)

-- where the claim word differs, the claim has changed
pub changes_more : (h g : List Event) (i : ℕ) → IsPrefix h g → claim_word g i ≢ claim_word h i → claim_changes h i < claim_changes g i
changes_more h g i b differs = go (claim_changes b.0 i) refl
  where
    both : claim_changes g i ≡ claim_changes h i + claim_changes b.0 i
    both = sym (ap (λ z. claim_changes z i) b.1) ∙ changes_both h b.0 i

    go : (n : ℕ) → claim_changes b.0 i ≡ n → claim_changes h i < claim_changes g i
    go zero none = absurd (differs (sym (ap (λ z. claim_word z i) b.1) ∙ (fold-append (claim_word_after i) FreeWord h b.0 ∙ events_stay i (claim_word h i) b.0 none)))
    go (suc n) some = let e = both in omega arith

-- a claim of the element changes it
pub changes_claimed : (h : List Event) (c u i n : ℕ) → claim_changes h i < claim_changes (h ++ Claim c u i n ∷ []) i
changes_claimed h c u i n = let e = changes_both h (Claim c u i n ∷ []) i in let is : claim_changes (Claim c u i n ∷ []) i ≡ 1 = sum_by-cons (λ x. cond (changes_claim i x) 1 0) (Claim c u i n) [] ∙ (omega arith ∙ if_same i i 1 0 refl) in omega arith

-- what is made at a row

own_less : (b c : Bool) → (c ≡ true → b ≡ true) → own_steps b ≤ own_steps c
own_less b true on = let same : own_steps b ≡ own_steps true = ap own_steps (on refl) in omega arith
own_less true false on = omega arith
own_less false false on = omega arith

of_less : (stage : ℕ) (b c : Bool) (o : Option Element) → (c ≡ true → b ≡ true) → try_steps_of stage b o ≤ try_steps_of stage c o
of_less stage b c None on = omega arith
of_less stage b c (Some x) on = go (x.stage == stage)
  where
    go : (t : Bool) → cond t (own_steps b) 1 ≤ cond t (own_steps c) 1
    go true = own_less b c on
    go false = omega arith

-- where more was seen before, no more steps
pub steps_less : (stage : ℕ) (a b h : List Event) (i : ℕ) → IsPrefix a b → IsPrefix b h → try_steps_at stage b h i ≤ try_steps_at stage a h i
steps_less stage a b h i ab bh = of_less stage (claim_changes b i == claim_changes h i) (claim_changes a i == claim_changes h i) (element_of h i)
    (λ is. let low = changes_later a b i ab in let high = changes_later b h i bh in ⊎_elim (λ t. t.0) (λ t. absurd (⊎_elim (λ s. t.1 (let e = s.1 in omega arith)) (λ s. let e : false ≡ true = sym s.0 ∙ is in absurd cc) (eqb_tells (claim_changes a i) (claim_changes h i)))) (eqb_tells (claim_changes b i) (claim_changes h i)))

-- at each row at least one
pub steps_some : (stage : ℕ) (b : Bool) (o : Option Element) → 1 ≤ try_steps_of stage b o
steps_some stage b None = omega arith
steps_some stage b (Some x) = go (x.stage == stage) b
  where
    go : (t b : Bool) → 1 ≤ cond t (own_steps b) 1
    go true true = omega arith
    go true false = omega arith
    go false b = omega arith

own_some : (b : Bool) → 4 ≤ own_steps b
own_some true = omega arith
own_some false = omega arith

-- at an element of the stage
of_own : (stage : ℕ) (b : Bool) (o : Option Element) (x : Element) → o ≡ Some x → x.stage ≡ stage → try_steps_of stage b o ≡ own_steps b
of_own stage b o x is own = ap (try_steps_of stage b) is ∙ if_same x.stage stage (own_steps b) 1 own

pub steps_two : (stage : ℕ) (b : Bool) (o : Option Element) → ((x : Element) → o ≡ Some x → x.stage ≡ stage) → 2 ≤ try_steps_of stage b o
steps_two stage b None own = omega arith
steps_two stage b (Some x) own = let e = of_own stage b (Some x) x refl (own x refl) in let some = own_some b in omega arith

pub steps_own : (stage : ℕ) (a h : List Event) (i : ℕ) (x : Element) → element_of h i ≡ Some x → x.stage ≡ stage → 4 ≤ try_steps_at stage a h i
steps_own stage a h i x is own = let b : Bool = claim_changes a i == claim_changes h i in let e = of_own stage b (element_of h i) x is own in let some = own_some b in omega arith

pub steps_changed : (stage : ℕ) (a h : List Event) (i : ℕ) (x : Element) → element_of h i ≡ Some x → x.stage ≡ stage → claim_changes a i < claim_changes h i → try_steps ≤ try_steps_at stage a h i
steps_changed stage a h i x is own less = go (claim_changes a i == claim_changes h i) refl
  where
    go : (b : Bool) → (claim_changes a i == claim_changes h i) ≡ b → try_steps ≤ try_steps_at stage a h i
    go true same = absurd (⊎_elim (λ s. let e = s.1 in omega arith) (λ s. let e : false ≡ true = sym s.0 ∙ same in absurd cc) (eqb_tells (claim_changes a i) (claim_changes h i)))
    go false same = let e = of_own stage (claim_changes a i == claim_changes h i) (element_of h i) x is own in let z : own_steps (claim_changes a i == claim_changes h i) ≡ own_steps false = ap own_steps same in omega arith

-- sums over rows

pub sum_split : (f : ℕ → ℕ) (i m n : ℕ) → sum_rows f i (m + n) ≡ sum_rows f i m + sum_rows f (i + m) n
sum_split f i m zero = let e : m + 0 ≡ m = omega arith in ap (sum_rows f i) e ∙ omega arith
sum_split f i m (suc n) = let e : m + suc n ≡ suc (m + n) = omega arith in let at : i + (m + n) ≡ (i + m) + n = omega arith in let rest = sum_split f i m n in let last : f (i + (m + n)) ≡ f ((i + m) + n) = ap f at in
    ap (sum_rows f i) e ∙ omega arith

pub sum_less : (f : ℕ → ℕ) (i m n : ℕ) → m ≤ n → sum_rows f i m ≤ sum_rows f i n
sum_less f i m n le = let e : m + (n - m) ≡ n = omega arith in let s = sum_split f i m (n - m) in subst (λ z. sum_rows f i m ≤ sum_rows f i z) e (omega arith)

-- two runs of rows, one behind the other, among others
pub sum_apart : (f : ℕ → ℕ) (i m j n i' n' : ℕ) → i' ≤ i → i + m ≤ j → j + n ≤ i' + n' → sum_rows f i m + sum_rows f j n ≤ sum_rows f i' n'
sum_apart f i m j n i' n' low apart high =
    let a : i' + (i - i') ≡ i = omega arith in let b : i + (j - i) ≡ j = omega arith in let c : (i - i') + ((j - i) + (n' - (j - i'))) ≡ n' = omega arith in
    let first = sum_split f i' (i - i') ((j - i) + (n' - (j - i'))) in let second = sum_split f i (j - i) (n' - (j - i')) in
    let begin = sum_less f i m (j - i) (omega arith) in let end = sum_less f j n (n' - (j - i')) (omega arith) in
    let x : sum_rows f (i' + (i - i')) ((j - i) + (n' - (j - i'))) ≡ sum_rows f i ((j - i) + (n' - (j - i'))) = ap (λ z. sum_rows f z ((j - i) + (n' - (j - i')))) a in
    let y : sum_rows f (i + (j - i)) (n' - (j - i')) ≡ sum_rows f j (n' - (j - i')) = ap (λ z. sum_rows f z (n' - (j - i'))) b in
    let all : sum_rows f i' ((i - i') + ((j - i) + (n' - (j - i')))) ≡ sum_rows f i' n' = ap (sum_rows f i') c in
    omega arith

pub sum_most : (f g : ℕ → ℕ) → ((i : ℕ) → f i ≤ g i) → (i n : ℕ) → sum_rows f i n ≤ sum_rows g i n
sum_most f g le i zero = omega arith
sum_most f g le i (suc n) = let rest = sum_most f g le i n in let one = le (i + n) in omega arith

pub sum_near : (f g : ℕ → ℕ) (i n : ℕ) → ((j : ℕ) → i ≤ j → j < i + n → f j ≤ g j) → sum_rows f i n ≤ sum_rows g i n
sum_near f g i zero le = omega arith
sum_near f g i (suc n) le = let rest = sum_near f g i n (λ j low high. le j low (omega arith)) in let one = le (i + n) (omega arith) (omega arith) in omega arith

-- each row counts
pub sum_least : (f : ℕ → ℕ) → ((i : ℕ) → 1 ≤ f i) → (i n : ℕ) → n ≤ sum_rows f i n
sum_least f some i zero = omega arith
sum_least f some i (suc n) = let rest = sum_least f some i n in let one = some (i + n) in omega arith

-- rows before an end

pub until_is : (end : ℕ) (f : ℕ → ℕ) (i : ℕ) → i < end → f i ≤ until end f i
until_is end f i less = go (nat_lt i end) refl
  where
    go : (b : Bool) → nat_lt i end ≡ b → f i ≤ cond b (f i) 0
    go true is = omega arith
    go false is = let above : end ≤ i = grind (arith, nat_tests) in absurd (omega arith)

pub until_most : (end : ℕ) (f : ℕ → ℕ) (i : ℕ) → until end f i ≤ f i
until_most end f i = go (nat_lt i end)
  where
    go : (b : Bool) → cond b (f i) 0 ≤ f i
    go true = omega arith
    go false = omega arith

pub until_less : (end : ℕ) (f g : ℕ → ℕ) → ((i : ℕ) → f i ≤ g i) → (i : ℕ) → until end f i ≤ until end g i
until_less end f g le i = go (nat_lt i end) (le i)
  where
    go : (b : Bool) → f i ≤ g i → cond b (f i) 0 ≤ cond b (g i) 0
    go true one = omega arith
    go false one = omega arith

-- parts

module _ (l : Limits) (lows : List ℕ) where
  pub left_near : (f g : ℕ → ℕ) (n : ℕ) → ((j : ℕ) → j < n * l.rows → f j ≤ g j) → sum_left l f lows n ≤ sum_left l g lows n
  left_near f g zero le = omega arith
  left_near f g (suc n) le = let wide = suc-mul n l.rows in let rest = left_near f g n (λ j less. le j (omega arith)) in
      let one = sum_near f g (n * l.rows + slice_index lows n) (l.rows - slice_index lows n) (λ j low high. le j (omega arith)) in omega arith

  pub left_next : (f : ℕ → ℕ) (n : ℕ) → sum_left l f lows n + sum_rows f (n * l.rows + slice_index lows n) (l.rows - slice_index lows n) ≡ sum_left l f lows (n + 1)
  left_next f n = let next : suc n ≡ n + 1 = omega arith in ap (sum_left l f lows) next

  pub left_rises : (f : ℕ → ℕ) (n m : ℕ) → n ≤ m → sum_left l f lows n ≤ sum_left l f lows m
  left_rises f n zero le = let none : n ≡ 0 = omega arith in subst (λ z. sum_left l f lows z ≤ 0) (sym none) (omega arith)
  left_rises f n (suc m) le = dite (dec_le n m) (λ less. let rest = left_rises f n m less in omega arith)
      (λ not. let same : n ≡ suc m = omega arith in subst (λ z. sum_left l f lows z ≤ sum_left l f lows (suc m)) (sym same) (omega arith))

  pub parts_rise : (n m : ℕ) → n ≤ m → parts_left l lows n ≤ parts_left l lows m
  parts_rise n zero le = let none : n ≡ 0 = omega arith in subst (λ z. parts_left l lows z ≤ 0) (sym none) (omega arith)
  parts_rise n (suc m) le = dite (dec_le n m) (λ less. let rest = parts_rise n m less in omega arith)
      (λ not. let same : n ≡ suc m = omega arith in subst (λ z. parts_left l lows z ≤ parts_left l lows (suc m)) (sym same) (omega arith))

  -- a part that has rows left
  pub parts_more : (n : ℕ) → slice_index lows n ≢ l.rows → parts_left l lows n + 1 ≤ parts_left l lows (n + 1)
  parts_more n left = let next : suc n ≡ n + 1 = omega arith in subst (λ z. parts_left l lows n + 1 ≤ parts_left l lows z) next
      (⊎_elim (λ t. absurd (left t.1)) (λ t. (let is : ◌≡◌ {A = ℕ} (cond (slice_index lows n == l.rows) 0 1) 1 = ap (λ b. cond b 0 1) t.0 in omega arith)) (eqb_tells (slice_index lows n) l.rows))

  -- several that have
  pub parts_all : (n m : ℕ) → n ≤ m → ((q : ℕ) → n ≤ q → q < m → slice_index lows q ≢ l.rows) → parts_left l lows n + (m - n) ≤ parts_left l lows m
  parts_all n zero le left = let none : n ≡ 0 = omega arith in subst (λ z. parts_left l lows z + (0 - z) ≤ 0) (sym none) (omega arith)
  parts_all n (suc m) le left = dite (dec_le n m)
      (λ less. let rest = parts_all n m less (λ q low high. left q low (omega arith)) in let one = parts_more m (left m less (omega arith)) in let next : m + 1 ≡ suc m = omega arith in
      subst (λ z. parts_left l lows n + (z - n) ≤ parts_left l lows z) next (omega arith))
      (λ not. let same : n ≡ suc m = omega arith in subst (λ z. parts_left l lows z + (suc m - z) ≤ parts_left l lows (suc m)) (sym same) (omega arith))

-- where a scan ended

pub ends_most : (a b : ℕ) (o : Option Taken) → a ≤ b → scan_end a o ≤ scan_end b o
ends_most a b None le = le
ends_most a b (Some t) le = omega arith

pub ends_far : (l : Limits) (N : Type 0) (n from to stage u : ℕ) (v w : View) (o : Option Taken) → from ≤ to → MatchOption o N (λ (t : Taken). Took l n from stage u v w t.element t.attempt × (t.element.root ≡ t.root)) → from ≤ scan_end to o
ends_far l N n from to stage u v w None le found = le
ends_far l N n from to stage u v w (Some t) le found = let reach = found.0.reach in omega arith

pub ends_inside : (l : Limits) (N : Type 0) (n from to stage u : ℕ) (v w : View) (o : Option Taken) → to ≤ rows_of l → MatchOption o N (λ (t : Taken). Took l n from stage u v w t.element t.attempt × (t.element.root ≡ t.root)) → scan_end to o ≤ rows_of l
ends_inside l N n from to stage u v w None le found = le
ends_inside l N n from to stage u v w (Some t) le found = let k = found.0 in let inside = births_inside l w.seen k.walk.steady.shows.legal t.element k.born in omega arith

-- bounds of steps

module _ (l : Limits) where
  -- what is after some steps is after those before them
  after_back : (n : List Event → List Event → ℕ) (v w : View) (h : List Event) → IsLean l n v w → IsAfter l w h → IsAfter l v h
  after_back n v w h a z = record { begins = begins_trans _ _ _ a.begins z.begins; so = λ x k. z.so x (a.knows x k) }

  pub after_self : (w : View) → Steady l w → IsAfter l w w.seen
  after_self w s = record { begins = begins_refl w.seen; so = s.known }

  pub lean_few : (n m : List Event → List Event → ℕ) (v w : View) → ((a h : List Event) → n a h ≤ m a h) → IsLean l n v w → IsLean l m v w
  lean_few n m v w le a = record { few = λ h z. (let p = a.few h z in let q = le v.seen h in omega arith); begins = a.begins; knows = a.knows }

  -- any steps of which there are so few
  pub lean_made : (k : ℕ) (ms : List TraceEntry) (v w : View) → Stepped l k ms v w → IsLean l (λ a h. k) v w
  lean_made k ms v w a = record { few = λ h z. made l k ms v w a; begins = walked_begins l k ms v w a; knows = a.knows }

  pub lean_none : (v : View) → IsLean l (λ a h. 0) v v
  lean_none v = record { few = λ h z. omega arith; begins = begins_refl v.seen; knows = λ x k. k }

  pub lean_then : (n m k : List Event → List Event → ℕ) (v w x : View)
      → ((a b h : List Event) → IsPrefix a b → IsPrefix b h → n a h + m b h ≤ k a h) → IsLean l n v w → IsLean l m w x → IsLean l k v x
  lean_then n m k v w x le a b = record {
    few = λ h z. let back = after_back m w x h b z in let p = a.few h back in let q = b.few h z in let both = le v.seen w.seen h a.begins back.begins in omega arith;
    begins = begins_trans _ _ _ a.begins b.begins;
    knows = λ x k. b.knows x (a.knows x k);
  }

  module _ (stage : ℕ) where
    -- steps at some rows, and then at others behind them
    pub lean_apart : (k i m k' j n most first rows : ℕ) (v w x : View) → k + k' ≤ most → first ≤ i → i + m ≤ j → j + n ≤ first + rows
        → IsLeanAt l stage k i m v w → IsLeanAt l stage k' j n w x → IsLeanAt l stage most first rows v x
    lean_apart k i m k' j n most first rows v w x le low apart high a b = lean_then _ _ _ v w x
        (λ p q h begins after. let less = sum_most (try_steps_at stage q h) (try_steps_at stage p h) (λ r. steps_less stage p q h r begins after) j n in
        let both = sum_apart (try_steps_at stage p h) i m j n first rows low apart high in omega arith) a b

    -- any steps, at no row
    pub lean_at : (k i : ℕ) (ms : List TraceEntry) (v w : View) → Stepped l k ms v w → IsLeanAt l stage k i 0 v w
    lean_at k i ms v w a = lean_few (λ p h. k) _ v w (λ p h. omega arith) (lean_made k ms v w a)

    pub lean_start : (i : ℕ) (v : View) → IsLeanAt l stage 0 i 0 v v
    lean_start i v = lean_few (λ p h. 0) _ v v (λ p h. omega arith) (lean_none v)

    -- the first rows, and one more
    pub lean_row : (from k row : ℕ) (v w x : View) → from ≤ row → k ≤ row - from → IsLeanAt l stage 0 from k v w → IsLeanAt l stage 0 row 1 w x → IsLeanAt l stage 0 from (row + 1 - from) v x
    lean_row from k row v w x up le a b = lean_apart 0 from k 0 row 1 0 from (row + 1 - from) v w x (omega arith) (omega arith) (omega arith) (omega arith) a b

    pub lean_less : (k i m most first rows : ℕ) (v w : View) → k ≤ most → first ≤ i → i + m ≤ first + rows → IsLeanAt l stage k i m v w → IsLeanAt l stage most first rows v w
    lean_less k i m most first rows v w le low high a = lean_few _ _ v w
        (λ p h. let all = sum_apart (try_steps_at stage p h) i m (i + m) 0 first rows low (omega arith) (omega arith) in omega arith) a

    -- no more steps than there are rows
    pub lean_rows : (k i m : ℕ) (ms : List TraceEntry) (v w : View) → k ≤ m → Stepped l k ms v w → IsLeanAt l stage 0 i m v w
    lean_rows k i m ms v w le a = lean_few (λ p h. k) _ v w
        (λ p h. let all = sum_least (try_steps_at stage p h) (λ j. steps_some stage (claim_changes p j == claim_changes h j) (element_of h j)) i m in omega arith) (lean_made k ms v w a)

    -- at no row, whichever that would be
    pub lean_zero : (k i j m : ℕ) (v w : View) → m ≡ 0 → IsLeanAt l stage k i m v w → IsLeanAt l stage k j 0 v w
    lean_zero k i j m v w none a = lean_few _ _ v w (λ p h. omega arith) (subst (λ z. IsLeanAt l stage k i z v w) none a)

    -- steps at some rows, with others before and after them
    pub lean_between : (k i m k' most first rows : ℕ) (ms ns : List TraceEntry) (v w x y : View) → k + k' ≤ most → first ≤ i → i + m ≤ first + rows
        → Stepped l k ms v w → IsLeanAt l stage 0 i m w x → Stepped l k' ns x y → IsLeanAt l stage most first rows v y
    lean_between k i m k' most first rows ms ns v w x y le low high a b c = lean_apart k i m k' (i + m) 0 most first rows v x y le low (omega arith) (omega arith)
        (lean_apart k i 0 0 i m k i m v w x (omega arith) (omega arith) (omega arith) (omega arith) (lean_at k i ms v w a) b) (lean_at k' (i + m) ns x y c)

    -- and with others before them
    pub lean_behind : (k i m k' most : ℕ) (ms : List TraceEntry) (v w x : View) → k + k' ≤ most → Stepped l k ms v w → IsLeanAt l stage k' i m w x → IsLeanAt l stage most i m v x
    lean_behind k i m k' most ms v w x le a b = lean_apart k i 0 k' i m most i m v w x le (omega arith) (omega arith) (omega arith) (lean_at k i ms v w a) b

    -- none, where no row of those was looked at
    pub lean_free : (k i n : ℕ) (v w : View) → w ≡ v → IsLeanAt l stage k i n v w
    lean_free k i n v w same = subst (λ z. IsLeanAt l stage k i n v z) (sym same) (lean_less 0 i 0 k i n v v (omega arith) (omega arith) (omega arith) (lean_start i v))

    -- parts

    pub lean_from : (k n end : ℕ) (lows : List ℕ) (v : View) → IsLeanIn l stage k lows n end v v
    lean_from k n end lows v = lean_few (λ p h. 0) _ v v (λ p h. omega arith) (lean_none v)

    -- fewer parts
    pub lean_parts : (k n most m end : ℕ) (lows : List ℕ) (v w : View) → k ≤ most → n ≤ m → IsLeanIn l stage k lows n end v w → IsLeanIn l stage most lows m end v w
    lean_parts k n most m end lows v w le up a = lean_few _ _ v w (λ p h. let less = left_rises l lows (until end (try_steps_at stage p h)) n m up in omega arith) a

    -- and steps at no row
    pub lean_skip : (k n m most r end : ℕ) (lows : List ℕ) (ms : List TraceEntry) (v w x : View) → k + m ≤ most → n ≤ r → IsLeanIn l stage k lows n end v w → Stepped l m ms w x → IsLeanIn l stage most lows r end v x
    lean_skip k n m most r end lows ms v w x le up a b = lean_then _ (λ p h. m) _ v w x (λ p q h begins after. let less = left_rises l lows (until end (try_steps_at stage p h)) n r up in omega arith) a (lean_made m ms w x b)

    -- one of which is for a row that part r has left
    pub lean_left : (k n m most r e end : ℕ) (lows : List ℕ) (ms : List TraceEntry) (v w x : View) → k + m ≤ most + 1 → n ≤ r → r < e → slice_index lows r < l.rows → r * l.rows + l.rows ≤ end
        → IsLeanIn l stage k lows n end v w → Stepped l m ms w x → IsLeanIn l stage most lows e end v x
    lean_left k n m most r e end lows ms v w x le up on some inside a b = lean_then _ (λ p h. m) _ v w x
        (λ p q h begins after. let f = until end (try_steps_at stage p h) in let i : ℕ = r * l.rows + slice_index lows r in let own : ℕ = l.rows - slice_index lows r in
        let less = left_rises l lows f n r up in let next = left_next l lows f r in let rest = left_rises l lows f (r + 1) e (omega arith) in
        let each = sum_least (try_steps_at stage p h) (λ j. steps_some stage (claim_changes p j == claim_changes h j) (element_of h j)) i own in
        let near = sum_near (try_steps_at stage p h) f i own (λ j low high. until_is end (try_steps_at stage p h) j (omega arith)) in omega arith) a (lean_made m ms w x b)

    -- some rows, with those before an end
    rows_until : (p q h : List Event) (i m end : ℕ) → IsPrefix p q → IsPrefix q h → i + m ≤ end ⊎ (m ≡ 0) → sum_rows (try_steps_at stage q h) i m ≤ sum_rows (until end (try_steps_at stage p h)) i m
    rows_until p q h i m end begins after le = let less = sum_most (try_steps_at stage q h) (try_steps_at stage p h) (λ r. steps_less stage p q h r begins after) i m in
        let own = sum_near (try_steps_at stage p h) (until end (try_steps_at stage p h)) i m (λ j low high. until_is end (try_steps_at stage p h) j (⊎_elim (λ in_it. omega arith) (λ none. absurd (omega arith)) le)) in omega arith

    parts_until : (p h : List Event) (lows : List ℕ) (n end0 end : ℕ) → n * l.rows ≤ end → sum_left l (until end0 (try_steps_at stage p h)) lows n ≤ sum_left l (until end (try_steps_at stage p h)) lows n
    parts_until p h lows n end0 end le = left_near l lows (until end0 (try_steps_at stage p h)) (until end (try_steps_at stage p h)) n (λ j less. let f = try_steps_at stage p h in let a = until_most end0 f j in let b = until_is end f j (omega arith) in omega arith)

    -- one part more, up to row e
    pub lean_part : (k n k' most low end0 end e : ℕ) (lows : List ℕ) (v w x : View) → k + k' ≤ most → low ≡ slice_index lows n → n * l.rows ≤ end → e ≤ end → e ≤ n * l.rows + l.rows
        → IsLeanIn l stage k lows n end0 v w → IsLeanAt l stage k' (n * l.rows + low) (e - (n * l.rows + low)) w x → IsLeanIn l stage most lows (n + 1) end v x
    lean_part k n k' most low end0 end e lows v w x le same behind before inside a b = lean_then _ _ _ v w x
        (λ p q h begins after. let f = until end (try_steps_at stage p h) in let i : ℕ = n * l.rows + slice_index lows n in let m : ℕ = e - i in
        let old = parts_until p h lows n end0 end behind in
        let own = rows_until p q h i m end begins after (dite (dec_le i e) (λ low. inl (omega arith)) (λ not. inr (omega arith))) in
        let all = sum_less f i m (l.rows - slice_index lows n) (omega arith) in let next = left_next l lows f n in omega arith)
        a (subst (λ z. IsLeanAt l stage k' (n * l.rows + z) (e - (n * l.rows + z)) w x) same b)

    -- the spare rows before an end, by a mark that may have risen
    spare_less : (f : ℕ → ℕ) (n m e : ℕ) → n ≤ m → e ≤ rows_of l → sum_rows f (part_rows l + m) (e - (part_rows l + m)) ≤ sum_rows f (part_rows l + n) (BLOCK_ROWS * l.spare - n)
    spare_less f n m e le inside = dite (dec_le (part_rows l + m) e)
        (λ low. let all = sum_apart f (part_rows l + m) (e - (part_rows l + m)) e 0 (part_rows l + n) (BLOCK_ROWS * l.spare - n) (omega arith) (omega arith) (omega arith) in omega arith)
        (λ out. let none : e - (part_rows l + m) ≡ 0 = omega arith in subst (λ z. sum_rows f (part_rows l + m) z ≤ sum_rows f (part_rows l + n) (BLOCK_ROWS * l.spare - n)) (sym none) (omega arith))

    -- the parts, and then the spare rows
    pub lean_marked : (end e : ℕ) (lows lows' : List ℕ) (v w x : View) → slice_index lows l.parts ≤ slice_index lows' l.parts → part_rows l ≤ e → e ≤ rows_of l → IsLeanIn l stage (3 * (parts_left l lows l.parts + 1)) lows l.parts end v w
        → IsLeanAt l stage (3 * drawn_steps l.spare) (part_rows l + slice_index lows' l.parts) (e - (part_rows l + slice_index lows' l.parts)) w x → IsLean l (lean_scan_steps l stage lows e) v x
    lean_marked end e lows lows' v w x rises behind inside a b = lean_then _ _ _ v w x
        (λ p q h begins after. let i : ℕ = part_rows l + slice_index lows' l.parts in let m : ℕ = e - i in
        let old = parts_until p h lows l.parts end e behind in
        let own = rows_until p q h i m e begins after (dite (dec_le i e) (λ low. inl (omega arith)) (λ not. inr (omega arith))) in
        let spare = spare_less (until e (try_steps_at stage p h)) (slice_index lows l.parts) (slice_index lows' l.parts) e rises inside in omega arith) a b

    -- or the parts alone
    pub lean_early : (e : ℕ) (lows : List ℕ) (v w : View) → IsLeanIn l stage (3 * (parts_left l lows l.parts + 1)) lows l.parts e v w → IsLean l (lean_scan_steps l stage lows e) v w
    lean_early e lows v w a = lean_few _ _ v w (λ p h. omega arith) a

    module _ (i : ℕ) (ms : List TraceEntry) (v w : View) where
      here : (k : ℕ) → Stepped l k ms v w → ((h : List Event) → IsAfter l w h → k ≤ try_steps_at stage v.seen h i) → IsLeanAt l stage 0 i 1 v w
      here k a le = record {
        few = λ h z. let one = le h z in let none : i + 0 ≡ i = omega arith in let at : try_steps_at stage v.seen h (i + 0) ≡ try_steps_at stage v.seen h i = ap (try_steps_at stage v.seen h) none in
            made_few k _ v w (omega arith) (made l k ms v w a);
        begins = walked_begins l k ms v w a;
        knows = a.knows;
      }

      -- a row whose head is of another stage
      pub lean_other : Stepped l 1 ms v w → IsLeanAt l stage 0 i 1 v w
      lean_other a = here 1 a (λ h z. steps_some stage _ (element_of h i))

      -- a row whose head is of the stage, and where nothing is born yet
      pub lean_unborn : (head : Head) → Knows w (RowHead i head) → head ≢ Empty → ((e : Element) → head ≡ head_of e → e.stage ≡ stage) → Stepped l 2 ms v w → IsLeanAt l stage 0 i 1 v w
      lean_unborn head knows full own a = here 2 a (λ h z. steps_two stage _ (element_of h i) (λ x is. own x (z.so (RowHead i head) knows full x is)))

      -- a row where an element of the stage is born
      pub lean_own : (x : Element) → element_of w.seen i ≡ Some x → x.stage ≡ stage → Stepped l 4 ms v w → IsLeanAt l stage 0 i 1 v w
      lean_own x is own a = here 4 a (λ h z. steps_own stage v.seen h i x (found_later w.seen h z.begins i x is) own)

      -- and whose claim has changed
      pub lean_changed : (x : Element) → element_of w.seen i ≡ Some x → x.stage ≡ stage → claim_changes v.seen i < claim_changes w.seen i → Stepped l try_steps ms v w → IsLeanAt l stage 0 i 1 v w
      lean_changed x is own less a = here try_steps a (λ h z. steps_changed stage v.seen h i x (found_later w.seen h z.begins i x is) own (let more = changes_later w.seen h i z.begins in omega arith))

    -- rows, a look at the next one, and what is left to make at that
    pub lean_last : (from m row : ℕ) (v w x : View) → row ≡ from + m → IsLeanAt l stage 1 from m v w → IsLean l (λ a h. try_steps_at stage a h row - 1) w x → IsLeanAt l stage 0 from (m + 1) v x
    lean_last from m row v w x at a b = lean_then _ (λ p h. try_steps_at stage p h row - 1) (λ p h. 0 + sum_rows (try_steps_at stage p h) from (m + 1)) v w x
        (λ p q h begins after. let here : try_steps_at stage p h row ≡ try_steps_at stage p h (from + m) = ap (try_steps_at stage p h) at in
        let next : suc m ≡ m + 1 = omega arith in let all : sum_rows (try_steps_at stage p h) from (suc m) ≡ sum_rows (try_steps_at stage p h) from (m + 1) = ap (sum_rows (try_steps_at stage p h) from) next in
        let less = steps_less stage p q h row begins after in let some = steps_some stage (claim_changes p row == claim_changes h row) (element_of h row) in omega arith) a b

    module _ (i : ℕ) (ms : List TraceEntry) (v w : View) where
      rest : (k : ℕ) → Stepped l k ms v w → ((h : List Event) → IsAfter l w h → k + 1 ≤ try_steps_at stage v.seen h i) → IsLean l (λ a h. try_steps_at stage a h i - 1) v w
      rest k a le = record {
        few = λ h z. let one = le h z in made_few k (try_steps_at stage v.seen h i - 1) v w (omega arith) (made l k ms v w a);
        begins = walked_begins l k ms v w a;
        knows = a.knows;
      }

      -- where an element of the stage is born
      pub rest_own : (x : Element) → element_of w.seen i ≡ Some x → x.stage ≡ stage → Stepped l 3 ms v w → IsLean l (λ a h. try_steps_at stage a h i - 1) v w
      rest_own x is own a = rest 3 a (λ h z. steps_own stage v.seen h i x (found_later w.seen h z.begins i x is) own)

      -- and whose claim has changed
      pub rest_changed : (x : Element) → element_of w.seen i ≡ Some x → x.stage ≡ stage → claim_changes v.seen i < claim_changes w.seen i → Stepped l (try_steps - 1) ms v w → IsLean l (λ a h. try_steps_at stage a h i - 1) v w
      rest_changed x is own less a = rest (try_steps - 1) a (λ h z. (let all = steps_changed stage v.seen h i x (found_later w.seen h z.begins i x is) own (let more = changes_later w.seen h i z.begins in omega arith) in omega arith))

    pub rest_took : (n from u attempt : ℕ) (e : Element) (v w : View) → n ≤ try_steps - 1 → Took l n from stage u v w e attempt → IsLean l (λ a h. try_steps_at stage a h e.id - 1) v w
    rest_took n from u attempt e v w le t = rest_changed e.id t.marks v w e t.born t.of_stage
        (let low = changes_later v.seen t.before e.id t.begins in let more = changes_claimed t.before (hand v).number u e.id attempt in
        subst (λ z. claim_changes v.seen e.id < claim_changes z e.id) (sym t.ends) (omega arith)) (walked_few l n (try_steps - 1) t.marks v w le t.walk)

    -- the row of an element that was taken
    pub lean_took : (n from u attempt : ℕ) (e : Element) (v w : View) → n ≤ try_steps → Took l n from stage u v w e attempt → IsLeanAt l stage 0 e.id 1 v w
    lean_took n from u attempt e v w le t = lean_changed e.id t.marks v w e t.born t.of_stage
        (let low = changes_later v.seen t.before e.id t.begins in let more = changes_claimed t.before (hand v).number u e.id attempt in
        subst (λ z. claim_changes v.seen e.id < claim_changes z e.id) (sym t.ends) (omega arith)) (walked_few l n try_steps t.marks v w le t.walk)

-- a claim: the choice of a unit, and the scan
pub lean_claim : (l k : Limits) (stage e : ℕ) (lows lows' : List ℕ) (ms : List TraceEntry) (v w y : View) → l ≡ k → lows ≡ lows' → Stepped l 1 ms v w → IsLean l (lean_scan_steps l stage lows e) w y → Steady l y
    → StepsTo (1 + lean_scan_steps k stage lows' e v.seen y.seen) v y
lean_claim l k stage e lows lows' ms v w y same shown first scan steady = subst (λ (z : Limits × List ℕ). StepsTo (1 + lean_scan_steps z.0 stage z.1 e v.seen y.seen) v y) (λ i. (same i, shown i))
    ((lean_then l (λ a h. 1) (lean_scan_steps l stage lows e) (λ a h. 1 + lean_scan_steps l stage lows e a h) v w y
    (λ p q h begins after. let f = until e (try_steps_at stage q h) in let g = until e (try_steps_at stage p h) in
    let less : (r : ℕ) → f r ≤ g r = until_less e (try_steps_at stage q h) (try_steps_at stage p h) (λ r. steps_less stage p q h r begins after) in
    let parts = left_near l lows f g l.parts (λ r _. less r) in let spare = sum_most f g less (part_rows l + slice_index lows l.parts) (BLOCK_ROWS * l.spare - slice_index lows l.parts) in omega arith)
    (lean_made l 1 ms v w first) scan).few y.seen (after_self l y steady))
