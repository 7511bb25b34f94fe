-- The rows that a listing passed over, and the one that it answers.
use Rattle.std.proofs.Common.{◌≡◌, ◌≢◌, ℕ, ◌+◌, ◌*◌, ◌<◌, ◌≤◌, Option, Some, None, MatchOption, List, [], ◌∷◌, ◌++◌, refl, sym, ◌∙◌, subst, inl, inr, arith, ⊎_elim, slice_index}
use Rattle.std.proofs.lemmas.Bool.Decides.{eqb_tells}
use mathlib.Core.List.{IsPrefix}
use mathlib.Core.Logic.{dite}
use native.Mathlib.Decide.{dec_le, ℕ_discrete}
use Rattle.tp_model.specs.declared.types.Element.{Element}
use Rattle.tp_model.specs.declared.types.Limits.{Limits}
use Rattle.tp_model.specs.declared.types.Status.{Status}
use Rattle.tp_model.specs.declared.types.Status.TheVariants.{Killed, Waiting, Parked}
use Rattle.tp_model.specs.declared.event.Event.{Event}
use Rattle.tp_model.specs.declared.event.Event.TheVariants.{Enqueue, Claim, Commit, Abort, Kill, Requeue}
use Rattle.tp_model.specs.declared.trace.TraceEntry.{TraceEntry}
use Rattle.tp_model.specs.History.{IsSettled, IsUnborn, element_of, status_of}
use Rattle.tp_model.specs.Passes.{opening_of}
use Rattle.tp_model.specs.Words.{ClaimWord, FreeWord, TakenWord, KilledWord, AgainWord, round_in, kill_word, claim_word, claim_word_after}
use Rattle.tp_model.specs.Steps.{IsLegal, IsParked, IsServerStage, Step, rows_of, part_rows}
use Rattle.tp_model.proofs.Lists.{if_same, if_other}
use Rattle.tp_model.proofs.Histories.{by_steps, element_of-kept, legal_start}
use Rattle.tp_model.proofs.WordProofs.{claim_word-snoc}
use Rattle.tp_model.proofs.Replies.{reply_stands}
use Rattle.tp_model.proofs.Bridges.{begins_refl, begins_trans, found_later}
use Rattle.tp_model.proofs.Later.{births_inside}
use Rattle.tp_rule.specs.Words.{head_of}
use Rattle.tp_rule.specs.declared.packing.Head.{Head}
use Rattle.tp_rule.specs.declared.packing.Head.TheVariants.{Filled}
use Rattle.tp_rule.specs.Rule.{Concerns}
use Rattle.tp_rule.specs.Steps.{AreFinishedFor}
use Rattle.tp_rule.specs.declared.view.View.{View}
use Rattle.tp_manager.specs.Calls.{AtPoint, IsWaiting, opening}
use Rattle.tp_manager.specs.Shown.{Spot, PassShown, shown}
use Rattle.tp_manager.specs.CallSteps.{Acted, Looked, Steady, Stepped}
use Rattle.tp_manager.specs.Marks.{Remembers}
use Rattle.tp_manager.specs.Scans.{EachRow, Begun, Sought}
use Rattle.tp_manager.specs.Lists.{AllKilled, NextError, NoneParked}
use Rattle.tp_manager.specs.Finds.{Finds, HasFate, HasListed, Hits, IsBelowMark, PassedOver}
use Rattle.tp_manager.specs.declared.error_queue.Fate.{Fate}
use Rattle.tp_manager.specs.declared.error_queue.Fate.TheVariants.{Error, Over, Other}
use Rattle.tp_manager.proofs.Rows.Seeks.{Widens, begun_done, begun_looked, begun_sought, sought_behind, sought_more, sought_then}
use Rattle.tp_manager.proofs.Marks.Raises.{low_kept}
use Rattle.tp_manager.proofs.Calls.CallSteps.{looked, looked_few, looked_none, opening_is, sought_acted, sought_by, sought_few, walked_none}

-- units take elements of the servers' stages alone
module _ (l : Limits) where
  abbrev IsServed : List Event → ℕ → Type 0
  IsServed h i = (x : Element) × (element_of h i ≡ Some x) × IsServerStage x.stage

  served_later : (h : List Event) (e : Event) (i : ℕ) → IsServed h i → IsServed (h ++ e ∷ []) i
  served_later h e i s = (s.0, element_of-kept h (e ∷ []) i s.0 s.1, s.2)

  not_taken : (w : ClaimWord) (n u r : ℕ) → kill_word w ≢ TakenWord n u r
  not_taken FreeWord n u r p = cc
  not_taken (TakenWord m v k) n u r p = cc
  not_taken (KilledWord m v k) n u r p = cc
  not_taken (AgainWord k) n u r p = cc

  served_after : (h : List Event) (e : Event) → Step l h e → (i n u r : ℕ) → (claim_word h i ≡ TakenWord n u r → IsServed h i) → claim_word_after i (claim_word h i) e ≡ TakenWord n u r → IsServed (h ++ e ∷ []) i
  served_after h (Enqueue c y) step i n u r old p = served_later h (Enqueue c y) i (old p)
  served_after h (Claim c v j m) step i n u r old p =
      elim (eqb_tells j i) [
        | inl q ↦ served_later h (Claim c v j m) i (step.item, subst (λ z. element_of h z ≡ Some step.item) q.1 step.born, step.stage)
        | inr q ↦ served_later h (Claim c v j m) i (old (sym (if_other j i (TakenWord m v (round_in (claim_word h i))) (claim_word h i) q.1) ∙ p))
      ]
  served_after h (Commit c v outs) step i n u r old p = served_later h (Commit c v outs) i (old p)
  served_after h (Abort c v) step i n u r old p = served_later h (Abort c v) i (old p)
  served_after h (Kill c j) step i n u r old p =
      elim (eqb_tells j i) [
        | inl q ↦ absurd (not_taken (claim_word h i) n u r (sym (if_same j i (kill_word (claim_word h i)) (claim_word h i) q.1) ∙ p))
        | inr q ↦ served_later h (Kill c j) i (old (sym (if_other j i (kill_word (claim_word h i)) (claim_word h i) q.1) ∙ p))
      ]
  served_after h (Requeue c j k) step i n u r old p =
      elim (eqb_tells j i) [
        | inl q ↦ absurd (let e : AgainWord k ≡ TakenWord n u r = sym (if_same j i (AgainWord k) (claim_word h i) q.1) ∙ p in cc)
        | inr q ↦ served_later h (Requeue c j k) i (old (sym (if_other j i (AgainWord k) (claim_word h i) q.1) ∙ p))
      ]

  pub taken_served : (h : List Event) → IsLegal l h → (i n u r : ℕ) → claim_word h i ≡ TakenWord n u r → IsServed h i
  taken_served h legal = by_steps l (λ z. (i n u r : ℕ) → claim_word z i ≡ TakenWord n u r → IsServed z i) (λ i n u r p. absurd cc) more h legal
    where
      more : (h : List Event) (e : Event) → IsLegal l h → Step l h e → ((i n u r : ℕ) → claim_word h i ≡ TakenWord n u r → IsServed h i) → (i n u r : ℕ) → claim_word (h ++ e ∷ []) i ≡ TakenWord n u r → IsServed (h ++ e ∷ []) i
      more h e legal step old i n u r p = served_after h e step i n u r (old i n u r) (sym (claim_word-snoc h e i) ∙ p)

  -- so a reply that doesn't wait is killed
  pub reply_killed : (h : List Event) (i : ℕ) (x : Element) → IsLegal l h → element_of h i ≡ Some x → x.stage ≡ 15 → ¬ IsWaiting (status_of l.attempts h i) → status_of l.attempts h i ≡ Killed
  reply_killed h i x legal born staged not = ⊎_elim (λ waits. absurd (not (0, waits))) (λ killed. killed) (reply_stands l h legal i x born staged)

  -- and is never parked
  pub reply_not_parked : (h : List Event) (i : ℕ) (x : Element) → IsLegal l h → element_of h i ≡ Some x → x.stage ≡ 15 → ¬ IsParked (status_of l.attempts h i)
  reply_not_parked h i x legal born staged parked = ⊎_elim (λ waits. (let e : Waiting 0 ≡ Parked parked.0 = sym waits ∙ parked.1 in absurd cc)) (λ killed. (let e : Killed ≡ Parked parked.0 = sym killed ∙ parked.1 in absurd cc)) (reply_stands l h legal i x born staged)

module _ (l : Limits) where
  pub over_unborn : (i : ℕ) (a h : List Event) → IsPrefix a h → IsUnborn h i → PassedOver l i a h
  over_unborn i a h begins un = λ x p. let q = found_later a h begins i x p in let e : None ≡ Some x = sym un ∙ q in absurd cc

  pub over_fate : (i : ℕ) (a c b : List Event) (f : Fate) → IsPrefix a c → IsPrefix c b → ¬ (f ≡ Error) → HasFate l i c b f → PassedOver l i a b
  over_fate i a c b Error before after not fate x p = absurd (not refl)
  over_fate i a c b Over before after not fate x p = (b, begins_trans a c b before after, begins_refl b, λ is. subst IsSettled is.1 fate)
  over_fate i a c b Other before after not fate x p = (fate.0, begins_trans a c fate.0 before fate.1, fate.2, fate.3)

-- nothing was passed over in a row in which nothing is born
pub none_over : (l : Limits) (j : ℕ) (h : List Event) → IsUnborn h j → PassedOver l j h h
none_over l j h un = over_unborn l j h h (begins_refl h) un

-- a row that was passed over is so from an earlier history on, and to a later one
pub over_widens : (l : Limits) → Widens (PassedOver l)
over_widens l i a a' b b' before after passed x p = let t = passed x (found_later a a' before i x p) in (t.0, begins_trans a a' t.0 before t.1, begins_trans t.0 b b' t.2 after, t.3)

-- a listing as a whole
module _ (t t' : Spot) (v y : View) (old : PassShown) (is : shown t v ≡ old) (l : Limits) (m from : ℕ) (marks : List TraceEntry) (walk : Stepped l m marks v y) where
  abbrev O : List Event
  O = opening_of v.seen marks

  opened : opening old (shown t' y) ≡ O
  opened = opening_is t t' v y old is l m marks walk

  born_there : (x : Element) → element_of (opening old (shown t' y)) x.id ≡ Some x → element_of O x.id ≡ Some x
  born_there x p = subst (λ h. element_of h x.id ≡ Some x) opened p

  point : (Holds : List Event → Type 0) (p : List Event) → IsPrefix O p → IsPrefix p y.seen → Holds p → AtPoint old (shown t' y) Holds
  point Holds p begins ends h = (p, record { opened = subst (λ z. IsPrefix z p) (sym opened) begins; seen = ends }, h)

  legal_within : (p : List Event) → IsPrefix p y.seen → IsLegal l p
  legal_within p ends = legal_start l p ends.0 (subst (IsLegal l) (sym ends.1) walk.steady.shows.legal)

  inside : (x : Element) → element_of O x.id ≡ Some x → x.id < rows_of l
  inside x p = births_inside l O (legal_within O walk.closes) x p

  none_parked : (end : ℕ) (Ids : ℕ → Type 0) → ((i : ℕ) → Ids i → i < rows_of l → (from ≤ i) × (i < end)) → EachRow (PassedOver l) from end O y.seen → NoneParked l Ids old (shown t' y)
  none_parked end Ids range passed x p id = let born = born_there x p in let r = range x.id id (inside x born) in let q = passed x.id r.0 r.1 x born in
      point (λ h. ¬ IsParked (status_of l.attempts h x.id)) q.0 q.1 q.2 q.3

  error_none : EachRow (PassedOver l) from (rows_of l) O y.seen → NoneParked l (λ i. from ≤ i) old (shown t' y)
  error_none passed = none_parked (rows_of l) (λ i. from ≤ i) (λ i low high. (low, high)) passed

  error_some : (id : ℕ) → from ≤ id → Hits l id y.seen → EachRow (PassedOver l) from id O y.seen → NextError l from id old (shown t' y)
  error_some id low hit passed = record {
    from_on = low;
    parked = point (λ h. (x : Element) × (element_of h id ≡ Some x) × IsParked (status_of l.attempts h id)) y.seen walk.closes (begins_refl y.seen) hit;
    before = none_parked id (λ i. (from ≤ i) × (i < id)) (λ i range _. range) passed;
  }

pub finds_acted : (l : Limits) (n from end : ℕ) (v y : View) (r : Option ℕ) → Finds l n from end v y r → Acted l n v y
finds_acted l n from end v y None s = sought_acted l n (EachRow (PassedOver l) from end) v y s
finds_acted l n from end v y (Some id) s = sought_acted l n (EachRow (PassedOver l) from id) v y s.3

-- an element isn't looked for where it is over, or of a stage that the marks aren't about at which the listing starts
not_parked : (stage : ℕ) (s : Status) → (stage ≡ 15 → ¬ IsParked s) → (Concerns 0 stage → IsSettled s) → ¬ IsParked s
not_parked stage s unparked over is = dite (ℕ_discrete stage 15) (λ reply. unparked reply is) (λ other. subst IsSettled is.1 (over other))

pub over_aside : (l : Limits) (i : ℕ) (a h : List Event) → IsLegal l h → IsPrefix a h → ((x : Element) → element_of h i ≡ Some x → ¬ Concerns 0 x.stage) → PassedOver l i a h
over_aside l i a h legal begins aside x p = let born = found_later a h begins i x p in
    (h, begins, begins_refl h, not_parked x.stage (status_of l.attempts h i) (reply_not_parked l h i x legal born) (λ about. absurd (aside x born about)))

pub over_low : (l : Limits) (h : List Event) (p n i : ℕ) → IsLegal l h → AreFinishedFor l 0 h p n → p * l.rows ≤ i → i < p * l.rows + n → PassedOver l i h h
over_low l h p n i legal over low high x born = (h, begins_refl h, begins_refl h, not_parked x.stage (status_of l.attempts h i) (reply_not_parked l h i x legal born) (over i low high x born))

-- what the pass remembers says of the rows below a mark also later
pub over_remembered : (l : Limits) (lows : List ℕ) (p i n : ℕ) (ms : List TraceEntry) (v w : View) → Remembers 0 v lows → Stepped l n ms v w → p * l.rows ≤ i → i < p * l.rows + slice_index lows p → PassedOver l i w.seen w.seen
over_remembered l lows p i n ms v w r a low high =
    over_low l w.seen p (slice_index lows p) i a.steady.shows.legal (low_kept l 0 v w p n ms lows a r (omega arith)).1 low high

-- the marks at which a listing starts are about no server's stage alone
pub not_server : ¬ IsServerStage 0
not_server fair = let low = fair.0 in omega arith

-- an element whose head is of a stage that a kind isn't about is of that stage
pub head_aside : (c : ℕ) (head : Head) (x : Element) → head ≡ head_of x → ((found root : ℕ) (by : Option ℕ) → head ≡ Filled found root by → ¬ Concerns c found) → ¬ Concerns c x.stage
head_aside c head x is aside = aside x.stage x.root x.by is

-- a listing of some rows, after a look that found nothing
pub finds_behind : (l : Limits) (n m k from end : ℕ) (v w y : View) (r : Option ℕ) → n + m ≤ k → Looked l n v w → Finds l m from end w y r → Finds l k from end v y r
finds_behind l n m k from end v w y None le a s = sought_few l (n + m) k (EachRow (PassedOver l) from end) v y le (sought_behind l n m (PassedOver l) (over_widens l) from end v w y a s)
finds_behind l n m k from end v w y (Some id) le a s = (s.0, s.1, s.2, sought_few l (n + m) k (EachRow (PassedOver l) from id) v y le (sought_behind l n m (PassedOver l) (over_widens l) from id v w y a s.3))

-- the row that was found, after which a mark was raised
pub sought_raised : (l : Limits) (n from to : ℕ) (v w y : View) → Sought l n (EachRow (PassedOver l) from to) v w → Looked l 1 w y → Sought l (n + 1) (EachRow (PassedOver l) from to) v y
sought_raised l n from to v w y s a = sought_then l n 1 (EachRow (PassedOver l) from to) v w y (λ a b c later each j low high. over_widens l j a a b c (begins_refl a) later (each j low high)) s a

module _ (t t' : Spot) (v y : View) (old : PassShown) (is : shown t v ≡ old) (l : Limits) (n from : ℕ) where
  pub error_answer : (r : Option ℕ) → Finds l n from (rows_of l) v y r → MatchOption r (NoneParked l (λ i. from ≤ i) old (shown t' y)) (λ id. NextError l from id old (shown t' y))
  error_answer None s = error_none t t' v y old is l n from s.marks s.walk s.passed
  error_answer (Some id) s = error_some t t' v y old is l n from s.3.marks s.3.walk id s.0 s.2 s.3.passed

-- from the capacity on there is nothing
module _ (t : Spot) (v : View) (old : PassShown) (is : shown t v ≡ old) (l : Limits) (s : Steady l v) (from : ℕ) (out : rows_of l ≤ from) where
  nothing : (x : Element) → element_of (opening old (shown t v)) x.id ≡ Some x → from ≤ x.id → ⊥
  nothing x p low = let born : element_of v.seen x.id ≡ Some x = subst (λ h. element_of h x.id ≡ Some x) (opening_is t t v v old is l 0 [] (walked_none l v s)) p in let less = births_inside l v.seen s.shows.legal x born in omega arith

  pub none_beyond : NoneParked l (λ i. from ≤ i) old (shown t v)
  none_beyond x p low = absurd (nothing x p low)

  pub killed_beyond : (root : ℕ) → AllKilled l root (λ i. from ≤ i) old (shown t v)
  killed_beyond root x p reply low = absurd (nothing x p low)

-- what a look at the parts and then at the spare blocks came to
pub find_both : (l : Limits) (n m from : ℕ) (v w y : View) (o : Option ℕ) → from ≤ part_rows l → Sought l n (EachRow (PassedOver l) from (part_rows l)) v w
    → MatchOption o (Begun l (PassedOver l) m (part_rows l) (rows_of l) w y) (λ id. (part_rows l ≤ id) × (id < rows_of l) × Hits l id y.seen × Sought l m (EachRow (PassedOver l) (part_rows l) id) w y)
    → Finds l (n + m) from (rows_of l) v y o
find_both l n m from v w y None start s b = sought_more l (PassedOver l) (over_widens l) n m from (part_rows l) (rows_of l) v w y start (omega arith) s b
find_both l n m from v w y (Some id) start s b = let low = b.0 in (omega arith, b.1, b.2, sought_more l (PassedOver l) (over_widens l) n m from (part_rows l) id v w y start low s (inr b.3))

-- rows that were looked at, and rows before them that are below the marks
pub over_before : (l : Limits) (n from row end : ℕ) (lows : List ℕ) (v w : View) → Remembers 0 v lows → ((i : ℕ) → from ≤ i → i < row → IsBelowMark l lows i)
    → Sought l n (EachRow (PassedOver l) row end) v w → Sought l n (EachRow (PassedOver l) from end) v w
over_before l n from row end lows v w r below s = record {
  marks = s.marks;
  walk = s.walk;
  kept = s.kept;
  step = s.step;
  passed = λ i low high. dite (dec_le row i)
      (λ past. s.passed i past high)
      (λ not. let b = below i low (omega arith) in over_widens l i (opening_of v.seen s.marks) w.seen w.seen w.seen s.walk.closes (begins_refl w.seen) (over_remembered l lows b.0 i n s.marks v w r s.walk b.1 b.2));
}

-- and rows after them in a part of which the mark is its end
pub over_on : (l : Limits) (n from row part : ℕ) (lows : List ℕ) (v w : View) → Steady l w → Remembers 0 w lows → part * l.rows ≤ row → slice_index lows part ≡ l.rows
    → Sought l n (EachRow (PassedOver l) from row) v w → Sought l n (EachRow (PassedOver l) from (part * l.rows + l.rows)) v w
over_on l n from row part lows v w steady r reach finished s = record {
  marks = s.marks;
  walk = s.walk;
  kept = s.kept;
  step = s.step;
  passed = λ i low high. dite (dec_le row i)
      (λ past. over_widens l i (opening_of v.seen s.marks) w.seen w.seen w.seen s.walk.closes (begins_refl w.seen) (over_remembered l lows part i 0 [] w w r (walked_none l w steady) (omega arith) (omega arith)))
      (λ not. s.passed i low (omega arith));
}

-- a look at some rows more
pub listed_sought : (l : Limits) (n k from row end : ℕ) (lows : List ℕ) (v w y : View) → from ≤ row → Remembers 0 v lows → HasListed l n from row lows v w
    → Sought l k (EachRow (PassedOver l) row end) w y → Sought l (n + k) (EachRow (PassedOver l) from end) v y
listed_sought l n k from row end lows v w y start r h s = ⊎_elim
    (λ t. sought_few l k (n + k) (EachRow (PassedOver l) from end) v y (omega arith) (over_before l k from row end lows v y r t.2 (subst (λ z. Sought l k (EachRow (PassedOver l) row end) z y) t.0 s)))
    (λ t. begun_sought l (PassedOver l) (over_widens l) n from k row v w y (inr t) end start s) h

-- a part that is left out, since its mark is its end
pub listed_on : (l : Limits) (n m from row part : ℕ) (lows lows' : List ℕ) (v w : View) → n ≤ m → Steady l w → Remembers 0 w lows' → part * l.rows ≤ row → slice_index lows part ≡ l.rows → slice_index lows' part ≡ l.rows
    → part * l.rows + l.rows < part_rows l → HasListed l n from row lows v w → HasListed l m from (part * l.rows + l.rows) lows v w
listed_on l n m from row part lows lows' v w le steady r reach finished finished' more h = ⊎_elim
    (λ t. inl (
      t.0,
      more,
      λ i low high. dite (dec_le row i) (λ past. (part, omega arith, omega arith)) (λ not. t.2 i low (omega arith)),
    ))
    (λ t. inr (sought_few l n m (EachRow (PassedOver l) from (part * l.rows + l.rows)) v w le (over_on l n from row part lows' v w steady r reach finished' t))) h

pub listed_more : (l : Limits) (n m from row : ℕ) (lows : List ℕ) (v w : View) → n ≤ m → HasListed l n from row lows v w → HasListed l m from row lows v w
listed_more l n m from row lows v w le h = ⊎_elim (λ t. inl t) (λ t. inr (sought_few l n m (EachRow (PassedOver l) from row) v w le t)) h

-- all rows of the parts: then there was a look
pub listed_all : (l : Limits) (n m from row : ℕ) (lows : List ℕ) (v w : View) → n ≤ m → row ≡ part_rows l → HasListed l n from row lows v w → Sought l m (EachRow (PassedOver l) from (part_rows l)) v w
listed_all l n m from row lows v w le all h = ⊎_elim (λ t. absurd (let less = t.1 in omega arith))
    (λ t. subst (λ z. Sought l m (EachRow (PassedOver l) from z) v w) all (sought_few l n m (EachRow (PassedOver l) from row) v w le t)) h

-- the steps of a listing of the parts so far
pub listed_looked : (l : Limits) (n from row : ℕ) (lows : List ℕ) (v w : View) → Steady l v → HasListed l n from row lows v w → Looked l n v w
listed_looked l n from row lows v w steady h = ⊎_elim
    (λ t. subst (λ z. Looked l n v z) (sym t.0) (looked_few l 0 n v v (omega arith) (looked_none l v steady)))
    (λ t. record { marks = t.marks; walk = t.walk; kept = t.kept }) h

-- a listing of what is left
pub finds_listed : (l : Limits) (n m k from row end : ℕ) (lows : List ℕ) (v w y : View) (r : Option ℕ) → n + m ≤ k → from ≤ row → Remembers 0 v lows → HasListed l n from row lows v w → Finds l m row end w y r → Finds l k from end v y r
finds_listed l n m k from row end lows v w y None le start rem h s = sought_few l (n + m) k (EachRow (PassedOver l) from end) v y le (listed_sought l n m from row end lows v w y start rem h s)
finds_listed l n m k from row end lows v w y (Some id) le start rem h s = let low = s.0 in (omega arith, s.1, s.2, sought_few l (n + m) k (EachRow (PassedOver l) from id) v y le (listed_sought l n m from row id lows v w y start rem h s.3))

-- a listing of the last rows, after steps that look
pub begun_behind : (l : Limits) (n m k from top : ℕ) (v w y : View) (o : Option ℕ) → n + m ≤ k → Acted l n v w
    → MatchOption o (Begun l (PassedOver l) m from top w y) (λ id. (from ≤ id) × (id < top) × Hits l id y.seen × Sought l m (EachRow (PassedOver l) from id) w y)
    → MatchOption o (Begun l (PassedOver l) k from top v y) (λ id. (from ≤ id) × (id < top) × Hits l id y.seen × Sought l k (EachRow (PassedOver l) from id) v y)
begun_behind l n m k from top v w y None le a b = inr (⊎_elim
    (λ t. subst (λ z. Sought l k (EachRow (PassedOver l) from top) v z) (sym t.1)
    (sought_few l n k (EachRow (PassedOver l) from top) v w (omega arith) (sought_by l n (EachRow (PassedOver l) from top) v w a (λ i low high. absurd (let e = t.0 in omega arith)))))
    (λ t. sought_few l (n + m) k (EachRow (PassedOver l) from top) v y le (sought_behind l n m (PassedOver l) (over_widens l) from top v w y (looked l n v w a) t)) b)
begun_behind l n m k from top v w y (Some id) le a b = (b.0, b.1, b.2, sought_few l (n + m) k (EachRow (PassedOver l) from id) v y le (sought_behind l n m (PassedOver l) (over_widens l) from id v w y (looked l n v w a) b.3))

-- the steps of a listing of the last rows
pub begun_steps : (l : Limits) (m from top : ℕ) (v y : View) (o : Option ℕ) → Steady l v
    → MatchOption o (Begun l (PassedOver l) m from top v y) (λ id. (from ≤ id) × (id < top) × Hits l id y.seen × Sought l m (EachRow (PassedOver l) from id) v y) → Looked l m v y
begun_steps l m from top v y None steady b = begun_looked l (PassedOver l) (over_widens l) m from top v y b steady
begun_steps l m from top v y (Some id) steady b = record { marks = b.3.marks; walk = b.3.walk; kept = b.3.kept }

-- where there is a row to look at
pub begun_finds : (l : Limits) (m k from top : ℕ) (v y : View) (o : Option ℕ) → m ≤ k → from < top
    → MatchOption o (Begun l (PassedOver l) m from top v y) (λ id. (from ≤ id) × (id < top) × Hits l id y.seen × Sought l m (EachRow (PassedOver l) from id) v y) → Finds l k from top v y o
begun_finds l m k from top v y None le less b = sought_few l m k (EachRow (PassedOver l) from top) v y le (begun_done l (PassedOver l) (over_widens l) m from top v y b less)
begun_finds l m k from top v y (Some id) le less b = (b.0, b.1, b.2, sought_few l m k (EachRow (PassedOver l) from id) v y le b.3)
