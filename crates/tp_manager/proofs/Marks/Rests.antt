-- Where the marks that a pass remembers rest.
use Rattle.std.proofs.Common.{◌≡◌, ◌≢◌, ◌⊎◌, ℕ, suc, suc-mul, mul-le-mul_right, ◌+◌, ◌*◌, ◌<◌, ◌≤◌, List, [], MatchOption, Option, Some, None, ◌++◌, length, set, slice_index, slice_set, sym, ◌∙◌, subst, inl, inr, ⊎_elim, arith}
use mathlib.Core.List.{IsPrefix}
use mathlib.Core.Logic.{dite}
use native.Mathlib.Decide.{dec_le, ℕ_discrete}
use Rattle.std.proofs.lemmas.List.{get_or-set_same, get_or-set_other}
use Rattle.tp_model.specs.declared.types.Limits.{Limits}
use Rattle.tp_model.specs.declared.event.Event.{Event}
use Rattle.tp_model.specs.declared.trace.TraceEntry.{TraceEntry}
use Rattle.tp_model.specs.Passes.{HasLook, opening_of}
use Rattle.atomic_table.specs.Seated.{TableId}
use Rattle.tp_model.specs.declared.types.TheConstants.{BLOCK_ROWS}
use Rattle.tp_model.specs.Steps.{block_first, part_rows}
use Rattle.tp_model.proofs.Bridges.{begins_refl}
use Rattle.tp_rule.specs.declared.view.View.{View}
use Rattle.tp_manager.specs.Calls.{AtPoint}
use Rattle.tp_manager.specs.Raises.{IsOfUse, RestsInBlocks, RestsInPart}
use Rattle.tp_manager.specs.Shown.{PassShown, Spot, marks_of, shown, spot}
use Rattle.tp_manager.specs.Spares.{Passed, SpareRests}
use Rattle.tp_rule.specs.Steps.{Knows}
use Rattle.tp_rule.specs.declared.view.Known.TheVariants.{PartMark}
use Rattle.tp_manager.specs.declared.seeker.Taken.{Taken}
use Rattle.tp_manager.specs.CallSteps.{Acted, Steady, Stepped, opening_in}
use Rattle.tp_manager.specs.Marks.{MayRemember, Remembers, RestsAt, Rose, WasOfUse, WasOfUseIn}
use Rattle.tp_manager.specs.Scans.{Begun, PassedBy, Took}
use Rattle.tp_manager.proofs.Marks.Useless.{Goes, rose_later}
use Rattle.tp_manager.proofs.Marks.Raises.{use_later}
use Rattle.tp_manager.proofs.Calls.Points.{opening_kept, opening_later}
use Rattle.tp_manager.proofs.Calls.CallSteps.{steps_in, walked_begins, walked_few, walked_none, walked_then}

-- one mark that the pass may remember beside those that it remembers
pub remembers_set : (c p n : ℕ) (lows : List ℕ) (v : View) → p < length lows → MayRemember v.limits c v p n → Remembers c v lows → Remembers c v (slice_set lows p n)
remembers_set c p n lows v inside one all q = dite (ℕ_discrete q p)
    (λ same. subst (λ z. 0 < slice_index (slice_set lows p n) z → MayRemember v.limits c v z (slice_index (slice_set lows p n) z)) (sym same)
    (λ some. subst (MayRemember v.limits c v p) (sym (get_or-set_same lows p n 0 inside)) one))
    (λ other. subst (λ z. 0 < z → MayRemember v.limits c v q z) (sym (get_or-set_other lows p q n 0 other)) (all q))

-- what a pass remembers is above the mark M that it found by rows of no use
pub rose_found : (l : Limits) (c p n M : ℕ) (v w : View) → Goes l v w → M ≤ n → ((k : ℕ) → Knows v (PartMark c p k) → k ≤ M) → MayRemember l c v p n → Rose c w (p * l.rows + M) (p * l.rows + n)
rose_found l c p n M v w g le rises may = ⊎_elim
    (λ k. let top = rises n k in (omega arith, λ i low high. absurd (omega arith)))
    (λ m. let top = rises m.found m.knows in (omega arith, λ i low high. (rose_later l c v w (p * l.rows + m.found) (p * l.rows + n) g m.rose).1 i (omega arith) high)) may

module _ (l : Limits) (n m : ℕ) (ms ns : List TraceEntry) (v w x : View) (a : Stepped l n ms v w) (b : Stepped l m ns w x) where
  all_steps : opening_in v x ≡ opening_of v.seen (ms ++ ns)
  all_steps = steps_in l (n + m) (ms ++ ns) v x (walked_then l n m ms ns v w x a b)

  -- the opening of steps is no later than that of the last of them
  opening_before : IsPrefix (opening_in v x) (opening_in w x)
  opening_before = subst (λ (z : List Event × List Event). IsPrefix z.0 z.1) (λ j. (sym all_steps j, sym (steps_in l m ns w x b) j)) (opening_later v.seen w.seen ms ns a.closes b.opens)

  -- and that of the first of them, where these look
  opening_first : HasLook ms → opening_in v x ≡ opening_in v w
  opening_first look = all_steps ∙ (opening_kept v.seen ms ns look.0 look.1 look.2 ∙ sym (steps_in l n ms v w a))

  module _ (stage i : ℕ) where
    pub use_before : WasOfUseIn l stage i w x → WasOfUseIn l stage i v x
    use_before was = use_later l stage i (opening_in v x) (opening_in w x) x.seen x.seen opening_before (begins_refl x.seen) was

    pub use_behind : HasLook ms → WasOfUseIn l stage i v w → WasOfUseIn l stage i v x
    use_behind look was = use_later l stage i (opening_in v x) (opening_in v w) w.seen x.seen (subst (IsPrefix (opening_in v x)) (opening_first look) (begins_refl (opening_in v x))) (walked_begins l m ns w x b) was

  -- a mark that rests by the last of these steps does so by all of them
  pub rests_before : (stage p k : ℕ) → RestsAt l stage p k w x → RestsAt l stage p k v x
  rests_before stage p k rests = ⊎_elim (λ end. inl end) (λ was. inr (use_before stage (p * l.rows + k) was)) rests

  pub spare_before : (stage end k : ℕ) → SpareRests l stage end k w x → SpareRests l stage end k v x
  spare_before stage end k rests = ⊎_elim (λ past. inl past) (λ was. inr (use_before stage (part_rows l + k) was)) rests

  -- and one that does so by the first of them, where these look
  pub rests_behind : (stage p k : ℕ) → HasLook ms → RestsAt l stage p k v w → RestsAt l stage p k v x
  rests_behind stage p k look rests = ⊎_elim (λ end. inl end) (λ was. inr (use_behind stage (p * l.rows + k) look was)) rests

  pub spare_behind : (stage end k : ℕ) → HasLook ms → SpareRests l stage end k v w → SpareRests l stage end k v x
  spare_behind stage end k look rests = ⊎_elim (λ past. inl past) (λ was. inr (use_behind stage (part_rows l + k) look was)) rests

-- a row that was of use after a look
module _ (l : Limits) (n m : ℕ) (ns : List TraceEntry) (v w y x : View) (a : Acted l n v w) (b : Stepped l m ns w x) (same : x.seen ≡ y.seen) where
  opening_seen : IsPrefix (opening_in v x) w.seen
  opening_seen = subst (λ z. IsPrefix z w.seen) (sym (opening_first l n m a.marks ns v w x a.walk b a.step)) (subst (λ z. IsPrefix z w.seen) (sym (steps_in l n a.marks v w a.walk)) a.walk.closes)

  stuck_in : (stage i low : ℕ) → i ≡ low → WasOfUse l stage low w.seen y.seen → WasOfUseIn l stage i v x
  stuck_in stage i low at was = subst (λ z. WasOfUseIn l stage z v x) (sym at) (use_later l stage low (opening_in v x) w.seen y.seen x.seen opening_seen (subst (IsPrefix y.seen) (sym same) (begins_refl y.seen)) was)

  -- where a mark rests that was raised to the first row that isn't known of no use
  pub rests_by : (stage p k low row : ℕ) → p * l.rows + k ≡ low → (low < row → WasOfUse l stage low w.seen y.seen) → (low < row) ⊎ (low ≡ p * l.rows + l.rows) → RestsAt l stage p k v x
  rests_by stage p k low row at stuck stands = ⊎_elim (λ less. inr (stuck_in stage (p * l.rows + k) low at (stuck less))) (λ end. inl (omega arith)) stands

  pub spare_rests : (stage p k low row end : ℕ) → p * l.rows ≡ part_rows l → p * l.rows + k ≡ low → (low < row → WasOfUse l stage low w.seen y.seen) → (low < row) ⊎ (end ≤ low) → SpareRests l stage end k v x
  spare_rests stage p k low row end first at stuck stands = ⊎_elim (λ less. inr (stuck_in stage (part_rows l + k) low (omega arith) (stuck less))) (λ past. inl (omega arith)) stands

-- one part more that a scan came to
pub parts_on : (l : Limits) (stage first n k m : ℕ) (P : ℕ → List Event → List Event → Type 0) (ns : List TraceEntry) (lows lows' : List ℕ) (v w y : View) → Begun l P k first n v w → Stepped l m ns w y
    → ((q : ℕ) → first ≤ q → q < n → RestsAt l stage q (slice_index lows q) v w) → RestsAt l stage n (slice_index lows' n) w y → ((q : ℕ) → q ≢ n → slice_index lows' q ≡ slice_index lows q)
    → (q : ℕ) → first ≤ q → q < n + 1 → RestsAt l stage q (slice_index lows' q) v y
parts_on l stage first n k m P ns lows lows' v w y b a old new same q low high = dite (ℕ_discrete q n)
    (λ at. subst (λ z. RestsAt l stage z (slice_index lows' z) v y) (sym at)
    (⊎_elim (λ p. subst (λ z. RestsAt l stage n (slice_index lows' n) z y) p.1 new) (λ s. rests_before l k m s.marks ns v w y s.walk a stage n (slice_index lows' n) new) b))
    (λ other. ⊎_elim (λ p. absurd (let e = p.0 in omega arith))
    (λ s. subst (λ z. RestsAt l stage q z v y) (sym (same q other)) (rests_behind l k m s.marks ns v w y s.walk a stage q (slice_index lows q) s.step (old q low (omega arith)))) b)

-- several parts more
pub parts_both : (l : Limits) (stage first n r k m : ℕ) (P : ℕ → List Event → List Event → Type 0) (ns : List TraceEntry) (lows : List ℕ) (v w y : View) → Begun l P k first n v w → Stepped l m ns w y
    → ((q : ℕ) → first ≤ q → q < n → RestsAt l stage q (slice_index lows q) v w) → ((q : ℕ) → n ≤ q → q < r → RestsAt l stage q (slice_index lows q) w y)
    → (q : ℕ) → first ≤ q → q < r → RestsAt l stage q (slice_index lows q) v y
parts_both l stage first n r k m P ns lows v w y b a old new q low high = dite (dec_le n q)
    (λ past. ⊎_elim (λ p. subst (λ z. RestsAt l stage q (slice_index lows q) z y) p.1 (new q past high)) (λ s. rests_before l k m s.marks ns v w y s.walk a stage q (slice_index lows q) (new q past high)) b)
    (λ not. ⊎_elim (λ p. absurd (let e = p.0 in omega arith)) (λ s. rests_behind l k m s.marks ns v w y s.walk a stage q (slice_index lows q) s.step (old q low (omega arith))) b)

-- a part that begins no later than a row of part n is that part or one before it
pub part_before : (rows p n i : ℕ) → i < n * rows + rows → p * rows ≤ i → p < n + 1
part_before rows p n i less low = dite (dec_le (n + 1) p) (λ past. absurd (let all : suc n * rows ≤ p * rows = mul-le-mul_right rows (omega arith) in omega (arith, suc-mul n rows))) (λ not. omega arith)

-- the same of the spare rows
pub drawn_walked : (l : Limits) (stage u n from end : ℕ) (v w : View) (o : Option Taken)
    → MatchOption o (Passed l n (PassedBy l stage) from end v w) (λ (t : Taken). Took l n from stage u v w t.element t.attempt × (t.element.root ≡ t.root)) → (ms : List TraceEntry) × Stepped l n ms v w
drawn_walked l stage u n from end v w None s = (s.0.marks, s.0.walk)
drawn_walked l stage u n from end v w (Some t) s = (s.0.marks, s.0.walk)

pub begun_walked : (l : Limits) (stage u n from end : ℕ) (v w : View) (o : Option Taken) → Steady l v
    → MatchOption o (Begun l (PassedBy l stage) n from end v w) (λ (t : Taken). Took l n from stage u v w t.element t.attempt × (t.element.root ≡ t.root)) → (ms : List TraceEntry) × Stepped l n ms v w
begun_walked l stage u n from end v w None s b = ⊎_elim
    (λ p. subst (λ z. (ms : List TraceEntry) × Stepped l n ms v z) (sym p.1) ([], walked_few l 0 n [] v v (omega arith) (walked_none l v s)))
    (λ q. (q.marks, q.walk)) b
begun_walked l stage u n from end v w (Some t) s b = (b.0.marks, b.0.walk)

-- what a caller sees of the marks after a claim
module _ (l : Limits) (stage : ℕ) (lows : List (List ℕ)) (row : List ℕ) (inside : stage < length lows) (table : TableId) (drawn : ℕ) (turns : List ℕ) (t : Spot) (v y : View) (old : PassShown) (is : shown t v ≡ old) where
  abbrev then : PassShown
  then = shown (spot table (set lows stage row) drawn turns) y

  own : marks_of (set lows stage row) stage ≡ row
  own = get_or-set_same lows stage row [] inside

  at_use : (i : ℕ) → WasOfUseIn l stage i v y → AtPoint old then (IsOfUse l stage i)
  at_use i was = subst (λ (z : PassShown). AtPoint z then (IsOfUse l stage i)) is (was.0, record { opened = was.1; seen = was.2 }, was.3)

  pub rests_shown : (p : ℕ) → RestsAt l stage p (slice_index row p) v y → RestsInPart l stage p old then
  rests_shown p rests = subst (λ z. (slice_index z p ≡ l.rows) ⊎ AtPoint old then (IsOfUse l stage (p * l.rows + slice_index z p))) (sym own)
      (⊎_elim (λ end. inl end) (λ was. inr (at_use (p * l.rows + slice_index row p) was)) rests)

  pub spare_shown : SpareRests l stage (block_first l drawn) (slice_index row l.parts) v y → RestsInBlocks l stage old then
  spare_shown rests = subst (λ z. (BLOCK_ROWS * drawn ≤ slice_index z l.parts) ⊎ AtPoint old then (IsOfUse l stage (part_rows l + slice_index z l.parts))) (sym own)
      (⊎_elim (λ past. inl (omega arith)) (λ was. inr (at_use (part_rows l + slice_index row l.parts) was)) rests)
