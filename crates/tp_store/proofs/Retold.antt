-- A store that is told in full is taken back.
use Rattle.std.proofs.Common.{◌≡◌, ◌==◌, ◌≤◌, ◌<◌, ◌-◌, ◌^◌, nat_lt, nat_le, ℕ, Bool, true, false, if◌then◌else◌, Option, Some, None, List, [], ◌∷◌, length, map, slice_index_or, refl, sym, ◌∙◌, ap, arith}
use Rattle.std.specs.Ordering.{nat_cmp}
use Rattle.std.specs.BTreeMap.{is_at}
use Rattle.std.specs.List.{AllByRecursion}
use Rattle.std.specs.Map.{keys_of}
use Rattle.std.proofs.lemmas.Map.Entries.{length-keys_of}
use Rattle.std.proofs.lemmas.Map.Keys.{sorted_head, sorted_tail}
use Rattle.std.proofs.lemmas.Map.Views.{length-le_from_below}
use Rattle.std.proofs.lemmas.List.Elements.{All-from_recursion}
use Rattle.std.proofs.lemmas.Bool.Decides.{nat_tests}
use Rattle.tp_model.specs.Drafts.{DraftView}
use Rattle.tp_store.specs.declared.counts.Counts.{Counts}
use Rattle.tp_store.specs.declared.element.Element.{Element}
use Rattle.tp_store.specs.declared.element.TheConstants.{LAST_STAGE, MAX_ROUNDS, REPLY_STAGE}
use Rattle.tp_store.specs.Counting.{no_counts, no_tally}
use Rattle.tp_store.specs.Ends.{is_over}
use Rattle.tp_store.specs.Elements.{Entry, element_at}
use Rattle.tp_store.specs.Restoring.{is_attempt, is_drawn, is_possible, is_stage, is_standing, all_back, with_numbers}
use Rattle.tp_store.specs.Restoring.{Numbers, Back, Over}
use Rattle.tp_store.specs.Retelling.{AreTaken, HasDraftStages, settled_in, told_of, ToldAndTakenBack}
use Rattle.tp_store.specs.Runs.{Call, Submit, Claim, ClaimFrom, Take, Commit, Abort, Release, Kill, Cancel, Requeue, Collect, SetLimits, run}
use Rattle.tp_store.specs.Shelves.{AreSorted}
use Rattle.tp_store.specs.Soundness.{HasEnded, is_for_reply, IsSound, IsSoundElement, unit_in}
use Rattle.tp_store.specs.State.{State, start}
use Rattle.tp_store.proofs.Accounted.{acc_run, start_accounted}
use Rattle.tp_store.proofs.AccountSteps.{Accounted, HasStagesFrom}
use Rattle.tp_store.proofs.Finding.{at_most, both, later}
use Rattle.tp_store.proofs.Leading.{runs_are_sound, start_sound}
use Rattle.tp_store.proofs.Looking.{sorted_none}
use Rattle.tp_store.proofs.PutBack.{and_true, come_back, ComeBack, Leads, leads_both, MayComeBack, of_elements, of_ended, overs_back, passed}
use Rattle.tp_store.proofs.Recounted.{none_counted}
use Rattle.tp_store.proofs.Resettled.{all_settled, IsBehind, IsUnder, under_all, IsUnsettled}
use Rattle.tp_store.proofs.Settling.{HasPlace}

-- a store that can be told in full
pub record IsTellable (s : State) : Type 0 where
  pub sound : IsSound s
  pub account : Accounted 1 s

at_least : (m n : ℕ) → m ≤ n → nat_le m n ≡ true
at_least m n h = grind (arith, nat_tests)

below : (m n : ℕ) → m < n → nat_lt m n ≡ true
below m n h = grind (arith, nat_tests)

as_number : (m n : ℕ) → (m == n) ≡ true → m ≡ n
as_number m n h = grind (arith, nat_tests)

-- ---- each element may come back

drawn : (units : ℕ) (unit : Option ℕ) → ((u : ℕ) → unit ≡ Some u → u < units) → is_drawn units unit ≡ true
drawn units None all = refl
drawn units (Some u) all = below u units (all u refl)

standing_so : (e : Element) → is_attempt e.status ≡ true → (e.stage ≡ REPLY_STAGE → is_for_reply e.status ≡ true) → is_standing e.stage e.status ≡ true
standing_so e attempt reply = and_true _ _ attempt (go (e.stage == REPLY_STAGE) refl)
  where
    go : (b : Bool) → (e.stage == REPLY_STAGE) ≡ b → (if b then is_for_reply e.status else true) ≡ true
    go true h = reply (as_number e.stage REPLY_STAGE h)
    go false h = refl

stage_there : (n : ℕ) → 1 ≤ n → n ≤ LAST_STAGE → is_stage n ≡ true
stage_there n low high = grind (arith, nat_tests)

possible : (s : State) (id : ℕ) (e : Element) → IsSoundElement s id e → HasPlace 1 id e → is_possible s.units id e ≡ true
possible s id e fit is = and_true _ _ (stage_there e.stage is.from is.stage) (and_true _ _ (at_least e.rounds MAX_ROUNDS fit.rounds) (and_true _ _ is.root (and_true _ _ (drawn s.units e.by fit.made_by) (and_true _ _ (drawn s.units (unit_in e.status) fit.taken_by) (standing_so e is.attempt fit.reply)))))

-- what is so of each element that is found is so of all in the list
each_of : (P : Entry → Type 0) (es : List Entry) → AreSorted es → ((id : ℕ) (e : Element) → element_at id es ≡ Some e → P (id, e)) → AllByRecursion P es
each_of P [] sorted all = tt
each_of P (x ∷ es) sorted all = (all x.0 x.1 (rw (itself x.0) refl), each_of P es (sorted_tail nat_cmp x.0 (keys_of es) sorted) (λ id e found. all id e (rw (past id x.0 (later id x.0 e es found (sorted_head nat_cmp x.0 (keys_of es) sorted))) found)))
  where
    itself : (n : ℕ) → is_at (nat_cmp n) n ≡ true
    itself n = grind (arith, nat_tests)

    past : (q k : ℕ) → k < q → is_at (nat_cmp q) k ≡ false
    past q k h = grind (arith, nat_tests)

keys_below : (n : ℕ) (es : List Entry) → AllByRecursion (λ e. e.0 < n) es → AllByRecursion (λ k. k < n) (keys_of es)
keys_below n [] all = tt
keys_below n (x ∷ es) all = (all.0, keys_below n es all.1)

few_elements : (s : State) → IsSound s → length s.elements ≤ s.next
few_elements s sound =
    let all = each_of (λ e. e.0 < s.next) s.elements sound.sorted (λ id e found. (sound.each id e found).drawn) in
    let most = length-le_from_below s.next (keys_of s.elements) sound.sorted (All-from_recursion (λ k. k < s.next) (keys_of s.elements) (keys_below s.next s.elements all)) in
    let same = length-keys_of s.elements in
    omega arith

ended_all : (s : State) (roots : List ℕ) → AllByRecursion (HasEnded s) roots → AllByRecursion (λ root. (nat_lt root s.next ≡ true) × (is_over root s.elements ≡ true)) roots
ended_all s [] all = tt
ended_all s (root ∷ roots) all = ((below root s.next all.0.0, all.0.1), ended_all s roots all.1)

-- ---- the whole

module _ (s : State) (is : IsTellable s) (few : s.next < 2 ^ 64 - 1) where
  abbrev numbers : State
  numbers = of_elements s.limits s.next s.units [] no_tally

  first : Leads (Numbers s.next s.units ∷ []) (start s.limits) numbers
  first = let go = passed _ (with_numbers s.next s.units (start s.limits)) (start s.limits) (and_true _ _ (at_least 0 s.next (omega arith)) (at_least 0 s.units (omega arith))) in record { taken = (go.0, tt); left = go.1 }

  may : AllByRecursion (MayComeBack s.limits s.next s.units) s.elements
  may = each_of (MayComeBack s.limits s.next s.units) s.elements is.sound.sorted (λ id e found. let fit = is.sound.each id e found in (below id s.next fit.drawn, possible s id e fit (is.account.each id e found)))

  elements : ComeBack s.limits s.next s.units [] s.elements no_tally
  elements = come_back s.limits s.next s.units [] s.elements no_tally is.sound.sorted may (let most = few_elements s is.sound in omega arith) none_counted sorted_none

  whole : Leads (told_of s) (start s.limits) s
  whole = leads_both (Numbers s.next s.units ∷ []) _ _ _ _ first (leads_both (map (λ (e : Entry). Back e.0 e.1) s.elements) _ _ _ _ elements.leads (leads_both (map Over s.ended) (settled_in s.tally.stages) back (of_ended s.ended back) s overs settles))
    where
      back : State
      back = of_elements s.limits s.next s.units s.elements elements.tally

      overs : Leads (map Over s.ended) back (of_ended s.ended back)
      overs = overs_back back [] s.ended (ended_all s s.ended is.sound.ended)

      under : (n : ℕ) → n < length elements.tally.stages → IsUnder (slice_index_or elements.tally.stages n no_counts) (slice_index_or s.tally.stages n no_counts)
      under n low =
          let c = elements.counted in
          let inside : n ≤ LAST_STAGE = (let l = c.long in omega arith) in
          record {
            waiting = c.waiting.shown.stage n inside ∙ sym (is.account.told.waiting.stage n inside);
            held = c.held.shown.stage n inside ∙ sym (is.account.told.held.stage n inside);
            parked = c.parked.shown.stage n inside ∙ sym (is.account.told.parked.stage n inside);
            consumed = let a = c.consumed.shown.stage n inside in let b = is.account.settled.consumed n inside in omega arith;
            killed = let a = c.killed.shown.stage n inside in let b = is.account.settled.killed n inside in omega arith;
          }

      behind : IsBehind elements.tally.total s.tally.total elements.tally.stages s.tally.stages
      behind = let c = elements.counted in record {
        waiting = c.waiting.shown.total ∙ sym is.account.told.waiting.total;
        held = c.held.shown.total ∙ sym is.account.told.held.total;
        parked = c.parked.shown.total ∙ sym is.account.told.parked.total;
        consumed = let a = c.consumed.adds in let b = is.account.told.add_consumed in omega arith;
        killed = let a = c.killed.adds in let b = is.account.told.add_killed in omega arith;
      }

      unsettled : (ys : List Counts) → (slice_index_or ys 0 no_counts).consumed ≡ 0 → (slice_index_or ys 0 no_counts).killed ≡ 0 → IsUnsettled ys
      unsettled [] a b = tt
      unsettled (y ∷ ys) a b = (a, b)

      settles : Leads (settled_in s.tally.stages) (of_ended s.ended back) s
      settles = all_settled (of_ended s.ended back) elements.tally.total s.tally.total elements.tally.stages s.tally.stages (let a = is.account.told.all in (omega arith, omega arith)) elements.counted.long (under_all elements.tally.stages s.tally.stages (elements.counted.long ∙ sym is.account.told.long) under) (unsettled s.tally.stages (ap (λ (c : Counts). c.consumed) (is.account.settled.none 0 (omega arith))) (ap (λ (c : Counts). c.killed) (is.account.settled.none 0 (omega arith)))) behind

pub tellable_back : (s : State) → IsTellable s → s.next < 2 ^ 64 - 1 → AreTaken (told_of s) (start s.limits) × (all_back (told_of s) (start s.limits) ≡ s)
tellable_back s is few = let go = whole s is few in (go.taken, go.left)

stages_from : (calls : List Call) → AllByRecursion HasDraftStages calls → AllByRecursion (HasStagesFrom 1) calls
stages_from [] all = tt
stages_from (call ∷ calls) all = (one call all.0, stages_from calls all.1)
  where
    inside : (n : ℕ) → is_stage n ≡ true → (1 ≤ n) × (n ≤ LAST_STAGE)
    inside n h = let parts = both _ _ h in (at_most 1 n parts.0, at_most n LAST_STAGE parts.1)

    drafts_from : (ds : List DraftView) → AllByRecursion (λ d. is_stage d.stage ≡ true) ds → AllByRecursion (λ d. (1 ≤ d.stage) × (d.stage ≤ LAST_STAGE)) ds
    drafts_from [] all = tt
    drafts_from (d ∷ ds) all = (inside d.stage all.0, drafts_from ds all.1)

    one : (call : Call) → HasDraftStages call → HasStagesFrom 1 call
    one (Submit stage body owner) fit = tt
    one (Claim stage) fit = tt
    one (ClaimFrom stage from) fit = tt
    one (Take id) fit = tt
    one (Commit id unit drafts) fit = drafts_from drafts fit
    one (Abort id unit) fit = tt
    one (Release id) fit = tt
    one (Kill id) fit = tt
    one (Cancel root) fit = tt
    one (Requeue id) fit = tt
    one (Collect id) fit = tt
    one (SetLimits limits) fit = tt

pub told_and_taken_back : ToldAndTakenBack
told_and_taken_back limits calls fit few = tellable_back (run calls (start limits)) (record {
  sound = runs_are_sound limits calls;
  account = acc_run 1 (omega arith) calls (start limits) (start_sound limits) (stages_from calls fit) few (start_accounted 1 (omega arith) limits);
}) few
