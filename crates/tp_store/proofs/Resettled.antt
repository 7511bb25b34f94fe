-- What was ever settled in each stage is taken back, one stage after another.
use Rattle.std.proofs.Common.{◌≡◌, ◌&&◌, ◌≤◌, ◌<◌, ◌+◌, ◌-◌, ◌^◌, nat_lt, nat_le, ℕ, suc, true, Ok, List, [], ◌∷◌, ◌++◌, length, slice_index_or, slice_set, sum_by, refl, sym, ◌∙◌, ap, subst, arith}
use Rattle.std.proofs.lemmas.Bool.Decides.{nat_tests}
use Rattle.std.proofs.lemmas.List.{append_assoc}
use Rattle.std.proofs.lemmas.List.Sums.{sum_by-cons}
use Rattle.std.proofs.Math.Seq.{get_or-append_seam, set-append_seam}
use Rattle.tp_store.specs.declared.counts.Counts.{Counts}
use Rattle.tp_store.specs.declared.element.TheConstants.{LAST_STAGE}
use Rattle.tp_store.specs.Counting.{no_counts}
use Rattle.tp_store.specs.Restoring.{is_rise, is_stage, settled, Settled, if_sound, taken_back}
use Rattle.tp_store.specs.Retelling.{answered, settled_from, settled_in}
use Rattle.tp_store.specs.State.{State}
use Rattle.tp_store.proofs.PutBack.{Leads, leads_both, passed}

-- the counts of a stage as elements tell them, and as they are with all that was ever settled
pub record IsUnder (c d : Counts) : Type 0 where
  pub waiting : c.waiting ≡ d.waiting
  pub held : c.held ≡ d.held
  pub parked : c.parked ≡ d.parked
  pub consumed : c.consumed ≤ d.consumed
  pub killed : c.killed ≤ d.killed

abbrev pub AreUnder : List Counts → List Counts → Type 0
AreUnder [] [] = Unit {0}
AreUnder (c ∷ cs) (d ∷ ds) = IsUnder c d × AreUnder cs ds
AreUnder cs ds = ⊥

pub settled_same : (c d : Counts) → IsUnder c d → settled d.consumed d.killed c ≡ d
settled_same c d under = all c.waiting c.held c.parked d.waiting d.held d.parked d.consumed d.killed under.waiting under.held under.parked
  where
    as_counts : ℕ → ℕ → ℕ → ℕ → ℕ → Counts
    as_counts w h p c k = record { waiting = w; held = h; consumed = c; parked = p; killed = k }

    all : (a b c x y z v w : ℕ) → a ≡ x → b ≡ y → c ≡ z → as_counts a b c v w ≡ as_counts x y z v w
    all a b c x y z v w p q r = cc

under_sums : (cs ds : List Counts) → AreUnder cs ds → (sum_by (λ c. c.consumed) cs ≤ sum_by (λ c. c.consumed) ds) × (sum_by (λ c. c.killed) cs ≤ sum_by (λ c. c.killed) ds)
under_sums [] [] all = (omega arith, omega arith)
under_sums (c ∷ cs) (d ∷ ds) all =
    let rest = under_sums cs ds all.1 in
    let a = rest.0 in let b = rest.1 in let p = all.0.consumed in let q = all.0.killed in
    let v = sum_by-cons (λ (c : Counts). c.consumed) c cs in let w = sum_by-cons (λ (c : Counts). c.consumed) d ds in
    let x = sum_by-cons (λ (c : Counts). c.killed) c cs in let y = sum_by-cons (λ (c : Counts). c.killed) d ds in
    (omega arith, omega arith)
under_sums [] (d ∷ ds) all = absurd all
under_sums (c ∷ cs) [] all = absurd all

-- the store with these counts
abbrev pub of_tally : Counts → List Counts → State → State
of_tally total stages s = record s { tally = record { total = total; stages = stages } }

-- how far the counts of all are behind what they become
pub record IsBehind (total end : Counts) (cs ds : List Counts) : Type 0 where
  pub waiting : total.waiting ≡ end.waiting
  pub held : total.held ≡ end.held
  pub parked : total.parked ≡ end.parked
  pub consumed : total.consumed + sum_by (λ c. c.consumed) ds ≡ end.consumed + sum_by (λ c. c.consumed) cs
  pub killed : total.killed + sum_by (λ c. c.killed) ds ≡ end.killed + sum_by (λ c. c.killed) cs

rises : (from to all : ℕ) → from ≤ to → all + (to - from) < 2 ^ 64 → is_rise from to all ≡ true
rises from to all low few = rw (at_least from to low, below (all + (to - from)) (2 ^ 64) few) refl
  where
    at_least : (m n : ℕ) → m ≤ n → nat_le m n ≡ true
    at_least m n h = grind (arith, nat_tests)

    below : (m n : ℕ) → m < n → nat_lt m n ≡ true
    below m n h = grind (arith, nat_tests)

pub same_counts : (c d : Counts) → c.waiting ≡ d.waiting → c.held ≡ d.held → c.consumed ≡ d.consumed → c.parked ≡ d.parked → c.killed ≡ d.killed → c ≡ d
same_counts c d p q r s t = all c.waiting c.held c.consumed c.parked c.killed d.waiting d.held d.consumed d.parked d.killed p q r s t
  where
    as_counts : ℕ → ℕ → ℕ → ℕ → ℕ → Counts
    as_counts a b c d e = record { waiting = a; held = b; consumed = c; parked = d; killed = e }

    all : (a b c d e v w x y z : ℕ) → a ≡ v → b ≡ w → c ≡ x → d ≡ y → e ≡ z → as_counts a b c d e ≡ as_counts v w x y z
    all a b c d e v w x y z p q r s t = cc

same_end : (total end : Counts) → IsBehind total end [] [] → total ≡ end
same_end total end behind = same_counts total end behind.waiting behind.held (let e = behind.consumed in omega arith) behind.parked (let e = behind.killed in omega arith)

module _ (s : State) (end : Counts) (few : (end.consumed < 2 ^ 64) × (end.killed < 2 ^ 64)) where
  pub settled_back : (done cs ds : List Counts) (total : Counts) → 1 ≤ length done → length done + length cs ≡ LAST_STAGE + 1 → AreUnder cs ds → IsBehind total end cs ds → Leads (settled_from (length done) ds) (of_tally total (done ++ cs) s) (of_tally end (done ++ ds) s)
  settled_back done [] [] total least long all behind = record { taken = tt; left = ap (λ c. of_tally c (done ++ []) s) (same_end total end behind) }
  settled_back done [] (d ∷ ds) total least long all behind = absurd all
  settled_back done (c ∷ cs) [] total least long all behind = absurd all
  settled_back done (c ∷ cs) (d ∷ ds) total least long all behind =
      leads_both (Settled (length done) d.consumed d.killed ∷ []) (settled_from (length done + 1) ds) (of_tally total (done ++ c ∷ cs) s) (of_tally now (done ++ d ∷ cs) s) (of_tally end (done ++ d ∷ ds) s) one (others (settled_back (done ++ d ∷ []) cs ds now (let h = length_more done d in omega arith) (let h = length_more done d in omega arith) all.1 behind_now))
    where
      now : Counts
      now = settled (total.consumed + (d.consumed - c.consumed)) (total.killed + (d.killed - c.killed)) total

      lower : (sum_by (λ c. c.consumed) cs ≤ sum_by (λ c. c.consumed) ds) × (sum_by (λ c. c.killed) cs ≤ sum_by (λ c. c.killed) ds)
      lower = under_sums cs ds all.1

      consumed_is : total.consumed + (d.consumed + sum_by (λ c. c.consumed) ds) ≡ end.consumed + (c.consumed + sum_by (λ c. c.consumed) cs)
      consumed_is = let v = sum_by-cons (λ (c : Counts). c.consumed) c cs in let w = sum_by-cons (λ (c : Counts). c.consumed) d ds in let e = behind.consumed in omega arith

      killed_is : total.killed + (d.killed + sum_by (λ c. c.killed) ds) ≡ end.killed + (c.killed + sum_by (λ c. c.killed) cs)
      killed_is = let v = sum_by-cons (λ (c : Counts). c.killed) c cs in let w = sum_by-cons (λ (c : Counts). c.killed) d ds in let e = behind.killed in omega arith

      behind_now : IsBehind now end cs ds
      behind_now = record {
        waiting = behind.waiting;
        held = behind.held;
        parked = behind.parked;
        consumed = let e = consumed_is in let l = all.0.consumed in omega arith;
        killed = let e = killed_is in let l = all.0.killed in omega arith;
      }

      seen : slice_index_or (done ++ c ∷ cs) (length done) no_counts ≡ c
      seen = get_or-append_seam done c cs no_counts

      stage_there : (n : ℕ) → 1 ≤ n → n ≤ LAST_STAGE → is_stage n ≡ true
      stage_there n low high = grind (arith, nat_tests)

      rise_consumed : is_rise c.consumed d.consumed total.consumed ≡ true
      rise_consumed = rises c.consumed d.consumed total.consumed all.0.consumed (let e = consumed_is in let l = all.0.consumed in let m = lower.0 in let f = few.0 in omega arith)

      rise_killed : is_rise c.killed d.killed total.killed ≡ true
      rise_killed = rises c.killed d.killed total.killed all.0.killed (let e = killed_is in let l = all.0.killed in let m = lower.1 in let f = few.1 in omega arith)

      passes : (is_stage (length done) && (is_rise c.consumed d.consumed total.consumed && is_rise c.killed d.killed total.killed)) ≡ true
      passes = rw (stage_there (length done) least (omega arith), rise_consumed, rise_killed) refl

      before : State
      before = of_tally total (done ++ c ∷ cs) s

      next : (x : Counts) → State
      next x = of_tally (settled (total.consumed + (d.consumed - x.consumed)) (total.killed + (d.killed - x.killed)) total) (slice_set (done ++ c ∷ cs) (length done) (settled d.consumed d.killed x)) s

      here : next c ≡ of_tally now (done ++ d ∷ cs) s
      here = ap (λ xs. of_tally now xs s) (set-append_seam done c cs (settled d.consumed d.killed c) ∙ ap (λ x. done ++ x ∷ cs) (settled_same c d all.0))

      one : Leads (Settled (length done) d.consumed d.killed ∷ []) before (of_tally now (done ++ d ∷ cs) s)
      one = record { taken = (go.0, tt); left = go.1 ∙ here }
        where
          go : (answered (Settled (length done) d.consumed d.killed) before ≡ Ok tt) × (taken_back (Settled (length done) d.consumed d.killed) before ≡ next c)
          go = subst (λ x. ((if_sound (is_stage (length done) && (is_rise x.consumed d.consumed total.consumed && is_rise x.killed d.killed total.killed)) (next x) before).0 ≡ Ok tt) × ((if_sound (is_stage (length done) && (is_rise x.consumed d.consumed total.consumed && is_rise x.killed d.killed total.killed)) (next x) before).1 ≡ next c)) (sym seen) (passed _ (next c) before passes)

      length_more : (xs : List Counts) (x : Counts) → length (xs ++ x ∷ []) ≡ length xs + 1
      length_more [] x = refl
      length_more (y ∷ xs) x = let h = length_more xs x in omega arith

      others : Leads (settled_from (length (done ++ d ∷ [])) ds) (of_tally now ((done ++ d ∷ []) ++ cs) s) (of_tally end ((done ++ d ∷ []) ++ ds) s) → Leads (settled_from (length done + 1) ds) (of_tally now (done ++ d ∷ cs) s) (of_tally end (done ++ d ∷ ds) s)
      others rest = rw (length_more done d, append_assoc done (d ∷ []) cs, append_assoc done (d ∷ []) ds) at rest

-- ---- all stages

pub under_all : (xs ys : List Counts) → length xs ≡ length ys → ((n : ℕ) → n < length xs → IsUnder (slice_index_or xs n no_counts) (slice_index_or ys n no_counts)) → AreUnder xs ys
under_all [] [] same each = tt
under_all (x ∷ xs) (y ∷ ys) same each = (each 0 (omega arith), under_all xs ys (omega arith) (λ n low. each (suc n) (omega arith)))
under_all [] (y ∷ ys) same each = absurd (omega arith)
under_all (x ∷ xs) [] same each = absurd (omega arith)

-- nothing was ever settled in the first of these
abbrev pub IsUnsettled : List Counts → Type 0
IsUnsettled [] = Unit {0}
IsUnsettled (c ∷ cs) = (c.consumed ≡ 0) × (c.killed ≡ 0)

first_same : (c d : Counts) → IsUnder c d → (d.consumed ≡ 0) × (d.killed ≡ 0) → c ≡ d
first_same c d under none = same_counts c d under.waiting under.held (let a = under.consumed in let b = none.0 in omega arith) under.parked (let a = under.killed in let b = none.1 in omega arith)

pub all_settled : (s : State) (from end : Counts) (xs ys : List Counts) → (end.consumed < 2 ^ 64) × (end.killed < 2 ^ 64) → length xs ≡ LAST_STAGE + 1 → AreUnder xs ys → IsUnsettled ys → IsBehind from end xs ys → Leads (settled_in ys) (of_tally from xs s) (of_tally end ys s)
all_settled s from end [] [] few long all none behind = absurd (omega arith)
all_settled s from end [] (d ∷ ds) few long all none behind = absurd all
all_settled s from end (c ∷ cs) [] few long all none behind = absurd all
all_settled s from end (c ∷ cs) (d ∷ ds) few long all none behind =
    subst (λ x. Leads (settled_from 1 ds) (of_tally from (c ∷ cs) s) (of_tally end (x ∷ ds) s)) (first_same c d all.0 none) (settled_back s end few (c ∷ []) cs ds from (omega arith) (omega arith) all.1 others)
  where
    others : IsBehind from end cs ds
    others =
        let a = behind.consumed in let b = behind.killed in
        let p = all.0.consumed in let q = all.0.killed in let y = none.0 in let z = none.1 in
        let t = sum_by-cons (λ (c : Counts). c.consumed) c cs in let u = sum_by-cons (λ (c : Counts). c.consumed) d ds in
        let v = sum_by-cons (λ (c : Counts). c.killed) c cs in let w = sum_by-cons (λ (c : Counts). c.killed) d ds in
        record { waiting = behind.waiting; held = behind.held; parked = behind.parked; consumed = omega arith; killed = omega arith }
