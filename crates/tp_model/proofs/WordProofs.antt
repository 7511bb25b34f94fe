-- Statuses are read off the words, and the words of a longer history are later ones.
use Rattle.std.proofs.Common.{◌≡◌, ◌⊎◌, ℕ, ◌+◌, ◌-◌, ◌<◌, ◌≤◌, ◌==◌, Bool, true, false, cond, nat_lt, if◌then◌else◌, Option, Some, None, List, [], ◌∷◌, ◌++◌, length, refl, sym, ◌∙◌, ap, subst, inl, inr, arith}
use Rattle.std.proofs.lemmas.Bool.Decides.{eqb_tells}
use Rattle.std.proofs.lemmas.List.Sums.{fold-append}
use Rattle.std.specs.Option.{option_or}
use Rattle.tp_model.specs.declared.types.Limits.{Limits}
use Rattle.tp_model.specs.declared.types.TheConstants.{MAX_ROUNDS}
use Rattle.tp_model.specs.declared.types.Status.TheVariants.{Waiting, Held, Parked, Killed}
use Rattle.tp_model.specs.declared.event.Event.{Event}
use Rattle.tp_model.specs.declared.event.Event.TheVariants.{Enqueue, Claim, Commit, Abort, Kill, Requeue}
use Rattle.tp_model.specs.History.{UnitClaim, UnitEnd, Committed, Aborted, claim_by, claim_of, end_by, end_of, first_id, committed, aborted, status_after, status_of, rounds, rounds_after}
use Rattle.tp_model.specs.Words.{ClaimWord, FreeWord, TakenWord, KilledWord, AgainWord, round_in, kill_word, claim_word_after, claim_word, taken_status, word_status, attempt_in, IsPast, Rises}
use Rattle.tp_model.specs.Steps.{Step, IsLegal}
use Rattle.tp_model.specs.Laws.{StatusByWords, RoundsByWords, WordsRise}
use Rattle.tp_model.proofs.Lists.{first-kept, first-snoc, if_same, option_or-none, option_or-None, if_other}
use Rattle.tp_model.proofs.Histories.{along, by_steps, status_of-snoc}

pub claim_word-snoc : (h : List Event) (e : Event) (i : ℕ) → claim_word (h ++ e ∷ []) i ≡ claim_word_after i (claim_word h i) e
claim_word-snoc h e i = fold-append (claim_word_after i) FreeWord h (e ∷ [])

pub end_of-snoc : (h : List Event) (e : Event) (u : ℕ) → end_of (h ++ e ∷ []) u ≡ option_or (end_of h u) (end_by u e)
end_of-snoc h e u = first-snoc (end_by u) h e

-- a step doesn't end a unit that was never claimed
unended_after : (l : Limits) (h : List Event) (e : Event) → Step l h e → (u : ℕ) → claim_of h u ≡ None → end_by u e ≡ None
unended_after l h (Enqueue c e) step u none = refl
unended_after l h (Claim c v i n) step u none = refl
unended_after l h (Commit c v outs) step u none =
    let claimed = step.open_unit.claimed in
    if_other v u _ None (λ same. let at = ap (claim_of h) same in cc)
unended_after l h (Abort c v) step u none =
    let claimed = step.open_unit.claimed in
    if_other v u _ None (λ same. let at = ap (claim_of h) same in cc)
unended_after l h (Kill c i) step u none = refl
unended_after l h (Requeue c i k) step u none = refl

-- a unit that was never claimed has not ended
pub unended : (l : Limits) (h : List Event) → IsLegal l h → (u : ℕ) → claim_of h u ≡ None → end_of h u ≡ None
unended l h legal = by_steps l (λ h. (u : ℕ) → claim_of h u ≡ None → end_of h u ≡ None) (λ u none. refl) more h legal
  where
    more : (h : List Event) (e : Event) → IsLegal l h → Step l h e → ((u : ℕ) → claim_of h u ≡ None → end_of h u ≡ None) → (u : ℕ) → claim_of (h ++ e ∷ []) u ≡ None → end_of (h ++ e ∷ []) u ≡ None
    more h e legal step old u none =
        let before : claim_of h u ≡ None = (option_or-none (claim_of h u) (claim_by u e) (sym (first-snoc (claim_by u) h e) ∙ none)).0 in
        end_of-snoc h e u ∙ rw (old u before) (unended_after l h e step u before)

module _ (limit : ℕ) where
  -- an event that ends no unit leaves what a claim word says
  same_word : (h : List Event) (e : Event) (w : ClaimWord) → ((u : ℕ) → end_by u e ≡ None) → word_status limit (h ++ e ∷ []) w ≡ word_status limit h w
  same_word h e FreeWord none = refl
  same_word h e (TakenWord n u r) none = ap (taken_status limit n u) (end_of-snoc h e u ∙ (ap (option_or (end_of h u)) (none u) ∙ option_or-None (end_of h u)))
  same_word h e (KilledWord n u r) none = refl
  same_word h e (AgainWord r) none = refl

  committed_word : (v u n id count : ℕ) (x : Option UnitEnd) → committed v (taken_status limit n u x) ≡ taken_status limit n u (option_or x (if v == u then Some (Committed id count) else None))
  committed_word v u n id count None =
      elim (eqb_tells v u) [ inl p ↦ rw (p.0) refl | inr p ↦ rw (p.0) refl ]
  committed_word v u n id count (Some (Committed a b)) = refl
  committed_word v u n id count (Some Aborted) = elim (nat_lt n limit) as (λ b. committed v (cond b (Waiting n) (Parked n)) ≡ cond b (Waiting n) (Parked n)) [ true ↦ refl | false ↦ refl ]

  aborted_word : (v u n : ℕ) (x : Option UnitEnd) → aborted limit v (taken_status limit n u x) ≡ taken_status limit n u (option_or x (if v == u then Some Aborted else None))
  aborted_word v u n None =
      elim (eqb_tells v u) [ inl p ↦ rw (p.0) refl | inr p ↦ rw (p.0) refl ]
  aborted_word v u n (Some (Committed a b)) = refl
  aborted_word v u n (Some Aborted) = elim (nat_lt n limit) as (λ b. aborted limit v (cond b (Waiting n) (Parked n)) ≡ cond b (Waiting n) (Parked n)) [ true ↦ refl | false ↦ refl ]

-- what a step does to a status is what it does to the words
words_after : (l : Limits) (h : List Event) (e : Event) → IsLegal l h → Step l h e → (i : ℕ) (w : ClaimWord)
    → status_after l.attempts i (word_status l.attempts h w) e ≡ word_status l.attempts (h ++ e ∷ []) (claim_word_after i w e)
words_after l h (Enqueue c e) legal step i w = sym (same_word l.attempts h (Enqueue c e) w (λ u. refl))
words_after l h (Claim c u j n) legal step i w =
    elim (eqb_tells j i) [
      | inl p ↦
          let held : word_status l.attempts (h ++ Claim c u j n ∷ []) (TakenWord n u (round_in w)) ≡ Held u n =
          same_word l.attempts h (Claim c u j n) (TakenWord n u (round_in w)) (λ v. refl) ∙ ap (taken_status l.attempts n u) (unended l h legal u step.unused) in
          rw (p.0) (sym held)
      | inr p ↦ rw (p.0) (sym (same_word l.attempts h (Claim c u j n) w (λ v. refl)))
    ]
words_after l h (Commit c v outs) legal step i FreeWord = refl
words_after l h (Commit c v outs) legal step i (TakenWord n u r) =
    committed_word l.attempts v u n (first_id outs) (length outs) (end_of h u) ∙ ap (taken_status l.attempts n u) (sym (end_of-snoc h (Commit c v outs) u))
words_after l h (Commit c v outs) legal step i (KilledWord n u r) = refl
words_after l h (Commit c v outs) legal step i (AgainWord r) = refl
words_after l h (Abort c v) legal step i FreeWord = refl
words_after l h (Abort c v) legal step i (TakenWord n u r) =
    aborted_word l.attempts v u n (end_of h u) ∙ ap (taken_status l.attempts n u) (sym (end_of-snoc h (Abort c v) u))
words_after l h (Abort c v) legal step i (KilledWord n u r) = refl
words_after l h (Abort c v) legal step i (AgainWord r) = refl
words_after l h (Kill c j) legal step i w =
    elim (eqb_tells j i) [
      | inl p ↦ rw (p.0) (killed w)
      | inr p ↦ rw (p.0) (sym (same_word l.attempts h (Kill c j) w (λ v. refl)))
    ]
  where
    killed : (w : ClaimWord) → Killed ≡ word_status l.attempts (h ++ Kill c j ∷ []) (kill_word w)
    killed FreeWord = refl
    killed (TakenWord n u r) = refl
    killed (KilledWord n u r) = refl
    killed (AgainWord r) = refl
words_after l h (Requeue c j k) legal step i w =
    elim (eqb_tells j i) [
      | inl p ↦ rw (p.0) refl
      | inr p ↦ rw (p.0) (sym (same_word l.attempts h (Requeue c j k) w (λ v. refl)))
    ]

pub status_by_words : StatusByWords
status_by_words l h i legal = by_steps l (λ x. status_of l.attempts x i ≡ word_status l.attempts x (claim_word x i)) refl more h legal
  where
    more : (h : List Event) (e : Event) → IsLegal l h → Step l h e → status_of l.attempts h i ≡ word_status l.attempts h (claim_word h i) → status_of l.attempts (h ++ e ∷ []) i ≡ word_status l.attempts (h ++ e ∷ []) (claim_word (h ++ e ∷ []) i)
    more h e legal step is =
        status_of-snoc l.attempts h e i ∙ (ap (λ s. status_after l.attempts i s e) is ∙ (words_after l h e legal step i (claim_word h i) ∙ ap (word_status l.attempts (h ++ e ∷ [])) (sym (claim_word-snoc h e i))))

-- the round in a claim word is the number of the element's Requeues

pub rounds-snoc : (h : List Event) (e : Event) (i : ℕ) → rounds (h ++ e ∷ []) i ≡ rounds_after i (rounds h i) e
rounds-snoc h e i = fold-append (rounds_after i) 0 h (e ∷ [])

killed_round : (w : ClaimWord) → round_in (kill_word w) ≡ round_in w
killed_round FreeWord = refl
killed_round (TakenWord n u r) = refl
killed_round (KilledWord n u r) = refl
killed_round (AgainWord r) = refl

-- the claim word has them, and there are not too many
abbrev TellsRounds : List Event → ℕ → Type 0
TellsRounds h i = (round_in (claim_word h i) ≡ rounds h i) × (rounds h i ≤ MAX_ROUNDS)

rounds_step : (l : Limits) (h : List Event) (e : Event) → Step l h e → (i : ℕ) → TellsRounds h i
    → (round_in (claim_word_after i (claim_word h i) e) ≡ rounds_after i (rounds h i) e) × (rounds_after i (rounds h i) e ≤ MAX_ROUNDS)
rounds_step l h (Enqueue c x) step i old = old
rounds_step l h (Claim c u j n) step i old =
    elim (eqb_tells j i) [ inl p ↦ rw (p.0) old | inr p ↦ rw (p.0) old ]
rounds_step l h (Commit c u outs) step i old = old
rounds_step l h (Abort c u) step i old = old
rounds_step l h (Kill c j) step i old =
    elim (eqb_tells j i) [ inl p ↦ rw (p.0) (killed_round (claim_word h i) ∙ old.0, old.1) | inr p ↦ rw (p.0) old ]
rounds_step l h (Requeue c j k) step i old =
    elim (eqb_tells j i) [
      | inl p ↦
          let same : rounds h j ≡ rounds h i = ap (rounds h) p.1 in
          let next : k ≡ rounds h j + 1 = step.next in
          let few : k ≤ 3 = step.few in
          rw (p.0) ((let e : k ≡ rounds h i + 1 = omega arith in e), (let e : rounds h i + 1 ≤ 3 = omega arith in e))
      | inr p ↦ rw (p.0) old
    ]

pub rounds_by_words : RoundsByWords
rounds_by_words l h i legal = by_steps l (λ x. TellsRounds x i) (refl, (let e : 0 ≤ 3 = omega arith in e)) more h legal
  where
    more : (h : List Event) (e : Event) → IsLegal l h → Step l h e → TellsRounds h i → TellsRounds (h ++ e ∷ []) i
    more h e legal step old = rw (claim_word-snoc h e i, rounds-snoc h e i) (rounds_step l h e step i old)

-- later words

same_rises : (w : ClaimWord) → Rises w w
same_rises FreeWord = inl refl
same_rises (TakenWord n u r) = inl refl
same_rises (KilledWord n u r) = refl
same_rises (AgainWord r) = inl refl

-- how a word rises that isn't killed
abbrev Onward : ClaimWord → ClaimWord → Type 0
Onward v w = (w ≡ v) ⊎ (IsPast v w ⊎ (w ≡ kill_word v))

-- w is the same attempt as v, or a later one
abbrev pub IsLate : ClaimWord → ClaimWord → Type 0
IsLate v w = (round_in v < round_in w) ⊎ ((round_in v ≡ round_in w) × (attempt_in v ≤ attempt_in w))

killed_same : (v : ClaimWord) → (round_in v ≡ round_in (kill_word v)) × (attempt_in v ≡ attempt_in (kill_word v))
killed_same FreeWord = (refl, refl)
killed_same (TakenWord n u r) = (refl, refl)
killed_same (KilledWord n u r) = (refl, refl)
killed_same (AgainWord r) = (refl, refl)

late_onward : (v w : ClaimWord) → Onward v w → IsLate v w
late_onward v w (inl same) = rw same (inr (refl, omega arith))
late_onward v w (inr (inl (inl later))) = inl later
late_onward v w (inr (inl (inr more))) = let less : attempt_in v < attempt_in w = more.1 in inr (more.0, omega arith)
late_onward v w (inr (inr same)) = let k = killed_same v in let at : attempt_in v ≡ attempt_in (kill_word v) = k.1 in rw same (inr (k.0, omega arith))

-- a later word is no earlier attempt
pub rises_late : (v w : ClaimWord) → Rises v w → IsLate v w
rises_late FreeWord w r = late_onward FreeWord w r
rises_late (TakenWord n u k) w r = late_onward (TakenWord n u k) w r
rises_late (KilledWord n u k) w same = rw same (inr (refl, omega arith))
rises_late (AgainWord k) w r = late_onward (AgainWord k) w r

past_late : (a b c : ClaimWord) → IsPast a b → IsLate b c → IsPast a c
past_late a b c (inl x) (inl y) = inl (omega arith)
past_late a b c (inl x) (inr y) = let same : round_in b ≡ round_in c = y.0 in inl (omega arith)
past_late a b c (inr x) (inl y) = let same : round_in a ≡ round_in b = x.0 in inl (omega arith)
past_late a b c (inr x) (inr y) = let less : attempt_in a < attempt_in b = x.1 in let more : attempt_in b ≤ attempt_in c = y.1 in inr (x.0 ∙ y.0, omega arith)

onward_trans : (a b c : ClaimWord) → (Rises (kill_word a) c → c ≡ kill_word a) → Onward a b → Rises b c → (Rises a c → Onward a c) → Onward a c
onward_trans a b c killed (inl same) next is = is (subst (λ z. Rises z c) same next)
onward_trans a b c killed (inr (inl past)) next is = inr (inl (past_late a b c past (rises_late b c next)))
onward_trans a b c killed (inr (inr same)) next is = inr (inr (killed (subst (λ z. Rises z c) same next)))

pub rises_trans : (a b c : ClaimWord) → Rises a b → Rises b c → Rises a c
rises_trans FreeWord b c r next = onward_trans FreeWord b c (λ e. e) r next (λ e. e)
rises_trans (TakenWord n u k) b c r next = onward_trans (TakenWord n u k) b c (λ e. e) r next (λ e. e)
rises_trans (KilledWord n u k) b c same next = subst (λ z. Rises z c) same next
rises_trans (AgainWord k) b c r next = onward_trans (AgainWord k) b c (λ e. e) r next (λ e. e)

-- an element that waits after m attempts was taken m times
waits_after : (limit m v k : ℕ) (x : Option UnitEnd) → taken_status limit m v x ≡ Waiting k → m ≡ k
waits_after limit m v k None e = absurd (cc (e))
waits_after limit m v k (Some (Committed a b)) e = absurd (cc (e))
waits_after limit m v k (Some Aborted) e = go (nat_lt m limit) e
  where
    go : (b : Bool) → cond b (Waiting m) (Parked m) ≡ Waiting k → m ≡ k
    go true e = cc (e)
    go false e = absurd (cc (e))

rises_claim : (l : Limits) (h : List Event) (n u : ℕ) → 1 ≤ n → (w : ClaimWord) → word_status l.attempts h w ≡ Waiting (n - 1) → Rises w (TakenWord n u (round_in w))
rises_claim l h n u least FreeWord waits = inr (inl (inr (refl, omega arith)))
rises_claim l h n u least (TakenWord m v r) waits = let same : m ≡ n - 1 = waits_after l.attempts m v (n - 1) (end_of h v) waits in inr (inl (inr (refl, omega arith)))
rises_claim l h n u least (KilledWord m v r) waits = absurd (cc (waits))
rises_claim l h n u least (AgainWord r) waits = inr (inl (inr (refl, omega arith)))

rises_kill : (w : ClaimWord) → Rises w (kill_word w)
rises_kill FreeWord = inr (inr refl)
rises_kill (TakenWord n u r) = inr (inr refl)
rises_kill (KilledWord n u r) = refl
rises_kill (AgainWord r) = inr (inr refl)

-- the next round is a later one, and an element that is parked isn't killed
rises_again : (l : Limits) (h : List Event) (n k : ℕ) (w : ClaimWord) → word_status l.attempts h w ≡ Parked n → round_in w < k → Rises w (AgainWord k)
rises_again l h n k FreeWord parked less = inr (inl (inl less))
rises_again l h n k (TakenWord m v r) parked less = inr (inl (inl less))
rises_again l h n k (KilledWord m v r) parked less = absurd (cc (parked))
rises_again l h n k (AgainWord r) parked less = inr (inl (inl less))

rises_after : (l : Limits) (h : List Event) (e : Event) → IsLegal l h → Step l h e → (i : ℕ) → Rises (claim_word h i) (claim_word_after i (claim_word h i) e)
rises_after l h (Enqueue c e) legal step i = same_rises (claim_word h i)
rises_after l h (Claim c u j n) legal step i =
    elim (eqb_tells j i) [
      | inl p ↦
          let waits = sym (status_by_words l h i legal) ∙ (ap (status_of l.attempts h) (sym p.1) ∙ step.waits) in
          rw (p.0) (rises_claim l h n u step.attempt (claim_word h i) waits)
      | inr p ↦ rw (p.0) (same_rises (claim_word h i))
    ]
rises_after l h (Commit c v outs) legal step i = same_rises (claim_word h i)
rises_after l h (Abort c v) legal step i = same_rises (claim_word h i)
rises_after l h (Kill c j) legal step i =
    elim (eqb_tells j i) [
      | inl p ↦ rw (p.0) (rises_kill (claim_word h i))
      | inr p ↦ rw (p.0) (same_rises (claim_word h i))
    ]
rises_after l h (Requeue c j k) legal step i =
    elim (eqb_tells j i) [
      | inl p ↦
          let parked = sym (status_by_words l h i legal) ∙ (ap (status_of l.attempts h) (sym p.1) ∙ step.parked.1) in
          let told : round_in (claim_word h i) ≡ rounds h i = (rounds_by_words l h i legal).0 in
          let same : rounds h j ≡ rounds h i = ap (rounds h) p.1 in
          let next : k ≡ rounds h j + 1 = step.next in
          rw (p.0) (rises_again l h step.parked.0 k (claim_word h i) parked (omega arith))
      | inr p ↦ rw (p.0) (same_rises (claim_word h i))
    ]

pub words_rise : WordsRise
words_rise l h g i legal begins =
    rw (← begins.1) (along l (λ x. Rises (claim_word h i) (claim_word x i)) more h begins.0 (rw begins.1 legal) (same_rises (claim_word h i)))
  where
    more : (x : List Event) (e : Event) → IsLegal l x → Step l x e → Rises (claim_word h i) (claim_word x i) → Rises (claim_word h i) (claim_word (x ++ e ∷ []) i)
    more x e legal step old = rw (claim_word-snoc x e i) (rises_trans (claim_word h i) (claim_word x i) _ old (rises_after l x e legal step i))

-- the unit in a claim word claimed that element
abbrev pub WordIsClaimed : List Event → ℕ → ClaimWord → Type 0
WordIsClaimed h i FreeWord = Unit {0}
WordIsClaimed h i (TakenWord n u r) = (t : UnitClaim) × (claim_of h u ≡ Some t) × (t.item ≡ i)
WordIsClaimed h i (KilledWord n u r) = Unit {0}
WordIsClaimed h i (AgainWord r) = Unit {0}

word_later : (h : List Event) (e : Event) (i : ℕ) (w : ClaimWord) → WordIsClaimed h i w → WordIsClaimed (h ++ e ∷ []) i w
word_later h e i FreeWord is = tt
word_later h e i (TakenWord n u r) is = (is.0, first-kept (claim_by u) h (e ∷ []) is.0 is.1, is.2)
word_later h e i (KilledWord n u r) is = tt
word_later h e i (AgainWord r) is = tt

word_claimed_after : (l : Limits) (h : List Event) (e : Event) → Step l h e → (i : ℕ) (w : ClaimWord) → WordIsClaimed h i w → WordIsClaimed (h ++ e ∷ []) i (claim_word_after i w e)
word_claimed_after l h (Enqueue c x) step i w is = word_later h (Enqueue c x) i w is
word_claimed_after l h (Claim c u j n) step i w is =
    elim (eqb_tells j i) [
      | inl p ↦ rw (p.0) (record { pass = c; item = j; attempt = n }, first-snoc (claim_by u) h (Claim c u j n) ∙ rw (step.unused) (if_same u u (Some (record { pass = c; item = j; attempt = n })) None refl), p.1)
      | inr p ↦ rw (p.0) (word_later h (Claim c u j n) i w is)
    ]
word_claimed_after l h (Commit c u outs) step i w is = word_later h (Commit c u outs) i w is
word_claimed_after l h (Abort c u) step i w is = word_later h (Abort c u) i w is
word_claimed_after l h (Kill c j) step i w is =
    elim (eqb_tells j i) [
      | inl p ↦ rw (p.0) (killed w)
      | inr p ↦ rw (p.0) (word_later h (Kill c j) i w is)
    ]
  where
    killed : (w : ClaimWord) → WordIsClaimed (h ++ Kill c j ∷ []) i (kill_word w)
    killed FreeWord = tt
    killed (TakenWord n u r) = tt
    killed (KilledWord n u r) = tt
    killed (AgainWord r) = tt
word_claimed_after l h (Requeue c j k) step i w is =
    elim (eqb_tells j i) [
      | inl p ↦ rw (p.0) tt
      | inr p ↦ rw (p.0) (word_later h (Requeue c j k) i w is)
    ]

pub word_claimed : (l : Limits) (h : List Event) (i : ℕ) → IsLegal l h → WordIsClaimed h i (claim_word h i)
word_claimed l h i legal = by_steps l (λ x. WordIsClaimed x i (claim_word x i)) tt more h legal
  where
    more : (h : List Event) (e : Event) → IsLegal l h → Step l h e → WordIsClaimed h i (claim_word h i) → WordIsClaimed (h ++ e ∷ []) i (claim_word (h ++ e ∷ []) i)
    more h e legal step is = rw (claim_word-snoc h e i) (word_claimed_after l h e step i (claim_word h i) is)
