-- How many attempts are left from a claim on, and how many steps a kill then makes at most.
use Rattle.std.proofs.Common.{◌≡◌, ◌≢◌, ◌⊎◌, ℕ, suc, ◌+◌, ◌-◌, ◌*◌, ◌<◌, ◌≤◌, List, refl, sym, ◌∙◌, ap, subst, inl, inr, arith, suc-mul, mul-le-mul_right}
use mathlib.Core.List.{IsPrefix}
use Rattle.tp_model.specs.declared.types.Limits.{Limits}
use Rattle.tp_model.specs.declared.event.Event.{Event}
use Rattle.tp_model.specs.Words.{ClaimWord, FreeWord, TakenWord, KilledWord, AgainWord, IsPast, Rises, claim_word, kill_word, round_in}
use Rattle.tp_model.specs.Steps.{AreLimits, IsLegal, tries}
use Rattle.tp_model.proofs.WordProofs.{rounds_by_words, words_rise}
use Rattle.tp_rule.proofs.Births.{attempt_range}
use Rattle.tp_manager.specs.Bounds.{slay_from}
use Rattle.tp_manager.specs.Kills.{takers}
use Rattle.tp_manager.specs.Looks.{IsEnough}

-- the element isn't killed
abbrev pub IsAlive : ClaimWord → Type 0
IsAlive w = (n u r : ℕ) → w ≢ KilledWord n u r

-- a claim that isn't the same any more is past it, or the element is killed
gone_on : (w z : ClaimWord) → IsAlive w → Rises w z → z ≢ w → IsPast w z ⊎ (z ≡ kill_word w)
gone_on (KilledWord n u r) z alive rises not = absurd (alive n u r refl)
gone_on FreeWord z alive (inl same) not = absurd (not same)
gone_on FreeWord z alive (inr on) not = on
gone_on (TakenWord n u r) z alive (inl same) not = absurd (not same)
gone_on (TakenWord n u r) z alive (inr on) not = on
gone_on (AgainWord r) z alive (inl same) not = absurd (not same)
gone_on (AgainWord r) z alive (inr on) not = on

module _ (l : Limits) where
  -- in a later round all attempts of this one are over
  rounds_over : (n r k : ℕ) → n ≤ l.attempts → r < k → r * l.attempts + n ≤ k * l.attempts
  rounds_over n r k few less = let all : suc r * l.attempts ≤ k * l.attempts = mul-le-mul_right l.attempts less in omega (arith, suc-mul r l.attempts)

  -- the attempt in a claim word is within the limit
  abbrev IsWithin : ClaimWord → Type 0
  IsWithin w = (n u r : ℕ) → w ≡ TakenWord n u r → (1 ≤ n) × (n ≤ l.attempts)

  -- what is left after a claim is left from the next one on: where it was taken, one attempt less
  past_enough : (left : ℕ) (w z : ClaimWord) → IsAlive w → IsWithin w → IsWithin z → IsPast w z → IsEnough l left w → IsEnough l (left - takers w) z
  past_enough left (KilledWord n u r) z alive a b past e = absurd (alive n u r refl)
  past_enough left w (KilledWord m v k) alive a b past e = tt
  past_enough left FreeWord FreeWord alive a b (inl less) e = absurd (omega arith)
  past_enough left FreeWord FreeWord alive a b (inr more) e = let less : 0 < 0 = more.1 in absurd (omega arith)
  past_enough left FreeWord (TakenWord m v k) alive a b past e = let some : 1 ≤ m = (b m v k refl).0 in omega arith
  past_enough left FreeWord (AgainWord k) alive a b past e = omega arith
  past_enough left (TakenWord n u r) FreeWord alive a b (inl less) e = absurd (omega arith)
  past_enough left (TakenWord n u r) FreeWord alive a b (inr more) e = let less : n < 0 = more.1 in absurd (omega arith)
  past_enough left (TakenWord n u r) (TakenWord m v k) alive a b (inl less) e = let some : 1 ≤ m = (b m v k refl).0 in let over = rounds_over n r k (a n u r refl).1 less in omega arith
  past_enough left (TakenWord n u r) (TakenWord m v k) alive a b (inr more) e = let less : n < m = more.1 in let same : r * l.attempts ≡ k * l.attempts = ap (λ z. z * l.attempts) more.0 in omega arith
  past_enough left (TakenWord n u r) (AgainWord k) alive a b (inl less) e = let over = rounds_over n r k (a n u r refl).1 less in omega arith
  past_enough left (TakenWord n u r) (AgainWord k) alive a b (inr more) e = let less : n < 0 = more.1 in absurd (omega arith)
  past_enough left (AgainWord r) FreeWord alive a b (inl less) e = absurd (omega arith)
  past_enough left (AgainWord r) FreeWord alive a b (inr more) e = let less : 0 < 0 = more.1 in absurd (omega arith)
  past_enough left (AgainWord r) (TakenWord m v k) alive a b (inl less) e = let some : 1 ≤ m = (b m v k refl).0 in let over = rounds_over 0 r k (omega arith) less in omega arith
  past_enough left (AgainWord r) (TakenWord m v k) alive a b (inr more) e = let less : 0 < m = more.1 in let same : r * l.attempts ≡ k * l.attempts = ap (λ z. z * l.attempts) more.0 in omega arith
  past_enough left (AgainWord r) (AgainWord k) alive a b (inl less) e = let over = rounds_over 0 r k (omega arith) less in omega arith
  past_enough left (AgainWord r) (AgainWord k) alive a b (inr more) e = let less : 0 < 0 = more.1 in absurd (omega arith)

  killed_enough : (left : ℕ) (w : ClaimWord) → IsEnough l left (kill_word w)
  killed_enough left FreeWord = tt
  killed_enough left (TakenWord n u r) = tt
  killed_enough left (KilledWord n u r) = tt
  killed_enough left (AgainWord r) = tt

  pub enough_next : AreLimits l → (a b : List Event) → IsLegal l a → IsLegal l b → IsPrefix a b → (i left : ℕ) (w : ClaimWord) → claim_word a i ≡ w → IsAlive w → claim_word b i ≢ w → IsEnough l left w → IsEnough l (left - takers w) (claim_word b i)
  enough_next fair a b legal_a legal begins i left w is alive not e =
      elim (gone_on w (claim_word b i) alive (subst (λ z. Rises z (claim_word b i)) is (words_rise l a b i legal begins)) not) [
        | inl past ↦ past_enough left w (claim_word b i) alive (λ n u r q. attempt_range l fair a legal_a i n u r (is ∙ q)) (attempt_range l fair b legal i) past e
        | inr killed ↦ subst (IsEnough l (left - takers w)) (sym killed) (killed_enough (left - takers w) w)
      ]

  pub enough_first : AreLimits l → (h : List Event) (i : ℕ) → IsLegal l h → IsEnough l (tries l.attempts) (claim_word h i)
  enough_first fair h i legal = go (claim_word h i) (attempt_range l fair h legal i)
    where
      go : (w : ClaimWord) → IsWithin w → IsEnough l (tries l.attempts) w
      go FreeWord a = omega arith
      go (TakenWord n u r) a = let some = (a n u r refl).0 in omega arith
      go (KilledWord n u r) a = tt
      go (AgainWord r) a = omega arith

  few_rounds : (h : List Event) (i : ℕ) (w : ClaimWord) → IsLegal l h → claim_word h i ≡ w → round_in w ≤ 3
  few_rounds h i w legal is = let r = rounds_by_words l h i legal in subst (λ z. round_in z ≤ 3) is (subst (λ z. z ≤ 3) (sym r.0) r.1)

  -- a claim whose unit is in the way is not the last attempt of all, but one before them
  pub enough_some : AreLimits l → (h : List Event) (i left : ℕ) (w : ClaimWord) → IsLegal l h → claim_word h i ≡ w → IsEnough l left w → takers w ≤ left
  enough_some fair h i left w legal is e = go w (λ n u r q. attempt_range l fair h legal i n u r (is ∙ q)) (few_rounds h i w legal is) e
    where
      go : (w : ClaimWord) → IsWithin w → round_in w ≤ 3 → IsEnough l left w → takers w ≤ left
      go FreeWord a few e = omega arith
      go (TakenWord n u r) a few e = let most : n ≤ l.attempts = (a n u r refl).1 in let all : r * l.attempts ≤ 3 * l.attempts = mul-le-mul_right l.attempts few in omega arith
      go (KilledWord n u r) a few e = omega arith
      go (AgainWord r) a few e = omega arith

  -- what a kill makes at a claim, and then from the next one on
  past_fewer : (left : ℕ) (w z : ClaimWord) → IsAlive w → takers w ≤ left → round_in w ≤ 3 → IsPast w z → (takers w + 1) + slay_from (left - takers w) z ≤ slay_from left w
  past_fewer left (KilledWord n u r) z alive some few past = absurd (alive n u r refl)
  past_fewer left FreeWord (KilledWord m v k) alive some few past = omega arith
  past_fewer left FreeWord FreeWord alive some few (inl less) = absurd (omega arith)
  past_fewer left FreeWord FreeWord alive some few (inr more) = let less : 0 < 0 = more.1 in absurd (omega arith)
  past_fewer left FreeWord (TakenWord m v k) alive some few past = omega arith
  past_fewer left FreeWord (AgainWord k) alive some few (inl less) = omega arith
  past_fewer left FreeWord (AgainWord k) alive some few (inr more) = let less : 0 < 0 = more.1 in absurd (omega arith)
  past_fewer left (TakenWord n u r) (KilledWord m v k) alive some few past = omega arith
  past_fewer left (TakenWord n u r) FreeWord alive some few (inl less) = absurd (omega arith)
  past_fewer left (TakenWord n u r) FreeWord alive some few (inr more) = let less : n < 0 = more.1 in absurd (omega arith)
  past_fewer left (TakenWord n u r) (TakenWord m v k) alive some few (inl less) = omega arith
  past_fewer left (TakenWord n u r) (TakenWord m v k) alive some few (inr more) = let same : r ≡ k = more.0 in omega arith
  past_fewer left (TakenWord n u r) (AgainWord k) alive some few (inl less) = omega arith
  past_fewer left (TakenWord n u r) (AgainWord k) alive some few (inr more) = let less : n < 0 = more.1 in absurd (omega arith)
  past_fewer left (AgainWord r) (KilledWord m v k) alive some few past = omega arith
  past_fewer left (AgainWord r) FreeWord alive some few (inl less) = absurd (omega arith)
  past_fewer left (AgainWord r) FreeWord alive some few (inr more) = let less : 0 < 0 = more.1 in absurd (omega arith)
  past_fewer left (AgainWord r) (TakenWord m v k) alive some few (inl less) = omega arith
  past_fewer left (AgainWord r) (TakenWord m v k) alive some few (inr more) = let same : r ≡ k = more.0 in omega arith
  past_fewer left (AgainWord r) (AgainWord k) alive some few (inl less) = omega arith
  past_fewer left (AgainWord r) (AgainWord k) alive some few (inr more) = let less : 0 < 0 = more.1 in absurd (omega arith)

  killed_fewer : (left : ℕ) (w : ClaimWord) → IsAlive w → takers w ≤ left → round_in w ≤ 3 → (takers w + 1) + slay_from (left - takers w) (kill_word w) ≤ slay_from left w
  killed_fewer left FreeWord alive some few = omega arith
  killed_fewer left (TakenWord n u r) alive some few = omega arith
  killed_fewer left (KilledWord n u r) alive some few = absurd (alive n u r refl)
  killed_fewer left (AgainWord r) alive some few = omega arith

  -- what a kill makes at a claim where it goes through
  pub fewer_last : (h : List Event) (i left : ℕ) (w : ClaimWord) → IsLegal l h → claim_word h i ≡ w → IsAlive w → takers w ≤ left → takers w + 1 ≤ slay_from left w
  fewer_last h i left w legal is alive some = let all = killed_fewer left w alive some (few_rounds h i w legal is) in omega arith

  pub fewer_next : (a b : List Event) → IsLegal l a → IsLegal l b → IsPrefix a b → (i left : ℕ) (w z : ClaimWord) → claim_word a i ≡ w → z ≡ claim_word b i → IsAlive w → z ≢ w → takers w ≤ left → (takers w + 1) + slay_from (left - takers w) z ≤ slay_from left w
  fewer_next a b legal_a legal begins i left w z is at alive not some =
      let few = few_rounds a i w legal_a is in
      elim (gone_on w z alive (subst (Rises w) (sym at) (subst (λ y. Rises y (claim_word b i)) is (words_rise l a b i legal begins))) not) [
        | inl past ↦ past_fewer left w z alive some few past
        | inr killed ↦ subst (λ y. (takers w + 1) + slay_from (left - takers w) y ≤ slay_from left w) (sym killed) (killed_fewer left w alive some few)
      ]
