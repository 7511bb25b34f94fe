-- Steps of one pass among others, and of many calls.
use Rattle.std.proofs.Common.{◌≡◌, ℕ, zero, suc, Option, None, Some, ◌++◌, length-append, ◌+◌, ◌*◌, ◌<◌, ◌≤◌, List, [], ◌∷◌, length, slice_set, get_or, refl, ◌∙◌, ap, subst, arith, length-drop}
use Rattle.std.proofs.Math.Nat.{add-mul, mul-le-mul_right}
use Rattle.tp_model.specs.declared.types.Limits.{Limits}
use Rattle.tp_model.specs.declared.types.TheConstants.{MAX_ROUNDS}
use Rattle.tp_model.specs.Steps.{rows_of, tries}
use Rattle.tp_manager.specs.Accounts.{steps_together}
use Rattle.tp_manager.specs.Bounds.{read_steps, requeue_steps}
use Rattle.tp_manager.specs.Shown.{KeeperShown, PassShown}
use Rattle.tp_rollover.specs.Bounds.{AllMake, PassMakes, PassesMake, attempt_steps, gathered, most_replay_steps, replay_steps, search_steps, steps_made}
use Rattle.tp_rollover.specs.Finding.{listed}

-- one of them makes them
pub one_makes : (n : ℕ) (ps : List PassShown) (i : ℕ) (p d : PassShown) → i < length ps → PassMakes n (get_or ps i d) p → PassesMake n ps (slice_set ps i p)
one_makes n [] i p d less makes = absurd (omega (arith, less))
one_makes n (q ∷ ps) zero p d less makes = omega (arith, makes)
one_makes n (q ∷ ps) (suc i) p d less makes = let rest = one_makes n ps i p d (omega (arith, less)) makes in omega (arith, rest)

-- steps that are counted by pass
pub together_make : (ps qs : List PassShown) → length qs ≡ length ps → steps_made qs ≤ steps_made ps + steps_together ps qs
together_make [] [] same = omega arith
together_make [] (q ∷ qs) same = absurd (omega (arith, same))
together_make (p ∷ ps) [] same = absurd (omega (arith, same))
together_make (p ∷ ps) (q ∷ qs) same = let rest = together_make ps qs (omega (arith, same)) in let more = length-drop (length p.trace) q.trace in omega (arith, rest, more)

-- once more
pub once_more : (i n : ℕ) → (i + 1) * n ≡ i * n + n
once_more i n = let e = add-mul i 1 n in omega (arith, e)

pub no_more : (i j n : ℕ) → i ≤ j → i * n ≤ j * n
no_more i j n less = mul-le-mul_right n less

-- the next of n
pub next_of : (i n c : ℕ) → i < n → i * c + c ≤ n * c
next_of i n c less = let e = once_more i c in let most = no_more (i + 1) n c (omega (arith, less)) in omega (arith, e, most)

-- a search has come so far
pub searched : (l : Limits) (count row a b : ℕ) → row ≤ rows_of l → (count ≡ 0 → row ≡ 0) → b ≤ a + row * read_steps l → b ≤ a + search_steps l count
searched l zero row a b within none made = let start = subst (λ z. b ≤ a + z * read_steps l) (none refl) made in omega (arith, start)
searched l (suc count) row a b within none made = let most = no_more row (rows_of l) (read_steps l) within in omega (arith, most, made)

-- so many of the one for each of the other
grows : (i n limit a b : ℕ) → i < n → (i * limit * a + i * b) + (limit * a + b) ≤ n * limit * a + n * b
grows i n limit a b less =
    let e = add-mul (i * limit) limit a in
    let f = no_more (i * limit + limit) (n * limit) a (next_of i n limit less) in
    let g = next_of i n b less in
    omega (arith, e, f, g)

stays_less : (i n limit a b : ℕ) → i ≤ n → i * limit * a + i * b ≤ n * limit * a + n * b
stays_less i n limit a b less =
    let f = no_more (i * limit) (n * limit) a (no_more i n limit less) in
    let g = no_more i n b less in
    omega (arith, f, g)

-- rounds of all attempts
pub rounds_next : (l : Limits) (q i n : ℕ) → i < n → replay_steps l q (i * l.attempts) i + (l.attempts * attempt_steps l q + gathered l q requeue_steps) ≤ replay_steps l q (n * l.attempts) n
rounds_next l q i n less = grows i n l.attempts (attempt_steps l q) (gathered l q requeue_steps) less

-- one more round, as far as it has come
module _ (l : Limits) (q i n a : ℕ) (k k1 k2 k3 : KeeperShown) (ps ps1 ps2 ps3 : List PassShown) (less : i < n) (same : a ≡ l.attempts) (given : k1.given ≡ q)
    (made : AllMake (replay_steps l q (i * l.attempts) i) k ps k1 ps1) (attempts : AllMake (a * attempt_steps l k1.given) k1 ps1 k2 ps2) where
  all_tried : AllMake (l.attempts * attempt_steps l q) k1 ps1 k2 ps2
  all_tried = subst (λ z. AllMake (l.attempts * attempt_steps l z) k1 ps1 k2 ps2) given (subst (λ z. AllMake (z * attempt_steps l k1.given) k1 ps1 k2 ps2) same attempts)

  pub tried_within : AllMake (replay_steps l q (n * l.attempts) n) k ps k2 ps2
  tried_within = let e = rounds_next l q i n less in let f = all_tried in omega (arith, e, f, made)

  pub round_within : k2.given ≡ k1.given → AllMake (gathered l k2.given requeue_steps) k2 ps2 k3 ps3 → AllMake (replay_steps l q (n * l.attempts) n) k ps k3 ps3
  round_within still again =
      let e = rounds_next l q i n less in
      let f = all_tried in
      let g = subst (λ z. AllMake (gathered l z requeue_steps) k2 ps2 k3 ps3) (still ∙ given) again in
      omega (arith, e, f, g, made)

-- all rounds are made before the attempts of the last
pub enough : (further times limit a b : ℕ) → further ≤ 3 → times ≤ limit → (further * limit * a + further * b) + times * a ≤ 4 * limit * a + 3 * b
enough further times limit a b few within =
    let e = stays_less further 3 limit a b few in
    let f = no_more times limit a within in
    let g = add-mul (3 * limit) limit a in
    let h : 4 * limit * a ≡ (3 * limit + limit) * a = ap (λ n. n * a) (let same : 4 * limit ≡ 3 * limit + limit = omega arith in same) in
    omega (arith, e, f, g, h)

pub most_is : (l : Limits) (q : ℕ) → most_replay_steps l q ≡ 4 * l.attempts * attempt_steps l q + 3 * gathered l q requeue_steps
most_is l q = ap (λ n. n * attempt_steps l q + 3 * gathered l q requeue_steps) (let same : tries l.attempts ≡ 4 * l.attempts = omega arith in same)

pub rounds_within : (l : Limits) (q further : ℕ) (k k' : KeeperShown) (ps qs : List PassShown) → further ≤ MAX_ROUNDS → AllMake (replay_steps l q (further * l.attempts) further) k ps k' qs → AllMake (most_replay_steps l q) k ps k' qs
rounds_within l q further k k' ps qs few first =
    let e = enough further 0 l.attempts (attempt_steps l q) (gathered l q requeue_steps) few (omega arith) in
    let f = most_is l q in
    omega (arith, e, f, first)

-- so an element is replayed by as many as it can have had
pub replayed : (l : Limits) (q further times : ℕ) (k k' k'' : KeeperShown) (ps qs rs : List PassShown) → further ≤ MAX_ROUNDS → AllMake (replay_steps l q (further * l.attempts) further) k ps k' qs → AllMake (times * attempt_steps l q) k' qs k'' rs
    → times ≤ l.attempts → AllMake (most_replay_steps l q) k ps k'' rs
replayed l q further times k k' k'' ps qs rs few first second within =
    let e = enough further times l.attempts (attempt_steps l q) (gathered l q requeue_steps) few within in
    let f = most_is l q in
    omega (arith, e, f, first, second)

-- one more was put behind those that were found
pub one_kept : (xs ys : List ℕ) (found : Option ℕ) (count : ℕ) → ys ≡ xs ++ listed found → length xs < count → length ys ≤ count
one_kept xs ys None count is less = let e = ap length is in let long = length-append xs [] in omega (arith, e, long, less)
one_kept xs ys (Some a) count is less = let e = ap length is in let long = length-append xs (a ∷ []) in omega (arith, e, long, less)
