-- Counting elements: what one more adds, and what is counted by stages and row by row.
use Rattle.std.proofs.Common.{◌≡◌, ℕ, ◌+◌, cond, Bool, List, [], ◌∷◌, ◌++◌, length, refl, ◌∙◌, ap, arith}
use Rattle.std.proofs.lemmas.List.Sums.{sum_by-cons, sum_by_push}
use Rattle.tp_model.specs.declared.types.Counts.{Counts}
use Rattle.tp_model.specs.declared.types.Element.{Element}
use Rattle.tp_model.specs.declared.types.Status.{Status}
use Rattle.tp_model.specs.declared.types.Status.TheVariants.{Waiting, Held, Consumed, Parked, Killed}
use Rattle.tp_model.specs.declared.event.Event.{Event}
use Rattle.tp_model.specs.Accounts.{all_in, one_more}
use Rattle.tp_model.specs.Counts.{is_waiting, is_held, is_consumed, is_parked, is_killed, count_of, counts_among}
use Rattle.tp_model.specs.History.{status_of}

pub alike : (a b : Counts) → a.waiting ≡ b.waiting → a.held ≡ b.held → a.consumed ≡ b.consumed → a.parked ≡ b.parked → a.killed ≡ b.killed → a ≡ b
alike a b w e c p k =
    ap (λ z. record { waiting = z; held = a.held; consumed = a.consumed; parked = a.parked; killed = a.killed }) w
    ∙ (ap (λ z. record { waiting = b.waiting; held = z; consumed = a.consumed; parked = a.parked; killed = a.killed }) e
    ∙ (ap (λ z. record { waiting = b.waiting; held = b.held; consumed = z; parked = a.parked; killed = a.killed }) c
    ∙ (ap (λ z. record { waiting = b.waiting; held = b.held; consumed = b.consumed; parked = z; killed = a.killed }) p
    ∙ ap (λ z. record { waiting = b.waiting; held = b.held; consumed = b.consumed; parked = b.parked; killed = z }) k)))

-- one more element, at the beginning or at the end

abbrev one_if : Bool → ℕ
one_if test = cond test 1 0

more : (s : Status) (c d : Counts) → d.waiting ≡ c.waiting + one_if (is_waiting s) → d.held ≡ c.held + one_if (is_held s) → d.consumed ≡ c.consumed + one_if (is_consumed s)
    → d.parked ≡ c.parked + one_if (is_parked s) → d.killed ≡ c.killed + one_if (is_killed s) → d ≡ one_more s c
more (Waiting n) c d w e u p k = alike d _ (omega arith) (omega arith) (omega arith) (omega arith) (omega arith)
more (Held v n) c d w e u p k = alike d _ (omega arith) (omega arith) (omega arith) (omega arith) (omega arith)
more (Consumed v) c d w e u p k = alike d _ (omega arith) (omega arith) (omega arith) (omega arith) (omega arith)
more (Parked n) c d w e u p k = alike d _ (omega arith) (omega arith) (omega arith) (omega arith) (omega arith)
more Killed c d w e u p k = alike d _ (omega arith) (omega arith) (omega arith) (omega arith) (omega arith)

pub counts_last : (limit : ℕ) (h : List Event) (xs : List Element) (x : Element) → counts_among limit h (xs ++ x ∷ []) ≡ one_more (status_of limit h x.id) (counts_among limit h xs)
counts_last limit h xs x =
    more (status_of limit h x.id) (counts_among limit h xs) (counts_among limit h (xs ++ x ∷ [])) (at is_waiting) (at is_held) (at is_consumed) (at is_parked) (at is_killed)
  where
    at : (test : Status → Bool) → count_of limit h (xs ++ x ∷ []) test ≡ count_of limit h xs test + one_if (test (status_of limit h x.id))
    at test = sum_by_push (λ (e : Element). one_if (test (status_of limit h e.id))) xs x

pub counts_first : (limit : ℕ) (h : List Event) (x : Element) (xs : List Element) → counts_among limit h (x ∷ xs) ≡ one_more (status_of limit h x.id) (counts_among limit h xs)
counts_first limit h x xs =
    more (status_of limit h x.id) (counts_among limit h xs) (counts_among limit h (x ∷ xs)) (at is_waiting) (at is_held) (at is_consumed) (at is_parked) (at is_killed)
  where
    at : (test : Status → Bool) → count_of limit h (x ∷ xs) test ≡ count_of limit h xs test + one_if (test (status_of limit h x.id))
    at test = let e = sum_by-cons (λ (e : Element). one_if (test (status_of limit h e.id))) x xs in omega arith

all_more : (s : Status) (c : Counts) → all_in (one_more s c) ≡ all_in c + 1
all_more (Waiting n) c = omega arith
all_more (Held u n) c = omega arith
all_more (Consumed u) c = omega arith
all_more (Parked n) c = omega arith
all_more Killed c = omega arith

pub all_counted : (limit : ℕ) (h : List Event) (xs : List Element) → all_in (counts_among limit h xs) ≡ length xs
all_counted limit h [] = refl
all_counted limit h (x ∷ xs) =
    let one = ap all_in (counts_first limit h x xs) ∙ all_more (status_of limit h x.id) (counts_among limit h xs) in
    let rest = all_counted limit h xs in
    omega arith
