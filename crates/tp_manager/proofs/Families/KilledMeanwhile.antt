-- How many replies of a family are killed between two histories.
use Rattle.std.proofs.Common.{◌≡◌, ℕ, ◌+◌, ◌≤◌, ◌==◌, ◌&&◌, not, cond, Bool, true, false, Option, Some, None, List, length, refl, sym, ◌∙◌, ap, subst, arith}
use Rattle.std.proofs.lemmas.Bool.{eq-eqb}
use Rattle.std.proofs.lemmas.List.Sums.{count_by-le-length}
use Rattle.std.specs.List.{sum_by}
use mathlib.Core.List.{IsPrefix}
use Rattle.tp_model.specs.declared.types.Element.{Element}
use Rattle.tp_model.specs.declared.types.Limits.{Limits}
use Rattle.tp_model.specs.declared.types.Status.{Status}
use Rattle.tp_model.specs.declared.types.Status.TheVariants.{Waiting, Held, Consumed, Parked, Killed}
use Rattle.tp_model.specs.declared.event.Event.{Event}
use Rattle.tp_model.specs.Counts.{is_killed}
use Rattle.tp_model.specs.Families.{family}
use Rattle.tp_model.specs.History.{IsSettled, born, element_of, status_of}
use Rattle.tp_model.specs.Steps.{IsLegal}
use Rattle.tp_model.proofs.Bridges.{element_of-id}
use Rattle.tp_model.proofs.LawProofs.{settled_stay}
use Rattle.tp_manager.specs.Calls.{IsWaiting}
use Rattle.tp_manager.specs.Lists.{IsReply, killed_between, walks_of}
use Rattle.tp_manager.proofs.Families.EndSums.{in_born, sum_born, sum_filter, sum_le, sum_more}

-- the status of a killed element

killed_is : (s : Status) → is_killed s ≡ true → s ≡ Killed
killed_is (Waiting n) is = absurd cc
killed_is (Held u n) is = absurd cc
killed_is (Consumed u) is = absurd cc
killed_is (Parked n) is = absurd cc
killed_is Killed is = refl

-- who is of the family, a reply, killed in the later history, and not in the earlier one

abbrev counted : Bool → Bool → Bool → Bool → ℕ
counted r s k n = cond r (cond (s && (k && not n)) 1 0) 0

counted_more : (r s k c n m : Bool) → (k ≡ true → c ≡ true) → (m ≡ true → n ≡ true) → counted r s k n ≤ counted r s c m
counted_more false s k c n m up down = omega arith
counted_more true false k c n m up down = omega arith
counted_more true true false c n m up down = omega arith
counted_more true true true c true m up down = omega arith
counted_more true true true true false true up down = absurd (let e = down refl in cc)
counted_more true true true true false false up down = omega arith
counted_more true true true false false m up down = absurd (let e = up refl in cc)

counted_none : (r s k n : Bool) → k ≡ false → counted r s k n ≡ 0
counted_none false s k n e = refl
counted_none true false k n e = refl
counted_none true true true n e = absurd cc
counted_none true true false n e = refl

counted_one : (r s k n : Bool) → r ≡ true → s ≡ true → k ≡ true → n ≡ false → counted r s k n ≡ 1
counted_one r s k n a b c d = rw (a, b, c, d) refl

module _ (l : Limits) where
  killed_stays : (a b : List Event) (i : ℕ) → IsLegal l b → IsPrefix a b → is_killed (status_of l.attempts a i) ≡ true → is_killed (status_of l.attempts b i) ≡ true
  killed_stays a b i legal begins is =
      let killed = killed_is (status_of l.attempts a i) is in
      ap is_killed (settled_stay l a b i legal begins (subst IsSettled (sym killed) tt) ∙ killed)

  -- an element that waits wasn't killed before
  pub not_killed : (a b : List Event) (i : ℕ) → IsLegal l b → IsPrefix a b → IsWaiting (status_of l.attempts b i) → is_killed (status_of l.attempts a i) ≡ false
  not_killed a b i legal begins waits = go (is_killed (status_of l.attempts a i)) refl
    where
      go : (k : Bool) → is_killed (status_of l.attempts a i) ≡ k → is_killed (status_of l.attempts a i) ≡ false
      go false e = e
      go true e = absurd (let later = killed_stays a b i legal begins e in let now : is_killed (status_of l.attempts b i) ≡ false = ap is_killed waits.1 in cc)

  module _ (root : ℕ) where
    abbrev weight : List Event → List Event → Element → ℕ
    weight a b x = counted (x.root == root) (x.stage == 15) (is_killed (status_of l.attempts b x.id)) (is_killed (status_of l.attempts a x.id))

    killed_sum : (a b : List Event) → killed_between l root a b ≡ sum_by (weight a b) (born b)
    killed_sum a b = sum_filter (λ (x : Element). x.root == root) (λ (x : Element). cond (x.stage == 15 && (is_killed (status_of l.attempts b x.id) && not (is_killed (status_of l.attempts a x.id)))) 1 0) (born b)

    -- no more than the family has
    pub killed_few : (a b : List Event) → killed_between l root a b ≤ length (family b root)
    killed_few a b = count_by-le-length (λ (x : Element). x.stage == 15 && (is_killed (status_of l.attempts b x.id) && not (is_killed (status_of l.attempts a x.id)))) (family b root)

    -- later there are more, and since an earlier history too
    pub killed_more : (a b c : List Event) → IsLegal l c → IsPrefix b c → killed_between l root a b ≤ killed_between l root a c
    killed_more a b c legal begins =
        let one = killed_sum a b in let two = killed_sum a c in let longer = sum_born (weight a b) b c begins in
        let each = sum_le (weight a b) (weight a c) (born c) (λ x p. counted_more (x.root == root) (x.stage == 15) _ _ _ _ (killed_stays b c x.id legal begins) (λ is. is)) in
        omega arith

    pub killed_since : (a b c : List Event) → IsLegal l b → IsPrefix a b → killed_between l root b c ≤ killed_between l root a c
    killed_since a b c legal begins =
        let one = killed_sum b c in let two = killed_sum a c in
        let each = sum_le (weight b c) (weight a c) (born c) (λ x p. counted_more (x.root == root) (x.stage == 15) _ _ _ _ (λ is. is) (killed_stays a b x.id legal begins)) in
        omega arith

    -- and one more that wasn't killed before
    pub killed_one : (a b c : List Event) (i : ℕ) (x : Element) → IsLegal l c → IsPrefix b c → element_of c i ≡ Some x → IsReply root x
        → is_killed (status_of l.attempts a i) ≡ false → is_killed (status_of l.attempts b i) ≡ false → status_of l.attempts c i ≡ Killed
        → killed_between l root a b + 1 ≤ killed_between l root a c
    killed_one a b c i x legal begins found reply first before after =
        let own : x.id ≡ i = element_of-id c i x found in
        let none : weight a b x ≡ 0 = counted_none (x.root == root) (x.stage == 15) _ _ (subst (λ j. is_killed (status_of l.attempts b j) ≡ false) (sym own) before) in
        let now : weight a c x ≡ 1 = counted_one (x.root == root) (x.stage == 15) _ _ (eq-eqb x.root root reply.1) (eq-eqb x.stage 15 reply.0)
        (subst (λ j. is_killed (status_of l.attempts c j) ≡ true) (sym own) (ap is_killed after)) (subst (λ j. is_killed (status_of l.attempts a j) ≡ false) (sym own) first) in
        let one = killed_sum a b in let two = killed_sum a c in let longer = sum_born (weight a b) b c begins in
        let each = sum_more (weight a b) (weight a c) 1 x (born c) (λ y. counted_more (y.root == root) (y.stage == 15) _ _ _ _ (killed_stays b c y.id legal begins) (λ is. is)) (omega arith) (in_born c i x found) in
        omega arith

-- as many walks, or more
pub walks_more : (r : Option Element) (k n : ℕ) → k ≤ n → walks_of r k ≤ walks_of r n
walks_more (Some x) k n le = le
walks_more None k n le = omega arith

pub walks_few : (r : Option Element) (k n : ℕ) → k ≤ n → walks_of r k ≤ n + 1
walks_few (Some x) k n le = omega arith
walks_few None k n le = omega arith
