-- Elements that are born, and what was forgotten behind that.
use Rattle.std.proofs.Common.{◌≡◌, ℕ, Bool, true, false, cond, Some, None, List, [], ◌∷◌, refl, ap, ◌+◌, add-one, arith}
use Rattle.std.specs.Ordering.{nat_cmp, match_ordering}
use Rattle.std.specs.declared.cmp.Ordering.{Ordering}
use Rattle.std.specs.declared.cmp.Ordering.TheVariants.{Less, Equal, Greater}
use Rattle.std.specs.BTreeMap.{is_at}
use Rattle.std.proofs.lemmas.Bool.Decides.{nat_tests}
use Rattle.tp_store.specs.declared.ends.TheConstants.{FORGET_STEPS}
use Rattle.tp_store.specs.declared.element.Element.{Element}
use Rattle.tp_store.specs.Elements.{Entry, element_at, put, without}
use Rattle.tp_store.specs.Ends.{Shelved, forget, forget_one}
use Rattle.tp_store.specs.State.{State, swept}

itself : (n : ℕ) → is_at (nat_cmp n) n ≡ true
itself n = grind (arith, nat_tests)

not_equal : (m n : ℕ) → nat_cmp m n ≡ Equal → is_at (nat_cmp m) n ≡ true
not_equal m n h = grind (arith, nat_tests)

-- an element that is put where none was, and taken away again
pub without_put : (id : ℕ) (e : Element) (es : List Entry) → element_at id es ≡ None → without id (put id e es) ≡ es
without_put id e [] none = rw (itself id) refl
without_put id e (x ∷ es) none = go (without_put id e es) (is_at (nat_cmp id) x.0) refl none (nat_cmp id x.0) refl
  where
    go : (element_at id es ≡ None → without id (put id e es) ≡ es) → (at : Bool) → is_at (nat_cmp id) x.0 ≡ at → cond at (Some x.1) (element_at id es) ≡ None → (o : Ordering) → nat_cmp id x.0 ≡ o → without id (match_ordering o ((id, e) ∷ x ∷ es) ((x.0, e) ∷ es) (x ∷ put id e es)) ≡ x ∷ es
    go on true at h o is = absurd cc
    go on false at h Less is = rw (itself id) refl
    go on false at h Equal is = let here = not_equal id x.0 is in absurd cc
    go on false at h Greater is = rw at (ap (λ xs. x ∷ xs) (on h))

-- what the steps of forgetting leave is what the store has then
pub swept_as : (s : State) (es : List Entry) (ended : List ℕ) → record { elements = es; ended = ended } ≡ forget FORGET_STEPS s.limits.keep (record { elements = s.elements; ended = s.ended }) → record s { elements = es; ended = ended } ≡ swept s
swept_as s es ended is = ap (λ k. record s { elements = k.elements; ended = k.ended }) is

-- no step, and one step more
pub forget_none : (keep : ℕ) (k : Shelved) → forget 0 keep k ≡ k
unfolding forget
forget_none keep k = refl

pub forget_more : (n keep : ℕ) (k : Shelved) → forget (n + 1) keep k ≡ forget_one keep (forget n keep k)
unfolding forget
forget_more n keep k = rw add-one refl
