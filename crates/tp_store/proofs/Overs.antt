-- Requests on which no work goes on, element by element.
use Rattle.std.proofs.Common.{◌≡◌, ℕ, Bool, true, false, cond, Option, Some, None, is_none, List, refl, arith}
use Rattle.std.proofs.lemmas.Bool.Decides.{nat_tests}
use Rattle.tp_store.specs.declared.element.Element.{Element}
use Rattle.tp_store.specs.Elements.{Entry, alive_of, element_at, first_in, is_alive, is_group}
use Rattle.tp_store.specs.Ends.{is_over}
use Rattle.tp_store.specs.Shelves.{AreSorted}
use Rattle.tp_store.proofs.Looking.{first_is, none_is}

-- an element of a request, on which work goes on
pub record IsLive (root : ℕ) (es : List Entry) : Type 0 where
  pub id : ℕ
  pub one : Element
  pub found : element_at id es ≡ Some one
  pub root_is : one.root ≡ root
  pub alive : is_alive one.status ≡ true

-- none of its elements is alive
abbrev pub HasNone : ℕ → List Entry → Type 0
HasNone root es = (id : ℕ) (e : Element) → element_at id es ≡ Some e → e.root ≡ root → is_alive e.status ≡ false

pub differ : {A : Type 0} {b : Bool} → b ≡ false → b ≡ true → A
differ e f = absurd cc

pub is_false : (b : Bool) → (b ≡ true → ⊥) → b ≡ false
is_false true h = absurd (h refl)
is_false false h = refl

alive_member : (root r : ℕ) (b : Bool) → r ≡ root → b ≡ true → is_group root (cond b (Some r) None) ≡ true
alive_member root r true e h = grind (arith, nat_tests)
alive_member root r false e h = absurd cc

member_alive : (root r : ℕ) (b : Bool) → is_group root (cond b (Some r) None) ≡ true → (r ≡ root) × (b ≡ true)
member_alive root r true h = (grind (arith, nat_tests), refl)
member_alive root r false h = absurd cc

pub over_means : (root : ℕ) (es : List Entry) → is_over root es ≡ true → HasNone root es
over_means root es h id e found same = go (first_in alive_of root 0 es) refl h
  where
    go : (x : Option Entry) → first_in alive_of root 0 es ≡ x → is_none x ≡ true → is_alive e.status ≡ false
    go None at h = is_false (is_alive e.status) (λ alive. differ (none_is alive_of root 0 es at id e found (omega arith)) (alive_member root e.root (is_alive e.status) same alive))
    go (Some x) at h = absurd cc

pub live_found : (root : ℕ) (es : List Entry) → AreSorted es → is_over root es ≡ false → IsLive root es
live_found root es sorted h = go (first_in alive_of root 0 es) refl h
  where
    go : (x : Option Entry) → first_in alive_of root 0 es ≡ x → is_none x ≡ false → IsLive root es
    go None at h = absurd cc
    go (Some x) at h = let f = first_is alive_of root 0 es sorted x at in let m = member_alive root x.1.root (is_alive x.1.status) f.member in record { id = x.0; one = x.1; found = f.found; root_is = m.0; alive = m.1 }

pub over_from : (root : ℕ) (es : List Entry) → AreSorted es → HasNone root es → is_over root es ≡ true
over_from root es sorted none = go (is_over root es) refl
  where
    go : (b : Bool) → is_over root es ≡ b → is_over root es ≡ true
    go true h = h
    go false h = let l = live_found root es sorted h in differ (none l.id l.one l.found l.root_is) l.alive

pub live_from : (root id : ℕ) (e : Element) (es : List Entry) → element_at id es ≡ Some e → e.root ≡ root → is_alive e.status ≡ true → is_over root es ≡ false
live_from root id e es found same alive = is_false (is_over root es) (λ h. differ (over_means root es h id e found same) alive)
