-- What is open of a request, from one of its elements to the next.
use Rattle.std.proofs.Common.{◌≡◌, ◌==◌, ◌&&◌, ◌+◌, ◌≤◌, ◌<◌, nat_le, ℕ, Bool, true, false, not, if◌then◌else◌, Some, None, List, [], ◌∷◌, filter, length, refl, sym, ◌∙◌, ap, subst, arith}
use Rattle.std.specs.Ordering.{nat_cmp, match_ordering}
use Rattle.std.specs.declared.cmp.Ordering.{Ordering}
use Rattle.std.specs.declared.cmp.Ordering.TheVariants.{Less, Equal, Greater}
use Rattle.std.specs.Map.{keys_of}
use Rattle.std.proofs.lemmas.Map.Keys.{sorted_head, sorted_tail}
use Rattle.std.proofs.lemmas.Bool.Decides.{nat_tests}
use Rattle.tp_store.specs.declared.element.TheConstants.{REPLY_STAGE}
use Rattle.tp_store.specs.declared.element.Element.{Element}
use Rattle.tp_store.specs.Cancels.{Counted, is_open_from, strike_all, struck, struck_if_open}
use Rattle.tp_store.specs.Counting.{TallyView}
use Rattle.tp_store.specs.Elements.{Entry, alive_of, element_at, first_in, is_in_from, put, standing}
use Rattle.tp_store.specs.declared.element.Status.TheVariants.{Killed}
use Rattle.tp_store.specs.Calls.{cancel_of, cancelled, kill_all, killed}
use Rattle.tp_store.specs.Ends.{is_over, ended_in, forget}
use Rattle.tp_store.specs.declared.ends.TheConstants.{FORGET_STEPS}
use Rattle.tp_store.specs.Shelves.{AreSorted}
use Rattle.tp_store.specs.State.{State, swept, with_end}
use Rattle.tp_store.proofs.Finding.{IsBelow, at_most, both}

below_is : (k y : ℕ) → nat_cmp k y ≡ Less → k < y
below_is k y h = grind (arith, nat_tests)

equal_is : (k y : ℕ) → nat_cmp k y ≡ Equal → k ≡ y
equal_is k y h = grind (arith, nat_tests)

is_le : (m n : ℕ) → m ≤ n → nat_le m n ≡ true
is_le m n h = grind (arith, nat_tests)

is_past : (m n : ℕ) → n < m → nat_le m n ≡ false
is_past m n h = grind (arith, nat_tests)

module _ (root : ℕ) where
  -- an element in front of an id isn't open from that on
  in_front : (from : ℕ) (x : Entry) → x.0 < from → is_open_from root from x ≡ false
  in_front from x h = rw (is_past from x.0 h) refl

  -- what the first of all stands in front of is open from there on, or from the first id that is asked for
  same_behind : (from k : ℕ) (es : List Entry) → IsBelow k (keys_of es) → from ≤ k → filter (is_open_from root from) es ≡ filter (is_open_from root (k + 1)) es
  same_behind from k [] below low = refl
  same_behind from k (x ∷ es) below low =
      let after = below_is k x.0 below.0 in
      rw (is_le from x.0 (omega arith), is_le (k + 1) x.0 (omega arith)) (again _ x (same_behind from k es below.1 low))
    where
      again : (b : Bool) (x : Entry) {xs ys : List Entry} → xs ≡ ys → (if b then x ∷ xs else xs) ≡ (if b then x ∷ ys else ys)
      again true x e = ap (λ zs. x ∷ zs) e
      again false x e = e

  -- what is found is behind what is below all
  found_behind : (from k id : ℕ) (e : Element) (es : List Entry) → IsBelow k (keys_of es) → first_in alive_of root from es ≡ Some (id, e) → k < id
  found_behind from k id e [] below found = absurd cc
  found_behind from k id e (x ∷ es) below found = go (found_behind from k id e es below.1) (is_in_from alive_of root from x) found
    where
      go : (first_in alive_of root from es ≡ Some (id, e) → k < id) → (b : Bool) → (if b then Some x else first_in alive_of root from es) ≡ Some (id, e) → k < id
      go on true h = let same : x.0 ≡ id = cc in let after = below_is k x.0 below.0 in omega arith
      go on false h = on h

  starts : (from : ℕ) (x : Entry) → is_in_from alive_of root from x ≡ true → from ≤ x.0
  starts from x h = at_most from x.0 (both _ _ h).0

  as_found : (x : Entry) (id : ℕ) (e : Element) {xs ys : List Entry} → x ≡ (id, e) → xs ≡ ys → (if not (x.1.stage == REPLY_STAGE) then x ∷ xs else xs) ≡ (if e.stage == REPLY_STAGE then ys else (id, e) ∷ ys)
  as_found x id e {xs} {ys} is same = rw is (go (e.stage == REPLY_STAGE))
    where
      go : (b : Bool) → (if not b then (id, e) ∷ xs else xs) ≡ (if b then ys else (id, e) ∷ ys)
      go true = same
      go false = ap (λ zs. (id, e) ∷ zs) same

  -- where none is alive, none is open
  pub nothing_open : (from : ℕ) (es : List Entry) → first_in alive_of root from es ≡ None → filter (is_open_from root from) es ≡ []
  nothing_open from [] none = refl
  nothing_open from (x ∷ es) none = go (nothing_open from es) (is_in_from alive_of root from x) none
    where
      go : (first_in alive_of root from es ≡ None → filter (is_open_from root from) es ≡ []) → (b : Bool) → (if b then Some x else first_in alive_of root from es) ≡ None → (if b && not (x.1.stage == REPLY_STAGE) then x ∷ filter (is_open_from root from) es else filter (is_open_from root from) es) ≡ []
      go on true h = absurd cc
      go on false h = on h

  -- what is open begins with the first that is alive, unless that is a reply
  pub open_first : (from id : ℕ) (e : Element) (es : List Entry) → AreSorted es → first_in alive_of root from es ≡ Some (id, e) → filter (is_open_from root from) es ≡ (if e.stage == REPLY_STAGE then filter (is_open_from root (id + 1)) es else (id, e) ∷ filter (is_open_from root (id + 1)) es)
  open_first from id e [] sorted found = absurd cc
  open_first from id e (x ∷ es) sorted found = go (open_first from id e es (sorted_tail nat_cmp x.0 (keys_of es) sorted)) (is_in_from alive_of root from x) refl found
    where
      below : IsBelow x.0 (keys_of es)
      below = sorted_head nat_cmp x.0 (keys_of es) sorted

      go : (first_in alive_of root from es ≡ Some (id, e) → filter (is_open_from root from) es ≡ (if e.stage == REPLY_STAGE then filter (is_open_from root (id + 1)) es else (id, e) ∷ filter (is_open_from root (id + 1)) es)) → (b : Bool) → is_in_from alive_of root from x ≡ b → (if b then Some x else first_in alive_of root from es) ≡ Some (id, e) → (if b && not (x.1.stage == REPLY_STAGE) then x ∷ filter (is_open_from root from) es else filter (is_open_from root from) es) ≡ (if e.stage == REPLY_STAGE then filter (is_open_from root (id + 1)) (x ∷ es) else (id, e) ∷ filter (is_open_from root (id + 1)) (x ∷ es))
      go on false b h = rw (in_front (id + 1) x (let after = found_behind from x.0 id e es below h in omega arith)) (on h)
      go on true b h = rw (in_front (id + 1) x (let at : x.0 ≡ id = cc in omega arith)) (as_found x id e (let that : x ≡ (id, e) = cc in that) (subst (λ k. filter (is_open_from root from) es ≡ filter (is_open_from root (k + 1)) es) (let at : x.0 ≡ id = cc in at) (same_behind from x.0 es below (starts from x b))))

  -- what is put at an id isn't open behind it
  pub open_put : (id : ℕ) (e : Element) (es : List Entry) → filter (is_open_from root (id + 1)) (put id e es) ≡ filter (is_open_from root (id + 1)) es
  open_put id e [] = rw (is_past (id + 1) id (omega arith)) refl
  open_put id e (x ∷ es) = go (open_put id e es) (nat_cmp id x.0) refl
    where
      go : filter (is_open_from root (id + 1)) (put id e es) ≡ filter (is_open_from root (id + 1)) es → (o : Ordering) → nat_cmp id x.0 ≡ o → filter (is_open_from root (id + 1)) (match_ordering o ((id, e) ∷ x ∷ es) ((x.0, e) ∷ es) (x ∷ put id e es)) ≡ filter (is_open_from root (id + 1)) (x ∷ es)
      go on Less is = rw (is_past (id + 1) id (omega arith)) refl
      go on Equal is = let same = equal_is id x.0 is in rw (is_past (id + 1) x.0 (omega arith)) refl
      go on Greater is = again _ x on
        where
          again : (b : Bool) (x : Entry) {xs ys : List Entry} → xs ≡ ys → (if b then x ∷ xs else xs) ≡ (if b then x ∷ ys else ys)
          again true x e = ap (λ zs. x ∷ zs) e
          again false x e = e

  -- once an element is killed, or left as a reply, what is open behind it is left to kill
  pub strike_step : (from id : ℕ) (e : Element) (es ns : List Entry) (t nt : TallyView) → AreSorted es → first_in alive_of root from es ≡ Some (id, e) → record { elements = ns; tally = nt } ≡ struck_if_open (id, e) (record { elements = es; tally = t }) → (strike_all (filter (is_open_from root (id + 1)) ns) (record { elements = ns; tally = nt }) ≡ strike_all (filter (is_open_from root from) es) (record { elements = es; tally = t })) × ((if e.stage == REPLY_STAGE then 0 else 1) + length (filter (is_open_from root (id + 1)) ns) ≡ length (filter (is_open_from root from) es))
  strike_step from id e es ns t nt sorted found = go (e.stage == REPLY_STAGE) (open_first from id e es sorted found)
    where
      Left : ℕ → Counted → Type 0
      Left n k = (strike_all (filter (is_open_from root (id + 1)) k.elements) k ≡ strike_all (filter (is_open_from root from) es) (record { elements = es; tally = t })) × (n + length (filter (is_open_from root (id + 1)) k.elements) ≡ length (filter (is_open_from root from) es))

      go : (b : Bool) → filter (is_open_from root from) es ≡ (if b then filter (is_open_from root (id + 1)) es else (id, e) ∷ filter (is_open_from root (id + 1)) es) → record { elements = ns; tally = nt } ≡ (if b then record { elements = es; tally = t } else struck (id, e) (record { elements = es; tally = t })) → Left (if b then 0 else 1) (record { elements = ns; tally = nt })
      go true opens is = subst (Left 0) (sym is) (rw opens (refl, omega arith))
      go false opens is = subst (Left 1) (sym is) (rw opens (rw (open_put id (standing Killed e) es) (refl, omega arith)))

  -- what is found isn't in front of where the walk began
  pub found_from : (from id : ℕ) (e : Element) (es : List Entry) → first_in alive_of root from es ≡ Some (id, e) → from ≤ id
  found_from from id e [] found = absurd cc
  found_from from id e (x ∷ es) found = go (found_from from id e es) (is_in_from alive_of root from x) refl found
    where
      go : (first_in alive_of root from es ≡ Some (id, e) → from ≤ id) → (b : Bool) → is_in_from alive_of root from x ≡ b → (if b then Some x else first_in alive_of root from es) ≡ Some (id, e) → from ≤ id
      go on true b h = let at : x.0 ≡ id = cc in let low = starts from x b in omega arith
      go on false b h = on h

-- an id that has an element is below the end
pub below_end : (id end : ℕ) (e : Element) (es : List Entry) → element_at id es ≡ Some e → ((i : ℕ) → end ≤ i → element_at i es ≡ None) → id < end
below_end id end e es there below = go (nat_le end id) refl
  where
    after : (m n : ℕ) → nat_le m n ≡ false → n < m
    after m n h = grind (arith, nat_tests)

    go : (b : Bool) → nat_le end id ≡ b → id < end
    go true h = let none = below id (at_most end id h) in absurd cc
    go false h = after end id h

-- killing these in a store is killing them among its elements and counts
kills_as : (es : List Entry) (s : State) → kill_all es s ≡ record s { elements = (strike_all es (record { elements = s.elements; tally = s.tally })).elements; tally = (strike_all es (record { elements = s.elements; tally = s.tally })).tally }
kills_as [] s = refl
kills_as (e ∷ es) s = kills_as es (killed e.0 e.1 s)

-- a cancel of a client's request, on which work goes on
pub cancel_is : (root : ℕ) (s : State) (e : Element) → element_at root s.elements ≡ Some e → e.by ≡ None → is_over root s.elements ≡ false → cancel_of root s ≡ cancelled root s
cancel_is root s e there own live = rw there (rw own (rw live refl))

-- what it leaves
pub cancelled_as : (root : ℕ) (s : State) (es ns : List Entry) (t : TallyView) (was now : List ℕ) → record { elements = es; tally = t } ≡ strike_all (filter (is_open_from root 0) s.elements) (record { elements = s.elements; tally = s.tally }) → was ≡ ended_in root es s.ended → record { elements = ns; ended = now } ≡ forget FORGET_STEPS s.limits.keep (record { elements = es; ended = was }) → record s { elements = ns; tally = t; ended = now } ≡ (cancelled root s).1
cancelled_as root s es ns t was now kills ends forgets = ap (λ k. record s { elements = k.elements; tally = t; ended = k.ended }) forgets ∙ (ap (λ was. swept (record s { elements = es; tally = t; ended = was })) ends ∙ (ap (λ k. swept (with_end root (record s { elements = k.elements; tally = k.tally }))) kills ∙ ap (λ k. swept (with_end root k)) (sym (kills_as (filter (is_open_from root 0) s.elements) s))))
