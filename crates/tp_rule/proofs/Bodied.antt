-- The stores of a body, one after another.
use Rattle.std.proofs.Common.{◌≡◌, ℕ, zero, suc, ◌+◌, ◌≤◌, ◌==◌, if◌then◌else◌, Bool, true, false, List, [], ◌∷◌, set, slice_index, refl, sym, ap, ◌∙◌, subst, ⊎_elim, arith}
use Rattle.tp_model.specs.declared.trace.StepKind.TheVariants as kinds
use Rattle.tp_model.specs.declared.trace.TraceEntry.{TraceEntry}
use Rattle.tp_model.specs.declared.types.TheConstants.{BODY_WORDS}
use Rattle.tp_model.specs.Steps.{IsBody}
use Rattle.tp_model.proofs.Bodies.{four_words}
use Rattle.tp_rule.specs.Steps.{Bodied, Fills, bodied, drafted, noted, stored, stores_of, stores_of_word, unchanged, with_body, with_word}
use Rattle.tp_rule.specs.Views.{IsOnePass, blank_body, hand}
use Rattle.tp_rule.specs.declared.view.Hand.{Hand}
use Rattle.tp_rule.specs.declared.view.View.{View}
use Rattle.tp_rule.proofs.Reading.{one_after}

-- the pass with this trace
abbrev with_trace : List TraceEntry → Hand → Hand
with_trace t a = record a { trace = t }

-- the view of a seat that stands for one pass, with that pass alone
abbrev alone : View → Hand → View
alone v a = record { limits = v.limits; seen = v.seen; also_seen = v.also_seen; known = v.known; hands = a ∷ [] }

only : (v : View) → IsOnePass v → alone v (hand v) ≡ v
only v one = (λ i. record { limits = v.limits; seen = v.seen; also_seen = v.also_seen; known = v.known; hands = sym one i })

-- a word that is stored after others is one more of the body
word_alone : (v : View) (a : Hand) (b : List ℕ) (k x : ℕ) → drafted (with_word k x) (drafted (with_body b) (alone v a)) ≡ drafted (with_body (set b k x)) (drafted unchanged (alone v a))
word_alone v a b k x = refl

word_more : (v : View) (b : List ℕ) (k x : ℕ) → IsOnePass v → drafted (with_word k x) (drafted (with_body b) v) ≡ drafted (with_body (set b k x)) (drafted unchanged v)
word_more v b k x one = subst (λ (z : View). drafted (with_word k x) (drafted (with_body b) z) ≡ drafted (with_body (set b k x)) (drafted unchanged z)) (only v one) (word_alone v (hand v) b k x)

first_alone : (v : View) (a : Hand) (k x : ℕ) → drafted (with_word k x) (alone v a) ≡ drafted (with_body (set a.next_body k x)) (alone v a)
first_alone v a k x = refl

word_first : (v : View) (k x : ℕ) → IsOnePass v → drafted (with_word k x) v ≡ drafted (with_body (set (hand v).next_body k x)) v
word_first v k x one = subst (λ (z : View). drafted (with_word k x) z ≡ drafted (with_body (set (hand v).next_body k x)) z) (only v one) (first_alone v (hand v) k x)

stored_one : (n : ℕ) (v : View) → IsOnePass v → IsOnePass (stored n v)
stored_one zero v one = one
stored_one (suc n) v one = (one_after kinds.DraftStore unchanged (stored n v).seen (stored n v).known (stored n v) (drafted unchanged (stored n v)) (stored_one n v one) refl).0

stored_limits : (n : ℕ) (v : View) → (stored n v).limits ≡ v.limits
stored_limits zero v = refl
stored_limits (suc n) v = stored_limits n v

stored_seen : (n : ℕ) (v : View) → (stored n v).seen ≡ v.seen
stored_seen zero v = refl
stored_seen (suc n) v = stored_seen n v

-- the stores of a body see nothing new
pub bodied_seen : (n : ℕ) (body : List ℕ) (v w : View) → w ≡ bodied n body v → w.seen ≡ v.seen
bodied_seen zero body v w is = ap (λ (z : View). z.seen) is
bodied_seen (suc n) body v w is = ap (λ (z : View). z.seen) is ∙ stored_seen n v

-- they change nothing in the pass but its trace
stored_kept : (n : ℕ) (v : View) → IsOnePass v → hand (stored n v) ≡ with_trace (hand (stored n v)).trace (hand v)
stored_kept zero v one = refl
stored_kept (suc n) v one =
    let is : hand (stored (suc n) v) ≡ with_trace (noted kinds.DraftStore (stored n v).seen (hand (stored n v))).trace (hand v) =
    (one_after kinds.DraftStore unchanged (stored n v).seen (stored n v).known (stored n v) (stored (suc n) v) (stored_one n v one) refl).1 ∙ ap (λ (h : Hand). noted kinds.DraftStore (stored n v).seen h) (stored_kept n v one) in
    is ∙ sym (ap (λ (h : Hand). with_trace h.trace (hand v)) is)

-- n stores were made, and the words b are in the next row by now
abbrev Worded : ℕ → List ℕ → View → View → Type 0
Worded zero b v w = (w ≡ v) × ((hand v).next_body ≡ b)
Worded (suc n) b v w = w ≡ drafted (with_body b) (stored n v)

word_stored : (v u w : View) (m k x : ℕ) (b c : List ℕ) → IsOnePass v → Worded m b v u → w ≡ drafted (with_word k x) u → set b k x ≡ c → Worded (suc m) c v w
word_stored v u w zero k x b c one before is more =
    is ∙ (ap (drafted (with_word k x)) before.0 ∙ (word_first v k x one ∙ ap (λ (z : List ℕ). drafted (with_body z) v) (ap (λ z. set z k x) before.1 ∙ more)))
word_stored v u w (suc n) k x b c one before is more =
    is ∙ (ap (drafted (with_word k x)) before ∙ (word_more (stored n v) b k x (stored_one n v one) ∙ ap (λ (z : List ℕ). drafted (with_body z) (drafted unchanged (stored n v))) more))

one_more : (m x : ℕ) → stores_of_word x ≡ 1 → suc m ≡ stores_of_word x + m
one_more m x one = omega (arith, one)

none_more : (m x : ℕ) → x ≡ 0 → m ≡ stores_of_word x + m
none_more m x none = omega (arith, ap stores_of_word none)

-- a word takes a store unless it is 0
filled_more : (v u w : View) (m k x : ℕ) (b c : List ℕ) → IsOnePass v → Worded m b v u → Fills u k x w → set b k x ≡ c → (x ≡ 0 → b ≡ c) → Worded (stores_of_word x + m) c v w
filled_more v u w m k x b c one before fills more same = ⊎_elim
    (λ is. subst (λ n. Worded n c v w) (one_more m x is.1) (word_stored v u w m k x b c one before is.0 more))
    (λ left. subst (λ n. Worded n c v w) (none_more m x left.1) (subst (λ z. Worded m z v w) (same left.1) (subst (λ z. Worded m b v z) (sym left.0) before))) fills.does

sum_few : (a b c d : ℕ) → a ≤ 1 → b ≤ 1 → c ≤ 1 → d ≤ 1 → a + (b + (c + (d + 0))) ≤ BODY_WORDS
sum_few a b c d e f g h = omega arith

if_few : (b : Bool) → (if b then 0 else 1) ≤ 1
if_few true = omega arith
if_few false = omega arith

one_at_most : (x : ℕ) → stores_of_word x ≤ 1
one_at_most x = if_few (x == 0)

-- the body is there, then
bodied_by : (v w : View) (body : List ℕ) (m : ℕ) → IsOnePass v → m ≡ stores_of body → m ≤ BODY_WORDS → Worded m body v w → Bodied body v w
bodied_by v w body zero one exact few none = record {
  stores = 0;
  exact = exact;
  few = few;
  view = none.0;
  pass = (subst IsOnePass (sym none.0) one, ap (λ (z : View). z.limits) none.0);
  hand_is = let back : v ≡ w = sym none.0 in ap hand none.0 ∙ (λ i. record (hand v) { trace = (hand (back i)).trace; next_body = none.1 i });
}
bodied_by v w body (suc n) one exact few view =
    let last = one_after kinds.DraftStore (with_body body) (stored n v).seen (stored n v).known (stored n v) w (stored_one n v one) view in
    let is : hand w ≡ record (hand v) { trace = (noted kinds.DraftStore (stored n v).seen (hand (stored n v))).trace; next_body = body } =
    last.1 ∙ ap (λ (h : Hand). noted kinds.DraftStore (stored n v).seen (with_body body h)) (stored_kept n v one) in record {
      stores = suc n;
      exact = exact;
      few = few;
      view = view;
      pass = (last.0, last.2 ∙ stored_limits n v);
      hand_is = is ∙ sym (ap (λ (h : Hand). record (hand v) { trace = h.trace; next_body = body }) is);
    }

module _ (p q r s : ℕ) where
  four_filled : (v a b d w : View) → IsOnePass v → (hand v).next_body ≡ 0 ∷ 0 ∷ 0 ∷ 0 ∷ [] → Fills v 3 s a → Fills a 2 r b → Fills b 1 q d → Fills d 0 p w → Bodied (p ∷ q ∷ r ∷ s ∷ []) v w
  four_filled v a b d w one blank last third second first =
      let none : Worded 0 (0 ∷ 0 ∷ 0 ∷ 0 ∷ []) v v = (refl, blank) in
      let x = filled_more v v a 0 3 s (0 ∷ 0 ∷ 0 ∷ 0 ∷ []) (0 ∷ 0 ∷ 0 ∷ s ∷ []) one none last refl (λ e. ap (λ z. 0 ∷ 0 ∷ 0 ∷ z ∷ []) (sym e)) in
      let y = filled_more v a b (stores_of (s ∷ [])) 2 r (0 ∷ 0 ∷ 0 ∷ s ∷ []) (0 ∷ 0 ∷ r ∷ s ∷ []) one x third refl (λ e. ap (λ z. 0 ∷ 0 ∷ z ∷ s ∷ []) (sym e)) in
      let z = filled_more v b d (stores_of (r ∷ s ∷ [])) 1 q (0 ∷ 0 ∷ r ∷ s ∷ []) (0 ∷ q ∷ r ∷ s ∷ []) one y second refl (λ e. ap (λ z. 0 ∷ z ∷ r ∷ s ∷ []) (sym e)) in
      let u = filled_more v d w (stores_of (q ∷ r ∷ s ∷ [])) 0 p (0 ∷ q ∷ r ∷ s ∷ []) (p ∷ q ∷ r ∷ s ∷ []) one z first refl (λ e. ap (λ y. y ∷ q ∷ r ∷ s ∷ []) (sym e)) in
      bodied_by v w (p ∷ q ∷ r ∷ s ∷ []) (stores_of (p ∷ q ∷ r ∷ s ∷ [])) one refl (sum_few (stores_of_word p) (stores_of_word q) (stores_of_word r) (stores_of_word s) (one_at_most p) (one_at_most q) (one_at_most r) (one_at_most s)) u

-- so a body is stored by those of its words that aren't 0
pub body_stored : (body : List ℕ) (v a b d w : View) → IsBody body → IsOnePass v → (hand v).next_body ≡ blank_body → Fills v 3 (slice_index body 3) a → Fills a 2 (slice_index body 2) b
    → Fills b 1 (slice_index body 1) d → Fills d 0 (slice_index body 0) w → Bodied body v w
body_stored body v a b d w whole one blank last third second first = subst (λ (z : List ℕ). Bodied z v w) (sym (four_words body whole))
    (four_filled (slice_index body 0) (slice_index body 1) (slice_index body 2) (slice_index body 3) v a b d w one blank last third second first)
