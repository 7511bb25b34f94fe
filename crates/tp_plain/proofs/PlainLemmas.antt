-- What the manager of one thread keeps.
use Rattle.std.proofs.Common.{◌≡◌, ℕ, ◌+◌, ◌<◌, ◌≤◌, ◌==◌, Bool, true, false, cond, Option, Some, None, Ok, List, [], ◌∷◌, ◌++◌, map, length, take, drop, slice_index_or, slice_set, refl, sym, ◌∙◌, ap, subst, arith}
use Rattle.std.specs.List.{find, Contains}
use Rattle.std.proofs.lemmas.List.Elements.{Contains-append_right}
use Rattle.std.proofs.lemmas.List.{map-append, get_or_default}
use Rattle.std.proofs.lemmas.List.Edits.{map_over_more}
use Rattle.std.specs.Option.{option_map}
use Rattle.tp_model.specs.declared.types.Element.{Element}
use Rattle.tp_model.specs.declared.types.Limits.{Limits}
use Rattle.tp_model.specs.declared.types.Look.{Look}
use Rattle.tp_model.specs.declared.event.Event.{Event}
use Rattle.tp_model.specs.declared.types.Status.TheVariants.{Waiting}
use Rattle.tp_plain.specs.declared.pass_state.PassState.{PassState}
use Rattle.tp_model.specs.declared.event.Event.TheVariants.{Enqueue}
use Rattle.tp_model.specs.History.{births, born, element_of, status_after, status_of}
use Rattle.tp_model.specs.Steps.{IsServerStage, IsBody, Step, IsLegal}
use Rattle.tp_plain.specs.Looks.{look_at, look_after, fresh_look}
use Rattle.tp_plain.specs.Computed.{submit_of}
use Rattle.tp_plain.proofs.Computations.{submit_goes}
use Rattle.tp_model.specs.Births.{request}
use Rattle.tp_plain.specs.OneThread.{State, PlainSubmits, HasPlainRoom, ready, used_up, with_draw}
use Rattle.tp_plain.specs.Reached.{IsReachable}
use Rattle.tp_model.proofs.Histories.{status_of-snoc, born-snoc, new_found, unborn_waits, unborn_after}
use Rattle.tp_model.proofs.Bridges.{element_of-id, in_one}
use Rattle.tp_plain.proofs.PassStates.{may_submit, fits_ready, fits_submit, reached_used}

pub find-passes : {A : Type 0} (p : A → Bool) (xs : List A) (x : A) → find p xs ≡ Some x → p x ≡ true
find-passes p [] x e = absurd cc
find-passes {A} p (y ∷ xs) x e = go (find-passes p xs x) (p y) refl e
  where
    go : (find p xs ≡ Some x → p x ≡ true) → (b : Bool) → p y ≡ b → cond b (Some y) (find p xs) ≡ Some x → p x ≡ true
    go later true is e = let same : y ≡ x = cc in ap p (sym same) ∙ is
    go later false is e = later e

pub find-looks : (limit : ℕ) (h : List Event) (i : ℕ) (xs : List Element)
    → find (λ (l : Look). l.element.id == i) (map (look_at limit h) xs) ≡ option_map (look_at limit h) (find (λ (e : Element). e.id == i) xs)
find-looks limit h i [] = refl
find-looks limit h i (x ∷ xs) = rw (find-looks limit h i xs) (go (x.id == i))
  where
    go : (b : Bool) → cond b (Some (look_at limit h x)) (option_map (look_at limit h) (find (λ (e : Element). e.id == i) xs)) ≡ option_map (look_at limit h) (cond b (Some x) (find (λ (e : Element). e.id == i) xs))
    go true = refl
    go false = refl

module _ (limit : ℕ) (h : List Event) (looks : List Look) (agree : looks ≡ map (look_at limit h) (born h)) (i : ℕ) where
  found : find (λ (l : Look). l.element.id == i) looks ≡ option_map (look_at limit h) (element_of h i)
  found = rw agree (find-looks limit h i (born h))

  pub shown : (look : Look) → find (λ (l : Look). l.element.id == i) looks ≡ Some look → (element_of h i ≡ Some look.element) × (look.status ≡ status_of limit h i)
  shown look is = go (element_of h i) refl
    where
      go : (o : Option Element) → element_of h i ≡ o → (element_of h i ≡ Some look.element) × (look.status ≡ status_of limit h i)
      go None none = absurd (let clash : None ≡ Some look = sym (found ∙ ap (option_map (look_at limit h)) none) ∙ is in cc)
      go (Some e) some =
          let same : look_at limit h e ≡ look = let s : Some (look_at limit h e) ≡ Some look = sym (found ∙ ap (option_map (look_at limit h)) some) ∙ is in cc in
          (some ∙ ap (λ (l : Look). Some l.element) same, ap (λ (l : Look). l.status) (sym same) ∙ ap (status_of limit h) (element_of-id h i e some))

  pub missing : find (λ (l : Look). l.element.id == i) looks ≡ None → element_of h i ≡ None
  missing is = go (element_of h i) refl
    where
      go : (o : Option Element) → element_of h i ≡ o → element_of h i ≡ None
      go None none = none
      go (Some e) some = absurd (let clash : Some (look_at limit h e) ≡ None = sym (found ∙ ap (option_map (look_at limit h)) some) ∙ is in cc)

looks_old : (limit : ℕ) (h : List Event) (e : Event) (xs : List Element) → map (look_at limit (h ++ e ∷ [])) xs ≡ map (look_after limit e) (map (look_at limit h) xs)
looks_old limit h e [] = refl
looks_old limit h e (x ∷ xs) = λ i. record { element = x; status = status_of-snoc limit h e x.id i } ∷ looks_old limit h e xs i

looks_new : (l : Limits) (h : List Event) (e : Event) → IsLegal l h → Step l h e → (xs : List Element) → ((x : Element) → Contains xs x → Contains (births e) x)
    → map (look_at l.attempts (h ++ e ∷ [])) xs ≡ map fresh_look xs
looks_new l h e legal step [] part = refl
looks_new l h e legal step (x ∷ xs) part =
    let there : Contains (births e) x = part x (0, omega arith, refl) in
    let unborn : element_of h x.id ≡ None = (new_found l h e step x there).0 in
    let waits : status_of l.attempts (h ++ e ∷ []) x.id ≡ Waiting 0 =
    status_of-snoc l.attempts h e x.id ∙ (ap (λ s. status_after l.attempts x.id s e) (unborn_waits l h legal x.id unborn) ∙ unborn_after l h e step x.id unborn) in
    let rest = looks_new l h e legal step xs (λ y in_xs. part y (Contains-append_right (x ∷ []) xs y in_xs)) in
    λ i. record { element = x; status = waits i } ∷ rest i

pub looks_after : (l : Limits) (h : List Event) (e : Event) → IsLegal l h → Step l h e
    → map (look_at l.attempts (h ++ e ∷ [])) (born (h ++ e ∷ [])) ≡ map (look_after l.attempts e) (map (look_at l.attempts h) (born h)) ++ map fresh_look (births e)
looks_after l h e legal step =
    ap (map (look_at l.attempts (h ++ e ∷ []))) (born-snoc h e)
    ∙ (map-append (look_at l.attempts (h ++ e ∷ [])) (born h) (births e)
    ∙ (λ i. looks_old l.attempts h e (born h) i ++ looks_new l h e legal step (births e) (λ x there. there) i))

looks_kept : (limit c : ℕ) (e : Element) (ls : List Look) → map (look_after limit (Enqueue c e)) ls ≡ ls
looks_kept limit c e [] = refl
looks_kept limit c e (x ∷ ls) = λ i. x ∷ looks_kept limit c e ls i

-- the looks after a submit
pub looks_submit : (l : Limits) (h : List Event) (c : ℕ) (e : Element) (looks : List Look) → IsLegal l h → Step l h (Enqueue c e) → looks ≡ map (look_at l.attempts h) (born h)
    → looks ++ fresh_look e ∷ [] ≡ map (look_at l.attempts (h ++ Enqueue c e ∷ [])) (born (h ++ Enqueue c e ∷ []))
looks_submit l h c e looks legal step agree =
    sym (looks_after l h (Enqueue c e) legal step ∙ (λ i. (looks_kept l.attempts c e (map (look_at l.attempts h) (born h)) ∙ sym agree) i ++ fresh_look e ∷ []))

-- what a submit leaves, and that it is one
module _ (s : State) (looks : List Look) (c stage : ℕ) (body : List ℕ) (reached : IsReachable s) (agree : looks ≡ map (look_at s.limits.attempts s.history) (born s.history))
    (is_pass : c < s.limits.parts) (good : IsServerStage stage) (whole : IsBody body) where
  abbrev pub new_request : PassState → Element
  new_request x = request x.next stage body

  abbrev pub left_state : PassState → ℕ → State
  left_state x drawn = record { limits = s.limits; history = s.history ++ Enqueue c (new_request x) ∷ []; passes = slice_set s.passes c (used_up x 1); drawn = drawn }

  abbrev pub Left : PassState → ℕ → Type 0
  Left x drawn =
      let t = left_state x drawn in
      IsReachable t × (looks ++ fresh_look (new_request x) ∷ [] ≡ map (look_at s.limits.attempts t.history) (born t.history))
      × PlainSubmits s c stage body x.next t
      × (submit_of s c stage body ≡ (Ok x.next, t))

  left_by : HasPlainRoom s c 1 → Left (ready s c 1) (with_draw s c 1).drawn
  left_by room =
      let x = ready s c 1 in
      let step = may_submit s c stage body reached is_pass good whole room in
      let old = fits_ready s c 1 reached is_pass in
      let fits = fits_submit s.limits s.history (with_draw s c 1).drawn c (new_request x) x old room refl in (
        reached_used s c 1 reached is_pass (Enqueue c (new_request x)) (used_up x 1) step refl fits (omega arith)
            (λ y p. let same = ap (λ (z : Element). z.id) (in_one p) in (omega arith, omega arith)),
        looks_submit s.limits s.history c (new_request x) looks reached.legal step agree,
        record { room = room; next = refl; step = step; after = refl },
        submit_goes s c stage body good room,
      )

  pub submit_leaves : (used : PassState) (drawn : ℕ) → used ≡ ready s c 1 → drawn ≡ (with_draw s c 1).drawn → 1 ≤ used.left → Left used drawn
  submit_leaves used drawn at count room =
      subst (λ d. Left used d) (sym count) (subst (λ (x : PassState). 1 ≤ x.left → Left x (with_draw s c 1).drawn) (sym at) left_by room)

-- one more element is changed
pub map_step : {A : Type 0} (f : A → A) (xs ys : List A) (i : ℕ) (d : A) → i < length xs → length ys ≡ length xs → ys ≡ map f (take i xs) ++ drop i xs
    → slice_set ys i (f (slice_index_or ys i d)) ≡ map f (take (i + 1) xs) ++ drop (i + 1) xs
map_step f xs ys i d less same is =
    map_over_more f xs ys i (slice_index_or ys i d) less is (get_or_default ys i d (slice_index_or ys i d) (rw same less))
