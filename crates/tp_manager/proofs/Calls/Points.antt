-- The steps of one part of a call after those of another.
use Rattle.std.proofs.Common.{◌≡◌, Bool, true, false, cond, List, [], ◌∷◌, ◌++◌, length, drop, refl, sym, ap, ◌∙◌}
use mathlib.Core.List.{IsPrefix}
use Rattle.tp_model.specs.declared.event.Event.{Event}
use Rattle.tp_model.specs.declared.trace.TraceEntry.{TraceEntry}
use Rattle.tp_model.specs.History.{In, here, there}
use Rattle.tp_model.specs.Passes.{HasLook, looks, opening_of}
use Rattle.tp_model.proofs.Bridges.{begins_refl, begins_trans, in_left}

-- a step looks or not
looks_cases : (b : Bool) (P : (List Event → List Event → List Event) → Type 0) → (b ≡ true → P (λ seen later. seen)) → (b ≡ false → P (λ seen later. later)) → P (λ seen later. cond b seen later)
looks_cases true P looking other = looking refl
looks_cases false P looking other = other refl

true_false : {b : Bool} → b ≡ true → b ≡ false → ⊥
true_false p q = let e : true ≡ false = sym p ∙ q in absurd cc

abbrev F : Type 0
F = List Event → List Event → List Event

pub opening_one : (s : List Event) (m : TraceEntry) → looks m.kind ≡ true → opening_of s (m ∷ []) ≡ m.seen
opening_one s m is = looks_cases (looks m.kind) (λ (f : F). f m.seen s ≡ m.seen) (λ _. refl) (λ not. absurd (true_false is not))

opening_mono : (s t : List Event) (ns : List TraceEntry) → IsPrefix s t → IsPrefix (opening_of s ns) (opening_of t ns)
opening_mono s t [] b = b
opening_mono s t (m ∷ ms) b = looks_cases (looks m.kind) (λ (f : F). IsPrefix (f m.seen (opening_of s ms)) (f m.seen (opening_of t ms))) (λ _. begins_refl m.seen) (λ _. opening_mono s t ms b)

pub opening_later : (s w : List Event) (ms ns : List TraceEntry) → IsPrefix (opening_of s ms) w → IsPrefix w (opening_of w ns) → IsPrefix (opening_of s (ms ++ ns)) (opening_of w ns)
opening_later s w [] ns b c = opening_mono s w ns b
opening_later s w (m ∷ ms) ns b c = looks_cases (looks m.kind) (λ (f : F). IsPrefix (f m.seen (opening_of s ms)) w → IsPrefix (f m.seen (opening_of s (ms ++ ns))) (opening_of w ns))
    (λ _ x. begins_trans m.seen w (opening_of w ns) x c) (λ _ x. opening_later s w ms ns x c) b

pub opening_kept : (s : List Event) (ms ns : List TraceEntry) (m : TraceEntry) → In m ms → looks m.kind ≡ true → opening_of s (ms ++ ns) ≡ opening_of s ms
opening_kept s [] ns m p e = elim p [ ]
opening_kept s (x ∷ ms) ns m here e = looks_cases (looks x.kind) (λ (f : F). f x.seen (opening_of s (ms ++ ns)) ≡ f x.seen (opening_of s ms)) (λ _. refl) (λ not. absurd (true_false e not))
opening_kept s (x ∷ ms) ns m (there p) e = ap (λ z. cond (looks x.kind) x.seen z) (opening_kept s ms ns m p e)

opens_on : (s w : List Event) (ns : List TraceEntry) → IsPrefix s w → IsPrefix w (opening_of w ns) → IsPrefix s (opening_of s ns)
opens_on s w [] b c = begins_refl s
opens_on s w (m ∷ ms) b c = looks_cases (looks m.kind) (λ (f : F). IsPrefix w (f m.seen (opening_of w ms)) → IsPrefix s (f m.seen (opening_of s ms)))
    (λ _ x. begins_trans s w m.seen b x) (λ _ x. opens_on s w ms b x) c

pub opens_later : (s w : List Event) (ms ns : List TraceEntry) → IsPrefix s (opening_of s ms) → IsPrefix (opening_of s ms) w → IsPrefix w (opening_of w ns) → IsPrefix s (opening_of s (ms ++ ns))
opens_later s w [] ns o b c = opens_on s w ns b c
opens_later s w (m ∷ ms) ns o b c = looks_cases (looks m.kind) (λ (f : F). IsPrefix s (f m.seen (opening_of s ms)) → IsPrefix (f m.seen (opening_of s ms)) w → IsPrefix s (f m.seen (opening_of s (ms ++ ns))))
    (λ _ x y. x) (λ _ x y. opens_later s w ms ns x y c) o b

pub has_more : (ms ns : List TraceEntry) → HasLook ms → HasLook (ms ++ ns)
has_more ms ns h = (h.0, in_left ns h.1, h.2)

pub drop_steps : (old marks : List TraceEntry) → drop (length old) (old ++ marks) ≡ marks
drop_steps [] marks = refl
drop_steps (x ∷ old) marks = drop_steps old marks

-- where a step looks, the opening doesn't hang on what was seen before
pub opening_any : (s t : List Event) (ms : List TraceEntry) → HasLook ms → opening_of s ms ≡ opening_of t ms
opening_any s t [] h = elim h.1 [ ]
opening_any s t (x ∷ ms) h = looks_cases (looks x.kind) (λ (f : F). f x.seen (opening_of s ms) ≡ f x.seen (opening_of t ms)) (λ _. refl) (λ not. opening_any s t ms (later h.0 h.1 h.2 not))
  where
    later : (m : TraceEntry) → In m (x ∷ ms) → looks m.kind ≡ true → looks x.kind ≡ false → HasLook ms
    later m here is not = absurd (true_false is not)
    later m (there p) is not = (m, p, is)
