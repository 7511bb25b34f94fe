-- Nothing has happened where no pass has made an event.
use Rattle.std.proofs.Common.{◌≡◌, ◌≢◌, ℕ, suc, zero, ◌+◌, ◌-◌, ◌<◌, ◌≤◌, ◌==◌, List, [], ◌∷◌, ◌++◌, cond, length, sym, refl, ap, ◌∙◌, subst, arith, append_assoc, length-append, ne_eqb, ⊎_elim}
use Rattle.std.proofs.lemmas.List.Elements.{filter-append}
use mathlib.Core.List.{IsPrefix}
use mathlib.Core.Logic.{dite}
use native.Mathlib.Decide.{ℕ_discrete}
use Rattle.tp_model.specs.declared.types.Limits.{Limits}
use Rattle.tp_model.specs.declared.event.Event.{Event}
use Rattle.tp_model.specs.declared.event.Event.TheVariants.{Enqueue, Claim, Commit, Abort, Kill, Requeue}
use Rattle.tp_model.specs.History.{In, here, there, events_by, pass_of}
use Rattle.tp_model.specs.Steps.{IsLegal, Step}
use Rattle.tp_model.proofs.Bridges.{by_own, append_nil}
use Rattle.tp_model.proofs.Histories.{legal_at, legal_start}
use Rattle.tp_model.proofs.Later.{claims_inside}
use Rattle.tp_rule.specs.Steps.{rest_of}
use Rattle.tp_rule.specs.Views.{first_hand, fresh, fresh_from}
use Rattle.tp_rule.specs.declared.view.Hand.{Hand}
use Rattle.tp_manager.specs.BetweenCalls.{untraced}

-- each event is by a pass of the table
by_pass : (l : Limits) (h : List Event) (e : Event) → IsLegal l h → Step l h e → pass_of e < l.parts
by_pass l h (Enqueue c x) legal s = ⊎_elim (λ row. row.0) (λ spare. spare.0) s.row
by_pass l h (Claim c u i n) legal s = s.unit.0
by_pass l h (Commit c u outs) legal s = subst (λ n. n < l.parts) s.own (claims_inside l h legal u s.taking s.open_unit.claimed).0
by_pass l h (Abort c u) legal s = s.pass
by_pass l h (Kill c i) legal s = s.pass
by_pass l h (Requeue c i k) legal s = s.pass

by_more : (c : ℕ) (h m : List Event) → length (events_by c h) ≤ length (events_by c (h ++ m))
by_more c h m = let e = ap length (filter-append (λ e. pass_of e == c) h m) in let k = length-append (events_by c h) (events_by c m) in omega arith

-- nothing comes after a history, where no pass of the table has more events after it
pub still : (l : Limits) (h m : List Event) → IsLegal l (h ++ m) → ((c : ℕ) → c < l.parts → events_by c (h ++ m) ≡ events_by c h) → m ≡ []
still l h [] legal same = refl
still l h (e ∷ m) legal same =
    let step = legal_at l h e m legal in
    let c : ℕ = pass_of e in
    let below = by_pass l h e (legal_start l h (e ∷ m) legal) step in
    let one : length (events_by c (h ++ e ∷ [])) ≡ length (events_by c h) + 1 = ap length (by_own c h e refl) ∙ length-append (events_by c h) (e ∷ []) in
    let more : length (events_by c (h ++ e ∷ [])) ≤ length (events_by c ((h ++ e ∷ []) ++ m)) = by_more c (h ++ e ∷ []) m in
    let whole : length (events_by c ((h ++ e ∷ []) ++ m)) ≡ length (events_by c h) = ap (λ z. length (events_by c z)) (append_assoc h (e ∷ []) m) ∙ ap length (same c below) in
    absurd (omega arith)

-- and so two histories are the same, where one begins the other
pub same_events : (l : Limits) (h g : List Event) → IsLegal l g → IsPrefix h g → ((c : ℕ) → c < l.parts → events_by c g ≡ events_by c h) → g ≡ h
same_events l h g legal begins same =
    let none : begins.0 ≡ [] = still l h begins.0 (subst (IsLegal l) (sym begins.1) legal) (λ c below. ap (events_by c) begins.1 ∙ same c below) in
    sym begins.1 ∙ (ap (λ z. h ++ z) none ∙ append_nil h)

-- no event is by a pass beyond those of the table
pub none_beyond : (l : Limits) (c : ℕ) → l.parts ≤ c → (h m : List Event) → IsLegal l (h ++ m) → events_by c m ≡ []
none_beyond l c out h [] legal = refl
none_beyond l c out h (e ∷ m) legal =
    let below = by_pass l h e (legal_start l h (e ∷ m) legal) (legal_at l h e m legal) in
    let other : pass_of e ≢ c = λ is. omega arith in
    ap (λ b. cond b (e ∷ events_by c m) (events_by c m)) (ne_eqb (pass_of e) c other) ∙ none_beyond l c out (h ++ e ∷ []) m (subst (IsLegal l) (sym (append_assoc h (e ∷ []) m)) legal)

-- each of this many passes that have done nothing but look is among them
fresh_in : (l : Limits) (a n c : ℕ) (hs : List Hand) → untraced hs ≡ fresh_from l a n → a ≤ c → c < a + n → (x : Hand) × In x hs × (x.number ≡ c) × (x.mine ≡ [])
fresh_in l a zero c hs is low high = absurd (omega arith)
fresh_in l a (suc n) c [] is low high = absurd cc
fresh_in l a (suc n) c (x ∷ hs) is low high =
    dite (ℕ_discrete a c)
    (λ same. (x, here, number x hs is ∙ same, mine x hs is))
    (λ other. let t = fresh_in l (a + 1) n c hs (rest x hs is) (omega arith) (omega arith) in (t.0, there t.1, t.2, t.3))
  where
    number : (x : Hand) (hs : List Hand) → untraced (x ∷ hs) ≡ fresh l a ∷ fresh_from l (a + 1) n → x.number ≡ a
    number x hs e = ap (λ zs. (first_hand zs).number) e

    mine : (x : Hand) (hs : List Hand) → untraced (x ∷ hs) ≡ fresh l a ∷ fresh_from l (a + 1) n → x.mine ≡ []
    mine x hs e = ap (λ zs. (first_hand zs).mine) e

    rest : (x : Hand) (hs : List Hand) → untraced (x ∷ hs) ≡ fresh l a ∷ fresh_from l (a + 1) n → untraced hs ≡ fresh_from l (a + 1) n
    rest x hs e = ap rest_of e

-- none of them has an event in what they have seen
pub none_of_fresh : (l : Limits) (given : ℕ) (h : List Event) (hs : List Hand) → given ≤ l.parts → untraced hs ≡ fresh_from l given (l.parts - given) → ((a : Hand) → In a hs → a.mine ≡ events_by a.number h) → (c : ℕ) → given ≤ c → c < l.parts → events_by c h ≡ []
none_of_fresh l given h hs below is mine c low high = let t = fresh_in l given (l.parts - given) c hs is low (omega arith) in
    ap (λ n. events_by n h) (sym t.2) ∙ (sym (mine t.0 t.1) ∙ t.3)
