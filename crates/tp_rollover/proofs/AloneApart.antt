-- Where nobody else acts, a call adds its own events and nothing else.
use Rattle.std.proofs.Common.{◌≡◌, ◌≢◌, ◌⊎◌, ℕ, suc, ◌+◌, ◌<◌, ◌≤◌, ◌==◌, cond, List, [], ◌∷◌, ◌++◌, length, refl, sym, ◌∙◌, ap, subst, inl, inr, ⊎_elim, append_assoc, arith}
use Rattle.std.proofs.lemmas.Bool.{eq-eqb, ne_eqb}
use Rattle.std.proofs.lemmas.Bool.Decides.{eqb_tells, leb_tells}
use Rattle.std.proofs.lemmas.List.{append_cancel_left}
use Rattle.std.proofs.lemmas.List.Elements.{filter-append}
use Rattle.std.specs.List.{AllZip}
use mathlib.Core.List.{IsPrefix}
use Rattle.tp_model.specs.declared.types.Limits.{Limits}
use Rattle.tp_model.specs.declared.event.Event.{Event}
use Rattle.tp_model.specs.History.{In, here, there, events_by, pass_of}
use Rattle.tp_model.proofs.Bridges.{begins_trans, in_cons, in_either, in_left, in_none, in_right}
use Rattle.tp_manager.specs.Accounts.{AreNumberedFrom}
use Rattle.tp_manager.specs.Shown.{KeeperShown, PassShown}
use Rattle.tp_rollover.specs.Thread.{Alone, HasSeen, Stays}

-- Two lists side by side.
module _ {A : Type 0} (R : A → A → Type 0) where
  pub zip_left : (xs ys : List A) (x : A) → AllZip R xs ys → In x xs → (y : A) × In y ys × R x y
  zip_left [] ys x zip p = absurd (in_none p)
  zip_left (a ∷ xs) [] x zip p = absurd zip
  zip_left (a ∷ xs) (b ∷ ys) x zip p = ⊎_elim
      (λ same. (b, here, subst (λ z. R z b) (sym same) zip.0))
      (λ q. let t = zip_left xs ys x zip.1 q in (t.0, there t.1, t.2)) (in_cons p)

  pub zip_right : (xs ys : List A) (y : A) → AllZip R xs ys → In y ys → (x : A) × In x xs × R x y
  zip_right [] [] y zip p = absurd (in_none p)
  zip_right [] (b ∷ ys) y zip p = absurd zip
  zip_right (a ∷ xs) [] y zip p = absurd zip
  zip_right (a ∷ xs) (b ∷ ys) y zip p = ⊎_elim
      (λ same. (a, here, subst (R a) (sym same) zip.0))
      (λ q. let t = zip_right xs ys y zip.1 q in (t.0, there t.1, t.2)) (in_cons p)

  pub zip_long : (xs ys : List A) → AllZip R xs ys → length ys ≡ length xs
  zip_long [] [] zip = refl
  zip_long [] (b ∷ ys) zip = absurd zip
  zip_long (a ∷ xs) [] zip = absurd zip
  zip_long (a ∷ xs) (b ∷ ys) zip = let e = zip_long xs ys zip.1 in omega arith

-- Numbers of passes.

-- there is one with each number
pub numbered : (a c : ℕ) (ps : List PassShown) → AreNumberedFrom a ps → a ≤ c → c < a + length ps → (p : PassShown) × In p ps × (p.number ≡ c)
numbered a c [] from low high = absurd (omega arith)
numbered a c (p ∷ ps) from low high =
    elim (eqb_tells a c) [
      | inl q ↦ (p, here, from.0 ∙ q.1)
      | inr q ↦ let not : a ≢ c = q.1 in let t = numbered (a + 1) c ps from.1 (omega arith) (omega arith) in (t.0, there t.1, t.2)
    ]

-- each has one of these
pub number_in : (a : ℕ) (ps : List PassShown) (p : PassShown) → AreNumberedFrom a ps → In p ps → (a ≤ p.number) × (p.number < a + length ps)
number_in a [] p from q = absurd (in_none q)
number_in a (x ∷ ps) p from q = ⊎_elim
    (λ same. let at : p.number ≡ a = ap (λ (z : PassShown). z.number) same ∙ from.0 in (omega arith, omega arith))
    (λ later. let t = number_in (a + 1) ps p from.1 later in let low = t.0 in let high = t.1 in (omega arith, omega arith)) (in_cons q)

pub from_parts : (a : ℕ) (ps : List PassShown) (p : PassShown) (qs : List PassShown) → AreNumberedFrom a (ps ++ p ∷ qs) → AreNumberedFrom a ps × (p.number ≡ a + length ps) × AreNumberedFrom (a + length ps + 1) qs
from_parts a [] p qs from = (tt, from.0 ∙ (omega arith), subst (λ z. AreNumberedFrom z qs) (omega arith) from.1)
from_parts a (x ∷ ps) p qs from =
    let t = from_parts (a + 1) ps p qs from.1 in
    let at = t.1 in
    ((from.0, t.0), omega arith, subst (λ z. AreNumberedFrom z qs) (omega arith) t.2)

-- Events.

nil_left : {A : Type 0} (xs ys : List A) → xs ++ ys ≡ [] → xs ≡ []
nil_left [] ys e = refl
nil_left (x ∷ xs) ys e = absurd cc

-- events of pass c alone are all its own
pub only_own : (c : ℕ) (g : List Event) → ((d : ℕ) → d ≢ c → events_by d g ≡ []) → events_by c g ≡ g
only_own c [] none = refl
only_own c (e ∷ g) none =
    elim (eqb_tells (pass_of e) c) [
      | inl p ↦
          ap (λ b. cond b (e ∷ events_by c g) (events_by c g)) (eq-eqb (pass_of e) c p.1)
          ∙ ap (λ l. e ∷ l) (only_own c g (λ d other. sym (ap (λ b. cond b (e ∷ events_by d g) (events_by d g)) (ne_eqb (pass_of e) d (λ same. other (sym same ∙ p.1)))) ∙ none d other))
      | inr p ↦
          let clash : e ∷ events_by (pass_of e) g ≡ [] = sym (ap (λ b. cond b (e ∷ events_by (pass_of e) g) (events_by (pass_of e) g)) (eq-eqb (pass_of e) (pass_of e) refl)) ∙ none (pass_of e) p.1 in
          absurd cc
    ]

module _ (l : Limits) (keeper keeper' : KeeperShown) (olds news : List PassShown) (h h' : List Event) (n c : ℕ) (old new : PassShown) (a : Alone l keeper keeper' olds news h h' n c old new) where
  abbrev pub mids : List PassShown
  mids = a.front ++ new ∷ a.back

  pub old_in : In old olds
  old_in = subst (In old) (sym a.olds_are) (in_right a.front here)

  pub new_in : In new mids
  new_in = in_right a.front here

  pub old_seen : HasSeen l h old
  old_seen = a.before.each old old_in

  pub froms : AreNumberedFrom 0 a.front × (old.number ≡ 0 + length a.front) × AreNumberedFrom (0 + length a.front + 1) a.back
  froms = from_parts 0 a.front old a.back (subst (AreNumberedFrom 0) a.olds_are a.before.all.1)

  pub number_is : old.number ≡ c
  number_is = let at = froms.1 in let len = a.place in omega arith

  pub mids_long : length mids ≡ length olds
  mids_long = sym (ap length a.olds_are ∙ longs a.front old new a.back)
    where
      longs : (xs : List PassShown) (x y : PassShown) (ys : List PassShown) → length (xs ++ x ∷ ys) ≡ length (xs ++ y ∷ ys)
      longs [] x y ys = refl
      longs (z ∷ xs) x y ys = ap suc (longs xs x y ys)

  pub news_long : length news ≡ length olds
  news_long = zip_long Stays mids news a.others ∙ mids_long

  -- each of the passes is the one that called, or one of the others
  pub mid_is : (p : PassShown) → In p mids → (p ≡ new) ⊎ (In p olds × (p.number ≢ c))
  mid_is p q = ⊎_elim
      (λ left. inr (subst (In p) (sym a.olds_are) (in_left (old ∷ a.back) left), (let t = number_in 0 a.front p froms.0 left in let high = t.1 in let at = a.place in λ same. omega arith)))
      (λ right. ⊎_elim (λ same. inl same)
      (λ later. inr (subst (In p) (sym a.olds_are) (in_right a.front (there later)), (let t = number_in (0 + length a.front + 1) a.back p froms.2 later in let low = t.0 in let at = a.place in λ same. omega arith)))
      (in_cons right))
      (in_either a.front (new ∷ a.back) q)

  pub old_is : (p : PassShown) → In p olds → (p ≡ old) ⊎ (In p mids × (p.number ≢ c))
  old_is p q = ⊎_elim
      (λ left. inr (in_left (new ∷ a.back) left, (let t = number_in 0 a.front p froms.0 left in let high = t.1 in let at = a.place in λ same. omega arith)))
      (λ right. ⊎_elim (λ same. inl same)
      (λ later. inr (in_right a.front (there later), (let t = number_in (0 + length a.front + 1) a.back p froms.2 later in let low = t.0 in let at = a.place in λ same. omega arith)))
      (in_cons right))
      (in_either a.front (old ∷ a.back) (subst (In p) a.olds_are q))

  -- the pass that called, as it is in the end
  pub called : (q : PassShown) × In q news × Stays new q
  called = zip_left Stays mids news new a.others new_in

  pub end_number : called.0.number ≡ c
  end_number = called.2.number ∙ (a.follows.number ∙ number_is)

  -- what is after h
  pub since : IsPrefix h new.seen
  since = subst (λ z. IsPrefix z new.seen) old_seen.seen (begins_trans old.seen _ new.seen a.follows.opened a.follows.closed)

  pub until : IsPrefix new.seen h'
  until = subst (IsPrefix new.seen) (a.after.each called.0 called.1).seen called.2.sees

  abbrev pub added : List Event
  added = since.0 ++ until.0

  pub grown : h ++ added ≡ h'
  grown = sym (append_assoc h since.0 until.0) ∙ (ap (λ z. z ++ until.0) since.1 ∙ until.1)

  -- another pass has no event there
  pub other_events : (d : ℕ) → d ≢ c → events_by d h' ≡ events_by d h
  other_events d other =
      elim (leb_tells keeper'.given d) [
        | inl p ↦ a.after.others d p.1 ∙ sym (a.before.others d (let low : keeper'.given ≤ d = p.1 in let x = a.before.all.0 in let y = a.after.all.0 in let z = news_long in omega arith))
        | inr p ↦
            let t = numbered 0 d news a.after.all.1 (omega arith) (let high : d < keeper'.given = p.1 in let y = a.after.all.0 in omega arith) in
            let m = zip_right Stays mids news t.0 a.others t.1 in
            let at : m.0.number ≡ d = sym m.2.number ∙ t.2 in
            ⊎_elim
            (λ same. absurd (other (sym at ∙ (ap (λ (z : PassShown). z.number) same ∙ (a.follows.number ∙ number_is)))))
            (λ q.
            let was = a.before.each m.0 q.0 in
            let is = a.after.each t.0 t.1 in
            let e : events_by t.0.number t.0.seen ≡ events_by m.0.number m.0.seen = sym is.shows.own ∙ (m.2.quiet.mine ∙ was.shows.own) in
            let x : events_by d h' ≡ events_by t.0.number t.0.seen = ap (λ z. events_by z h') (sym t.2) ∙ ap (events_by t.0.number) (sym is.seen) in
            let y : events_by m.0.number m.0.seen ≡ events_by d h = ap (events_by m.0.number) was.seen ∙ ap (λ z. events_by z h) at in
            x ∙ (e ∙ y))
            (mid_is m.0 m.1)
      ]

  none_added : (d : ℕ) → d ≢ c → events_by d added ≡ []
  none_added d other =
      append_cancel_left (events_by d h) (events_by d added) [] (
      sym (filter-append (λ e. pass_of e == d) h added) ∙ (ap (events_by d) grown ∙ (other_events d other ∙ sym (nil_right (events_by d h)))))
    where
      nil_right : (xs : List Event) → xs ++ [] ≡ xs
      nil_right [] = refl
      nil_right (x ∷ xs) = ap (λ z. x ∷ z) (nil_right xs)

  none_since : (d : ℕ) → d ≢ c → events_by d since.0 ≡ []
  none_since d other = nil_left (events_by d since.0) (events_by d until.0) (sym (filter-append (λ e. pass_of e == d) since.0 until.0) ∙ none_added d other)

  -- its own events were these before
  mine_was : old.mine ≡ events_by c h
  mine_was = old_seen.shows.own ∙ (ap (λ z. events_by z old.seen) number_is ∙ ap (events_by c) old_seen.seen)

  module _ (es : List Event) (made : new.mine ≡ old.mine ++ es) where
    mine_since : events_by c since.0 ≡ es
    mine_since = append_cancel_left (events_by c h) (events_by c since.0) es (
        sym (filter-append (λ e. pass_of e == c) h since.0) ∙ (ap (events_by c) since.1
        ∙ (sym (a.follows.shows.own ∙ ap (λ z. events_by z new.seen) (a.follows.number ∙ number_is)) ∙ (made ∙ ap (λ z. z ++ es) mine_was))))

    mine_added : events_by c added ≡ es
    mine_added =
        let q = a.after.each called.0 called.1 in
        let end : events_by c h' ≡ called.0.mine = ap (events_by c) (sym q.seen) ∙ (ap (λ z. events_by z called.0.seen) (sym end_number) ∙ sym q.shows.own) in
        append_cancel_left (events_by c h) (events_by c added) es (
        sym (filter-append (λ e. pass_of e == c) h added) ∙ (ap (events_by c) grown
        ∙ (end ∙ (called.2.quiet.mine ∙ (made ∙ ap (λ z. z ++ es) mine_was)))))

    -- the call's own events are all that it has seen after h
    pub seen_is : new.seen ≡ h ++ es
    seen_is = sym since.1 ∙ ap (λ z. h ++ z) (sym (only_own c since.0 none_since) ∙ mine_since)

    -- and all that there is in the end
    pub end_is : h' ≡ h ++ es
    end_is = sym grown ∙ ap (λ z. h ++ z) (sym (only_own c added none_added) ∙ mine_added)
