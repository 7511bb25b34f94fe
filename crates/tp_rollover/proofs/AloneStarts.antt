-- Where nothing was done yet.
use Rattle.std.proofs.Common.{◌≡◌, ℕ, zero, suc, ◌+◌, ◌-◌, ◌*◌, ◌<◌, ◌≤◌, cond, List, [], ◌∷◌, ◌++◌, length, map, replicate, slice_index, refl, sym, ◌∙◌, ap, subst, inl, inr, arith}
use Rattle.std.specs.List.{range_with_len}
use Rattle.std.proofs.lemmas.Bool.{eq-eqb}
use Rattle.std.proofs.lemmas.List.{ext_get_or, get_or-replicate}
use Rattle.std.proofs.lemmas.List.FromFn.{get_or-map-range_with_len, length-map-range_with_len}
use Rattle.std.proofs.lemmas.Bool.Decides.{leb_tells}
use Rattle.tp_model.specs.declared.types.Limits.{Limits}
use Rattle.tp_model.specs.declared.event.Event.{Event}
use Rattle.tp_model.specs.History.{In, events_by, here, pass_of, there}
use Rattle.tp_model.proofs.Bridges.{begins_trans, in_none}
use Rattle.tp_model.proofs.Histories.{legal_empty}
use Rattle.tp_plain.specs.declared.pass_state.PassState.{PassState}
use Rattle.tp_plain.specs.OneThread.{fresh_pass}
use Rattle.tp_manager.specs.Accounts.{AreNumberedFrom}
use Rattle.tp_manager.specs.Calls.{claims_in}
use Rattle.tp_manager.specs.Shown.{PassShown}
use Rattle.tp_rollover.specs.AloneLaws.{AloneNone, AloneStart, AttendsStays}
use Rattle.tp_rollover.specs.Thread.{AreDrawn, IsFresh, drawn_of, not_given, state_of, turns_in}
use Rattle.tp_rollover.proofs.AloneApart.{numbered}
use Rattle.tp_rollover.proofs.AloneThreads.{same_state}

pub attends_stays : AttendsStays
attends_stays n h old new attends = record {
  number = attends.follows.number;
  quiet = attends.quiet;
  sees = begins_trans old.seen _ new.seen attends.follows.opened attends.follows.closed;
  drawn = attends.follows.drawn;
  turn = attends.turn;
}

pub alone_none : AloneNone
alone_none l keeper none = record {
  legal = legal_empty l;
  all = (sym none, tt);
  each = λ p q. absurd (in_none q);
  others = λ c low. refl;
  drawn = record { seen = λ p q. absurd (in_none q); inside = λ p b q r. absurd (in_none q); owned = λ b less. absurd (omega arith); once = λ p q b r s t u. absurd (in_none r) };
}

-- a history in which nobody has an event
pub no_events : (h : List Event) → ((d : ℕ) → events_by d h ≡ []) → h ≡ []
no_events [] none = refl
no_events (e ∷ h) none =
    let clash : e ∷ events_by (pass_of e) h ≡ [] = sym (ap (λ b. cond b (e ∷ events_by (pass_of e) h) (events_by (pass_of e) h)) (eq-eqb (pass_of e) (pass_of e) refl)) ∙ none (pass_of e) in
    absurd cc

range_more : (a m n : ℕ) → range_with_len a (m + n) ≡ range_with_len a m ++ range_with_len (a + m) n
range_more a zero n =
    let e : 0 + n ≡ n = omega arith in
    let f : a ≡ a + 0 = omega arith in
    ap (range_with_len a) e ∙ ap (λ k. range_with_len k n) f
range_more a (suc m) n = ap (range_with_len a) (let e : suc m + n ≡ suc (m + n) = omega arith in e) ∙ ap (λ xs. a ∷ xs) (range_more (a + 1) m n ∙ ap (λ k. range_with_len (a + 1) m ++ range_with_len k n) (let e : (a + 1) + m ≡ a + suc m = omega arith in e))

-- no claim in turn was made
no_turns : (from : List ℕ) → ((stage : ℕ) → slice_index from stage ≡ 0) → turns_in from ≡ replicate 16 0
no_turns from none = ext_get_or 0 (turns_in from) (replicate 16 0) (length-map-range_with_len (slice_index from) 0 16)
    (λ i less. let in_it : i < 16 = subst (λ n. i < n) (length-map-range_with_len (slice_index from) 0 16) less in
    get_or-map-range_with_len (slice_index from) 0 16 i i 0 in_it (omega arith) ∙ (none i ∙ sym (get_or-replicate 16 i 0 0 in_it)))

module _ (l : Limits) where
  fresh_state : (p : PassShown) (c : ℕ) → IsFresh l p → p.number ≡ c → state_of p ≡ fresh_pass l.rows c
  fresh_state p c fresh at =
      let next : p.next ≡ c * l.rows = fresh.next ∙ ap (λ k. k * l.rows) at in
      let left = fresh.left in
      let claimed = ap claims_in fresh.mine in
      let open_unit = fresh.open_unit in
      let turns : turns_in p.from ≡ replicate 16 0 = no_turns p.from fresh.turn in
      cc

  fresh_states : (c : ℕ) (ps : List PassShown) → AreNumberedFrom c ps → ((p : PassShown) → In p ps → IsFresh l p) → map state_of ps ≡ map (fresh_pass l.rows) (range_with_len c (length ps))
  fresh_states c [] from all = refl
  fresh_states c (p ∷ ps) from all =
      let x = fresh_state p c (all p here) from.0 in
      let y = fresh_states (c + 1) ps from.1 (λ q r. all q (there r)) in
      cc

  nothing_drawn : (ps : List PassShown) → AreDrawn (drawn_of ps) ps → ((p : PassShown) → In p ps → IsFresh l p) → drawn_of ps ≡ 0
  nothing_drawn [] drawn all = refl
  nothing_drawn (p ∷ ps) drawn all =
      elim (leb_tells (drawn_of (p ∷ ps)) 0) [
        | inl q ↦ (let x = q.1 in omega arith)
        | inr q ↦ (let t = drawn.owned 0 (omega arith) in absurd (in_none (subst (In 0) (all t.0 t.1).blocks t.2)))
      ]

maps : (f : ℕ → PassState) (xs ys : List ℕ) → map f (xs ++ ys) ≡ map f xs ++ map f ys
maps f [] ys = refl
maps f (x ∷ xs) ys = ap (λ z. f x ∷ z) (maps f xs ys)

pub alone_start : AloneStart
alone_start l keeper passes h together fresh =
    let quiet : (d : ℕ) → events_by d h ≡ [] = λ d.
    (elim (leb_tells keeper.given d) [
      | inl p ↦ together.others d p.1
      | inr p ↦
          let t = numbered 0 d passes together.all.1 (omega arith) (let high : d < keeper.given = p.1 in let long = together.all.0 in omega arith) in
          let seen = together.each t.0 t.1 in
          sym (ap (λ c. events_by c h) t.2) ∙ (sym (ap (events_by t.0.number) seen.seen) ∙ (sym seen.shows.own ∙ (fresh t.0 t.1).mine))
    ]) in
    let few : length passes ≤ l.parts =
    elim (leb_tells (length passes) l.parts) [
      | inl p ↦ p.1
      | inr p ↦
          let t = numbered 0 l.parts passes together.all.1 (omega arith) (let high : l.parts < length passes = p.1 in omega arith) in
          let given = (together.each t.0 t.1).shows.given in
          let at = t.2 in
          absurd (omega arith)
    ] in
    let parts : length passes + (l.parts - length passes) ≡ l.parts = omega arith in
    let all : map state_of passes ++ not_given l (length passes) ≡ map (fresh_pass l.rows) (range_with_len 0 l.parts) =
    ap (λ xs. xs ++ not_given l (length passes)) (fresh_states l 0 passes together.all.1 fresh)
    ∙ (sym (maps (fresh_pass l.rows) (range_with_len 0 (length passes)) (range_with_len (length passes) (l.parts - length passes)))
    ∙ ap (map (fresh_pass l.rows)) (
    ap (λ k. range_with_len 0 (length passes) ++ range_with_len k (l.parts - length passes)) (let e : length passes ≡ 0 + length passes = omega arith in e)
    ∙ (sym (range_more 0 (length passes) (l.parts - length passes)) ∙ ap (range_with_len 0) parts))) in
    same_state l h [] _ _ (drawn_of passes) 0 (no_events h quiet) all (nothing_drawn l passes together.drawn fresh)
