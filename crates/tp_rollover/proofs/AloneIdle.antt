-- Looks alone change nothing.
use Rattle.std.proofs.Common.{◌≡◌, ℕ, ◌<◌, ◌≤◌, ◌==◌, List, [], ◌∷◌, ◌++◌, length, map, sym, ◌∙◌, ap, subst, inl, inr, arith}
use Rattle.std.proofs.lemmas.Bool.Decides.{leb_tells}
use Rattle.std.proofs.lemmas.List.{append_cancel_left}
use Rattle.std.proofs.lemmas.List.Elements.{filter-append}
use Rattle.std.specs.List.{AllZip}
use mathlib.Core.List.{IsPrefix}
use Rattle.tp_model.specs.declared.types.Limits.{Limits}
use Rattle.tp_model.specs.declared.event.Event.{Event}
use Rattle.tp_model.specs.History.{In, events_by, here, pass_of}
use Rattle.tp_model.proofs.Bridges.{append_nil}
use Rattle.tp_manager.specs.Shown.{KeeperShown, PassShown}
use Rattle.tp_rollover.specs.AloneLaws.{AloneIdle}
use Rattle.tp_rollover.specs.Thread.{AreTogether, Stays, drawn_of, not_given, state_of}
use Rattle.tp_rollover.proofs.AloneApart.{numbered, zip_left, zip_long, zip_right}
use Rattle.tp_rollover.proofs.AloneStarts.{no_events}
use Rattle.tp_rollover.proofs.AloneThreads.{same_passes, same_state}

module _ (l : Limits) (keeper keeper' : KeeperShown) (olds news : List PassShown) (h h' : List Event) (before : AreTogether l keeper olds h) (stay : AllZip Stays olds news) (after : AreTogether l keeper' news h') where
  long : length news ≡ length olds
  long = zip_long Stays olds news stay

  same_events : (d : ℕ) → events_by d h' ≡ events_by d h
  same_events d =
      elim (leb_tells keeper'.given d) [
        | inl p ↦ after.others d p.1 ∙ sym (before.others d (let low : keeper'.given ≤ d = p.1 in let x = before.all.0 in let y = after.all.0 in let z = long in omega arith))
        | inr p ↦
            let t = numbered 0 d news after.all.1 (omega arith) (let high : d < keeper'.given = p.1 in let y = after.all.0 in omega arith) in
            let m = zip_right Stays olds news t.0 stay t.1 in
            let at : m.0.number ≡ d = sym m.2.number ∙ t.2 in
            let was = before.each m.0 m.1 in
            let is = after.each t.0 t.1 in
            let e : events_by t.0.number t.0.seen ≡ events_by m.0.number m.0.seen = sym is.shows.own ∙ (m.2.quiet.mine ∙ was.shows.own) in
            let x : events_by d h' ≡ events_by t.0.number t.0.seen = ap (λ z. events_by z h') (sym t.2) ∙ ap (events_by t.0.number) (sym is.seen) in
            let y : events_by m.0.number m.0.seen ≡ events_by d h = ap (events_by m.0.number) was.seen ∙ ap (λ z. events_by z h) at in
            x ∙ (e ∙ y)
      ]

  -- a longer history without another event is the same
  grown : IsPrefix h h' → h' ≡ h
  grown begins =
      let none : (d : ℕ) → events_by d begins.0 ≡ [] = λ d.
      append_cancel_left (events_by d h) (events_by d begins.0) [] (sym (filter-append (λ e. pass_of e == d) h begins.0) ∙ (ap (events_by d) begins.1 ∙ (same_events d ∙ sym (append_nil (events_by d h))))) in
      sym begins.1 ∙ (ap (λ z. h ++ z) (no_events begins.0 none) ∙ append_nil h)

  owned_later : (b : ℕ) → b < drawn_of olds → b < drawn_of news
  owned_later b less =
      let t = before.drawn.owned b less in
      let s = zip_left Stays olds news t.0 stay t.1 in
      after.drawn.inside s.0 b s.1 (subst (In b) (sym s.2.quiet.run.2) t.2)

  owned_before : (b : ℕ) → b < drawn_of news → b < drawn_of olds
  owned_before b less =
      let t = after.drawn.owned b less in
      let s = zip_right Stays olds news t.0 stay t.1 in
      before.drawn.inside s.0 b s.1 (subst (In b) s.2.quiet.run.2 t.2)

  same_drawn : drawn_of news ≡ drawn_of olds
  same_drawn = elim (leb_tells (drawn_of olds) (drawn_of news)) [
    | inl p ↦ elim (leb_tells (drawn_of news) (drawn_of olds)) [
      | inl q ↦ (let x = p.1 in let y = q.1 in omega arith)
      | inr q ↦ absurd (let x : drawn_of olds < drawn_of olds = owned_before (drawn_of olds) (omega arith) in omega arith)
    ]
    | inr p ↦ absurd (let x : drawn_of news < drawn_of news = owned_later (drawn_of news) (omega arith) in omega arith)
  ]

-- without a pass there is no event
nobody : (l : Limits) (keeper : KeeperShown) (h : List Event) → AreTogether l keeper [] h → h ≡ []
nobody l keeper h together = no_events h (λ d. together.others d (let none = together.all.0 in omega arith))

same_history : (l : Limits) (keeper keeper' : KeeperShown) (olds news : List PassShown) (h h' : List Event) → AreTogether l keeper olds h → AllZip Stays olds news → AreTogether l keeper' news h' → h' ≡ h
same_history l keeper keeper' [] [] h h' before stay after = nobody l keeper' h' after ∙ sym (nobody l keeper h before)
same_history l keeper keeper' [] (q ∷ qs) h h' before stay after = absurd stay
same_history l keeper keeper' (p ∷ ps) [] h h' before stay after = absurd stay
same_history l keeper keeper' (p ∷ ps) (q ∷ qs) h h' before stay after =
    let was = before.each p here in
    let is = after.each q here in
    grown l keeper keeper' (p ∷ ps) (q ∷ qs) h h' before stay after (subst (λ z. IsPrefix z h') was.seen (subst (IsPrefix p.seen) is.seen stay.0.sees))

pub alone_idle : AloneIdle
alone_idle l keeper keeper' olds news h h' before stay after =
    let same = same_history l keeper keeper' olds news h h' before stay after in
    let all : map state_of news ++ not_given l (length news) ≡ map state_of olds ++ not_given l (length olds) =
    ap (λ k. map state_of news ++ not_given l k) (long l keeper keeper' olds news h h' before stay after) ∙ ap (λ xs. xs ++ not_given l (length olds)) (same_passes olds news stay) in
    (same, same_state l h' h _ _ (drawn_of news) (drawn_of olds) same all (same_drawn l keeper keeper' olds news h h' before stay after))
