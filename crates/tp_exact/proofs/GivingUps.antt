-- Desks that give up what they have in hand, one after another.
use Rattle.std.proofs.Common.{ℕ, zero, suc, List, sym, ◌∙◌, ap, subst}
use Rattle.std.specs.List.{AllZip}
use Rattle.tp_plain.specs.OneThread as thread
use Rattle.tp_manager.specs.Shown.{KeeperShown, ManagerShown}
use Rattle.tp_script.specs.Script.{ServerView}
use Rattle.tp_commands.specs.Acting.{PlaceShown}
use Rattle.tp_commands.specs.GivingUp.{GiveUpBelow, DeskGivesUp}
use Rattle.tp_commands.specs.Scenes.{Scene, passes_in}
use Rattle.tp_reference.specs.PlainDesks.{after_giving_up}
use Rattle.tp_reference.specs.PlainReport.{ReportState, ended_below, worker}
use Rattle.tp_exact.specs.Stands.{IsFor, IsServedBy, StandsAsComputed}
use Rattle.tp_exact.proofs.Commands.{served_all, still_all, zip_at}
use Rattle.tp_exact.proofs.Desks.{gives_up}
use Rattle.tp_exact.proofs.Places.{acts_at, zip_beside}
use Rattle.tp_exact.proofs.Scenes.{looks, together}

-- ---- the desks give up what they have in hand

-- the computed state, with another manager
abbrev pub with_state : ReportState → thread.State → ReportState
with_state s manager = record { manager = manager; desks = s.desks }

module _ (servers : List ServerView) (m : ManagerShown) where
  abbrev Is : KeeperShown → Scene → ReportState → Type 0
  Is keeper z s = StandsAsComputed servers m.limits keeper keeper.seen z s

  gives : (at : ℕ) (keeper keeper' : KeeperShown) (old new : Scene) (s : ReportState) → Is keeper old s → DeskGivesUp m at keeper old keeper' new
      → Is keeper' new (with_state s (after_giving_up s.manager (worker at)))
  gives at keeper keeper' old new s stands t =
      let p : PlaceShown = t.gives_up.old in
      let q : PlaceShown = t.gives_up.new in
      let did = t.gives_up.gives_up in
      let d = zip_at IsFor old.places s.desks at p stands.desks t.gives_up.there in
      let by = zip_at IsServedBy old.places servers at p stands.served t.gives_up.there in
      let only = looks m keeper keeper' t.done new t.gathered in
      let after = together m keeper keeper' t.done new t.gathered in
      let acts = acts_at servers m.limits keeper keeper' keeper.seen keeper'.seen old t.done new s at p q stands t.gives_up.there t.gives_up.others t.others.client t.others.racers only after in
      let law = gives_up by.0.recipe m.limits keeper keeper' (passes_in old) (passes_in new) keeper.seen keeper'.seen (worker at) p.desk q.desk d.0 acts did.limits d.2.desk did.drops in
      let is : IsFor q d.0 = record { desk = law.1; dropped = d.2.dropped ∙ sym did.kept } in
      let by_it : IsServedBy q by.0 = record { behaviour = did.drops.server.0 ∙ by.2.behaviour; stage = by.2.stage } in
      record {
        together = after;
        manager = ap (λ (x : thread.State). after_giving_up x (worker at)) stands.manager ∙ sym law.0;
        desks = still_all t.done.places new.places s.desks only.places (subst (λ ps. AllZip IsFor ps s.desks) (sym t.gives_up.others) (zip_beside IsFor old.places s.desks at q d.0 stands.desks d.1 is));
        served = served_all t.done.places new.places servers only.places (subst (λ ps. AllZip IsServedBy ps servers) (sym t.gives_up.others) (zip_beside IsServedBy old.places servers at q by.0 stands.served by.1 by_it));
      }

  pub below : (n : ℕ) (keeper keeper' : KeeperShown) (old new : Scene) (s : ReportState) → Is keeper old s → GiveUpBelow m n keeper old keeper' new
      → Is keeper' new (with_state s (ended_below s.manager n))
  unfolding ended_below
  below zero keeper keeper' old new s stands t = subst (λ k. Is k new s) (sym t.0) (subst (λ z. Is keeper z s) (sym t.1) stands)
  below (suc n) keeper keeper' old new s stands t =
      let before = below n keeper t.0 old t.1 s stands t.2 in
      gives n t.0 keeper' t.1 new (with_state s (ended_below s.manager n)) before t.3
