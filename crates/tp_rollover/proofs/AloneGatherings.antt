-- Passes that have gathered are together.
use Rattle.std.proofs.Common.{◌≡◌, ℕ, ◌≤◌, List, [], ◌∷◌, sym, subst}
use Rattle.std.specs.List.{AllZip}
use Rattle.tp_model.specs.declared.types.Limits.{Limits}
use Rattle.tp_model.specs.declared.event.Event.{Event}
use Rattle.tp_model.specs.History.{here}
use Rattle.tp_model.specs.Passes.{IsPassView}
use Rattle.tp_model.proofs.Areas.{ascend_in}
use Rattle.tp_manager.specs.Accounts.{Attends, HaveDrawn}
use Rattle.tp_manager.specs.Shown.{PassShown, view_in}
use Rattle.tp_rollover.specs.AloneLaws.{GatheredTogether}
use Rattle.tp_rollover.specs.Thread.{AreDrawn, Stays, drawn_of}
use Rattle.tp_rollover.proofs.AloneApart.{zip_right}
use Rattle.tp_rollover.proofs.AloneStarts.{attends_stays}

-- what all have found drawn is what the first knows
found_first : (d : ℕ) (ps : List PassShown) → HaveDrawn d ps → d ≡ drawn_of ps
found_first d [] have = sym have.total
found_first d (p ∷ ps) have = sym (have.found p here)

are_drawn : (d : ℕ) (ps : List PassShown) → HaveDrawn d ps → AreDrawn d ps
are_drawn d ps have = record {
  seen = have.found;
  inside = λ p b q r. (ascend_in 0 d p.blocks b (have.below p q) r).1;
  owned = have.all;
  once = have.alone;
}

stay_each : (n : ℕ) (h : List Event) (olds news : List PassShown) → AllZip (Attends n h) olds news → AllZip Stays olds news
stay_each n h [] [] zip = tt
stay_each n h [] (q ∷ qs) zip = absurd zip
stay_each n h (p ∷ ps) [] zip = absurd zip
stay_each n h (p ∷ ps) (q ∷ qs) zip = (attends_stays n h p q zip.0, stay_each n h ps qs zip.1)

pub gathered_together : GatheredTogether
gathered_together l n keeper keeper' olds news g all given limits = (
  record {
    legal = g.legal;
    all = all;
    each = λ p q. let t = zip_right (Attends n keeper'.seen) olds news p g.passes q in record {
      limits = limits p q;
      seen = t.2.seen;
      shows = subst (λ (m : Limits). IsPassView m (view_in p)) (limits p q) t.2.follows.shows;
    };
    others = λ c low. g.others c (subst (λ k. k ≤ c) given low);
    drawn = subst (λ d. AreDrawn d news) (found_first g.drawn news g.blocks) (are_drawn g.drawn news g.blocks);
  },
  stay_each n keeper'.seen olds news g.passes,
)
