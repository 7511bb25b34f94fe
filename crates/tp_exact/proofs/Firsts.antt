-- What a script begins with stands for the computed state.
use Rattle.std.proofs.Common.{◌≡◌, ℕ, ◌+◌, ◌*◌, List, [], ◌∷◌, All, length, refl, sym, ◌∙◌, ap, subst, arith}
use Rattle.tp_model.specs.History.{In, here, there}
use Rattle.tp_model.specs.Passes.{IsPassView}
use Rattle.tp_model.specs.declared.types.Limits.{Limits}
use Rattle.tp_model.proofs.Bridges.{in_left, in_none}
use Rattle.tp_model.proofs.Histories.{legal_empty}
use Rattle.tp_plain.specs.OneThread.{start}
use Rattle.tp_workers.specs.Free.{IsFreePass}
use Rattle.tp_manager.specs.Shown.{PassShown, view_in}
use Rattle.tp_script.specs.Script.{HeadView}
use Rattle.tp_rollover.specs.Managed.{IsNewPass}
use Rattle.tp_commands.specs.Scenes.{Scene, Stand, passes_in}
use Rattle.tp_reference.specs.PlainReport.{begin, plain_limits}
use Rattle.tp_rollover.specs.Thread.{AreDrawn, AreTogether, IsFresh, drawn_of}
use Rattle.tp_rollover.proofs.AloneStarts.{alone_start}
use Rattle.tp_perform.specs.Performed.{Begun, limits_of}
use Rattle.tp_exact.specs.Programs.{IsChecked}
use Rattle.tp_exact.specs.Stands.{StandsAsComputed}
use Rattle.tp_exact.proofs.Begins.{desks_first, served_first}
use Rattle.tp_exact.proofs.Scenes.{all_at}

-- new passes have drawn no block
none_drawn : (ps : List PassShown) → ((p : PassShown) → In p ps → IsNewPass p) → drawn_of ps ≡ 0
none_drawn [] new = refl
none_drawn (p ∷ ps) new = (new p here).drawn

no_block : (p : PassShown) (b : ℕ) → IsNewPass p → ¬ In b p.blocks
no_block p b new at = in_none (subst (In b) new.blocks at)

-- the limits with so many passes
abbrev with_parts : HeadView → ℕ → Limits
with_parts h n = record { parts = n; rows = h.settings.rows; units = h.settings.units; attempts = h.settings.attempts; spare = h.settings.spare }

module _ (h : HeadView) (racers : ℕ) (none : racers ≡ 0) (first : Stand) (begins : Begun h racers first) (checked : All IsChecked h.servers) where
  abbrev scene : Scene
  scene = first.scene

  abbrev l : Limits
  l = first.manager.limits

  new_at : (p : PassShown) → In p (passes_in scene) → IsNewPass p
  new_at p at = all_at IsNewPass (passes_in scene) p begins.new.new at

  limits_at : (p : PassShown) → In p (passes_in scene) → p.limits ≡ l
  limits_at p at = (all_at (IsFreePass first.manager) (passes_in scene) p begins.new.own at).own.1

  drawn : AreDrawn (drawn_of (passes_in scene)) (passes_in scene)
  drawn =
      let none = none_drawn (passes_in scene) new_at in
      record {
        seen = λ p at. (new_at p at).drawn ∙ sym none;
        inside = λ p b at in_blocks. absurd (no_block p b (new_at p at) in_blocks);
        owned = λ b less. absurd (omega (arith, less, none));
        once = λ p q b at other in_blocks others. absurd (no_block p b (new_at p at) in_blocks);
      }

  together_none : AreTogether l first.keeper (passes_in scene) []
  together_none = record {
    legal = legal_empty l;
    all = begins.new.all;
    each = λ p at. record { limits = limits_at p at; seen = (new_at p at).seen; shows = subst (λ (k : Limits). IsPassView k (view_in p)) (limits_at p at) (new_at p at).shows };
    others = λ c given. refl;
    drawn = drawn;
  }

  fresh : (p : PassShown) → In p (passes_in scene) → IsFresh l p
  fresh p at =
      let new = new_at p at in
      record {
        mine = new.mine;
        open_unit = new.open_unit;
        next = new.next ∙ ap (λ (k : Limits). p.number * k.rows) (limits_at p at);
        left = new.left ∙ ap (λ (k : Limits). k.rows) (limits_at p at);
        blocks = new.blocks;
        turn = new.turn;
      }

  together_first : AreTogether l first.keeper (passes_in scene) first.keeper.seen
  together_first = subst (AreTogether l first.keeper (passes_in scene)) (sym begins.new.seen) together_none

  limits_are : plain_limits h ≡ limits_of h racers
  limits_are = ap (with_parts h) (omega (arith, none))

  pub begins_so : StandsAsComputed h.servers l first.keeper first.keeper.seen scene (begin h)
  begins_so = record {
    together = together_first;
    manager = ap start limits_are ∙ ap start (sym begins.new.limits) ∙ sym (alone_start l first.keeper (passes_in scene) first.keeper.seen together_first fresh);
    desks = desks_first scene.places h.servers begins.desks (λ p at. (new_at p (there (in_left scene.racers at))).open_unit) begins.registers;
    served = served_first scene.places h.servers begins.recipes checked;
  }
