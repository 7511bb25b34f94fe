-- What a collect leaves.
use Rattle.std.proofs.Common.{◌≡◌, ◌≢◌, ℕ, ◌<◌, cond, Result, Some, Ok, Err, ap, ◌∙◌, ⊎_elim}
use Rattle.std.proofs.lemmas.Bool.{eq-eqb}
use Rattle.tp_model.specs.declared.types.Element.{Element}
use Rattle.tp_model.specs.Counts.{is_killed}
use Rattle.tp_model.specs.declared.types.Refusal.{Refusal}
use Rattle.tp_model.specs.declared.types.Refusal.TheVariants as refusal
use Rattle.tp_model.specs.declared.types.Status.TheVariants.{Killed}
use Rattle.tp_model.specs.declared.event.Event.TheVariants.{Kill}
use Rattle.tp_model.specs.History.{element_of, status_of}
use Rattle.tp_model.specs.Steps.{IsLegal, Step}
use Rattle.tp_model.proofs.Replies.{reply_stands}
use Rattle.tp_plain.specs.Computed.{collect_at, collect_found, collect_of}
use Rattle.tp_plain.specs.OneThread.{State, extended}

-- a reply that wasn't killed may be, and is collected
module _ (s : State) (c i : ℕ) (e : Element) (legal : IsLegal s.limits s.history) (born : element_of s.history i ≡ Some e) (reply : e.stage ≡ 15) (alive : status_of s.limits.attempts s.history i ≢ Killed) where
  pub may_collect : c < s.limits.parts → Step s.limits s.history (Kill c i)
  may_collect given = ⊎_elim (λ waits. record { pass = given; item = e; born = born; free = rw waits tt }) (λ killed. absurd (alive killed)) (reply_stands s.limits s.history legal i e born reply)

  pub collect_goes : collect_of s c i ≡ (Ok e, extended s (Kill c i))
  collect_goes = ⊎_elim
      (λ waits. ap (collect_found s c i) born
      ∙ (ap (λ b. cond {A = Result Element Refusal × State} b (collect_at s c i e (is_killed (status_of s.limits.attempts s.history i))) (Err refusal.BadStage, s)) (eq-eqb e.stage 15 reply)
      ∙ ap (λ st. collect_at s c i e (is_killed st)) waits))
      (λ killed. absurd (alive killed)) (reply_stands s.limits s.history legal i e born reply)
