-- What is asked of descriptions, so that what is computed of them stands as it was.
use Rattle.std.proofs.Common.{◌≡◌, ℕ, ◌<◌, List, map, ◌≢◌, Some}
use Rattle.tp_model.specs.declared.types.Limits.{Limits}
use Rattle.tp_model.specs.declared.types.Status.{Status}
use Rattle.tp_model.specs.declared.types.Status.TheVariants.{Waiting, Held, Consumed, Parked, Killed}
use Rattle.tp_model.specs.History.{In}
use Rattle.tp_model.specs.Steps.{IsBody, IsStage, rows_of}
use Rattle.tp_rollover.specs.Survivors.{Ascending}
use Rattle.tp_rollover.specs.declared.survivors.Survivor.{Survivor}

-- it waits or is parked, as an element can that no pass holds, where so many attempts are allowed
abbrev pub IsAtRest : ℕ → Status → Type 0
IsAtRest limit (Waiting n) = n < limit
IsAtRest limit (Held u n) = ⊥
IsAtRest limit (Consumed u) = ⊥
IsAtRest limit (Parked n) = n ≡ limit
IsAtRest limit Killed = ⊥

-- They are of one manager with limits l. In another one, where so many attempts are allowed, they can stand so.
pub record AreSound (l : Limits) (limit : ℕ) (survivors : List Survivor) : Type 0 where
  pub up : Ascending 0 (map (λ (s : Survivor). s.id) survivors)
  pub inside : (s : Survivor) → In s survivors → s.root < rows_of l
  pub stage : (s : Survivor) → In s survivors → IsStage s.stage
  pub bodies : (s : Survivor) → In s survivors → IsBody s.body × IsBody s.root_body
  pub rests : (s : Survivor) → In s survivors → IsAtRest limit s.status
  -- two of one family have one root
  pub alike : (s t : Survivor) → In s survivors → In t survivors → s.root ≡ t.root → (s.root_stage ≡ t.root_stage) × (s.root_body ≡ t.root_body)
  -- which is as it is described where it is alive itself
  pub own : (s : Survivor) → In s survivors → s.id ≡ s.root → (s.root_stage ≡ s.stage) × (s.root_body ≡ s.body)
  -- and then nothing else of the family is
  pub alone : (s t : Survivor) → In s survivors → In t survivors → s.id ≡ s.root → t.root ≡ s.root → t.id ≡ s.id
  -- a pass holds one of them at most, which waits, and is no reply
  pub once : (s t : Survivor) → In s survivors → In t survivors → (c : ℕ) → s.holder ≡ Some c → t.holder ≡ Some c → t.id ≡ s.id
  pub held : (s : Survivor) → In s survivors → (c : ℕ) → s.holder ≡ Some c → ((n : ℕ) × (s.status ≡ Waiting n)) × (s.stage ≢ 15)
