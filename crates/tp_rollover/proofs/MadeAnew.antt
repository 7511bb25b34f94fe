-- What is made anew in a manager in which nothing has happened.
use Rattle.std.proofs.Common.{◌≡◌, ℕ, ◌*◌, ◌<◌, ◌≤◌, All, arith, inl, inr, Option, Some, None, List, length, slice_index, sym, ◌∙◌, ap, subst, Result, Ok, Err, IfOk, OnOk}
use Rattle.std.specs.List.{AllZip}
use Rattle.std.specs.Option.{option_and_then}
use Rattle.tp_model.specs.declared.types.Limits.{Limits}
use Rattle.tp_plain.specs.OneThread.{State, start}
use Rattle.tp_manager.specs.Accounts.{AreAll, Gathers}
use Rattle.tp_manager.specs.Shown.{IsKeptBy, IsOf, KeeperShown, ManagerShown, PassShown}
use Rattle.tp_model.specs.declared.event.Event.{Event}
use Rattle.std.proofs.lemmas.Bool.Decides.{leb_tells}
use Rattle.tp_rollover.specs.Thread.{AreTogether, IsFresh, Stays}
use Rattle.tp_rollover.proofs.AloneApart.{numbered, zip_long, zip_right}
use Rattle.tp_rollover.proofs.AloneIdle.{alone_idle}
use Rattle.tp_rollover.proofs.AloneStarts.{alone_start}
use Rattle.tp_rollover.specs.Anew.{all_born, all_held, all_replayed, kept_for, made_anew, made_unheld}
use Rattle.tp_rollover.specs.Carries.{AreFresh}
use Rattle.tp_rollover.specs.Lone.{AreLone, lone, Agrees}
use Rattle.tp_rollover.specs.declared.moved.Moved.{Moved}
use Rattle.tp_rollover.specs.declared.survivors.Survivor.{Survivor}
use Rattle.tp_rollover.proofs.Assembly.{gathered, stay_trans}
use Rattle.tp_rollover.specs.declared.stops.Stop.{Stop}
use Rattle.tp_rollover.specs.declared.stops.Stop.TheVariants.{Full}

-- passes that have done nothing but look are as they were
fresh_stays : (l : Limits) (p q : PassShown) → Stays p q → IsFresh l p → IsFresh l q
fresh_stays l p q s fresh = record {
  mine = s.quiet.mine ∙ fresh.mine;
  open_unit = s.quiet.open_unit ∙ fresh.open_unit;
  next = s.quiet.run.0 ∙ (fresh.next ∙ ap (λ n. n * l.rows) (sym s.number));
  left = s.quiet.run.1 ∙ fresh.left;
  blocks = s.quiet.run.2 ∙ fresh.blocks;
  turn = λ stage. ap (λ z. slice_index z stage) s.turn ∙ fresh.turn stage;
}

fresh_again : (l : Limits) (ps qs : List PassShown) → AllZip Stays ps qs → AreFresh l ps → AreFresh l qs
fresh_again l ps qs zip fresh q r = let t = zip_right Stays ps qs q zip r in fresh_stays l t.0 q t.2 (fresh t.0 t.1)

-- the first gathering
module _ (m : ManagerShown) (n : ℕ) (k0 k1 : KeeperShown) (ps0 ps1 : List PassShown) (g : Gathers m.limits n k0 k1 ps0 ps1) (all : AreAll k1 ps1) (kept : IsKeptBy m k1 × (k1.given ≡ k0.given)) (own : All (IsOf m) ps1) where
  pub lone_first : AreLone m k1 ps1
  lone_first = record { kept = kept.0; own = own; together = (gathered m n k0 k1 ps0 ps1 g all kept.1 own).0 }

  pub as_many : length ps1 ≡ length ps0
  as_many = zip_long Stays ps0 ps1 (gathered m n k0 k1 ps0 ps1 g all kept.1 own).1

  pub starts : AreFresh m.limits ps0 → lone m k1 ps1 ≡ start m.limits
  starts fresh = let t = gathered m n k0 k1 ps0 ps1 g all kept.1 own in alone_start m.limits k1 ps1 k1.seen t.0 (fresh_again m.limits ps0 ps1 t.1 fresh)

-- the births, and what follows on them
module _ (l : Limits) (p q : ℕ) (survivors : List Survivor) (s t : State) (long : q ≡ p) (same : t ≡ s) where
  abbrev pub from_born : List Moved × State → Option (List Moved × State)
  from_born born = option_and_then (λ done. Some (born.0, done)) (all_replayed p (kept_for survivors) s.limits.attempts survivors born.0 (0, born.1))

  pub made_born : made_unheld l p survivors s ≡ option_and_then from_born (all_born l q survivors t)
  made_born = ap (λ z. option_and_then from_born (all_born l p survivors z)) (sym same) ∙ ap (λ n. option_and_then from_born (all_born l n survivors t)) (sym long)

  -- then the replays
  module _ (moved : List Moved) (after : State) (born : all_born l q survivors t ≡ Some (moved, after)) (r : ℕ) (long' : r ≡ p) where
    pub made_then : made_unheld l p survivors s ≡ option_and_then (λ done. Some (moved, done)) (all_replayed r (kept_for survivors) s.limits.attempts survivors moved (0, after))
    made_then = made_born ∙ (ap (option_and_then from_born) born ∙ ap (λ n. option_and_then (λ done. Some (moved, done)) (all_replayed n (kept_for survivors) s.limits.attempts survivors moved (0, after))) (sym long'))

    pub made_all : (done : State) → all_replayed r (kept_for survivors) s.limits.attempts survivors moved (0, after) ≡ Some done → (end : State) → end ≡ done → made_unheld l p survivors s ≡ Some (moved, end)
    made_all done is end still = made_then ∙ (ap (option_and_then (λ z. Some (moved, z))) is ∙ ap (λ z. Some (moved, z)) (sym still))

-- the account, the looks, and the last gathering
pub still_lone : (m : ManagerShown) (n c : ℕ) (k3 k4 k5 : KeeperShown) (ps3 ps4 ps5 ps6 : List PassShown) → AreLone m k3 ps3
    → Gathers m.limits n k3 k4 ps3 ps4 → AreAll k4 ps4 → k4.given ≡ k3.given → All (IsOf m) ps4 → AllZip Stays ps4 ps5
    → Gathers m.limits c k4 k5 ps5 ps6 → AreAll k5 ps6 → k5.given ≡ k4.given → All (IsOf m) ps6 → lone m k5 ps6 ≡ lone m k3 ps3
still_lone m n c k3 k4 k5 ps3 ps4 ps5 ps6 is g1 all1 given1 own1 stay g2 all2 given2 own2 =
    let t1 = gathered m n k3 k4 ps3 ps4 g1 all1 given1 own1 in
    let t2 = gathered m c k4 k5 ps5 ps6 g2 all2 given2 own2 in
    (alone_idle m.limits k3 k5 ps3 ps6 k3.seen k5.seen is.together (stay_trans ps3 ps5 ps6 (stay_trans ps3 ps4 ps5 t1.1 stay) t2.1) t2.0).1

-- what was done is what is computed
pub made_so : {A B : Type 0} (r : Result A Stop) (value : A → B) (computed : Option B) (P : A → Type 0) → Agrees r value computed → ((x : A) → computed ≡ Some (value x) → P x) → IfOk r P
made_so (Ok x) value computed P agrees so = so x agrees
made_so (Err e) value computed P agrees so = tt

-- and it is full where that is
pub none_so : {A B : Type 0} (r : Result A Stop) (value : A → B) (computed : Option B) → r ≡ Err Full → Agrees r value computed → computed ≡ None
none_so r value computed full agrees = subst (λ z. Agrees z value computed) full agrees

pub on_ok : {A E : Type 0} (r : Result A E) (P : Type 0) → P → OnOk r P
on_ok (Ok x) P is = is
on_ok (Err e) P is = tt

-- and once those are held that are
module _ (l : Limits) (p q : ℕ) (survivors : List Survivor) (s t : State) (moved : List Moved) (long : q ≡ p) (made : made_unheld l p survivors s ≡ Some (moved, t)) where
  abbrev pub from_unheld : List Moved × State → Option (List Moved × State)
  from_unheld x = option_and_then (λ done. Some (x.0, done)) (all_held p survivors x.0 x.1)

  pub made_held : made_anew l p survivors s ≡ option_and_then (λ done. Some (moved, done)) (all_held q survivors moved t)
  made_held = ap (option_and_then from_unheld) made ∙ ap (λ n. option_and_then (λ done. Some (moved, done)) (all_held n survivors moved t)) (sym long)

  pub made_so_far : (end : State) → all_held q survivors moved t ≡ Some end → made_anew l p survivors s ≡ Some (moved, end)
  made_so_far end held = made_held ∙ ap (option_and_then (λ done. Some (moved, done))) held

-- no more passes are given out than a manager has
pub few_parts : (l : Limits) (keeper : KeeperShown) (passes : List PassShown) (h : List Event) → AreTogether l keeper passes h → length passes ≤ l.parts
few_parts l keeper passes h together = elim (leb_tells (length passes) l.parts) [
  | inl q ↦ q.1
  | inr q ↦
      let over : l.parts < length passes = q.1 in
      let t = numbered 0 l.parts passes together.all.1 (omega arith) (omega arith) in
      let given = (together.each t.0 t.1).shows.given in
      let at = t.2 in
      absurd (omega arith)
]
