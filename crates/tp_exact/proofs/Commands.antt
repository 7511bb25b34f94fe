-- Commands of the client, and those that tell registers, between two looks together.
use Rattle.std.proofs.Common.{◌≡◌, ℕ, zero, suc, ◌+◌, Bool, true, false, List, [], ◌∷◌, ◌++◌, map, Option, Some, None, refl, sym, ◌∙◌, ap, subst}
use Rattle.std.specs.Prelude.{is_some, slice_get, sum_by, if◌then◌else◌}
use Rattle.std.specs.List.{AllZip}
use Rattle.std.proofs.lemmas.List.Sums.{sum_by-cons}
use Rattle.tp_model.specs.declared.types.Limits.{Limits}
use Rattle.tp_model.specs.declared.types.Work.{Work}
use Rattle.tp_model.specs.declared.event.Event.{Event}
use Rattle.tp_plain.specs.OneThread as thread
use Rattle.tp_server.specs.Pending.{Pending}
use Rattle.tp_manager.specs.Shown.{KeeperShown, PassShown}
use Rattle.tp_report.specs.declared.answer.ServerAnswer.TheVariants as told
use Rattle.tp_report.specs.Answer.{balance_text, line, named_text}
use Rattle.tp_script.specs.Script.{ServerView}
use Rattle.tp_script.specs.declared.script.ClientAct.{ClientAct}
use Rattle.tp_commands.specs.Acting.{PlaceShown}
use Rattle.tp_commands.specs.Asked.{TellsClient}
use Rattle.tp_commands.specs.Registers.{TellsBalance, counted_value, register_sum}
use Rattle.tp_commands.specs.Scenes.{Scene, passes_in}
use Rattle.tp_reference.specs.declared.plain_desk.PlainDesk.{PlainDesk}
use Rattle.tp_reference.specs.PlainClient.{client, client_step}
use Rattle.tp_reference.specs.PlainReport as plain
use Rattle.tp_reference.specs.PlainReport.{ReportState, balance_answer, command_step, with_manager}
use Rattle.tp_rollover.specs.Thread.{AreTogether, Stays, thread_of}
use Rattle.tp_exact.specs.Acts.{Acts}
use Rattle.tp_exact.specs.Stands.{IsFor, IsServedBy, SceneOnlyLooks, OnlyLooksAt, StandsAsComputed}
use Rattle.tp_exact.proofs.Clients.{exact_client}
use Rattle.tp_exact.proofs.Parts.{idle}

-- ---- lists side by side

module _ {A B : Type 0} (R : A → B → Type 0) where
  zip_append : (xs : List A) (ys : List B) (xs' : List A) (ys' : List B) → AllZip R xs ys → AllZip R xs' ys' → AllZip R (xs ++ xs') (ys ++ ys')
  zip_append [] [] xs' ys' a b = b
  zip_append [] (y ∷ ys) xs' ys' a b = absurd a
  zip_append (x ∷ xs) [] xs' ys' a b = absurd a
  zip_append (x ∷ xs) (y ∷ ys) xs' ys' a b = (a.0, zip_append xs ys xs' ys' a.1 b)

  -- what stands beside a place
  pub zip_at : (xs : List A) (ys : List B) (i : ℕ) (x : A) → AllZip R xs ys → slice_get xs i ≡ Some x → (y : B) × (slice_get ys i ≡ Some y) × R x y
  zip_at [] [] i x a is = absurd cc
  zip_at [] (y ∷ ys) i x a is = absurd a
  zip_at (z ∷ xs) [] i x a is = absurd a
  zip_at (z ∷ xs) (y ∷ ys) zero x a is = let same : z ≡ x = cc in (y, refl, subst (λ w. R w y) same a.0)
  zip_at (z ∷ xs) (y ∷ ys) (suc i) x a is = zip_at xs ys i x a.1 is

-- the passes of places have looked
place_passes : (ps qs : List PlaceShown) → AllZip OnlyLooksAt ps qs → AllZip Stays (map (λ p. p.desk.pass) ps) (map (λ p. p.desk.pass) qs)
place_passes [] [] a = tt
place_passes [] (q ∷ qs) a = absurd a
place_passes (p ∷ ps) [] a = absurd a
place_passes (p ∷ ps) (q ∷ qs) a = (a.0.pass, place_passes ps qs a.1)

-- so have those of a scene
pub scene_passes : (old new : Scene) → SceneOnlyLooks old new → AllZip Stays (passes_in old) (passes_in new)
scene_passes old new looks = (looks.client, zip_append Stays (map (λ p. p.desk.pass) old.places) (map (λ p. p.desk.pass) new.places) old.racers new.racers (place_passes old.places new.places looks.places) looks.racers)

-- a desk is still the one at its place
still_for : (p q : PlaceShown) (d : PlainDesk) → OnlyLooksAt p q → IsFor p d → IsFor q d
still_for p q d looks is =
    let open_same : q.desk.pass.open_unit ≡ p.desk.pass.open_unit = looks.pass.quiet.open_unit in
    let work_same : q.desk.work ≡ p.desk.work = ap (λ (z : PlaceShown). z.desk.work) looks.same in
    let pending_same : q.desk.pending ≡ p.desk.pending = ap (λ (z : PlaceShown). z.desk.pending) looks.same in
    record {
      desk = record {
        registers = is.desk.registers ∙ sym (ap (λ (z : PlaceShown). z.desk.registers) looks.same);
        work = ap (λ (o : Option ℕ). if is_some o then d.taken else None) open_same ∙ (is.desk.work ∙ sym work_same);
        open_is = ap (λ (o : Option ℕ). is_some o) open_same ∙ (is.desk.open_is ∙ sym (ap (λ (o : Option Work). is_some o) work_same));
        prepared = λ some. is.desk.prepared (sym (ap (λ (o : Option Work). is_some o) work_same) ∙ some) ∙ sym (ap (λ (o : Option Pending). is_some o) pending_same);
      };
      dropped = is.dropped ∙ sym (ap (λ (z : PlaceShown). z.is_dropped) looks.same);
    }

pub still_all : (ps qs : List PlaceShown) (ds : List PlainDesk) → AllZip OnlyLooksAt ps qs → AllZip IsFor ps ds → AllZip IsFor qs ds
still_all [] [] ds a b = b
still_all [] (q ∷ qs) ds a b = absurd a
still_all (p ∷ ps) [] ds a b = absurd a
still_all (p ∷ ps) (q ∷ qs) [] a b = absurd b
still_all (p ∷ ps) (q ∷ qs) (d ∷ ds) a b = (still_for p q d a.0 b.0, still_all ps qs ds a.1 b.1)

-- and its server is the same
served_still : (p q : PlaceShown) (server : ServerView) → OnlyLooksAt p q → IsServedBy p server → IsServedBy q server
served_still p q server looks is = record { behaviour = ap (λ (z : PlaceShown). z.desk.behaviour) looks.same ∙ is.behaviour; stage = is.stage }

pub served_all : (ps qs : List PlaceShown) (servers : List ServerView) → AllZip OnlyLooksAt ps qs → AllZip IsServedBy ps servers → AllZip IsServedBy qs servers
served_all [] [] servers a b = b
served_all [] (q ∷ qs) servers a b = absurd a
served_all (p ∷ ps) [] servers a b = absurd a
served_all (p ∷ ps) (q ∷ qs) [] a b = absurd b
served_all (p ∷ ps) (q ∷ qs) (s ∷ ss) a b = (served_still p q s a.0 b.0, served_all ps qs ss a.1 b.1)

-- ---- the client and its scene

module _ (servers : List ServerView) (l : Limits) (keeper keeper' : KeeperShown) (h h' : List Event) (old new next : Scene) (s : ReportState) (stands : StandsAsComputed servers l keeper h old s) (places : new.places ≡ old.places) (racers : new.racers ≡ old.racers)
    (looks : SceneOnlyLooks new next) (after : AreTogether l keeper' (passes_in next) h') where
  abbrev behind : List PassShown
  behind = map (λ p. p.desk.pass) old.places ++ old.racers

  others : AllZip Stays (new.client ∷ behind) (passes_in next)
  others = subst (λ rs. AllZip Stays (new.client ∷ (map (λ p. p.desk.pass) old.places ++ rs)) (passes_in next)) racers
      (subst (λ ps. AllZip Stays (new.client ∷ (map (λ p. p.desk.pass) ps ++ new.racers)) (passes_in next)) places (scene_passes new next looks))

  acts : Acts l keeper keeper' (passes_in old) (passes_in next) h h' client old.client new.client
  acts = record { before = stands.together; front = []; back = behind; olds_are = refl; place = refl; others = others; after = after }

  desks : AllZip IsFor next.places s.desks
  desks = still_all new.places next.places s.desks looks.places (subst (λ ps. AllZip IsFor ps s.desks) (sym places) stands.desks)

  served : AllZip IsServedBy next.places servers
  served = served_all new.places next.places servers looks.places (subst (λ ps. AllZip IsServedBy ps servers) (sym places) stands.served)

  -- a client's command
  abbrev Leads : List ℕ → List ℕ × ReportState → Type 0
  Leads text step = (text ≡ step.0) × StandsAsComputed servers l keeper' h' next step.1

  pub by_client : (act : ClientAct) (text : List ℕ) → TellsClient l act old.client text new.client → Leads text (with_manager s (client_step act s.manager))
  by_client act text tells =
      let is : thread.State = thread_of l (passes_in next) h' in
      let law = exact_client act l keeper keeper' (passes_in old) (passes_in next) h h' old.client new.client text acts tells in
      let now = law ∙ ap (client_step act) (sym stands.manager) in
      subst (λ r. Leads text (with_manager s r)) now (refl, record { together = after; manager = refl; desks = desks; served = served })

  -- nothing was done
  pub idles : new.client ≡ old.client → StandsAsComputed servers l keeper' h' next s
  idles same = record {
    together = after;
    manager = stands.manager ∙ sym (idle l keeper keeper' (passes_in old) (passes_in next) h h' client old.client new.client acts same);
    desks = desks;
    served = served;
  }

-- ---- registers

-- a register that is told
pub told_so : (server : ServerView) (k : ℕ) (place : PlaceShown) (d : PlainDesk) (text : List ℕ) → IsFor place d → TellsBalance server.name k place.desk.registers place.is_dropped text → text ≡ balance_answer (Some server) (Some d) k
told_so server k place d text is tells = go place.is_dropped tells is.dropped
  where
    go : (b : Bool) → TellsBalance server.name k place.desk.registers b text → d.is_dropped ≡ b → text ≡ balance_answer (Some server) (Some d) k
    go true t same = t ∙ sym (ap (λ (c : Bool). if c then line (named_text server.name told.Ended) else line (balance_text server.name k (slice_get d.registers k))) same)
    go false t same = t ∙ (ap (λ rs. line (balance_text server.name k (slice_get rs k))) (sym is.desk.registers) ∙ sym (ap (λ (c : Bool). if c then line (named_text server.name told.Ended) else line (balance_text server.name k (slice_get d.registers k))) same))

-- a sum of them
counted_so : (b : Bool) (o : Option ℕ) → counted_value b o ≡ (if b then 0 else plain.value_of o)
counted_so true o = refl
counted_so false None = refl
counted_so false (Some v) = refl

pub summed_so : (k : ℕ) (ps : List PlaceShown) (ds : List PlainDesk) → AllZip IsFor ps ds → register_sum k ps ≡ sum_by (plain.counted_at_desk k) ds
summed_so k [] [] a = refl
summed_so k [] (d ∷ ds) a = absurd a
summed_so k (p ∷ ps) [] a = absurd a
summed_so k (p ∷ ps) (d ∷ ds) a =
    let is = a.0 in
    let one : counted_value p.is_dropped (slice_get p.desk.registers k) ≡ plain.counted_at_desk k d =
    counted_so p.is_dropped (slice_get p.desk.registers k)
    ∙ (ap (λ (b : Bool). if b then 0 else plain.value_of (slice_get p.desk.registers k)) (sym is.dropped)
    ∙ ap (λ rs. if d.is_dropped then 0 else plain.value_of (slice_get rs k)) (sym is.desk.registers)) in
    let first = sum_by-cons (λ (q : PlaceShown). counted_value q.is_dropped (slice_get q.desk.registers k)) p ps in
    let second = sum_by-cons (plain.counted_at_desk k) d ds in
    first ∙ (ap (λ n. n + register_sum k ps) one ∙ (ap (λ n. plain.counted_at_desk k d + n) (summed_so k ps ds a.1) ∙ sym second))
