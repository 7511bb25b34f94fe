-- What a rollover leaves between two commands.
use Rattle.std.proofs.Common.{◌≡◌, ◌<◌, ◌≤◌, ◌+◌, ℕ, zero, suc, List, [], ◌∷◌, ◌++◌, All, Option, Some, None, refl, sym, ◌∙◌, ap, subst, arith, get_or, length, map, drop, take}
use Rattle.std.specs.Option.{option_map}
use Rattle.std.specs.List.{AllZip}
use Rattle.std.specs.declared.alloc.Global.{Global}
use Rattle.std.specs.declared.dyn_box.DynBox.{DynBox}
use Rattle.std.proofs.lemmas.List.{length-append, length-drop, length-take}
use Rattle.std.proofs.lemmas.List.Elements.{All-cons, All-head, All-nil, All-tail, All-take}
use Rattle.tp_model.specs.declared.types.Limits.{Limits}
use Rattle.tp_model.specs.declared.types.Status.{Status}
use Rattle.tp_model.specs.declared.types.Status.TheVariants.{Consumed, Held, Killed, Parked, Waiting}
use Rattle.tp_model.specs.declared.types.Work.{Work}
use Rattle.tp_model.specs.Drafts.{DraftView}
use Rattle.tp_model.specs.History.{In, here, status_of, there}
use Rattle.tp_server.specs.Behaviour.{Behaviour}
use Rattle.tp_server.specs.Pending.{Pending}
use Rattle.tp_manager.specs.Accounts.{AreAll, AreNumberedFrom, Gathers}
use Rattle.tp_manager.specs.Bounds.{gather_steps}
use Rattle.tp_manager.specs.Shown.{IsOf, KeeperShown, ManagerShown, PassShown}
use Rattle.tp_desk.specs.declared.aside.Aside.{Aside}
use Rattle.tp_desk.specs.InHand.{InHand}
use Rattle.tp_plain.specs.OneThread.{start}
use Rattle.tp_rollover.specs.Thread.{Stays, thread_of}
use Rattle.tp_rollover.proofs.AloneApart.{number_in}
use Rattle.tp_rollover.specs.Answers.{Rolls}
use Rattle.tp_rollover.specs.Carries.{Carries}
use Rattle.tp_rollover.specs.Faults.{AreFree}
use Rattle.tp_rollover.specs.Managed.{GoesOnAnew, IsManaged, StaysManaged}
use Rattle.tp_rollover.proofs.Carrying.{each_of}
use Rattle.tp_rollover.proofs.Heads.{stay_same}
use Rattle.tp_rollover.proofs.Lists.{in_at}
use Rattle.tp_rollover.specs.Hands.{HasOpen, NamesHolder, holder_of}
use Rattle.tp_rollover.specs.declared.moved.RollFault.{RollFault}
use Rattle.tp_rollover.specs.declared.managed.Managed.{Managed}
use Rattle.tp_rollover.specs.declared.moved.Moved.{Moved}
use Rattle.tp_report.specs.Answer.{line}
use Rattle.tp_workers.specs.Free.{IsFreePass}
use Rattle.tp_commands.specs.declared.place.Place.{Place}
use Rattle.tp_commands.specs.Acting.{place_shown, places_shown, work_in}
use Rattle.tp_commands.specs.Places.{AllLie, Lies, all_firsts, first_of, firsts, workers}
use Rattle.tp_commands.specs.Rollover.{BeginsAgain, IsUnrolled, IsUnrolledFor, RollRefused, RolledOver, roll_refused_text, stand}
use Rattle.tp_commands.specs.Scenes.{OnlyPass, Scene, passes_in}
use Rattle.tp_commands.specs.Told.{AreReady, IsScene, units_held}
use Rattle.tp_commands.proofs.Gatherings.{Looks, all_in, gathered, held_gathered, only_passes, own_in, ready_gathered, ready_on, same_held, scene_on, zip_drop, zip_take, zip_with}
use Rattle.tp_commands.proofs.Slices.{scene_there}

-- ---- passes without a unit

abbrev Free : PassShown → Type 0
Free p = p.open_unit ≡ None

one_more : (n : ℕ) (ps : List PassShown) → AreFree (take (1 + n) ps) → AreFree (take (suc n) ps)
one_more n ps = subst (λ k. AreFree (take k ps)) (let e : 1 + n ≡ suc n = omega arith in e)

-- the client's is free
pub first_free : (m : ManagerShown) (n : ℕ) (ps : List PassShown) → All (IsOf m) ps → AreFree (take (1 + n) ps) → All (IsFreePass m) (take 1 ps)
first_free m n [] own free = All-nil (IsFreePass m)
first_free m n (p ∷ ps) own free =
    All-cons (IsFreePass m) p [] (record { own = All-head (IsOf m) p ps own; free = All-head Free p (take n ps) (one_more n (p ∷ ps) free) }) (All-nil (IsFreePass m))

-- and so are those of the servers
pub desks_free : (n : ℕ) (ps : List PassShown) → AreFree (take (1 + n) ps) → AreFree (workers n ps)
desks_free n [] free = All-take Free n [] (All-nil Free)
desks_free n (p ∷ ps) free = All-tail Free p (take n ps) (one_more n (p ∷ ps) free)

-- ---- the first so many passes, by their numbers

front_low : (a n : ℕ) (ps : List PassShown) (q : PassShown) → AreNumberedFrom a ps → In q (take n ps) → In q ps × (q.number < a + n)
front_low a zero ps q all p = elim p [ ]
front_low a (suc n) [] q all p = elim p [ ]
front_low a (suc n) (x ∷ ps) q all here = (here, (let e = all.0 in omega (arith, e)))
front_low a (suc n) (x ∷ ps) q all (there p) = let t = front_low (a + 1) n ps q all.1 p in (there t.0, (let less = t.1 in omega (arith, less)))

low_front : (a n : ℕ) (ps : List PassShown) (q : PassShown) → AreNumberedFrom a ps → In q ps → q.number < a + n → In q (take n ps)
low_front a zero ps q all p less = let low = (number_in a ps q all p).0 in absurd (omega (arith, low, less))
low_front a (suc n) [] q all p less = elim p [ ]
low_front a (suc n) (x ∷ ps) q all here less = here
low_front a (suc n) (x ∷ ps) q all (there p) less = there (low_front (a + 1) n ps q all.1 p (omega (arith, less)))

pub front_free : (n : ℕ) (ps : List PassShown) → AreNumberedFrom 0 ps → ((q : PassShown) → In q ps → q.number < n → q.open_unit ≡ None) → AreFree (take n ps)
front_free n ps from each = λ k d less.
    let t = front_low 0 n ps (get_or (take n ps) k d) from (in_at (take n ps) k d less) in
    each (get_or (take n ps) k d) t.0 (let low = t.1 in omega (arith, low))

-- who is named as a holder had a unit open
held_of : (l : Limits) (st : Status) (c : ℕ) → NamesHolder l st (Some c) → (u : ℕ) × (n : ℕ) × (st ≡ Held u n) × (holder_of l u ≡ c)
held_of l (Waiting n) c is = absurd cc
held_of l (Held u n) c is = (u, n, refl, cc)
held_of l (Consumed u) c is = absurd cc
held_of l (Parked n) c is = absurd cc
held_of l Killed c is = absurd cc

-- so a pass that had none open has none open in the new manager
pub idle_on : (l k : Limits) (old' new' : KeeperShown) (olds olds' news : List PassShown) (moved : List Moved) → Rolls l k old' new' olds olds' news moved → (q : PassShown) → In q news → ¬ HasOpen olds q.number → q.open_unit ≡ None
idle_on l k old' new' olds olds' news moved r q p none = r.holders.free q p (λ named.
    let m = named.0 in
    let held = held_of l (status_of l.attempts r.before m.old) q.number (subst (NamesHolder l (status_of l.attempts r.before m.old)) named.2 (r.hands.named m named.1)) in
    none (subst (HasOpen olds) held.3 (r.hands.had m named.1 held.0 held.1 held.2)))

-- those of the program have none there, where they had none
pub gone_free : (own : ℕ) (old new : Managed) (moved : List Moved) → IsManaged old → IsManaged new → GoesOnAnew old new moved → AreFree (take own old.passes.items) → AreFree (take own new.passes.items)
gone_free own old new moved was is on free = front_free own new.passes.items is.all.1 (λ q p less.
    idle_on old.manager.limits new.manager.limits on.keeper new.keeper old.passes.items on.passes new.passes.items moved on.rolls q p (λ has.
    let none = each_of Free (take own old.passes.items) has.0 free (low_front 0 own old.passes.items has.0 was.all.1 has.1 (let same = has.2 in omega (arith, same, less))) in
    let e : None ≡ Some has.3 = sym none ∙ has.4 in
    absurd cc))

-- a pass that stays has done nothing but look
pub stayed : (p q : PassShown) → Stays p q → Looks p q
stayed p q s = record { number = s.number; quiet = s.quiet; sees = s.sees }

-- the same manager
pub own_of : (old new : Managed) → IsManaged new → new.manager ≡ old.manager → All (IsOf old.manager) new.passes.items
own_of old new is same = subst (λ z. All (IsOf z) new.passes.items) same is.own

pub gathers_of : (old mid new : Managed) → mid.manager ≡ old.manager → Gathers mid.manager.limits (gather_steps mid.manager.limits (length mid.passes.items)) mid.keeper new.keeper mid.passes.items new.passes.items
    → Gathers old.manager.limits (gather_steps old.manager.limits (length mid.passes.items)) mid.keeper new.keeper mid.passes.items new.passes.items
gathers_of old mid new same gathers = subst (λ (m : ManagerShown). Gathers m.limits (gather_steps m.limits (length mid.passes.items)) mid.keeper new.keeper mid.passes.items new.passes.items) same gathers

pub stands_refused : (is_due : Scene → RollFault → Type 0) (old new : Managed) (a b : Scene) (text : List ℕ) → new.manager ≡ old.manager → RollRefused is_due (stand old a) text (record { manager = old.manager; keeper = new.keeper; scene = b }) → RollRefused is_due (stand old a) text (stand new b)
stands_refused is_due old new a b text same refuses = subst (λ (m : ManagerShown). RollRefused is_due (stand old a) text (record { manager = m; keeper = new.keeper; scene = b })) (sym same) refuses

-- where nothing has changed
pub stays_still : (old new : Managed) → new ≡ old → StaysManaged old new
stays_still old new same = subst (λ z. StaysManaged old z) (sym same) (record { manager = refl; given = refl; passes = stay_same old.passes.items })

module _ {X : Type 0} {F : X → Type 0} (behaviour : DynBox X Global F → Behaviour) (registers : DynBox X Global F → List ℕ) (pending : DynBox X Global F → Option Pending) where
  abbrev Box : Type 0
  Box = DynBox X Global F

  abbrev Lie : List PassShown → List Box → List (Place X F) → Type 0
  Lie ps ss os = AllLie behaviour registers pending ps ss os

  -- ---- a desk whose pass has no unit open

  idle_with : (p : PassShown) (s : Box) (f : PassShown) (w : Option Work) (drafts : List DraftView) → p.open_unit ≡ None → InHand (behaviour s) (registers s) (pending s) w drafts f p → (w ≡ None) × (pending s ≡ None)
  idle_with p s f None drafts free hand = (refl, hand.unprepared)
  idle_with p s f (Some w) drafts free hand = absurd (let no : None ≡ Some w.unit = sym free ∙ hand.open_unit in cc)

  idle_at : (p : PassShown) (s : Box) (a : Option (Aside X F)) → Lies behaviour registers pending p s a → p.open_unit ≡ None → (work_in a ≡ None) × (pending s ≡ None)
  idle_at p s None lies free = absurd lies
  idle_at p s (Some a) lies free = idle_with p s a.first_pass.value a.work a.drafts.items free lies.in_hand

  pub all_clear : (ps : List PassShown) (ss : List Box) (os : List (Place X F)) → Lie ps ss os → AreFree ps → All (λ s. pending s ≡ None) ss
  all_clear [] [] [] lie free = All-nil (λ s. pending s ≡ None)
  all_clear [] [] (o ∷ os) lie free = absurd lie
  all_clear [] (s ∷ ss) os lie free = absurd lie
  all_clear (p ∷ ps) [] os lie free = absurd lie
  all_clear (p ∷ ps) (s ∷ ss) [] lie free = absurd lie
  all_clear (p ∷ ps) (s ∷ ss) (o ∷ os) lie free =
      All-cons (λ s. pending s ≡ None) s ss (idle_at p s o.aside lie.0 (All-head (λ (p : PassShown). p.open_unit ≡ None) p ps free)).1
      (all_clear ps ss os lie.1 (All-tail (λ (p : PassShown). p.open_unit ≡ None) p ps free))

  -- ---- a desk that begins again

  began_with : (q : PassShown) (s : Box) (a : Option (Aside X F)) → option_map {U = PassShown × Box} (λ (x : Aside X F). (x.first_pass.value, x.first_server.value)) a ≡ Some (q, s)
      → option_map {U = PassShown × List ℕ} (λ (x : Aside X F). (x.first_pass.value, registers x.first_server.value)) a ≡ Some (q, registers s)
  began_with q s None is = absurd cc
  began_with q s (Some a) is = ap (option_map {T = PassShown × Box} {U = PassShown × List ℕ} (λ (x : PassShown × Box). (x.0, registers x.1))) is

  again_at : (p q : PassShown) (s : Box) (o n : Place X F) → Lies behaviour registers pending p s o.aside → p.open_unit ≡ None → Lies behaviour registers pending q s n.aside → q.open_unit ≡ None
      → first_of n ≡ Some (q, s) → n.is_dropped ≡ o.is_dropped → BeginsAgain (place_shown behaviour registers pending p s o) (place_shown behaviour registers pending q s n)
  again_at p q s o n lies free lies' free' first dropped =
      let old = idle_at p s o.aside lies free in
      let new = idle_at q s n.aside lies' free' in
      record {
        idle = old.0;
        unprepared = old.1;
        desk = ap (λ (w : Option Work). record { pass = q; behaviour = behaviour s; registers = registers s; pending = pending s; work = w }) (new.0 ∙ sym old.0);
        began = began_with q s n.aside first;
        kept = dropped;
      }

  heads_tails : {A : Type 0} (x y : A) (xs ys : List A) → x ∷ xs ≡ y ∷ ys → (x ≡ y) × (xs ≡ ys)
  heads_tails x y xs ys e = (cc, cc)

  pub all_again : (ps qs : List PassShown) (ss : List Box) (os ns : List (Place X F)) → Lie ps ss os → AreFree ps → Lie qs ss ns → AreFree qs
      → firsts ns ≡ all_firsts qs ss → map (λ (o : Place X F). o.is_dropped) ns ≡ map (λ (o : Place X F). o.is_dropped) os
      → AllZip BeginsAgain (places_shown behaviour registers pending ps ss os) (places_shown behaviour registers pending qs ss ns)
  all_again [] [] [] [] [] lie free lie' free' first dropped = tt
  all_again [] qs [] (o ∷ os) ns lie free lie' free' first dropped = absurd lie
  all_again [] qs (s ∷ ss) os ns lie free lie' free' first dropped = absurd lie
  all_again [] [] [] [] (n ∷ ns) lie free lie' free' first dropped = absurd lie'
  all_again [] (q ∷ qs) [] [] ns lie free lie' free' first dropped = absurd lie'
  all_again (p ∷ ps) qs [] os ns lie free lie' free' first dropped = absurd lie
  all_again (p ∷ ps) qs (s ∷ ss) [] ns lie free lie' free' first dropped = absurd lie
  all_again (p ∷ ps) [] (s ∷ ss) (o ∷ os) ns lie free lie' free' first dropped = absurd lie'
  all_again (p ∷ ps) (q ∷ qs) (s ∷ ss) (o ∷ os) [] lie free lie' free' first dropped = absurd lie'
  all_again (p ∷ ps) (q ∷ qs) (s ∷ ss) (o ∷ os) (n ∷ ns) lie free lie' free' first dropped =
      let one = heads_tails (first_of n) (Some (q, s)) (firsts ns) (all_firsts qs ss) first in
      let two = heads_tails n.is_dropped o.is_dropped (map (λ (o : Place X F). o.is_dropped) ns) (map (λ (o : Place X F). o.is_dropped) os) dropped in (
        again_at p q s o n lie.0 (All-head (λ (p : PassShown). p.open_unit ≡ None) p ps free) lie'.0 (All-head (λ (p : PassShown). p.open_unit ≡ None) q qs free') one.0 two.0,
        all_again ps qs ss os ns lie.1 (All-tail (λ (p : PassShown). p.open_unit ≡ None) p ps free) lie'.1 (All-tail (λ (p : PassShown). p.open_unit ≡ None) q qs free') one.1 two.1,
      )

  -- ---- scenes

  racers_are : (ps : List PassShown) (ss : List Box) (os : List (Place X F)) (a : Scene) → IsScene behaviour registers pending ps ss os a → length ps ≡ 1 + length (workers (length ss) ps) + length a.racers
  racers_are ps ss os a is =
      let whole : length ps ≡ suc (length (workers (length ss) ps ++ a.racers)) = ap length is.0 in
      let both = length-append (workers (length ss) ps) a.racers in
      omega (arith, whole, both)

  pub as_many_racers : (ps qs : List PassShown) (ss : List Box) (os ns : List (Place X F)) (a b : Scene) → length qs ≡ length ps → IsScene behaviour registers pending ps ss os a → IsScene behaviour registers pending qs ss ns b
      → length b.racers ≡ length a.racers
  as_many_racers ps qs ss os ns a b long old new =
      let one = racers_are ps ss os a old in
      let two = racers_are qs ss ns b new in
      let three = length-take (length ss) (drop 1 ps) in
      let four = length-take (length ss) (drop 1 qs) in
      let five = length-drop 1 ps in
      let six = length-drop 1 qs in
      omega (arith, long, one, two, three, four, five, six)

  -- where it went on
  module _ (old new : Managed) (moved : List Moved) (ss : List Box) (os ns : List (Place X F)) (managed : IsManaged old) (managed' : IsManaged new) (on : GoesOnAnew old new moved)
      (idle : AreFree (take (1 + length ss) old.passes.items)) (free : AreFree (take (1 + length ss) new.passes.items))
      (ready : AreReady behaviour registers pending old.manager old.passes.items ss os) (enough : 1 + length ss ≤ length old.passes.items)
      (lie : Lie (workers (length ss) new.passes.items) ss ns) (began : firsts ns ≡ all_firsts (workers (length ss) new.passes.items) ss)
      (dropped : map (λ (o : Place X F). o.is_dropped) ns ≡ map (λ (o : Place X F). o.is_dropped) os) where
    pub as_long : length new.passes.items ≡ length old.passes.items
    as_long = managed'.parts ∙ (ap (λ (l : Limits). l.parts) on.limits ∙ sym managed.parts)

    pub ready_again : AreReady behaviour registers pending new.manager new.passes.items ss ns
    ready_again = record { own = managed'.own; client = first_free new.manager (length ss) new.passes.items managed'.own free; lie = lie }

    pub rolled : (a : Scene) × (b : Scene) × IsScene behaviour registers pending old.passes.items ss os a × RolledOver (stand old a) moved (stand new b) × IsScene behaviour registers pending new.passes.items ss ns b
    rolled =
        let a = scene_there behaviour registers pending old.passes.items ss os (omega (arith, enough)) in
        let b = scene_there behaviour registers pending new.passes.items ss ns (omega (arith, enough, as_long)) in
        let olds : passes_in a.0 ≡ old.passes.items = all_in behaviour registers pending old.manager old.passes.items ss os a.0 ready a.1 in
        let news : passes_in b.0 ≡ new.passes.items = all_in behaviour registers pending new.manager new.passes.items ss ns b.0 ready_again b.1 in
        let again = all_again (workers (length ss) old.passes.items) (workers (length ss) new.passes.items) ss os ns ready.lie (desks_free (length ss) old.passes.items idle) lie (desks_free (length ss) new.passes.items free) began dropped in (
          a.0,
          b.0,
          a.1,
          record {
            keeper = on.keeper;
            passes = on.passes;
            given = on.given;
            limits = on.limits;
            rolls = subst (λ zs. Rolls old.manager.limits new.manager.limits on.keeper new.keeper zs on.passes (passes_in b.0) moved) (sym olds)
                (subst (λ zs. Rolls old.manager.limits new.manager.limits on.keeper new.keeper old.passes.items on.passes zs moved) (sym news) on.rolls);
            carries = let l = old.manager.limits in
                subst (λ zs. Carries l zs l.parts (start l) moved (thread_of l (passes_in b.0) new.keeper.seen)) (sym olds)
                (subst (λ zs. Carries l old.passes.items l.parts (start l) moved (thread_of l zs new.keeper.seen)) (sym news) on.carries);
            idle = subst AreFree (sym (own_in behaviour registers pending old.manager old.passes.items ss os a.0 ready a.1)) idle;
            free = subst AreFree (sym (own_in behaviour registers pending new.manager new.passes.items ss ns b.0 ready_again b.1)) free;
            own = subst (All (IsOf new.manager)) (sym news) managed'.own;
            places = subst (λ zs. AllZip BeginsAgain zs b.0.places) (sym a.1.1)
                (subst (λ zs. AllZip BeginsAgain (places_shown behaviour registers pending (workers (length ss) old.passes.items) ss os) zs) (sym b.1.1) again);
            racers = as_many_racers old.passes.items new.passes.items ss os ns a.0 b.0 as_long a.1 b.1;
          },
          b.1,
        )

  -- why it was refused, of passes, is why it was of their scene
  pub unrolled_in : (m : ManagerShown) (ps : List PassShown) (ss : List Box) (os : List (Place X F)) (a : Scene) (why : RollFault) → AreReady behaviour registers pending m ps ss os
      → IsUnrolledFor m.limits (take (1 + length ss) ps) ps why → IsScene behaviour registers pending ps ss os a → IsUnrolled m.limits a why
  unrolled_in m ps ss os a why ready due is =
      subst (λ zs. IsUnrolledFor m.limits zs (passes_in a) why) (sym (own_in behaviour registers pending m ps ss os a ready is))
      (subst (λ zs. IsUnrolledFor m.limits (take (1 + length ss) ps) zs why) (sym (all_in behaviour registers pending m ps ss os a ready is)) due)

  -- where it was refused
  module _ (m : ManagerShown) (keeper kept keeper' : KeeperShown) (ps qs rs : List PassShown) (ss : List Box) (os : List (Place X F)) (ready : AreReady behaviour registers pending m ps ss os)
      (stays : AllZip Stays ps qs) (own : All (IsOf m) qs) (given : kept.given ≡ keeper.given) (gathers : Gathers m.limits (gather_steps m.limits (length qs)) kept keeper' qs rs) (all : AreAll keeper' rs)
      (given' : keeper'.given ≡ kept.given) (own' : All (IsOf m) rs) where
    looked : AllZip Looks ps qs
    looked = zip_with stayed ps qs stays

    ready_looked : AreReady behaviour registers pending m qs ss os
    ready_looked = ready_on behaviour registers pending m ps qs ss os looked own ready

    pub ready_refused : AreReady behaviour registers pending m rs ss os
    ready_refused = ready_gathered behaviour registers pending m kept keeper' qs rs ss os ready_looked gathers all given' own'

    pub held_refused : (n : ℕ) → units_held n rs ≡ units_held n ps
    held_refused n = held_gathered behaviour registers pending m kept keeper' qs rs ss os ready_looked gathers all given' own' n ∙ same_held n ps qs looked

    pub refused : (is_due : Scene → RollFault → Type 0) (why : RollFault) (text : List ℕ) → 1 ≤ length ps → ((a : Scene) → IsScene behaviour registers pending ps ss os a → is_due a why) → text ≡ line (roll_refused_text why)
        → (a : Scene) × (b : Scene) × IsScene behaviour registers pending ps ss os a
        × RollRefused is_due (record { manager = m; keeper = keeper; scene = a }) text (record { manager = m; keeper = keeper'; scene = b })
        × IsScene behaviour registers pending rs ss os b
    refused is_due why text some due is =
        let a = scene_there behaviour registers pending ps ss os some in
        let c = scene_on behaviour registers pending ps qs ss os a.0 looked a.1 in
        let b = gathered behaviour registers pending m kept keeper' qs rs ss os ready_looked gathers all given' own' c.0 c.1 in
        let olds : passes_in a.0 ≡ ps = all_in behaviour registers pending m ps ss os a.0 ready a.1 in
        let betweens : passes_in c.0 ≡ qs = all_in behaviour registers pending m qs ss os c.0 ready_looked c.1 in (
          a.0,
          b.0,
          a.1,
          record {
            why = why;
            due = due a.0 a.1;
            manager = refl;
            keeper = kept;
            given = given;
            between = c.0;
            looked = record {
              passes = subst (λ zs. AllZip Stays zs (passes_in c.0)) (sym olds) (subst (λ zs. AllZip Stays ps zs) (sym betweens) stays);
              places = subst (λ zs. AllZip OnlyPass zs c.0.places) (sym a.1.1) (subst (λ zs. AllZip OnlyPass (places_shown behaviour registers pending (workers (length ss) ps) ss os) zs) (sym c.1.1)
                  (only_passes behaviour registers pending (workers (length ss) ps) (workers (length ss) qs) ss os (zip_take Looks (length ss) (drop 1 ps) (drop 1 qs) (zip_drop Looks 1 ps qs looked))));
            };
            gathered = b.1;
            text_is = is;
          },
          b.2,
        )
