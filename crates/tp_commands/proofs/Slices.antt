-- All passes in one list: the client's, those of the servers, and those of races.
use Rattle.std.proofs.Common.{◌≡◌, ◌≤◌, ◌+◌, ℕ, suc, List, [], ◌∷◌, ◌++◌, All, Option, Some, None, refl, sym, ◌∙◌, ap, subst, arith, length, map, drop, take}
use Rattle.std.specs.Option.{option_map}
use Rattle.std.specs.declared.alloc.Global.{Global}
use Rattle.std.specs.declared.dyn_box.DynBox.{DynBox}
use Rattle.std.proofs.Math.Seq.{drop-append_seam, take-append_seam}
use Rattle.std.proofs.lemmas.List.{length-append, length-take, take-append-drop}
use Rattle.std.proofs.lemmas.List.Elements.{All-append, All-cons, All-drop, All-head, All-nil, All-take}
use Rattle.tp_server.specs.Behaviour.{Behaviour}
use Rattle.tp_server.specs.Pending.{Pending}
use Rattle.tp_manager.specs.Shown.{IsOf, ManagerShown, PassShown, numbers}
use Rattle.tp_desk.specs.declared.aside.Aside.{Aside}
use Rattle.tp_workers.specs.Free.{IsFreePass}
use Rattle.tp_commands.specs.declared.place.Place.{Place}
use Rattle.tp_commands.specs.Acting.{places_shown}
use Rattle.tp_commands.specs.Places.{AllLeft, AllLie, IsLeft, Lies, first_of, firsts, workers}
use Rattle.tp_commands.proofs.Lefts.{same_parts, same_within, workers_are}
use Rattle.tp_commands.proofs.Lies.{lie_passes, lie_servers}
use Rattle.tp_commands.specs.Scenes.{Scene, scene}
use Rattle.tp_commands.specs.Told.{AreReady, IsScene, after_servers, units_held}

first_same : {A : Type 0} (x y : A) (xs ys : List A) → x ∷ xs ≡ y ∷ ys → (x ≡ y) × (xs ≡ ys)
first_same x y xs ys e = (cc, cc)

some_pair : {A : Type 0} (x y : A) → Some x ≡ Some y → x ≡ y
some_pair x y e = cc

behind_same : {A : Type 0} (xs ys zs : List A) → xs ++ ys ≡ xs ++ zs → ys ≡ zs
behind_same [] ys zs e = e
behind_same (x ∷ xs) ys zs e = behind_same xs ys zs (first_same x x (xs ++ ys) (xs ++ zs) e).1

-- there is one scene of these
pub scene_same : (a b : Scene) → a.client ≡ b.client → a.places ≡ b.places → a.racers ≡ b.racers → a ≡ b
scene_same a b client places racers = λ i. record { client = client i; places = places i; racers = racers i }

module _ {X : Type 0} {F : X → Type 0} (behaviour : DynBox X Global F → Behaviour) (registers : DynBox X Global F → List ℕ) (pending : DynBox X Global F → Option Pending) where
  abbrev Box : Type 0
  Box = DynBox X Global F

  abbrev Ready : ManagerShown → List PassShown → List Box → List (Place X F) → Type 0
  Ready m ps ss os = AreReady behaviour registers pending m ps ss os

  abbrev Is : List PassShown → List Box → List (Place X F) → Scene → Type 0
  Is ps ss os s = IsScene behaviour registers pending ps ss os s

  pub one_scene : (ps : List PassShown) (ss : List Box) (os : List (Place X F)) (a b : Scene) → Is ps ss os a → Is ps ss os b → a ≡ b
  one_scene ps ss os a b x y =
      let heads = first_same a.client b.client _ _ (sym x.0 ∙ y.0) in
      scene_same a b heads.0 (x.1 ∙ sym y.1) (behind_same (workers (length ss) ps) a.racers b.racers heads.1)

  -- the scene of passes that are told apart
  pub is_scene : (ps : List PassShown) (client : PassShown) (ws rs : List PassShown) (ss : List Box) (os : List (Place X F)) → ps ≡ client ∷ (ws ++ rs) → length ws ≡ length ss
      → Is ps ss os (scene behaviour registers pending client ws ss os rs)
  is_scene ps client ws rs ss os all long =
      let these : workers (length ss) ps ≡ ws = ap (workers (length ss)) all ∙ workers_are behaviour registers pending (length ss) client ws rs long in
      (all ∙ ap (λ zs. client ∷ (zs ++ rs)) (sym these), ap (λ zs. places_shown behaviour registers pending zs ss os) (sym these))

  -- there is one, where there is a client
  pub scene_there : (ps : List PassShown) (ss : List Box) (os : List (Place X F)) → 1 ≤ length ps → (s : Scene) × Is ps ss os s
  scene_there [] ss os some = absurd (omega (arith, some))
  scene_there (p ∷ ps) ss os some = (
    record { client = p; places = places_shown behaviour registers pending (take (length ss) ps) ss os; racers = drop (length ss) ps },
    (ap (λ zs. p ∷ zs) (sym (take-append-drop (length ss) ps)), refl),
  )

  -- how many passes of races there are
  pub racers_long : (ps : List PassShown) (ss : List Box) (os : List (Place X F)) (a : Scene) → Is ps ss os a → length ps ≤ 1 + length ss + length a.racers
  racers_long ps ss os a is =
      let whole : length ps ≡ suc (length (workers (length ss) ps ++ a.racers)) = ap length is.0 in
      let both = length-append (workers (length ss) ps) a.racers in
      let few = length-take (length ss) (drop 1 ps) in
      omega (arith, whole, both, few)

  -- desks that began with the same passes have passes of the same numbers
  began_number : (p q : PassShown) (s t : Box) (a b : Option (Aside X F)) → Lies behaviour registers pending p s a → Lies behaviour registers pending q t b
      → option_map {U = PassShown × Box} (λ (x : Aside X F). (x.first_pass.value, x.first_server.value)) b ≡ option_map {U = PassShown × Box} (λ (x : Aside X F). (x.first_pass.value, x.first_server.value)) a → q.number ≡ p.number
  began_number p q s t None b old new same = absurd old
  began_number p q s t (Some a) None old new same = absurd new
  began_number p q s t (Some a) (Some b) old new same =
      let pairs : (b.first_pass.value, b.first_server.value) ≡ (a.first_pass.value, a.first_server.value) = some_pair _ _ same in
      let first : b.first_pass.value ≡ a.first_pass.value = ap (λ (x : PassShown × Box). x.0) pairs in
      new.serves.number ∙ (ap (λ (x : PassShown). x.number) first ∙ sym old.serves.number)

  began_numbers : (ps qs : List PassShown) (ss ts : List Box) (os ns : List (Place X F)) → AllLie behaviour registers pending ps ss os → AllLie behaviour registers pending qs ts ns → firsts ns ≡ firsts os → numbers qs ≡ numbers ps
  began_numbers [] [] [] ts [] ns old new same = refl
  began_numbers [] (q ∷ qs) [] ts [] [] old new same = absurd (omega (arith, lie_passes behaviour registers pending (q ∷ qs) ts [] new))
  began_numbers [] (q ∷ qs) [] ts [] (n ∷ ns) old new same = absurd cc
  began_numbers [] qs [] ts (o ∷ os) ns old new same = absurd old
  began_numbers [] qs (s ∷ ss) ts os ns old new same = absurd old
  began_numbers (p ∷ ps) qs [] ts os ns old new same = absurd old
  began_numbers (p ∷ ps) qs (s ∷ ss) ts [] ns old new same = absurd old
  began_numbers (p ∷ ps) qs (s ∷ ss) ts (o ∷ os) [] old new same = absurd cc
  began_numbers (p ∷ ps) [] (s ∷ ss) ts (o ∷ os) (n ∷ ns) old new same = absurd (omega (arith, lie_passes behaviour registers pending [] ts (n ∷ ns) new))
  began_numbers (p ∷ ps) (q ∷ qs) (s ∷ ss) [] (o ∷ os) (n ∷ ns) old new same = absurd new
  began_numbers (p ∷ ps) (q ∷ qs) (s ∷ ss) (t ∷ ts) (o ∷ os) (n ∷ ns) old new same =
      let parts = first_same (first_of n) (first_of o) (firsts ns) (firsts os) same in
      let one = began_number p q s t o.aside n.aside old.0 new.0 parts.0 in
      ap (λ z. z ∷ numbers qs) one ∙ ap (λ zs. p.number ∷ zs) (began_numbers ps qs ss ts os ns old.1 new.1 parts.1)

  -- passes that are told apart, and what is known of each part
  module _ (m : ManagerShown) (ps : List PassShown) (client : PassShown) (others ws rest front rear here back : List PassShown) (ss : List Box) (os : List (Place X F))
      (all : ps ≡ client ∷ others) (parts : others ≡ ws ++ rest) (many : length ws ≡ length ss) (before : rest ≡ front ++ rear) (race : rear ≡ here ++ back) (ready : Ready m ps ss os) where
    whole : ps ≡ client ∷ (ws ++ (front ++ (here ++ back)))
    whole = all ∙ ap (λ zs. client ∷ zs) (parts ∙ ap (λ zs. ws ++ zs) (before ∙ ap (λ zs. front ++ zs) race))

    apart : ps ≡ client ∷ (ws ++ rest)
    apart = all ∙ ap (λ zs. client ∷ zs) parts

    these : workers (length ss) ps ≡ ws
    these = ap (workers (length ss)) apart ∙ workers_are behaviour registers pending (length ss) client ws rest many

    behind : drop (length ss) (drop 1 ps) ≡ rest
    behind = ap (λ zs. drop (length ss) (drop 1 zs)) apart ∙ (ap (λ n. drop n (ws ++ rest)) (sym many) ∙ drop-append_seam ws rest)

    pub client_free : IsFreePass m client
    client_free = All-head (IsFreePass m) client (take 0 others) (subst (λ zs. All (IsFreePass m) (take 1 zs)) all ready.client)

    pub own_workers : All (IsOf m) ws
    own_workers = subst (All (IsOf m)) these (All-take (IsOf m) (length ss) (drop 1 ps) (All-drop (IsOf m) 1 ps ready.own))

    pub lie_workers : AllLie behaviour registers pending ws ss os
    lie_workers = subst (λ zs. AllLie behaviour registers pending zs ss os) these ready.lie

    -- those behind are the manager's own
    rest_own : All (IsOf m) rest
    rest_own = subst (All (IsOf m)) behind (All-drop (IsOf m) (length ss) (drop 1 ps) (All-drop (IsOf m) 1 ps ready.own))

    front_own : All (IsOf m) front
    front_own = subst (All (IsOf m)) (ap (take (length front)) before ∙ take-append_seam front rear) (All-take (IsOf m) (length front) rest rest_own)

    rear_own : All (IsOf m) rear
    rear_own = subst (All (IsOf m)) (ap (drop (length front)) before ∙ drop-append_seam front rear) (All-drop (IsOf m) (length front) rest rest_own)

    back_own : All (IsOf m) back
    back_own = subst (All (IsOf m)) (ap (drop (length here)) race ∙ drop-append_seam here back) (All-drop (IsOf m) (length here) rear rear_own)

    -- where those of the race are free
    pub here_free : All (IsFreePass m) (take (length here) (drop (length front) (after_servers (length ss) ps))) → All (IsFreePass m) here
    here_free free =
        let tail : drop (length front) (after_servers (length ss) ps) ≡ rear = ap (drop (length front)) (behind ∙ before) ∙ drop-append_seam front rear in
        subst (All (IsFreePass m)) (ap (take (length here)) (tail ∙ race) ∙ take-append_seam here back) free

    -- behind a command
    module _ (client' : PassShown) (ws' here' : List PassShown) (ss' : List Box) (os' : List (Place X F)) (free : IsFreePass m client') (own : All (IsOf m) ws') (lie : AllLie behaviour registers pending ws' ss' os') (here_own : All (IsOf m) here') where
      abbrev others' : List PassShown
      others' = front ++ (here' ++ back)

      many' : length ws' ≡ length ss'
      many' = lie_passes behaviour registers pending ws' ss' os' lie ∙ sym (lie_servers behaviour registers pending ws' ss' os' lie)

      own' : All (IsOf m) others'
      own' = All-append (IsOf m) front (here' ++ back) front_own (All-append (IsOf m) here' back here_own back_own)

      pub ready_after : Ready m (client' ∷ (ws' ++ others')) ss' os'
      ready_after = record {
        own = All-cons (IsOf m) client' (ws' ++ others') free.own (All-append (IsOf m) ws' others' own own');
        client = All-cons (IsFreePass m) client' [] free (All-nil (IsFreePass m));
        lie = subst (λ zs. AllLie behaviour registers pending zs ss' os') (sym (workers_are behaviour registers pending (length ss') client' ws' others' many')) lie;
      }

      -- those behind, where there are as many servers as before
      module _ (long : length ss' ≡ length ss) where
        behind_after : after_servers (length ss) (client' ∷ (ws' ++ others')) ≡ others'
        behind_after = ap (λ n. drop n (ws' ++ others')) (sym long ∙ sym many') ∙ drop-append_seam ws' others'

        pub held_after : map (λ (p : PassShown). p.open_unit) here' ≡ map (λ (p : PassShown). p.open_unit) here → units_held (length ss) (client' ∷ (ws' ++ others')) ≡ units_held (length ss) ps
        held_after same =
            let rest_same : map (λ (p : PassShown). p.open_unit) others' ≡ map (λ (p : PassShown). p.open_unit) rest = same_within (λ (p : PassShown). p.open_unit) rest front rear here back here' before race same in
            ap (map (λ (p : PassShown). p.open_unit)) behind_after ∙ (rest_same ∙ ap (map (λ (p : PassShown). p.open_unit)) (sym behind))

      pub numbers_after : client'.number ≡ client.number → firsts os' ≡ firsts os → numbers here' ≡ numbers here → numbers (client' ∷ (ws' ++ others')) ≡ numbers ps
      numbers_after same began race_same =
          let middle = began_numbers ws ws' ss ss' os os' lie_workers lie began in
          let rest_same : numbers others' ≡ numbers rest = same_within (λ (p : PassShown). p.number) rest front rear here back here' before race race_same in
          ap (λ n. n ∷ numbers (ws' ++ others')) same
          ∙ (ap (λ zs. client.number ∷ zs) (same_parts (λ (p : PassShown). p.number) (ws ++ rest) ws rest ws' others' refl middle rest_same)
          ∙ ap numbers (sym apart))

      pub scene_before : Is ps ss os (scene behaviour registers pending client ws ss os (front ++ (here ++ back)))
      scene_before = is_scene ps client ws (front ++ (here ++ back)) ss os whole many

      pub scene_after : Is (client' ∷ (ws' ++ others')) ss' os' (scene behaviour registers pending client' ws' ss' os' others')
      scene_after = is_scene (client' ∷ (ws' ++ others')) client' ws' others' ss' os' refl many'
