-- All that is described is born, one turn after another.
use Rattle.std.proofs.Common.{◌≡◌, ◌≢◌, ℕ, zero, suc, ◌+◌, ◌-◌, ◌<◌, ◌≤◌, ◌==◌, if◌then◌else◌, nat_lt, Bool, true, false, All, Option, Some, None, List, [], ◌∷◌, ◌++◌, append_assoc, drop, length, map, slice_set, take, inl, inr, ⊎_elim, refl, sym, ◌∙◌, ap, subst, arith, slice_index_or}
use Rattle.std.proofs.lemmas.Bool.{eq-eqb, eqb-true, ltb-false, leb-true}
use Rattle.std.proofs.lemmas.Bool.Decides.{eqb_tells}
use Rattle.std.proofs.lemmas.List.{length-set, length-take-le, take-append-drop}
use Rattle.std.proofs.lemmas.List.Elements.{All-cons, All-nil}
use Rattle.std.specs.Option.{option_and_then}
use Rattle.tp_model.specs.Births.{IsWhole}
use Rattle.tp_model.specs.declared.types.Limits.{Limits}
use Rattle.tp_model.specs.History.{In, here, there}
use Rattle.tp_model.specs.Steps.{AreLimits}
use Rattle.tp_plain.proofs.PassStates.{start_reached}
use Rattle.tp_model.proofs.Bridges.{append_nil, in_cons, in_none, in_one, in_right}
use Rattle.tp_model.proofs.Lists.{if_other, if_same}
use Rattle.std.specs.List.{range_with_len}
use Rattle.tp_plain.specs.OneThread.{State, fresh_pass, no_pass, pass_at, start}
use Rattle.tp_rollover.specs.Anew.{Bearing, Placing, all_born, born_from, born_next, carrier_by, drafts_of, families_of, family_at, filler, group_born, group_size, home_of, kept_for, named_in, next_born, root_or_group, submitted_next, survivor_draft}
use Rattle.tp_rollover.specs.Survivors.{Ascending}
use Rattle.tp_rollover.specs.declared.births.Family.{Family}
use Rattle.tp_rollover.specs.declared.births.Group.{Group}
use Rattle.tp_rollover.specs.declared.moved.Moved.{Moved}
use Rattle.tp_rollover.specs.declared.places.Cursor.{Cursor}
use Rattle.tp_rollover.specs.declared.survivors.Survivor.{Survivor}
use Rattle.tp_rollover.proofs.Bearing.{Bears, FamilyStands, with_carrier, root_sent}
use Rattle.tp_rollover.proofs.Climbing.{start_climbs}
use Rattle.tp_rollover.proofs.OfFamily.{families_start, is_group, none_left, of_others, of_root, of_taken, set_at, set_elsewhere, some_left}
use Rattle.tp_rollover.proofs.Grouping.{drafts_long, group_born_so, root_named, tail_of}
use Rattle.tp_rollover.proofs.Idling.{and_then_some, same_some, start_idle}
use Rattle.tp_rollover.proofs.Sound.{AreSound}
use Rattle.tp_rollover.proofs.NextBorn.{BornNext, SentNext, next_born_so, sent_next}

-- ---- the order of those that are left

in_dropped : (c : ℕ) (xs : List Survivor) (y : Survivor) → In y (drop c xs) → In y xs
in_dropped zero xs y q = q
in_dropped (suc c) [] y q = q
in_dropped (suc c) (x ∷ xs) y q = there (in_dropped c xs y q)

in_taken_from : (c : ℕ) (xs : List Survivor) (y : Survivor) → In y (take c xs) → In y xs
in_taken_from zero xs y q = absurd (in_none q)
in_taken_from (suc c) [] y q = absurd (in_none q)
in_taken_from (suc c) (x ∷ xs) y q = ⊎_elim (λ e. subst (λ z. In z (x ∷ xs)) (sym e) here) (λ r. there (in_taken_from c xs y r)) (in_cons q)

abbrev IsInOrder : List Survivor → Type 0
IsInOrder xs = (low : ℕ) × Ascending low (map (λ (s : Survivor). s.id) xs)

order_dropped : (c : ℕ) (xs : List Survivor) → IsInOrder xs → IsInOrder (drop c xs)
order_dropped zero xs up = up
order_dropped (suc c) [] up = up
order_dropped (suc c) (x ∷ xs) up = order_dropped c xs (x.id + 1, up.1.1)

above : (low : ℕ) (xs : List Survivor) (y : Survivor) → Ascending low (map (λ (s : Survivor). s.id) xs) → In y xs → low ≤ y.id
above low [] y up q = absurd (in_none q)
above low (x ∷ xs) y up q = ⊎_elim (λ e. let a = up.0 in let same = ap (λ (z : Survivor). z.id) e in omega (arith, a, same)) (λ r. let a = above (x.id + 1) xs y up.1 r in let u = up.0 in omega (arith, a, u)) (in_cons q)

shorter : (c : ℕ) (xs : List Survivor) (n : ℕ) → 1 ≤ c → length xs ≤ suc n → length (drop c xs) ≤ n
shorter zero xs n some few = absurd (omega (arith, some))
shorter (suc c) [] n some few = omega arith
shorter (suc c) (x ∷ xs) n some few = go c xs n (omega (arith, few))
  where
    go : (c : ℕ) (xs : List Survivor) (n : ℕ) → length xs ≤ n → length (drop c xs) ≤ n
    go zero xs n few = few
    go (suc c) [] n few = few
    go (suc c) (x ∷ xs) n few = go c xs n (omega (arith, few))

abbrev pub carrier_of : List Family → ℕ → Option (ℕ × ℕ)
carrier_of families r = (family_at families r).carrier

-- between two turns
record Turn (l : Limits) (p : ℕ) (k : Limits) (survivors rest : List Survivor) (moved : List Moved) (b : Bearing) : Type 0 where
  pub done : List Survivor
  pub all : done ++ rest ≡ survivors
  pub bears : Bears p k (carrier_of b.families) done rest moved b.placing.manager b.placing.cursor
  pub inside : (x : Survivor) → In x rest → x.root < length b.families
  pub left : (x : Survivor) → In x rest → (family_at b.families x.root).left ≡ of_root x.root rest
  pub order : IsInOrder rest
  pub same_kept : b.placing.cursor.kept ≡ kept_for survivors
  pub roots : (x : Survivor) → In x rest → x.id ≡ x.root → carrier_of b.families x.root ≡ None

draft_whole : (g : List Survivor) (more : Bool) → ((x : Survivor) → In x g → IsWhole (survivor_draft x)) → All IsWhole (map survivor_draft g ++ tail_of more)
draft_whole [] true each = All-cons IsWhole filler [] ((omega arith, omega arith), refl) (All-nil IsWhole)
draft_whole [] false each = All-nil IsWhole
draft_whole (x ∷ g) more each = All-cons IsWhole (survivor_draft x) (map survivor_draft g ++ tail_of more) (each x here) (draft_whole g more (λ y q. each y (there q)))

tail_long : (b : Bool) → length (tail_of b) ≡ (if b then 1 else 0)
tail_long true = refl
tail_long false = refl

head_taken : (c : ℕ) (x : Survivor) (xs : List Survivor) → 1 ≤ c → In x (take c (x ∷ xs))
head_taken zero x xs some = absurd (omega (arith, some))
head_taken (suc c) x xs some = here

-- ---- a group

module _ (l : Limits) (p : ℕ) (k : Limits) (survivors : List Survivor) (sound : AreSound l k.attempts survivors) (many : p ≤ k.parts)
    (x : Survivor) (rest0 : List Survivor) (moved : List Moved) (families : List Family) (done : List Survivor) (all : done ++ x ∷ rest0 ≡ survivors)
    (inside : (y : Survivor) → In y (x ∷ rest0) → y.root < length families) (left : (y : Survivor) → In y (x ∷ rest0) → (family_at families y.root).left ≡ of_root y.root (x ∷ rest0))
    (order : IsInOrder (x ∷ rest0)) (roots : (y : Survivor) → In y (x ∷ rest0) → y.id ≡ y.root → carrier_of families y.root ≡ None) where
  one_of_all : (y : Survivor) → In y (x ∷ rest0) → In y survivors
  one_of_all y q = subst (In y) all (in_right done q)

  module _ (other_one : x.id ≢ x.root) (carriers : ℕ → Option (ℕ × ℕ)) (b : Placing) (bears : Bears p k carriers done (x ∷ rest0) moved b.manager b.cursor)
      (root carrier : ℕ) (has : carriers x.root ≡ Some (root, carrier)) (same_else : (q : ℕ) → q ≢ x.root → carriers q ≡ carrier_of families q) (same_kept : b.cursor.kept ≡ kept_for survivors) where
    abbrev now : ℕ
    now = (family_at families x.root).left

    abbrev count : ℕ
    count = group_size l (x ∷ rest0) now

    abbrev g : List Survivor
    g = take count (x ∷ rest0)

    abbrev rest : List Survivor
    rest = drop count (x ∷ rest0)

    abbrev more : Bool
    more = nat_lt count now

    some : 1 ≤ count
    some = (is_group l x rest0 now).some

    long : length g ≡ count
    long = length-take-le count (x ∷ rest0) (is_group l x rest0 now).inside

    group : (y : Survivor) → In y g → y.root ≡ x.root
    group = (is_group l x rest0 now).group

    counted : now ≡ count + of_root x.root rest
    counted = left x here ∙ of_taken x.root count (x ∷ rest0) group (is_group l x rest0 now).inside

    not_own : (y : Survivor) → In y (x ∷ rest0) → y.root ≡ x.root → y.id ≢ y.root
    not_own y q same own = let at = sound.alone y x (one_of_all y q) (one_of_all x here) own (sym same) in other_one (at ∙ (own ∙ same))

    drafts_few : length (drafts_of g more) ≤ 4
    drafts_few = let a = drafts_long g (tail_of more) in let b = tail_long more in let c = (is_group l x rest0 now).few in let d = long in omega arith

    drafts_some : 1 ≤ length (drafts_of g more)
    drafts_some = let a = drafts_long g (tail_of more) in let c = some in let d = long in omega arith

    whole : All IsWhole (drafts_of g more)
    whole = draft_whole g more (λ y q. (let w = one_of_all y (in_taken_from count (x ∷ rest0) y q) in (sound.stage y w, (sound.bodies y w).0)))

    there_is : more ≡ true → (y : Survivor) × In y rest × (y.root ≡ x.root)
    there_is is = let a = leb-true (suc count) now is in let c = counted in some_left x.root rest (omega arith)

    none : more ≡ false → (y : Survivor) → In y rest → y.root ≢ x.root
    none is = let a = ltb-false count now is in let c = counted in none_left x.root rest (omega arith)

    group_turn : (y : Group × Bearing) → group_born l p x (x ∷ rest0) families (root, carrier) b ≡ Some y → Turn l p k survivors (drop y.0.count (x ∷ rest0)) (moved ++ named_in y.0 (x ∷ rest0)) y.1 × (1 ≤ y.0.count)
    group_turn y is = subst (λ (z : Group × Bearing). Turn l p k survivors (drop z.0.count (x ∷ rest0)) (moved ++ named_in z.0 (x ∷ rest0)) z.1 × (1 ≤ z.0.count)) (same_some (made born.0) y born.2) (turn, some)
      where
        made : ℕ × Placing → Group × Bearing
        made born = (
          record { root = root; first = born.0; count = count },
          record { placing = born.1; families = slice_set families x.root (record { carrier = Some (root, born.0 + count); left = now - count }) },
        )

        born : (z : ℕ × Placing) × (born_next p (drafts_of g more) carrier (home_of l x.id) b ≡ Some z) × (Some (made z) ≡ Some y)
        born = and_then_some (λ (born : ℕ × Placing). Some (made born)) (born_next p (drafts_of g more) carrier (home_of l x.id) b) y is

        first : ℕ
        first = born.0.0

        t : State
        t = born.0.1.manager

        next : BornNext p b.manager b.cursor bears.low carrier (drafts_of g more) born.0
        next =
            let parts = ap (λ (l : Limits). l.parts) bears.limits in
            next_born_so p b bears.low bears.reached bears.idle (omega arith) bears.climbs (drafts_of g more) carrier (home_of l x.id) born.0 whole drafts_some drafts_few born.1

        one : Family
        one = record { carrier = Some (root, first + count); left = now - count }

        families' : List Family
        families' = slice_set families x.root one

        bears' : Bears p k carriers done (g ++ rest) moved b.manager b.cursor
        bears' = subst (λ xs. Bears p k carriers done xs moved b.manager b.cursor) (sym (take-append-drop count (x ∷ rest0))) bears

        low_same : bears'.low ≤ first
        low_same = next.low_is

        after : Bears p k (carrier_of families') (done ++ g) rest (moved ++ named_in (record { root = root; first = first; count = count }) (x ∷ rest0)) t born.0.1.cursor
        after = group_born_so p k carriers (carrier_of families') done g rest moved b.manager b.cursor bears' x (head_taken count x rest0 some) x.root root carrier has group
            (λ y q. not_own y (in_taken_from count (x ∷ rest0) y q) (group y q)) more there_is none t next.pass first born.0.1.cursor next.idle next.borne low_same next.climbs (next.keeps bears.keeps)
            (λ q same. ap (λ (f : Family). f.carrier) (set_at families x.root one q (inside x here) same) ∙ ap (λ n. Some (root, first + n)) (sym long))
            (λ q not. ap (λ (f : Family). f.carrier) (set_elsewhere families x.root one q not) ∙ sym (same_else q not))

        turn : Turn l p k survivors rest (moved ++ named_in (record { root = root; first = first; count = count }) (x ∷ rest0)) (record { placing = born.0.1; families = families' })
        turn = record {
          done = done ++ g;
          all = append_assoc done g rest ∙ (ap (λ xs. done ++ xs) (take-append-drop count (x ∷ rest0)) ∙ all);
          bears = after;
          inside = λ y q. (let a = inside y (in_dropped count (x ∷ rest0) y q) in let n = length-set families x.root one in omega arith);
          left = λ y q. elim (eqb_tells y.root x.root) [
            | inl e ↦ ap (λ (f : Family). f.left) (set_at families x.root one y.root (inside x here) e.1) ∙ (let c = counted in let d = ap (λ r. of_root r rest) e.1 in omega arith)
            | inr e ↦ ap (λ (f : Family). f.left) (set_elsewhere families x.root one y.root e.1) ∙ (left y (in_dropped count (x ∷ rest0) y q) ∙ of_others x.root y.root count (x ∷ rest0) group e.1)
          ];
          order = order_dropped count (x ∷ rest0) order;
          same_kept = next.same_kept ∙ same_kept;
          roots = λ y q own. (let q' = in_dropped count (x ∷ rest0) y q in let not : y.root ≢ x.root = λ same. not_own y q' same own in
              ap (λ (f : Family). f.carrier) (set_elsewhere families x.root one y.root not) ∙ roots y q' own);
        }

  -- ---- the first of these, by itself or in its group

  alike_in : (y : Survivor) → In y (x ∷ rest0) → y.root ≡ x.root → (x.root_stage ≡ y.root_stage) × (x.root_body ≡ y.root_body)
  alike_in y q same = sound.alike x y (one_of_all x here) (one_of_all y q) (sym same)

  alone_in : x.id ≡ x.root → (y : Survivor) → In y rest0 → y.root ≢ x.root
  alone_in own y q same =
      let at = sound.alone x y (one_of_all x here) (one_of_all y (there q)) own same in
      let low = above (x.id + 1) rest0 y order.1.1 q in omega (arith, at, low)

  abbrev IsTurn : Group × Bearing → Type 0
  IsTurn z = Turn l p k survivors (drop z.0.count (x ∷ rest0)) (moved ++ named_in z.0 (x ∷ rest0)) z.1 × (1 ≤ z.0.count)

  module _ (b : Placing) (bears : Bears p k (carrier_of families) done (x ∷ rest0) moved b.manager b.cursor) (same_kept : b.cursor.kept ≡ kept_for survivors) where
    -- where nothing of its family is born yet
    first_turn : carrier_of families x.root ≡ None → (y : Group × Bearing)
        → option_and_then (root_or_group l p x (x ∷ rest0) families) (carrier_by p x (home_of l x.id) None b) ≡ Some y → IsTurn y
    first_turn none y is = go (x.id == x.root) refl has.2
      where
        both : ℕ × Placing → (ℕ × ℕ) × Placing
        both made = ((made.0, made.0), made.1)

        has : (h : (ℕ × ℕ) × Placing) × (carrier_by p x (home_of l x.id) None b ≡ Some h) × (root_or_group l p x (x ∷ rest0) families h ≡ Some y)
        has = and_then_some (root_or_group l p x (x ∷ rest0) families) (carrier_by p x (home_of l x.id) None b) y is

        made : (m : ℕ × Placing) × (submitted_next p x.root_stage x.root_body (home_of l x.id) b ≡ Some m) × (Some (both m) ≡ Some has.0)
        made = and_then_some (λ (made : ℕ × Placing). Some (both made)) (submitted_next p x.root_stage x.root_body (home_of l x.id) b) has.0 has.1

        id : ℕ
        id = made.0.0

        b1 : Placing
        b1 = made.0.1

        has_is : both made.0 ≡ has.0
        has_is = same_some (both made.0) has.0 made.2

        sent : SentNext p b.manager b.cursor bears.low x.root_stage x.root_body made.0
        sent =
            let parts = ap (λ (l : Limits). l.parts) bears.limits in
            sent_next p b bears.low bears.reached bears.idle (omega arith) bears.climbs x.root_stage x.root_body (home_of l x.id) made.0 (sound.bodies x (one_of_all x here)).1 made.1

        alone : x.id ≡ x.root → IsTurn (record { root = id; first = id; count = 1 }, record { placing = b1; families = families })
        alone own = (
          record {
            done = done ++ x ∷ [];
            all = append_assoc done (x ∷ []) rest0 ∙ all;
            bears = root_named p k (carrier_of families) done x rest0 moved b.manager b.cursor bears none alike_in b1.manager sent.pass id b1.cursor sent.idle sent.sent sent.low_is sent.climbs (sent.keeps bears.keeps) (sound.own x (one_of_all x here) own) (alone_in own);
            inside = λ y q. inside y (there q);
            left = λ y q. left y (there q) ∙ of_others x.root y.root 1 (x ∷ rest0) (λ z r. ap (λ (w : Survivor). w.root) (in_one r)) (alone_in own y q);
            order = (x.id + 1, order.1.1);
            same_kept = sent.same_kept ∙ same_kept;
            roots = λ y q. roots y (there q);
          },
          omega arith,
        )

        go : (c : Bool) → (x.id == x.root) ≡ c
            → (if c then Some (record { root = has.0.0.0; first = has.0.0.0; count = 1 }, record { placing = has.0.1; families = families }) else group_born l p x (x ∷ rest0) families has.0.0 has.0.1) ≡ Some y → IsTurn y
        go true own got =
            let z : Group × Bearing = (record { root = has.0.0.0; first = has.0.0.0; count = 1 }, record { placing = has.0.1; families = families }) in
            subst IsTurn (same_some z y got)
            (subst (λ (h : (ℕ × ℕ) × Placing). IsTurn (record { root = h.0.0; first = h.0.0; count = 1 }, record { placing = h.1; families = families })) has_is (alone (eqb-true x.id x.root own)))
        go false other got =
            let carriers = with_carrier (carrier_of families) x.root (id, id) in
            group_turn (λ same. (let q = eq-eqb x.id x.root same in let c = sym other ∙ q in cc)) carriers b1
            (root_sent p k (carrier_of families) done (x ∷ rest0) moved b.manager b.cursor bears x here none alike_in b1.manager sent.pass id b1.cursor sent.idle sent.sent sent.low_is sent.climbs (sent.keeps bears.keeps))
            id id (if_same x.root x.root (Some (id, id)) (carrier_of families x.root) refl) (λ q not. if_other q x.root (Some (id, id)) (carrier_of families q) not) (sent.same_kept ∙ same_kept) y
            (subst (λ (h : (ℕ × ℕ) × Placing). group_born l p x (x ∷ rest0) families h.0 h.1 ≡ Some y) (sym has_is) got)

    -- where some is
    later_turn : (root carrier : ℕ) → carrier_of families x.root ≡ Some (root, carrier) → (y : Group × Bearing)
        → option_and_then (root_or_group l p x (x ∷ rest0) families) (carrier_by p x (home_of l x.id) (Some (root, carrier)) b) ≡ Some y → IsTurn y
    later_turn root carrier has y is = go (x.id == x.root) refl is
      where
        go : (c : Bool) → (x.id == x.root) ≡ c
            → (if c then Some (record { root = root; first = root; count = 1 }, record { placing = b; families = families }) else group_born l p x (x ∷ rest0) families (root, carrier) b) ≡ Some y → IsTurn y
        go true own got = absurd (let none = roots x here (eqb-true x.id x.root own) in let q = sym none ∙ has in cc)
        go false other got = group_turn (λ same. (let q = eq-eqb x.id x.root same in let c = sym other ∙ q in cc)) (carrier_of families) b bears root carrier has (λ q not. refl) same_kept y got

    next_turn : (o : Option (ℕ × ℕ)) → carrier_of families x.root ≡ o → (y : Group × Bearing)
        → option_and_then (root_or_group l p x (x ∷ rest0) families) (carrier_by p x (home_of l x.id) o b) ≡ Some y → IsTurn y
    next_turn None is y got = first_turn is y got
    next_turn (Some (root, carrier)) is y got = later_turn root carrier is y got

-- ---- all of them

pub record AllBorn (p : ℕ) (k : Limits) (survivors : List Survivor) (y : List Moved × State) : Type 0 where
  pub carriers : ℕ → Option (ℕ × ℕ)
  pub cursor : Cursor
  pub kept_is : cursor.kept ≡ kept_for survivors
  pub bears : Bears p k carriers survivors [] y.0 y.1 cursor

module _ (l : Limits) (p : ℕ) (k : Limits) (survivors : List Survivor) (sound : AreSound l k.attempts survivors) (many : p ≤ k.parts) where
  ended : (moved : List Moved) (b : Bearing) (y : List Moved × State) → Some (moved, b.placing.manager) ≡ Some y → Turn l p k survivors [] moved b → AllBorn p k survivors y
  ended moved b y is turn =
      let at : List Moved × State = (moved, b.placing.manager) in
      let same : turn.done ≡ survivors = sym (append_nil turn.done) ∙ turn.all in
      subst (AllBorn p k survivors) (same_some at y is) (record {
        carriers = carrier_of b.families;
        cursor = b.placing.cursor;
        kept_is = turn.same_kept;
        bears = subst (λ xs. Bears p k (carrier_of b.families) xs [] moved b.placing.manager b.placing.cursor) same turn.bears;
      })

  turns : (n : ℕ) (rest : List Survivor) (moved : List Moved) (b : Bearing) (y : List Moved × State) → length rest ≤ n → born_from l p n rest moved b ≡ Some y → Turn l p k survivors rest moved b → AllBorn p k survivors y
  turns zero [] moved b y few is turn = ended moved b y is turn
  turns zero (x ∷ rest) moved b y few is turn = absurd (omega (arith, few))
  turns (suc n) [] moved b y few is turn = ended moved b y is turn
  turns (suc n) (x ∷ rest) moved b y few is turn =
      let born = and_then_some (λ (born : Group × Bearing). born_from l p n (drop born.0.count (x ∷ rest)) (moved ++ named_in born.0 (x ∷ rest)) born.1) (next_born l p (x ∷ rest) b) y is in
      let next = next_turn l p k survivors sound many x rest moved b.families turn.done turn.all turn.inside turn.left turn.order turn.roots b.placing turn.bears turn.same_kept (carrier_of b.families x.root) refl born.0 born.1 in
      turns n (drop born.0.0.count (x ∷ rest)) (moved ++ named_in born.0.0 (x ∷ rest)) born.0.1 y (shorter born.0.0.count (x ∷ rest) n next.1 few) born.2 next.0

  start_claims : (c : ℕ) → (pass_at (start k) c).claimed ≡ 0
  start_claims c = go (range_with_len 0 k.parts) c
    where
      go : (xs : List ℕ) (c : ℕ) → (slice_index_or (map (fresh_pass k.rows) xs) c no_pass).claimed ≡ 0
      go [] c = refl
      go (x ∷ xs) zero = refl
      go (x ∷ xs) (suc c) = go xs c

  pub all_born_so : AreLimits k → (y : List Moved × State) → all_born l p survivors (start k) ≡ Some y → AllBorn p k survivors y
  all_born_so limits y is =
      let fam = families_start l survivors sound.inside in
      let cursor : Cursor = record { at = 0; block = None; kept = kept_for survivors } in
      turns (length survivors) survivors [] (record { placing = record { manager = start k; cursor = cursor }; families = families_of l survivors }) y (omega arith) is (record {
        done = [];
        all = refl;
        bears = record {
          reached = start_reached k limits;
          idle = start_idle k;
          limits = refl;
          low = 0;
          climbs = start_climbs k p (kept_for survivors) many;
          keeps = λ c is. (let e = start_claims c in let some = limits.units.0 in omega arith);
          up = tt;
          below = λ m q. absurd (in_none q);
          each = tt;
          families = λ m n q r. absurd (in_none q);
          stands = λ x q. subst (FamilyStands (start k) [] x) (sym (fam.carriers x.root)) (λ m r. absurd (in_none r));
          apart = λ x z q r a c i j has has' same. absurd (let f = fam.carriers x.root in let e = sym f ∙ has in cc);
          only = λ z born. absurd (cc (born));
        };
        inside = fam.inside;
        left = λ x q. fam.left x.root (fam.inside x q);
        order = (0, sound.up);
        same_kept = refl;
        roots = λ x q own. fam.carriers x.root;
      })
