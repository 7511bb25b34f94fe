-- All are born, group by group.
use Rattle.std.proofs.Common.{◌≡◌, ℕ, zero, suc, ◌+◌, ◌-◌, ◌<◌, ◌≤◌, ◌++◌, Option, Some, None, Result, Ok, Err, List, [], ◌∷◌, drop, length, take, refl, sym, ◌∙◌, ap, subst, arith, length-drop}
use Rattle.std.proofs.lemmas.List.{drop-drop, drop_all, length-take, take_at, take_rest}
use Rattle.std.specs.Option.{option_and_then}
use Rattle.std.specs.Result.{IsErrAnd}
use Rattle.tp_model.specs.declared.types.Limits.{Limits}
use Rattle.tp_plain.specs.OneThread.{State}
use Rattle.tp_rollover.specs.Anew.{Bearing, Placing, all_born, born_from, families_of, kept_for, named_in, next_born}
use Rattle.tp_rollover.specs.Fits.{AreFit, StopsUnfit}
use Rattle.tp_rollover.specs.Lone.{AgreesUnless}
use Rattle.tp_rollover.specs.Runs.{BearsOn, ComesShort, GoesFurther}
use Rattle.tp_rollover.specs.declared.births.Family.{Family}
use Rattle.tp_rollover.specs.declared.births.Group.{Group}
use Rattle.tp_rollover.specs.declared.moved.Moved.{Moved}
use Rattle.tp_rollover.specs.declared.places.Cursor.{Cursor}
use Rattle.tp_rollover.specs.declared.stops.Stop.{Stop}
use Rattle.tp_rollover.specs.declared.stops.Stop.TheVariants as stops
use Rattle.tp_rollover.specs.declared.survivors.Survivor.{Survivor}

-- those that are left from here on
abbrev pub left_of : List Survivor → ℕ → List Survivor
left_of survivors from = take (length survivors - from) (drop from survivors)

pub not_past : (survivors : List Survivor) (from i n : ℕ) → from ≡ i → from < length survivors → n ≤ length (left_of survivors from) → i + n ≤ length survivors
not_past survivors from i n same less inside =
    let e = length-drop from survivors in
    let f = length-take (length survivors - from) (drop from survivors) in
    omega (arith, e, f, same, less, inside)

pub some_left : (survivors : List Survivor) (from : ℕ) → from < length survivors → 1 ≤ length (left_of survivors from)
some_left survivors from less =
    let e = length-drop from survivors in
    let f = length-take (length survivors - from) (drop from survivors) in
    omega (arith, e, f, less)

-- a turn of the same leaves the same
pub same_turn : {A : Type 0} (l l' : Limits) (p p' : ℕ) (rest : List Survivor) (moved moved' : List Moved) (at at' : Placing) (fs fs' gs gs' : List Family) (result : Result A Stop) → l ≡ l' → p ≡ p' → fs ≡ fs' → gs ≡ gs'
    → BearsOn l p rest moved moved' (record { placing = at; families = fs }) (record { placing = at'; families = gs }) result → BearsOn l' p' rest moved moved' (record { placing = at; families = fs' }) (record { placing = at'; families = gs' }) result
same_turn l l' p p' rest moved moved' at at' fs fs' gs gs' result a b c d on =
    subst (λ x. BearsOn x p' rest moved moved' (record { placing = at; families = fs' }) (record { placing = at'; families = gs' }) result) a
    (subst (λ x. BearsOn l x rest moved moved' (record { placing = at; families = fs' }) (record { placing = at'; families = gs' }) result) b
    (subst (λ x. BearsOn l p rest moved moved' (record { placing = at; families = x }) (record { placing = at'; families = gs' }) result) c
    (subst (λ x. BearsOn l p rest moved moved' (record { placing = at; families = fs }) (record { placing = at'; families = x }) result) d on)))

-- families that were lent are put back
pub put_back : (len : ℕ) (olds news lent : List Family) → lent ≡ olds → len ≡ length olds → length news ≡ length lent → take len (news ++ drop (length news) olds) ≡ news
put_back len olds news lent same known long = take_at news (drop (length news) olds) len (long ∙ (ap length same ∙ sym known))

module _ (l : Limits) (p : ℕ) where
  -- where none are left
  pub born_none : (n : ℕ) (moved : List Moved) (b : Bearing) → born_from l p n [] moved b ≡ Some (moved, b.placing.manager)
  born_none zero moved b = refl
  born_none (suc n) moved b = refl

  -- where some are
  pub born_more : (n : ℕ) (rest : List Survivor) (moved : List Moved) (b b' : Bearing) (g : Group) → 1 ≤ length rest → next_born l p rest b ≡ Some (g, b')
      → born_from l p (suc n) rest moved b ≡ born_from l p n (drop g.count rest) (moved ++ named_in g rest) b'
  born_more n [] moved b b' g some next = absurd (omega (arith, some))
  born_more n (s ∷ rest) moved b b' g some next =
      ap (option_and_then (λ (born : Group × Bearing). born_from l p n (drop born.0.count (s ∷ rest)) (moved ++ named_in born.0 (s ∷ rest)) born.1)) next

  -- the births have come so far, and in no more turns than elements are left it comes to all
  pub record IsSoFar (survivors : List Survivor) (moved : List Moved) (b : Bearing) (all : Option (List Moved × State)) : Type 0 where
    pub turns : ℕ
    pub enough : length survivors ≤ length moved + turns
    pub comes : born_from l p turns (drop (length moved) survivors) moved b ≡ all

  -- at the start
  pub all_start : (survivors : List Survivor) (s : State) (moved : List Moved) (cursor : Cursor) (families : List Family) → moved ≡ [] → cursor ≡ record { at = 0; block = None; kept = kept_for survivors } → families ≡ families_of l survivors
      → IsSoFar survivors moved (record { placing = record { manager = s; cursor = cursor }; families = families }) (all_born l p survivors s)
  all_start survivors s moved cursor families none start counted = record {
    turns = length survivors;
    enough = omega arith;
    comes = ap (λ (ms : List Moved). born_from l p (length survivors) (drop (length ms) survivors) ms (record { placing = record { manager = s; cursor = cursor }; families = families })) none
        ∙ (ap (λ at. born_from l p (length survivors) survivors [] (record { placing = record { manager = s; cursor = at }; families = families })) start
        ∙ ap (λ fs. born_from l p (length survivors) survivors [] (record { placing = record { manager = s; cursor = record { at = 0; block = None; kept = kept_for survivors } }; families = fs })) counted);
  }

  module _ (survivors : List Survivor) (from : ℕ) (moved : List Moved) (b : Bearing) (all : Option (List Moved × State)) (so_far : IsSoFar survivors moved b all) (is : from ≡ length moved) where
    -- nothing is left to be done
    pub all_there : length survivors ≤ from → all ≡ Some (moved, b.placing.manager)
    all_there past =
        sym so_far.comes
        ∙ (ap (λ rest. born_from l p so_far.turns rest moved b) (drop_all (length moved) survivors (omega (arith, is, past)))
        ∙ born_none so_far.turns moved b)

    -- the next are born
    module _ (more : from < length survivors) where
      abbrev rest : List Survivor
      rest = left_of survivors from

      at_rest : rest ≡ drop (length moved) survivors
      at_rest = take_rest survivors from ∙ ap (λ n. drop n survivors) is

      rest_long : length moved + length rest ≡ length survivors
      rest_long = let e = length-drop (length moved) survivors in let f = ap length at_rest in omega (arith, e, f, is, more)

      -- in so many turns and the others
      turned : (n : ℕ) → n ≤ length rest → born_from l p (n + (so_far.turns - n)) rest moved b ≡ all
      turned n few =
          ap (λ r. born_from l p (n + (so_far.turns - n)) r moved b) at_rest
          ∙ (ap (λ k. born_from l p k (drop (length moved) survivors) moved b) (let e : n + (so_far.turns - n) ≡ so_far.turns = (let f = rest_long in let g = so_far.enough in omega (arith, few, f, g)) in e)
          ∙ so_far.comes)

      pub one_on : (moved' : List Moved) (b' : Bearing) → GoesFurther l p rest moved moved' b b' → IsSoFar survivors moved' b' all
      one_on moved' b' on =
          let few : on.turns ≤ length rest = (let e = on.few in let f = on.inside in omega (arith, e, f)) in
          let left : drop (length moved') survivors ≡ drop on.count rest =
          ap (λ k. drop k survivors) on.many ∙ (sym (drop-drop on.count (length moved) survivors) ∙ ap (drop on.count) (sym at_rest)) in
          record {
            turns = so_far.turns - on.turns;
            enough = (let e = on.few in let f = on.many in let g = so_far.enough in let h = rest_long in omega (arith, e, f, g, h, few));
            comes = ap (λ r. born_from l p (so_far.turns - on.turns) r moved' b') left ∙ (sym (on.same (so_far.turns - on.turns)) ∙ turned on.turns few);
          }

      comes_short : ComesShort l p rest moved b → all ≡ None
      comes_short short = sym (turned short.turns short.few) ∙ short.none (so_far.turns - short.turns)

      stops_short : (A C Fit : Type 0) (value : A → List Moved × State) (why : Stop) (moved' : List Moved) (b' : Bearing) → BearsOn {A = C} l p rest moved moved' b b' (Err why) → AgreesUnless (Fit → all ≡ None) (Err why) value all
      stops_short A C Fit value stops.NoMemory moved' b' on = tt
      stops_short A C Fit value stops.Full moved' b' on = comes_short on
      stops_short A C Fit value stops.Unequal moved' b' on = λ fit. comes_short on

      pub stops_fit : {A : Type 0} (C Fit : Type 0) (r : Result A Stop) (why : Stop) (value : A → List Moved × State) (moved' : List Moved) (b' : Bearing) → IsErrAnd r (λ e. e ≡ why) → BearsOn {A = C} l p rest moved moved' b b' (Err why)
          → AgreesUnless (Fit → all ≡ None) r value all
      stops_fit C Fit (Ok x) why value moved' b' stops on = absurd stops
      stops_fit {A = A} C Fit (Err e) why value moved' b' stops on = stops_short A C Fit value e moved' b' (subst (λ z. BearsOn {A = C} l p rest moved moved' b b' (Err z)) (sym stops) on)

-- where descriptions aren't fit, or memory is lacking
pub stops_unfit : {A B : Type 0} (l k : Limits) (survivors : List Survivor) (r : Result A Stop) (why : Stop) (value : A → B) (computed : Option B) → IsErrAnd r (λ e. e ≡ why) → StopsUnfit l k survivors why
    → AgreesUnless (AreFit l k survivors → computed ≡ None) r value computed
stops_unfit l k survivors (Ok x) why value computed is unfit = absurd is
stops_unfit {A = A} l k survivors (Err e) why value computed is unfit = go e (subst (StopsUnfit l k survivors) (sym is) unfit)
  where
    go : (e : Stop) → StopsUnfit l k survivors e → AgreesUnless {A = A} (AreFit l k survivors → computed ≡ None) (Err e) value computed
    go stops.NoMemory unfit = tt
    go stops.Full unfit = absurd unfit
    go stops.Unequal unfit = λ fit. absurd (unfit fit)
