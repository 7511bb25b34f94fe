-- The steps of the parts of a rollover, together.
use Rattle.std.proofs.Math.Nat.{mul-add}
use Rattle.std.proofs.Common.{◌≡◌, ℕ, ◌+◌, ◌*◌, ◌≤◌, if◌then◌else◌, is_some, All, List, [], ◌∷◌, ◌++◌, length, refl, sym, ◌∙◌, ap, subst, arith, length-append}
use Rattle.tp_model.specs.declared.types.Account.{Account}
use Rattle.tp_model.specs.declared.types.Limits.{Limits}
use Rattle.tp_model.specs.declared.event.Event.{Event}
use Rattle.tp_model.specs.Accounts.{account_of}
use Rattle.tp_manager.specs.Accounts.{AreAll, steps_together}
use Rattle.tp_manager.specs.Bounds.{abort_steps, account_steps, gather_steps, kill_steps}
use Rattle.tp_manager.specs.Shown.{KeeperShown, PassShown}
use Rattle.tp_rollover.specs.Bounds.{AllMake, PassesMake, alive_after, bear_steps, compare_steps, describe_steps, made_by_all, most_new_steps, most_replay_steps, new_steps, old_steps, renewal_steps, replays_for, search_steps, steps_made, survey_steps, unheld_steps}
use Rattle.tp_rollover.specs.Bounds.{IsWithinLimits, check_steps, gathered, give_up_steps, holds_for}
use Rattle.tp_rollover.specs.Finding.{CountsAlive}
use Rattle.tp_rollover.specs.Survivors.{StandsAgain}
use Rattle.tp_rollover.specs.declared.moved.Moved.{Moved}
use Rattle.tp_rollover.specs.declared.survivors.Survivor.{Survivor}
use Rattle.tp_rollover.proofs.Lists.{zip_as_many}
use Rattle.std.specs.List.{AllZip}
use Rattle.tp_rollover.specs.Thread.{Stays}
use Rattle.tp_rollover.proofs.Replaying.{all_within, same_replays}
use Rattle.tp_rollover.proofs.Steps.{no_more, together_make}

-- what a gathering or an account took
pub all_make : (n : ℕ) (keeper keeper' : KeeperShown) (olds news : List PassShown) → AreAll keeper olds → AreAll keeper' news → keeper'.given ≡ keeper.given
    → steps_together olds news + keeper'.steps ≤ keeper.steps + n → AllMake n keeper olds keeper' news
all_make n keeper keeper' olds news all all' given made = let e = together_make olds news (all'.0 ∙ (given ∙ sym all.0)) in omega (arith, e, made)

-- an account counts what is alive
pub count_is : (limit : ℕ) (a : Account) (h : List Event) (n : ℕ) → a ≡ account_of limit h → CountsAlive n a.total → alive_after limit h ≡ n
count_is limit a h n is counted = ap (λ (b : Account). b.total.waiting + b.total.parked + b.total.held) (sym is) ∙ counted

-- a survey has come so far
module _ (l : Limits) (p n : ℕ) (keeper keeper1 : KeeperShown) (olds olds1 : List PassShown) (counted : AllMake (account_steps l p) keeper olds keeper1 olds1) where
  module _ (olds2 : List PassShown) (found : PassesMake (search_steps l n + n * describe_steps l) olds1 olds2) where
    pub survey_gathered : (keeper2 : KeeperShown) (olds3 : List PassShown) → AllMake (gather_steps l p) keeper1 olds2 keeper2 olds3 → AllMake (survey_steps l p n) keeper olds keeper2 olds3
    survey_gathered keeper2 olds3 gathered = omega (arith, counted, found, gathered)

-- and what makes n elements stand again, by q passes
module _ (k : Limits) (q n : ℕ) (k0 k1 k2 : KeeperShown) (ps0 ps1 ps2 : List PassShown) (began : AllMake (gather_steps k q) k0 ps0 k1 ps1) (given : k1.given ≡ q) (born : AllMake (n * bear_steps k k1.given 1) k1 ps1 k2 ps2) where
  each_renewed : n * renewal_steps k q ≡ n * bear_steps k q 1 + n * most_replay_steps k q
  each_renewed = mul-add n (bear_steps k q 1) (most_replay_steps k q)

  all_born : AllMake (n * bear_steps k q 1) k1 ps1 k2 ps2
  all_born = subst (λ z. AllMake (n * bear_steps k z 1) k1 ps1 k2 ps2) given born

  pub again_born : AllMake (most_new_steps k q n) k0 ps0 k2 ps2
  again_born = let e = each_renewed in let f = all_born in omega (arith, e, f, began)

  module _ (k3 : KeeperShown) (ps3 : List PassShown) (given2 : k2.given ≡ k1.given) (replayed : AllMake (n * most_replay_steps k k2.given) k2 ps2 k3 ps3) where
    all_replayed : AllMake (n * most_replay_steps k q) k2 ps2 k3 ps3
    all_replayed = subst (λ z. AllMake (n * most_replay_steps k z) k2 ps2 k3 ps3) (given2 ∙ given) replayed

    pub again_replayed : AllMake (most_new_steps k q n) k0 ps0 k3 ps3
    again_replayed = let e = each_renewed in let f = all_born in let g = all_replayed in omega (arith, e, f, g, began)

    module _ (k4 : KeeperShown) (ps4 : List PassShown) (given3 : k3.given ≡ k2.given) (counted : AllMake (account_steps k k3.given) k3 ps3 k4 ps4) where
      all_counted : AllMake (account_steps k q) k3 ps3 k4 ps4
      all_counted = subst (λ z. AllMake (account_steps k z) k3 ps3 k4 ps4) (given3 ∙ (given2 ∙ given)) counted

      pub again_counted : AllMake (most_new_steps k q n) k0 ps0 k4 ps4
      again_counted = let e = each_renewed in let f = all_born in let g = all_replayed in let h = all_counted in omega (arith, e, f, g, h, began)

      module _ (ps5 : List PassShown) (held : PassesMake (n * compare_steps k) ps4 ps5) where
        module _ (k5 : KeeperShown) (ps6 : List PassShown) (given4 : k4.given ≡ k3.given) (gathered : AllMake (gather_steps k k4.given) k4 ps5 k5 ps6) where
          all_gathered : AllMake (gather_steps k q) k4 ps5 k5 ps6
          all_gathered = subst (λ z. AllMake (gather_steps k z) k4 ps5 k5 ps6) (given4 ∙ (given3 ∙ (given2 ∙ given))) gathered

          pub again_gathered : AllMake (most_new_steps k q n) k0 ps0 k5 ps6
          again_gathered = let e = each_renewed in let f = all_born in let g = all_replayed in let h = all_counted in let i = all_gathered in omega (arith, e, f, g, h, i, began, held)

          -- by what they have had
          pub again_by : (survivors : List Survivor) → n ≡ length survivors → AllMake (replays_for k k2.given survivors) k2 ps2 k3 ps3 → AllMake (unheld_steps k q survivors) k0 ps0 k5 ps6
          again_by survivors many had =
              let born' = subst (λ z. AllMake (z * bear_steps k q 1) k1 ps1 k2 ps2) many all_born in
              let had' = subst (λ z. AllMake (replays_for k z survivors) k2 ps2 k3 ps3) (given2 ∙ given) had in
              let held' = subst (λ z. PassesMake (z * compare_steps k) ps4 ps5) many held in
              let h = all_counted in
              let i = all_gathered in
              omega (arith, born', had', h, i, began, held')

-- and once those are claimed that are held
module _ (k : Limits) (q : ℕ) (survivors : List Survivor) (k0 k1 k2 : KeeperShown) (ps0 ps1 ps2 : List PassShown) (unheld : AllMake (unheld_steps k q survivors) k0 ps0 k1 ps1) (given : k1.given ≡ q)
    (holds : AllMake (holds_for k k1.given survivors) k1 ps1 k2 ps2) where
  all_held : AllMake (holds_for k q survivors) k1 ps1 k2 ps2
  all_held = subst (λ z. AllMake (holds_for k z survivors) k1 ps1 k2 ps2) given holds

  pub held_within : All (IsWithinLimits k) survivors → AllMake (most_new_steps k q (length survivors)) k0 ps0 k2 ps2
  held_within within =
      let e = mul-add (length survivors) (bear_steps k q 1) (most_replay_steps k q) in
      let f = all_within k q survivors within in
      let g = all_held in
      omega (arith, e, f, g, unheld)

  pub held_by : (g : List Event) (moved : List Moved) → AllZip (StandsAgain k g) survivors moved → AllMake (new_steps k q g moved) k0 ps0 k2 ps2
  held_by g moved all =
      let long : length survivors ≡ length moved = sym (zip_as_many (StandsAgain k g) survivors moved all) in
      let made = subst (λ z. AllMake ((z * bear_steps k q 1 + replays_for k q survivors) + check_steps k q z) k0 ps0 k1 ps1) long unheld in
      let f = same_replays k q g survivors moved all in
      let h = all_held in
      omega (arith, f, h, made)

-- for no more than were counted
pub most_for : (k : Limits) (q a n : ℕ) (keeper keeper' : KeeperShown) (news news' : List PassShown) → a ≤ n → AllMake (most_new_steps k q a) keeper news keeper' news' → AllMake (most_new_steps k q n) keeper news keeper' news'
most_for k q a n keeper keeper' news news' few made = let e = no_more a n (renewal_steps k q) few in let f = no_more a n (compare_steps k) few in omega (arith, e, f, made)

-- and the old ones to the end
pub old_buried : (l : Limits) (p q n : ℕ) (keeper keeper1 keeper2 : KeeperShown) (olds olds1 olds2 : List PassShown) → AllMake (survey_steps l p n) keeper olds keeper1 olds1 → q ≡ p
    → AllMake (give_up_steps l q olds1 + gathered l q (n * kill_steps l)) keeper1 olds1 keeper2 olds2 → AllMake (old_steps l p n + give_up_steps l p olds1) keeper olds keeper2 olds2
old_buried l p q n keeper keeper1 keeper2 olds olds1 olds2 prepared given buried =
    let b = subst (λ z. AllMake (give_up_steps l z olds1 + gathered l z (n * kill_steps l)) keeper1 olds1 keeper2 olds2) given buried in
    omega (arith, prepared, b)

-- where they have done nothing but look in between
pub gives_up_as : (l : Limits) (p : ℕ) (ps qs : List PassShown) → AllZip Stays ps qs → give_up_steps l p qs ≡ give_up_steps l p ps
gives_up_as l p [] [] zip = refl
gives_up_as l p [] (y ∷ qs) zip = absurd zip
gives_up_as l p (x ∷ ps) [] zip = absurd zip
gives_up_as l p (x ∷ ps) (y ∷ qs) zip = ap (λ o. if is_some o then gathered l p abort_steps else 0) zip.0.quiet.open_unit

-- one pass more is given out
made_more : (ps : List PassShown) (p : PassShown) → steps_made (ps ++ p ∷ []) ≡ steps_made ps + length p.trace
made_more [] p = omega arith
made_more (q ∷ ps) p = let rest = made_more ps p in omega (arith, rest)

pub one_more : (ps : List PassShown) (p : PassShown) (keeper keeper' : KeeperShown) (n : ℕ) → length p.trace + keeper'.steps ≡ keeper.steps + 1 → made_by_all keeper ps ≡ n + length ps
    → made_by_all keeper' (ps ++ p ∷ []) ≡ n + length (ps ++ p ∷ [])
one_more ps p keeper keeper' n one made = let e = made_more ps p in let f = length-append ps (p ∷ []) in omega (arith, e, f, one, made)
