-- What an account leaves to the keeper and to the passes.
use Rattle.std.proofs.Common.{◌≡◌, ℕ, zero, suc, ◌+◌, ◌-◌, ◌*◌, ◌<◌, ◌≤◌, List, [], ◌∷◌, length, sym, refl, ap, ◌∙◌, subst, arith, ⊎_elim, All}
use Rattle.std.proofs.lemmas.Bool.Decides.{leb_tells}
use Rattle.std.proofs.lemmas.List.Elements.{All-cons}
use Rattle.std.specs.List.{AllZip}
use mathlib.Core.List.{IsPrefix}
use Rattle.atomic_table.specs.Seated.{TableId}
use Rattle.tp_model.specs.declared.types.Account.{Account}
use Rattle.tp_model.specs.declared.types.Limits.{Limits}
use Rattle.tp_model.specs.declared.event.Event.{Event}
use Rattle.tp_model.specs.Accounts.{account_among, account_of}
use Rattle.tp_model.specs.History.{events_by}
use Rattle.tp_model.specs.Steps.{IsLegal}
use Rattle.tp_model.proofs.Bridges.{begins_refl, in_none}
use Rattle.tp_rule.specs.Views.{SeatShown, fresh_from, view_of}
use Rattle.tp_rule.specs.declared.view.View.{View}
use Rattle.tp_manager.specs.Accounts.{Accounts, AreAll, AreNumberedFrom, Attends, HaveDrawn, steps_together, Gathers}
use Rattle.tp_manager.specs.Bounds.{account_steps, first_steps, kept_steps, led_steps, gather_first, gather_kept, gather_steps}
use Rattle.tp_manager.specs.Calls.{steps_of}
use Rattle.tp_manager.specs.Shown.{Climbs, Spot, KeeperShown, PassShown, shown, steps_in}
use Rattle.tp_manager.specs.Together.{AreLots, HasLookedOn, HaveFound, IsAt, Joins, lots, GathersWith}
use Rattle.tp_manager.specs.BetweenCalls.{Keeps, untraced}
use Rattle.tp_manager.proofs.Accounts.Closing.{joins_at, joins_long, untraced_long}
use Rattle.tp_manager.proofs.Calls.Follows.{follows_within}
use Rattle.tp_manager.proofs.Accounts.Lots.{have_drawn}
use Rattle.tp_manager.proofs.Calls.Passes.{quiet_looked}
use Rattle.tp_manager.proofs.Accounts.Stills.{none_beyond, none_of_fresh, same_events}
use Rattle.tp_manager.proofs.Calls.CallSteps as walks
use Rattle.tp_manager.proofs.Calls.CallSteps.{follows, has_looked}

-- no pass that isn't given out has an event in what all have seen
none_given : (l : Limits) (given k : ℕ) (h : List Event) (v w : View) → given ≤ l.parts → IsLegal l h → untraced v.hands ≡ fresh_from l given (l.parts - given) → HasLookedOn l k h v w → (c : ℕ) → given ≤ c → events_by c h ≡ []
none_given l given k h v w below legal fresh seen c low = ⊎_elim
    (λ t. let out : l.parts ≤ c = t.1 in none_beyond l c out [] h legal)
    (λ t. let within : c < l.parts = t.1 in none_of_fresh l given h w.hands below (seen.hands ∙ fresh) seen.mine c low within)
    (leb_tells l.parts c)

-- the keeper after it has looked
pub keeps_seen : (seat next : SeatShown) (l k : Limits) (given n : ℕ) (h : List Event) → k ≡ l → Keeps seat l given → IsLegal k h → HasLookedOn k n h (view_of seat) (view_of next) → Keeps next l given
keeps_seen seat next l k given n h same keeps legal' seen' =
    let seen : HasLookedOn l n h (view_of seat) (view_of next) = subst (λ (z : Limits). HasLookedOn z n h (view_of seat) (view_of next)) same seen' in
    let legal : IsLegal l h = subst (λ (z : Limits). IsLegal z h) same legal' in record {
      valid = keeps.valid;
      limits_are = seen.limits;
      below = keeps.below;
      rest = seen.hands ∙ keeps.rest;
      legal = subst (IsLegal l) (sym seen.seen) legal;
      known = seen.known;
      none = λ c low. ap (events_by c) seen.seen ∙ none_given l given n h (view_of seat) (view_of next) keeps.below legal keeps.rest seen c low;
    }

module _ (table : TableId) (l : Limits) (h : List Event) (k : ℕ) where
  attend_all : (n : ℕ) (olds news : List PassShown) → k ≤ n → AllZip (Joins table l k h) olds news → AllZip (Attends n h) olds news
  attend_all n [] [] few a = tt
  attend_all n [] (q ∷ qs) few a = absurd a
  attend_all n (p ∷ ps) [] few a = absurd a
  attend_all n (p ∷ ps) (q ∷ qs) few a = let t = a.0.attends in (record { seen = t.seen; follows = follows_within k n p q few t.follows; looks = t.looks; quiet = t.quiet; turn = t.turn }, attend_all n ps qs few a.1)

  -- each of them has made so few steps
  few_together : (olds news : List PassShown) → AllZip (Joins table l k h) olds news → steps_together olds news ≤ k * length olds
  few_together [] [] a = omega arith
  few_together [] (q ∷ qs) a = absurd a
  few_together (p ∷ ps) [] a = absurd a
  few_together (p ∷ ps) (q ∷ qs) a = let one = a.0.attends.follows.few in let rest = few_together ps qs a.1 in omega arith

  from_still : (c : ℕ) (olds news : List PassShown) → AreNumberedFrom c olds → AllZip (Joins table l k h) olds news → AreNumberedFrom c news
  from_still c [] [] from a = tt
  from_still c [] (q ∷ qs) from a = absurd a
  from_still c (p ∷ ps) [] from a = absurd a
  from_still c (p ∷ ps) (q ∷ qs) from a = (a.0.attends.follows.number ∙ from.0, from_still (c + 1) ps qs from.1 a.1)

-- how many passes aren't given out
fresh_long : (l : Limits) (c n : ℕ) → length (fresh_from l c n) ≡ n
fresh_long l c zero = refl
fresh_long l c (suc n) = let e = fresh_long l (c + 1) n in omega arith

pub kept_long : (seat : SeatShown) (l : Limits) (given : ℕ) → Keeps seat l given → length (view_of seat).hands ≡ l.parts - given
kept_long seat l given keeps = sym (untraced_long (view_of seat).hands) ∙ (ap length keeps.rest ∙ fresh_long l given (l.parts - given))

-- the first pass v, which is w afterwards, and the others gathered, in at most n steps
module _ (table : TableId) (l : Limits) (f k j n : ℕ) (t t' : Spot) (rises : Climbs t t') (turn : t'.from ≡ t.from) (v w v' w' : View) (ps olds news : List PassShown) (old : PassShown) (split : ps ≡ old ∷ olds) (is : shown t v ≡ old) (c : GathersWith table l f k j v w v' w' olds news) (led : j ≤ n) (enough : f + j * length olds + k * (l.parts - (length olds + 1)) ≤ n) where
  long : length ps ≡ length olds + 1
  long = let e : length ps ≡ suc (length olds) = ap length split in omega arith

  first_attends : Attends n w.seen old (shown t' w)
  first_attends = record {
    seen = refl;
    follows = follows t t' rises v w old is l f c.first.marks c.first.walk n (omega arith);
    looks = has_looked t t' v w old is l f c.first.marks c.first.walk c.first.step;
    quiet = quiet_looked t t' v w old is l f (walks.looked l f v w c.first);
    turn = turn ∙ ap (λ (p : PassShown). p.from) is;
  }

  pub all_attend : AllZip (Attends n w.seen) ps (shown t' w ∷ news)
  all_attend = subst (λ (qs : List PassShown). AllZip (Attends n w.seen) qs (shown t' w ∷ news)) (sym split) (first_attends, attend_all table l w.seen j n olds news led c.passes)

  first_few : length (steps_of old (shown t' w)) ≤ f
  first_few = (follows t t' rises v w old is l f c.first.marks c.first.walk f (omega arith)).few

  -- the steps of all passes, those that aren't given out too
  pub all_steps : length v'.hands ≡ l.parts - length ps → steps_together ps (shown t' w ∷ news) + steps_in w'.hands ≤ steps_in v'.hands + n
  all_steps out = subst (λ (qs : List PassShown). steps_together qs (shown t' w ∷ news) + steps_in w'.hands ≤ steps_in v'.hands + n) (sym split) whole
    where
      whole : steps_together (old ∷ olds) (shown t' w ∷ news) + steps_in w'.hands ≤ steps_in v'.hands + n
      whole = let one = first_few in let rest = few_together table l w.seen j olds news c.passes in let others = c.others.steps in
          let kept : length v'.hands ≡ l.parts - (length olds + 1) = out ∙ ap (λ m. l.parts - m) long in
          let same : k * length v'.hands ≡ k * (l.parts - (length olds + 1)) = ap (λ m. k * m) kept in omega arith

  -- they are all passes still, in order of number
  pub all_still : (keeper : KeeperShown) → AreAll keeper ps → (keeper' : KeeperShown) → keeper'.given ≡ keeper.given → AreAll keeper' (shown t' w ∷ news)
  all_still keeper all keeper' same =
      let from : AreNumberedFrom 0 (old ∷ olds) = subst (AreNumberedFrom 0) split all.1 in
      let many = all.0 in
      let e = long in
      let rest = joins_long table l j w.seen olds news c.passes in
      (omega arith, (c.first.walk.number ∙ (ap (λ (p : PassShown). p.number) is ∙ from.0), from_still table l w.seen j 1 olds news from.1 c.passes))

  pub all_at : t'.table ≡ table → All (IsAt table l) (shown t' w ∷ news)
  all_at there = All-cons (IsAt table l) (shown t' w) news record { table_is = there; limits_are = c.first.walk.steady.pass.1 } (joins_at table l j w.seen olds news c.passes)

  pub gathers : (seat : SeatShown) (given : ℕ) (keeper keeper' : KeeperShown) → Keeps seat l given → given ≡ keeper.given → view_of seat ≡ v' → keeper.seen ≡ v'.seen → keeper'.seen ≡ w'.seen
      → AreAll keeper ps → (d : ℕ) → AreLots l d (lots w w' news) → HaveFound d (shown t' w ∷ news) → Gathers l n keeper keeper' ps (shown t' w ∷ news)
  gathers seat given keeper keeper' keeps out at before after all d shares found =
      let end : keeper'.seen ≡ w.seen = after ∙ c.others.seen in
      let legal : IsLegal l w.seen = c.first.walk.steady.shows.legal in
      let none : (x : ℕ) → given ≤ x → events_by x w.seen ≡ [] = none_given l given k w.seen v' w' keeps.below legal (ap (λ (z : View). untraced z.hands) (sym at) ∙ keeps.rest) c.others in
      let many : given ≡ length news + 1 = out ∙ (sym all.0 ∙ (long ∙ ap (λ z. z + 1) (sym (joins_long table l j w.seen olds news c.passes)))) in
      let fresh : untraced w'.hands ≡ fresh_from l (length news + 1) (l.parts - (length news + 1)) = c.others.hands ∙ (ap (λ (z : View). untraced z.hands) (sym at) ∙ (keeps.rest ∙ ap (λ z. fresh_from l z (l.parts - z)) many)) in
      let below = keeps.below in record {
        legal = subst (IsLegal l) (sym end) legal;
        begins = subst (λ (z : List Event × List Event). IsPrefix z.0 z.1) (λ i. (sym before i, sym end i)) c.saw;
        passes = subst (λ z. AllZip (Attends n z) ps (shown t' w ∷ news)) (sym end) all_attend;
        others = λ x low. ap (events_by x) end ∙ none x (subst (λ m. m ≤ x) (sym out) low);
        drawn = d;
        blocks = have_drawn l d w w' (shown t' w) news refl (all_still keeper all keeper refl).1 (omega arith) fresh shares found;
      }

-- the steps of an account, and of passes that gather, are of the first, those that are given out, and the others
one_more : (ps olds : List PassShown) (old : PassShown) → ps ≡ old ∷ olds → length ps ≡ length olds + 1
one_more ps olds old split = let e : length ps ≡ suc (length olds) = ap length split in omega arith

module _ (l : Limits) (ps olds : List PassShown) (old : PassShown) (split : ps ≡ old ∷ olds) where
  pub gather_led : led_steps ≤ gather_steps l (length ps)
  gather_led = subst (λ n. led_steps ≤ gather_steps l n) (sym (one_more ps olds old split)) (omega arith)

  pub gather_enough : gather_first (length olds + 1) + led_steps * length olds + gather_kept * (l.parts - (length olds + 1)) ≤ gather_steps l (length ps)
  gather_enough = subst (λ n. gather_first (length olds + 1) + led_steps * length olds + gather_kept * (l.parts - (length olds + 1)) ≤ gather_steps l n) (sym (one_more ps olds old split)) (omega arith)

  pub account_led : 2 * led_steps ≤ account_steps l (length ps)
  account_led = subst (λ n. 2 * led_steps ≤ account_steps l n) (sym (one_more ps olds old split)) (omega arith)

  pub account_enough : first_steps l (length olds + 1) + 2 * led_steps * length olds + kept_steps * (l.parts - (length olds + 1)) ≤ account_steps l (length ps)
  account_enough = subst (λ n. first_steps l (length olds + 1) + 2 * led_steps * length olds + kept_steps * (l.parts - (length olds + 1)) ≤ account_steps l n) (sym (one_more ps olds old split)) (omega arith)

-- where no pass is given out nothing has happened
module _ (l : Limits) (seat : SeatShown) (keeper : KeeperShown) (ps : List PassShown) (keeps : Keeps seat l keeper.given) (is : keeper.seen ≡ (view_of seat).seen) (none : ps ≡ []) where
  legal_seen : IsLegal l keeper.seen
  legal_seen = subst (IsLegal l) (sym is) keeps.legal

  no_events : (c : ℕ) → keeper.given ≤ c → events_by c keeper.seen ≡ []
  no_events c low = ap (events_by c) is ∙ keeps.none c low

  pub gathers_none : (n : ℕ) → Gathers l n keeper keeper ps ps
  gathers_none n = record {
    legal = legal_seen;
    begins = begins_refl keeper.seen;
    passes = subst (λ (qs : List PassShown). AllZip (Attends n keeper.seen) qs qs) (sym none) tt;
    others = no_events;
    drawn = 0;
    blocks = subst (HaveDrawn 0) (sym none) record { found = λ p i. absurd (in_none i); below = λ p i. absurd (in_none i); all = λ b less. absurd (omega arith); alone = λ p q b i. absurd (in_none i); total = refl };
  }

  pub accounts_none : (account : Account) → length ps ≡ keeper.given → account ≡ account_among l.attempts [] [] → Accounts l keeper keeper ps ps account
  accounts_none account all nothing =
      let zero_out : keeper.given ≡ 0 = sym all ∙ ap length none in
      let empty : keeper.seen ≡ [] = same_events l [] keeper.seen legal_seen (keeper.seen, refl) (λ c below. no_events c (omega arith)) in record { gathers = gathers_none (account_steps l (length ps)); account_is = nothing ∙ ap (account_of l.attempts) (sym empty) }
