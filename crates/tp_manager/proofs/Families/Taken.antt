-- A collection of the next reply.
use Rattle.std.proofs.Common.{◌≡◌, ℕ, suc, ◌+◌, ◌*◌, ◌<◌, ◌≤◌, cond, true, Option, Some, None, List, [], length, refl, sym, ◌∙◌, ap, subst, inl, inr, arith, mul-le-mul_left, mul-le-mul_right}
use Rattle.std.proofs.lemmas.Bool.{cases_lt, eq-eqb}
use mathlib.Core.List.{IsPrefix}
use Rattle.tp_model.specs.declared.types.Element.{Element}
use Rattle.tp_model.specs.declared.types.Limits.{Limits}
use Rattle.tp_model.specs.declared.types.Refusal.{Refusal}
use Rattle.tp_model.specs.declared.types.Refusal.TheVariants as refusals
use Rattle.tp_model.specs.declared.types.Status.TheVariants.{Killed}
use Rattle.tp_model.specs.declared.event.Event.{Event}
use Rattle.tp_model.specs.declared.event.Event.TheVariants.{Kill}
use Rattle.tp_model.specs.Families.{family}
use Rattle.tp_model.specs.History.{IsSettled, element_of, status_of}
use Rattle.tp_model.specs.Steps.{IsLegal, rows_of}
use Rattle.tp_model.proofs.Bridges.{begins_refl, begins_trans, element_of-id, found_later, is_born}
use Rattle.tp_model.proofs.Histories.{legal_start, status_of-snoc}
use Rattle.tp_model.proofs.Later.{births_inside}
use Rattle.tp_model.proofs.LawProofs.{settled_stay}
use Rattle.tp_model.proofs.Lists.{if_same}
use Rattle.tp_rule.specs.Views.{hand}
use Rattle.tp_rule.specs.declared.view.View.{View}
use Rattle.tp_manager.specs.declared.row_reads.Birth.{Birth}
use Rattle.tp_manager.specs.Bounds.{collect_steps, one_take_steps, walk_steps}
use Rattle.tp_manager.specs.Families.{IsAsked, Listed, TakenReply, CollectingNext, WereKilled, count_below, in_family, is_member}
use Rattle.tp_manager.specs.Kills.{Slain}
use Rattle.tp_manager.specs.Lists.{HasReply, IsReply, killed_between}
use Rattle.tp_manager.specs.Looks.{IsBornAs}
use Rattle.tp_manager.specs.Releases.{IsPastCollect}
use Rattle.tp_manager.specs.Requeues.{IsBetween}
use Rattle.tp_manager.specs.CallSteps.{Looked}
use Rattle.tp_manager.proofs.Accounts.Counts.{count_le, count_most, count_rises}
use Rattle.tp_manager.proofs.Calls.Gains.{gained_begins, gained_few}
use Rattle.tp_manager.proofs.Kills.OneKill.{freed_looked, freed_slain}
use Rattle.tp_manager.proofs.Kills.Releases.{head_stage}
use Rattle.tp_manager.proofs.Families.KilledMeanwhile.{killed_more, killed_one, not_killed}
use Rattle.tp_manager.proofs.Families.Trees.{family_grows}
use Rattle.tp_manager.proofs.Calls.CallSteps.{looked_begins, looked_few, looked_then}

-- why a reply wasn't collected: another was quicker
pub past_killed : (l : Limits) (i : ℕ) (a b : List Event) (e : Refusal) → IsPastCollect l i a b e → IsBetween a b (λ h. status_of l.attempts h i ≡ Killed)
past_killed l i a b refusals.NoMemory p = absurd p
past_killed l i a b refusals.BadLimits p = absurd p
past_killed l i a b refusals.BadStage p = absurd p
past_killed l i a b refusals.NotThere p = absurd p
past_killed l i a b (refusals.Consumed u) p = absurd p
past_killed l i a b refusals.AlreadyKilled p = p
past_killed l i a b refusals.Full p = absurd p
past_killed l i a b refusals.NotParked p = absurd p
past_killed l i a b refusals.NoRound p = absurd p
past_killed l i a b refusals.NotHeld p = absurd p
past_killed l i a b refusals.NotWaiting p = absurd p
past_killed l i a b refusals.NoUnit p = absurd p

pub staged : (h : List Event) (i : ℕ) (x : Element) (b : Birth) → element_of h i ≡ Some x → x.stage ≡ 15 → IsBornAs h i b → b.stage ≡ 15
staged h i x b born is t = sym (head_stage t.0 b.stage b.root b.by t.2) ∙ (same_stage t.1 ∙ is)
  where
    same_stage : element_of h i ≡ Some t.0 → t.0.stage ≡ x.stage
    same_stage p = let e : t.0 ≡ x = cc in ap (λ (y : Element). y.stage) e

-- the reply that was found to wait, as it is born at the end of the walk
pub found_there : (l : Limits) (root id : ℕ) (a b : List Event) → IsBetween a b (HasReply l root id) → (x : Element) × (element_of b id ≡ Some x) × IsReply root x
found_there l root id a b p = (p.3.0, found_later p.0 b p.2 id p.3.0 p.3.1, p.3.2)

module _ (l : Limits) (root : ℕ) where
  killed_later : (Ids : ℕ → Type 0) (a b c : List Event) → IsPrefix b c → WereKilled l root Ids a b → WereKilled l root Ids a c
  killed_later Ids a b c after k x born reply id = let p = k x born reply id in (p.0, p.1, begins_trans p.0 b c p.2 after, p.3)

  killed_sooner : (Ids : ℕ → Type 0) (a b c : List Event) → IsPrefix a b → WereKilled l root Ids b c → WereKilled l root Ids a c
  killed_sooner Ids a b c before k x born reply id = let p = k x (found_later a b before x.id x born) reply id in (p.0, begins_trans a b p.0 before p.1, p.2, p.3)

  -- what was killed before, and what a walk from there on passed over
  killed_both : (from : ℕ) (least : Option ℕ) (Ids : ℕ → Type 0) (a b c : List Event) → IsPrefix a b → IsPrefix b c → WereKilled l root (λ i. i < from) a b → WereKilled l root (IsAsked from least) b c → ((i : ℕ) → Ids i → from ≤ i → IsAsked from least i) → WereKilled l root Ids a c
  killed_both from least Ids a b c before after old new asked x born reply id = elim (cases_lt x.id from) [
    | inl less ↦ killed_later (λ i. i < from) a b c after old x born reply less
    | inr more ↦ killed_sooner (IsAsked from least) a b c before new x born reply (asked x.id id more)
  ]

  member_bit : (h : List Event) (i : ℕ) (x : Element) → element_of h i ≡ Some x → x.root ≡ root → in_family root h i ≡ true
  member_bit h i x born same = ap (is_member root) born ∙ eq-eqb x.root root same

  members_grow : (a b : List Event) (n : ℕ) → IsPrefix a b → count_below (in_family root a) n ≤ count_below (in_family root b) n
  members_grow a b n begins = count_le (in_family root a) (in_family root b) n (λ i less is. go i (element_of a i) refl is)
    where
      go : (i : ℕ) (o : Option Element) → element_of a i ≡ o → is_member root (element_of a i) ≡ true → is_member root (element_of b i) ≡ true
      go i None e is = let q : is_member root (element_of a i) ≡ is_member root None = ap (is_member root) e in absurd cc
      go i (Some x) e is = ap (is_member root) (found_later a b begins i x e ∙ sym e) ∙ is

  sum_few : (k a b z : ℕ) → a ≤ z → b ≤ z → k * a + b ≤ (k + 1) * z
  sum_few k a b z first second = let all : k * a ≤ k * z = mul-le-mul_left k first in omega arith

  pub taking_most : (from k : ℕ) (v w : View) → CollectingNext l root from k v w → k ≤ rows_of l
  taking_most from k v w t = let up = count_rises (in_family root w.seen) from (rows_of l) t.inside in let most = count_most (in_family root w.seen) (rows_of l) in let tries = t.tries in omega arith

  module _ (from k : ℕ) (v w x : View) (t : CollectingNext l root from k v w) where
    module _ (least : Option ℕ) (s : Listed l root from least w x) where
      legal : IsLegal l x.seen
      legal = s.looked.walk.steady.shows.legal

      before : IsPrefix v.seen w.seen
      before = looked_begins l _ v w t.looked

      after : IsPrefix w.seen x.seen
      after = looked_begins l _ w x s.looked

      both : Looked l (k * one_take_steps (length (family w.seen root)) + walk_steps (length (family x.seen root))) v x
      both = looked_then l (k * one_take_steps (length (family w.seen root))) (walk_steps (length (family x.seen root))) v w x t.looked s.looked

      -- the steps up to here, and a collection
      few : (y : List Event) → IsPrefix x.seen y → (k * one_take_steps (length (family w.seen root)) + walk_steps (length (family x.seen root))) + collect_steps ≤ (k + 1) * one_take_steps (length (family y root))
      few y on =
          let one = family_grows w.seen x.seen root after in let two = family_grows x.seen y root on in
          let all = sum_few k (one_take_steps (length (family w.seen root))) (one_take_steps (length (family x.seen root))) (one_take_steps (length (family y root))) (omega arith) (omega arith) in
          omega arith

      last : (y : List Event) (walks : ℕ) → k + 1 ≤ walks → (k + 1) * one_take_steps (length (family y root)) ≤ walks * one_take_steps (length (family y root))
      last y walks le = mul-le-mul_right (one_take_steps (length (family y root))) le

    pub taken_none : Listed l root from None w x → TakenReply l ((killed_between l root v.seen x.seen + 1) * one_take_steps (length (family x.seen root))) root v x None
    taken_none s = (
      (let lost = t.lost in let more = killed_more l root v.seen w.seen x.seen (legal None s) (after None s) in
          let a = few None s x.seen (begins_refl x.seen) in let b = last None s x.seen (killed_between l root v.seen x.seen + 1) (omega arith) in
          looked_few l _ ((killed_between l root v.seen x.seen + 1) * one_take_steps (length (family x.seen root))) v x (omega arith) (both None s)),
      killed_both from None (λ i. Unit {0}) v.seen w.seen x.seen (before None s) (after None s) t.killed s.killed (λ i all low. (low, tt)),
    )

    module _ (id : ℕ) (y : View) (s : Listed l root from (Some id) w x) where
      there_is : (e : Element) × (element_of x.seen id ≡ Some e) × IsReply root e
      there_is = found_there l root id w.seen x.seen s.found.1

      killed : WereKilled l root (λ i. i < id) v.seen x.seen
      killed = killed_both from (Some id) (λ i. i < id) v.seen w.seen x.seen (before (Some id) s) (after (Some id) s) t.killed s.killed (λ i less low. (low, less))

      -- it waited since the collection began, and was killed now
      lost_one : IsLegal l y.seen → IsPrefix x.seen y.seen → status_of l.attempts y.seen id ≡ Killed → k + 1 ≤ killed_between l root v.seen y.seen
      lost_one now on gone =
          let p = s.found.1 in let e = there_is in let lost = t.lost in
          let whole : IsLegal l p.0 = legal_start l p.0 p.2.0 (subst (IsLegal l) (sym p.2.1) (legal (Some id) s)) in
          let one = killed_one l root v.seen w.seen y.seen id e.0 now (begins_trans w.seen x.seen y.seen (after (Some id) s) on) (found_later x.seen y.seen on id e.0 e.1) e.2
          (not_killed l v.seen p.0 id whole (begins_trans v.seen w.seen p.0 (before (Some id) s) p.1) p.3.3) (not_killed l w.seen p.0 id whole p.1 p.3.3) gone in
          omega arith

      pub taken_some : (e : Element) → Slain l collect_steps id [] x y → element_of y.seen id ≡ Some e → IsPrefix x.seen y.seen → TakenReply l (killed_between l root v.seen y.seen * one_take_steps (length (family y.seen root))) root v y (Some e)
      taken_some e one born on =
          let own : e.id ≡ id = element_of-id y.seen id e born in
          let n = k * one_take_steps (length (family w.seen root)) + walk_steps (length (family x.seen root)) in
          let all = freed_slain l n collect_steps id [] [] v x y (freed_looked l n id v x (both (Some id) s)) one in
          let walks = killed_between l root v.seen y.seen in
          let gone : status_of l.attempts y.seen id ≡ Killed = ap (λ h. status_of l.attempts h id) one.ends ∙ (status_of-snoc l.attempts one.before (Kill (hand x).number id) id ∙ if_same id id Killed (status_of l.attempts one.before id) refl) in
          let a = few (Some id) s y.seen on in let b = last (Some id) s y.seen walks (lost_one one.gained.walk.steady.shows.legal on gone) in
          subst (λ i. Slain l (walks * one_take_steps (length (family y.seen root))) i [] v y × (element_of y.seen i ≡ Some e) × IsReply root e × WereKilled l root (λ j. j < i) v.seen y.seen) (sym own) (
            record { gained = gained_few l (n + collect_steps) (walks * one_take_steps (length (family y.seen root))) _ v y (omega arith) all.gained; before = all.before; begins = all.begins; ends = all.ends; aborts = all.aborts },
            born,
            same e born on,
            killed_later (λ j. j < id) v.seen x.seen y.seen on killed,
          )
        where
          same : (e : Element) → element_of y.seen id ≡ Some e → IsPrefix x.seen y.seen → IsReply root e
          same e born on = let q = found_later x.seen y.seen on id there_is.0 there_is.1 in let one : there_is.0 ≡ e = cc in subst (IsReply root) one there_is.2

      pub taking_on : Looked l collect_steps x y → IsBetween x.seen y.seen (λ h. status_of l.attempts h id ≡ Killed) → CollectingNext l root (id + 1) (k + 1) v y
      taking_on b gone = let on = looked_begins l collect_steps x y b in record {
        looked = looked_few l _ ((k + 1) * one_take_steps (length (family y.seen root))) v y (few (Some id) s y.seen on) (looked_then l _ collect_steps v x y (both (Some id) s) b);
        killed = λ e born reply less. elim (cases_lt e.id id) [
          | inl low ↦ killed_later (λ j. j < id) v.seen x.seen y.seen on killed e born reply low
          | inr high ↦ (let own : e.id ≡ id = omega arith in subst (λ i. IsBetween v.seen y.seen (λ h. status_of l.attempts h i ≡ Killed)) (sym own) (gone.0, begins_trans v.seen x.seen gone.0 (looked_begins l _ v x (both (Some id) s)) gone.1, gone.2, gone.3))
        ];
        tries = more on;
        lost = lost_one b.walk.steady.shows.legal on (settled_stay l gone.0 y.seen id b.walk.steady.shows.legal gone.2 (subst IsSettled (sym gone.3) tt) ∙ gone.3);
        inside = let e = there_is in let less = births_inside l x.seen (legal (Some id) s) e.0 (is_born x.seen id e.0 e.1) in let own = element_of-id x.seen id e.0 e.1 in omega arith;
      }
        where
          more : IsPrefix x.seen y.seen → k + 1 ≤ count_below (in_family root y.seen) (id + 1)
          more on =
              let next : suc id ≡ id + 1 = omega arith in
              let e = there_is in
              let bit : in_family root y.seen id ≡ true = member_bit y.seen id e.0 (found_later x.seen y.seen on id e.0 e.1) e.2.1 in
              let one : ◌≡◌ {A = ℕ} (cond (in_family root y.seen id) 1 0) 1 = ap (λ b. cond b 1 0) bit in
              let old = members_grow w.seen y.seen from (begins_trans w.seen x.seen y.seen (after (Some id) s) on) in
              let up = count_rises (in_family root y.seen) from id s.found.0 in
              let tries = t.tries in
              let all : k + 1 ≤ count_below (in_family root y.seen) id + cond (in_family root y.seen id) 1 0 = omega arith in
              subst (λ z. k + 1 ≤ count_below (in_family root y.seen) z) next all

-- a kill goes on from what was seen
pub slain_on : (l : Limits) (n i : ℕ) (es : List Event) (v w : View) → Slain l n i es v w → IsPrefix v.seen w.seen
slain_on l n i es v w s = gained_begins l n _ v w s.gained
