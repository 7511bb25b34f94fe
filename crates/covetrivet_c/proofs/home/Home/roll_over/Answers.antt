use Rattle.std.proofs.Common.{◌∙◌, ap, inr, length, refl, subst, sym}
use Rattle.std.proofs.lemmas.List.{with_items_is}
use Rattle.std.specs.Arc.{arc_value}
use Rattle.std.specs.List.{AllZip}
use Rattle.std.specs.Prelude.{All}
use Rattle.tp_manager.specs.Accounts.{AreAll}
use Rattle.tp_manager.specs.Shown.{IsKeptBy, IsOf, ManagerShown}
use Rattle.tp_rollover.specs.Thread.{Stays}
use Rattle.tp_rollover.specs.Carries.{AreFresh}
use Rattle.tp_rollover.proofs.Heads.{stay_same}
use Rattle.tp_rollover.proofs.Managing.{all_fresh}
use Rattle.covetrivet_c.specs.Homes.{CarriesOver, HasOpenFrom, IsUncarried, home_limits}
use Rattle.covetrivet_c.proofs.GoingOn.{goes_on, unrolled}
use Rattle.covetrivet_c.proofs.Unmade.{unmade}
use Rattle.covetrivet_c.proofs.home.Home.roll_over.Goals as goal

pub returns-then-not-has_all : goal.returns-then-not-has_all
returns-then-not-has_all c =
    let h = c.args.self.now in
    let not_all = subst (λ ps. ¬ AreAll h.keeper ps) c.deref.ensures.value (c.if-not-has_all.ensures.no refl) in
    record {
      answer = (
        record {
          manager = refl;
          put = record { given = refl; passes = stay_same c.args.self.now.passes.items };
          moved = refl;
        },
        not_all,
      );
    }

pub returns-in-Err : goal.returns-in-Err
returns-in-Err c =
    let why = unmade c.args.self.now c.args.limits c.in-Err.fault c.in-Err.ensures.unmade in
    record {
      answer = (
        record {
          manager = refl;
          put = record { given = refl; passes = stay_same c.args.self.now.passes.items };
          moved = refl;
        },
        why,
      );
    }

pub invariant_of-drop : goal.invariant_of-drop
invariant_of-drop c =
    let new = c.in-Ok.new in let news = c.carry.new.new_passes in let e = c.carry.ensures in
    let long = (e.new_long ∙ ap length c.deref_mut-2.ensures.value) ∙ sym new.passes.ok.0 in
    let own = subst (λ m. All (IsOf m) news) c.deref-4.ensures e.new_own in
    record {
      kept = subst (λ m. IsKeptBy m c.carry.new.new_keeper) c.deref-4.ensures e.new_keeper;
      own = subst (λ ps. All (IsOf (arc_value new.manager)) ps) (sym (with_items_is new.passes news long)) own;
      room = new.room;
    }

pub returns-then-has_open_from : goal.returns-then-has_open_from
returns-then-has_open_from c =
    let held = subst (HasOpenFrom c.args.limits.parts) c.deref-2.ensures.value (c.if-has_open_from.ensures refl) in
    record {
      answer = (
        record {
          manager = refl;
          put = record { given = refl; passes = stay_same c.args.self.now.passes.items };
          moved = refl;
        },
        inr (inr held),
      );
    }

pub returns-in-Ok-carry : goal.returns-in-Ok-carry
returns-in-Ok-carry c =
    let h = c.args.self.now in let made = c.in-Ok.new in let k = c.args.limits in
    let new = c.in-Ok.ensures.made in let e = c.in-Ok-carry.ensures in
    let keeper = c.carry.new.old_keeper in let keeper' = c.carry.new.new_keeper in
    let olds' = c.carry.new.old_passes in let news' = c.carry.new.new_passes in
    let moved = c.in-Ok-carry.moved.items in
    let long = (e.new_long ∙ ap length c.deref_mut-2.ensures.value) ∙ sym made.passes.ok.0 in
    let items = with_items_is made.passes news' long in
    let of_old = subst (λ (m : ManagerShown). CarriesOver m.limits c.deref-4.result.now.limits h.keeper keeper keeper'
    c.deref_mut.result.now olds' c.deref_mut-2.result.now news' moved) c.deref-3.ensures e.answer in
    let of_new = subst (λ (m : ManagerShown). CarriesOver (home_limits h) m.limits h.keeper keeper keeper'
    c.deref_mut.result.now olds' c.deref_mut-2.result.now news' moved) c.deref-4.ensures of_old in
    let asked = subst (λ l. CarriesOver (home_limits h) l h.keeper keeper keeper'
    c.deref_mut.result.now olds' c.deref_mut-2.result.now news' moved) new.limits of_new in
    let from = subst (λ ps. CarriesOver (home_limits h) k h.keeper keeper keeper'
    ps olds' c.deref_mut-2.result.now news' moved) c.deref_mut.ensures.value asked in
    let into = subst (λ ps. CarriesOver (home_limits h) k h.keeper keeper keeper'
    h.passes.items olds' ps news' moved) c.deref_mut-2.ensures.value from in
    let over = subst (λ ps. CarriesOver (home_limits h) k h.keeper keeper keeper'
    h.passes.items olds' made.passes.items ps moved) (sym items) into in
    let fresh = subst (λ l. AreFresh l made.passes.items) new.limits
    (all_fresh (arc_value made.manager) made.passes.items made.passes.items refl new.new made.own) in
    let parts = ap length items ∙ (e.new_long ∙ (ap length c.deref_mut-2.ensures.value ∙ new.parts)) in
    record {
      answer = (
        goes_on h _ k keeper olds' made.passes.items new.limits fresh new.parts parts over,
        c.len-count.ensures ∙ c.in-Ok-carry.moved.ok.0,
      );
    }

pub returns : goal.returns
returns c =
    let h = c.args.self.now in let made = c.in-Ok.new in let k = c.args.limits in
    let new = c.in-Ok.ensures.made in let e = c.in-Err-carry.ensures in
    let olds' = c.carry.new.old_passes in
    let long = (e.old_long ∙ ap length c.deref_mut.ensures.value) ∙ sym h.passes.ok.0 in
    let items = with_items_is h.passes olds' long in
    let put = e.answer.0 in
    let stay = subst (λ ps. AllZip Stays ps olds') c.deref_mut.ensures.value put.passes in
    let fresh = subst (λ l. AreFresh l made.passes.items) new.limits
    (all_fresh (arc_value made.manager) made.passes.items made.passes.items refl new.new made.own) in
    let of_old = subst (λ (m : ManagerShown). IsUncarried m.limits c.deref-4.result.now.limits
    c.deref_mut.result.now c.deref_mut-2.result.now c.in-Err-carry.fault) c.deref-3.ensures e.answer.1 in
    let of_new = subst (λ (m : ManagerShown). IsUncarried (home_limits h) m.limits
    c.deref_mut.result.now c.deref_mut-2.result.now c.in-Err-carry.fault) c.deref-4.ensures of_old in
    let asked = subst (λ l. IsUncarried (home_limits h) l
    c.deref_mut.result.now c.deref_mut-2.result.now c.in-Err-carry.fault) new.limits of_new in
    let from = subst (λ ps. IsUncarried (home_limits h) k ps c.deref_mut-2.result.now c.in-Err-carry.fault)
    c.deref_mut.ensures.value asked in
    let into = subst (λ ps. IsUncarried (home_limits h) k h.passes.items ps c.in-Err-carry.fault)
    c.deref_mut-2.ensures.value from in
    record {
      answer = (
        record {
          manager = refl;
          put = record { given = put.given; passes = subst (λ ps. AllZip Stays h.passes.items ps) (sym items) stay };
          moved = refl;
        },
        unrolled h k made.passes.items c.in-Err-carry.fault new.are fresh new.parts new.are.parts.0 into,
      );
    }
