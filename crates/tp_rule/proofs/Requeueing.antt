-- The requeue exchange keeps the rule.
use Rattle.std.proofs.Common.{◌≡◌, ℕ, ◌+◌, ◌<◌, ◌≤◌, eqb, cond, [], ◌∷◌, ◌++◌, set, get_or, sym, refl, ap, ◌∙◌, subst, arith, eq-eqb, ne_eqb, Option}
use mathlib.Core.Logic.{dite}
use native.Mathlib.Decide.{ℕ_discrete}
use prog.Atomic.{either}
use Rattle.tp_model.specs.declared.event.Event.{Event}
use Rattle.tp_model.specs.declared.event.Event.TheVariants.{Requeue}
use Rattle.tp_model.specs.declared.trace.StepKind.TheVariants as kinds
use Rattle.tp_model.specs.declared.types.Limits.{Limits}
use Rattle.tp_model.specs.History.{UnitEnd}
use Rattle.tp_model.specs.Steps.{IsParked, Step, rows_of}
use Rattle.tp_model.specs.Words.{ClaimWord, AgainWord, claim_word, round_in, word_status}
use Rattle.tp_model.proofs.Bridges.{found_later, by_own, in_none, parked_later}
use Rattle.tp_model.proofs.Lists.{option_or-None}
use Rattle.tp_model.proofs.WordProofs.{rounds_by_words, status_by_words}
use Rattle.tp_rule.specs.Places.{claim_place}
use Rattle.tp_rule.specs.Words.{IsFitClaim, pack_claim}
use Rattle.tp_rule.specs.Doors.{Permits}
use Rattle.tp_rule.specs.Plays.{exchanges_requeue}
use Rattle.tp_rule.specs.Rule.{Rule}
use Rattle.tp_rule.specs.Steps.{after, unchanged, with_event, AllowsRequeue, HasElement}
use Rattle.tp_rule.specs.Views.{IsOnePass, hand}
use Rattle.tp_rule.specs.declared.view.Hand.{Hand}
use Rattle.tp_rule.specs.declared.view.View.{View}
use Rattle.tp_rule.proofs.Claiming.{areas_still, blocks_still, claim_event, claim_there, rows_still, tail_still}
use Rattle.tp_rule.proofs.Events.{looking_after, missed, units_own}
use Rattle.tp_rule.proofs.Frames.{Turn, hand_holds, seat_holds, spares_more}
use Rattle.tp_rule.proofs.Owning.{own_inside}
use Rattle.tp_rule.proofs.Units.{decide}

requeue_quiet : (c i m u : ℕ) (w : Option UnitEnd) → decide u w (Requeue c i m) ≡ w
requeue_quiet c i m u w = option_or-None w

module _ (k : Limits) where
  pub requeues_go : (v : View) (p old new row : ℕ) (w : ClaimWord) → IsOnePass v → row < rows_of k → p ≡ claim_place row → HasElement v.seen row → IsFitClaim w → AllowsRequeue k v.seen w → old ≡ pack_claim w → new ≡ pack_claim (AgainWord (round_in w + 1))
      → Permits k v p (λ x. either (eqb x old) new x) (exchanges_requeue p old new v)
  requeues_go v p old new row w one room place was fit may from to s r id at = let t : Turn k = record { state = s; rule = r; id = id; view = v; at = at; one = one } in let a : Hand = hand v in let x : ℕ = get_or s.words p 0 in let h = r.history in
      let seat = seat_holds k t in let mine = hand_holds k t in dite (ℕ_discrete x old)
      (λ hit. let m : ℕ = round_in w + 1 in let e : Event = Requeue a.number row m in let now : claim_word h row ≡ w = claim_there k t row old w room fit from (ap (λ z. get_or s.words z 0) (sym place) ∙ hit) in
      let st : Step k h e = record {
        pass = mine.given;
        item = was.0;
        born = found_later v.seen h seat.seen row was.0 was.1;
        parked = subst IsParked (sym (status_by_words k h row r.world.legal ∙ ap (word_status k.attempts h) now)) (parked_later k.attempts v.seen h w seat.seen may.0);
        next = ap (λ z. z + 1) (ap round_in (sym now) ∙ (rounds_by_words k h row r.world.legal).0);
        few = (let less : round_in w < 3 = may.1 in let at : round_in w + 1 ≤ 3 = omega arith in at);
      } in
      let done = claim_event k t e row new (AgainWord m) kinds.RequeueExchange (with_event e) room to ((let least : 1 ≤ m = omega arith in least), (let less : round_in w < 3 = may.1 in let at : m ≤ 3 = omega arith in at)) refl refl st (ap (λ b. cond b (AgainWord m) (claim_word h row)) (eq-eqb row row refl))
      (λ i not. ap (λ b. cond b (AgainWord m) (claim_word h i)) (ne_eqb row i (λ z. not (sym z)))) (requeue_quiet a.number row m) (λ z. (refl, refl)) record {
        given = mine.given;
        mine = ap (λ l. l ++ e ∷ []) mine.mine ∙ sym (by_own a.number h e refl);
        blocks = blocks_still k s.words row new a.blocks room r.world.wide mine.blocks;
        spares = spares_more k t e (λ y q. absurd (in_none q));
        first = mine.first;
        end = mine.end;
        area = mine.area;
        rows = rows_still k h s.words e row new mine.first mine.end a.first_draft a.next a.left a.next_body a.drafts room refl (own_inside k a.number a.blocks mine.first mine.end mine.area) mine.rows;
        tail = tail_still k s.words row new mine.first mine.end a.next a.left a.tail a.tail_stage room (own_inside k a.number a.blocks mine.first mine.end mine.area) mine.rows.ends mine.tail;
        units = units_own k h e a.number a.claimed a.spare_unit a.open_unit (requeue_quiet a.number row m) (λ d u i n z. cc) (λ d u z. cc) mine.units;
        areas = areas_still k h s.words e row new a (with_event e a) room refl (requeue_quiet a.number row m) (λ first end own. own) refl (refl, refl) (λ i u low high is. (low, high, is)) refl mine.areas;
      } in (
        after kinds.RequeueExchange (with_event e) (h ++ e ∷ []) v.known v,
        subst (λ (z : ℕ × ℕ). Rule k record { words = set s.words z.0 z.1; homes = s.homes; views = set s.views id (after kinds.RequeueExchange (with_event e) (h ++ e ∷ []) v.known v) }) (λ i. (sym place i, sym (ap (λ b. either b new x) (eq-eqb x old hit)) i)) done.0,
        ((λ _. (row, m, place, to, done.1)), (λ not. absurd (not hit))),
      ))
      (λ miss. let missing = missed k t p kinds.RequeueExchange in (
        looking_after k t p kinds.RequeueExchange unchanged,
        subst (λ z. Rule k record { words = set s.words p z; homes = s.homes; views = set s.views id (looking_after k t p kinds.RequeueExchange unchanged) }) (sym (ap (λ b. either b new x) (ne_eqb x old miss))) missing.0,
        ((λ hit. absurd (miss hit)), (λ _. missing.1)),
      ))
