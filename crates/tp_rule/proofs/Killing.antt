-- The kill exchange keeps the rule.
use Rattle.std.proofs.Common.{◌≡◌, ℕ, ◌<◌, ◌≤◌, eqb, cond, [], ◌∷◌, ◌++◌, set, get_or, sym, refl, ap, ◌∙◌, subst, arith, eq-eqb, ne_eqb, Option}
use mathlib.Core.Logic.{dite}
use native.Mathlib.Decide.{ℕ_discrete}
use prog.Atomic.{either}
use Rattle.tp_model.specs.declared.event.Event.{Event}
use Rattle.tp_model.specs.declared.event.Event.TheVariants.{Kill}
use Rattle.tp_model.specs.declared.trace.StepKind.TheVariants as kinds
use Rattle.tp_model.specs.declared.types.Limits.{Limits}
use Rattle.tp_model.specs.History.{UnitEnd}
use Rattle.tp_model.specs.Steps.{IsKillable, Step, rows_of}
use Rattle.tp_model.specs.Words.{ClaimWord, AgainWord, FreeWord, KilledWord, TakenWord, claim_word, kill_word, word_status}
use Rattle.tp_model.proofs.Bridges.{found_later, by_own, in_none, killable_later}
use Rattle.tp_model.proofs.Lists.{option_or-None}
use Rattle.tp_model.proofs.WordProofs.{status_by_words}
use Rattle.tp_rule.specs.Places.{claim_place}
use Rattle.tp_rule.specs.Words.{IsFitClaim, pack_claim}
use Rattle.tp_rule.specs.Doors.{Permits}
use Rattle.tp_rule.specs.Plays.{exchanges_kill}
use Rattle.tp_rule.specs.Rule.{Rule}
use Rattle.tp_rule.specs.Steps.{after, unchanged, with_event, AllowsKill, HasElement}
use Rattle.tp_rule.specs.Views.{IsOnePass, hand}
use Rattle.tp_rule.specs.declared.view.Hand.{Hand}
use Rattle.tp_rule.specs.declared.view.View.{View}
use Rattle.tp_rule.proofs.Claiming.{areas_still, blocks_still, claim_event, claim_there, rows_still, tail_still}
use Rattle.tp_rule.proofs.Events.{looking_after, missed, units_own}
use Rattle.tp_rule.proofs.Frames.{Turn, hand_holds, seat_holds, spares_more}
use Rattle.tp_rule.proofs.Owning.{own_inside}
use Rattle.tp_rule.proofs.Units.{decide}

kill_quiet : (c i u : ℕ) (w : Option UnitEnd) → decide u w (Kill c i) ≡ w
kill_quiet c i u w = option_or-None w

killed_fits : (w : ClaimWord) → IsFitClaim w → IsFitClaim (kill_word w)
killed_fits FreeWord f = (omega arith, omega arith, (λ z. refl), omega arith)
killed_fits (TakenWord n u r) f = let some : 1 ≤ n = f.0 in (f.1, f.2, (λ z. absurd (omega arith)), f.3)
killed_fits (KilledWord n u r) f = f
killed_fits (AgainWord r) f = (omega arith, omega arith, (λ z. refl), f.1)

module _ (k : Limits) where
  pub kills_go : (v : View) (p old new row : ℕ) (w : ClaimWord) → IsOnePass v → row < rows_of k → p ≡ claim_place row → HasElement v.seen row → IsFitClaim w → AllowsKill k v.seen w → old ≡ pack_claim w → new ≡ pack_claim (kill_word w)
      → Permits k v p (λ x. either (eqb x old) new x) (exchanges_kill p old new v)
  kills_go v p old new row w one room place was fit may from to s r id at = let t : Turn k = record { state = s; rule = r; id = id; view = v; at = at; one = one } in let a : Hand = hand v in let x : ℕ = get_or s.words p 0 in let h = r.history in
      let seat = seat_holds k t in let mine = hand_holds k t in dite (ℕ_discrete x old)
      (λ hit. let e : Event = Kill a.number row in let now : claim_word h row ≡ w = claim_there k t row old w room fit from (ap (λ z. get_or s.words z 0) (sym place) ∙ hit) in
      let st : Step k h e = record {
        pass = mine.given;
        item = was.0;
        born = found_later v.seen h seat.seen row was.0 was.1;
        free = subst IsKillable (sym (status_by_words k h row r.world.legal ∙ ap (word_status k.attempts h) now)) (killable_later k.attempts v.seen h w seat.seen may);
      } in
      let done = claim_event k t e row new (kill_word w) kinds.KillExchange (with_event e) room to (killed_fits w fit) refl refl st (ap (λ b. cond b (kill_word (claim_word h row)) (claim_word h row)) (eq-eqb row row refl) ∙ ap kill_word now)
      (λ i not. ap (λ b. cond b (kill_word (claim_word h i)) (claim_word h i)) (ne_eqb row i (λ z. not (sym z)))) (kill_quiet a.number row) (λ z. (refl, refl)) record {
        given = mine.given;
        mine = ap (λ l. l ++ e ∷ []) mine.mine ∙ sym (by_own a.number h e refl);
        blocks = blocks_still k s.words row new a.blocks room r.world.wide mine.blocks;
        spares = spares_more k t e (λ y q. absurd (in_none q));
        first = mine.first;
        end = mine.end;
        area = mine.area;
        rows = rows_still k h s.words e row new mine.first mine.end a.first_draft a.next a.left a.next_body a.drafts room refl (own_inside k a.number a.blocks mine.first mine.end mine.area) mine.rows;
        tail = tail_still k s.words row new mine.first mine.end a.next a.left a.tail a.tail_stage room (own_inside k a.number a.blocks mine.first mine.end mine.area) mine.rows.ends mine.tail;
        units = units_own k h e a.number a.claimed a.spare_unit a.open_unit (kill_quiet a.number row) (λ d u i n z. cc) (λ d u z. cc) mine.units;
        areas = areas_still k h s.words e row new a (with_event e a) room refl (kill_quiet a.number row) (λ first end own. own) refl (refl, refl) (λ i u low high is. (low, high, is)) refl mine.areas;
      } in (
        after kinds.KillExchange (with_event e) (h ++ e ∷ []) v.known v,
        subst (λ (z : ℕ × ℕ). Rule k record { words = set s.words z.0 z.1; homes = s.homes; views = set s.views id (after kinds.KillExchange (with_event e) (h ++ e ∷ []) v.known v) }) (λ i. (sym place i, sym (ap (λ b. either b new x) (eq-eqb x old hit)) i)) done.0,
        ((λ _. (row, place, done.1)), (λ not. absurd (not hit))),
      ))
      (λ miss. let m = missed k t p kinds.KillExchange in (
        looking_after k t p kinds.KillExchange unchanged,
        subst (λ z. Rule k record { words = set s.words p z; homes = s.homes; views = set s.views id (looking_after k t p kinds.KillExchange unchanged) }) (sym (ap (λ b. either b new x) (ne_eqb x old miss))) m.0,
        ((λ hit. absurd (miss hit)), (λ _. m.1)),
      ))
