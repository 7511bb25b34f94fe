-- The worked histories, computed.
use Rattle.std.proofs.Common.{◌≡◌, ◌≢◌, ◌<◌, Some, [], ◌∷◌, refl, sym, ap, subst, inl, inr, ⊎_elim, arith, lit<, lit≤}
use Rattle.std.proofs.lemmas.List.Elements.{All-nil, All-cons}
use Rattle.tp_model.specs.declared.types.Element.{Element}
use Rattle.tp_model.specs.declared.event.Event.TheVariants.{Enqueue, Claim, Commit}
use Rattle.tp_model.specs.Steps.{IsRowOfBlock, Step}
use Rattle.tp_model.specs.History.{here, pass_of, status_of, IsSettled}
use Rattle.tp_model.specs.Rows.{WorkedRows, body, in_spare_block, row_limits, spare_limits, with_reply, killed_in_hand}
use Rattle.tp_model.specs.Births.{request}
use Rattle.tp_model.proofs.Areas.{use_inside}
use Rattle.tp_model.proofs.Bridges.{in_none, in_one}
use Rattle.tp_model.proofs.Histories.{legal_empty, legal_more}

abbrev reply : Element
reply = record { id = 8; stage = 15; root = 0; body = body 10; by = Some 256 }

first_step : Step row_limits [] (Enqueue 0 (request 0 1 (body 10)))
first_step = record { row = inl (lit< tt, lit≤ tt, lit< tt); unborn = refl; stage = (lit≤ tt, lit≤ tt); body = refl; root = refl; by = refl }

second_step : Step row_limits (Enqueue 0 (request 0 1 (body 10)) ∷ []) (Claim 1 256 0 1)
second_step =
    record {
      unit = (lit< tt, lit≤ tt, lit< tt);
      unused = refl;
      alone = λ v t own is_open. (let claimed = is_open.claimed in cc);
      item = request 0 1 (body 10);
      born = refl;
      stage = (lit≤ tt, lit≤ tt);
      attempt = lit≤ tt;
      waits = refl;
    }

third_step : Step row_limits (Enqueue 0 (request 0 1 (body 10)) ∷ Claim 1 256 0 1 ∷ []) (Commit 1 256 (reply ∷ []))
third_step =
    record {
      taking = record { pass = 1; item = 0; attempt = 1 };
      open_unit = record { claimed = refl; unfinished = refl };
      own = refl;
      item = request 0 1 (body 10);
      taken = refl;
      few = lit≤ tt;
      outputs = (record { place = refl; row = inl (lit< tt, lit≤ tt, lit< tt); unborn = refl; stage = (lit≤ tt, lit≤ tt); body = refl; by = refl; root_is = refl }, tt);
    }

spare_step : Step spare_limits [] (Enqueue 1 (request 2 1 (body 4)))
spare_step = record { row = inr (lit< tt, 0, (lit< tt, lit≤ tt, lit< tt), λ e x p. absurd (in_none p)); unborn = refl; stage = (lit≤ tt, lit≤ tt); body = refl; root = refl; by = refl }

next_spare_step : Step spare_limits in_spare_block (Enqueue 1 (request 9 1 (body 5)))
next_spare_step = record { row = inr (lit< tt, 0, (lit< tt, lit≤ tt, lit< tt), λ e x p made at. ap pass_of (in_one p)); unborn = refl; stage = (lit≤ tt, lit≤ tt); body = refl; root = refl; by = refl }

other_spare_step : ¬ Step spare_limits in_spare_block (Enqueue 0 (request 9 1 (body 5)))
other_spare_step step = ⊎_elim
    (λ part. let high : 9 < 1 = part.2 in absurd (omega arith))
    (λ t. let first : t.1 ≡ 0 = (let below : t.1 < 1 = t.2.0 in omega arith) in
    let one : 1 ≡ 0 = t.3 (Enqueue 1 (request 2 1 (body 4))) (request 2 1 (body 4)) here here (subst (λ b. IsRowOfBlock spare_limits b 2) (sym first) (lit< tt, lit≤ tt, lit< tt)) in absurd (omega arith)) step.row

behind_spare_step : ¬ Step spare_limits in_spare_block (Enqueue 1 (request 10 1 (body 5)))
behind_spare_step step = let inside : 10 < 10 = use_inside spare_limits in_spare_block 1 10 step.row in absurd (omega arith)

abbrev settled_reply : Element → Type 0
settled_reply e = e.stage ≢ 15 → IsSettled (status_of 3 with_reply e.id)

abbrev settled_kill : Element → Type 0
settled_kill e = e.stage ≢ 15 → IsSettled (status_of 3 killed_in_hand e.id)

pub rows : WorkedRows
rows =
    record {
      most_rounds = refl;
      reply_is = refl;
      reply_end = refl;
      reply_status = refl;
      reply_waits = refl;
      reply_taken = refl;
      reply_counts = refl;
      client_took_none = refl;
      reply_stage_counts = refl;
      reply_account = refl;
      reply_rows = refl;
      parked = refl;
      parked_word = refl;
      again = refl;
      again_rounds = refl;
      again_word = refl;
      held_again = refl;
      held_word = refl;
      killed_again = refl;
      killed_held = refl;
      killed = refl;
      killed_word = refl;
      reply_family = refl;
      reply_settled = All-cons settled_reply (request 0 1 (body 10)) (reply ∷ []) (λ not. tt) (All-cons settled_reply reply [] (λ not. absurd (not refl)) (All-nil settled_reply));
      parked_unsettled = λ all. all 0 (request 0 1 (body 11)) (lit< tt) (λ reply. absurd cc);
      killed_settled = All-cons settled_kill (request 0 1 (body 5)) [] (λ not. tt) (All-nil settled_kill);
      legal = legal_more row_limits _ _ (legal_more row_limits _ _ (legal_more row_limits [] _ (legal_empty row_limits) first_step) second_step) third_step;
      spare_legal = legal_more spare_limits [] _ (legal_empty spare_limits) spare_step;
      spare_again = next_spare_step;
      spare_of_another = other_spare_step;
      behind_spare = behind_spare_step;
    }
