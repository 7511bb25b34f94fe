use Rattle.std.proofs.Common.{◌≡◌, ◌∙◌, [], All, ap, drop, inl, length, subst, sym}
use Rattle.std.proofs.lemmas.List.{take_rest}
use Rattle.std.proofs.lemmas.List.Elements.{All-nil}
use Rattle.tp_journal.specs.Text.{first_line}
use Rattle.tp_kept.specs.Kept.{lines_in}
use Rattle.tp_kept.specs.Lines.{IsTheirs, IsWhole}
use Rattle.tp_kept.specs.Lives.{StandsFor, life_of}
use Rattle.tp_kept.proofs.LinesLemmas.{given_whole}
use Rattle.tp_kept.proofs.KeptLemmas.{kept_new}
use Rattle.tp_kept.proofs.kept.Kept.new.Goals as goal

pub lead-requires : goal.lead-requires
lead-requires g c =
    let is = simp take_rest at c.in_ok-lines.ensures in
    record { whole = subst IsWhole (sym (c.deref.ensures.value ∙ is)) (given_whole [] (drop (length first_line) c.args.text.now)) }

pub returns-clause-is_ready : goal.returns-clause-is_ready
returns-clause-is_ready g c =
    let text = c.args.text.now in
    let lines : c.deref.result.now ≡ lines_in text = c.deref.ensures.value ∙ (simp take_rest at c.in_ok-lines.ensures) in
    let leads = ap life_of (sym lines) ∙ c.in_ok-led.ensures.leads in
    record {
      theirs = subst (All IsTheirs) (sym c.new.ensures.items) (All-nil IsTheirs);
      kept = λ e. kept_new g.D.Device.seen g.D.Device.may_leave c.args.journal _ c.requires.settled c.requires.fine
          (subst (λ t. StandsFor (lines_in t) (record { lines = c.in_ok-led.led.counted; session = c.in_ok-led.led.session })) c.requires.text (inl (record { whole = given_whole [] (drop (length first_line) text); leads = leads })));
    }
