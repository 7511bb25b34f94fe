-- A reply that was found, and then read; and an element of a request that was found.
use Rattle.std.proofs.Common.{◌≡◌, ℕ, ◌<◌, ◌≤◌, Some, None, refl, sym, ◌∙◌, subst}
use mathlib.Core.List.{IsPrefix}
use Rattle.tp_model.specs.declared.types.Limits.{Limits}
use Rattle.tp_model.specs.declared.types.Look.{Look}
use Rattle.tp_model.specs.History.{IsUnborn}
use Rattle.tp_model.specs.Steps.{IsLegal, rows_of}
use Rattle.tp_model.proofs.Bridges.{begins_trans, found_later, is_born}
use Rattle.tp_model.proofs.Later.{births_inside}
use Rattle.tp_manager.specs.Bounds.{reply_steps}
use Rattle.tp_manager.specs.Calls.{AtPoint, Follows, IsQuiet, opening}
use Rattle.tp_manager.specs.Lists.{NextOfFamily, NextReply}
use Rattle.tp_manager.specs.Shown.{PassShown}
use Rattle.tp_report.specs.declared.answer.Answer.TheVariants as answer
use Rattle.tp_commands.specs.Asked.{Called, FindsReply, LooksAt, TellsRead}

-- what was found is still there when it is read
pub still_there : (l : Limits) (n root from id : ℕ) (old mid new : PassShown) → NextReply l root from id old mid → Follows n mid new → ¬ AtPoint mid new (λ h. IsUnborn h id)
still_there l n root from id old mid new found f at =
    let waits = found.waits in
    let p = waits.0 in
    let q = at.0 in
    let begins : IsPrefix p q = begins_trans p mid.seen q waits.1.seen (begins_trans mid.seen (opening mid new) q f.opened at.1.opened) in
    let born = found_later p q begins id waits.2.0 waits.2.1 in
    let clash : Some waits.2.0 ≡ None = sym born ∙ at.2 in
    cc

pub reply_read : (l : Limits) (root from id : ℕ) (look : Look) (old mid new : PassShown) → Called l (reply_steps l) old mid → IsQuiet old mid → LooksAt l from old mid → NextReply l root from id old mid
    → TellsRead l id mid new (answer.Read look) → look.element.id ≡ id → FindsReply l root from look.element old new
reply_read l root from id look old mid new called quiet looks next read same = record {
  between = mid;
  called = called;
  quiet = quiet;
  looks = looks;
  next = subst (λ i. NextReply l root from i old mid) (sym same) next;
  look = look;
  read = subst (λ i. TellsRead l i mid new (answer.Read look)) (sym same) read;
  shows = refl;
}

-- the id of an element that was found
pub member_inside : (l : Limits) (n root from : ℕ) (look : Look) (old new : PassShown) → new.limits ≡ l → Follows n old new → NextOfFamily l root from look old new → (from ≤ look.element.id) × (look.element.id < rows_of l)
member_inside l n root from look old new same f next =
    let at = next.looks in
    let legal : IsLegal l new.seen = subst (λ (z : Limits). IsLegal z new.seen) same f.shows.legal in
    let born = found_later at.0 new.seen at.1.seen look.element.id look.element at.2.0 in
    (next.from_on, births_inside l new.seen legal look.element (is_born new.seen look.element.id look.element born))
