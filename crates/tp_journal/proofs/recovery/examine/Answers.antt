use Rattle.std.proofs.Common.{◌≡◌, List, ℕ, take, arith, subst, ◌∙◌}
use Rattle.std.proofs.lemmas.List.{length-take-le}
use Rattle.tp_journal.specs.Text.{HasDamage, IsFrontOf, first_line}
use Rattle.tp_journal.proofs.EndLines.{not_both}
use Rattle.tp_journal.proofs.Seals.{first-test, sealed-in, slice-rest}
use Rattle.tp_journal.proofs.Texts.{text-found}
use Rattle.tp_journal.proofs.Faults.{damaged-count}
use Rattle.tp_journal.proofs.recovery.examine.Goals as goal

pub returns-then-not-starts_with-clause-foreign : goal.returns-then-not-starts_with-clause-foreign
returns-then-not-starts_with-clause-foreign c = λ is front.
    let text_is = text-found c.args.bytes.now c.text_len.result c.text_len.ensures.inside c.text_len.ensures.set c.text_len.ensures.next in
    not_both c.starts_with.result c.if-not-starts_with.true ((first-test _ c.starts_with.result c.starts_with.ensures.value).1 (subst (λ (t : List ℕ). IsFrontOf t first_line) text_is front))

pub returns-then-not-starts_with-clause-version : goal.returns-then-not-starts_with-clause-version
returns-then-not-starts_with-clause-version c = λ is front.
    let text_is = text-found c.args.bytes.now c.text_len.result c.text_len.ensures.inside c.text_len.ensures.set c.text_len.ensures.next in
    not_both c.starts_with.result c.if-not-starts_with.true ((first-test _ c.starts_with.result c.starts_with.ensures.value).1 (subst (λ (t : List ℕ). IsFrontOf t first_line) text_is front))

pub sealed_len-requires : goal.sealed_len-requires
sealed_len-requires c = (first-test _ c.starts_with.result c.starts_with.ensures.value).0 c.if-not-starts_with.false

pub returns-then-is_damaged-clause-damaged : goal.returns-then-is_damaged-clause-damaged
returns-then-is_damaged-clause-damaged c = λ count is.
    let bytes = c.args.bytes.now in
    let here = c.in_ok-count.count in
    let text_is = text-found bytes c.text_len.result c.text_len.ensures.inside c.text_len.ensures.set c.text_len.ensures.next in
    let same : here ≡ count = damaged-count here count is in
    let inside = length-take-le c.text_len.result bytes c.text_len.ensures.inside in
    subst (HasDamage bytes) same (record {
      text = take here bytes;
      is_longest = sealed-in bytes c.text_len.result here text_is c.text_len.ensures.inside c.in_ok-count.ensures.inside c.in_ok-count.ensures.sealed;
      long = length-take-le here bytes (omega (arith, c.in_ok-count.ensures.inside, inside, c.text_len.ensures.inside));
      is_damage = rw (slice-rest here bytes, c.as_bytes.ensures.value ∙ c.in_ok-begin.ensures.ok) at (c.is_damaged.ensures.damaged c.if-is_damaged.true);
    })

pub returns-clause-sealed : goal.returns-clause-sealed
returns-clause-sealed c =
    let bytes = c.args.bytes.now in
    let text_is = text-found bytes c.text_len.result c.text_len.ensures.inside c.text_len.ensures.set c.text_len.ensures.next in
    sealed-in bytes c.text_len.result c.in_ok-count.count text_is c.text_len.ensures.inside c.in_ok-count.ensures.inside c.in_ok-count.ensures.sealed
