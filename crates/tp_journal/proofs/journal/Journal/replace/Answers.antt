use Rattle.std.proofs.Common.{◌≡◌, ◌⊎◌, ◌+◌, inl, inr, ⊎_elim, ◌++◌, List, ℕ, length, replicate, sym, ap, arith, subst, ◌∙◌, refl}
use Rattle.tp_journal.specs.Text.{IsAtRest, IsText, first_line, text_of, with_batch}
use Rattle.tp_journal.proofs.Kept.{appended-sealed, kept, replaced-is_text, replaced-text}
use Rattle.tp_journal.proofs.Moments.{weakened}
use Rattle.tp_journal.specs.declared.recovery.TheConstants.{STEP}
use Rattle.tp_journal.proofs.Texts.{at_most, made-length, made-rest, rest-text}
use Rattle.tp_journal.proofs.journal.Journal.replace.Goals as goal

pub returns-in-Ok-clause-open : goal.returns-in-Ok-clause-open
returns-in-Ok-clause-open g c = λ fine.
    let batch = c.args.batch.now in
    let all = with_batch first_line batch in
    let is = c.in_ok-ready.ensures.bytes first_line c.hasher_of.ensures refl in
    let text_is : c.deref-2.result.now ≡ all = c.deref-2.ensures.value ∙ c.in_ok-extend_from_slice.ensures.items ∙ replaced-text batch c.in_ok-text.text.items c.deref.result.now (c.in_ok-text.ensures.items_if_clones_equal (λ x y is. is)) (c.deref.ensures.value ∙ is) in
    let all_text : IsText all = replaced-is_text batch c.in_ok-ready.ensures.accepted (omega arith) in
    let file = g.D.Device.seen c.renew.new.device in
    let seen : file ≡ all ++ replicate 1048576 0 = c.in-Ok.ensures.seen ∙ c.deref-3.ensures.value ∙ c.in_ok-file.ensures ∙ ap (λ (l : List ℕ). l ++ replicate 1048576 0) text_is in
    let len : c.len-self-in-Ok.result ≡ length file = omega (arith, c.len-self-in-Ok.ensures, c.deref-3.ensures.len, ap length c.in-Ok.ensures.seen) in
    let end : c.len-self.result ≡ length all = omega (arith, c.len-self.ensures, c.deref-2.ensures.len, ap length text_is) in
    kept g.D.Device.seen g.D.Device.may_leave all _
    (record { at_rest = made-rest all file 1048576 all_text seen; is_sealed = appended-sealed first_line batch (omega arith) (inl refl); len_is = len; durable = λ f left. c.in-Ok.ensures.durable f left ∙ sym c.in-Ok.ensures.seen })
    end (c.in_ok-ready.ensures.hasher first_line c.hasher_of.ensures refl)

pub returns-in-Ok-clause-acknowledged : goal.returns-in-Ok-clause-acknowledged
returns-in-Ok-clause-acknowledged g c =
    let batch = c.args.batch.now in
    let all = with_batch first_line batch in
    let is = c.in_ok-ready.ensures.bytes first_line c.hasher_of.ensures refl in
    let text_is : c.deref-2.result.now ≡ all = c.deref-2.ensures.value ∙ c.in_ok-extend_from_slice.ensures.items ∙ replaced-text batch c.in_ok-text.text.items c.deref.result.now (c.in_ok-text.ensures.items_if_clones_equal (λ x y is. is)) (c.deref.ensures.value ∙ is) in
    let all_text : IsText all = replaced-is_text batch c.in_ok-ready.ensures.accepted (omega arith) in
    let file = g.D.Device.seen c.renew.new.device in
    let seen : file ≡ all ++ replicate 1048576 0 = c.in-Ok.ensures.seen ∙ c.deref-3.ensures.value ∙ c.in_ok-file.ensures ∙ ap (λ (l : List ℕ). l ++ replicate 1048576 0) text_is in
    (c.if-self.false, rest-text all file (made-rest all file 1048576 all_text seen))

pub returns-in-Ok-clause-any_moment : goal.returns-in-Ok-clause-any_moment
returns-in-Ok-clause-any_moment g c = λ fine.
    let batch = c.args.batch.now in
    let all = with_batch first_line batch in
    let is = c.in_ok-ready.ensures.bytes first_line c.hasher_of.ensures refl in
    let text_is : c.deref-2.result.now ≡ all = c.deref-2.ensures.value ∙ c.in_ok-extend_from_slice.ensures.items ∙ replaced-text batch c.in_ok-text.text.items c.deref.result.now (c.in_ok-text.ensures.items_if_clones_equal (λ x y is. is)) (c.deref.ensures.value ∙ is) in
    let all_text : IsText all = replaced-is_text batch c.in_ok-ready.ensures.accepted (omega arith) in
    let d = c.args.self.now.device in
    let old = g.D.Device.may_leave d in
    let s = c.requires.open fine in
    weakened g.D.Device.moment g.D.Device.left_since d c.renew.new.device (λ f. old f ⊎ (f ≡ c.deref-3.result.now)) (λ f. IsAtRest (text_of (g.D.Device.seen d)) f ⊎ IsAtRest all f) c.renew.ensures.any_moment
    (λ f left. ⊎_elim
    (λ was. inl (subst (IsAtRest (text_of (g.D.Device.seen d))) (sym (s.stands.durable f was)) s.stands.at_rest))
    (λ is. inr (made-rest all f 1048576 all_text (is ∙ c.deref-3.ensures.value ∙ c.in_ok-file.ensures ∙ ap (λ (l : List ℕ). l ++ replicate 1048576 0) text_is)))
    left)

pub returns-clause-any_moment : goal.returns-clause-any_moment
returns-clause-any_moment g c = λ fine.
    let batch = c.args.batch.now in
    let all = with_batch first_line batch in
    let is = c.in_ok-ready.ensures.bytes first_line c.hasher_of.ensures refl in
    let text_is : c.deref-2.result.now ≡ all = c.deref-2.ensures.value ∙ c.in_ok-extend_from_slice.ensures.items ∙ replaced-text batch c.in_ok-text.text.items c.deref.result.now (c.in_ok-text.ensures.items_if_clones_equal (λ x y is. is)) (c.deref.ensures.value ∙ is) in
    let all_text : IsText all = replaced-is_text batch c.in_ok-ready.ensures.accepted (omega arith) in
    let d = c.args.self.now.device in
    let old = g.D.Device.may_leave d in
    let s = c.requires.open fine in
    weakened g.D.Device.moment g.D.Device.left_since d c.renew.new.device (λ f. old f ⊎ (f ≡ c.deref-3.result.now)) (λ f. IsAtRest (text_of (g.D.Device.seen d)) f ⊎ IsAtRest all f) c.renew.ensures.any_moment
    (λ f left. ⊎_elim
    (λ was. inl (subst (IsAtRest (text_of (g.D.Device.seen d))) (sym (s.stands.durable f was)) s.stands.at_rest))
    (λ is. inr (made-rest all f 1048576 all_text (is ∙ c.deref-3.ensures.value ∙ c.in_ok-file.ensures ∙ ap (λ (l : List ℕ). l ++ replicate 1048576 0) text_is)))
    left)

pub returns-in-Ok-clause-grows : goal.returns-in-Ok-clause-grows
returns-in-Ok-clause-grows g c =
    let batch = c.args.batch.now in
    let all = with_batch first_line batch in
    let is = c.in_ok-ready.ensures.bytes first_line c.hasher_of.ensures refl in
    let text_is : c.deref-2.result.now ≡ all = c.deref-2.ensures.value ∙ c.in_ok-extend_from_slice.ensures.items ∙ replaced-text batch c.in_ok-text.text.items c.deref.result.now (c.in_ok-text.ensures.items_if_clones_equal (λ x y is. is)) (c.deref.ensures.value ∙ is) in
    let made = c.in_ok-file.ensures ∙ ap (λ (l : List ℕ). l ++ replicate 1048576 0) text_is in
    at_most c.len-self-in-Ok.result (STEP + length all) (c.len-self-in-Ok.ensures ∙ (c.in_ok-file.file.ok.0 ∙ made-length all c.in_ok-file.file.items STEP made))
