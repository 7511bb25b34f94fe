use Rattle.std.proofs.Common.{◌≡◌, ◌+◌, ◌<◌, ◌^◌, ◌++◌, List, ℕ, length, sym, ap, arith, subst, ◌∙◌, length-append}
use Rattle.tp_journal.specs.Text.{IsAtRest, text_of, with_batch}
use Rattle.tp_journal.proofs.Kept.{appended-sealed, appended-text, bytes-text, idle, kept}
use Rattle.tp_journal.proofs.Texts.{rest-length, rest-text, torn-none}
use Rattle.tp_journal.proofs.journal.Journal.append.Goals as goal

pub returns-then-self-gt-MAX_LEN-clause-any_moment : goal.returns-then-self-gt-MAX_LEN-clause-any_moment
returns-then-self-gt-MAX_LEN-clause-any_moment g c = λ fine.
    let d = c.args.self.now.device in
    let s = c.requires.open fine in
    idle g.D.Device.seen g.D.Device.may_leave g.D.Device.moment g.D.Device.left_since _ d (g.met.D.Device.only_now d) s.stands.durable (torn-none (text_of (g.D.Device.seen d)) _ (g.D.Device.seen d) s.stands.at_rest)

pub returns-in_err-ready-clause-any_moment : goal.returns-in_err-ready-clause-any_moment
returns-in_err-ready-clause-any_moment g c = λ fine.
    let d = c.args.self.now.device in
    let s = c.requires.open fine in
    idle g.D.Device.seen g.D.Device.may_leave g.D.Device.moment g.D.Device.left_since _ d (g.met.D.Device.only_now d) s.stands.durable (torn-none (text_of (g.D.Device.seen d)) _ (g.D.Device.seen d) s.stands.at_rest)

pub write-requires-clause-text : goal.write-requires-clause-text
write-requires-clause-text g c =
    let s = c.requires.open c.if-self.false in
    let text = text_of (g.D.Device.seen c.args.self.now.device) in
    let is = c.in_ok-ready.ensures.bytes text s.hashed (sym s.end) in
    let short : length (text ++ c.args.batch.now) < 2 ^ 64 = omega (arith, c.if-self-gt-MAX_LEN.false, s.stands.len_is, s.end, length-append text c.args.batch.now, rest-length text (g.D.Device.seen c.args.self.now.device) s.stands.at_rest) in
    bytes-text text c.args.batch.now c.deref.result.now (short) c.in_ok-ready.ensures.accepted (c.deref.ensures.value ∙ is)

pub returns-in-Ok-clause-open : goal.returns-in-Ok-clause-open
returns-in-Ok-clause-open g c = λ fine.
    let s = c.requires.open c.if-self.false in
    let text = text_of (g.D.Device.seen c.args.self.now.device) in
    let is = c.in_ok-ready.ensures.bytes text s.hashed (sym s.end) in
    let bytes = c.deref.result.now in
    let short : length (text ++ c.args.batch.now) < 2 ^ 64 = omega (arith, c.if-self-gt-MAX_LEN.false, s.stands.len_is, s.end, length-append text c.args.batch.now, rest-length text (g.D.Device.seen c.args.self.now.device) s.stands.at_rest) in
    let longer = appended-text text c.args.batch.now bytes (c.deref.ensures.value ∙ is) in
    let rest = subst (λ (t : List ℕ). IsAtRest t (g.D.Device.seen c.write.new.self.device)) longer c.in-Ok.ensures.rest in
    let end : c.write.new.self.end + c.len.result ≡ length (with_batch text c.args.batch.now) = omega (arith, c.write.ensures.same.0, s.end, c.len.ensures, c.deref.ensures.len, ap length longer, length-append text bytes) in
    kept g.D.Device.seen g.D.Device.may_leave (with_batch text c.args.batch.now) _
    (record { at_rest = rest; is_sealed = appended-sealed text c.args.batch.now short s.stands.is_sealed; len_is = c.in-Ok.ensures.len; durable = c.in-Ok.ensures.durable })
    end (c.in_ok-ready.ensures.hasher text s.hashed (sym s.end))

pub returns-in-Ok-clause-acknowledged : goal.returns-in-Ok-clause-acknowledged
returns-in-Ok-clause-acknowledged g c =
    let s = c.requires.open c.if-self.false in
    let text = text_of (g.D.Device.seen c.args.self.now.device) in
    let is = c.in_ok-ready.ensures.bytes text s.hashed (sym s.end) in
    let longer = appended-text text c.args.batch.now c.deref.result.now (c.deref.ensures.value ∙ is) in (
      c.write.ensures.same.2 ∙ c.if-self.false,
      rest-text (text ++ c.deref.result.now) (g.D.Device.seen c.write.new.self.device) c.in-Ok.ensures.rest ∙ longer,
    )
