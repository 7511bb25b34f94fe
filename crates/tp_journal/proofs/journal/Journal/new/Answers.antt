use Rattle.std.proofs.Common.{◌≡◌, length, ap, arith, subst}
use Rattle.sha2.specs.Hashers.{Holds256}
use Rattle.tp_journal.proofs.Kept.{kept}
use Rattle.tp_journal.proofs.journal.Journal.new.Goals as goal

pub returns-clause-settled : goal.returns-clause-settled
returns-clause-settled g c =
    let end : c.len.result ≡ length c.args.found.now.text.items = omega (arith, c.len.ensures, c.deref.ensures.len, ap length c.deref.ensures.value) in
    kept g.D.Device.seen g.D.Device.may_leave c.args.found.now.text.items _ c.requires.stands end (subst (Holds256 c.hasher_of.result) c.deref.ensures.value c.hasher_of.ensures)
