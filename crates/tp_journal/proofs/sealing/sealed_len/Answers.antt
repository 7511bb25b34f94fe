use Rattle.std.proofs.Common.{arith, take, subst}
use Rattle.sha2.specs.Hashers.{Holds256}
use Rattle.tp_journal.specs.Text.{first_line}
use Rattle.tp_journal.proofs.Seals.{front-length, longest-begun, longest-next, sealed-done, sealed-first, sealed-next, taken-on}
use Rattle.tp_journal.proofs.sealing.sealed_len.Goals as goal

pub loop-at-init : goal.loop-at-init
loop-at-init c = record {
  begun = c.next_mark-at.ensures.from;
  inside = c.next_mark-at.ensures.inside;
  hashed = c.hasher_of-hasher.ensures;
  count_inside = front-length c.args.text.now first_line c.requires;
  count_least = omega arith;
  is_sealed = sealed-first c.args.text.now c.requires;
  longest = longest-begun c.args.text.now c.next_mark-at.result 23 c.next_mark-at.ensures.none;
}

pub loop-at-preserved : goal.loop-at-preserved
loop-at-preserved c =
    let text = c.args.text.now in
    let at = c.loop-at.at in
    record {
      begun = omega (arith, c.loop-at.invariant.begun, c.next_mark-next.ensures.from);
      inside = c.next_mark-next.ensures.inside;
      hashed = subst (Holds256 c.update.new.self) (taken-on text at c.next_mark-next.result (omega (arith, c.next_mark-next.ensures.from))) (c.update.ensures (take at text) c.loop-at.invariant.hashed);
      count_inside = c.in_ok-count.ensures.inside;
      count_least = omega (arith, c.loop-at.invariant.count_least, c.in_ok-count.ensures.no_less);
      is_sealed = sealed-next text at c.loop-at.count c.in_ok-count.count c.requires c.loop-at.invariant.begun c.loop-at.invariant.inside c.loop-at.invariant.is_sealed c.in_ok-count.ensures.which;
      longest = longest-next text at c.next_mark-next.result c.loop-at.count c.in_ok-count.count c.loop-at.invariant.longest c.in_ok-count.ensures.no_less c.in_ok-count.ensures.end c.next_mark-next.ensures.none;
    }

pub returns-clause-sealed : goal.returns-clause-sealed
returns-clause-sealed c =
    sealed-done c.args.text.now c.loop-at.at c.loop-at.count c.requires (omega (arith, c.loop-at-test.false)) c.loop-at.invariant.count_inside c.loop-at.invariant.count_least c.loop-at.invariant.is_sealed c.loop-at.invariant.longest
