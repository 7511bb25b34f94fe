use Rattle.std.proofs.Common.{◌+◌, arith, rules}
use Rattle.tp_model.specs.declared.types.Limits.{Limits}
use Rattle.tp_rule.specs.Tables.{table_limits}
use Rattle.tp_manager.specs.Scans.{EachRow}
use Rattle.tp_manager.specs.UnitsSeen.{NoneAborted}
use Rattle.tp_manager.proofs.Calls.CallSteps.{looked_few, looked_none, looked_then, sought_few}
use Rattle.tp_manager.proofs.Rows.Seeks.{sought_behind}
use Rattle.tp_manager.proofs.Rows.UnitsSeen.{well_widens}
use Rattle.tp_manager.proofs.manager.Shared.none_aborted.Goals as goal

pub loop-look-init : goal.loop-look-init
loop-look-init c = record {
  same = search rules;
  remembers = c.requires.remembers;
  few = search rules;
  looked = looked_none _ _ c.requires.steady.steady;
}

pub returns-then-shows_none_aborted-clause-looked : goal.returns-then-shows_none_aborted-clause-looked
returns-then-shows_none_aborted-clause-looked c = let l : Limits = table_limits c.args.self.now.words in let n = c.loop-look._look in let less = c.loop-look-test.true in
    looked_few l (n + 1) c.args.most _ _ (omega arith) (looked_then l n 1 _ _ _ c.loop-look.invariant.looked c.shows_none_aborted.ensures.looked)

pub returns-then-shows_none_aborted-clause-none : goal.returns-then-shows_none_aborted-clause-none
returns-then-shows_none_aborted-clause-none c = λ _. let l : Limits = table_limits c.args.self.now.words in let n = c.loop-look._look in let less = c.loop-look-test.true in let p = c.args.part in
    sought_few l (n + 1) c.args.most (EachRow (NoneAborted l) p (p + 1)) _ _ (omega arith)
    (sought_behind l n 1 (NoneAborted l) (well_widens l) p (p + 1) _ _ _ c.loop-look.invariant.looked (c.shows_none_aborted.ensures.none c.if-shows_none_aborted.true))

pub returns-then-units-clause-looked : goal.returns-then-units-clause-looked
returns-then-units-clause-looked c = let l : Limits = table_limits c.args.self.now.words in let n = c.loop-look._look in let less = c.loop-look-test.true in
    looked_few l (n + 1) c.args.most _ _ (omega arith) (looked_then l n 1 _ _ _ c.loop-look.invariant.looked c.shows_none_aborted.ensures.looked)

pub loop-look-preserved : goal.loop-look-preserved
loop-look-preserved c = let l : Limits = table_limits c.args.self.now.words in record {
  same = search rules;
  remembers = c.shows_none_aborted.ensures.remembers;
  few = search rules;
  looked = looked_then l c.loop-look._look 1 _ _ _ c.loop-look.invariant.looked c.shows_none_aborted.ensures.looked;
}

pub returns-clause-looked : goal.returns-clause-looked
returns-clause-looked c = let l : Limits = table_limits c.args.self.now.words in let n = c.loop-look._look in let end = c.loop-look.auto._look-end in
    looked_few l n c.args.most _ _ (omega arith) c.loop-look.invariant.looked
