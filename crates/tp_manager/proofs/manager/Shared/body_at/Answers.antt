use Rattle.std.proofs.Common.{refl}
use Rattle.tp_model.specs.declared.types.Limits.{Limits}
use Rattle.tp_model.specs.declared.trace.StepKind.TheVariants as kinds
use Rattle.tp_rule.specs.Tables.{table_limits}
use Rattle.tp_rule.specs.Views.{seen_by, view_of}
use Rattle.tp_manager.specs.CallSteps.{Acted}
use Rattle.tp_manager.proofs.Calls.CallSteps.{acted_by, looked, looked_then, looked_begins}
use Rattle.tp_manager.proofs.Rows.Looks.{body_there}
use Rattle.tp_manager.proofs.manager.Shared.body_at.Goals as goal

pub returns-clause-looked : goal.returns-clause-looked
returns-clause-looked c = let l : Limits = table_limits c.args.self.now.words in
    let a : Acted l 1 (view_of c.args.seat.now) (view_of c.load_word-key.new.seat) = acted_by l kinds.Load _ _ c.requires.steady.steady refl c.load_word-key.ensures.grew in
    let b : Acted l 1 (view_of c.load_word-key.new.seat) (view_of c.load_word-second.new.seat) = acted_by l kinds.Load _ _ a.walk.steady refl c.load_word-second.ensures.grew in
    let d : Acted l 1 (view_of c.load_word-second.new.seat) (view_of c.load_word-third.new.seat) = acted_by l kinds.Load _ _ b.walk.steady refl c.load_word-third.ensures.grew in
    let e : Acted l 1 (view_of c.load_word-third.new.seat) (view_of c.load_word-last.new.seat) = acted_by l kinds.Load _ _ d.walk.steady refl c.load_word-last.ensures.grew in
    looked_then l 3 1 _ _ _ (looked_then l 2 1 _ _ _ (looked_then l 1 1 _ _ _ (looked l 1 _ _ a) (looked l 1 _ _ b)) (looked l 1 _ _ d)) (looked l 1 _ _ e)

pub returns-clause-body : goal.returns-clause-body
returns-clause-body c = let l : Limits = table_limits c.args.self.now.words in
    let a : Acted l 1 (view_of c.args.seat.now) (view_of c.load_word-key.new.seat) = acted_by l kinds.Load _ _ c.requires.steady.steady refl c.load_word-key.ensures.grew in
    let b : Acted l 1 (view_of c.load_word-key.new.seat) (view_of c.load_word-second.new.seat) = acted_by l kinds.Load _ _ a.walk.steady refl c.load_word-second.ensures.grew in
    let d : Acted l 1 (view_of c.load_word-second.new.seat) (view_of c.load_word-third.new.seat) = acted_by l kinds.Load _ _ b.walk.steady refl c.load_word-third.ensures.grew in
    let e : Acted l 1 (view_of c.load_word-third.new.seat) (view_of c.load_word-last.new.seat) = acted_by l kinds.Load _ _ d.walk.steady refl c.load_word-last.ensures.grew in
    let two = looked_then l 1 1 _ _ _ (looked l 1 _ _ a) (looked l 1 _ _ b) in let three = looked_then l 2 1 _ _ _ two (looked l 1 _ _ d) in let four = looked_then l 3 1 _ _ _ three (looked l 1 _ _ e) in
    body_there l (seen_by c.args.seat.now) _ _ _ _ c.args.row _ _ _ _ c.requires.steady.steady.shows.legal (looked_begins l 1 _ _ (looked l 1 _ _ a)) (looked_begins l 2 _ _ two) (looked_begins l 3 _ _ three) (looked_begins l 4 _ _ four)
    c.load_word-key.ensures.born c.load_word-second.ensures.born c.load_word-third.ensures.born c.load_word-last.ensures.born
