use Rattle.std.proofs.Common.{◌≡◌, ◌<◌, length, sym, true, arith}
use Rattle.std.proofs.lemmas.Result.{IfOk-weaker}
use Rattle.tp_commands.specs.Places.{first_of}
use Rattle.tp_commands.specs.Acting.{is_free}
use Rattle.tp_commands.specs.Together.{TakesPart, TookTurns}
use Rattle.tp_commands.specs.Places.{is_free_at}
use Rattle.tp_commands.proofs.Parts.{parts_back, passed_swapped, shown_length}
use Rattle.tp_commands.proofs.Lefts.{kept_between}
use Rattle.tp_commands.proofs.Lies.{free_more}
use Rattle.tp_commands.proofs.racing.+race_free.Goals as goal

pub race_free-submitted-requires-clause-free : goal.race_free-submitted-requires-clause-free
race_free-submitted-requires-clause-free g t c κs within =
    rw c.swap_places.ensures.swapped (free_more (λ o. is_free_at o ≡ true) c.args.places.now c.args.front c.args.at c.index-places-at.result c.requires.within.0 (omega (arith, c.requires.within.1)) c.requires.free (sym c.if-not-is_free.ensures))

pub returns-clause-began : goal.returns-clause-began
returns-clause-began g t c =
    let os = c.args.places.now in
    let inside : c.args.at < length os = omega (arith, c.requires.within.1, c.if-at-places.false) in
    rw c.swap_places-2.ensures.swapped (kept_between first_of os c.swap_places.new.places c.race_free-submitted.new.places c.args.front c.args.at (omega (arith, c.requires.within.0, inside)) inside c.swap_places.ensures.swapped
    c.race_free-submitted.ensures.as_many c.race_free-submitted.ensures.began)

pub race_free-submitted-requires-clause-passed : goal.race_free-submitted-requires-clause-passed
race_free-submitted-requires-clause-passed g t c κs within =
    rw c.swap_places.ensures.swapped (passed_swapped c.args.places.now c.args.front c.args.at (omega (arith, c.requires.within.1, c.if-at-places.false)) c.requires.within.0 c.requires.passed)

pub returns-clause-raced : goal.returns-clause-raced
returns-clause-raced g t c =
    let os = c.args.places.now in
    let inside : c.args.at < length os = omega (arith, c.requires.within.1, c.if-at-places.false) in
    let long = shown_length _ _ _ c.args.passes.now c.args.servers.now os c.requires.lie in
    IfOk-weaker c.race_free-submitted.result _ _ (λ submitted raced. record {
      desks = parts_back (λ o n. TakesPart (is_free o) (TookTurns c.args.racing.now.manager.now.limits c.args.racing.now.plan.turns) o n) _ _ _ _ c.args.front c.args.at (omega (arith, long, c.requires.within.0, inside)) (omega (arith, long, inside)) c.swap_places.ensures.shown raced.desks c.swap_places-2.ensures.shown;
      ran = raced.ran;
    }) c.race_free-submitted.ensures.raced
