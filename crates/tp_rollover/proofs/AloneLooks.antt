-- A read where nobody else acts.
use Rattle.std.proofs.Common.{Ok, Err, sym, ◌∙◌, ap}
use Rattle.tp_model.specs.History.{IsUnborn}
use Rattle.tp_plain.specs.Computed.{read_of, rounds_found, rounds_of}
use Rattle.tp_plain.proofs.Computations.{read_misses, read_shows}
use Rattle.tp_manager.specs.Calls.{IsLook}
use Rattle.tp_manager.specs.Requeues.{HasHadRounds}
use Rattle.tp_rollover.specs.AloneLaws.{AloneRead, AloneRounds}
use Rattle.tp_rollover.specs.Thread.{thread_of}
use Rattle.tp_rollover.proofs.AlonePoints.{point_quiet}
use Rattle.tp_rollover.proofs.AloneSubmits.{both}
use Rattle.tp_rollover.proofs.AloneThreads.{quiet_leaves, was}

pub alone_read : AloneRead
alone_read id l keeper keeper' olds news h h' n c old new (Ok look) a turn says =
    let s = was l keeper keeper' olds news h h' n c old new a in
    let at = point_quiet l keeper keeper' olds news h h' n c old new a (IsLook l id look) says.1.0 says.0 in
    both (Ok look) (read_of s id) (thread_of l news h') s (sym (read_shows s id look at.0 at.1)) (quiet_leaves l keeper keeper' olds news h h' n c old new a turn says.0)
alone_read id l keeper keeper' olds news h h' n c old new (Err why) a turn says =
    let s = was l keeper keeper' olds news h h' n c old new a in
    let at = point_quiet l keeper keeper' olds news h h' n c old new a (λ g. IsUnborn g id) says.1.1 says.0 in
    both (Err why) (read_of s id) (thread_of l news h') s (ap (λ e. Err e) says.1.0 ∙ sym (read_misses s id at)) (quiet_leaves l keeper keeper' olds news h h' n c old new a turn says.0)

pub alone_rounds : AloneRounds
alone_rounds id l keeper keeper' olds news h h' n c old new (Ok k) a turn says =
    let s = was l keeper keeper' olds news h h' n c old new a in
    let at = point_quiet l keeper keeper' olds news h h' n c old new a (HasHadRounds id k) says.1 says.0 in
    both (Ok k) (rounds_of s id) (thread_of l news h') s (sym (ap (rounds_found s id) at.0.1 ∙ ap (λ m. Ok m) at.1)) (quiet_leaves l keeper keeper' olds news h h' n c old new a turn says.0)
alone_rounds id l keeper keeper' olds news h h' n c old new (Err why) a turn says =
    let s = was l keeper keeper' olds news h h' n c old new a in
    let at = point_quiet l keeper keeper' olds news h h' n c old new a (λ g. IsUnborn g id) says.1.1 says.0 in
    both (Err why) (rounds_of s id) (thread_of l news h') s (ap (λ e. Err e) says.1.0 ∙ sym (ap (rounds_found s id) at)) (quiet_leaves l keeper keeper' olds news h h' n c old new a turn says.0)
