use Rattle.tp_rollover.proofs.one_thread.alone_release.Goals as goal
use Rattle.tp_rollover.proofs.AloneReleases.{alone_release}

pub returns : goal.returns
returns c = alone_release
