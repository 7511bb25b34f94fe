-- What the code of servers, workers and drains leaves, by what is computed.
use Rattle.std.specs.Prelude.{◌≡◌, Bool, List, Result, Ok, Err}
use Rattle.std.specs.declared.alloc.AllocError.{AllocError}
use Rattle.tp_store.specs.State.{State}
use Rattle.tp_answers.specs.declared.told.Told.{Told}
use Rattle.tp_session.specs.Drains.{Round}
use Rattle.tp_session.specs.Servers.{Served}
use Rattle.tp_session.specs.State.{ServerView}
use Rattle.tp_session.specs.Workers.{Worked}
use Rattle.tp_session.specs.declared.worker.Worker.{Worker}

-- where memory or numbers run out, nothing is said of what is left

abbrev pub Works : Result Told AllocError → Worker → State → Worked → Type 0
Works (Ok told) worker store done = record { told = told; worker = worker; store = store } ≡ done
Works (Err short) worker store done = Unit {0}

abbrev pub Serves : Result Told AllocError → ServerView → State → Served → Type 0
Serves (Ok told) server store done = record { told = told; server = server; store = store } ≡ done
Serves (Err short) server store done = Unit {0}

abbrev pub Rounds : Result Bool AllocError → List ServerView → State → Round → Type 0
Rounds (Ok took) servers store done = record { took = took; servers = servers; store = store } ≡ done
Rounds (Err short) servers store done = Unit {0}
