-- Who has a name.
use Rattle.std.specs.Prelude.{ℕ, ◌||◌, Bool, is_some, List, Option, position}
use Rattle.std.specs.BTreeMap.{is_at, insert_entry}
use Rattle.std.specs.Map.{lookup, remove_entry}
use Rattle.std.specs.Str.{bytes_eq}
use Rattle.tp_lines.specs.Names.{NameView, name_cmp}
use Rattle.tp_lines.specs.declared.line.ClientNote.{ClientNote}
use Rattle.tp_session.specs.declared.worker.Worker.{Worker}
use Rattle.tp_session.specs.State.{SessionState}

-- what there is of this name
abbrev pub named : {A : Type 0} → NameView → List (NameView × A) → Option A
named name all = lookup (is_at (name_cmp name)) all

-- this under this name, in the place of what there was
abbrev pub put : {A : Type 0} → NameView → A → List (NameView × A) → List (NameView × A)
put name x all = insert_entry name_cmp all name x

-- without what there is of this name
abbrev pub without : {A : Type 0} → NameView → List (NameView × A) → List (NameView × A)
without name all = remove_entry (is_at (name_cmp name)) all

-- the place of the server of this name
abbrev pub server_at : NameView → SessionState → Option ℕ
server_at name s = position (λ v. bytes_eq v.name.letters name.letters) s.servers

abbrev pub worker_at : NameView → SessionState → Option Worker
worker_at name s = named name s.workers

abbrev pub client_at : NameView → SessionState → Option ClientNote
client_at name s = named name s.clients

-- whether a server or a worker has this name
abbrev pub is_of_worker : NameView → SessionState → Bool
is_of_worker name s = is_some (server_at name s) || is_some (worker_at name s)

-- whether anybody has it
abbrev pub is_taken : NameView → SessionState → Bool
is_taken name s = is_of_worker name s || is_some (client_at name s)

abbrev pub with_worker : NameView → Worker → SessionState → SessionState
with_worker name w s = record s { workers = put name w s.workers }

abbrev pub with_client : NameView → ClientNote → SessionState → SessionState
with_client name c s = record s { clients = put name c s.clients }
