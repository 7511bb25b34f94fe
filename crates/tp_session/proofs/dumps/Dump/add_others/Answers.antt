use Rattle.std.proofs.Common.{◌++◌, map}
use Rattle.std.specs.List.{flat_map}
use Rattle.tp_session.specs.Dumps.{client_line, server_lines, store_lines, worker_lines}
use Rattle.tp_session.proofs.DumpLemmas.{and_last}
use Rattle.tp_session.proofs.dumps.Dump.add_others.Goals as goal

pub returns : goal.returns
returns c =
    and_last c.add_store.result (flat_map server_lines c.args.servers.now) ((flat_map worker_lines c.args.workers.now.entries) ++ ((map client_line c.args.clients.now.entries) ++ (store_lines c.args.store.now))) c.args.self.now c.add_servers.new.self c.add_store.new.self c.in_ok-add_servers.ensures (and_last c.add_store.result (flat_map worker_lines c.args.workers.now.entries) ((map client_line c.args.clients.now.entries) ++ (store_lines c.args.store.now)) c.add_servers.new.self c.add_workers.new.self c.add_store.new.self c.in_ok-add_workers.ensures (and_last c.add_store.result (map client_line c.args.clients.now.entries) (store_lines c.args.store.now) c.add_workers.new.self c.add_clients.new.self c.add_store.new.self c.in_ok-add_clients.ensures c.add_store.ensures))
