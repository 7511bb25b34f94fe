use Rattle.std.proofs.Common.{◌∙◌, sym}
use Rattle.std.specs.Str.{bytes_eq}
use Rattle.tp_script.specs.Script.{server_view}
use Rattle.tp_script.proofs.GrammarLemmas.{position-map}
use Rattle.tp_script.proofs.head.Head.place.Goals as goal

pub returns-clause-found : goal.returns-clause-found
returns-clause-found c = c.find.ensures.found ∙ sym (position-map server_view (λ server. bytes_eq server.name c.args.name.now) c.args.self.now.servers.items)
