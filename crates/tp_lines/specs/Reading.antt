-- The words of lines, without where they lie in memory.
use Rattle.std.specs.Prelude.{ℕ, List, Option, map, option_map}
use denote.Ref.{Bor}
use Rattle.tp_script.specs.Commands as commands
use Rattle.tp_script.specs.ServerLines as lines
use Rattle.tp_lines.specs.declared.bodies.SubmitWords.{SubmitWords}
use Rattle.tp_lines.specs.declared.clients.ClientWords.{ClientWords}
use Rattle.tp_lines.specs.declared.elements.ElementWords.{ElementWords}
use Rattle.tp_lines.specs.declared.servers.Shape.{Shape}
use Rattle.tp_lines.specs.declared.commands.ReceiveWords.{ReceiveWords}
use Rattle.tp_lines.specs.Commands as commands_here
use Rattle.tp_lines.specs.Heads as heads

-- of a server line
abbrev pub shape_view : Shape → lines.Shape
shape_view s = record {
  name = s.name.now;
  kind = s.kind;
  stage = s.stage.now;
  registers = s.registers.now;
  act = s.act;
  word = s.word;
  outputs = map (λ x. x.now) s.outputs.now;
}

-- of a submit line
abbrev pub submit_view : SubmitWords → commands.SubmitWords
submit_view w = record {
  stage = w.stage.now;
  key = w.key.now;
  amount = w.amount.now;
  word_two = w.word_two.now;
  word_three = w.word_three.now;
}

-- of an `element` line
abbrev pub element_view : ElementWords → heads.ElementWords
element_view w = record {
  id = w.id.now;
  place = w.place.now;
  root = w.root.now;
  maker = w.maker.now;
  owner = w.owner.now;
  rounds = w.rounds.now;
  standing = w.standing;
  numbers = map (λ x. x.now) w.numbers.now;
}

-- of a `client` line
abbrev pub client_view : ClientWords → heads.ClientWords
client_view w = record {
  name = w.name.now;
  owner = w.owner.now;
  sent = w.sent.now;
  element = w.element.now;
  received = w.received.now;
  reply = w.reply.now;
  root = w.root.now;
  body = w.body.now;
  epoch = w.epoch.now;
  said = w.said.now;
  note = w.note.now;
}

-- of a word that may be missing
abbrev pub word_if : Option (Bor (List ℕ)) → Option (List ℕ)
word_if w = option_map (λ x. x.now) w

-- of a `receive` line
abbrev pub receive_view : ReceiveWords → commands_here.ReceiveWords
receive_view w = record {
  name = w.name.now;
  epoch = word_if w.epoch;
  number = w.number.now;
  root = word_if w.root;
  note = word_if w.note;
}
