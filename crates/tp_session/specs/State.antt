-- A session between two of its lines.
use Rattle.std.specs.Prelude.{ℕ, ◌-◌, ◌^◌, Bool, List, [], Option}
use Rattle.tp_lines.specs.Names.{NameView}
use Rattle.tp_lines.specs.declared.line.ClientNote.{ClientNote}
use Rattle.tp_script.specs.declared.script.Kind.{Kind}
use Rattle.tp_server.specs.declared.recipe.Recipe.{Recipe}
use Rattle.tp_store.specs.State.{State, start}
use Rattle.tp_session.specs.declared.hand.Hand.{Hand}
use Rattle.tp_session.specs.declared.worker.Worker.{Worker}
use Rattle.tp_session.specs.declared.phase.Phase.{Phase}
use Rattle.tp_session.specs.declared.phase.Phase.TheVariants.{InHead}

-- a built-in server: its registers change by commits alone
pub record ServerView : Type 0 where
  pub name : NameView
  pub kind : Kind
  pub recipe : Recipe
  pub registers : List ℕ
  pub hand : Option Hand
  pub is_prepared : Bool
  pub is_dropped : Bool
  pub from : ℕ

-- the elements; the servers, in the order of their lines; workers and clients, in the order of their names;
-- how many clients there ever were; and whether the head is over
pub record SessionState : Type 0 where
  pub store : State
  pub servers : List ServerView
  pub workers : List (NameView × Worker)
  pub clients : List (NameView × ClientNote)
  pub owners : ℕ
  pub phase : Phase

-- a session before its first line
abbrev pub begin : SessionState
begin = record {
  store = start (record { most = 2 ^ 64 - 1; keep = 1000; attempts = 3 });
  servers = [];
  workers = [];
  clients = [];
  owners = 0;
  phase = InHead;
}

-- the same session with other elements
abbrev pub with_store : State → SessionState → SessionState
with_store store s = record s { store = store }
