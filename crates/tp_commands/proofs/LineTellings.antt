-- The lines of commands, from the texts of their answers.
use Rattle.std.proofs.Common.{◌≡◌, ℕ, zero, suc, ◌<◌, arith, List, [], ◌∷◌, Option, Some, Result, IfOk, IfSome, refl, sym, ◌∙◌, ap, length, get_or, slice_get, map}
use Rattle.std.specs.Prelude.{string_bytes}
use Rattle.std.specs.declared.alloc.Global.{Global}
use Rattle.std.specs.declared.dyn_box.DynBox.{DynBox}
use Rattle.std.proofs.lemmas.Result.{IfOk-weaker}
use Rattle.tp_model.specs.declared.types.Limits.{Limits}
use Rattle.tp_server.specs.Behaviour.{Behaviour}
use Rattle.tp_server.specs.Pending.{Pending}
use Rattle.tp_manager.specs.Shown.{ManagerShown, PassShown}
use Rattle.tp_report.specs.Answer.{line, named_text}
use Rattle.tp_report.specs.declared.answer.ServerAnswer.{ServerAnswer}
use Rattle.tp_script.specs.Script.{server_view}
use Rattle.tp_script.specs.declared.script.ScriptServer.{ScriptServer}
use Rattle.tp_script.specs.declared.script.ClientAct.{ClientAct}
use Rattle.tp_script.specs.declared.script.DeskAct.{DeskAct}
use Rattle.tp_commands.specs.declared.place.Place.{Place}
use Rattle.tp_commands.specs.Asked.{TellsClient}
use Rattle.tp_commands.specs.Acting.{DoesIn, place_shown, places_shown}
use Rattle.tp_commands.specs.Registers.{TellsBalance}
use Rattle.tp_commands.specs.Places.{AllLie}
use Rattle.tp_commands.proofs.Shows.{shown_at}
use Rattle.tp_commands.specs.Scenes.{OnlyClient, OnlyPlaces, Scene}
use Rattle.tp_commands.specs.Told.{BalanceLine, ClientLine, ServerLine}

-- a server that is named
pub named : (servers : List ScriptServer) (at : ℕ) (P : ScriptServer → Type 0) → IfSome (slice_get servers at) P → at < length servers → (s : ScriptServer) × (slice_get (map server_view servers) at ≡ Some (server_view s)) × P s
named [] at P is within = absurd (omega (arith, within))
named (s ∷ servers) zero P is within = (s, refl, is)
named (s ∷ servers) (suc at) P is within = named servers at P is (omega (arith, within))

named_is : (servers : List ScriptServer) (at : ℕ) (it : ScriptServer) → at < length servers → it ≡ get_or servers at it → slice_get (map server_view servers) at ≡ Some (server_view it)
named_is [] at it within is = absurd (omega (arith, within))
named_is (s ∷ servers) zero it within is = ap (λ x. Some (server_view x)) (sym is)
named_is (s ∷ servers) (suc at) it within is = named_is servers at it (omega (arith, within)) is

-- what all that there is has come to
module _ {T E : Type 0} (r : Result T E) (bytes : T → List ℕ) (old new : Scene) where
  pub server_told : (m : ManagerShown) (servers : List ScriptServer) (act : DeskAct) (at : ℕ) → OnlyPlaces old new → at < length servers
      → IfOk r (λ s. (answer : ServerAnswer) × DoesIn m.limits act at old.places answer new.places × IfSome (slice_get servers at) (λ it. bytes s ≡ line (named_text (string_bytes it.name) answer)))
      → IfOk r (λ s. ServerLine m (map server_view servers) act at old (bytes s) new)
  server_told m servers act at others within text = IfOk-weaker r _ _ (λ s is.
      let it = named servers at (λ it. bytes s ≡ line (named_text (string_bytes it.name) is.0)) is.2 within in
      record { answer = is.0; does = is.1; server = server_view it.0; named = it.1; text_is = it.2; others = others }) text

  -- the register of a server
  module _ {X : Type 0} {F : X → Type 0} (behaviour : DynBox X Global F → Behaviour) (registers : DynBox X Global F → List ℕ) (pending : DynBox X Global F → Option Pending)
      (ps : List PassShown) (ss : List (DynBox X Global F)) (os : List (Place X F)) where
    pub balance_told : (servers : List ScriptServer) (at k : ℕ) (p : PassShown) (s : DynBox X Global F) (o : Place X F) (it : ScriptServer)
        → at < length servers → at < length os → AllLie behaviour registers pending ps ss os → it ≡ get_or servers at it
        → places_shown behaviour registers pending ps ss os ≡ old.places → new ≡ old
        → IfOk r (λ text. TellsBalance (string_bytes it.name) k (registers (get_or ss at s)) (get_or os at o).is_dropped (bytes text)) → IfOk r (λ text. BalanceLine (map server_view servers) at k old (bytes text) new)
    balance_told servers at k p s o it within inside lie it_is places same text =
        let there = shown_at behaviour registers pending ps ss os at p s o inside lie in
        IfOk-weaker r _ _ (λ text is. record {
          place = place_shown behaviour registers pending (get_or ps at p) (get_or ss at s) (get_or os at o);
          there = ap (λ xs. slice_get xs at) (sym places) ∙ there;
          server = server_view it;
          named = named_is servers at it within it_is;
          tells = is;
          same = same;
        }) text
