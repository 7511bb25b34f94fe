use Rattle.std.proofs.Common.{◌≡◌, ◌+◌, Some, [], sym, ◌∙◌, refl, arith}
use Rattle.tp_model.specs.declared.trace.StepKind.TheVariants as kinds
use Rattle.tp_model.specs.declared.types.Element.{Element}
use Rattle.tp_model.specs.declared.types.Limits.{Limits}
use Rattle.tp_model.specs.History.{element_of}
use Rattle.tp_model.proofs.Bridges.{begins_refl, begins_trans, found_later, status_killed}
use Rattle.tp_rule.specs.Words.{claim_value}
use Rattle.tp_rule.specs.Tables.{table_limits}
use Rattle.tp_rule.specs.Views.{seen_by, view_of}
use Rattle.tp_rule.proofs.Reading.{grew_begins}
use Rattle.tp_manager.specs.Bounds.{body_steps, take_steps}
use Rattle.tp_manager.specs.CallSteps.{Looked}
use Rattle.tp_manager.proofs.Calls.CallSteps.{acted_by, looked, looked_begins, looked_few, looked_then}
use Rattle.tp_manager.proofs.Kills.OneKill.{freed_looked, slain_by}
use Rattle.tp_manager.proofs.Kills.Releases.{head_stage, killed_between, reply_allows}
use Rattle.tp_manager.proofs.manager.Shared.collect_row.Goals as goal
use Rattle.tp_manager.proofs.manager.Shared.collect_row.Goals.{After-load_claim-claim, After-element_at-element}

one : (c : After-load_claim-claim) → Looked (table_limits c.args.self.now.words) 1 (view_of c.args.seat.now) (view_of c.load_claim-claim.new.seat)
one c = looked _ 1 _ _ (acted_by _ kinds.Load _ _ c.requires.steady.steady refl c.load_claim-claim.ensures.grew)

two : (c : After-element_at-element) → Looked (table_limits c.args.self.now.words) 1 (view_of c.args.seat.now) (view_of c.load_claim-claim.new.seat) → Looked (table_limits c.args.self.now.words) (1 + body_steps) (view_of c.args.seat.now) (view_of c.element_at-element.new.seat)
two c o = looked_then _ 1 body_steps _ _ _ o c.element_at-element.ensures.looked

-- the reply, as it was born when its claim was found
item : (c : After-load_claim-claim) → (x : Element) × (element_of (seen_by c.load_claim-claim.new.seat) c.args.row ≡ Some x) × (x.stage ≡ 15)
item c = let t = c.requires.there in (t.0, found_later _ _ (looked_begins _ 1 _ _ (one c)) c.args.row t.0 t.1, head_stage t.0 _ _ _ t.2 ∙ c.requires.reply)

pub returns-then-is_killed-clause-told : goal.returns-then-is_killed-clause-told
returns-then-is_killed-clause-told c = let l : Limits = table_limits c.args.self.now.words in let o = one (goal.at.returns-then-is_killed-clause-told c).After-load_claim-claim in let h = seen_by c.load_claim-claim.new.seat in let k = c.is_killed.ensures.yes c.if-is_killed.true in (
  looked_few l 1 take_steps _ _ (omega arith) o,
  (h, looked_begins l 1 _ _ o, begins_refl h, status_killed l h c.args.row k.0 k.1 o.walk.steady.shows.legal (sym c.load_claim-claim.ensures.claim ∙ k.3)),
)

pub element_at-element-requires-clause-steady : goal.element_at-element-requires-clause-steady
element_at-element-requires-clause-steady c = record { own = c.load_claim-claim.ensures.same ∙ c.requires.steady.own; steady = (one (goal.at.element_at-element-requires-clause-steady c).After-load_claim-claim).walk.steady }

pub element_at-element-requires-clause-there : goal.element_at-element-requires-clause-there
element_at-element-requires-clause-there c = let o = one (goal.at.element_at-element-requires-clause-there c).After-load_claim-claim in let t = c.requires.there in
    (t.0, found_later _ _ (looked_begins _ 1 _ _ o) c.args.row t.0 t.1, t.2)

pub kill_exchange-requires-clause-found : goal.kill_exchange-requires-clause-found
kill_exchange-requires-clause-found c = let l : Limits = table_limits c.args.self.now.words in let at = (goal.at.kill_exchange-requires-clause-found c).After-load_claim-claim in let o = one at in let x = item at in
    reply_allows l (seen_by c.load_claim-claim.new.seat) (seen_by c.element_at-element.new.seat) c.args.row x.0 (claim_value c.load_claim-claim.result.tells) o.walk.steady.shows.legal x.1 x.2 c.load_claim-claim.ensures.claim (c.is_killed.ensures.no c.if-is_killed.false)

pub returns-in-Ok-clause-told : goal.returns-in-Ok-clause-told
returns-in-Ok-clause-told c = let l : Limits = table_limits c.args.self.now.words in let at = goal.at.returns-in-Ok-clause-told c in let b = two at.After-element_at-element (one at.After-load_claim-claim) in
    let s = slain_by l (1 + body_steps) c.args.row [] _ _ _ (freed_looked l (1 + body_steps) c.args.row _ _ b) c.in-Ok.ensures.hit in (
      s,
      found_later _ _ (grew_begins _ _ _ _ _ c.in-Ok.ensures.hit) c.args.row _ c.element_at-element.ensures.born,
      c.element_at-element.ensures.head.0 ∙ c.requires.reply,
    )

pub returns-in-Err-clause-told : goal.returns-in-Err-clause-told
returns-in-Err-clause-told c = let l : Limits = table_limits c.args.self.now.words in let at = goal.at.returns-in-Err-clause-told c in let o = one at.After-load_claim-claim in let x = item at.After-load_claim-claim in let miss = c.in-Err.ensures.miss in
    let e = c.element_at-element.ensures.looked in let k = looked l 1 _ _ (acted_by l kinds.KillExchange (view_of c.element_at-element.new.seat) (view_of c.kill_exchange.new.seat) e.walk.steady refl miss.0) in let rest = looked_then l body_steps 1 _ _ _ e k in
    let p = killed_between l (seen_by c.load_claim-claim.new.seat) (seen_by c.kill_exchange.new.seat) c.args.row x.0 (claim_value c.load_claim-claim.result.tells) rest.walk.steady.shows.legal (looked_begins l _ _ _ rest) x.1 x.2 c.load_claim-claim.ensures.claim (λ same. miss.1 (miss.2 ∙ same)) in (
      looked_then l 1 (body_steps + 1) _ _ _ o rest,
      (p.0, begins_trans _ _ _ (looked_begins l 1 _ _ o) p.1, p.2, p.3),
    )
