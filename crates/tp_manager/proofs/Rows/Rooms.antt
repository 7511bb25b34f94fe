-- Calls that first look for room for rows.
use Rattle.std.proofs.Common.{◌≡◌, ℕ, ◌+◌, ◌<◌, ◌≤◌, List, [], ◌∷◌, ◌++◌, length, sym, refl, ap, ◌∙◌, subst, inl, inr, ⊎_elim, arith}
use Rattle.std.proofs.Common.{Ok, Err}
use Rattle.tp_model.specs.Drafts.{DraftView}
use Rattle.tp_model.specs.declared.types.Ended.{Ended}
use Rattle.tp_model.specs.declared.types.Ended.TheVariants as endeds
use Rattle.tp_model.specs.declared.types.Limits.{Limits}
use Rattle.tp_model.specs.declared.types.Outcome.{Outcome}
use Rattle.tp_model.specs.declared.types.Outcome.TheVariants as outcomes
use Rattle.tp_model.specs.declared.trace.TraceEntry.{TraceEntry}
use Rattle.tp_model.specs.Steps.{block_first}
use Rattle.tp_model.proofs.Bridges.{append_nil}
use Rattle.tp_rule.specs.Views.{hand}
use Rattle.tp_rule.specs.declared.view.Hand.{Hand}
use Rattle.tp_rule.specs.declared.view.View.{View}
use Rattle.tp_manager.specs.Bounds.{room_steps}
use Rattle.tp_manager.specs.Calls.{Follows, Settles, SettlesApart, UsesRows}
use Rattle.tp_manager.specs.Draws.{HasRoom, on_block}
use Rattle.tp_manager.specs.Shown.{PassShown, Spot, shown}
use Rattle.tp_manager.specs.CallSteps.{Tried}
use Rattle.tp_manager.specs.Drafts.{Drew}
use Rattle.tp_manager.proofs.Calls.Follows.{follows_then, follows_within}

-- what a pass shows that has drawn a block
pub drew_shown : (t t' : Spot) (old : PassShown) (l : Limits) (n b : ℕ) (v w : View) → shown t v ≡ old → t'.table ≡ t.table → t'.lows ≡ t.lows → t'.from ≡ t.from → v.limits ≡ l → Drew l n b v w → shown t' w ≡ on_block b old (shown t' w)
drew_shown t t' old l n b v w is table lows from lim d = subst (λ p. shown t' w ≡ on_block b p (shown t' w)) is
    (let h = d.hand_is in let same : w.limits ≡ v.limits = d.walk.steady.pass.1 ∙ sym lim in let first : block_first l b ≡ block_first v.limits b = ap (λ (z : Limits). block_first z b) (sym lim) in
    λ i. record {
      table = table i;
      limits = same i;
      number = ap (λ (a : Hand). a.number) h i;
      seen = d.seen i;
      mine = ap (λ (a : Hand). a.mine) h i;
      open_unit = ap (λ (a : Hand). a.open_unit) h i;
      next = (ap (λ (a : Hand). a.next) h ∙ first) i;
      left = ap (λ (a : Hand). a.left) h i;
      blocks = ap (λ (a : Hand). a.blocks) h i;
      trace = (hand w).trace;
      lows = lows i;
      from = from i;
      seen_blocks = t'.drawn;
    })

-- or that has found none
pub tried_shown : (t t' : Spot) (old : PassShown) (l : Limits) (n : ℕ) (v w : View) → shown t v ≡ old → t'.table ≡ t.table → t'.lows ≡ t.lows → t'.from ≡ t.from → t'.drawn ≡ l.spare → v.limits ≡ l → Tried l n v w → shown t' w ≡ record old { trace = (shown t' w).trace; seen_blocks = old.limits.spare }
tried_shown t t' old l n v w is table lows from drawn lim d = subst (λ (p : PassShown). shown t' w ≡ record p { trace = (shown t' w).trace; seen_blocks = p.limits.spare }) is
    (let h = d.hand_is in let same : w.limits ≡ v.limits = d.walk.steady.pass.1 ∙ sym lim in let all : t'.drawn ≡ v.limits.spare = drawn ∙ ap (λ (z : Limits). z.spare) (sym lim) in
    λ i. record {
      table = table i;
      limits = same i;
      number = ap (λ (a : Hand). a.number) h i;
      seen = d.seen i;
      mine = ap (λ (a : Hand). a.mine) h i;
      open_unit = ap (λ (a : Hand). a.open_unit) h i;
      next = ap (λ (a : Hand). a.next) h i;
      left = ap (λ (a : Hand). a.left) h i;
      blocks = ap (λ (a : Hand). a.blocks) h i;
      trace = (hand w).trace;
      lows = lows i;
      from = from i;
      seen_blocks = all i;
    })

no_steps : (ms : List TraceEntry) → length ms ≤ 0 → ms ≡ []
no_steps [] few = refl
no_steps (m ∷ ms) few = absurd (omega arith)

-- where there are no spare blocks, nothing has changed
pub tried_same : (t t' : Spot) (old : PassShown) (l : Limits) (n : ℕ) (v w : View) → shown t v ≡ old → t'.table ≡ t.table → t'.lows ≡ t.lows → t'.from ≡ t.from → t'.drawn ≡ t.drawn → v.limits ≡ l → n ≡ 0 → Tried l n v w → shown t' w ≡ old
tried_same t t' old l n v w is table lows from drawn lim none d =
    let h = d.hand_is in let same : w.limits ≡ v.limits = d.walk.steady.pass.1 ∙ sym lim in let few = d.walk.few in
    let trace : (hand w).trace ≡ (hand v).trace = d.walk.traced ∙ (ap (λ m. (hand v).trace ++ m) (no_steps d.marks (omega arith)) ∙ append_nil (hand v).trace) in
    (λ i. record {
      table = table i;
      limits = same i;
      number = ap (λ (a : Hand). a.number) h i;
      seen = d.seen i;
      mine = ap (λ (a : Hand). a.mine) h i;
      open_unit = ap (λ (a : Hand). a.open_unit) h i;
      next = ap (λ (a : Hand). a.next) h i;
      left = ap (λ (a : Hand). a.left) h i;
      blocks = ap (λ (a : Hand). a.blocks) h i;
      trace = trace i;
      lows = lows i;
      from = from i;
      seen_blocks = drawn i;
    }) ∙ is

module _ (l : Limits) (p m q : PassShown) where
  pub room_follows : (rows n : ℕ) → HasRoom l rows p m → Follows n m q → Follows (room_steps l rows + n) p q
  room_follows rows n room f = ⊎_elim
      (λ t. follows_within n (room_steps l rows + n) p q (omega arith) (subst (λ z. Follows n z q) t.1 f))
      (λ t. follows_then (room_steps l rows) n p m q t.4 f) room

  -- where rows enough were left, the look for room made no step
  pub room_left : (rows n : ℕ) → rows ≤ p.left → HasRoom l rows p m → Follows n m q → Follows n p q
  room_left rows n enough room f = ⊎_elim (λ t. subst (λ z. Follows n z q) t.1 f) (λ t. absurd (let out = t.0 in omega arith)) room

  -- rows of the block that was drawn
  uses_block : (k first b : ℕ) → 0 < k → k ≤ 8 → p.left < k → p.seen_blocks ≤ b → b < q.seen_blocks → UsesRows k first (on_block b p m) q → UsesRows k first p q
  uses_block k first b some few less fresh seen uses = ⊎_elim
      (λ r. inr record { few = less; block = b; first_is = r.first_is; next = r.next; left = r.left; blocks = r.blocks; fresh = fresh; seen = seen })
      (λ r. absurd (let out = r.few in omega arith)) uses

  pub room_settles : (ds : List DraftView) (o : Outcome) → length ds ≤ 4 → HasRoom l (length ds) p m → m.seen_blocks ≤ q.seen_blocks → Settles ds m q o → Settles ds p q o
  room_settles ds o few room up s = ⊎_elim
      (λ t. subst (λ z. Settles ds z q o) t.1 s)
      (λ t. go o t.0 t.1 t.3.0 (let seen = t.3.1 in omega arith) (subst (λ z. Settles ds z q o) t.2 s)) room
    where
      go : (o : Outcome) → p.left < length ds → (b : ℕ) → p.seen_blocks ≤ b → b < q.seen_blocks → Settles ds (on_block b p m) q o → Settles ds p q o
      go outcomes.Full less b fresh seen r = absurd (let out = r.0 in omega arith)
      go outcomes.Lost less b fresh seen r = (r.0, record { was_open = r.1.was_open; open_unit = r.1.open_unit; ended = r.1.ended }, r.2, uses_block (length ds) r.2 b (omega arith) (omega arith) less fresh seen r.3, r.4)
      go (outcomes.Committed first count) less b fresh seen r = record {
        unit = r.unit;
        root = r.root;
        row = r.row;
        root_is = r.root_is;
        closes = record { was_open = r.closes.was_open; open_unit = r.closes.open_unit; ended = r.closes.ended };
        run = uses_block (length ds) r.row b (omega arith) (omega arith) less fresh seen r.run;
        adds = record { mine = r.adds.mine; before = r.adds.before; seen = r.adds.seen; begins = r.adds.begins };
        consumed = r.consumed;
        first_is = r.first_is;
        count_is = r.count_is;
      }

  -- with room for its drafts it isn't Full
  pub room_settles_apart : (ds : List DraftView) (o : Outcome) → length ds ≤ 4 → HasRoom l (length ds) p m → m.seen_blocks ≤ q.seen_blocks → Settles ds m q o → SettlesApart ds p q (Ok o)
  room_settles_apart ds outcomes.Full few room up s = absurd (⊎_elim
      (λ t. let r = subst (λ z. Settles ds z q outcomes.Full) t.1 s in let less = r.0 in let room = t.0 in omega arith)
      (λ t. let r = subst (λ z. Settles ds z q outcomes.Full) t.2 s in let less = r.0 in omega arith) room)
  room_settles_apart ds outcomes.Lost few room up s = room_settles ds outcomes.Lost few room up s
  room_settles_apart ds (outcomes.Committed first count) few room up s = room_settles ds (outcomes.Committed first count) few room up s

-- what tells of Full what the unit had come to, tells the rest as a commit does
pub settles_with : (p q : PassShown) (ds : List DraftView) (o : Outcome) → SettlesApart ds p q (Ok o) → Settles ds p q o
settles_with p q ds outcomes.Full s = absurd s
settles_with p q ds outcomes.Lost s = s
settles_with p q ds (outcomes.Committed first count) s = s

pub settles_full : (p q : PassShown) (ds : List DraftView) (e : Ended) → SettlesApart ds p q (Err e) → Settles ds p q outcomes.Full
settles_full p q ds endeds.Aborted s = (s.0, s.1, (s.2.0, s.2.1, s.2.2, inl s.2.3))
settles_full p q ds endeds.AlreadyAborted s = (s.0, s.1, (s.2.0, s.2.1, s.2.2, inr s.2.3))
