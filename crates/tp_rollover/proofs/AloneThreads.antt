-- The state of the manager of one thread, before and after a call where nobody else acts.
use Rattle.std.proofs.Common.{◌≡◌, ◌⊎◌, ℕ, suc, ◌+◌, ◌-◌, ◌<◌, ◌≤◌, nat_lt, ◌&&◌, Bool, true, false, if◌then◌else◌, List, [], ◌∷◌, ◌++◌, length, map, slice_index_or, slice_set, refl, sym, ◌∙◌, ap, subst, inl, inr, ⊎_elim, append_assoc, arith}
use Rattle.std.proofs.lemmas.Bool.{le-ltb, lt-ltb}
use Rattle.std.proofs.lemmas.Bool.Decides.{leb_tells}
use Rattle.std.proofs.lemmas.List.{map-append}
use Rattle.std.proofs.Math.Seq.{get_or-append_seam, set-append_seam}
use Rattle.std.specs.List.{AllZip}
use Rattle.tp_model.specs.declared.types.Limits.{Limits}
use Rattle.tp_model.specs.declared.types.TheConstants.{BLOCK_ROWS}
use Rattle.tp_model.specs.declared.event.Event.{Event}
use Rattle.tp_model.specs.History.{In, here}
use Rattle.tp_model.specs.Passes.{Ascend}
use Rattle.tp_model.specs.Steps.{IsLegal, Step, block_first}
use Rattle.tp_model.proofs.Areas.{ascend_in}
use Rattle.tp_model.proofs.Bridges.{append_nil, in_cons, in_either, in_left, in_none, in_one, in_right}
use Rattle.tp_model.proofs.Histories.{legal_at}
use Rattle.tp_plain.specs.declared.pass_state.PassState.{PassState}
use Rattle.tp_plain.specs.OneThread.{State, no_pass, pass_at, ready, with_draw}
use Rattle.tp_manager.specs.Calls.{IsQuiet, KeepsRun, UsesRows, claims_in}
use Rattle.tp_manager.specs.Shown.{KeeperShown, PassShown}
use Rattle.tp_rollover.specs.Thread.{Alone, Stays, drawn_of, not_given, state_of, thread_of, turns_in}
use Rattle.tp_rollover.proofs.AloneApart.{called, mid_is, mids, news_long, number_is, old_in, old_is, old_seen, end_is, seen_is, zip_left, zip_right}

-- a pass that has done nothing but look is as it was
same_pass : (p q : PassShown) → Stays p q → state_of q ≡ state_of p
same_pass p q stays =
    let mine = ap claims_in stays.quiet.mine in
    let open_unit = stays.quiet.open_unit in
    let next = stays.quiet.run.0 in
    let left = stays.quiet.run.1 in
    let turns : turns_in q.from ≡ turns_in p.from = ap turns_in stays.turn in
    cc

pub same_passes : (ps qs : List PassShown) → AllZip Stays ps qs → map state_of qs ≡ map state_of ps
same_passes [] [] zip = refl
same_passes [] (q ∷ qs) zip = absurd zip
same_passes (p ∷ ps) [] zip = absurd zip
same_passes (p ∷ ps) (q ∷ qs) zip = let x = same_pass p q zip.0 in let y = same_passes ps qs zip.1 in cc

map_long : (ps : List PassShown) → length (map state_of ps) ≡ length ps
map_long [] = refl
map_long (p ∷ ps) = ap suc (map_long ps)

-- the pass in the middle of a list
middle_is : (xs : List PassState) (x : PassState) (ys zs : List PassState) (c : ℕ) → length xs ≡ c → slice_index_or ((xs ++ x ∷ ys) ++ zs) c no_pass ≡ x
middle_is xs x ys zs c at = ap (λ l. slice_index_or l c no_pass) (append_assoc xs (x ∷ ys) zs) ∙ subst (λ k. slice_index_or (xs ++ x ∷ (ys ++ zs)) k no_pass ≡ x) at (get_or-append_seam xs x (ys ++ zs) no_pass)

middle_set : (xs : List PassState) (x y : PassState) (ys zs : List PassState) (c : ℕ) → length xs ≡ c → (xs ++ y ∷ ys) ++ zs ≡ slice_set ((xs ++ x ∷ ys) ++ zs) c y
middle_set xs x y ys zs c at =
    append_assoc xs (y ∷ ys) zs
    ∙ (sym (subst (λ k. slice_set (xs ++ x ∷ (ys ++ zs)) k y ≡ xs ++ y ∷ (ys ++ zs)) at (set-append_seam xs x (ys ++ zs) y))
    ∙ ap (λ l. slice_set l c y) (sym (append_assoc xs (x ∷ ys) zs)))

pub claims_more : (xs ys : List Event) → claims_in (xs ++ ys) ≡ claims_in xs + claims_in ys
claims_more [] ys = omega arith
claims_more (x ∷ xs) ys = let e = claims_more xs ys in omega arith

pub same_state : (l : Limits) (h g : List Event) (ps qs : List PassState) (m n : ℕ) → h ≡ g → ps ≡ qs → m ≡ n
    → let s : State = record { limits = l; history = h; passes = ps; drawn = m } in let t : State = record { limits = l; history = g; passes = qs; drawn = n } in s ≡ t
same_state l h g ps qs m n a b c = cc

module _ (l : Limits) (keeper keeper' : KeeperShown) (olds news : List PassShown) (h h' : List Event) (n c : ℕ) (old new : PassShown) (a : Alone l keeper keeper' olds news h h' n c old new) where
  abbrev pub was : State
  was = thread_of l olds h

  -- the pass that calls
  pub pass_is : pass_at was c ≡ state_of old
  pass_is = subst (λ ps. slice_index_or (map state_of ps ++ not_given l (length olds)) c no_pass ≡ state_of old) (sym a.olds_are)
      (ap (λ ps. slice_index_or (ps ++ not_given l (length olds)) c no_pass) (map-append state_of a.front (old ∷ a.back))
      ∙ middle_is (map state_of a.front) (state_of old) (map state_of a.back) (not_given l (length olds)) c (map_long a.front ∙ a.place))

  -- all passes, after the call
  pub passes_are : (used : PassState) → state_of new ≡ used → map state_of news ++ not_given l (length news) ≡ slice_set (was.passes) c used
  passes_are used is =
      let now : map state_of news ≡ map state_of a.front ++ used ∷ map state_of a.back =
      same_passes (mids l keeper keeper' olds news h h' n c old new a) news a.others ∙ (map-append state_of a.front (new ∷ a.back) ∙ ap (λ x. map state_of a.front ++ x ∷ map state_of a.back) is) in
      let long : length news ≡ length olds = news_long l keeper keeper' olds news h h' n c old new a in
      let before : map state_of olds ≡ map state_of a.front ++ state_of old ∷ map state_of a.back = ap (map state_of) a.olds_are ∙ map-append state_of a.front (old ∷ a.back) in
      ap (λ k. map state_of news ++ not_given l k) long
      ∙ (ap (λ ps. ps ++ not_given l (length olds)) now
      ∙ (middle_set (map state_of a.front) (state_of old) used (map state_of a.back) (not_given l (length olds)) c (map_long a.front ∙ a.place)
      ∙ ap (λ ps. slice_set (ps ++ not_given l (length olds)) c used) (sym before)))

  -- where the call has changed nothing in the pass
  pub passes_stay : state_of new ≡ state_of old → map state_of news ++ not_given l (length news) ≡ was.passes
  passes_stay is =
      let now : map state_of news ≡ map state_of olds =
      same_passes (mids l keeper keeper' olds news h h' n c old new a) news a.others
      ∙ (map-append state_of a.front (new ∷ a.back) ∙ (ap (λ x. map state_of a.front ++ x ∷ map state_of a.back) is ∙ (sym (map-append state_of a.front (old ∷ a.back)) ∙ ap (map state_of) (sym a.olds_are)))) in
      let long : length news ≡ length olds = news_long l keeper keeper' olds news h h' n c old new a in
      ap (λ k. map state_of news ++ not_given l k) long ∙ ap (λ ps. ps ++ not_given l (length olds)) now

  -- Spare blocks.
  abbrev drawn : ℕ
  drawn = drawn_of olds

  abbrev drawn' : ℕ
  drawn' = drawn_of news

  -- what a pass knows in the end
  knows : (q : PassShown) → In q news → q.seen_blocks ≡ drawn'
  knows = a.after.drawn.seen

  end : (q : PassShown) × In q news × Stays new q
  end = called l keeper keeper' olds news h h' n c old new a

  end_blocks : end.0.blocks ≡ new.blocks
  end_blocks = end.2.quiet.run.2

  -- a block of one of the passes after the call is that pass's or was another's
  was_owned : (b : ℕ) → b < drawn' → In b new.blocks ⊎ (b < drawn)
  was_owned b less =
      let t = a.after.drawn.owned b less in
      let m = zip_right Stays (mids l keeper keeper' olds news h h' n c old new a) news t.0 a.others t.1 in
      let mine : In b m.0.blocks = subst (In b) m.2.quiet.run.2 t.2 in
      ⊎_elim (λ same. inl (subst (λ (p : PassShown). In b p.blocks) same mine)) (λ q. inr (a.before.drawn.inside m.0 b q.0 mine)) (mid_is l keeper keeper' olds news h h' n c old new a m.0 m.1)

  -- one that was drawn is still
  still_owned : ((b : ℕ) → In b old.blocks → In b new.blocks) → (b : ℕ) → b < drawn → b < drawn'
  still_owned kept b less =
      let t = a.before.drawn.owned b less in
      ⊎_elim
      (λ same. a.after.drawn.inside end.0 b end.1 (subst (In b) (sym end_blocks) (kept b (subst (λ (p : PassShown). In b p.blocks) same t.2))))
      (λ q. let s = zip_left Stays (mids l keeper keeper' olds news h h' n c old new a) news t.0 a.others q.0 in a.after.drawn.inside s.0 b s.1 (subst (In b) (sym s.2.quiet.run.2) t.2))
      (old_is l keeper keeper' olds news h h' n c old new a t.0 t.1)

  -- where the call drew none
  pub drawn_stays : new.blocks ≡ old.blocks → drawn_of news ≡ drawn_of olds
  drawn_stays same =
      let up : (drawn < drawn') → ⊥ = λ less. ⊎_elim (λ p. (let x : drawn < drawn = a.before.drawn.inside old drawn (old_in l keeper keeper' olds news h h' n c old new a) (subst (In drawn) same p) in omega arith)) (λ x. omega arith) (was_owned drawn less) in
      let down : (drawn' < drawn) → ⊥ = λ less. (let x : drawn' < drawn' = still_owned (λ b p. subst (In b) (sym same) p) drawn' less in omega arith) in
      elim (leb_tells drawn drawn') [
        | inl p ↦ elim (leb_tells drawn' drawn) [ inl q ↦ (let x = p.1 in let y = q.1 in omega arith) | inr q ↦ absurd (up (omega arith)) ]
        | inr p ↦ absurd (down (omega arith))
      ]

  -- where it found them all drawn
  pub all_drawn : new.blocks ≡ old.blocks → new.seen_blocks ≡ l.spare → drawn_of olds ≡ l.spare
  all_drawn same found =
      let at : drawn_of news ≡ drawn_of olds = drawn_stays same in
      let rises = end.2.drawn in
      let last = knows end.0 end.1 in
      let over : (l.spare < drawn_of olds) → ⊥ = λ less.
      (let t = a.before.drawn.owned l.spare less in
      let up = ascend_in 0 l.spare t.0.blocks l.spare (a.before.each t.0 t.1).shows.run.drawn t.2 in let x = up.1 in omega arith) in
      elim (leb_tells (drawn_of olds) l.spare) [ inl p ↦ (let x = p.1 in omega arith) | inr p ↦ absurd (over (omega arith)) ]

  -- a number that stands at the end of an ascending list isn't before it
  last_above : (low high : ℕ) (xs : List ℕ) (b : ℕ) → Ascend low high (xs ++ b ∷ []) → In b xs → ⊥
  last_above low high [] b up p = in_none p
  last_above low high (x ∷ xs) b up p = ⊎_elim
      (λ same. let t = ascend_in (x + 1) high (xs ++ b ∷ []) b up.2 (in_right xs here) in let above = t.0 in omega arith)
      (λ q. last_above (x + 1) high xs b up.2 q) (in_cons p)

  module _ (b : ℕ) (drew : new.blocks ≡ old.blocks ++ b ∷ []) where
    rising : Ascend 0 l.spare (old.blocks ++ b ∷ [])
    rising = subst (Ascend 0 l.spare) (end_blocks ∙ drew) ((a.after.each end.0 end.1).shows.run.drawn)

    kept : (d : ℕ) → In d old.blocks → In d new.blocks
    kept d p = subst (In d) (sym drew) (in_left (b ∷ []) p)

    b_in : In b end.0.blocks
    b_in = subst (In b) (sym (end_blocks ∙ drew)) (in_right old.blocks here)

    -- it was none that was drawn
    b_new : b < drawn → ⊥
    b_new less =
        let t = a.before.drawn.owned b less in
        ⊎_elim
        (λ same. last_above 0 l.spare old.blocks b rising (subst (λ (p : PassShown). In b p.blocks) same t.2))
        (λ q. let s = zip_left Stays (mids l keeper keeper' olds news h h' n c old new a) news t.0 a.others q.0 in
        let one : s.0.number ≡ end.0.number = a.after.drawn.once s.0 end.0 b s.1 end.1 (subst (In b) (sym s.2.quiet.run.2) t.2) b_in in
        q.1 (sym s.2.number ∙ (one ∙ (end.2.number ∙ (a.follows.number ∙ number_is l keeper keeper' olds news h h' n c old new a)))))
        (old_is l keeper keeper' olds news h h' n c old new a t.0 t.1)

    -- of those below the counter then, each was drawn before, or is this one
    is_b : (d : ℕ) → d < drawn' → (d ≡ b) ⊎ (d < drawn)
    is_b d less = ⊎_elim
        (λ p. ⊎_elim (λ q. inr (a.before.drawn.inside old d (old_in l keeper keeper' olds news h h' n c old new a) q)) (λ q. inl (in_one q)) (in_either old.blocks (b ∷ []) (subst (In d) drew p)))
        (λ p. inr p) (was_owned d less)

    pub drawn_next : (b ≡ drawn_of olds) × (drawn_of news ≡ drawn_of olds + 1) × (drawn_of olds < l.spare)
    drawn_next =
        let inside : b < drawn_of news = a.after.drawn.inside end.0 b end.1 b_in in
        let up : (drawn_of olds < drawn_of news) → drawn_of olds ≡ b = λ less. ⊎_elim (λ e. e) (λ x. absurd (omega arith)) (is_b (drawn_of olds) less) in
        let more : (drawn_of olds + 1 < drawn_of news) → drawn_of olds + 1 ≡ b = λ less. ⊎_elim (λ e. e) (λ x. absurd (omega arith)) (is_b (drawn_of olds + 1) less) in
        let low : drawn_of olds ≤ b = elim (leb_tells (drawn_of olds) b) [ inl p ↦ p.1 | inr p ↦ absurd (b_new (omega arith)) ] in
        let same : drawn_of olds ≡ b = up (omega arith) in
        let top : b < l.spare = (ascend_in 0 l.spare (old.blocks ++ b ∷ []) b rising (in_right old.blocks here)).1 in
        let next : drawn_of news ≡ drawn_of olds + 1 = elim (leb_tells (drawn_of news) (drawn_of olds + 1)) [ inl p ↦ (let x = p.1 in omega arith) | inr p ↦ absurd (let y = more (omega arith) in omega arith) ] in
        (sym same, next, omega arith)

  -- Rows.

  abbrev ready_by : PassState → ℕ → PassState
  ready_by x k =
      let draw = nat_lt x.left k && nat_lt (drawn_of olds) l.spare in
      record {
        next = if draw then block_first l (drawn_of olds) else x.next;
        left = if draw then BLOCK_ROWS else x.left;
        claimed = x.claimed;
        holding = x.holding;
        turns = x.turns;
      }

  -- what the pass is like when it goes on to use k rows, and how many blocks are drawn then
  abbrev pub Readied : ℕ → ℕ → ℕ → ℕ → Type 0
  Readied k next left drawn =
      (ready was c k ≡ record { next = next; left = left; claimed = claims_in old.mine; holding = old.open_unit; turns = turns_in old.from }) × ((with_draw was c k).drawn ≡ drawn)

  readied_by : (k : ℕ) (b : Bool) → (nat_lt old.left k && nat_lt (drawn_of olds) l.spare) ≡ b
      → Readied k (if b then block_first l (drawn_of olds) else old.next) (if b then BLOCK_ROWS else old.left) (if b then drawn_of olds + 1 else drawn_of olds)
  readied_by k b is = (
    ap (λ x. ready_by x k) pass_is ∙ ap (λ z. record { next = if z then block_first l (drawn_of olds) else old.next; left = if z then BLOCK_ROWS else old.left; claimed = claims_in old.mine; holding = old.open_unit; turns = turns_in old.from }) is,
    ap (λ (x : PassState). if nat_lt x.left k && nat_lt (drawn_of olds) l.spare then drawn_of olds + 1 else drawn_of olds) pass_is ∙ ap (λ z. if z then drawn_of olds + 1 else drawn_of olds) is,
  )

  pub ready_run : (k : ℕ) → k ≤ old.left → Readied k old.next old.left (drawn_of olds)
  ready_run k room = readied_by k false (rw (le-ltb old.left k room) refl)

  pub ready_full : (k : ℕ) → drawn_of olds ≡ l.spare → Readied k old.next old.left (drawn_of olds)
  ready_full k all = readied_by k false (ap (λ z. nat_lt old.left k && z) (le-ltb (drawn_of olds) l.spare (omega arith)) ∙ falses (nat_lt old.left k))
    where
      falses : (b : Bool) → (b && false) ≡ false
      falses true = refl
      falses false = refl

  pub ready_block : (k : ℕ) → old.left < k → drawn_of olds < l.spare → Readied k (block_first l (drawn_of olds)) BLOCK_ROWS (drawn_of olds + 1)
  ready_block k few left = readied_by k true (ap (λ z. z && nat_lt (drawn_of olds) l.spare) (lt-ltb old.left k few) ∙ lt-ltb (drawn_of olds) l.spare left)

  -- the call has used k rows, from this one on: these are the ones that the manager of one thread uses
  pub record Used (k first : ℕ) : Type 0 where
    pub next : ℕ
    pub left : ℕ
    pub readied : Readied k next left (drawn_of news)
    pub first_is : first ≡ next
    pub room : k ≤ left
    pub new_next : new.next ≡ next + k
    pub new_left : new.left ≡ left - k

  pub uses : (k first : ℕ) → UsesRows k first old new → Used k first
  uses k first (inl run) =
      let room = run.room in let at = run.first_is in let on = run.next in let over = run.left in
      record {
        next = old.next;
        left = old.left;
        readied = (let r = ready_run k room in (r.0, r.1 ∙ sym (drawn_stays run.blocks)));
        first_is = at;
        room = room;
        new_next = omega arith;
        new_left = omega arith;
      }
  uses k first (inr run) =
      let at = run.first_is in let on = run.next in let over = run.left in
      let d = drawn_next run.block run.blocks in
      let rows : first ≡ block_first l (drawn_of olds) = at ∙ (ap (λ m. block_first m run.block) (old_seen l keeper keeper' olds news h h' n c old new a).limits ∙ ap (block_first l) d.0) in
      record {
        next = block_first l (drawn_of olds);
        left = BLOCK_ROWS;
        readied = (let r = ready_block k run.few d.2 in (r.0, r.1 ∙ sym d.1));
        first_is = rows;
        room = omega arith;
        new_next = on ∙ ap (λ z. z + k) rows;
        new_left = omega arith;
      }

  -- an event of the call came as the definitions say
  pub step_of : (e : Event) → h' ≡ h ++ e ∷ [] → Step l h e
  step_of e is = legal_at l h e [] (subst (IsLegal l) is a.after.legal)

  -- the state that the call leaves
  pub leaves : (g : List Event) (used : PassState) (d : ℕ) → h' ≡ g → state_of new ≡ used → drawn_of news ≡ d
      → let t : State = record { limits = l; history = g; passes = slice_set was.passes c used; drawn = d } in thread_of l news h' ≡ t
  leaves g used d x y z = same_state l h' g _ _ (drawn_of news) d x (passes_are used y) z

  -- a call that did nothing but look
  module _ (quiet : IsQuiet old new) where
    pub quiet_end : h' ≡ h
    quiet_end = end_is l keeper keeper' olds news h h' n c old new a [] (quiet.mine ∙ sym (append_nil old.mine)) ∙ append_nil h

  quiet_state : new.from ≡ old.from → IsQuiet old new → state_of new ≡ state_of old
  quiet_state turn quiet =
      let mine = ap claims_in quiet.mine in
      let open_unit = quiet.open_unit in
      let next = quiet.run.0 in
      let left = quiet.run.1 in
      let turns : turns_in new.from ≡ turns_in old.from = ap turns_in turn in
      cc

  pub quiet_leaves : new.from ≡ old.from → IsQuiet old new → thread_of l news h' ≡ was
  quiet_leaves turn quiet = same_state l h' h _ _ (drawn_of news) (drawn_of olds) (quiet_end quiet) (passes_stay (quiet_state turn quiet)) (drawn_stays quiet.run.2)

  -- a call that did nothing but add events, none of them a claim
  pub added_leaves : new.from ≡ old.from → (es : List Event) → new.mine ≡ old.mine ++ es → claims_in es ≡ 0 → new.open_unit ≡ old.open_unit → KeepsRun old new
      → let t : State = record { limits = l; history = h ++ es; passes = was.passes; drawn = was.drawn } in thread_of l news h' ≡ t
  added_leaves turn es made none open_unit run =
      let claimed : claims_in new.mine ≡ claims_in old.mine = ap claims_in made ∙ (claims_more old.mine es ∙ omega arith) in
      let next = run.0 in
      let left = run.1 in
      let turns : turns_in new.from ≡ turns_in old.from = ap turns_in turn in
      let same : state_of new ≡ state_of old = cc in
      same_state l h' (h ++ es) _ _ (drawn_of news) (drawn_of olds) (end_is l keeper keeper' olds news h h' n c old new a es made) (passes_stay same) (drawn_stays run.2)
