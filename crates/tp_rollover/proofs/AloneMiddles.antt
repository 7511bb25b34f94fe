-- Between two looks together.
use Rattle.std.proofs.Common.{◌≡◌, ◌⊎◌, ℕ, suc, ◌+◌, ◌<◌, ◌≤◌, ◌==◌, None, Option, Some, List, [], ◌∷◌, ◌++◌, length, map, refl, sym, ◌∙◌, ap, subst, inl, inr, ⊎_elim, append_assoc, arith}
use Rattle.std.proofs.lemmas.List.{append_cancel_left}
use Rattle.std.proofs.lemmas.List.Elements.{filter-append}
use Rattle.std.specs.List.{AllZip}
use mathlib.Core.List.{IsPrefix}
use Rattle.tp_model.specs.declared.types.Limits.{Limits}
use Rattle.tp_model.specs.declared.event.Event.{Event}
use Rattle.tp_model.specs.declared.event.Event.TheVariants.{Abort}
use Rattle.tp_model.specs.History.{Committed, In, IsClaim, IsUnborn, UnitClaim, UnitEnd, claim_of, element_of, end_of, events_by, here, pass_of, there}
use Rattle.tp_model.specs.Passes.{AreEnded, IsOwnOpen, IsRun}
use Rattle.tp_model.specs.Steps.{IsLegal, MayUse}
use Rattle.tp_model.proofs.Bridges.{append_nil, begins_trans, claim_later, end_stays, in_cons, in_either, in_left, in_none, in_right}
use Rattle.tp_model.proofs.Histories.{element_of-append}
use Rattle.tp_model.proofs.Lists.{option_or-none}
use Rattle.tp_model.proofs.Takings.{own_claim}
use Rattle.tp_manager.proofs.Claims.UnitsChosen.{unused_mine}
use Rattle.tp_manager.specs.Accounts.{AreNumberedFrom}
use Rattle.tp_manager.specs.Shown.{KeeperShown, PassShown}
use Rattle.tp_rollover.specs.Middle.{AloneMiddle, Between, as_seen}
use Rattle.tp_rollover.specs.Thread.{AreDrawn, AreTogether, HasSeen, Stays, drawn_of}
use Rattle.tp_rollover.proofs.AloneApart.{zip_left, zip_long, zip_right}

in_prefix : (a b : List Event) (e : Event) → IsPrefix a b → In e a → In e b
in_prefix a b e begins p = subst (In e) begins.1 (in_left begins.0 p)

unborn_prefix : (a b : List Event) (i : ℕ) → IsPrefix a b → IsUnborn b i → IsUnborn a i
unborn_prefix a b i begins none = (option_or-none (element_of a i) (element_of begins.0 i) (sym (element_of-append a begins.0 i) ∙ subst (λ z. element_of z i ≡ None) (sym begins.1) none)).0

nil_left : (xs ys : List Event) → xs ++ ys ≡ [] → xs ≡ []
nil_left [] ys e = refl
nil_left (x ∷ xs) ys e = absurd cc

-- a pass with no event between a and b has none up to a history in between
squeezed : (d : ℕ) (a m b : List Event) → IsPrefix a m → IsPrefix m b → events_by d b ≡ events_by d a → events_by d m ≡ events_by d a
squeezed d a m b low high same =
    let whole : events_by d (low.0 ++ high.0) ≡ [] =
    append_cancel_left (events_by d a) (events_by d (low.0 ++ high.0)) [] (
    sym (filter-append (λ e. pass_of e == d) a (low.0 ++ high.0)) ∙ (ap (events_by d) (sym (append_assoc a low.0 high.0) ∙ (ap (λ z. z ++ high.0) low.1 ∙ high.1)) ∙ (same ∙ sym (append_nil (events_by d a))))) in
    let first : events_by d low.0 ≡ [] = nil_left (events_by d low.0) (events_by d high.0) (sym (filter-append (λ e. pass_of e == d) low.0 high.0) ∙ whole) in
    sym (ap (events_by d) low.1) ∙ (filter-append (λ e. pass_of e == d) a low.0 ∙ (ap (λ z. events_by d a ++ z) first ∙ append_nil (events_by d a)))

-- a unit that hasn't ended hadn't before
open_before : (a b : List Event) → IsPrefix a b → (u : ℕ) → end_of b u ≡ None → end_of a u ≡ None
open_before a b begins u none = go (end_of a u) refl
  where
    go : (was : Option UnitEnd) → end_of a u ≡ was → end_of a u ≡ None
    go None is = is
    go (Some how) is = let later = end_stays a b u how begins is in absurd cc

-- a unit that a pass took was taken before, if the pass has made no event since
claim_before : (a b : List Event) → IsPrefix a b → (c u i n : ℕ) → events_by c b ≡ events_by c a → IsClaim b c u i n → IsClaim a c u i n
claim_before a b begins c u i n same claim = go (claim_of a u) refl
  where
    taken : UnitClaim
    taken = record { pass = c; item = i; attempt = n }

    go : (was : Option UnitClaim) → claim_of a u ≡ was → claim_of a u ≡ Some taken
    go None is = let own = own_claim b u taken claim in let gone = unused_mine c u a is in let e = ap (λ g. claim_of g u) same in absurd cc
    go (Some t) is = is ∙ (sym (claim_later a b begins t.pass u t.item t.attempt is) ∙ claim)

module _ (l : Limits) (h m h' : List Event) (low : IsPrefix h m) (high : IsPrefix m h') (legal : IsLegal l m) (drawn : ℕ) where
  may_sooner : (c i : ℕ) → MayUse l h' c i → MayUse l m c i
  may_sooner c i may = ⊎_elim (λ row. inl row) (λ t. inr (t.0, t.1, t.2, λ e x p made row. t.3 e x (in_prefix m h' e high p) made row)) may

  -- a pass that has done nothing between
  view_between : (p q : PassShown) → HasSeen l h p → Stays p q → HasSeen l h' q → HasSeen l m (as_seen m drawn p)
  view_between p q was stays is =
      let number = stays.number in
      let run = was.shows.run in
      let later : IsRun l h' p.number p.blocks p.next p.left =
      subst (λ z. IsRun l h' z p.blocks p.next p.left) number
      (subst (λ z. IsRun l h' q.number z p.next p.left) stays.quiet.run.2
      (subst (λ z. IsRun l h' q.number q.blocks z p.left) stays.quiet.run.0
      (subst (λ z. IsRun l h' q.number q.blocks q.next z) stays.quiet.run.1
      (subst (λ z. IsRun l z q.number q.blocks q.next q.left) is.seen is.shows.run)))) in
      let mine : p.mine ≡ events_by p.number h = was.shows.own ∙ ap (events_by p.number) was.seen in
      let mine_later : p.mine ≡ events_by p.number h' = sym stays.quiet.mine ∙ (is.shows.own ∙ (ap (λ d. events_by d q.seen) number ∙ ap (events_by p.number) is.seen)) in
      record {
        limits = was.limits;
        seen = refl;
        shows = record {
          given = was.shows.given;
          legal = legal;
          own = mine ∙ sym (squeezed p.number h m h' low high (sym mine_later ∙ mine));
          run = record {
            drawn = later.drawn;
            first = later.first;
            end = later.end;
            own = later.own;
            begins = later.begins;
            ends = later.ends;
            unborn = λ i from to. unborn_prefix m h' i high (later.unborn i from to);
            usable = λ i from to. may_sooner p.number i (later.usable i from to);
          };
          open_own = λ u held. (
              let o : IsOwnOpen h p.number u = subst (λ z. IsOwnOpen z p.number u) was.seen (was.shows.open_own u held) in
              let o' : IsOwnOpen h' p.number u = subst (λ z. IsOwnOpen h' z u) number (subst (λ z. IsOwnOpen z q.number u) is.seen (is.shows.open_own u (stays.quiet.open_unit ∙ held))) in
              record {
                item = o.item;
                attempt = o.attempt;
                claimed = claim_later h m low p.number u o.item o.attempt o.claimed;
                uncommitted = λ f k e. o'.uncommitted f k (end_stays m h' u (Committed f k) high e);
                kept = λ e. o'.kept (in_prefix m h' (Abort p.number u) high e);
              });
          ended = λ u i n claim not none.
              subst (λ z. AreEnded z p.number p.open_unit) was.seen was.shows.ended u i n
              (claim_before h m low p.number u i n (squeezed p.number h m h' low high (sym mine_later ∙ mine)) claim) not (open_before h m low u none);
        };
      }

-- lists of passes as if they had seen this
module _ (m : List Event) (drawn : ℕ) where
  abbrev seen_all : List PassShown → List PassShown
  seen_all ps = map (as_seen m drawn) ps

  in_seen : (ps : List PassShown) (q : PassShown) → In q (seen_all ps) → (p : PassShown) × In p ps × (q ≡ as_seen m drawn p)
  in_seen [] q r = absurd (in_none r)
  in_seen (p ∷ ps) q r = ⊎_elim (λ same. (p, here, same)) (λ s. let t = in_seen ps q s in (t.0, there t.1, t.2)) (in_cons r)

  seen_in : (ps : List PassShown) (p : PassShown) → In p ps → In (as_seen m drawn p) (seen_all ps)
  seen_in [] p r = absurd (in_none r)
  seen_in (x ∷ ps) p r = ⊎_elim (λ same. subst (λ z. In z (seen_all (x ∷ ps))) (ap (as_seen m drawn) (sym same)) here) (λ s. there (seen_in ps p s)) (in_cons r)

  from_seen : (a : ℕ) (ps : List PassShown) (old new : PassShown) (qs : List PassShown) → new.number ≡ old.number → AreNumberedFrom a (ps ++ old ∷ qs) → AreNumberedFrom a (seen_all ps ++ new ∷ seen_all qs)
  from_seen a [] old new qs same from = (same ∙ from.0, go (a + 1) qs from.1)
    where
      go : (a : ℕ) (qs : List PassShown) → AreNumberedFrom a qs → AreNumberedFrom a (seen_all qs)
      go a [] from = tt
      go a (q ∷ qs) from = (from.0, go (a + 1) qs from.1)
  from_seen a (p ∷ ps) old new qs same from = (from.0, from_seen (a + 1) ps old new qs same from.1)

  long_seen : (ps : List PassShown) (old new : PassShown) (qs : List PassShown) → length (seen_all ps ++ new ∷ seen_all qs) ≡ length (ps ++ old ∷ qs)
  long_seen [] old new qs = ap suc (go qs)
    where
      go : (qs : List PassShown) → length (seen_all qs) ≡ length qs
      go [] = refl
      go (q ∷ qs) = ap suc (go qs)
  long_seen (p ∷ ps) old new qs = ap suc (long_seen ps old new qs)

  drawn_seen : (ps : List PassShown) (new : PassShown) (qs : List PassShown) → new.seen_blocks ≡ drawn → drawn_of (seen_all ps ++ new ∷ seen_all qs) ≡ drawn
  drawn_seen [] new qs same = same
  drawn_seen (p ∷ ps) new qs same = refl

  stay_seen : (h : List Event) (ps : List PassShown) (new : PassShown) (qs : List PassShown) → Stays new new → ((p : PassShown) → In p ps → Stays p (as_seen m drawn p)) → ((p : PassShown) → In p qs → Stays p (as_seen m drawn p))
      → AllZip Stays (ps ++ new ∷ qs) (seen_all ps ++ new ∷ seen_all qs)
  stay_seen h [] new qs one front back = (one, go qs back)
    where
      go : (qs : List PassShown) → ((p : PassShown) → In p qs → Stays p (as_seen m drawn p)) → AllZip Stays qs (seen_all qs)
      go [] all = tt
      go (q ∷ qs) all = (all q here, go qs (λ p r. all p (there r)))
  stay_seen h (p ∷ ps) new qs one front back = (front p here, stay_seen h ps new qs one (λ q r. front q (there r)) back)

  stay_as : (p q : PassShown) → Stays p q → IsPrefix m q.seen → drawn ≤ q.seen_blocks → Stays (as_seen m drawn p) q
  stay_as p q t sees more = record { number = t.number; quiet = record { mine = t.quiet.mine; open_unit = t.quiet.open_unit; run = t.quiet.run }; sees = sees; drawn = more; turn = t.turn }

  -- and what they are like in the end
  seen_stay : (ps : List PassShown) (last : PassShown) (rs news : List PassShown) → AllZip Stays (ps ++ last ∷ rs) news → ((q : PassShown) → In q news → IsPrefix m q.seen × (drawn ≤ q.seen_blocks))
      → AllZip Stays (seen_all ps ++ last ∷ seen_all rs) news
  seen_stay [] last rs [] zip more = absurd zip
  seen_stay [] last rs (q ∷ qs) zip more = (zip.0, go rs qs zip.1 (λ x p. more x (there p)))
    where
      go : (rs qs : List PassShown) → AllZip Stays rs qs → ((q : PassShown) → In q qs → IsPrefix m q.seen × (drawn ≤ q.seen_blocks)) → AllZip Stays (seen_all rs) qs
      go [] [] zip more = tt
      go [] (q ∷ qs) zip more = absurd zip
      go (r ∷ rs) [] zip more = absurd zip
      go (r ∷ rs) (q ∷ qs) zip more = let x = more q here in (stay_as r q zip.0 x.0 x.1, go rs qs zip.1 (λ y p. more y (there p)))
  seen_stay (p ∷ ps) last rs [] zip more = absurd zip
  seen_stay (p ∷ ps) last rs (q ∷ qs) zip more =
      let x = more q here in (stay_as p q zip.0 x.0 x.1, seen_stay ps last rs qs zip.1 (λ y p. more y (there p)))

module _ (l : Limits) (keeper keeper' : KeeperShown) (olds news : List PassShown) (h h' : List Event) (old new last : PassShown) (b : Between l keeper keeper' olds news h h' old new last) where
  abbrev pub m : List Event
  m = new.seen

  abbrev pub drawn : ℕ
  drawn = new.seen_blocks

  abbrev pub mids : List PassShown
  mids = map (as_seen m drawn) b.front ++ new ∷ map (as_seen m drawn) b.back

  old_in : In old olds
  old_in = subst (In old) (sym b.olds_are) (in_right b.front here)

  end : (q : PassShown) × In q news × Stays last q
  end = zip_left Stays (b.front ++ last ∷ b.back) news last b.others (in_right b.front here)

  low : IsPrefix h m
  low = subst (λ z. IsPrefix z m) (b.before.each old old_in).seen b.first.sees

  high : IsPrefix m h'
  high = begins_trans m last.seen h' b.rest.sees (subst (IsPrefix last.seen) (b.after.each end.0 end.1).seen end.2.sees)

  -- another pass
  other_in : (p : PassShown) → In p b.front ⊎ In p b.back → In p olds × ((q : PassShown) × In q news × Stays p q)
  other_in p r = (
    subst (In p) (sym b.olds_are) (⊎_elim (λ s. in_left (old ∷ b.back) s) (λ s. in_right b.front (there s)) r),
    zip_left Stays (b.front ++ last ∷ b.back) news p b.others (⊎_elim (λ s. in_left (last ∷ b.back) s) (λ s. in_right b.front (there s)) r),
  )

  mid_is : (q : PassShown) → In q mids → (q ≡ new) ⊎ ((p : PassShown) × (In p b.front ⊎ In p b.back) × (q ≡ as_seen m drawn p))
  mid_is q r = ⊎_elim (λ s. let t = in_seen m drawn b.front q s in inr (t.0, inl t.1, t.2))
      (λ s. ⊎_elim (λ same. inl same) (λ u. let t = in_seen m drawn b.back q u in inr (t.0, inr t.1, t.2)) (in_cons s))
      (in_either (map (as_seen m drawn) b.front) (new ∷ map (as_seen m drawn) b.back) r)

  in_mids : (p : PassShown) → In p b.front ⊎ In p b.back → In (as_seen m drawn p) mids
  in_mids p r = ⊎_elim (λ s. in_left (new ∷ map (as_seen m drawn) b.back) (seen_in m drawn b.front p s)) (λ s. in_right (map (as_seen m drawn) b.front) (there (seen_in m drawn b.back p s))) r

  each : (q : PassShown) → In q mids → HasSeen l m q
  each q r = ⊎_elim (λ same. subst (HasSeen l m) (sym same) b.shown)
      (λ t. subst (HasSeen l m) (sym t.2) (let s = other_in t.0 t.1 in view_between l h m h' low high b.shown.shows.legal drawn t.0 s.1.0 (b.before.each t.0 s.0) s.1.2 (b.after.each s.1.0 s.1.1)))
      (mid_is q r)

  long : length mids ≡ length olds
  long = long_seen m drawn b.front old new b.back ∙ ap length (sym b.olds_are)

  ends_long : length news ≡ length olds
  ends_long = zip_long Stays (b.front ++ last ∷ b.back) news b.others ∙ (same b.front last old b.back ∙ ap length (sym b.olds_are))
    where
      same : (xs : List PassShown) (x y : PassShown) (ys : List PassShown) → length (xs ++ x ∷ ys) ≡ length (xs ++ y ∷ ys)
      same [] x y ys = refl
      same (z ∷ xs) x y ys = ap suc (same xs x y ys)

  others : (c : ℕ) → keeper.given ≤ c → events_by c m ≡ []
  others c given =
      let none = b.before.others c given in
      let later : events_by c h' ≡ [] = b.after.others c (let x = b.before.all.0 in let y = b.after.all.0 in let z = ends_long in omega arith) in
      squeezed c h m h' low high (later ∙ sym none) ∙ none

  -- blocks
  abbrev Mid : ℕ → Type 0
  Mid d = (p : PassShown) × In p mids × In d p.blocks

  owned : (d : ℕ) → d < drawn → Mid d
  owned d less =
      let up : d < drawn_of news = (let x = b.rest.drawn in let y = end.2.drawn in let z = b.after.drawn.seen end.0 end.1 in omega arith) in
      let t = b.after.drawn.owned d up in
      let s = zip_right Stays (b.front ++ last ∷ b.back) news t.0 b.others t.1 in
      let held : In d s.0.blocks = subst (In d) s.2.quiet.run.2 t.2 in
      let of_other : (In s.0 b.front ⊎ In s.0 b.back) → Mid d = λ r. (as_seen m drawn s.0, in_mids s.0 r, held) in
      let of_last : s.0 ≡ last → Mid d = λ same. ⊎_elim (λ x. (new, in_right (map (as_seen m drawn) b.front) here, x)) (λ x. absurd (omega arith)) (b.rest.later d (subst (λ (p : PassShown). In d p.blocks) same held)) in
      ⊎_elim (λ x. of_other (inl x)) (λ x. ⊎_elim of_last (λ y. of_other (inr y)) (in_cons x)) (in_either b.front (last ∷ b.back) s.1)

  inside : (p : PassShown) (d : ℕ) → In p mids → In d p.blocks → d < drawn
  inside p d r held = ⊎_elim (λ same. b.below d (subst (λ (q : PassShown). In d q.blocks) same held))
      (λ t.
      let was : d < drawn_of olds = b.before.drawn.inside t.0 d (other_in t.0 t.1).0 (subst (λ (q : PassShown). In d q.blocks) t.2 held) in
      let at = b.before.drawn.seen old old_in in let more = b.first.drawn in omega arith)
      (mid_is p r)

  -- where a pass of these is in the end
  at_end : (p : PassShown) → In p mids → (q : PassShown) × In q news × (q.number ≡ p.number) × ((d : ℕ) → In d p.blocks → In d q.blocks)
  at_end p r = ⊎_elim
      (λ same. (end.0, end.1, end.2.number ∙ (b.rest.number ∙ ap (λ (z : PassShown). z.number) (sym same)), λ d held. subst (In d) (sym end.2.quiet.run.2) (b.rest.kept d (subst (λ (z : PassShown). In d z.blocks) same held))))
      (λ t. let s = (other_in t.0 t.1).1 in (s.0, s.1, s.2.number ∙ ap (λ (z : PassShown). z.number) (sym t.2), λ d held. subst (In d) (sym s.2.quiet.run.2) (subst (λ (z : PassShown). In d z.blocks) t.2 held)))
      (mid_is p r)

  once : (p q : PassShown) (d : ℕ) → In p mids → In q mids → In d p.blocks → In d q.blocks → p.number ≡ q.number
  once p q d r s x y = let t = at_end p r in let u = at_end q s in sym t.2 ∙ (b.after.drawn.once t.0 u.0 d t.1 u.1 (t.3 d x) (u.3 d y) ∙ u.2)

  drawn_is : drawn_of mids ≡ drawn
  drawn_is = drawn_seen m drawn b.front new b.back refl

  knows : (p : PassShown) → In p mids → p.seen_blocks ≡ drawn
  knows p r = ⊎_elim (λ same. ap (λ (z : PassShown). z.seen_blocks) same) (λ t. ap (λ (z : PassShown). z.seen_blocks) t.2) (mid_is p r)

  together : AreTogether l keeper mids m
  together = record {
    legal = b.shown.shows.legal;
    all = (long ∙ b.before.all.0, from_seen m drawn 0 b.front old new b.back b.first.number (subst (AreNumberedFrom 0) b.olds_are b.before.all.1));
    each = each;
    others = others;
    drawn = subst (λ d. AreDrawn d mids) (sym drawn_is) (record { seen = knows; inside = inside; owned = owned; once = once });
  }

  stays : (p : PassShown) → In p b.front ⊎ In p b.back → Stays p (as_seen m drawn p)
  stays p r =
      let was = (other_in p r).0 in
      let x = b.before.drawn.seen p was in let y = b.before.drawn.seen old old_in in let more = b.first.drawn in
      record {
        number = refl;
        quiet = record { mine = refl; open_unit = refl; run = (refl, refl, refl) };
        sees = subst (λ z. IsPrefix z m) (sym (b.before.each p was).seen) low;
        drawn = omega arith;
        turn = refl;
      }

  stay : AllZip Stays (b.front ++ new ∷ b.back) mids
  stay = stay_seen m drawn h b.front new b.back (record { number = refl; quiet = record { mine = refl; open_unit = refl; run = (refl, refl, refl) }; sees = ([], append_nil new.seen); drawn = omega arith; turn = refl })
      (λ p r. stays p (inl r)) (λ p r. stays p (inr r))

  goes_on : AllZip Stays (map (as_seen m drawn) b.front ++ last ∷ map (as_seen m drawn) b.back) news
  goes_on = seen_stay m drawn b.front last b.back news b.others (λ q p.
      let x = b.rest.drawn in let y = end.2.drawn in let z = b.after.drawn.seen end.0 end.1 in let w = b.after.drawn.seen q p in
      (subst (IsPrefix m) (sym (b.after.each q p).seen) high, omega arith))

pub alone_middle : AloneMiddle
alone_middle l keeper keeper' olds news h h' old new last b = (together l keeper keeper' olds news h h' old new last b, stay l keeper keeper' olds news h h' old new last b, goes_on l keeper keeper' olds news h h' old new last b)
