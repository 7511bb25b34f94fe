-- The table at the start meets the rule.
use Rattle.std.proofs.Common.{◌≡◌, ℕ, zero, suc, ◌+◌, ◌*◌, ◌<◌, ◌≤◌, List, [], ◌∷◌, replicate, get_or, sym, refl, ap, ◌∙◌, subst, inl, ⊎_elim, arith, Some}
use Rattle.std.proofs.lemmas.List.{length-replicate}
use mathlib.Core.Option.{some, some-injective, some-ne-none}
use mathlib.Core.Logic.{dite}
use native.Mathlib.Decide.{ℕ_discrete}
use lib.ListN.{get_elem?}
use Rattle.atomic_table.specs.Table.{opening}
use Rattle.tp_model.proofs.Histories.{legal_empty}
use Rattle.tp_model.proofs.Bridges.{begins_refl, in_cons, in_here, in_none}
use Rattle.tp_model.specs.History.{In, there}
use Rattle.tp_model.specs.declared.types.Limits.{Limits}
use Rattle.tp_rule.specs.Rule.{AreCommitted, HandHolds, IsApart, MarkHolds, Owners, Rule, SeatHolds, WordIs}
use Rattle.tp_rule.specs.Views.{first_view, fresh, fresh_from}
use Rattle.tp_rule.proofs.Blanks.{blank_there, zeros}
use Rattle.tp_rule.specs.declared.view.Hand.{Hand}
use Rattle.tp_rule.specs.declared.view.View.{View}
use Rattle.tp_rule.specs.Places.{Word, HeadWord, BodyWord, ClaimWord, UnitWord, MarkWord, DrawnWord, IsThere, head_place, body_place, claim_place, unit_place, mark_place, drawn_place, place_of, size_of}
use Rattle.tp_rule.specs.declared.packing.Head.TheVariants.{Empty, Filled}
use Rattle.tp_rule.specs.Words.{head_bits, unit_bits, unit_tail_bits}
use Rattle.tp_rule.proofs.Storing.{has_full}

-- the first seat stands for all passes, and no block is drawn
abbrev first_owners : Owners
first_owners = record { seat = λ c. 0; drawer = λ b. 0 }

module _ (k : Limits) where
  fresh_in : (c n : ℕ) (a : Hand) → In a (fresh_from k c n) → (c ≤ a.number) × (a.number < c + n) × (a ≡ fresh k a.number)
  fresh_in c zero a p = absurd (in_none p)
  fresh_in c (suc n) a p = ⊎_elim (λ e. let same : a.number ≡ c = ap (λ (z : Hand). z.number) e in (omega arith, omega arith, e ∙ ap (fresh k) (sym same)))
      (λ q. let t = fresh_in (c + 1) n a q in let x = t.0 in let y = t.1 in (omega arith, omega arith, t.2)) (in_cons p)

  fresh_apart : (c n : ℕ) → IsApart (fresh_from k c n)
  fresh_apart c zero = tt
  fresh_apart c (suc n) = (λ b p e. let t = fresh_in (c + 1) n b p in let x = t.0 in omega arith, fresh_apart (c + 1) n)

  -- each pass is one of the first ones
  fresh_seated : (c n d : ℕ) → c ≤ d → d < c + n → In (fresh k d) (fresh_from k c n)
  fresh_seated c zero d low high = absurd (omega arith)
  fresh_seated c (suc n) d low high = dite (ℕ_discrete d c) (λ e. in_here (fresh_from k (c + 1) n) (ap (fresh k) e)) (λ other. there (fresh_seated (c + 1) n d (omega arith) (omega arith)))

  fresh_holds : (c : ℕ) → c < k.parts → HandHolds k [] (replicate (size_of k) 0) (fresh k c)
  fresh_holds c below = record {
    given = below;
    mine = refl;
    blocks = tt;
    spares = λ e x b p. absurd (in_none p);
    first = c * k.rows;
    end = c * k.rows + k.rows;
    area = inl (below, refl, refl);
    rows = record {
      counted = omega arith;
      begins = omega arith;
      ends = refl;
      unborn = λ i l m. refl;
      full = λ i l m. let low : c * k.rows ≤ i = l in let high : i < c * k.rows = m in absurd (omega arith);
      empty = λ i l m. zeros (size_of k) (head_place i);
      unwritten = λ i low high j few. zeros (size_of k) (body_place i j);
      body_whole = refl;
      body_there = λ room. blank_there (replicate (size_of k) 0) (c * k.rows) (λ j few. zeros (size_of k) (body_place (c * k.rows) j));
      run = tt;
      written = λ x p. absurd (in_none p);
    };
    tail = λ j low up. let less : j < c * k.rows = low in let more : c * k.rows ≤ j + 0 = up in absurd (omega arith);
    units = record {
      used_below = omega arith;
      unused = λ u l m. refl;
      spare_next = λ u is. absurd cc;
      open_own = λ u is. absurd cc;
      closed = λ u i n p. absurd cc;
      in_order = λ u low high un. let down : c * k.units ≤ u = low in let up : u < c * k.units + 0 = high in absurd (omega arith);
    };
    areas = record {
      last = λ first end own. ⊎_elim (λ part. let at = part.2 in omega arith) (λ t. absurd (in_none t.1)) own;
      decided = λ first end i stage root u own low high named un. absurd (has_full (replicate (size_of k) 0) i (Filled stage root (Some u)) (λ q. cc) named.1 (zeros (size_of k) (head_place i)));
      output = λ first end i stage root u from count own low high named. absurd (has_full (replicate (size_of k) 0) i (Filled stage root (Some u)) (λ q. cc) named.1 (zeros (size_of k) (head_place i)));
      cleared = λ first end i own away low high. ⊎_elim (λ part. let at = part.2 in absurd (away (omega arith))) (λ t. absurd (in_none t.1)) own;
      headed = λ first end i e x own low high p. absurd (in_none p);
    };
  }

  pub opens : (ws : List ℕ) → ws ≡ replicate (size_of k) 0 → Rule k (opening ws [] (first_view k))
  opens ws e = subst (λ (l : List ℕ). Rule k (opening l [] (first_view k))) (sym e) record {
    history = [];
    owner = first_owners;
    world = record {
      legal = legal_empty k;
      wide = length-replicate (size_of k) 0;
      tells = zero_told;
      drawn = let none = zeros (size_of k) (drawn_place k) in omega arith;
      bare = λ i low high. zeros (size_of k) (head_place i);
      unwritten = λ i low high j few. zeros (size_of k) (body_place i j);
      tails = λ i stage there s. absurd (has_full (replicate (size_of k) 0) i (Filled stage s.0 s.1) (λ q. cc) s.3 (zeros (size_of k) (head_place i)));
      behind = λ first end i j area low later high zero. inl (zeros (size_of k) (head_place j));
      marks = λ s p l. subst (MarkHolds k s [] (replicate (size_of k) 0) p) (sym (zeros (size_of k) (mark_place k s p))) record { inside = (λ _. omega arith, λ _. omega arith); below = λ i low high. let up : i < p * k.rows + 0 = high in let down : p * k.rows ≤ i = low in absurd (omega arith) };
    };
    seats = first;
    complete = λ c below. let p = fresh_seated 0 k.parts c (omega arith) (omega arith) in (0, first_view k, fresh k c, refl, p, refl);
    drawers = λ b below. let none = zeros (size_of k) (drawn_place k) in absurd (omega arith);
  }
    where
      zero_told : (w : Word) → IsThere k w → WordIs [] w (get_or (replicate (size_of k) 0) (place_of k w) 0)
      zero_told (HeadWord i) l = record { head = Empty; packed = ap head_bits (zeros (size_of k) (head_place i)); fit = tt; bare = λ _. zeros (size_of k) (head_place i); born = λ x p. absurd cc; draft = λ un. tt }
      zero_told (BodyWord i j) l = λ x p. absurd cc
      zero_told (ClaimWord i) l = (zeros (size_of k) (claim_place i), tt)
      zero_told (UnitWord u) l = let none = zeros (size_of k) (unit_place k u) in record { packed = ap unit_bits none; fit = tt; bare = λ _. none; before = subst (AreCommitted [] u) (sym (ap unit_tail_bits none)) (λ w less up. let more : u ≤ w + 0 = up in absurd (omega arith)) }
      zero_told (MarkWord s p) l = tt
      zero_told DrawnWord l = tt

      first : (j : ℕ) (v : View) → get_elem? (first_view k ∷ []) j ≡ some v → SeatHolds k [] (replicate (size_of k) 0) first_owners j v
      first zero v e = subst (λ z. SeatHolds k [] (replicate (size_of k) 0) first_owners 0 z) (some-injective (first_view k) v e) record {
        limits = λ a p. refl;
        seen = begins_refl [];
        also_seen = begins_refl [];
        known = λ x p. absurd (in_none p);
        apart = fresh_apart 0 k.parts;
        owns = λ a p. refl;
        draws = λ a p b q. absurd (in_none (subst (λ (z : Hand). In b z.blocks) (fresh_in 0 k.parts a p).2 q));
        hands = λ a p. let t = fresh_in 0 k.parts a p in let low = t.1 in subst (HandHolds k [] (replicate (size_of k) 0)) (sym t.2) (fresh_holds a.number (omega arith));
      }
      first (suc j) v e = absurd (some-ne-none v (sym e))
