-- Steps that store nothing: the choice of a unit.
use Rattle.std.proofs.Common.{◌≡◌, ℕ, ◌+◌, ◌*◌, ◌<◌, List, [], sym, refl, ap, ◌∙◌, arith}
use Rattle.tp_model.specs.declared.event.Event.{Event}
use Rattle.tp_model.specs.declared.trace.StepKind.TheVariants as kinds
use Rattle.tp_model.specs.declared.types.Element.{Element}
use Rattle.tp_model.specs.declared.types.Limits.{Limits}
use Rattle.tp_model.proofs.Bridges.{in_none}
use Rattle.tp_rule.specs.Places.{unit_place}
use Rattle.tp_rule.specs.Doors.{Permits}
use Rattle.tp_rule.specs.Plays.{chooses}
use Rattle.tp_rule.specs.Rule.{RowsHold}
use Rattle.tp_rule.specs.Steps.{with_spare}
use Rattle.tp_rule.specs.Views.{IsOnePass, hand}
use Rattle.tp_rule.specs.declared.view.View.{View}
use Rattle.tp_rule.proofs.Frames.{Turn, hand_holds}
use Rattle.tp_rule.proofs.Events.{looking_after, watched}

module _ (k : Limits) where
  -- the rows after the drafts of a lost unit
  pub rows_lost : (h : List Event) (ws : List ℕ) (first end first_draft next left : ℕ) (body : List ℕ) (ds : List Element) → RowsHold h ws first end first_draft next left body ds → RowsHold h ws first end next next left body []
  rows_lost h ws first end first_draft next left body ds r = let count = r.counted in record {
    counted = omega arith;
    begins = let low = r.begins in omega arith;
    ends = r.ends;
    unborn = λ i l m. r.unborn i (omega arith) m;
    full = r.full;
    empty = r.empty;
    unwritten = r.unwritten;
    body_whole = r.body_whole;
    body_there = r.body_there;
    run = tt;
    written = λ x p. absurd (in_none p);
  }

  pub choosing : (v : View) (p u : ℕ) → IsOnePass v → v.limits ≡ k → u ≡ (hand v).number * k.units + (hand v).claimed → (hand v).claimed < k.units → p ≡ unit_place k u
      → Permits k v p (λ n. n) (chooses p 0 0 v)
  choosing v p u one lim next room place s r id at = let t : Turn k = record { state = s; rule = r; id = id; view = v; at = at; one = one } in let a = hand_holds k t in
      let w = watched k t p kinds.UnitChoice (with_spare u) (λ z. (refl, refl)) record {
        given = a.given;
        mine = a.mine;
        blocks = a.blocks;
        spares = a.spares;
        first = a.first;
        end = a.end;
        area = a.area;
        rows = a.rows;
        tail = a.tail;
        units = record {
          used_below = a.units.used_below;
          unused = a.units.unused;
          spare_next = λ z is. let same : u ≡ z = cc in (sym same ∙ next, room);
          open_own = a.units.open_own;
          closed = a.units.closed;
          in_order = a.units.in_order;
        };
        areas = record { last = a.areas.last; decided = a.areas.decided; output = a.areas.output; cleared = a.areas.cleared; headed = a.areas.headed };
      } in (looking_after k t p kinds.UnitChoice (with_spare u), w.0, (u, place ∙ ap (λ (l : Limits). unit_place l u) (sym lim), w.1))
