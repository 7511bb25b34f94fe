-- A `Bare` in a walk: its machine value, and what it owns, opened and closed. Assumes `Logic`.
--     pair, is_bare   a pointer and an allocator's value, and that they are a `Bare`'s machine value
--     opened          what is owned by one is the box, at a place of a block, and the allocator
--     closed          and the other way round
use Rattle.std.proofs.Common.{◌≡◌, ◌∙◌, ℕ, List, [], ◌∷◌, ◌++◌, refl, ap}
use mathlib.Core.Bool.{true, ◌&&◌}
use lib.Dec.{T}
use seplogic.Ra.Ura.{Ura}
use mir.Syntax.{impl, tnil, dnil}
use mir.Raw.{raw as bare_type}
use mir.Val.{Val, vptr, vstruct, vcons, vnil, of_list, has_ty, WT}
use base.Logic.{never, fst∗}
use types.Logic.{Logic, sem}
use types.Kit.{Item, Goal, Seq, Step, step, ‵, ◌$◌, move, drop, fsplit, fjoin, fpick, fpack, feq_i, feq_l}
use denote.RattleType.{RattleType, Valss}
use denote.Builtin.{RawPtr}
use denote.Memory.{lone}
use denote.Param.{layout}
use denote.Param.Laws.{Laws}
use denote.RawPtr.{Ptr, block_ptr, null_ptr, ptr_val, in_a_block}
use denote.Steps.{nothing}
use denote.Struct.Struct.{within}
use denote.Struct.Owning.{shape}
use Rattle.core.specs.declared.alloc.Allocator.{Ghosts}
use Rattle.core.proofs.alloc.Calls.{Al, handle_tells}
use Rattle.core.proofs.cell.Inside.{Good}
use Rattle.std_alloc.specs.Box.Ownership.{box_owns}
use Rattle.std_alloc.proofs.ResultValues.{and_tt}
use Rattle.covetrivet_c.specs.contracts.bare.Bare as contract

abbrev pub pair : Val → Val → Val
pair p a = vstruct (vcons p (vcons a vnil))

module _ (R A : RattleType) (L : Laws A) (g : Ghosts A.Denot) where
  abbrev pub Bare : RattleType
  Bare = contract.the_row R A g

  abbrev allocator : Al
  allocator = record { row = A; laws = L; g = g; d = impl [] tnil dnil; drops = impl [] tnil dnil }

  pub is_bare : (b o : ℕ) (a : Val) → Good (layout A) a
      → T (has_ty (layout A) a && true) × WT (pair (vptr b o) a)
  is_bare b o a good = (and_tt (has_ty (layout A) a) good.0, (tt, (good.1, tt)))

  module _ {M : Type 1} {𝓤 : Ura M} {𝓛 : Logic 𝓤} {K : Type 0} {Γ : List (Item 𝓤)} {G : Goal 𝓤 𝓛.H} where
    pub opened : K → (d : Bare.Denot) (words : List Val)
        → ((b o : ℕ) (a : Val) → d.at ≡ block_ptr b o → words ≡ pair (vptr b o) a ∷ [] → Good (layout A) a
        → Seq K 𝓛 (‵ (box_owns (g.dealloc_token d.alloc) R (block_ptr b o) d.value) ∷ ‵ (A.own_val d.alloc (a ∷ [])) ∷ Γ) G)
        → Seq K 𝓛 (‵ (Bare.own_val d words) ∷ Γ) G
    opened t d words go =
        let boxed = λ (p : Ptr). box_owns (g.dealloc_token d.alloc) R p d.value in
        let not_null = fst∗ 𝓤 (never 𝓤) (sem 𝓛 (g.dealloc_token d.alloc (bare_type (lone R.mir)) null_ptr)) in
        fsplit t $ fpick t (λ parts. fsplit t $ feq_l t (λ whole. fsplit t $ feq_l t (λ first. fsplit t $
        handle_tells allocator t d.alloc parts.1.0 (λ a second good. move t (1 ∷ []) $ drop t $ move t (1 ∷ []) $
        in_a_block t d.at boxed not_null (λ b o place.
        let at = first ∙ ap (λ (p : Ptr). ptr_val p ∷ []) place in
        go b o a place (whole ∙ (λ i. vstruct (of_list (at i ++ (second i ++ []))) ∷ [])) good)))))

    pub closed : K → (b o : ℕ) (a : Val) (alloc : A.Denot) (x : R.Denot)
        → Step K 𝓛 (‵ (Bare.own_val (record { at = block_ptr b o; alloc = alloc; value = x }) (pair (vptr b o) a ∷ [])) ∷ Γ) G
        (‵ (box_owns (g.dealloc_token alloc) R (block_ptr b o) x) ∷ ‵ (A.own_val alloc (a ∷ [])) ∷ Γ) G
    closed t b o a alloc x = step (λ rest.
        let p : List Val = vptr b o ∷ [] in let whole : List Val = pair (vptr b o) a ∷ [] in
        let split = within (shape (contract.the_type R A g)) (block_ptr b o, (alloc, tt)) whole in
        nothing t $ move t (2 ∷ 0 ∷ []) $ fjoin t $ feq_i t (List Val) p p refl $ fjoin t $
        feq_i t (List Val) whole whole refl $ fjoin t $ fpack t (Valss (RawPtr ∷ A ∷ [])) split (p, (a ∷ [], tt)) $
        fjoin t $ rest)
