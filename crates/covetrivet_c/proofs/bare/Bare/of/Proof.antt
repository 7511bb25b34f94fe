-- `of` calls `into_raw_with_allocator` and keeps both halves of what that returns.
use Rattle.std.proofs.Common.{◌≡◌, List, [], ◌∷◌, ◌++◌, refl, sym, ap, ◌∙◌, subst}
use mir.Syntax.{a_type, dcons, dnil}
use mir.Raw.{raw as bare_type}
use mir.Val.{Val, vptr, vstruct, of_list}
use mir.MapTy.{inst_fn}
use base.Logic.{SProp, ent, emp, never, id⊢, fst∗}
use base.Fml.{ftrue, fsep, flft}
use prog.Wp.{WpFn}
use types.Logic.{sem}
use types.Kit.{‵, raw, ◌⊛◌, some, later, ◌$◌, ◌∵◌, !, qed, by, move, keep, drop, split, split3, join, fsplit, fjoin, fpick, pick}
use types.Kit.{suffices, use0, use1, await, rewrite, feq_l}
use types.Run.{stop, fld, of_opd, no_more, and_then, returns, enter}
use types.ByLocal.{alloc_all, pass_all, free_all, look_at, get, get_in, sets, lands_as}
use types.Part.{agg, sub, whole}
use contract.Monad.{fact, fact_i}
use contract.Running.{tables}
use denote.Exit.{no}
use denote.RattleType.{RattleType, owns}
use denote.Signature.{types_at, plain}
use denote.Builtin.{RawPtr}
use denote.RawPtr.{Ptr, null_ptr, block_ptr, ptr_val, in_a_block}
use denote.Steps.{nothing, only, heard}
use denote.Param.{param, layout, bounded}
use denote.Param.Laws.{param_laws}
use denote.Struct.Tuple.{Tuple}
use denote.Triple.Spec.{triple_of}
use denote.Triple.Call.{calls_at}
use denote.Triple.Walked.{Stays, stay_dropped, walk_of}
use Rattle.core.proofs.alloc.Calls.{Goes-blank, handle_tells}
use Rattle.core.proofs.atomic.Steps.{fm}
use Rattle.std_alloc.specs.Box.Ownership.{box_owns}
use Rattle.std_alloc.proofs.BoxSteps.Form as box
use Rattle.std_alloc.proofs.BoxSteps.Steps.{box_out, box_in}
use Rattle.std_alloc.specs.contracts.boxed.Box.into_raw_with_allocator as callee
use Rattle.std_alloc.proofs.boxed.Box.into_raw_with_allocator.Met.{met}
use Rattle.std.proofs.raw_atomic.Walks.{proved_at, leaves}
use Rattle.covetrivet_c.proofs.Bares.{pair, is_bare, closed}
use Rattle.covetrivet_c.specs.contracts.bare.Bare.of.{ended, clauses}
use Rattle.covetrivet_c.specs.contracts.bare.Bare.of.Key.{name as key}
use Rattle.covetrivet_c.proofs.bare.Bare.of.Statement.{statement}
use Rattle.covetrivet_c.proofs.bare.Bare.of.Code as code

pub of_spec : {M : Type 1} → statement M
of_spec 𝓤 𝓛 𝓜 𝓡 wired X A LX LA g d moves dd allocator glue glued =
    -- the function, its contract, and that of what it calls
    let H = 𝓛.H in let 𝓣 = tables 𝓤 H 𝓜 𝓡 𝓡.env in
    let args = bounded (a_type ∷ a_type ∷ []) (X, (A, tt)) (dcons d (dcons moves (dcons dd dnil))) in
    let fn = inst_fn args code.function in let En = ended X A g d moves dd in let c = clauses X A g d moves dd 𝓛 𝓜.mem 𝓡.returns in
    let R : RattleType = param 0 X in let Z : RattleType = param 1 A in let LZ = param_laws 1 A LA in
    let E : box.Bx = record { row = X; laws = LX; al = record { row = A; laws = LA; g = g; d = d; drops = dd } } in
    let hs : Stays En.signature.params En.kept = (stay_dropped (plain (λ _. box.B E)) no, tt) in
    let Raw = triple_of 𝓛 (callee.signature X A g d dd moves) (callee.spec X A g d dd moves 𝓛 𝓜.mem 𝓡.returns) in
    let known = met 𝓤 𝓛 𝓜 𝓡 (code.calls-std_alloc::boxed::Box::into_raw_with_allocator 𝓡.env wired) X A LX LA g d dd moves allocator glued glue in
    proved_at 𝓛 En hs c 𝓜 𝓡 (Goes-blank 𝓛 2 (plain (λ _. box.B E)) no (λ κs x f. tt), tt) (key args) fn (code.unfolded 𝓤 H 𝓜 𝓡 wired (X, (A, tt)) d moves dd) (λ z are.
    let κs = z.0.0 in let qs = z.0.1 in let given = z.0.3.0 in let a = given.alloc in let x = given.value in
    let Post : Val → SProp 𝓤 = (walk_of 𝓛 En hs c).post z in let Run : List Val → SProp 𝓤 = λ words. WpFn 𝓤 H 𝓣.C 𝓣.Λ fn words Post in
    let lives = ‵ (flft κs.0 qs.0) ⊛ ‵ (flft κs.1.0 qs.1.0) ⊛ ‵ ftrue in
    qed 𝓛 ((lives ⊛ ‵ (owns (types_at En.signature.params κs) z.0.3 z.0.4)) ∷ raw ((c κs z.0.3).requires z.1) ∷ []) ∵
    split ! $ move ! (1 ∷ []) $ fsplit ! $ box_out E ! given z.0.4.0 (λ b o h is_at words good. box_in E ! given b o x is_at refl $
    let w : Val = box.word E h b o in let y : Raw.Ghost = ((κs, qs, tt, (given, tt), (w ∷ [], tt)), tt) in
    fjoin ! $ move ! (1 ∷ 0 ∷ []) $ join ! $ join ! $ use1 𝓛 (raw (Raw.pre y)) (id⊢ 𝓤 _) $
    suffices ! (Run (w ∷ [])) (subst (λ (us : List Val). ent 𝓤 (Run (w ∷ [])) (Run us)) (sym (λ i. words i ++ [])) (id⊢ 𝓤 (Run (w ∷ [])))) $
    let typed = is_bare R Z LZ g b o h good in
    enter ! 𝓣.C 𝓣.Λ fn (w ∷ []) Post $ alloc_all ! (λ l. pass_all ! refl (typed, tt) $ sets ! (of_opd ! (get ! refl)) refl typed $
    calls_at ! (fm 𝓛 𝓜 𝓡) Raw known y (and_then ! (get ! refl) (no_more !)) (λ u.
    -- it returned a pointer and the allocator, and the block is owned
    let Both = Tuple (RawPtr ∷ Z ∷ []) in let boxed = λ (p : Ptr). box_owns (g.dealloc_token a) R p x in
    let told = λ (r : Ptr × A.Denot). some (λ (_ : (Unit {0} × (Unit {0} × Unit {0})) × Unit {0}).
    ‵ (fsep (fsep ftrue (fsep ftrue ftrue)) ftrue) ⊛ (raw (fact 𝓤 (r.1 ≡ a)) ⊛ ‵ (boxed r.0))) in
    use1 𝓛 (later (some (λ (r : Ptr × A.Denot). (lives ⊛ ‵ (Both.own_val r (u ∷ []))) ⊛ told r))) (id⊢ 𝓤 _) $
    await ! tt $ pick ! (λ r. split ! $ move ! (1 ∷ []) $ pick ! (λ _. split3 ! $ drop ! $ heard ! (r.1 ≡ a) (λ same.
    let not_null = fst∗ 𝓤 (never 𝓤) (sem 𝓛 (g.dealloc_token a (bare_type (layout X)) null_ptr)) in
    in_a_block ! r.0 boxed not_null (λ b' o' is_at'. move ! (1 ∷ []) $ split ! $ move ! (1 ∷ []) $
    fpick ! (λ parts. fsplit ! $ feq_l ! (λ both. fsplit ! $ feq_l ! (λ first. fsplit ! $
    rewrite ! 0 (λ (s : A.Denot). ‵ (A.own_val s parts.1.0)) same refl $ handle_tells E.al ! a parts.1.0 (λ h' second good'.
    let at = first ∙ ap (λ (p : Ptr). ptr_val p ∷ []) is_at' in let made = is_bare R Z LZ g b' o' h' good' in
    lands_as ! (ap only (both ∙ (λ i. vstruct (of_list (at i ++ (second i ++ []))) ∷ []))) refl made $
    -- the two become the result's fields
    sets ! (of_opd ! (get_in ! (fld ! refl (stop !)) (sub ! 0 refl (whole !)))) refl (tt, tt) $
    sets ! (of_opd ! (get_in ! (fld ! refl (stop !)) (sub ! 1 refl (whole !)))) refl good' $
    sets ! (of_opd ! (get ! refl)) refl good' $ sets ! (agg ! (and_then ! (get ! refl) (and_then ! (get ! refl) (no_more !)))) refl made $
    move ! (3 ∷ 0 ∷ []) $ closed R Z LZ g ! b' o' h' a x $ use0 𝓛 (raw (fact 𝓤 (x ≡ x))) (fact_i 𝓤 (x ≡ x) (emp 𝓤) refl) $
    nothing ! $ nothing ! $ fjoin ! $ returns ! (look_at ! 0 refl) $ free_all ! refl $ keep ! (4 ∷ 0 ∷ 2 ∷ 1 ∷ []) $
    by ! (leaves 𝓛 En hs c z (pair (vptr b' o') h') (record { at = block_ptr b' o'; alloc = a; value = x })
    ((tt, (tt, tt)), tt) (tt, tt))))))))))))))
