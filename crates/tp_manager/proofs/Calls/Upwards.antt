-- Of one pass, ids go up.
use Rattle.std.proofs.Common.{◌≡◌, ℕ, ◌+◌, List, [], ◌∷◌, ◌++◌, ◌∙◌, ap, subst, ⊎_elim, arith}
use Rattle.tp_model.specs.declared.types.Limits.{Limits}
use Rattle.tp_model.specs.History.{here}
use Rattle.tp_model.specs.Passes.{Ascend}
use Rattle.tp_model.specs.Steps.{block_first}
use Rattle.tp_model.proofs.Areas.{ascend_in}
use Rattle.tp_model.proofs.Bridges.{in_right}
use Rattle.tp_rule.proofs.Owning.{own_drawn}
use Rattle.tp_manager.specs.Upward.{FirstInFirstOut, IdsGoUp}

ascend_last : (low high n : ℕ) (bs : List ℕ) → Ascend low high (bs ++ n ∷ []) → Ascend low n bs
ascend_last low high n [] a = tt
ascend_last low high n (b ∷ bs) a = let above = (ascend_in (b + 1) high (bs ++ n ∷ []) n a.2 (in_right bs here)).0 in (a.0, omega arith, ascend_last (b + 1) high n bs a.2)

pub ids_go_up : (l : Limits) → IdsGoUp l
ids_go_up l k first old new same shows shows' uses = ⊎_elim
    (λ t. record { above = (let e = t.first_is in omega arith); next = t.next })
    (λ t. record {
      above = (let up = ascend_last 0 l.spare t.block old.blocks (subst (Ascend 0 l.spare) t.blocks shows'.run.drawn) in
          let r = shows.run in let ends = r.ends in let top = own_drawn l old.number t.block old.blocks r.first r.end up r.own in
          let at : first ≡ block_first l t.block = t.first_is ∙ ap (λ (z : Limits). block_first z t.block) same in omega arith);
      next = t.next;
    }) uses

pub first_in_first_out : (l : Limits) → FirstInFirstOut l
first_in_first_out l k first m second stage a b c d old new work x uses takes within below staged born =
    let before = ids_go_up l k first a b uses.limits.0 uses.shows.0 uses.shows.1 uses.earlier in
    let behind = ids_go_up l m second c d uses.limits.1 uses.shows_later.0 uses.shows_later.1 uses.later in
    let next = before.next in let between = uses.between in let above = behind.above in takes.first x born staged (omega arith)
