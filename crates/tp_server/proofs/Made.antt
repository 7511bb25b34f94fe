-- What was prepared, committed and chained.
use Rattle.std.proofs.Common.{◌≡◌, ℕ, List, [], ◌∷◌, ◌++◌, Option, Some, None, Ok, sym, subst}
use Rattle.tp_model.specs.Drafts.{DraftView}
use Rattle.tp_model.specs.declared.types.Element.{Element}
use Rattle.tp_server.specs.Behaviour.{Allows, Behaviour, Done, Folds, IsMade, Makes}
use Rattle.tp_server.specs.Pending.{Pending, registers_of}

same_some : (a b : List ℕ) → Some a ≡ Some b → a ≡ b
same_some a b e = cc

-- what is prepared is what a commit leaves
pub made_of : (behaviour : Behaviour) (r : List ℕ) (x : Element) (pending : Option Pending) (drafts : List DraftView) (r' : List ℕ) → IsMade behaviour r x pending drafts
    → Some r' ≡ registers_of pending → Allows behaviour r x (Ok (record { registers = r'; drafts = drafts }))
made_of behaviour r x None drafts r' made is = absurd made
made_of behaviour r x (Some p) drafts r' (same, allowed) is =
    subst (λ (l : List ℕ). Allows behaviour r x (Ok (record { registers = l; drafts = drafts }))) (sym (same_some r' p.registers is)) allowed

-- one chain after another
pub folds-append : (behaviour : Behaviour) (start mid end : List ℕ) (xs ys : List Done) → Folds behaviour start xs mid → Folds behaviour mid ys end
    → Folds behaviour start (xs ++ ys) end
folds-append behaviour start mid end [] ys same others = subst (λ (r : List ℕ). Folds behaviour r ys end) (sym same) others
folds-append behaviour start mid end (x ∷ xs) ys (next, allowed, folds) others = (next, allowed, folds-append behaviour next mid end xs ys folds others)
