-- What a desk has served whose server follows a recipe.
use Rattle.std.proofs.Common.{◌≡◌, ℕ, List, [], ◌∷◌, Option, Some, None, refl, sym, ◌∙◌, ap, map}
use Rattle.std.specs.List.{cons_option, filter_map}
use Rattle.std.specs.Option.{option_map}
use Rattle.tp_model.specs.Counts.{taken, taken_by}
use Rattle.tp_model.specs.declared.types.Element.{Element}
use Rattle.tp_model.specs.declared.event.Event.{Event}
use Rattle.tp_model.specs.declared.event.Event.TheVariants.{Enqueue, Claim, Commit, Abort, Kill, Requeue}
use Rattle.tp_server.specs.Behaviour.{Done, behaviour_of}
use Rattle.tp_server.specs.Effect.{fold_of}
use Rattle.tp_server.specs.declared.recipe.Recipe.{Recipe}
use Rattle.tp_server.proofs.Recipes.{folds_recipe}
use Rattle.tp_manager.specs.Shown.{PassShown}
use Rattle.tp_desk.specs.Serving.{Serves, done, done_by, done_with, gained}

one_more : (outs : List Element) (o : Option Element) (ds : List Done) (xs : List Element) → map (λ (d : Done). d.element) ds ≡ xs
    → map (λ (d : Done). d.element) (cons_option (option_map (done_with outs) o) ds) ≡ cons_option o xs
one_more outs None ds xs same = same
one_more outs (Some x) ds xs same = ap (λ (l : List Element). x ∷ l) same

-- the elements of the work that events did are those that they consumed
all_done : (g h es : List Event) → map (λ (d : Done). d.element) (filter_map (done_by g h) es) ≡ filter_map (taken_by g h) es
all_done g h [] = refl
all_done g h (Enqueue c x ∷ es) = all_done g h es
all_done g h (Claim c u i n ∷ es) = all_done g h es
all_done g h (Commit c u outs ∷ es) = one_more outs (taken_by g h (Commit c u outs)) (filter_map (done_by g h) es) (filter_map (taken_by g h) es) (all_done g h es)
all_done g h (Abort c u ∷ es) = all_done g h es
all_done g h (Kill c i ∷ es) = all_done g h es
all_done g h (Requeue c i k ∷ es) = all_done g h es

pub elements_done : (events h : List Event) → map (λ (d : Done). d.element) (done events h) ≡ taken events h
elements_done events h = all_done events h events

-- its registers of committed work are the fold of the recipe over the elements that were consumed
pub serves_recipe : (recipe : Recipe) (start registers : List ℕ) (p q : PassShown) → Serves (behaviour_of recipe) start registers p q
    → fold_of recipe start (taken (gained p.mine q.mine) q.seen) ≡ Some registers
serves_recipe recipe start registers p q s =
    ap (fold_of recipe start) (sym (elements_done (gained p.mine q.mine) q.seen)) ∙ folds_recipe recipe start (done (gained p.mine q.mine) q.seen) registers s.folded
