-- What is read of boxes, in other words.
use Rattle.std.proofs.Common.{◌≡◌, ℕ, List, subst}
use Rattle.std.specs.declared.alloc.Global.{Global}
use Rattle.std.specs.declared.dyn_box.DynBox.{DynBox}
use Rattle.tp_pipeline.specs.Audits.{Agree, BoxShows}
use Rattle.tp_pipeline.specs.declared.books.Books.{Books}

module _ {X : Type 0} {F : X → Type 0} (registers : DynBox X Global F → List ℕ) where
  pub shows_as : (boxes : List (DynBox X Global F)) (place k v w : ℕ) → BoxShows registers boxes place k v → v ≡ w → BoxShows registers boxes place k w
  shows_as boxes place k v w h e = subst (λ n. BoxShows registers boxes place k n) e h

  pub agree_of : (payments ceiling : ℕ) (boxes others : List (DynBox X Global F)) (books : Books) → Agree registers payments ceiling boxes books → boxes ≡ others
      → Agree registers payments ceiling others books
  agree_of payments ceiling boxes others books h e = subst (λ l. Agree registers payments ceiling l books) e h
