-- What a struct of slices that a call was lent has left behind them, slice by slice.
use denote.Ref.{MutBor}

abbrev pub on_left : {A B : Type 0} → MutBor A × B → A
on_left left = left.0.now

abbrev pub by_left : {A B C : Type 0} → A × (MutBor B × C) → B
by_left left = left.1.0.now

abbrev pub told_left : {A B C D : Type 0} → A × (B × (MutBor C × D)) → C
told_left left = left.1.1.0.now
