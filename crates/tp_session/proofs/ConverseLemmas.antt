-- A whole session, put together from its lines and what stands behind them.
use Rattle.std.proofs.Common.{◌≡◌, List, ℕ, [], ◌++◌, Option, Some, None, refl, ap, subst}
use Rattle.std.specs.Prelude.{IfSome}
use Rattle.std.specs.Io.KnownBytes.{Appends}
use Rattle.tp_report.specs.Written.{AppendsFront}
use Rattle.tp_wire.specs.Heard.{Tells}
use Rattle.tp_wire.specs.Reading.{to_come, unused}
use Rattle.tp_wire.specs.declared.reading.Lines.{Lines}
use Rattle.tp_wire.proofs.ToldLemmas.{told_with, told_with_front}
use Rattle.tp_session.specs.Conversed.{Attends, AttendsFront, Conversed, ConversedFront}
use Rattle.tp_session.specs.Session.{finals}
use Rattle.tp_session.specs.State.{SessionState, begin}
use Rattle.tp_session.proofs.AttendLemmas.{front_longer}

-- at the beginning all is to come
pub come_all : (l : Lines) (rest : Option (List ℕ)) → unused l ≡ [] → to_come l rest ≡ rest
come_all l None is = refl
come_all l (Some bytes) is = ap (λ u. Some (u ++ bytes)) is

-- all of it
pub conversed : (a w x y : Option (List ℕ)) (s : SessionState) (answers : List ℕ) → Attends 0 a begin s (λ text. Tells w x answers text) → Appends x y (answers ++ finals s)
    → IfSome a (λ bytes. Conversed bytes w y)
conversed None w x y s answers attends wrote = tt
conversed (Some bytes) w x y s answers attends wrote =
    told_with w x y answers _ _ attends.1 (subst (λ t. Appends x y (answers ++ finals t)) attends.0 wrote)

-- after a fault behind the lines
pub conversed_front : (a w x y : Option (List ℕ)) (s : SessionState) (answers : List ℕ) → Attends 0 a begin s (λ text. Tells w x answers text) → AppendsFront x y (answers ++ finals s)
    → IfSome a (λ bytes. ConversedFront bytes w y)
conversed_front None w x y s answers attends wrote = tt
conversed_front (Some bytes) w x y s answers attends wrote =
    told_with_front w x y answers _ _ attends.1 (subst (λ t. AppendsFront x y (answers ++ finals t)) attends.0 wrote)

-- after one among them
pub lines_front : (a w y : Option (List ℕ)) → AttendsFront 0 a begin (λ text. AppendsFront w y text) → IfSome a (λ bytes. ConversedFront bytes w y)
lines_front None w y front = tt
lines_front (Some bytes) w y front = front_longer w y _ _ front

-- nothing was written
pub nothing_front : (a w y : Option (List ℕ)) → Appends w y [] → IfSome a (λ bytes. ConversedFront bytes w y)
nothing_front None w y same = tt
nothing_front (Some bytes) w y same = front_longer w y [] _ ([], ([], refl, same))
