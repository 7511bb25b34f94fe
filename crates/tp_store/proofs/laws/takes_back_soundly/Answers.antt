use Rattle.tp_store.proofs.Restored.{restored_is_sound, stays_sound}
use Rattle.tp_store.proofs.laws.takes_back_soundly.Goals as goal

pub returns : goal.returns
returns c = record { stays = stays_sound; restored = restored_is_sound }
