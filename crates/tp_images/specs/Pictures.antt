-- What each server of the pipeline does with a picture. The words of a picture's body are its format, its
-- bytes, its customer and its job.
use Rattle.std.specs.Prelude.{ℕ, ◌+◌, ◌-◌, ◌/◌, ◌^◌, nat_le, nat_lt, List, [], ◌∷◌, Result, Ok, Err}
use Rattle.std.specs.Prelude.{if◌then◌else◌, slice_index}
use Rattle.tp_model.specs.Drafts.{DraftView}
use Rattle.tp_model.specs.declared.types.Element.{Element}
use Rattle.tp_server.specs.Behaviour.{Behaviour}
use Rattle.tp_server.specs.Effect.{Effect}
use Rattle.tp_server.specs.declared.recipe.Declined.{Declined}
use Rattle.tp_server.specs.declared.recipe.Declined.TheVariants.{NoRegister, Own, TooLarge}
use Rattle.tp_model.specs.declared.types.TheConstants.{REPLY_STAGE}

abbrev pub format_of : Element → ℕ
format_of picture = slice_index picture.body 0

abbrev pub picture_bytes : Element → ℕ
picture_bytes picture = slice_index picture.body 1

-- a picture of at most a thousand bytes needs no resizing
abbrev pub picture_route : ℕ → ℕ
picture_route bytes = if nat_le bytes 1000 then 3 else 2

-- the validator knows this many formats and keeps nothing; it declines any other format for its own reason
abbrev pub validated : ℕ → Element → Result Effect Declined
validated formats picture =
    if nat_lt (format_of picture) formats
    then Ok (record {
      registers = [];
      drafts = record {
        stage = picture_route (picture_bytes picture);
        body = picture.body;
      } ∷ [];
    })
    else Err (Own 1)

abbrev pub validator : ℕ → Behaviour
validator formats = record { stage = 1; effect = λ registers picture heard. validated formats picture }

-- a picture is resized to a quarter of its bytes
abbrev pub resized_to : Element → ℕ
resized_to picture = picture_bytes picture / 4

abbrev pub smaller : Element → DraftView
smaller picture = record {
  stage = 3;
  body = format_of picture ∷ resized_to picture ∷ slice_index picture.body 2 ∷ slice_index picture.body 3
      ∷ [];
}

abbrev pub resized : ℕ → Element → Effect
resized space picture = record {
  registers = (space - resized_to picture) ∷ [];
  drafts = smaller picture ∷ [];
}

-- the resizer has one register, the disk space that is left; it declines for its own reason what doesn't fit
abbrev pub resize : List ℕ → Element → Result Effect Declined
resize (space ∷ []) picture = if nat_le (resized_to picture) space then Ok (resized space picture)
    else Err (Own 2)
resize other picture = Err NoRegister

abbrev pub resizer : Behaviour
resizer = record { stage = 2; effect = λ registers picture heard. resize registers picture }

-- a resizer that keeps no space: it makes the smaller picture alone, of each picture that has a byte
abbrev pub spaceless : Behaviour
spaceless = record {
  stage = 2;
  effect = λ registers picture heard.
      if nat_lt 0 (picture_bytes picture) then Ok (record { registers = []; drafts = smaller picture ∷ [] })
      else Err (Own 2);
}

abbrev pub notice : ℕ → ℕ → Element → Effect
notice count bytes picture = record {
  registers = (count + 1) ∷ (bytes + picture_bytes picture) ∷ [];
  drafts = record { stage = REPLY_STAGE; body = picture.body } ∷ [];
}

-- the notifier has two registers: how many customers were notified, and the bytes of their pictures
abbrev pub notify : List ℕ → Element → Result Effect Declined
notify (count ∷ bytes ∷ []) picture =
    if nat_lt (count + 1) (2 ^ 64)
    then (if nat_lt (bytes + picture_bytes picture) (2 ^ 64) then Ok (notice count bytes picture)
    else Err TooLarge)
    else Err TooLarge
notify other picture = Err NoRegister

abbrev pub notifier : Behaviour
notifier = record { stage = 3; effect = λ registers picture heard. notify registers picture }
