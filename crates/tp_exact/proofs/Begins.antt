-- What is there before the first command.
use Rattle.std.proofs.Common.{◌≡◌, ℕ, ◌+◌, ◌||◌, Bool, true, false, List, [], ◌∷◌, All, map, Option, None, IsSome, Result, Ok, Err, nat_le, refl, sym, ◌∙◌, ap, arith}
use Rattle.std.specs.Prelude.{is_some, if◌then◌else◌}
use Rattle.std.specs.List.{AllZip, list_any}
use Rattle.std.proofs.lemmas.Bool.{and_parts, leb-true}
use Rattle.std.proofs.lemmas.List.Elements.{All-head, All-tail}
use Rattle.std.proofs.lemmas.List.Sums.{sum_by-cons}
use Rattle.tp_model.specs.declared.types.Work.{Work}
use Rattle.tp_model.specs.History.{In, here, there}
use Rattle.tp_model.specs.Steps.{IsServerStage}
use Rattle.tp_server.specs.declared.recipe.BadRecipe.{BadRecipe}
use Rattle.tp_server.specs.declared.recipe.BadRecipe.TheVariants as bad
use Rattle.tp_server.specs.Behaviour.{behaviour_of}
use Rattle.tp_server.specs.Check.{is_between}
use Rattle.tp_manager.specs.Shown.{PassShown}
use Rattle.tp_script.specs.Passes.{has_race, is_race, racers, racing}
use Rattle.tp_script.specs.declared.head.Act.{Act}
use Rattle.tp_script.specs.declared.head.Act.TheVariants as act
use Rattle.tp_script.specs.Script.{ServerView}
use Rattle.tp_commands.specs.Acting.{PlaceShown}
use Rattle.tp_commands.specs.Scenes.{IsNewPlace}
use Rattle.tp_reference.specs.PlainReport.{new_desk}
use Rattle.tp_reference.specs.Whole.{is_other}
use Rattle.tp_exact.specs.Programs.{IsChecked}
use Rattle.tp_exact.specs.Stands.{IsFor, IsServedBy}

-- ---- a script without a race needs no passes for one

pub none_raced : (a b : Bool) → a || b ≡ false → (a ≡ false) × (b ≡ false)
none_raced true b is = absurd cc
none_raced false b is = (refl, is)

none_needed : (a : Act) → is_other a ≡ false → (is_race a ≡ false) × (racers a ≡ 0)
none_needed (act.Command c) covered = (refl, refl)
none_needed (act.Race plan) covered = absurd cc
none_needed act.Drain covered = (refl, refl)
none_needed act.DrainNext covered = (refl, refl)
none_needed act.Rollover covered = absurd cc

pub no_racers : (all : List Act) → list_any is_other all ≡ false → (has_race all ≡ false) × (racing all ≡ 0)
no_racers [] covered = (refl, refl)
no_racers (a ∷ others) covered =
    let parts = none_raced (is_other a) (list_any is_other others) covered in
    let both : racing (a ∷ others) ≡ racers a + racing others = sum_by-cons racers a others in
    let one = none_needed a parts.0 in
    let rest = no_racers others parts.1 in
    let first : racers a ≡ 0 = one.1 in
    let more : racing others ≡ 0 = rest.1 in
    (ap (λ b. b || has_race others) one.0 ∙ rest.0, omega (arith, both, first, more))

-- ---- a recipe without a fault is of a server's stage

stage_tested : (b : Bool) (rest : Result (Unit {0}) BadRecipe) → (if b then rest else Err bad.BadStage) ≡ Ok tt → b ≡ true
stage_tested true rest is = refl
stage_tested false rest is = absurd cc

stage_good : (server : ServerView) → IsChecked server → IsServerStage server.recipe.stage
stage_good server is =
    let n : ℕ = server.recipe.stage in
    let both = and_parts (nat_le 1 n) (nat_le n 14) (stage_tested (is_between 1 14 n) _ is) in
    (leb-true 1 n both.0, leb-true n 14 both.1)

-- ---- the first scene

-- the servers do what their recipes say
pub served_first : (ps : List PlaceShown) (servers : List ServerView) → map (λ p. p.desk.behaviour) ps ≡ map (λ x. behaviour_of x.recipe) servers → All IsChecked servers → AllZip IsServedBy ps servers
served_first [] [] same good = tt
served_first [] (x ∷ servers) same good = absurd cc
served_first (p ∷ ps) [] same good = absurd cc
served_first (p ∷ ps) (x ∷ servers) same good = (
  record { behaviour = first same; stage = stage_good x (All-head IsChecked x servers good) },
  served_first ps servers (rest same) (All-tail IsChecked x servers good),
)
  where
    first : p.desk.behaviour ∷ map (λ p. p.desk.behaviour) ps ≡ behaviour_of x.recipe ∷ map (λ x. behaviour_of x.recipe) servers → p.desk.behaviour ≡ behaviour_of x.recipe
    first e = cc

    rest : p.desk.behaviour ∷ map (λ p. p.desk.behaviour) ps ≡ behaviour_of x.recipe ∷ map (λ x. behaviour_of x.recipe) servers → map (λ p. p.desk.behaviour) ps ≡ map (λ x. behaviour_of x.recipe) servers
    rest e = cc

abbrev none_if : Option ℕ → Option Work
none_if o = if is_some o then None else None

-- no desk has anything in hand
pub desks_first : (ps : List PlaceShown) (servers : List ServerView) → All IsNewPlace ps → ((p : PassShown) → In p (map (λ p. p.desk.pass) ps) → p.open_unit ≡ None) → map (λ p. p.desk.registers) ps ≡ map (λ x. x.registers) servers
    → AllZip IsFor ps (map new_desk servers)
desks_first [] [] new passes same = tt
desks_first [] (x ∷ servers) new passes same = absurd cc
desks_first (p ∷ ps) [] new passes same = absurd cc
desks_first (p ∷ ps) (x ∷ servers) new passes same =
    let one = All-head IsNewPlace p ps new in
    let free : p.desk.pass.open_unit ≡ None = passes p.desk.pass here in (
      record {
        desk = record {
          registers = sym (first same);
          work = ap none_if free ∙ sym one.work;
          open_is = ap (λ (o : Option ℕ). is_some o) free ∙ sym (ap (λ o. is_some o) one.work);
          prepared = λ some. absurd (no_work one.work some);
        };
        dropped = sym one.kept;
      },
      desks_first ps servers (All-tail IsNewPlace p ps new) (λ q at. passes q (there at)) (rest same),
    )
  where
    first : p.desk.registers ∷ map (λ p. p.desk.registers) ps ≡ x.registers ∷ map (λ x. x.registers) servers → p.desk.registers ≡ x.registers
    first e = cc

    rest : p.desk.registers ∷ map (λ p. p.desk.registers) ps ≡ x.registers ∷ map (λ x. x.registers) servers → map (λ p. p.desk.registers) ps ≡ map (λ x. x.registers) servers
    rest e = cc

    no_work : p.desk.work ≡ None → IsSome p.desk.work → ⊥
    no_work none some = cc
