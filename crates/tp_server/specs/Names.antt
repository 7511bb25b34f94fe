-- The names that refusals are printed under.
use Rattle.std.specs.Prelude.{ℕ, List, ◌++◌, codes, decimal}
use Rattle.tp_server.specs.declared.recipe.BadRecipe.{BadRecipe}
use Rattle.tp_server.specs.declared.recipe.BadRecipe.TheVariants.{BadStage, BadRegisters, BadOutput, BadWord}
use Rattle.tp_server.specs.declared.recipe.Declined.{Declined}
use Rattle.tp_server.specs.declared.recipe.Declined.TheVariants.{NoRegister, TooLarge, Short, Own}

-- the bytes of a recipe's fault
abbrev pub recipe_fault_name : BadRecipe → List ℕ
recipe_fault_name BadStage = codes "BadStage"
recipe_fault_name BadRegisters = codes "BadRegisters"
recipe_fault_name BadOutput = codes "BadOutput"
recipe_fault_name BadWord = codes "BadWord"

-- the bytes of the reason why a server declined
abbrev pub declined_name : Declined → List ℕ
declined_name NoRegister = codes "NoRegister"
declined_name TooLarge = codes "TooLarge"
declined_name Short = codes "Short"
declined_name (Own reason) = codes "Own(" ++ (decimal reason ++ codes ")")
