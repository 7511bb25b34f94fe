-- What a reader did.
use Rattle.std.specs.Prelude.{Result, Ok, Err}
use Rattle.tp_script.specs.declared.fault.ReadFault.{ReadFault}
use Rattle.tp_script.specs.declared.fault.ReadFault.TheVariants.{NoMemory, Read, Script}

-- nothing is refused
abbrev pub HasNoScript : {A : Type 0} → Result A ReadFault → Type 0
HasNoScript (Ok x) = Unit {0}
HasNoScript (Err NoMemory) = Unit {0}
HasNoScript (Err Read) = Unit {0}
HasNoScript (Err (Script refused)) = ⊥
