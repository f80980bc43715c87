-- What a run of a script can end by.
use Rattle.std.specs.Prelude.{⊤}
use Rattle.nfs_ask.specs.declared.script_fault.ScriptFault.{ScriptFault}
use Rattle.nfs_ask.specs.declared.script_fault.ScriptFault.TheVariants.{Line, Write, Memory}

-- the machine, and no line
abbrev pub IsOfMachine : ScriptFault → Type 0
IsOfMachine (Line line cause) = ⊥
IsOfMachine Write = ⊤
IsOfMachine Memory = ⊤
