-- What the reading of lines gives.
use Rattle.std.specs.Prelude.{◌≡◌, ℕ, false, List, ◌++◌}
use Rattle.guppy_lines.specs.declared.fault.RunFault.{RunFault}
use Rattle.guppy_lines.specs.declared.fault.RunFault.TheVariants.{Library, BadLine}
use Rattle.guppy_data.specs.declared.records.Records.{Records}
use Rattle.guppy_process.specs.Cause.{OrMemory}
use Rattle.guppy_lines.specs.Text.{Statement, is_good, IsFirstBadLine}
use Rattle.guppy_lines.specs.Records.{AreRecordsOf}

-- the records of some statements become those of these statements after them
abbrev pub AddsStatements : Records → Records → List Statement → Type 0
AddsStatements old new added = (statements : List Statement)
    → AreRecordsOf statements old.packages.items old.links.items old.workspace
    → AreRecordsOf (statements ++ added) new.packages.items new.links.items new.workspace

-- the line is bad and has this number, or memory ran out
abbrev pub IsLineFault : List ℕ → ℕ → RunFault → Type 0
IsLineFault line number (Library error) = OrMemory ⊥ error
IsLineFault line number (BadLine n) = (n ≡ number) × (is_good line ≡ false)
IsLineFault line number _ = ⊥

-- the number is that of the first bad line, or memory ran out
abbrev pub IsReadingFault : List ℕ → RunFault → Type 0
IsReadingFault input (Library error) = OrMemory ⊥ error
IsReadingFault input (BadLine n) = IsFirstBadLine input n
IsReadingFault input _ = ⊥
