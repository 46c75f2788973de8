-- What a fault prints.
use Rattle.std.specs.Prelude.{ℕ, ◌+◌, List, ◌++◌, codes}
use Rattle.std.specs.Fmt.{decimal}
use Rattle.guppy_target.specs.declared.fault.PlatformFault.{PlatformFault}
use Rattle.guppy_target.specs.declared.fault.PlatformFault.TheVariants.{NotASetting, OutOfMemory}

-- lines are counted from one
abbrev pub fault_text : PlatformFault → List ℕ
fault_text (NotASetting before) = codes "line " ++ (decimal (before + 1)
    ++ codes " is neither a name nor key=\"value\": give the lines that `rustc --print cfg` prints")
fault_text OutOfMemory = codes "out of memory"
