-- Faults of what is read, and what they print.
use Rattle.std.specs.Prelude.{ℕ, List, ◌++◌, Result, MatchResult, codes, string_bytes}
use Rattle.std.specs.Fmt.{decimal}
use Rattle.guppy_metadata.specs.declared.fault.MetadataFault.{MetadataFault}
use Rattle.guppy_metadata.specs.declared.fault.MetadataFault.TheVariants.{NotJson, NotResolved, Missing, WrongKind, BadText, OutOfMemory}
use Rattle.guppy_metadata.specs.declared.fault.Misfit.{Misfit}
use Rattle.guppy_metadata.specs.declared.fault.Misfit.TheVariants.{OutOfMemory as NoMemory}
use Rattle.guppy_metadata.specs.declared.fault.Kind.{Kind}
use Rattle.guppy_metadata.specs.declared.fault.Kind.TheVariants.{Object, List as ListKind, Text, Boolean}
use Rattle.guppy_metadata.specs.declared.fault.TextFault.{TextFault}
use Rattle.guppy_metadata.specs.declared.fault.TextFault.TheVariants.{NoVersion, NoRequirement, NoDependencyKind, NumberOutOfRange, NoPackage, NoDependency}

-- the text is blamed to be no JSON
abbrev pub IsNotJson : MetadataFault → Type 0
IsNotJson (NotJson line column) = Unit {0}
IsNotJson _ = ⊥

-- the dependencies are said not to be resolved
abbrev pub IsNotResolved : MetadataFault → Type 0
IsNotResolved NotResolved = Unit {0}
IsNotResolved _ = ⊥

-- a request for memory was refused
abbrev pub IsOutOfMemory : MetadataFault → Type 0
IsOutOfMemory OutOfMemory = Unit {0}
IsOutOfMemory _ = ⊥

abbrev pub LacksMemory : Misfit → Type 0
LacksMemory NoMemory = Unit {0}
LacksMemory _ = ⊥

-- nothing is as R says, unless memory was lacking
abbrev pub NoneIs : {X : Type 0} → (X → Type 0) → Misfit → Type 0
NoneIs {X} R misfit = ¬ LacksMemory misfit → (x : X) → ¬ R x

-- what is read is as R says, and where nothing is, nothing is so, unless memory was lacking
abbrev pub IsRead : {X : Type 0} → (X → Type 0) → Result X Misfit → Type 0
IsRead R result = MatchResult result R (NoneIs R)

abbrev pub kind_text : Kind → List ℕ
kind_text Object = codes "object"
kind_text ListKind = codes "list"
kind_text Text = codes "text"
kind_text Boolean = codes "truth value"

abbrev pub text_fault_text : TextFault → List ℕ
text_fault_text (NoVersion reason) = codes "no version: " ++ string_bytes reason
text_fault_text (NoRequirement reason) = codes "no requirement of versions: " ++ string_bytes reason
text_fault_text NoDependencyKind = codes "no kind of dependency"
text_fault_text NumberOutOfRange = codes "a number in it is too large"
text_fault_text NoPackage = codes "the ID of no package"
text_fault_text NoDependency = codes "no declared dependency fits"

abbrev pub fault_text : MetadataFault → List ℕ
fault_text (NotJson line column) = codes "no JSON at line " ++ (decimal line ++ (codes " column " ++ decimal column))
fault_text NotResolved = codes "resolve: no dependencies are resolved"
fault_text (Missing place) = string_bytes place ++ codes ": missing"
fault_text (WrongKind place wanted) = string_bytes place ++ (codes ": no " ++ kind_text wanted)
fault_text (BadText place why) = string_bytes place ++ (codes ": " ++ text_fault_text why)
fault_text OutOfMemory = codes "out of memory"
