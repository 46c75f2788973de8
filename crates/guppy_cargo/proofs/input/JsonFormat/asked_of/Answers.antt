use Rattle.std.proofs.Common.{ℕ, List, map, string_bytes}
use Rattle.std.proofs.lemmas.Result.{IfErr-weaker}
use Rattle.guppy_print.specs.Format.{IsAskingFault}
use Rattle.guppy_arguments.specs.declared.fault.CargoFault.{CargoFault}
use Rattle.guppy_arguments.specs.declared.fault.CargoFault.TheVariants.{Program, Ambiguous, Unknown, Cycle, Arguments, Metadata, NoText}
use Rattle.guppy_arguments.specs.Fault.{cause_of}
use Rattle.guppy_arguments.specs.Told.{Tells}
use Rattle.guppy_cargo.specs.Json.{json_format}
use Rattle.guppy_cargo.proofs.input.JsonFormat.asked_of.Goals as goal

misread : (has : List ℕ → List ℕ → Type 0) (args : List (List ℕ)) (fault : CargoFault) → Tells has args fault → IsAskingFault json_format has args fault (cause_of fault)
misread has args (Arguments fault) tells = tells
misread has args (Program fault) is = rw is tt
misread has args (Ambiguous word choices) tells = tells
misread has args (Unknown word nearest) tells = tells
misread has args (Cycle ids round) tells = tells
misread has args (Metadata fault) tells = tells
misread has args NoText tells = tells

pub returns-clause-misread : goal.returns-clause-misread
returns-clause-misread g c = IfErr-weaker c.asked_of.result _ _ (misread _ (map string_bytes c.args.args.now)) c.asked_of.ensures.err
