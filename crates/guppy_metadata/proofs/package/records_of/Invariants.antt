use Rattle.std.specs.List.{AllZip}
use Rattle.guppy_data.specs.Utf8Path.{path_text}
use Rattle.guppy_metadata.specs.Members.{is_in_set}
use Rattle.guppy_metadata.specs.Package.{IsRecordOf}
use Rattle.guppy_metadata.proofs.package.records_of.Given as goal

abbrev pub invariant-loop-package : goal.invariant-loop-package
invariant-loop-package l = AllZip (IsRecordOf (path_text l.root) (is_in_set l.members)) l.yielded l.records.items
