use Rattle.std.proofs.Common.{◌≡◌, List, take, drop}
use Rattle.std.specs.List.{AllZip}
use Rattle.guppy_data.specs.declared.records.LinkRecord.{LinkRecord}
use Rattle.guppy_data.specs.declared.records.PackageRecord.{PackageRecord}
use Rattle.guppy_data.specs.Platform.{question_of}
use Rattle.guppy_platforms.specs.Host.{IsMark}
use Rattle.guppy_platforms.specs.Kept.{IsLeftThere}
use Rattle.guppy_platforms.proofs.kept.leave_all.Given as goal

abbrev pub invariant-loop-link : goal.invariant-loop-link
invariant-loop-link l = record {
  done : (packages : List PackageRecord) (all : List LinkRecord) → AllZip (IsMark packages all) l.initial.links l.marks
      → AllZip (IsLeftThere (question_of l.platforms) (question_of l.host) packages all) (take l.link-index l.initial.links) (take l.link-index l.links);
  rest : drop l.link-index l.links ≡ drop l.link-index l.initial.links;
  place : l.place ≡ l.link-index;
}
