use Rattle.std.proofs.Common.{List, take, map}
use Rattle.std.specs.List.{AllZip}
use Rattle.guppy_closure.specs.Named.{StandsAt, AreSame}
use Rattle.guppy_data.specs.declared.records.LinkRecord.{LinkRecord}
use Rattle.guppy_data.specs.declared.records.PackageRecord.{PackageRecord}
use Rattle.guppy_platforms.specs.Host.{IsMark}
use Rattle.guppy_platforms.specs.HostClauses.{clauses_of, Grows}
use Rattle.guppy_platforms.proofs.host.known_marks.Given as goal

abbrev pub invariant-loop-link : goal.invariant-loop-link
invariant-loop-link l = record {
  marked : (packages : List PackageRecord) (all : List LinkRecord)
      → AreSame (StandsAt (map (λ id. id.now) l.initial.ids.keys)) (clauses_of packages all) l.known
      → AllZip (IsMark packages all) (take l.link-index l.links) l.marks.items;
  grows : Grows (map (λ id. id.now) l.initial.ids.keys) (map (λ id. id.now) l.ids.keys);
}
