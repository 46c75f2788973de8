-- Packages' records, of what is told of each, and packages by their IDs.
use Rattle.std.proofs.Common.{◌≡◌, ℕ, Bool, true, List, [], ◌∷◌, Some, map, sym, ap, subst, codes}
use Rattle.std.specs.List.{AllZip}
use Rattle.std.specs.Option.{option_copied}
use Rattle.std.specs.Prelude.{IsSomeAnd}
use Rattle.json.specs.Json.{Json, string}
use Rattle.json.specs.Find.{get}
use Rattle.guppy_data.specs.declared.records.Details.{Details}
use Rattle.guppy_data.specs.declared.records.PackageRecord.{PackageRecord}
use Rattle.guppy_metadata.specs.declared.types.Package.{Package}
use Rattle.guppy_metadata.specs.Dependency.{IsDeclared, NamesOptional}
use Rattle.guppy_metadata.specs.Members.{is_among, are_among, list_of, IsListOf}
use Rattle.guppy_metadata.specs.Package.{IsFrom, IsParsedPackage, AreParsedPackages, AreAskedTargets, IsRecordOf, IsPackage, ArePackagesWith, are_known}
use Rattle.guppy_metadata.proofs.AlikeLists.{lists_fit, made_alike}
use Rattle.guppy_metadata.proofs.OnceTold.{text_once}
use Rattle.guppy_metadata.proofs.Options.{some_and}
use Rattle.guppy_metadata.proofs.Placed.{placed_named, placed_detailed, placed_targets, placed_optional}

-- packages and records of one list have the same IDs
pub same_ids : (details : Details) (d : Json) (root : List ℕ) (is_member : List ℕ → Bool) (packages : List Package) (records : List PackageRecord) → AreParsedPackages details d packages
    → IsSomeAnd (get (codes "packages") d) (λ told. IsListOf (IsPackage details root is_member) told records) → map (λ p. p.id.now) packages ≡ map (λ r. r.id) records
same_ids details d root is_member packages records tells are =
    made_alike (λ p r. p.id.now ≡ r.id) (λ p. p.id.now) (λ r. r.id) (λ p r same. same) packages records
    (lists_fit (IsParsedPackage details) (IsPackage details root is_member) (λ p r. p.id.now ≡ r.id) (λ j p r is also. text_once j (codes "id") p.id.now r.id is.id also.named.known.id) (get (codes "packages") d) packages records tells are)

-- members that are told in another way are the same
pub record_alike : (root : List ℕ) (known told : List ℕ → Bool) → ((id : List ℕ) → known id ≡ told id) → (p : Package) (r : PackageRecord) → IsRecordOf root known p r → IsRecordOf root told p r
record_alike root known told same p r is = record {
  source = subst (λ is_member. IsFrom root r.manifest_path is_member (option_copied p.source) r.source) (same p.id.now) is.source;
  record_is = is.record_is;
}

-- a package's record, in a workspace with these members
module _ (details : Details) (root : List ℕ) (is_member : List ℕ → Bool) where
  record_is : (d : Json) (p : Package) (r : PackageRecord) → IsParsedPackage details d p → IsRecordOf root is_member p r → IsPackage details root is_member d r
  record_is d p r tells is =
      let named = placed_named p.record r is.record_is d tells.named in
      let id : p.id.now ≡ r.id = text_once d (codes "id") p.id.now r.id tells.id named.known.id in
      record {
        named = named;
        detailed = placed_detailed p.record r is.record_is details d tells.detailed;
        targets = subst (λ targets. AreAskedTargets details d targets.items) (sym (placed_targets p.record r is.record_is)) tells.targets;
        optional = λ all. some_and (get (codes "dependencies") d)
            (λ list are. (p.declared.items, subst (λ details. IsListOf (IsDeclared details) list p.declared.items) all are, subst (NamesOptional p.declared.items) (sym (placed_optional p.record r is.record_is)) (tells.optional all))) tells.declared;
        source = option_copied p.source;
        source_is = tells.source;
        comes_from = subst (λ is_member. IsFrom root r.manifest_path is_member (option_copied p.source) r.source) (ap is_member id) is.source;
      }

  records_are : (ds : List Json) (ps : List Package) (rs : List PackageRecord) → AllZip (IsParsedPackage details) ds ps → AllZip (IsRecordOf root is_member) ps rs → AllZip (IsPackage details root is_member) ds rs
  records_are [] [] [] tells are = tt
  records_are [] [] (r ∷ rs) tells are = absurd are
  records_are [] (p ∷ ps) rs tells are = absurd tells
  records_are (d ∷ ds) [] rs tells are = absurd tells
  records_are (d ∷ ds) (p ∷ ps) [] tells are = absurd are
  records_are (d ∷ ds) (p ∷ ps) (r ∷ rs) tells are = (record_is d p r tells.0 are.0, records_are ds ps rs tells.1 are.1)

-- the records of all packages that the JSON tells
pub packages_are : (details : Details) (d : Json) (root path : List ℕ) (members : List (List ℕ)) (packages : List Package) (records : List PackageRecord)
    → path ≡ root → get (codes "workspace_root") d ≡ Some (string root) → get (codes "workspace_members") d ≡ Some (list_of members)
    → AreParsedPackages details d packages → are_known packages members ≡ true → AllZip (IsRecordOf path (is_among members)) packages records → ArePackagesWith details d records
packages_are details d root path members packages records path_is root_is members_are tells here are =
    let all = some_and (get (codes "packages") d)
    (λ list told. (told.0, told.1, records_are details root (is_among members) told.0 packages records told.2 (subst (λ at. AllZip (IsRecordOf at (is_among members)) packages records) path_is are))) tells in (
      root,
      members,
      root_is,
      members_are,
      subst (λ ids. are_among ids members ≡ true) (same_ids details d root (is_among members) packages records tells all) here,
      all,
    )
