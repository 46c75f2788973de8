-- What is told by an object, where a member is put behind its others.
use Rattle.std.proofs.Common.{◌≡◌, ◌≢◌, ◌⊎◌, ◌∙◌, ℕ, false, true, cond, List, [], map, Option, None, Some, IsSomeAnd, option_and_then, refl, sym, ap, subst, codes}
use Rattle.std.specs.Prelude.{unwrap_or}
use Rattle.std.proofs.lemmas.Bool.{false_from_ne_true}
use Rattle.std.proofs.lemmas.Slice.Eq.{bytes_eq-Decides}
use Rattle.std.specs.Str.{bytes_eq}
use Rattle.json.specs.Json.{Json, null, string, array}
use Rattle.json.specs.Find.{get}
use Rattle.json.specs.Value.{items_of}
use Rattle.serde_json.specs.View.{view}
use Rattle.guppy_data.specs.declared.records.Details.{Details}
use Rattle.guppy_data.specs.declared.records.LinkRecord.{LinkRecord}
use Rattle.guppy_data.specs.declared.records.WorkspaceRecord.{WorkspaceRecord}
use Rattle.guppy_metadata.specs.declared.types.Package.{Package}
use Rattle.guppy_metadata.specs.Links.{AreLinksWith, AreLinksOfList}
use Rattle.guppy_metadata.specs.Members.{IsListOf, AreTexts, unless_null}
use Rattle.guppy_metadata.specs.Package.{IsParsedPackage, AreParsedPackages}
use Rattle.guppy_metadata.specs.Table.{IsTable}
use Rattle.guppy_metadata.specs.Told.{IsWith, IsOther}
use Rattle.guppy_metadata.specs.Workspace.{IsBuildDirectory, IsWorkspace}

pub differs : (text other : List ℕ) → text ≢ other → bytes_eq text other ≡ false
differs text other not_same = false_from_ne_true _ (λ same. not_same ((bytes_eq-Decides text other).0 same))

module _ (d e : Json) where
  pub told_alike : (details : Details) (packages : List Package) → get (codes "packages") d ≡ get (codes "packages") e → AreParsedPackages details d packages → AreParsedPackages details e packages
  told_alike details packages same are = subst (λ o. IsSomeAnd o (λ told. IsListOf (IsParsedPackage details) told packages)) same are

  pub links_alike : (details : Details) (links : List LinkRecord) → get (codes "packages") d ≡ get (codes "packages") e → get (codes "resolve") d ≡ get (codes "resolve") e
      → AreLinksWith details d links → AreLinksWith details e links
  links_alike details links same alike are = record {
    packages = are.packages;
    packages_are = told_alike details are.packages same are.packages_are;
    links_are = subst (λ o. IsSomeAnd (option_and_then (get (codes "nodes")) o) (λ nodes. AreLinksOfList are.packages nodes links)) alike are.links_are;
  }

  built_alike : (target : List ℕ) (path : Option (List ℕ)) → get (codes "build_directory") d ≡ get (codes "build_directory") e → IsBuildDirectory d target path → IsBuildDirectory e target path
  built_alike target None same is = subst (λ told. (option_and_then unless_null told ≡ None) ⊎ (option_and_then unless_null told ≡ Some (string target))) same is
  built_alike target (Some path) same is = subst (λ told. (option_and_then unless_null told ≡ Some (string path)) × (path ≢ target)) same is

  pub texts_alike : (name : List ℕ) (texts : List (List ℕ)) → get name d ≡ get name e → AreTexts name d texts → AreTexts name e texts
  texts_alike name texts same are =
      subst (λ told. (option_and_then unless_null told ≡ Some (array (items_of (map string texts)))) ⊎ ((option_and_then unless_null told ≡ None) × (map string texts ≡ []))) same are

  pub workspace_alike : ((name : List ℕ) → IsOther name → get name d ≡ get name e) → (r : WorkspaceRecord) → IsWorkspace d r → IsWorkspace e r
  workspace_alike same r is = record {
    root = sym (same (codes "workspace_root") (refl, refl)) ∙ is.root;
    target_directory = sym (same (codes "target_directory") (refl, refl)) ∙ is.target_directory;
    build_directory = built_alike r.target_directory r.build_directory (same (codes "build_directory") (refl, refl)) is.build_directory;
    metadata_table = subst (λ told. IsTable (unwrap_or told null) (view r.metadata_table)) (same (codes "metadata") (refl, refl)) is.metadata_table;
    default_members = texts_alike (codes "workspace_default_members") r.default_members.items (same (codes "workspace_default_members") (refl, refl)) is.default_members;
  }

  module _ (name : List ℕ) (told : Json) (adds : IsWith name told d e) (wanted : List ℕ) where
    pub kept : bytes_eq name wanted ≡ false → get wanted d ≡ get wanted e
    kept differs = sym (adds wanted ∙ ap (λ b. cond b (Some told) (get wanted d)) differs)

    pub put : bytes_eq name wanted ≡ true → Some told ≡ get wanted e
    put same = sym (adds wanted ∙ ap (λ b. cond b (Some told) (get wanted d)) same)
