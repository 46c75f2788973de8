-- Packages whose dependencies may have been let go: what is said of them is said of the whole ones.
use Rattle.std.proofs.Common.{◌≡◌, ◌∙◌, ◌⊎◌, inl, inr, ℕ, zero, suc, List, [], ◌∷◌, map, Some, IfSome, slice_get, option_map, refl, sym, ap, subst, string_bytes}
use Rattle.std.proofs.Math.ListN.{set}
use Rattle.std.specs.Prelude.{String}
use Rattle.std.specs.declared.alloc.Global.{Global}
use Rattle.std.specs.List.{AllZip}
use Rattle.json.specs.Json.{Json}
use Rattle.indexmap.specs.IndexMap.{IndexMap}
use Rattle.semver.specs.Identifiers.{parts_of}
use Rattle.guppy_data.specs.declared.records.LinkRecord.{LinkRecord}
use Rattle.guppy_metadata.specs.declared.types.Package.{Package}
use Rattle.guppy_metadata.specs.Links.{AreLinksOf, AreLinksOfList}
use Rattle.guppy_metadata.specs.Package.{IsSlimPackage, ArePositions, last_position}
use Rattle.guppy_metadata.proofs.AlikeDependencies.{IsSame, same_itself}
use Rattle.guppy_metadata.proofs.AlikeLists.{each_itself, made_alike, turned}
use Rattle.guppy_metadata.proofs.SamePackages.{IsAlike, links_of_between, links_of_list_between}

let_itself : (p : Package) → IsSlimPackage p p
let_itself p = record { id = refl; source = refl; library = refl; record_is = refl; declared = inl refl }

pub none_let : (packages : List Package) → AllZip IsSlimPackage packages packages
none_let packages = each_itself IsSlimPackage let_itself packages

let_further : (p q r : Package) → IsSlimPackage p q → IsSlimPackage q r → IsSlimPackage p r
let_further p q r one two = record { id = one.id ∙ two.id; source = one.source ∙ two.source; library = one.library ∙ two.library; record_is = one.record_is ∙ two.record_is; declared = by one.declared two.declared }
  where
    by : ((p.declared.items ≡ q.declared.items) ⊎ (q.declared.items ≡ [])) → ((q.declared.items ≡ r.declared.items) ⊎ (r.declared.items ≡ [])) → (p.declared.items ≡ r.declared.items) ⊎ (r.declared.items ≡ [])
    by one (inr none) = inr none
    by (inl same) (inl also) = inl (same ∙ also)
    by (inr none) (inl also) = inr (sym also ∙ none)

pub all_further : (ps qs rs : List Package) → AllZip IsSlimPackage ps qs → AllZip IsSlimPackage qs rs → AllZip IsSlimPackage ps rs
all_further [] [] [] one two = tt
all_further [] [] (r ∷ rs) one two = absurd two
all_further [] (q ∷ qs) rs one two = absurd one
all_further (p ∷ ps) [] rs one two = absurd one
all_further (p ∷ ps) (q ∷ qs) [] one two = absurd two
all_further (p ∷ ps) (q ∷ qs) (r ∷ rs) one two = (let_further p q r one.0 two.0, all_further ps qs rs one.1 two.1)

-- of all packages what the one at this position declares
pub let_at : (packages : List Package) (k : ℕ) (p q : Package) → slice_get packages k ≡ Some p → IsSlimPackage p q → AllZip IsSlimPackage packages (set packages k q)
let_at [] k p q at is = absurd (cc)
let_at (other ∷ packages) zero p q at is = (subst (λ o. IfSome o (λ p. IsSlimPackage p q)) (sym at) is, none_let packages)
let_at (other ∷ packages) (suc k) p q at is = (let_itself other, let_at packages k p q at is)

-- they have the same IDs, and positions
pub ids_kept : (ps qs : List Package) → AllZip IsSlimPackage ps qs → map (λ p. p.id.now) ps ≡ map (λ p. p.id.now) qs
ids_kept ps qs all = made_alike IsSlimPackage (λ p. p.id.now) (λ p. p.id.now) (λ p q is. ap (λ id. id.now) is.id) ps qs all

pub positions_kept : {S : Type 0} (ps qs : List Package) (positions : IndexMap (String Global) ℕ S) → AllZip IsSlimPackage ps qs → ArePositions ps positions → ArePositions qs positions
positions_kept ps qs positions all are id = are id ∙ ap (last_position id) (ids_kept ps qs all)

-- links between them are links between the whole ones
alike_let : (p q : Package) → IsSlimPackage p q → IsAlike q p
alike_let p q is = record {
  id = ap (λ id. id.now) (sym is.id);
  name = ap (λ r. string_bytes r.name) (sym is.record_is);
  version = ap (λ r. parts_of r.version) (sym is.record_is);
  library = ap (option_map string_bytes) (sym is.library);
  declared = by is.declared;
}
  where
    by : ((p.declared.items ≡ q.declared.items) ⊎ (q.declared.items ≡ [])) → (AllZip IsSame q.declared.items p.declared.items) ⊎ (q.declared.items ≡ [])
    by (inl same) = inl (subst (λ xs. AllZip IsSame xs p.declared.items) same (each_itself IsSame same_itself p.declared.items))
    by (inr none) = inr none

module _ (whole packages : List Package) (all : AllZip IsSlimPackage whole packages) where
  pub links_of_whole : (d : Json) (links : List LinkRecord) → AreLinksOf packages d links → AreLinksOf whole d links
  links_of_whole d links are = links_of_between packages whole (turned IsSlimPackage IsAlike alike_let whole packages all) d links are

  pub links_of_list_whole : (nodes : Json) (links : List LinkRecord) → AreLinksOfList packages nodes links → AreLinksOfList whole nodes links
  links_of_list_whole nodes links are = links_of_list_between packages whole (turned IsSlimPackage IsAlike alike_let whole packages all) nodes links are
