-- Packages that one JSON tells: the links between them are the same.
use Rattle.std.proofs.Common.{◌≡◌, ◌∙◌, ◌⊎◌, inl, inr, filter, [], ◌∷◌, ℕ, ◌==◌, ◌&&◌, ◌||◌, List, Option, None, Some, map, option_map, length, refl, sym, ap, subst, string_bytes, codes}
use Rattle.std.specs.List.{AllZip}
use Rattle.std.specs.Str.{bytes_eq}
use Rattle.std.proofs.lemmas.List.{length-map}
use Rattle.json.specs.Json.{Json}
use Rattle.json.specs.Find.{get}
use Rattle.semver.specs.Eval.{matches_all}
use Rattle.semver.specs.Identifiers.{comparator_view, parts_of}
use Rattle.semver.specs.Parse.{version_parts}
use Rattle.semver.specs.declared.Version.{Version}
use Rattle.semver.specs.declared.VersionReq.{VersionReq}
use Rattle.semver.proofs.EvalViews.{matches_all-views, matches_all-read}
use Rattle.semver.proofs.Numerals.{ok-value}
use Rattle.guppy_data.specs.declared.records.Details.{Details}
use Rattle.guppy_data.specs.declared.records.LinkRecord.{LinkRecord}
use Rattle.guppy_metadata.specs.declared.types.Declared.{Declared}
use Rattle.guppy_metadata.specs.declared.types.Resolved.{Resolved}
use Rattle.guppy_metadata.specs.declared.types.Usage.{Usage}
use Rattle.guppy_metadata.specs.declared.types.Package.{Package}
use Rattle.guppy_metadata.specs.Dependency.{IsDeclared}
use Rattle.guppy_metadata.specs.Fits.{used_name, takes, same_usage, is_used, suits, are_together, is_alone, fits, is_matched, are_matched}
use Rattle.guppy_metadata.specs.Gathered.{IsLinkOf}
use Rattle.guppy_metadata.specs.Links.{IsResolved, IsUnasked, IsAsked, IsLink, AreLinksOf, AreLinksOfList}
use Rattle.guppy_metadata.specs.Package.{IsParsedPackage, AreParsedPackages, with_id}
use Rattle.guppy_metadata.proofs.AlikeDependencies.{IsSame, same_itself, declared_once, link_same}
use Rattle.guppy_metadata.proofs.AlikeLists.{OptionsFit, each_itself, lists_fit, fits_too, picked_alike, counted_alike, any_passes_alike, all_pass_alike, last_alike}
use Rattle.guppy_metadata.proofs.Libraries.{library_once}
use Rattle.guppy_metadata.proofs.OnceTold.{text_once}
use Rattle.guppy_metadata.proofs.Options.{some_and}
use Rattle.guppy_metadata.proofs.ResolvedOnce.{UsedAlike, ResolvedAlike, resolved_once}

-- what links look at is the same, but that the first may declare nothing
pub record IsAlike (p q : Package) : Type 0 where
  pub id : p.id.now ≡ q.id.now
  pub name : string_bytes p.record.name ≡ string_bytes q.record.name
  pub version : parts_of p.record.version ≡ parts_of q.record.version
  pub library : option_map string_bytes p.library ≡ option_map string_bytes q.library
  pub declared : AllZip IsSame p.declared.items q.declared.items ⊎ (p.declared.items ≡ [])

alike_itself : (p : Package) → IsAlike p p
alike_itself p = record {
  id = refl;
  name = refl;
  version = refl;
  library = refl;
  declared = inl (each_itself IsSame same_itself p.declared.items);
}

-- one JSON tells such
told_once : (details : Details) (d : Json) (p q : Package) → IsParsedPackage details d p → IsParsedPackage details d q → IsAlike p q
told_once details d p q is also = record {
  id = text_once d (codes "id") p.id.now q.id.now is.id also.id;
  name = text_once d (codes "name") (string_bytes p.record.name) (string_bytes q.record.name) is.named.known.name also.named.known.name;
  version =
      let text = text_once d (codes "version") is.named.known.version.0 also.named.known.version.0 is.named.known.version.1 also.named.known.version.1 in
      ok-value _ _ (sym is.named.known.version.2 ∙ (ap version_parts text ∙ also.named.known.version.2));
  library = library_once d (option_map string_bytes p.library) (option_map string_bytes q.library) is.library also.library;
  declared = inl (lists_fit (IsDeclared details) (IsDeclared details) IsSame (declared_once details) (get (codes "dependencies") d) p.declared.items q.declared.items is.declared also.declared);
}

-- one list tells such, place by place
packages_once : (details : Details) (d : Json) (packages others : List Package) → AreParsedPackages details d packages → AreParsedPackages details d others → AllZip IsAlike packages others
packages_once details d packages others are also = lists_fit (IsParsedPackage details) (IsParsedPackage details) IsAlike (told_once details) (get (codes "packages") d) packages others are also

with_id_same : (id : List ℕ) (packages others : List Package) → AllZip IsAlike packages others → OptionsFit IsAlike (with_id id packages) (with_id id others)
with_id_same id packages others all =
    last_alike IsAlike None None _ _ tt (picked_alike IsAlike (λ p. bytes_eq p.id.now id) (λ p. bytes_eq p.id.now id) (λ p q same. ap (λ own. bytes_eq own id) same.id) packages others all)

-- requirements that are seen alike take the same versions
takes_same : (req other : VersionReq) (version same : Version) → map comparator_view req.comparators.items ≡ map comparator_view other.comparators.items → parts_of version ≡ parts_of same
    → takes req version ≡ takes other same
takes_same req other version same comparators parts =
    let lengths : length req.comparators.items ≡ length other.comparators.items =
    sym (length-map req.comparators.items comparator_view) ∙ (ap length comparators ∙ length-map other.comparators.items comparator_view) in
    let matched : matches_all req.comparators.items version ≡ matches_all other.comparators.items same =
    matches_all-read req.comparators.items version _ _ comparators parts ∙ sym (matches_all-views other.comparators.items same) in
    ap (λ n. (n == 0) || matches_all req.comparators.items version) lengths ∙ ap (λ b. (length other.comparators.items == 0) || b) matched

usage_same : (x y : Declared) → IsSame x y → (u v : Usage) → UsedAlike u v → same_usage x u ≡ same_usage y v
usage_same x y same u v alike = rw (same.section, same.target, alike.section, alike.target) refl

together_same : (v w : Declared) → IsSame v w → (x y : Declared) → IsSame x y → are_together v x ≡ are_together w y
together_same v w one x y other = rw (one.section, one.target, other.section, other.target) refl

-- the same dependencies were resolved so, and have the usages
module _ (asking asking_too : Package) (asked : IsAlike asking asking_too) (declared : AllZip IsSame asking.declared.items asking_too.declared.items)
    (a b : Resolved) (resolved : ResolvedAlike a b) (needed other : Package) (alike : IsAlike needed other) where
  used_name_same : (x y : Declared) → IsSame x y → used_name x needed ≡ used_name y other
  used_name_same x y same = rw (same.rename, same.name, alike.library) refl

  used_same : (x y : Declared) → IsSame x y → is_used x a.usages.items ≡ is_used y b.usages.items
  used_same x y same = any_passes_alike UsedAlike (same_usage x) (same_usage y) (usage_same x y same) a.usages.items b.usages.items resolved.usages

  suits_same : (x y : Declared) → IsSame x y → suits asking a needed x ≡ suits asking_too b other y
  suits_same x y same =
      rw (used_name_same x y same, used_same x y same, same.name, alike.name, asked.id, resolved.id, resolved.name) refl

  alone_same : (x y : Declared) → IsSame x y → is_alone asking a needed x ≡ is_alone asking_too b other y
  alone_same x y same =
      ap (λ n. n == 1) (counted_alike IsSame (λ v. are_together v x && suits asking a needed v) (λ w. are_together w y && suits asking_too b other w)
      (λ v w too. ap (λ t. t && suits asking a needed v) (together_same v w too x y same) ∙ ap (λ s. are_together w y && s) (suits_same v w too))
      asking.declared.items asking_too.declared.items declared)

  fits_same : (x y : Declared) → IsSame x y → fits asking a needed x ≡ fits asking_too b other y
  fits_same x y same =
      ap (λ s. s && (takes x.requirement needed.record.version || is_alone asking a needed x)) (suits_same x y same)
      ∙ (ap (λ t. suits asking_too b other y && (t || is_alone asking a needed x)) (takes_same x.requirement y.requirement needed.record.version other.record.version same.requirement alike.version)
      ∙ ap (λ o. suits asking_too b other y && (takes y.requirement other.record.version || o)) (alone_same x y same))

  matched_same : are_matched asking a needed asking.declared.items a.usages.items ≡ are_matched asking_too b other asking_too.declared.items b.usages.items
  matched_same =
      all_pass_alike UsedAlike (is_matched asking a needed asking.declared.items) (is_matched asking_too b other asking_too.declared.items)
      (λ u v used. any_passes_alike IsSame (λ x. same_usage x u && fits asking a needed x) (λ y. same_usage y v && fits asking_too b other y)
      (λ x y same. ap (λ p. p && fits asking a needed x) (usage_same x y same u v used) ∙ ap (λ p. same_usage y v && p) (fits_same x y same)) asking.declared.items asking_too.declared.items declared)
      a.usages.items b.usages.items resolved.usages

-- no link is asked for by no dependency
asked_of_none : (xs : List Declared) (r : LinkRecord) → xs ≡ [] → IsLinkOf xs r → ⊥
asked_of_none xs r none is = let same : [] ≡ is.first ∷ is.others = sym none ∙ is.parts in cc

-- a link that the ones ask for is asked for by the others
asked_same : (asking asking_too needed needed_too : Option Package) → OptionsFit IsAlike asking asking_too → OptionsFit IsAlike needed needed_too
    → (a b : Resolved) → ResolvedAlike a b → (r : LinkRecord) → IsAsked asking needed a r → IsAsked asking_too needed_too b r
asked_same None None needed needed_too one two a b alike r asked = subst (λ name. IsUnasked name r) alike.name asked
asked_same None (Some q) needed needed_too one two a b alike r asked = absurd one
asked_same (Some p) None needed needed_too one two a b alike r asked = absurd one
asked_same (Some p) (Some q) None None one two a b alike r asked = subst (λ name. IsUnasked name r) alike.name asked
asked_same (Some p) (Some q) None (Some m) one two a b alike r asked = absurd two
asked_same (Some p) (Some q) (Some n) None one two a b alike r asked = absurd two
asked_same (Some p) (Some q) (Some n) (Some m) one two a b alike r asked = by one.declared
  where
    by : (AllZip IsSame p.declared.items q.declared.items ⊎ (p.declared.items ≡ [])) → IsAsked (Some q) (Some m) b r
    by (inl all) = (
      link_same _ _ r (picked_alike IsSame (fits p a n) (fits q b m) (fits_same p q one all a b alike n m two) p.declared.items q.declared.items all) asked.0,
      sym (matched_same p q one all a b alike n m two) ∙ asked.1,
    )
    by (inr none) = absurd (asked_of_none (filter (fits p a n) p.declared.items) r (ap (filter (fits p a n)) none) asked.0)

-- lists of alike packages, place by place
module _ (packages others : List Package) (all : AllZip IsAlike packages others) where
  -- a link between the ones is asked for by the others, whatever the dependency is read to
  asked_between : (from : List ℕ) (d : Json) (r : LinkRecord) (is : IsLink packages from d r) (resolved : Resolved) → IsResolved d resolved
      → IsAsked (with_id from others) (with_id resolved.id.now others) resolved r
  asked_between from d r is resolved resolved_is =
      let alike = resolved_once d is.resolved resolved is.resolved_is resolved_is in
      let needed : OptionsFit IsAlike (with_id is.resolved.id.now packages) (with_id resolved.id.now others) =
      subst (λ id. OptionsFit IsAlike (with_id is.resolved.id.now packages) (with_id id others)) alike.id (with_id_same is.resolved.id.now packages others all) in
      asked_same (with_id from packages) (with_id from others) (with_id is.resolved.id.now packages) (with_id resolved.id.now others)
      (with_id_same from packages others all) needed is.resolved resolved alike r is.asked

  -- it is one between them
  link_between : (from : List ℕ) (d : Json) (r : LinkRecord) → IsLink packages from d r → IsLink others from d r
  link_between from d r is = record {
    resolved = is.resolved;
    resolved_is = is.resolved_is;
    joins = is.joins;
    asked = asked_between from d r is is.resolved is.resolved_is;
  }

  -- the links that leave the package of a node
  pub links_of_between : (d : Json) (links : List LinkRecord) → AreLinksOf packages d links → AreLinksOf others d links
  links_of_between d links are = record {
    id = are.id;
    id_is = are.id_is;
    links_are = some_and (get (codes "deps") d) (λ deps fit. (fit.0, fit.1, fits_too (IsLink packages are.id) (IsLink others are.id) (link_between are.id) fit.0 links fit.2)) are.links_are;
  }

  -- the links of all nodes of a list
  pub links_of_list_between : (nodes : Json) (links : List LinkRecord) → AreLinksOfList packages nodes links → AreLinksOfList others nodes links
  links_of_list_between nodes links are = (
    are.0,
    are.1,
    record { rows = are.2.rows; rows_are = fits_too (AreLinksOf packages) (AreLinksOf others) links_of_between are.0 are.2.rows are.2.rows_are; all = are.2.all },
  )

-- a link is asked for alike whatever its dependency is read to
pub asked_once : (packages : List Package) (from : List ℕ) (d : Json) (r : LinkRecord) → IsLink packages from d r → (resolved : Resolved) → IsResolved d resolved
    → IsAsked (with_id from packages) (with_id resolved.id.now packages) resolved r
asked_once packages from d r is resolved resolved_is = asked_between packages packages (each_itself IsAlike alike_itself packages) from d r is resolved resolved_is

-- what is told of links between packages is told of those between the packages that the same JSON tells
pub links_between_told : (details : Details) (d : Json) (packages others : List Package) (nodes : Json) (links : List LinkRecord) → AreParsedPackages details d packages → AreParsedPackages details d others
    → AreLinksOfList others nodes links → AreLinksOfList packages nodes links
links_between_told details d packages others nodes links are also = links_of_list_between others packages (packages_once details d others packages also are) nodes links
