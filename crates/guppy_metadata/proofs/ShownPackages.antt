-- Packages that a sink was shown: what is said of those that it left is said of the whole ones.
use Rattle.std.proofs.Common.{◌≡◌, ◌∙◌, inl, ℕ, Bool, List, [], ◌∷◌, ◌++◌, map, Option, None, Some, IfSome, IsSomeAnd, option_map, option_and_then, refl, sym, ap, subst, string_bytes, codes}
use Rattle.std.specs.List.{AllZip}
use Rattle.std.specs.Option.{option_copied}
use Rattle.std.proofs.lemmas.List.{map-append}
use Rattle.indexmap.proofs.SetLemmas.{AllZip-push}
use Rattle.json.specs.Json.{Json}
use Rattle.json.specs.Find.{get}
use Rattle.semver.specs.Identifiers.{parts_of}
use Rattle.guppy_data.specs.declared.records.Details.{Details}
use Rattle.guppy_data.specs.declared.records.LinkRecord.{LinkRecord}
use Rattle.guppy_data.specs.declared.records.PackageRecord.{PackageRecord}
use Rattle.guppy_metadata.specs.declared.sink.ReadPackages.{ReadPackages}
use Rattle.guppy_metadata.specs.declared.types.Package.{Package}
use Rattle.guppy_metadata.specs.declared.types.Shown.{Shown}
use Rattle.guppy_metadata.specs.Links.{AreLinksOfList, AreLinksWith}
use Rattle.guppy_metadata.specs.Members.{IsListOf}
use Rattle.guppy_metadata.specs.Package.{IsFrom, IsParsedPackage, IsPlaced, IsRecordOf, IsSlimPackage}
use Rattle.guppy_metadata.specs.Sink.{AreReadPackages, IsShort}
use Rattle.guppy_metadata.specs.Told.{AreShown, AreShownPackages, IsShortPackage}
use Rattle.guppy_metadata.proofs.AlikeDependencies.{IsSame, same_itself}
use Rattle.guppy_metadata.proofs.AlikeLists.{each_itself, made_alike, turned}
use Rattle.guppy_metadata.proofs.LetGo.{all_further, ids_kept, links_of_list_whole, none_let}
use Rattle.guppy_metadata.proofs.ObjectMembers.{told_alike}
use Rattle.guppy_metadata.proofs.Options.{some_and}
use Rattle.guppy_metadata.proofs.SamePackages.{IsAlike, links_of_list_between}

-- they have the same IDs, and links between them are links between the whole ones
ids_shown : (ps qs : List Package) → AllZip IsShortPackage ps qs → map (λ p. p.id.now) ps ≡ map (λ p. p.id.now) qs
ids_shown ps qs all = made_alike IsShortPackage (λ p. p.id.now) (λ p. p.id.now) (λ p q is. ap (λ id. id.now) is.id) ps qs all

alike_short : (p q : Package) → IsShortPackage p q → IsAlike q p
alike_short p q is = record {
  id = ap (λ id. id.now) (sym is.id);
  name = ap string_bytes (sym is.record_is.name);
  version = ap parts_of (sym is.record_is.version);
  library = ap (option_map string_bytes) (sym is.library);
  declared = inl (subst (λ own. AllZip IsSame own.items p.declared.items) is.declared (each_itself IsSame same_itself p.declared.items));
}

-- the record of the first of two packages from where the record of the second is from
abbrev pub whole_record : Package → PackageRecord → PackageRecord
whole_record p r = record p.record { source = r.source }

-- a record that was made of what was left is short for it
short_from : (r left : PackageRecord) (placed : PackageRecord) → IsShort r left → IsPlaced left placed → IsShort (record r { source = placed.source }) placed
short_from r left placed short is = subst (IsShort (record r { source = placed.source })) (sym is) (record {
  id = short.id;
  name = short.name;
  version = short.version;
  source = refl;
  manifest_path = short.manifest_path;
  edition = short.edition;
  description = short.description;
  license = short.license;
  repository = short.repository;
})

module _ (root : List ℕ) (is_member : List ℕ → Bool) where
  -- what is made of the whole packages, where these records are made of those that were left
  pub record AreWhole (ps qs : List Package) (rs all : List PackageRecord) : Type 0 where
    pub are : AllZip (IsRecordOf root is_member) ps all
    pub shown_are : AllZip IsPlaced (map (λ p. p.record) ps) all
    pub left_are : AllZip IsPlaced (map (λ p. p.record) qs) rs
    pub short : AllZip IsShort all rs

  record_shown : (p s q : Package) (r : PackageRecord) → IsShortPackage p s → IsSlimPackage s q → IsRecordOf root is_member q r → IsRecordOf root is_member p (whole_record p r)
  record_shown p s q r short slim is =
      let manifest : r.manifest_path ≡ p.record.manifest_path = ap (λ own. own.manifest_path) is.record_is ∙ (ap (λ own. own.manifest_path) (sym slim.record_is) ∙ sym short.record_is.manifest_path) in
      let id = ap (λ id. id.now) (short.id ∙ slim.id) in
      let source = short.source ∙ slim.source in record {
        source = subst (λ at. IsFrom root at (is_member p.id.now) (option_copied p.source) r.source) manifest
            (subst (λ from. IsFrom root r.manifest_path (is_member p.id.now) (option_copied from) r.source) (sym source)
            (subst (λ own. IsFrom root r.manifest_path (is_member own) (option_copied q.source) r.source) (sym id) is.source));
        record_is = refl;
      }

  pub records_shown : (ps ss qs : List Package) (rs : List PackageRecord) → AllZip IsShortPackage ps ss → AllZip IsSlimPackage ss qs → AllZip (IsRecordOf root is_member) qs rs
      → (all : List PackageRecord) × AreWhole ps ss rs all
  records_shown [] [] [] [] short slim are = ([], record { are = tt; shown_are = tt; left_are = tt; short = tt })
  records_shown [] [] [] (r ∷ rs) short slim are = absurd are
  records_shown [] [] (q ∷ qs) rs short slim are = absurd slim
  records_shown [] (s ∷ ss) qs rs short slim are = absurd short
  records_shown (p ∷ ps) [] qs rs short slim are = absurd short
  records_shown (p ∷ ps) (s ∷ ss) [] rs short slim are = absurd slim
  records_shown (p ∷ ps) (s ∷ ss) (q ∷ qs) [] short slim are = absurd are
  records_shown (p ∷ ps) (s ∷ ss) (q ∷ qs) (r ∷ rs) short slim are =
      let more = records_shown ps ss qs rs short.1 slim.1 are.1 in
      let placed : IsPlaced s.record r = are.0.record_is ∙ ap (λ (own : PackageRecord). record own { source = r.source }) (sym slim.0.record_is) in (
        whole_record p r ∷ more.0,
        record {
          are = (record_shown p s q r short.0 slim.0 are.0, more.1.are);
          shown_are = (refl, more.1.shown_are);
          left_are = (placed, more.1.left_are);
          short = (short_from p.record s.record r short.0.record_is placed, more.1.short);
        },
      )

module _ {P : Type 0} (took : P → List PackageRecord → List PackageRecord → Type 0) where
  -- a sink that was shown none, and one that was shown one more
  pub none_shown : (sink : P) → took sink [] [] → AreShown took sink [] []
  none_shown sink none = record { took_are = none; short = tt }

  pub one_shown : (sink after : P) (ps qs : List Package) (p q : Package) → AreShown took sink ps qs → IsShortPackage p q
      → ((shown left : List PackageRecord) → took sink shown left → took after (shown ++ p.record ∷ []) (left ++ q.record ∷ []))
      → AreShown took after (ps ++ p ∷ []) (qs ++ q ∷ [])
  one_shown sink after ps qs p q so_far short takes = record {
    took_are = rw (map-append (λ (p : Package). p.record) ps (p ∷ []), map-append (λ (p : Package). p.record) qs (q ∷ [])) (takes _ _ so_far.took_are);
    short = AllZip-push IsShortPackage _ _ _ _ so_far.short short;
  }

  -- packages that were read are all there
  pub all_there : (details : Details) (d : Json) (read : Shown P) (whole : List Package) → IsSomeAnd (get (codes "packages") d) (λ told. IsListOf (IsParsedPackage details) told whole)
      → AreShown took read.sink whole read.packages.items → AreShownPackages took details d read
  all_there details d read whole told shown = record { whole = whole; told = told; left = read.packages.items; shown = shown; slim = none_let read.packages.items }

  pub ids_of_whole : (details : Details) (d : Json) (read : Shown P) (are : AreShownPackages took details d read) → map (λ p. p.id.now) are.whole ≡ map (λ p. p.id.now) read.packages.items
  ids_of_whole details d read are = ids_shown are.whole are.left are.shown.short ∙ ids_kept are.left read.packages.items are.slim

  -- packages that are held, where some are let go while links are read
  module _ (details : Details) (d e : Json) (same : get (codes "packages") d ≡ get (codes "packages") e) where
    pub still_shown : (old : Option (Shown P)) → IfSome old (λ read. AreShownPackages took details d read) → IfSome old (λ read. AreShownPackages took details e read)
    still_shown None are = tt
    still_shown (Some read) are = record { whole = are.whole; told = told_alike d e details are.whole same are.told; left = are.left; shown = are.shown; slim = are.slim }

    pub slim_further : (old new : Option (Shown P)) → IfSome old (λ read. AreShownPackages took details d read)
        → IsSomeAnd old (λ read. IsSomeAnd new (λ left. (left.sink ≡ read.sink) × AllZip IsSlimPackage read.packages.items left.packages.items))
        → IfSome new (λ read. AreShownPackages took details e read)
    slim_further None new are more = absurd more
    slim_further (Some read) None are more = absurd more
    slim_further (Some read) (Some left) are more = record {
      whole = are.whole;
      told = told_alike d e details are.whole same are.told;
      left = are.left;
      shown = subst (λ sink. AreShown took sink are.whole are.left) (sym more.0) are.shown;
      slim = all_further are.left read.packages.items left.packages.items are.slim more.1;
    }

    -- the links that were read of what is resolved
    pub links_read : (old : Option (Shown P)) (links : List LinkRecord) (told : Json) → Some told ≡ get (codes "resolve") e → IfSome old (λ read. AreShownPackages took details d read)
        → IsSomeAnd old (λ read. IsSomeAnd (get (codes "nodes") told) (λ nodes. AreLinksOfList read.packages.items nodes links)) → AreLinksWith details e links
    links_read None links told is shown are = absurd are
    links_read (Some read) links told is shown are = record {
      packages = shown.whole;
      packages_are = told_alike d e details shown.whole same shown.told;
      links_are = subst (λ o. IsSomeAnd (option_and_then (get (codes "nodes")) o) (λ nodes. AreLinksOfList shown.whole nodes links)) is
          (some_and (get (codes "nodes") told) (λ nodes all.
          links_of_list_between shown.left shown.whole (turned IsShortPackage IsAlike alike_short shown.whole shown.left shown.shown.short) nodes links
          (links_of_list_whole shown.left read.packages.items shown.slim nodes links all)) are);
    }

-- what was read with a sink that left all is what was read
none_taken : (shown packages left : List PackageRecord) → AllZip IsPlaced shown packages → AllZip IsPlaced shown left → AllZip IsShort packages left → packages ≡ left
none_taken [] [] [] are also short = refl
none_taken [] [] (q ∷ left) are also short = absurd also
none_taken [] (r ∷ packages) left are also short = absurd are
none_taken (s ∷ shown) [] left are also short = absurd are
none_taken (s ∷ shown) (r ∷ packages) [] are also short = absurd also
none_taken (s ∷ shown) (r ∷ packages) (q ∷ left) are also short =
    let same : r ≡ q = are.0 ∙ (ap (λ source. record s { source = source }) short.0.source ∙ sym also.0) in
    ap (λ own. own ∷ packages) same ∙ ap (λ others. q ∷ others) (none_taken shown packages left are.1 also.1 short.1)

pub all_left : {P : Type 0} (read : ReadPackages P) (packages : List PackageRecord) → AreReadPackages (λ _ shown left. shown ≡ left) read packages → packages ≡ read.left.items
all_left read packages are = none_taken are.shown packages read.left.items are.shown_are (subst (λ own. AllZip IsPlaced own read.left.items) (sym are.took_are) are.left_are) are.short
