-- The details of packages, one behind the other.
use Rattle.std.proofs.Common.{◌≡◌, ◌∙◌, ℕ, suc, List, [], ◌∷◌, ◌++◌, length, refl, sym, ap, subst}
use Rattle.std.specs.List.{AllZip, flat_map}
use Rattle.std.proofs.lemmas.Grind.{flat_map-append}
use Rattle.std.proofs.lemmas.List.{append-nil}
use Rattle.indexmap.proofs.SetLemmas.{AllZip-push}
use Rattle.guppy_data.specs.declared.records.PackageRecord.{PackageRecord}
use Rattle.guppy_metadata.specs.Package.{IsPlaced}
use Rattle.guppy_metadata.specs.Sink.{IsShort}
use Rattle.guppy_wire.specs.Package.{package_text}
use Rattle.guppy_wire.specs.Parts.{listed}
use Rattle.guppy_wire.specs.Wire.{AreAllDetails, AreDetails}

pub none_told : AreAllDetails [] []
none_told = record { texts = []; texts_are = tt; text_is = refl }

pub one_more : (packages : List PackageRecord) (text own : List ℕ) (r : PackageRecord) → AreAllDetails packages text → AreDetails r own → AreAllDetails (packages ++ r ∷ []) (text ++ own)
one_more packages text own r are more = record {
  texts = are.texts ++ own ∷ [];
  texts_are = AllZip-push AreDetails _ _ _ _ are.texts_are more;
  text_is = ap (λ t. t ++ own) are.text_is ∙ (ap (λ t. flat_map (λ x. x) are.texts ++ t) (sym (append-nil own)) ∙ sym (flat_map-append (λ x. x) are.texts (own ∷ [])));
}

-- they say nothing of where a package comes from
details_placed : (r placed : PackageRecord) (text : List ℕ) → IsPlaced r placed → AreDetails r text → AreDetails placed text
details_placed r placed text is are = subst (λ (own : PackageRecord). AreDetails own text) (sym is) (record { table = are.table; table_is = are.table_is; text_is = are.text_is })

each_placed : (rs placed : List PackageRecord) (texts : List (List ℕ)) → AllZip IsPlaced rs placed → AllZip AreDetails rs texts → AllZip AreDetails placed texts
each_placed [] [] texts are told = told
each_placed [] (p ∷ placed) texts are told = absurd are
each_placed (r ∷ rs) [] texts are told = absurd are
each_placed (r ∷ rs) (p ∷ placed) [] are told = absurd told
each_placed (r ∷ rs) (p ∷ placed) (text ∷ texts) are told = (details_placed r p text are.0 told.0, each_placed rs placed texts are.1 told.1)

pub all_placed : (rs placed : List PackageRecord) (text : List ℕ) → AllZip IsPlaced rs placed → AreAllDetails rs text → AreAllDetails placed text
all_placed rs placed text are told = record { texts = told.texts; texts_are = each_placed rs placed told.texts are told.texts_are; text_is = told.text_is }

-- the rest is told of records without details as of those with them
text_short : (r short : PackageRecord) → IsShort r short → package_text r ≡ package_text short
text_short r short is = rw (is.id, is.name, is.version, is.source, is.manifest_path, is.edition, is.description, is.license, is.repository) refl

texts_short : (rs short : List PackageRecord) → AllZip IsShort rs short → flat_map package_text rs ≡ flat_map package_text short
texts_short [] [] are = refl
texts_short [] (s ∷ short) are = absurd are
texts_short (r ∷ rs) [] are = absurd are
texts_short (r ∷ rs) (s ∷ short) are = ap (λ t. t ++ flat_map package_text rs) (text_short r s are.0) ∙ ap (λ t. package_text s ++ t) (texts_short rs short are.1)

as_many : (rs short : List PackageRecord) → AllZip IsShort rs short → length rs ≡ length short
as_many [] [] are = refl
as_many [] (s ∷ short) are = absurd are
as_many (r ∷ rs) [] are = absurd are
as_many (r ∷ rs) (s ∷ short) are = ap suc (as_many rs short are.1)

pub listed_short : (rs short : List PackageRecord) → AllZip IsShort rs short → listed package_text rs ≡ listed package_text short
listed_short rs short are = rw (as_many rs short are, texts_short rs short are) refl
