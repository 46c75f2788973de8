-- What words mean, and that what is printed for a package means it alone.
use Rattle.std.proofs.Common.{◌≡◌, ◌∙◌, ℕ, Bool, true, false, cond, ◌||◌, List, [], ◌∷◌, Some, refl, sym, ap, if◌then◌else◌}
use Rattle.std.specs.List.{find}
use Rattle.std.specs.Option.{option_map_or}
use Rattle.std.specs.Str.{bytes_eq}
use Rattle.std.proofs.lemmas.Bool.{false≢true}
use Rattle.std.proofs.lemmas.Slice.Eq.{bytes_eq-Decides}
use Rattle.guppy_data.specs.declared.records.PackageRecord.{PackageRecord}
use Rattle.guppy_command.specs.Ids.{has_id, is_only, full_name_of}
use Rattle.guppy_arguments.specs.Names.{name_of, called, meant, printed, text}

-- an ID that is the only one of a list is all of it
only_one : (id : List ℕ) (ids : List (List ℕ)) → is_only id ids ≡ true → ids ≡ id ∷ []
only_one id [] only = cc
only_one id (other ∷ []) only = ap (λ i. i ∷ []) (sym ((bytes_eq-Decides id other).0 only))
only_one id (other ∷ another ∷ rest) only = cc

-- what is printed for a package means its ID alone
printed_means : (packages : List PackageRecord) (r : PackageRecord) → has_id r.id packages ≡ true → meant packages (printed packages r) ≡ r.id ∷ []
printed_means packages r has = by (is_only r.id (meant packages (name_of r))) refl (is_only r.id (meant packages (full_name_of r))) refl
  where
    by_id : (full : Bool) → is_only r.id (meant packages (full_name_of r)) ≡ full → meant packages (if full then full_name_of r else r.id) ≡ r.id ∷ []
    by_id true only = only_one r.id (meant packages (full_name_of r)) only
    by_id false only = ap (λ b. if b then r.id ∷ [] else called packages r.id) has

    by : (name : Bool) → is_only r.id (meant packages (name_of r)) ≡ name → (full : Bool) → is_only r.id (meant packages (full_name_of r)) ≡ full → meant packages (printed packages r) ≡ r.id ∷ []
    by true named full fully = ap (λ b. meant packages (if b then name_of r else (if is_only r.id (meant packages (full_name_of r)) then full_name_of r else r.id))) named ∙ only_one r.id (meant packages (name_of r)) named
    by false named full fully = ap (λ b. meant packages (if b then name_of r else (if is_only r.id (meant packages (full_name_of r)) then full_name_of r else r.id))) named
        ∙ (ap (λ b. meant packages (if b then full_name_of r else r.id)) fully ∙ by_id full fully)

-- the first package with an ID that one has
found : (packages : List PackageRecord) (id : List ℕ) → has_id id packages ≡ true → (r : PackageRecord) × (find (λ p. bytes_eq id p.id) packages ≡ Some r) × (id ≡ r.id)
found [] id has = absurd (false≢true has)
found (p ∷ rest) id has = by (bytes_eq id p.id) refl has (found rest id)
  where
    by : (same : Bool) → bytes_eq id p.id ≡ same → (same || has_id id rest) ≡ true → (has_id id rest ≡ true → (r : PackageRecord) × (find (λ p. bytes_eq id p.id) rest ≡ Some r) × (id ≡ r.id))
        → (r : PackageRecord) × (cond same (Some p) (find (λ p. bytes_eq id p.id) rest) ≡ Some r) × (id ≡ r.id)
    by true is here later = (p, refl, (bytes_eq-Decides id p.id).0 is)
    by false is here later = later here

-- what is printed for the package with an ID means that ID alone
pub text_means : (packages : List PackageRecord) (id : List ℕ) → has_id id packages ≡ true → meant packages (text packages id) ≡ id ∷ []
text_means packages id has =
    let first = found packages id has in
    ap (λ o. meant packages (option_map_or (printed packages) o id)) first.1
    ∙ (printed_means packages first.0 (ap (λ i. has_id i packages) (sym first.2) ∙ has) ∙ ap (λ i. i ∷ []) (sym first.2))

-- packages for which the same is printed have one ID
pub text_apart : (packages : List PackageRecord) (first second : List ℕ) → has_id first packages ≡ true → has_id second packages ≡ true → text packages first ≡ text packages second → first ≡ second
text_apart packages first second has_first has_second same =
    let one : first ∷ [] ≡ second ∷ [] = sym (text_means packages first has_first) ∙ (ap (meant packages) same ∙ text_means packages second has_second) in
    cc
