-- The order of packages by name, version and ID.
use Rattle.std.proofs.Common.{◌≡◌, ◌≢◌, ◌∙◌, refl, sym, ap, subst, ℕ, List, true, false, Option, Some, None}
use Rattle.std.specs.Prelude.{IsSomeAnd}
use Rattle.std.specs.Cmp.{IsTotalOrder}
use Rattle.std.specs.Cmp.Lexicographic.{slice_cmp, options_total}
use Rattle.std.specs.Option.{option_cmp}
use Rattle.std.specs.Ordering.{nat_cmp, is_lt, ordering_then, ordering_reverse}
use Rattle.std.specs.String.{string_bytes}
use Rattle.std.specs.declared.cmp.Ordering.{Ordering}
use Rattle.std.specs.declared.cmp.Ordering.TheVariants.{Less, Greater}
use Rattle.std.proofs.lemmas.Cmp.{then_total, on_total, nat_list_cmp_total}
use Rattle.std.proofs.lemmas.Map.Lookups.{exact_bytes}
use Rattle.semver.specs.Eval.{precedence_cmp}
use Rattle.semver.specs.OrderLaws.{precedence_total}
use Rattle.semver.specs.declared.Version.{Version}
use Rattle.guppy_data.specs.declared.records.PackageRecord.{PackageRecord}
use Rattle.guppy_graph.proofs.Lookups.{not_less, equal_of_both}
use Rattle.guppy_extras.specs.Duplicates.{by_name}

pub by_name_total : IsTotalOrder by_name
by_name_total = then_total (then_total (on_total (λ (r : PackageRecord). string_bytes r.name) nat_list_cmp_total)
    (on_total (λ (r : PackageRecord). r.version) precedence_total)) (on_total (λ (r : PackageRecord). r.id) nat_list_cmp_total)

pub records_total : IsTotalOrder (option_cmp by_name)
records_total = options_total by_name_total

-- what doesn't come before isn't behind the other way round
pub not_behind : {K : Type 0} {R : K → K → Ordering} → IsTotalOrder R → (x y : K) → is_lt (R y x) ≡ false → R x y ≢ Greater
not_behind {R = R} total x y not_before greater =
    let less : R y x ≡ Less = total.antisymm y x ∙ ap ordering_reverse greater in
    let e : true ≡ false = sym (ap is_lt less) ∙ not_before in
    absurd (cc)

-- what is read of two records compares them
pub compared : (a b : Option PackageRecord) (name_a name_b id_a id_b : List ℕ) (version_a version_b : Version)
    → IsSomeAnd a (λ r. name_a ≡ string_bytes r.name) → IsSomeAnd b (λ r. name_b ≡ string_bytes r.name)
    → IsSomeAnd a (λ r. version_a ≡ r.version) → IsSomeAnd b (λ r. version_b ≡ r.version)
    → IsSomeAnd a (λ r. id_a ≡ r.id) → IsSomeAnd b (λ r. id_b ≡ r.id)
    → ordering_then (ordering_then (slice_cmp nat_cmp name_a name_b) (precedence_cmp version_a version_b)) (slice_cmp nat_cmp id_a id_b) ≡ option_cmp by_name a b
compared None b na nb ia ib va vb h1 h2 h3 h4 h5 h6 = absurd h1
compared (Some r) None na nb ia ib va vb h1 h2 h3 h4 h5 h6 = absurd h2
compared (Some r) (Some s) na nb ia ib va vb h1 h2 h3 h4 h5 h6 = rw (h1, h2, h3, h4, h5, h6) refl

abbrev names : PackageRecord → PackageRecord → Ordering
names r s = slice_cmp nat_cmp (string_bytes r.name) (string_bytes s.name)

not_before_by_name : (r s : PackageRecord) → is_lt (by_name r s) ≡ false → is_lt (names r s) ≡ false
not_before_by_name r s h =
    not_less (names r s) (precedence_cmp r.version s.version)
    (not_less (ordering_then (names r s) (precedence_cmp r.version s.version)) (slice_cmp nat_cmp r.id s.id) h)

-- a package between two of one name has that name
pub name_between : (r s t : PackageRecord) → string_bytes r.name ≡ string_bytes t.name → is_lt (by_name s r) ≡ false → is_lt (by_name t s) ≡ false → string_bytes s.name ≡ string_bytes t.name
name_between r s t same from_r to_t =
    let low : is_lt (names s t) ≡ false = subst (λ name. is_lt (slice_cmp nat_cmp (string_bytes s.name) name) ≡ false) same (not_before_by_name s r from_r) in
    let high : is_lt (names t s) ≡ false = not_before_by_name t s to_t in
    let turned : names t s ≡ ordering_reverse (names s t) = nat_list_cmp_total.antisymm (string_bytes t.name) (string_bytes s.name) in
    exact_bytes (string_bytes s.name) (string_bytes t.name) (equal_of_both (names s t) low (rw turned at high))
