-- Texts that are joined, those that a sorted set lists, and lines.
use Rattle.std.proofs.Common.{◌≡◌, ◌∙◌, ◌↔◌, ◌⊎◌, ⊎_elim, ◌++◌, ap, refl, ℕ, Bool, true, List, [], ◌∷◌, map, Contains, sym, subst}
use Rattle.std.specs.List.{AllByRecursion, flat_map, join_by}
use Rattle.std.specs.List.Sorted.{IsStrictlySortedBy}
use Rattle.std.specs.declared.cmp.Ordering.{Ordering}
use Rattle.std.specs.declared.cmp.Ordering.TheVariants.{Less}
use denote.Ref.{Bor}
use Rattle.guppy_data.specs.Sorted.{KeepsUpTo}
use Rattle.guppy_data.specs.declared.records.PackageRecord.{PackageRecord}
use Rattle.guppy_command.specs.declared.options.Options.{Options}
use Rattle.guppy_command.specs.declared.options.OutputFormat.{OutputFormat}
use Rattle.guppy_command.specs.declared.options.OutputFormat.TheVariants.{Lines, Flags}
use Rattle.json.specs.Json.{Json}
use Rattle.guppy_data.proofs.Mapped.{Contains-map, from_map}
use Rattle.guppy_print.specs.Format.{Format}
use Rattle.guppy_print.specs.Printed.{on_lines, told_in}

behind : (sep : List ℕ) (texts : List (Bor (List ℕ))) → flat_map (λ t. sep ++ t.now) texts ≡ flat_map (λ t. sep ++ t) (map (λ t. t.now) texts)
behind sep [] = refl
behind sep (t ∷ texts) = ap (λ rest. (sep ++ t.now) ++ rest) (behind sep texts)

-- texts are joined by what they read
pub joined_texts : (sep : List ℕ) (texts : List (Bor (List ℕ))) → join_by (λ t. t.now) sep texts ≡ join_by (λ t. t) sep (map (λ t. t.now) texts)
joined_texts sep [] = refl
joined_texts sep (t ∷ texts) = ap (λ rest. t.now ++ rest) (behind sep texts)

-- a list and what a sorted set keeps of it show the same IDs
pub kept_ids : (eq : Bor (List ℕ) → Bor (List ℕ) → Bool) → ((x y : Bor (List ℕ)) → eq x y ≡ true → x.now ≡ y.now) → (xs ys : List (Bor (List ℕ))) → KeepsUpTo eq xs ys
    → (id : List ℕ) → Contains (map (λ r. r.now) ys) id ↔ Contains (map (λ r. r.now) xs) id
kept_ids eq exact xs ys kept id = (
  λ h. let y = from_map (λ (r : Bor (List ℕ)). r.now) ys id h in
      subst (Contains (map (λ r. r.now) xs)) y.2 (Contains-map (λ (r : Bor (List ℕ)). r.now) xs y.0 (kept.no_other y.0 y.1)),
  λ h. let x = from_map (λ (r : Bor (List ℕ)). r.now) xs id h in
      let y = kept.each x.0 x.1 in
      subst (Contains (map (λ r. r.now) ys)) (sym (exact x.0 y.1 y.4) ∙ x.2) (Contains-map (λ (r : Bor (List ℕ)). r.now) ys y.1 (y.0, y.2, y.3)),
)

all_now : {X Y : Type 0} (f : X → Y) (P : Y → Type 0) (xs : List X) → AllByRecursion (λ x. P (f x)) xs → AllByRecursion P (map f xs)
all_now f P [] all = tt
all_now f P (x ∷ xs) all = (all.0, all_now f P xs all.1)

-- what is strictly sorted by what f reads of it reads strictly sorted
pub IsStrictlySortedBy-map : {X Y : Type 0} (f : X → Y) (cmp : Y → Y → Ordering) (xs : List X) → IsStrictlySortedBy (λ x y. cmp (f x) (f y)) xs → IsStrictlySortedBy cmp (map f xs)
unfolding IsStrictlySortedBy
IsStrictlySortedBy-map f cmp [] sorted = tt
IsStrictlySortedBy-map f cmp (x ∷ xs) sorted = (all_now f (λ y. cmp (f x) y ≡ Less) xs sorted.0, IsStrictlySortedBy-map f cmp xs sorted.1)

-- the lines are told where the format is another one than JSON
pub lines_told : {Fault : Type 0} (format : Format Fault) (options : Options) (packages : List PackageRecord) (f : OutputFormat) → (f ≡ Lines) ⊎ (f ≡ Flags) → (value : Json) (texts : List (List ℕ))
    → on_lines format options packages texts ≡ told_in format options packages f value texts
lines_told format options packages f is value texts = ⊎_elim (λ lines. rw lines refl) (λ flags. rw flags refl) is
