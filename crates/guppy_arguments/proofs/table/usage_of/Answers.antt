use Rattle.std.proofs.Common.{◌≡◌, ◌∙◌, refl, ℕ, List, [], ◌∷◌, Bor, map, sym, ap, inl, inr, rules, option_map}
use Rattle.std.specs.List.{find}
use Rattle.std.specs.Option.{option_map_or}
use Rattle.std.specs.Str.{bytes_eq}
use Rattle.std.proofs.lemmas.Bool.{cases_Bool}
use Rattle.std.proofs.lemmas.Iterator.{YieldsList-from_slice}
use Rattle.std.proofs.lemmas.Iterator.Search.{find_from_yields_List}
use Rattle.guppy_arguments.proofs.table.usage_of.Goals as goal

abbrev Row : Type 0
Row = Bor (List ℕ) × Bor (List ℕ) × Bor (List ℕ)

abbrev shown : Row → List ℕ × List ℕ
shown row = (row.0.now, row.1.now)

-- what is found among rows is found among what they show
found_shown : (command : List ℕ) (rows : List Row) → option_map_or (λ (row : Row). row.1.now) (find (λ row. bytes_eq row.0.now command) rows) []
    ≡ option_map_or (λ (usage : List ℕ × List ℕ). usage.1) (find (λ usage. bytes_eq usage.0 command) (map shown rows)) []
found_shown command [] = refl
found_shown command (row ∷ rows) = elim (cases_Bool (bytes_eq row.0.now command)) [
  | inl is ↦ rw is refl
  | inr not ↦ rw not (found_shown command rows)
]

pub returns-in-Some : goal.returns-in-Some
returns-in-Some c =
    let found = find_from_yields_List (λ row. bytes_eq row.0.now c.args.command.now) _ _ _ c.find.ensures.ran (YieldsList-from_slice c.iter.result.rest.now refl) (λ x b q k. search rules) in
    ap (λ o. option_map_or (λ (row : Row). row.1.now) o []) (sym (ap (option_map (λ row. row.now)) c.in-Some.is) ∙ found) ∙ found_shown c.args.command.now c.iter.result.rest.now
    ∙ ap (λ (rows : List Row). option_map_or (λ (usage : List ℕ × List ℕ). usage.1) (find (λ usage. bytes_eq usage.0 c.args.command.now) (map shown rows)) []) c.iter.ensures.rest

pub returns-in-None : goal.returns-in-None
returns-in-None c =
    let found = find_from_yields_List (λ row. bytes_eq row.0.now c.args.command.now) _ _ _ c.find.ensures.ran (YieldsList-from_slice c.iter.result.rest.now refl) (λ x b q k. search rules) in
    ap (λ o. option_map_or (λ (row : Row). row.1.now) o []) (sym (ap (option_map (λ row. row.now)) c.in-None.is) ∙ found) ∙ found_shown c.args.command.now c.iter.result.rest.now
    ∙ ap (λ (rows : List Row). option_map_or (λ (usage : List ℕ × List ℕ). usage.1) (find (λ usage. bytes_eq usage.0 c.args.command.now) (map shown rows)) []) c.iter.ensures.rest
