-- A text that grows by a line, item by item.
use Rattle.std.proofs.Common.{◌≡◌, ◌∙◌, sym, ap, ℕ, ◌+◌, ◌<◌, List, [], ◌∷◌, ◌++◌, length, map, take, get_or, codes, append_assoc}
use Rattle.std.specs.List.{flat_map}
use Rattle.std.proofs.lemmas.List.{append-nil, map_push, take_more}
use Rattle.std.proofs.lemmas.List.Concat.{flat_map-append}
use Rattle.guppy_command.specs.Printed.{line_of, lines_of}

-- what is viewed of the items up to the next, which is this one
pub viewed_more : {X Y : Type 0} (view : X → Y) (items : List X) (i : ℕ) (x : X) → i < length items → x ≡ get_or items i x → map view (take (i + 1) items) ≡ map view (take i items) ++ view x ∷ []
viewed_more view items i x within is = ap (map view) (take_more items i x within) ∙ map_push view (take i items) (get_or items i x) ∙ ap (λ y. map view (take i items) ++ view y ∷ []) (sym is)

-- their lines, with that of one more
pub lines_more : {Y : Type 0} (end : List ℕ) (text : Y → List ℕ) (ys : List Y) (y : Y) → lines_of end (map text (ys ++ y ∷ [])) ≡ lines_of end (map text ys) ++ line_of end (text y)
lines_more end text ys y = ap (lines_of end) (map_push text ys y) ∙ flat_map-append (line_of end) (map text ys) (text y ∷ []) ∙ ap (λ l. lines_of end (map text ys) ++ l) (append-nil (line_of end (text y)))

-- these texts, each with an arrow behind it
abbrev pub arrowed : List (List ℕ) → List ℕ
arrowed texts = flat_map (λ text. text ++ codes " -> ") texts

-- what the packages up to the next are called, with one more
pub arrows_more : (call : List ℕ → List ℕ) (ids : List (List ℕ)) (i : ℕ) (id : List ℕ) → i < length ids → id ≡ get_or ids i id
    → arrowed (map call (take (i + 1) ids)) ≡ arrowed (map call (take i ids)) ++ (call id ++ codes " -> ")
arrows_more call ids i id within is =
    ap arrowed (viewed_more call ids i id within is)
    ∙ flat_map-append (λ text. text ++ codes " -> ") (map call (take i ids)) (call id ∷ [])
    ∙ ap (λ more. arrowed (map call (take i ids)) ++ more) (append-nil (call id ++ codes " -> "))

-- a text that grows by two words, parted by a space, the rest of a line, and the line's end
pub row_line : (before first space second rest last : List ℕ) → ((((before ++ first) ++ space) ++ second) ++ rest) ++ last ≡ before ++ ((first ++ ((space ++ second) ++ rest)) ++ last)
row_line before first space second rest last = simp append_assoc
