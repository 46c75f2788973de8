-- Paths without `./` at their front.
use Rattle.std.proofs.Common.{◌≡◌, ◌≢◌, ◌∙◌, ℕ, List, ◌++◌, sym, ap, codes, take, drop, cond}
use Rattle.std.specs.Str.{bytes_eq}
use Rattle.std.proofs.lemmas.List.{take-append-drop}
use Rattle.std.proofs.lemmas.Bool.{false_from_ne_true}
use Rattle.std.proofs.lemmas.Slice.Eq.{bytes_eq-Decides}
use Rattle.guppy_command.specs.Command.{from_root}

pub from_root-strips : (path rest : List ℕ) → path ≡ codes "./" ++ rest → rest ≡ from_root path
from_root-strips path rest is = ap from_root (sym is)

pub from_root-keeps : (path : List ℕ) → ((rest : List ℕ) → path ≢ codes "./" ++ rest) → path ≡ from_root path
from_root-keeps path keeps =
    let no : bytes_eq (take 2 path) (codes "./") ≡ _ = false_from_ne_true (bytes_eq (take 2 path) (codes "./")) (λ t. keeps (drop 2 path) (sym (take-append-drop 2 path) ∙ ap (λ l. l ++ drop 2 path) ((bytes_eq-Decides (take 2 path) (codes "./")).0 t))) in
    sym (ap (λ b. cond b (drop 2 path) path) no)
