use Rattle.std.proofs.Common.{◌≡◌, ◌∷◌, [], ◌++◌, true, false, Option, None, Some, List, ℕ, sym}
use Rattle.std.specs.Borrow.{Bor}
use Rattle.std.specs.Option.{option_copied}
use Rattle.std.specs.Prelude.{is_some}
use Rattle.std.proofs.lemmas.Bool.{false≢true}
use Rattle.json.specs.Json.{Json, value}
use Rattle.json.proofs.Grammar.{left_some}
use Rattle.guppy_metadata.specs.Target.{IsLibraryName, IsFirstLibrary}
use Rattle.guppy_metadata.proofs.Libraries.{library_stays, library_next}
use Rattle.guppy_metadata.proofs.Turns.{of_ok, if_ok}
use Rattle.guppy_metadata.proofs.target.read_target.Goals as goal

-- behind a library that was found, another target changes nothing
found : (library : Option (Bor (List ℕ))) → is_some library ≡ true → (told : Json) (targets : List Json)
    → IsFirstLibrary targets (option_copied library) → IsFirstLibrary (targets ++ told ∷ []) (option_copied library)
found None none told targets is = absurd (false≢true none)
found (Some name) some told targets is = library_stays targets told name.now is

-- where none was found, the next target counts
looked : (library : Option (Bor (List ℕ))) → is_some library ≡ false → (name : Option (List ℕ)) (told : Json) → IsLibraryName told name → (targets : List Json)
    → IsFirstLibrary targets (option_copied library) → IsFirstLibrary (targets ++ told ∷ []) name
looked None none name told named targets is = library_next targets told name is named
looked (Some library) some name told named targets is = absurd (false≢true (sym some))

pub returns-then-is_some : goal.returns-then-is_some
returns-then-is_some c =
    let skipped = left_some (value 124 c.args.reader.now) c.skip_value.new.self (of_ok _ _ c.skip_value.result _ c.in_ok-ok.ensures.value c.skip_value.ensures.value) in (
      skipped.0,
      skipped.1,
      found c.args.library (sym c.if-is_some.ensures) skipped.0,
    )

pub returns : goal.returns
returns c =
    if_ok _ _ _ c.library_name.result c.ok-2.result c.ok-2.ensures.value
    (λ name is. (_, c.in_ok-read_object.ensures, looked c.args.library (sym c.if-is_some.ensures) (option_copied name) _ is)) c.library_name.ensures
