-- What a borrowed path shows.
use Rattle.std.specs.Prelude.{ℕ, List}
use Rattle.guppy_data.specs.declared.texts.path.Utf8Path.{Utf8Path}

-- its text, as it was given
abbrev pub path_text : Utf8Path → List ℕ
path_text p = p.text.now
