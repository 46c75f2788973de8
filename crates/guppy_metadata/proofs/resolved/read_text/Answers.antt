use Rattle.std.proofs.Common.{◌∙◌, ◌∷◌, ap}
use Rattle.json.specs.Json.{value}
use Rattle.json.specs.Reads.{token_of}
use Rattle.guppy_metadata.proofs.Turns.{text_read}
use Rattle.guppy_metadata.proofs.resolved.read_text.Goals as goal

pub returns-in-Some-String : goal.returns-in-Some-String
returns-in-Some-String c =
    ap (value 122) (c.in-Some-String.ensures.value ∙ ap (λ token. token_of token ∷ c.next.new.self) c.in-Some-String.field-0-is) ∙ text_read 122 c.in-Some-String.text.now c.next.new.self
