use Rattle.std.proofs.Common.{rules}
use Rattle.guppy_dot.proofs.EscapedTexts.{escaped_other}
use Rattle.guppy_dot.proofs.quoted.push_character.Goals as goal

pub returns-else-character-eq92 : goal.returns-else-character-eq92
returns-else-character-eq92 c = rw (escaped_other c.args.character c.if-character-eq34.false c.if-character-eq92.false) (search rules)
