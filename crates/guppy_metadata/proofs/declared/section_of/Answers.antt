use Rattle.std.specs.Option.{option_copied}
use Rattle.guppy_metadata.specs.Members.{data_of}
use Rattle.guppy_metadata.proofs.Refused.{refused}
use Rattle.guppy_metadata.proofs.SectionNames.{name_told, section_told, name_has}
use Rattle.guppy_metadata.proofs.declared.section_of.Goals as goal

pub returns-in_err-name : goal.returns-in_err-name
returns-in_err-name c = refused _ _ _ c.from_residual.ensures (name_told (data_of c.args.object)) c.in_err-name.ensures

pub returns-in-Some : goal.returns-in-Some
returns-in-Some c = section_told (data_of c.args.object) (option_copied c.in_ok-name.name) c.in_ok-name.ensures c.in-Some.section c.in-Some.ensures

pub returns-in-None : goal.returns-in-None
returns-in-None c = λ _ section is. c.in-None.ensures section (name_has (data_of c.args.object) (option_copied c.in_ok-name.name) c.in_ok-name.ensures section is)
