use Rattle.guppy_print.proofs.objects_of_builds.push_said.Goals as goal

pub returns-in-Dependency-clause-tokens : goal.returns-in-Dependency-clause-tokens
returns-in-Dependency-clause-tokens c = rw c.in-Dependency.is c.push_member.ensures.tokens

pub returns-in-Feature-clause-tokens : goal.returns-in-Feature-clause-tokens
returns-in-Feature-clause-tokens c = rw c.in-Feature.is c.push_member-in-Feature.ensures.tokens
