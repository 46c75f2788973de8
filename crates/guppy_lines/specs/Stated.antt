-- Statements without where they lie in memory.
use Rattle.guppy_lines.specs.declared.statements.Statement.{Statement as GivenStatement}
use Rattle.guppy_lines.specs.declared.statements.Statement.TheVariants.{Package, Link}
use Rattle.guppy_lines.specs.Text.{Statement, a_package, a_link}

abbrev pub statement_shown : GivenStatement → Statement
statement_shown (Package id) = a_package id.now
statement_shown (Link from to section) = a_link from.now to.now section
