-- The sections of a manifest that a link stands for.
use Rattle.guppy_data.specs.declared.texts.dependency_kind.DependencyKind.{DependencyKind}
use Rattle.guppy_data.specs.declared.texts.dependency_kind.DependencyKind.TheVariants.{Normal, Development, Build}
use Rattle.guppy_data.specs.declared.records.DependencyReqImpl.{DependencyReqImpl}
use Rattle.guppy_data.specs.declared.records.LinkRecord.{LinkRecord}

-- the dependency as one of the kind
abbrev pub section_of : DependencyKind → LinkRecord → DependencyReqImpl
section_of Normal r = r.normal
section_of Development r = r.dev
section_of Build r = r.build
