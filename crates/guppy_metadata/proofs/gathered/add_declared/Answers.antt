use Rattle.std.proofs.lemmas.Result.{on_ok_weaker}
use Rattle.guppy_data.specs.declared.texts.dependency_kind.DependencyKind.TheVariants.{Normal, Development, Build}
use Rattle.guppy_metadata.proofs.GatheredLinks.{gathered_more, section_kept}
use Rattle.guppy_metadata.proofs.gathered.add_declared.Goals as goal

pub returns-in-Normal-clause-gathered : goal.returns-in-Normal-clause-gathered
returns-in-Normal-clause-gathered c =
    on_ok_weaker c.add_to_section.result
    (λ adds before were. gathered_more before c.args.declared.now c.args.link.now _ Normal c.in-Normal.is
    (adds _ were.normal) (section_kept _ _ were.build) (section_kept _ _ were.dev) (rw c.take.ensures.value at c.in_ok-link.ensures) (rw c.take-2.ensures.value at c.in_ok-link-2.ensures) were)
    c.add_to_section.ensures.gathered

pub returns-in-Build-clause-gathered : goal.returns-in-Build-clause-gathered
returns-in-Build-clause-gathered c =
    on_ok_weaker c.add_to_section-in-Build.result
    (λ adds before were. gathered_more before c.args.declared.now c.args.link.now _ Build c.in-Build.is
    (section_kept _ _ were.normal) (adds _ were.build) (section_kept _ _ were.dev) (rw c.take.ensures.value at c.in_ok-link.ensures) (rw c.take-2.ensures.value at c.in_ok-link-2.ensures) were)
    c.add_to_section-in-Build.ensures.gathered

pub returns-in-Development-clause-gathered : goal.returns-in-Development-clause-gathered
returns-in-Development-clause-gathered c =
    on_ok_weaker c.add_to_section-in-Development.result
    (λ adds before were. gathered_more before c.args.declared.now c.args.link.now _ Development c.in-Development.is
    (section_kept _ _ were.normal) (section_kept _ _ were.build) (adds _ were.dev) (rw c.take.ensures.value at c.in_ok-link.ensures) (rw c.take-2.ensures.value at c.in_ok-link-2.ensures) were)
    c.add_to_section-in-Development.ensures.gathered
