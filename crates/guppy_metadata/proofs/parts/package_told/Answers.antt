use Rattle.std.proofs.Common.{◌∙◌, ap, subst, IfSome}
use Rattle.json.specs.Find.{get}
use Rattle.json.proofs.Trees.{view-Object}
use Rattle.guppy_metadata.specs.Package.{AreDeclared}
use Rattle.guppy_metadata.proofs.Turns.{if_ok, of_ok}
use Rattle.guppy_metadata.proofs.parts.package_told.Goals as goal

pub returns : goal.returns
returns c =
    if_ok _ _ _ c.add_package.result c.ok-3.result c.ok-3.ensures.value
    (λ _ added. (
      added.0,
      added.1,
      λ d tells. added.2 d (λ name own. ap (get name) (view-Object c.args.parts.others) ∙ tells.others_are name own)
          (of_ok _ _ c.text.result c.in_ok-id.id c.in_ok-id.ensures.value c.text.ensures)
          (of_ok _ _ c.optional_text.result c.in_ok-source.source c.in_ok-source.ensures.value c.optional_text.ensures)
          (c.in_ok-library.ensures d (λ name own. ap (get name) (view-Object c.args.parts.others) ∙ tells.others_are name own) tells.library_is)
          (subst (λ o. IfSome o (λ declared. AreDeclared c.args.details d declared.items)) c.in_ok-declared.was tells.declared_are),
    )) c.add_package.ensures.added
