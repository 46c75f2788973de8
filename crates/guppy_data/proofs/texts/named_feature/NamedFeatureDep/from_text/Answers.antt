use Rattle.std.proofs.Common.{◌∙◌, sym, ap, subst, codes, arith, ◌++◌}
use Rattle.guppy_data.proofs.Sources.{Lacks-from_find, IsCutAt-from_split, front_from_strip}
use Rattle.guppy_data.specs.ExternalSource.{IsCutAt}
use Rattle.guppy_data.specs.declared.texts.named_feature.NamedFeatureDep.TheVariants.{DependencyNamedFeature}
use Rattle.guppy_data.specs.NamedFeature.{NamesDependency}
use Rattle.guppy_data.proofs.NamedFeatures.{printed-is}
use Rattle.guppy_data.proofs.texts.named_feature.NamedFeatureDep.from_text.Goals as goal

pub returns-in-Some-clause-read : goal.returns-in-Some-clause-read
returns-in-Some-clause-read c =
    let text = c.args.text.now in
    let dependency = c.in-Some.dependency.now in
    let cut = IsCutAt-from_split (codes "/") text dependency c.in-Some.feature.now (omega arith) c.in-Some.ensures.cases in
    (dependency, subst (IsCutAt (codes "/") text dependency) (sym c.in_ok-from_str-2.ensures.ok) cut, subst (λ name. NamesDependency dependency name c.without_mark-weak.result.1) (sym c.in_ok-from_str.ensures.ok) c.without_mark-weak.ensures)

pub returns-in-Some-clause-printed : goal.returns-in-Some-clause-printed
returns-in-Some-clause-printed c =
    printed-is c.args.text.now (DependencyNamedFeature c.in_ok-from_str.field-0 c.in_ok-from_str-2.field-0 c.without_mark-weak.result.1) (returns-in-Some-clause-read c)

pub returns-in_ok-dep_name-in-Some-strip_prefix-clause-read : goal.returns-in_ok-dep_name-in-Some-strip_prefix-clause-read
returns-in_ok-dep_name-in-Some-strip_prefix-clause-read c =
    let text = c.args.text.now in
    (Lacks-from_find (codes "/") text c.in_default.ensures.cases, front_from_strip (codes "dep:") text c.in-Some-strip_prefix.dep_name.now c.in-Some-strip_prefix.ensures.cases ∙ ap (λ l. codes "dep:" ++ l) (sym c.in_ok-dep_name-in-Some-strip_prefix.ensures.ok))

pub returns-in_ok-feature-in-None-clause-read : goal.returns-in_ok-feature-in-None-clause-read
returns-in_ok-feature-in-None-clause-read c =
    let text = c.args.text.now in
    (Lacks-from_find (codes "/") text c.in_default.ensures.cases, c.in-None.ensures.cases, sym c.in_ok-feature-in-None.ensures.ok)
