use Rattle.guppy_features.proofs.dependencies.add_link.Goals as goal

pub returns-in_err-add_section-2-clause-within : goal.returns-in_err-add_section-2-clause-within
returns-in_err-add_section-2-clause-within c = λ n from to old.
    c.add_section-2.ensures.within n from to (c.add_section.ensures.within n from to old)

pub returns-clause-within : goal.returns-clause-within
returns-clause-within c = λ n from to old.
    c.add_section-3.ensures.within n from to (c.add_section-2.ensures.within n from to (c.add_section.ensures.within n from to old))
