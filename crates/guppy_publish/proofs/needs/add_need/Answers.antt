use Rattle.std.proofs.Common.{◌≡◌, ◌∙◌, ap, inr, sym, subst, true, false, None}
use Rattle.std.specs.Prelude.{is_some}
use Rattle.guppy_publish.specs.Needs.{IsLinked}
use Rattle.guppy_publish.proofs.needs.add_need.Goals as goal

pub returns-clause-linked : goal.returns-clause-linked
returns-clause-linked c = inr (record {
  missing = λ there.
      let no : false ≡ true = c.in_default.ensures.linked.1 (subst (λ links. IsLinked links (c.args.from.now, c.args.to.now)) (sym c.as_slice.ensures.value) there) in
      absurd (cc no);
  link = c.in_ok-need_of.field-0;
  links_are = c.in_ok-push.ensures.items;
  ends_are = c.in_ok-need_of.ensures.0;
  is_need = c.in_ok-need_of.ensures.1;
})
