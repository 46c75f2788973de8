use Rattle.std.proofs.Common.{◌∙◌, ◌∷◌, ◌++◌, [], refl, sym, ap, subst, codes, arith}
use Rattle.std.proofs.lemmas.List.{append_assoc, append-nil}
use Rattle.json.specs.Json.{string}
use Rattle.json.specs.Find.{get}
use Rattle.json.specs.Value.{value_view}
use Rattle.guppy_metadata.specs.Buffer.{links_in}
use Rattle.guppy_metadata.specs.Links.{IsLink}
use Rattle.guppy_metadata.specs.Members.{data_of}
use Rattle.guppy_metadata.proofs.FittingLists.{next_fits, whole_list}
use Rattle.guppy_metadata.proofs.Refused.{failed, no_member}
use Rattle.guppy_metadata.proofs.WrongItems.{item_refused}
use Rattle.guppy_metadata.proofs.link.add_links.Goals as goal

pub loop-index-init : goal.loop-index-init
loop-index-init c = ([], sym (append-nil (links_in c.args.links.now)), tt)

pub loop-index-preserved : goal.loop-index-preserved
loop-index-preserved c =
    let is_link = IsLink c.args.packages.packages.now c.args.from.now in
    let row = c.loop-index.invariant.0 in
    let more = c.in-Ok.ensures.added in
    let link = more.0 in
    let is : is_link (value_view c.item-item.result) link = subst (λ d. is_link d link) c.in_ok-dependency.ensures more.2 in (
      row ++ link ∷ [],
      more.1 ∙ (ap (λ front. front ++ link ∷ []) c.loop-index.invariant.1 ∙ append_assoc (links_in c.args.links.now) row (link ∷ [])),
      next_fits is_link value_view c.deref-item-items.result.now c.loop-index.index _ _ row link c.loop-index-test.true c.item-item.is c.loop-index.invariant.2 is,
    )

pub returns-in_err-dependency-clause-refused : goal.returns-in_err-dependency-clause-refused
returns-in_err-dependency-clause-refused c =
    let is_link = IsLink c.args.packages.packages.now c.args.from.now in
    let item = c.item-item.result in
    failed _ _ _ _ c.from_residual-in_err-dependency.ensures (λ e is.
    item_refused (get (codes "deps") (data_of c.args.node)) c.in_ok-items.items.now.items c.deref-item-items.result.now c.in_ok-items.ensures c.deref-item-items.ensures.value c.loop-index.index item _ c.loop-index-test.true c.item-item.is e
    is_link (value_view item) e refl (λ lacks. lacks)
    (no_member (is_link (value_view item)) (value_view item) (codes "pkg") e c.in_err-dependency.ensures (λ link holds. (string holds.resolved.id.now, holds.resolved_is.id_is))))

pub returns-in-Err-clause-refused : goal.returns-in-Err-clause-refused
returns-in-Err-clause-refused c =
    item_refused (get (codes "deps") (data_of c.args.node)) c.in_ok-items.items.now.items c.deref-item-items.result.now c.in_ok-items.ensures c.deref-item-items.ensures.value c.loop-index.index c.item-item.result _ c.loop-index-test.true c.item-item.is c.within_item.result
    (IsLink c.args.packages.packages.now c.args.from.now) _ c.in-Err.fault c.in_ok-dependency.ensures c.within_item.ensures c.in-Err.ensures.refused

pub returns-clause-added : goal.returns-clause-added
returns-clause-added c =
    let were = c.loop-index.invariant in (
      were.0,
      were.1,
      whole_list (IsLink c.args.packages.packages.now c.args.from.now) (get (codes "deps") (data_of c.args.node)) c.in_ok-items.items.now.items c.deref-item-items.result.now c.in_ok-items.ensures c.deref-item-items.ensures.value
          c.loop-index.index were.0 (let past = c.loop-index-test.false in omega arith) were.2,
    )
