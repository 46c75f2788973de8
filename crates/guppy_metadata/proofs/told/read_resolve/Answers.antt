use Rattle.std.proofs.Common.{[], ◌∷◌, ◌++◌, Some, None, IsSomeAnd, codes, sym, subst, arith}
use Rattle.json.specs.Json.{value}
use Rattle.json.proofs.Grammar.{left_some}
use Rattle.guppy_metadata.specs.Links.{AreLinksOfList}
use Rattle.guppy_metadata.proofs.LetGo.{none_let, all_further, positions_kept, links_of_list_whole}
use Rattle.guppy_metadata.proofs.ObjectMembers.{kept, put}
use Rattle.guppy_metadata.proofs.Options.{if_some}
use Rattle.guppy_metadata.proofs.Turns.{of_ok, key_found, member_takes, no_member_read, member_read, object_of, object_told, object_with}
use Rattle.guppy_metadata.proofs.told.read_resolve.Goals as goal

pub loop-links-init : goal.loop-links-init
loop-links-init g c = ([], no_member_read 126 _, tt, none_let c.args.packages.now)

pub read_nodes-requires : goal.read_nodes-requires
read_nodes-requires g c = positions_kept c.args.packages.now c.loop-links.packages c.args.positions.now c.loop-links.invariant.3 c.requires

pub loop-links-smaller-then-eq : goal.loop-links-smaller-then-eq
loop-links-smaller-then-eq g c =
    let more = c.in_ok-read_nodes.ensures.links in
    member_takes 126 c.loop-links.reader _ _ (Some c.in-Some.name.now) more.0 (key_found _ _ _ _ (Some c.in-Some.name) c.in_ok-name.ensures.value c.next_key.ensures.value c.in-Some.is) more.1

pub loop-links-preserved-then-eq : goal.loop-links-preserved-then-eq
loop-links-preserved-then-eq g c =
    let l = c.loop-links in
    let were = l.invariant in
    let k = c.in-Some.name.now in
    let s = c.next_key.new.self in
    let key = key_found _ _ _ _ (Some c.in-Some.name) c.in_ok-name.ensures.value c.next_key.ensures.value c.in-Some.is in
    let more = c.in_ok-read_nodes.ensures.links in
    let links = more.2 in
    let rows = were.0 ++ (k, more.0) ∷ [] in (
      rows,
      member_read 126 _ were.0 l.reader s _ k more.0 were.1 key more.1,
      (
        links,
        more.3,
        subst (λ o. IsSomeAnd o (λ nodes. AreLinksOfList c.args.packages.now nodes links))
            (put (object_of were.0) (object_of rows) k more.0 (object_with were.0 k more.0) (codes "nodes") (sym c.if-eq.ensures))
            (links_of_list_whole c.args.packages.now l.packages were.3 more.0 links more.4),
      ),
      all_further c.args.packages.now l.packages _ were.3 c.in_ok-read_nodes.ensures.left,
    )

pub loop-links-preserved : goal.loop-links-preserved
loop-links-preserved g c =
    let l = c.loop-links in
    let were = l.invariant in
    let k = c.in-Some.name.now in
    let s = c.next_key.new.self in
    let r = c.skip_value.new.self in
    let key = key_found _ _ _ _ (Some c.in-Some.name) c.in_ok-name.ensures.value c.next_key.ensures.value c.in-Some.is in
    let skipped = left_some (value 126 s) r (of_ok _ _ c.skip_value.result _ c.in_ok-ok.ensures.value c.skip_value.ensures.value) in
    let told = skipped.0 in
    let rows = were.0 ++ (k, told) ∷ [] in (
      rows,
      member_read 126 _ were.0 l.reader s r k told were.1 key skipped.1,
      if_some l.links
          (λ read are. (
            are.0,
            are.1,
            subst (λ o. IsSomeAnd o (λ nodes. AreLinksOfList c.args.packages.now nodes are.0))
                (kept (object_of were.0) (object_of rows) k told (object_with were.0 k told) (codes "nodes") (sym c.if-eq.ensures)) are.2,
          )) were.2,
      were.3,
    )

pub returns-clause-links : goal.returns-clause-links
returns-clause-links g c =
    let l = c.loop-links in
    let were = l.invariant in
    let r = c.next_key.new.self in
    let closed = key_found _ _ _ _ None c.in_ok-name.ensures.value c.next_key.ensures.value c.in_default-2.is in
    if_some l.links (λ read are. (object_of were.0, object_told 127 _ c.next.new.self _ were.0 l.reader r (omega arith) c.in-Some-BeginObject.ensures.value c.in-Some-BeginObject.field-0-is were.1 closed, are.0, are.1, are.2)) were.2
