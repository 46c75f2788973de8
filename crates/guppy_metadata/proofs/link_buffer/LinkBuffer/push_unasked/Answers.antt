use Rattle.std.proofs.Common.{◌≡◌, ◌∙◌, List, [], ◌∷◌, ◌++◌, map, refl, ap}
use Rattle.std.proofs.lemmas.List.{take_more_set}
use Rattle.semver.specs.Identifiers.{comparator_view}
use Rattle.semver.specs.declared.Comparator.{Comparator}
use Rattle.guppy_metadata.proofs.link_buffer.LinkBuffer.push_unasked.Goals as goal

-- where nothing is seen there is nothing
none_seen : (xs : List Comparator) → map comparator_view xs ≡ [] → xs ≡ []
none_seen [] is = refl
none_seen (x ∷ xs) is = cc

pub returns : goal.returns
returns c =
    let link = c.set_bare.new.link in
    let bare = c.in_ok-set_bare.ensures in (
      link,
      take_more_set c.make_room.new.records.items c.args.self.now.len link c.in_ok-make_room.ensures.room ∙ ap (λ front. front ++ link ∷ []) c.make_room.ensures.first,
      bare.joins,
      record {
        dep_name = bare.dep_name_is;
        requirement = none_seen _ (bare.requirement_is ∙ ap (map comparator_view) c.star-any.ensures);
        gathered = bare.gathered;
      },
    )
