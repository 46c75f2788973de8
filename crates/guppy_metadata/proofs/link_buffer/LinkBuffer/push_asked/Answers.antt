use Rattle.std.proofs.Common.{◌∙◌, ◌∷◌, ◌++◌, [], sym, ap}
use Rattle.std.proofs.lemmas.List.{take_more_set}
use Rattle.guppy_metadata.specs.Fits.{fits}
use Rattle.guppy_metadata.proofs.MatchedDependencies.{picked_first}
use Rattle.guppy_metadata.proofs.link_buffer.LinkBuffer.push_asked.Goals as goal

pub add_fitting-requires : goal.add_fitting-requires
add_fitting-requires c = c.requires.fitting

pub returns : goal.returns
returns c =
    let wanted = c.args.wanted.now in
    let link = c.add_fitting.new.link in
    let bare = c.in_ok-set_bare.ensures in
    let first = c.args.first.now in
    let parts = picked_first (fits wanted.asking.now wanted.resolved.now wanted.needed.now) c.args.declared.now first (sym c.requires.first) c.requires.fitting in (
      link,
      take_more_set c.make_room.new.records.items c.args.self.now.len link c.in_ok-make_room.ensures.room ∙ ap (λ front. front ++ link ∷ []) c.make_room.ensures.first,
      c.add_fitting.ensures.joins _ _ _ bare.joins,
      record {
        first = first;
        others = parts.0;
        parts = parts.1;
        named = c.add_fitting.ensures.named first record {
          dep_name = bare.dep_name_is ∙ c.dep_name.ensures;
          requirement = bare.requirement_is;
        };
        gathered = c.in_ok-add_fitting.ensures.gathered bare.gathered;
      },
    )
