use Rattle.std.proofs.Common.{◌≡◌, ◌∙◌, sym, ap, List, [], ◌∷◌, ◌++◌, map, reverse}
use Rattle.guppy_data.specs.Path.{Part}
use Rattle.guppy_data.specs.Component.{part_shown}
use Rattle.guppy_data.specs.declared.texts.component.Component.{Component}
use Rattle.guppy_folders.specs.Places.{up}
use Rattle.guppy_folders.proofs.Ways.{pushed}
use Rattle.guppy_folders.proofs.places.go_up.Goals as goal

-- what stands last, and where `..` behind it leads
leads : (old left : List Component) (last : Component) (part : Part) → old ≡ left ++ last ∷ [] → part_shown last ≡ part
    → up (part ∷ reverse (map part_shown left)) ≡ up (reverse (map part_shown old))
leads old left last part is shown = sym (ap up (pushed left old last is ∙ ap (λ (p : Part). p ∷ reverse (map part_shown left)) shown))

pub returns-in-Some-Normal : goal.returns-in-Some-Normal
returns-in-Some-Normal c =
    leads c.args.place.now.items c.pop.new.self.items c.in-Some-Normal.field-0 (Part.Name c.in-Some-Normal.field-0-0.now) c.in-Some-Normal.ensures.items (ap part_shown c.in-Some-Normal.field-0-is)

pub returns-in_ok-push-in-Some-RootDir : goal.returns-in_ok-push-in-Some-RootDir
returns-in_ok-push-in-Some-RootDir c =
    pushed c.pop.new.self.items c.push.new.self.items Component.RootDir c.in_ok-push-in-Some-RootDir.ensures.items
    ∙ leads c.args.place.now.items c.pop.new.self.items c.in-Some-RootDir.field-0 Part.Root c.in-Some-RootDir.ensures.items (ap part_shown c.in-Some-RootDir.field-0-is)
