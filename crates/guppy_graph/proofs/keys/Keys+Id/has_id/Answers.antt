use Rattle.std.proofs.Common.{◌≡◌, ◌∙◌, sym, Some, None}
use Rattle.std.specs.Cmp.Lexicographic.{bytes_decides}
use Rattle.guppy_graph.specs.Ids.{id_at}
use Rattle.guppy_graph.proofs.PackageIds.{keyless, key_is, key_has}
use Rattle.guppy_graph.proofs.keys.Keys+Id.has_id.Goals as goal

pub returns-in-Some : goal.returns-in-Some
returns-in-Some c =
    let packages = c.args.self.now.packages.now in
    let p = c.args.position in
    let id = c.args.id.now in
    let own = c.in-Some.own.now in
    let is : Some own ≡ id_at packages p = rw c.in-Some.is at c.text_at.ensures in
    let decides = bytes_decides own id in (
      λ same. key_has packages p id own is (decides.0 (sym c.eq.ensures ∙ same)),
      λ has. c.eq.ensures ∙ decides.1 (key_is packages p id own is has),
    )

pub returns-in-None : goal.returns-in-None
returns-in-None c =
    let packages = c.args.self.now.packages.now in
    let p = c.args.position in
    let id = c.args.id.now in
    let is : None ≡ id_at packages p = rw c.in-None.is at c.text_at.ensures in
    (λ no. absurd (cc), λ has. absurd (keyless packages p id is has))
