use Rattle.std.proofs.Common.{◌≡◌, ◌∙◌, false, codes, sym}
use Rattle.std.specs.Str.{bytes_eq}
use Rattle.json.specs.Json.{value}
use Rattle.json.proofs.Grammar.{left_some}
use Rattle.guppy_metadata.proofs.Nodes.{links_kept}
use Rattle.guppy_metadata.proofs.ObjectMembers.{kept}
use Rattle.guppy_metadata.proofs.Options.{if_some}
use Rattle.guppy_metadata.proofs.Turns.{of_ok}
use Rattle.guppy_metadata.proofs.node.read_member.Goals as goal

pub returns-in_ok-ok : goal.returns-in_ok-ok
returns-in_ok-ok c =
    let name = c.args.name.now in
    let node = c.args.node.now in
    let skipped = left_some (value 124 c.args.reader.now) c.skip_value.new.self (of_ok _ _ c.skip_value.result _ c.in_ok-ok.ensures.value c.skip_value.ensures.value) in
    let told = skipped.0 in
    let no_id : bytes_eq name (codes "id") ≡ false = sym c.if-eq.ensures in
    let no_deps : bytes_eq name (codes "deps") ≡ false = sym c.if-eq-2.ensures in (
      told,
      skipped.1,
      λ d e front row adds are tells. (
        row,
        are,
        record {
          from_is = if_some node.from (λ from is. sym (kept d e name told adds (codes "id") no_id) ∙ is) tells.from_is;
          links_are = links_kept c.args.packages.packages.now d e row node.has_links (kept d e name told adds (codes "id") no_id) (kept d e name told adds (codes "deps") no_deps) tells.links_are;
        },
      ),
    )
