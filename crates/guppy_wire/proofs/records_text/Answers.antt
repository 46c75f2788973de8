use Rattle.std.proofs.Common.{◌≡◌, ◌∙◌, ◌++◌, sym, ap, subst, string_bytes}
use Rattle.guppy_wire.specs.Link.{AreTexts, link_text}
use Rattle.guppy_wire.specs.Package.{package_text}
use Rattle.guppy_wire.specs.Parts.{field, listed}
use Rattle.guppy_wire.specs.Wire.{AreAllDetails, workspace_text}
use Rattle.guppy_wire.proofs.AllDetails.{all_placed, listed_short}
use Rattle.guppy_wire.proofs.records_text.Goals as goal

pub returns : goal.returns
returns c packages links read are =
    let workspace = c.args.records.workspace in
    let left = c.args.records.packages.left.items in
    let table = string_bytes c.in_ok-table.table in
    let details = string_bytes c.into_text.result in
    let all : AreTexts c.push.new.self links = subst (AreTexts c.push.new.self) (ap (λ left. are.0 ++ left) c.as_slice.ensures.value ∙ sym are.2) (c.in_ok-push.ensures are.0 are.1) in
    let front = workspace_text workspace ++ field table in
    let of_workspace : string_bytes c.push_field.new.text ≡ front = c.in_ok-push_field.ensures
    ∙ (ap (λ t. t ++ field c.as_str.result.now) (c.in_ok-tell.ensures ∙ ap (λ t. t ++ workspace_text workspace) c.in_ok-front.ensures.bytes)
    ∙ ap (λ t. workspace_text workspace ++ field t) c.as_str.ensures.value) in
    let of_packages : string_bytes c.push_list.new.text ≡ front ++ listed package_text packages = c.in_ok-push_list.ensures
    ∙ (ap (λ t. t ++ listed package_text c.as_slice-2.result.now) of_workspace
    ∙ (ap (λ rs. front ++ listed package_text rs) c.as_slice-2.ensures.value ∙ ap (λ t. front ++ t) (sym (listed_short packages left read.short)))) in
    let with_links = c.in_ok-links.ensures links all ∙ ap (λ t. t ++ listed link_text links) of_packages in record {
      table = table;
      details = details;
      table_is = record { exact = c.in_ok-table.ensures.text; compact = c.in_ok-table.ensures.compact; in_order = c.in_ok-table.ensures.order; reads_back = c.in_ok-table.ensures.reads_back };
      details_are = all_placed read.shown packages details read.shown_are (subst (AreAllDetails read.shown) (sym c.into_text.ensures) read.took_are);
      text_is = ap (λ t. t ++ details) with_links;
    }
