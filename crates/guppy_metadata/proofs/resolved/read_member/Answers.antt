use Rattle.std.proofs.Common.{◌≡◌, ◌∙◌, true, false, codes, refl, sym, subst, IsSomeAnd}
use Rattle.std.specs.Str.{bytes_eq}
use Rattle.std.proofs.lemmas.Slice.Eq.{bytes_eq-Decides}
use Rattle.json.specs.Json.{string, value}
use Rattle.json.proofs.Grammar.{left_some}
use Rattle.guppy_metadata.specs.Links.{IsUsage}
use Rattle.guppy_metadata.specs.Members.{IsListOf}
use Rattle.guppy_metadata.proofs.ObjectMembers.{kept, put}
use Rattle.guppy_metadata.proofs.Options.{if_some}
use Rattle.guppy_metadata.proofs.Turns.{of_ok}
use Rattle.guppy_metadata.proofs.resolved.read_member.Goals as goal

pub returns-in_ok-ok : goal.returns-in_ok-ok
returns-in_ok-ok c =
    let name = c.args.name.now in
    let parts = c.args.parts.now in
    let skipped = left_some (value 122 c.args.reader.now) c.skip_value.new.self (of_ok _ _ c.skip_value.result _ c.in_ok-ok.ensures.value c.skip_value.ensures.value) in
    let told = skipped.0 in
    let no_name : bytes_eq name (codes "name") ≡ false = sym c.if-eq.ensures in
    let no_id : bytes_eq name (codes "pkg") ≡ false = sym c.if-eq-2.ensures in
    let no_usages : bytes_eq name (codes "dep_kinds") ≡ false = sym c.if-eq-3.ensures in (
      told,
      skipped.1,
      λ d e adds tells. record {
        name_is = if_some parts.name (λ text is. sym (kept d e name told adds (codes "name") no_name) ∙ is) tells.name_is;
        id_is = if_some parts.id (λ text is. sym (kept d e name told adds (codes "pkg") no_id) ∙ is) tells.id_is;
        usages_are = if_some parts.usages (λ usages are. subst (λ o. IsSomeAnd o (λ told. IsListOf IsUsage told usages.items)) (kept d e name told adds (codes "dep_kinds") no_usages) are) tells.usages_are;
      },
    )

pub returns-in_ok-read_text : goal.returns-in_ok-read_text
returns-in_ok-read_text c =
    let name = c.args.name.now in
    let parts = c.args.parts.now in
    let here : bytes_eq name (codes "name") ≡ true = sym c.if-eq.ensures in
    let is = (bytes_eq-Decides name (codes "name")).0 here in
    let told = string c.in_ok-read_text.field-0.now in
    let no_id : bytes_eq name (codes "pkg") ≡ false = subst (λ n. bytes_eq n (codes "pkg") ≡ false) (sym is) refl in
    let no_usages : bytes_eq name (codes "dep_kinds") ≡ false = subst (λ n. bytes_eq n (codes "dep_kinds") ≡ false) (sym is) refl in (
      told,
      c.in_ok-read_text.ensures,
      λ d e adds tells. record {
        name_is = sym (put d e name told adds (codes "name") here);
        id_is = if_some parts.id (λ text is. sym (kept d e name told adds (codes "pkg") no_id) ∙ is) tells.id_is;
        usages_are = if_some parts.usages (λ usages are. subst (λ o. IsSomeAnd o (λ told. IsListOf IsUsage told usages.items)) (kept d e name told adds (codes "dep_kinds") no_usages) are) tells.usages_are;
      },
    )

pub returns-in_ok-read_text-2 : goal.returns-in_ok-read_text-2
returns-in_ok-read_text-2 c =
    let name = c.args.name.now in
    let parts = c.args.parts.now in
    let here : bytes_eq name (codes "pkg") ≡ true = sym c.if-eq-2.ensures in
    let is = (bytes_eq-Decides name (codes "pkg")).0 here in
    let told = string c.in_ok-read_text-2.field-0.now in
    let no_name : bytes_eq name (codes "name") ≡ false = subst (λ n. bytes_eq n (codes "name") ≡ false) (sym is) refl in
    let no_usages : bytes_eq name (codes "dep_kinds") ≡ false = subst (λ n. bytes_eq n (codes "dep_kinds") ≡ false) (sym is) refl in (
      told,
      c.in_ok-read_text-2.ensures,
      λ d e adds tells. record {
        name_is = if_some parts.name (λ text is. sym (kept d e name told adds (codes "name") no_name) ∙ is) tells.name_is;
        id_is = sym (put d e name told adds (codes "pkg") here);
        usages_are = if_some parts.usages (λ usages are. subst (λ o. IsSomeAnd o (λ told. IsListOf IsUsage told usages.items)) (kept d e name told adds (codes "dep_kinds") no_usages) are) tells.usages_are;
      },
    )

pub returns-in_ok-read_usages : goal.returns-in_ok-read_usages
returns-in_ok-read_usages c =
    let name = c.args.name.now in
    let parts = c.args.parts.now in
    let here : bytes_eq name (codes "dep_kinds") ≡ true = sym c.if-eq-3.ensures in
    let is = (bytes_eq-Decides name (codes "dep_kinds")).0 here in
    let usages = c.in_ok-read_usages.field-0 in
    let told = c.in_ok-read_usages.ensures.0 in
    let no_name : bytes_eq name (codes "name") ≡ false = subst (λ n. bytes_eq n (codes "name") ≡ false) (sym is) refl in
    let no_id : bytes_eq name (codes "pkg") ≡ false = subst (λ n. bytes_eq n (codes "pkg") ≡ false) (sym is) refl in (
      told,
      c.in_ok-read_usages.ensures.1,
      λ d e adds tells. record {
        name_is = if_some parts.name (λ text is. sym (kept d e name told adds (codes "name") no_name) ∙ is) tells.name_is;
        id_is = if_some parts.id (λ text is. sym (kept d e name told adds (codes "pkg") no_id) ∙ is) tells.id_is;
        usages_are = subst (λ o. IsSomeAnd o (λ told. IsListOf IsUsage told usages.items)) (put d e name told adds (codes "dep_kinds") here) c.in_ok-read_usages.ensures.2;
      },
    )
