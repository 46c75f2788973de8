use Rattle.std.proofs.Common.{◌≡◌, ◌∙◌, ℕ, true, false, List, [], ◌∷◌, ◌++◌, Option, Some, if◌then◌else◌, cond, codes, IsSomeAnd, refl, sym, ap, subst}
use Rattle.std.proofs.lemmas.Bool.{false≢true}
use Rattle.std.proofs.lemmas.Slice.Eq.{bytes_eq-Decides}
use Rattle.std.specs.Str.{bytes_eq}
use Rattle.json.specs.Json.{Json, value}
use Rattle.json.specs.Find.{get, get_member}
use Rattle.json.specs.Value.{value_view, members_view}
use Rattle.json.proofs.Grammar.{left_some}
use Rattle.json.proofs.Trees.{get_member-push}
use Rattle.guppy_data.specs.declared.records.Details.{Details}
use Rattle.guppy_data.specs.declared.records.Details.TheVariants.{With, Without}
use Rattle.guppy_metadata.specs.Dependency.{IsDeclared}
use Rattle.guppy_metadata.specs.Members.{IsListOf}
use Rattle.guppy_metadata.specs.Target.{IsLibraryAmong}
use Rattle.guppy_metadata.specs.Package.{IsLibrary, is_asked}
use Rattle.guppy_metadata.proofs.ObjectMembers.{differs, kept, put}
use Rattle.guppy_metadata.proofs.Options.{if_some}
use Rattle.guppy_metadata.proofs.Turns.{of_ok}
use Rattle.guppy_metadata.proofs.parts.read_member.Goals.{in_default-via-in-targets-0+in_default, in_default-via-in_default-2}
use Rattle.guppy_metadata.proofs.parts.read_member.Goals as goal

-- what is told of the library stays where the member is none of the targets
library_kept : (d e : Json) (library : Option (List ℕ)) → get (codes "targets") d ≡ get (codes "targets") e → IsLibrary d library → IsLibrary e library
library_kept d e library same is = subst (λ o. IsSomeAnd o (λ told. IsLibraryAmong told library)) same is

-- without details the targets are not asked for
no_targets : (details : Details) (name : List ℕ) → details ≡ Without → is_asked details name ≡ true → bytes_eq name (codes "targets") ≡ false
no_targets details name plain asked = differs name (codes "targets") (λ same. false≢true (sym (ap (is_asked Without) same) ∙ subst (λ b. is_asked b name ≡ true) plain asked))

pub returns-in_ok-ok-in_default : goal.returns-in_ok-ok-in_default
returns-in_ok-ok-in_default c =
    let name = c.args.name.now in
    let details = c.args.details in
    let told = value_view c.in_ok-value-in_default.value in
    let others = c.args.parts.now.others.items in
    let grown = others ++ (c.args.name, c.in_ok-value-in_default.value) ∷ [] in
    let pushed : c.push.new.self.items ≡ grown = c.push.ensures.items ∙ ap (λ well. if well then grown else others) (sym c.in_ok-ok-in_default.ensures.variant) in
    let no_dependencies : bytes_eq name (codes "dependencies") ≡ false = differs name (codes "dependencies") (elim c.in_default.branch [
      | in_default-via-in-targets-0+in_default w ↦ w.in_default.not-dependencies-0
      | in_default-via-in_default-2 w ↦ w.in_default.not-dependencies-0
    ]) in
    let asked : is_asked details name ≡ true = sym c.if-is_asked.ensures in (
      told,
      of_ok _ _ c.read.result _ c.in_ok-value-in_default.ensures.value c.read.ensures.ok,
      λ d e adds tells. record {
        declared_are = if_some c.args.parts.now.declared (λ declared. subst (λ o. IsSomeAnd o (λ told. IsListOf (IsDeclared details) told declared.items)) (kept d e name told adds (codes "dependencies") no_dependencies)) tells.declared_are;
        library_is = λ plain read. library_kept d e _ (kept d e name told adds (codes "targets") (no_targets details name plain asked)) (tells.library_is plain read);
        others_are = λ wanted other. ap (λ rows. get_member wanted (members_view rows)) pushed
            ∙ (get_member-push wanted others (c.args.name, c.in_ok-value-in_default.value) ∙ (ap (cond (bytes_eq name wanted) (Some told)) (tells.others_are wanted other) ∙ sym (adds wanted)));
      },
    )

pub returns-in_ok-ok-in_default-2 : goal.returns-in_ok-ok-in_default-2
returns-in_ok-ok-in_default-2 c =
    let name = c.args.name.now in
    let skipped = left_some (value 125 c.args.reader.now) c.skip_value.new.self (of_ok _ _ c.skip_value.result _ c.in_ok-ok-in_default-2.ensures.value c.skip_value.ensures.value) in
    let told = skipped.0 in
    let not_asked : is_asked c.args.details name ≡ false = sym c.if-is_asked.ensures in
    let no_dependencies : bytes_eq name (codes "dependencies") ≡ false = differs name (codes "dependencies") (elim c.in_default.branch [
      | in_default-via-in-targets-0+in_default w ↦ w.in_default.not-dependencies-0
      | in_default-via-in_default-2 w ↦ w.in_default.not-dependencies-0
    ]) in
    let other : c.args.details ≡ Without → bytes_eq name (codes "targets") ≡ false = λ plain. elim c.in_default.branch [
      | in_default-via-in-targets-0+in_default w ↦ (let both : With ≡ Without = sym w.in_default.is-1 ∙ plain in cc)
      | in_default-via-in_default-2 w ↦ differs name (codes "targets") search
    ] in (
      told,
      skipped.1,
      λ d e adds tells. record {
        declared_are = if_some c.args.parts.now.declared (λ declared. subst (λ o. IsSomeAnd o (λ told. IsListOf (IsDeclared c.args.details) told declared.items)) (kept d e name told adds (codes "dependencies") no_dependencies)) tells.declared_are;
        library_is = λ plain read. library_kept d e _ (kept d e name told adds (codes "targets") (other plain)) (tells.library_is plain read);
        others_are = λ wanted own. tells.others_are wanted own
            ∙ kept d e name told adds wanted (differs name wanted (λ same. false≢true (sym not_asked ∙ (ap (is_asked c.args.details) same ∙ own.1))));
      },
    )

pub returns-in_ok-read_dependencies-in-dependencies-default : goal.returns-in_ok-read_dependencies-in-dependencies-default
returns-in_ok-read_dependencies-in-dependencies-default c =
    let name = c.args.name.now in
    let declared = c.in_ok-read_dependencies-in-dependencies-default.field-0 in
    let more = c.in_ok-read_dependencies-in-dependencies-default.ensures in
    let is : name ≡ codes "dependencies" = c.in-dependencies-default.is-dependencies-0 in
    let here : bytes_eq name (codes "dependencies") ≡ true = (bytes_eq-Decides name (codes "dependencies")).1 is in (
      more.0,
      more.1,
      λ d e adds tells. record {
        declared_are = subst (λ o. IsSomeAnd o (λ told. IsListOf (IsDeclared c.args.details) told declared.items)) (put d e name more.0 adds (codes "dependencies") here) more.2;
        library_is = λ plain read. library_kept d e _ (kept d e name more.0 adds (codes "targets") (subst (λ n. bytes_eq n (codes "targets") ≡ false) (sym is) refl)) (tells.library_is plain read);
        others_are = λ wanted own. tells.others_are wanted own ∙ kept d e name more.0 adds wanted (subst (λ n. bytes_eq n wanted ≡ false) (sym is) own.0);
      },
    )
