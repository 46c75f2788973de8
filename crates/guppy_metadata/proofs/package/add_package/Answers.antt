use Rattle.std.proofs.Common.{◌≡◌, ◌∙◌, Result, Ok, Err, refl, sym, ap, subst, codes}
use Rattle.std.specs.Prelude.{OnOk, is_ok}
use Rattle.std.proofs.lemmas.Result.{IfErr-weaker}
use Rattle.guppy_data.specs.declared.records.Details.TheVariants.{With}
use Rattle.guppy_metadata.specs.Dependency.{NamesOptional}
use Rattle.guppy_metadata.specs.Members.{data_of}
use Rattle.guppy_metadata.specs.Package.{HasIdentity, IsLibrary, HasPlainFields, HasNoDetails, IsParsedPackage}
use Rattle.guppy_metadata.specs.declared.types.Package.{Package}
use Rattle.guppy_metadata.proofs.AlikePackages.{plain_same, text_alike, named_alike, detailed_alike, targets_alike}
use Rattle.guppy_metadata.proofs.Refused.{failed, lacking, refused}
use Rattle.guppy_metadata.proofs.package.add_package.Goals as goal

-- what three clauses say where all is well
together : {T E P Q R S : Type 0} (r : Result T E) → (P → Q → R → S) → OnOk r P → OnOk r Q → OnOk r R → OnOk r S
together (Ok x) follows p q r = follows p q r
together (Err e) follows p q r = tt

pub returns-in_err-library-clause-refused : goal.returns-in_err-library-clause-refused
returns-in_err-library-clause-refused c = failed _ _ _ _ c.from_residual.ensures (λ e is. lacking _ e is)

pub returns-in_err-record-clause-refused : goal.returns-in_err-record-clause-refused
returns-in_err-record-clause-refused c = refused _ _ _ c.from_residual-in_err-record.ensures (λ r holds. (r, holds.0.known)) c.in_err-record.ensures.known

pub returns-in_err-package-clause-refused : goal.returns-in_err-package-clause-refused
returns-in_err-package-clause-refused c = failed _ _ _ _ c.from_residual-in_err-package.ensures (λ e is. lacking _ e is)

pub returns-in_err-show-clause-refused : goal.returns-in_err-show-clause-refused
returns-in_err-show-clause-refused c = refused _ _ _ c.from_residual-in_err-show.ensures (λ r holds. (r, holds.0.shown)) c.in_err-show.ensures.refused

pub returns-clause-added : goal.returns-clause-added
returns-clause-added c =
    let details = c.args.details in
    let own = data_of c.args.json in
    let made = c.in_ok-package.package.now in
    let final = c.add_details.new.made in
    let was = c.in_ok-package.ensures.value in
    let shown = c.in_ok-show.ensures in
    let added = c.add_details.ensures in
    let whole : Package = record made { «record» = final } in
    let known : HasIdentity own made.record = subst (λ (q : Package). HasIdentity own q.record) (sym was) c.in_ok-record.ensures.known in
    let plain : HasNoDetails made.record = subst (λ (q : Package). HasNoDetails q.record) (sym was) c.in_ok-record.ensures.plain in
    let named : HasPlainFields own final = added.named own (record { known = shown.known own known; shown = shown.shown }) in
    let declared_is = c.as_slice.ensures.value ∙ ap (λ (q : Package). q.declared.items) was in
    together c.add_details.result (λ targets detailed optional. (
      whole,
      (c.push_mut.follows.holds whole (ap is_ok c.in_ok-package.was)).0,
      λ d same id source library declared. subst (λ (q : Package). IsParsedPackage details d (record q { «record» = final })) (sym was) (record {
        id = sym (plain_same details own d same (codes "id") refl refl) ∙ id;
        source = text_alike details own d same (codes "source") _ refl refl source;
        named = named_alike details own d same _ named;
        detailed = detailed_alike details own d same _ (detailed (shown.plain plain));
        targets = targets_alike details own d same _ targets;
        library = subst (IsLibrary d) (sym c.in_ok-library.ensures) library;
        declared = declared;
        optional = subst (λ xs. details ≡ With → NamesOptional xs final.optional_deps) declared_is optional;
      }),
    )) added.targets added.detailed added.optional

pub returns-clause-refused : goal.returns-clause-refused
returns-clause-refused c = IfErr-weaker c.add_details.result _ _ (λ e none other r holds. none other r (holds.1, holds.2)) c.add_details.ensures.refused
