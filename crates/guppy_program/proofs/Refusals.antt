-- Why a command is refused.
use Rattle.std.proofs.Common.{◌≡◌, ◌∙◌, ⊎_elim, refl, sym, ap, subst, ℕ, zero, suc, ◌<◌, List, [], ◌∷◌, ◌++◌, length, get_or, append_assoc, arith, Ok, Err}
use Rattle.std.specs.Prelude.{Result, IfOk, IfErr, IsOkUnless, All, Vec}
use Rattle.std.specs.declared.alloc.Global.{Global}
use Rattle.std.specs.List.{AllZip}
use Rattle.guppy_data.specs.declared.records.PackageRecord.{PackageRecord}
use Rattle.guppy_data.specs.declared.texts.error.Error.{Error}
use Rattle.guppy_data.specs.declared.texts.error.Error.TheVariants.{PackageGraphConstructError, UnknownPackageId, UnknownFeatureId, UnknownWorkspacePath, UnknownWorkspaceName, PackageGraphInternalError, FeatureGraphInternalError, OutOfMemory}
use Rattle.guppy_process.specs.Cause.{Cause, library, bad_arguments, ambiguous, no_walk, unpublishable, build, bad_before, bad_input, input_failed, output_failed}
use Rattle.guppy_command.specs.Command.{Command}
use Rattle.guppy_program.specs.Meant.{Means}
use Rattle.guppy_print.specs.Format.{Format, IsUnclear}
use Rattle.guppy_graph.specs.Graph.{GraphData}
use Rattle.guppy_graph.specs.Refused.{IsFirstNot}
use Rattle.guppy_graph.specs.Verified.{TellsVerifyFault, IsVerifyFault as IsGraphFault}
use Rattle.guppy_data.specs.declared.texts.fault.VerifyFault.{VerifyFault}
use Rattle.guppy_data.specs.declared.texts.fault.VerifyFault.TheVariants.{TargetKind, Version, NoSection, Cycle}
use Rattle.guppy_program.specs.Answer.{IsClear, IsWordFault, IsVerifyFault, IsVerifyTold, IsToldAs, TellsCycle, IsCommandFault, IsFaultOn, words_of}
use Rattle.guppy_program.specs.Builds.{Places}

clear_at : (meant : List ℕ → List (List ℕ)) (words ids : List (List ℕ)) → AllZip (Means meant) words ids → (k : ℕ) (d : List ℕ) → k < length words → IsClear meant (get_or words k d)
clear_at meant [] ids means k d within = absurd (omega arith)
clear_at meant (word ∷ words) [] means k d within = absurd means
clear_at meant (word ∷ words) (id ∷ ids) means zero d within = (id, means.0)
clear_at meant (word ∷ words) (id ∷ ids) means (suc k) d within = clear_at meant words ids means.1 k d (omega arith)

-- words that mean one package each are clear
pub all_clear : (meant : List ℕ → List (List ℕ)) (words ids : List (List ℕ)) → AllZip (Means meant) words ids → All (IsClear meant) words
all_clear meant words ids means k d within = clear_at meant words ids means k d within

pub none_clear : (meant : List ℕ → List (List ℕ)) → All (IsClear meant) []
none_clear meant k d within = absurd (omega arith)

pub one_clear : (meant : List ℕ → List (List ℕ)) (word : List ℕ) → IsClear meant word → All (IsClear meant) (word ∷ [])
one_clear meant word clear zero d within = clear
one_clear meant word clear (suc k) d within = absurd (omega arith)

-- the first that isn't so is the first with more behind them
first_before : (P : List ℕ → Type 0) (words more : List (List ℕ)) (word : List ℕ) → IsFirstNot P words word → IsFirstNot P (words ++ more) word
first_before P words more word is = record {
  before = is.before;
  after = is.after ++ more;
  place = ap (λ (l : List (List ℕ)). l ++ more) is.place ∙ append_assoc is.before (word ∷ is.after) more;
  known = is.known;
  unknown = is.unknown;
}

module _ {Fault : Type 0} (format : Format Fault) where
  module _ (packages : List PackageRecord) (words before after : List (List ℕ)) (word : List ℕ) (place : words ≡ before ++ word ∷ after) (known : All (IsClear (format.meant packages)) before) where
    -- a word that isn't clear, behind clear ones, is the first of them
    pub unclear_word : (fault : Fault) (cause : Cause) → IsUnclear format packages word fault cause → IsWordFault format packages words fault cause
    unclear_word fault (library (UnknownPackageId id)) is = (
      record {
        before = before;
        after = after;
        place = subst (λ w. words ≡ before ++ w ∷ after) (sym is.0) place;
        known = known;
        unknown = λ clear. let one = sym (subst (λ w. format.meant packages w ≡ []) (sym is.0) is.1) ∙ clear.1 in absurd (cc);
      },
      subst (λ w. format.meant packages w ≡ []) (sym is.0) is.1,
      subst (λ w. format.tells_unknown packages w fault) (sym is.0) is.2,
    )
    unclear_word fault (library (PackageGraphConstructError f)) is = absurd is
    unclear_word fault (library (UnknownFeatureId id feature)) is = absurd is
    unclear_word fault (library (UnknownWorkspacePath path)) is = absurd is
    unclear_word fault (library (UnknownWorkspaceName name)) is = absurd is
    unclear_word fault (library (PackageGraphInternalError f)) is = absurd is
    unclear_word fault (library (FeatureGraphInternalError text)) is = absurd is
    unclear_word fault (library OutOfMemory) is = tt
    unclear_word fault bad_arguments is = absurd is
    unclear_word fault (ambiguous given choices) is = rw is.0 (
      record {
        before = before;
        after = after;
        place = place;
        known = known;
        unknown = λ clear. let many : 1 < length (format.meant packages word) = is.1 in absurd (omega (arith, rw clear.1 at many));
      },
      is.1,
      is.2,
    )
    unclear_word fault (no_walk from to) is = absurd is
    unclear_word fault (unpublishable member needed) is = absurd is
    unclear_word fault (build why) is = absurd is
    unclear_word fault (bad_before text) is = absurd is
    unclear_word fault bad_input is = absurd is
    unclear_word fault input_failed is = absurd is
    unclear_word fault output_failed is = absurd is

  -- a word that is at fault is one of the command's
  pub command_word : (call : List ℕ → List ℕ) (command : Command) (g : GraphData) (fault : Fault) (cause : Cause) → IsWordFault format g.packages (words_of command) fault cause → IsCommandFault format call command g fault cause
  command_word call command g fault (library (UnknownPackageId id)) is = is
  command_word call command g fault (library (PackageGraphConstructError f)) is = is
  command_word call command g fault (library (UnknownFeatureId id feature)) is = is
  command_word call command g fault (library (UnknownWorkspacePath path)) is = is
  command_word call command g fault (library (UnknownWorkspaceName name)) is = is
  command_word call command g fault (library (PackageGraphInternalError f)) is = absurd is
  command_word call command g fault (library (FeatureGraphInternalError text)) is = is
  command_word call command g fault (library OutOfMemory) is = is
  command_word call command g fault bad_arguments is = is
  command_word call command g fault (ambiguous given choices) is = is
  command_word call command g fault (no_walk from to) is = absurd is
  command_word call command g fault (unpublishable member needed) is = absurd is
  command_word call command g fault (build why) is = absurd is
  command_word call command g fault (bad_before text) is = is
  command_word call command g fault bad_input is = is
  command_word call command g fault input_failed is = is
  command_word call command g fault output_failed is = is

  -- what a command is refused for is no fault of a build
  pub no_build : (places : Places) (call : List ℕ → List ℕ) (command : Command) (g : GraphData) (fault : Fault) (cause : Cause) → IsCommandFault format call command g fault cause → IsFaultOn format places call command g fault cause
  no_build places call command g fault (library error) is = is
  no_build places call command g fault bad_arguments is = is
  no_build places call command g fault (ambiguous given choices) is = is
  no_build places call command g fault (no_walk from to) is = is
  no_build places call command g fault (unpublishable member needed) is = is
  no_build places call command g fault (build why) is = absurd is
  no_build places call command g fault (bad_before text) is = is
  no_build places call command g fault bad_input is = is
  no_build places call command g fault input_failed is = is
  no_build places call command g fault output_failed is = is

  -- a word that is at fault among these is so with more behind them
  pub word_before : (packages : List PackageRecord) (words more : List (List ℕ)) (fault : Fault) (cause : Cause) → IsWordFault format packages words fault cause → IsWordFault format packages (words ++ more) fault cause
  word_before packages words more fault (library (UnknownPackageId id)) is = (first_before _ words more id is.0, is.1, is.2)
  word_before packages words more fault (library (PackageGraphConstructError f)) is = absurd is
  word_before packages words more fault (library (UnknownFeatureId id feature)) is = absurd is
  word_before packages words more fault (library (UnknownWorkspacePath path)) is = absurd is
  word_before packages words more fault (library (UnknownWorkspaceName name)) is = absurd is
  word_before packages words more fault (library (PackageGraphInternalError f)) is = absurd is
  word_before packages words more fault (library (FeatureGraphInternalError text)) is = absurd is
  word_before packages words more fault (library OutOfMemory) is = tt
  word_before packages words more fault bad_arguments is = absurd is
  word_before packages words more fault (ambiguous given choices) is = (first_before _ words more given is.0, is.1, is.2)
  word_before packages words more fault (no_walk from to) is = absurd is
  word_before packages words more fault (unpublishable member needed) is = absurd is
  word_before packages words more fault (build why) is = absurd is
  word_before packages words more fault (bad_before text) is = absurd is
  word_before packages words more fault bad_input is = absurd is
  word_before packages words more fault input_failed is = absurd is
  word_before packages words more fault output_failed is = absurd is

  -- a word of the command that is at fault is told of a build, too
  pub build_word : (places : Places) (call : List ℕ → List ℕ) (command : Command) (g : GraphData) (fault : Fault) (cause : Cause) → IsWordFault format g.packages (words_of command) fault cause → IsFaultOn format places call command g fault cause
  build_word places call command g fault cause is = no_build places call command g fault cause (command_word call command g fault cause is)

  -- what `verify` refuses is told for the commands that ask for it
  pub told_of : (call : List ℕ → List ℕ) (command : Command) (g : GraphData) → ((found : VerifyFault) → IsGraphFault g found → IsVerifyFault command g found)
      → (fault : Fault) (cause : Cause) → IsVerifyTold format call g fault cause → IsCommandFault format call command g fault cause
  told_of call command g asks fault (library (UnknownPackageId id)) is = absurd is
  told_of call command g asks fault (library (PackageGraphConstructError f)) is = absurd is
  told_of call command g asks fault (library (UnknownFeatureId id feature)) is = absurd is
  told_of call command g asks fault (library (UnknownWorkspacePath path)) is = absurd is
  told_of call command g asks fault (library (UnknownWorkspaceName name)) is = absurd is
  told_of call command g asks fault (library (PackageGraphInternalError f)) is = (asks f is.0, is.1)
  told_of call command g asks fault (library (FeatureGraphInternalError text)) is = absurd is
  told_of call command g asks fault (library OutOfMemory) is = tt
  told_of call command g asks fault bad_arguments is = absurd is
  told_of call command g asks fault (ambiguous given choices) is = absurd is
  told_of call command g asks fault (no_walk from to) is = absurd is
  told_of call command g asks fault (unpublishable member needed) is = absurd is
  told_of call command g asks fault (build why) is = absurd is
  told_of call command g asks fault (bad_before text) is = absurd is
  told_of call command g asks fault bad_input is = absurd is
  told_of call command g asks fault input_failed is = absurd is
  told_of call command g asks fault output_failed is = absurd is

pub passed_ok : {T E F : Type 0} (given : Result T E) (result : Result T F) (P : T → Type 0) → IfOk given P → IfOk result (λ x. given ≡ Ok x) → IfOk result P
passed_ok given (Ok x) P is passed = subst (λ r. IfOk r P) passed is
passed_ok given (Err e) P is passed = tt

-- where memory is the only error, what is passed on tells that it is wanted
pub told_memory : {T : Type 0} (given : Result T Error) (cause : Cause) (P : Cause → Type 0) → IsOkUnless given OutOfMemory → ((error : Error) × (given ≡ Err error) × (cause ≡ library error)) → P (library OutOfMemory) → P cause
told_memory given cause P only (error, is, told) memory =
    let wanted : error ≡ OutOfMemory = subst (λ r. IsOkUnless r OutOfMemory) is only in
    subst P (sym (told ∙ ap library wanted)) memory

pub passed_memory : {T F : Type 0} (given : Result T Error) (result : Result T F) (cause : F → Cause) (P : F → Cause → Type 0) → IsOkUnless given OutOfMemory → IfErr result (λ fault. (error : Error) × (given ≡ Err error) × (cause fault ≡ library error)) → ((fault : F) → P fault (library OutOfMemory)) → IfErr result (λ fault. P fault (cause fault))
passed_memory given (Ok x) cause P only passed memory = tt
passed_memory given (Err fault) cause P only passed memory = told_memory given (cause fault) (P fault) only passed (memory fault)

module _ {Fault : Type 0} (format : Format Fault) (call : List ℕ → List ℕ) where
  -- what isn't a cycle is told as it is
  pub tells_other : (fault : Fault) (found : VerifyFault) → ((ids : Vec (List ℕ) Global) → found ≡ Cycle ids → ⊥) → TellsCycle format call fault found
  tells_other fault (TargetKind place target) other = tt
  tells_other fault (Version link) other = tt
  tells_other fault (NoSection link) other = tt
  tells_other fault (Cycle ids) other = absurd (other ids refl)

  -- what `verify` refuses, as it is told
  pub verify_told : (g : GraphData) (fault : Fault) (found : VerifyFault) (cause : Cause) → IsGraphFault g found → IsToldAs format call found fault cause → IsVerifyTold format call g fault cause
  verify_told g fault found cause is told = ⊎_elim
      (λ (one : (cause ≡ library (PackageGraphInternalError found)) × TellsCycle format call fault found). subst (IsVerifyTold format call g fault) (sym one.0) (is, one.1))
      (λ (memory : cause ≡ library OutOfMemory). subst (IsVerifyTold format call g fault) (sym memory) tt) told

  only_memory : (g : GraphData) (fault : Fault) (error : Error) → TellsVerifyFault (IsGraphFault g) error → ((found : VerifyFault) → error ≡ PackageGraphInternalError found → ⊥)
      → IsVerifyTold format call g fault (library error)
  only_memory g fault (PackageGraphConstructError f) is other = absurd is
  only_memory g fault (UnknownPackageId id) is other = absurd is
  only_memory g fault (UnknownFeatureId id feature) is other = absurd is
  only_memory g fault (UnknownWorkspacePath path) is other = absurd is
  only_memory g fault (UnknownWorkspaceName name) is other = absurd is
  only_memory g fault (PackageGraphInternalError f) is other = absurd (other f refl)
  only_memory g fault (FeatureGraphInternalError text) is other = absurd is
  only_memory g fault OutOfMemory is other = tt

  -- of the other errors it tells want of memory alone
  pub other_told : (g : GraphData) (fault : Fault) (error : Error) (cause : Cause) → TellsVerifyFault (IsGraphFault g) error
      → ((found : VerifyFault) → error ≡ PackageGraphInternalError found → ⊥) → cause ≡ library error → IsVerifyTold format call g fault cause
  other_told g fault error cause is other told = subst (IsVerifyTold format call g fault) (sym told) (only_memory g fault error is other)
