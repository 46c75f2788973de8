use Rattle.std.proofs.Common.{subst, List, ℕ, MatchOption, ◌≢◌, ◌≡◌, ◌++◌}
use Rattle.std.proofs.lemmas.Bool.Decides.{Decides-eqb}
use Rattle.std.proofs.lemmas.Slice.Eq.{strip_suffix_is}
use Rattle.guppy_declared.proofs.folder_of.Goals as goal

pub returns : goal.returns
returns c =
    subst (λ (suffix : List ℕ). MatchOption c.strip_suffix.result ((folder : List ℕ) → c.args.manifest.now ≢ folder ++ suffix) (λ folder. c.args.manifest.now ≡ folder.now ++ suffix))
    c.as_slice.ensures (strip_suffix_is Decides-eqb c.args.manifest.now c.as_slice.result.now c.strip_suffix.result c.strip_suffix.ensures.cases)
