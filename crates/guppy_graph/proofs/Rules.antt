-- The rules of the records, one after the other.
use Rattle.std.proofs.Common.{◌≡◌, sym, ap, ◌∙◌, refl, subst, arith, below_more, ℕ, ◌+◌, ◌<◌, List, [], ◌∷◌, get_or}
use Rattle.guppy_data.specs.declared.texts.error.Error.{Error}
use Rattle.guppy_data.specs.declared.records.PackageRecord.{PackageRecord}
use Rattle.guppy_data.specs.declared.records.LinkRecord.{LinkRecord}
use Rattle.guppy_data.specs.declared.records.WorkspaceRecord.{WorkspaceRecord}
use Rattle.guppy_graph.specs.Accepted.{Rule, few_packages, distinct_ids, distinct_targets, named_targets, distinct_paths, distinct_names, known_members, few_links, known_ends, distinct_pairs, place, Kept, Breaks, IsAccepted, IsFirstFault, ArePackagesAccepted}
use Rattle.guppy_graph.specs.Refused.{TellsFault, IsRefusal}
use Rattle.guppy_graph.proofs.UnknownTexts.{TellsFault-along}

-- the rule at the place
abbrev rule_at : ℕ → Rule
rule_at n = get_or (few_packages ∷ distinct_ids ∷ distinct_targets ∷ named_targets ∷ distinct_paths ∷ distinct_names ∷ known_members ∷ few_links ∷ known_ends ∷ distinct_pairs ∷ []) n few_packages

at_place : (rule : Rule) → rule_at (place rule) ≡ rule
at_place few_packages = refl
at_place distinct_ids = refl
at_place distinct_targets = refl
at_place named_targets = refl
at_place distinct_paths = refl
at_place distinct_names = refl
at_place known_members = refl
at_place few_links = refl
at_place known_ends = refl
at_place distinct_pairs = refl

-- no two rules have one place
one_place : (a b : Rule) → place a ≡ place b → a ≡ b
one_place a b same = sym (at_place a) ∙ (ap rule_at same ∙ at_place b)

below_ten : (rule : Rule) → place rule < 10
below_ten few_packages = omega arith
below_ten distinct_ids = omega arith
below_ten distinct_targets = omega arith
below_ten named_targets = omega arith
below_ten distinct_paths = omega arith
below_ten distinct_names = omega arith
below_ten known_members = omega arith
below_ten few_links = omega arith
below_ten known_ends = omega arith
below_ten distinct_pairs = omega arith

module _ (packages : List PackageRecord) (links : List LinkRecord) (workspace : WorkspaceRecord) where
  abbrev Keeps : Rule → Type 0
  Keeps = Kept packages links workspace

  -- the rules with places below n are kept
  abbrev pub KeptBelow : ℕ → Type 0
  KeptBelow n = (rule : Rule) → place rule < n → Keeps rule

  pub none_below : KeptBelow 0
  none_below rule below = absurd (omega arith)

  -- one more rule
  kept_more : (rule : Rule) → KeptBelow (place rule) → Keeps rule → KeptBelow (place rule + 1)
  kept_more rule before kept other below =
      below_more (λ n. (r : Rule) → place r ≡ n → Keeps r) (place rule)
      (λ n less r is. before r (omega arith))
      (λ r is. subst Keeps (one_place rule r (sym is)) kept)
      (place other) below other refl

  pub after_count : Keeps few_packages → KeptBelow (place distinct_ids)
  after_count few = kept_more few_packages none_below few

  pub after_ids : Keeps few_packages → Keeps distinct_ids → KeptBelow (place distinct_targets)
  after_ids few ids = kept_more distinct_ids (after_count few) ids

  pub after_targets : Keeps few_packages → Keeps distinct_ids → Keeps distinct_targets → KeptBelow (place named_targets)
  after_targets few ids targets = kept_more distinct_targets (after_ids few ids) targets

  pub after_named : Keeps few_packages → Keeps distinct_ids → Keeps distinct_targets → Keeps named_targets → KeptBelow (place distinct_paths)
  after_named few ids targets named = kept_more named_targets (after_targets few ids targets) named

  pub after_paths : Keeps few_packages → Keeps distinct_ids → Keeps distinct_targets → Keeps named_targets → Keeps distinct_paths → KeptBelow (place distinct_names)
  after_paths few ids targets named paths = kept_more distinct_paths (after_named few ids targets named) paths

  pub after_names : Keeps few_packages → Keeps distinct_ids → Keeps distinct_targets → Keeps named_targets → Keeps distinct_paths → Keeps distinct_names → KeptBelow (place known_members)
  after_names few ids targets named paths names = kept_more distinct_names (after_paths few ids targets named paths) names

  pub after_members : KeptBelow (place known_members) → Keeps known_members → KeptBelow (place few_links)
  after_members before members = kept_more known_members before members

  pub after_link_count : KeptBelow (place few_links) → Keeps few_links → KeptBelow (place known_ends)
  after_link_count before few = kept_more few_links before few

  pub after_ends : KeptBelow (place few_links) → Keeps few_links → Keeps known_ends → KeptBelow (place distinct_pairs)
  after_ends before few known = kept_more known_ends (after_link_count before few) known

  pub all_kept : KeptBelow (place few_links) → Keeps few_links → Keeps known_ends → Keeps distinct_pairs → IsAccepted packages links workspace
  all_kept before few known pairs rule = kept_more distinct_pairs (after_ends before few known) pairs rule (below_ten rule)

  -- the error of the first broken rule
  pub refused : (rule : Rule) → KeptBelow (place rule) → (e : Error) → TellsFault (Breaks packages links workspace rule) e → IsRefusal packages links workspace e
  refused rule earlier e tells =
      TellsFault-along (Breaks packages links workspace rule) (IsFirstFault packages links workspace) e
      (λ fault broken. record { rule = rule; broken = broken; earlier = earlier }) tells

-- the rules of packages say nothing of links
other_links : (packages : List PackageRecord) (a b : List LinkRecord) (workspace : WorkspaceRecord) (rule : Rule) → place rule < place few_links → Kept packages a workspace rule → Kept packages b workspace rule
other_links packages a b workspace few_packages below kept = kept
other_links packages a b workspace distinct_ids below kept = kept
other_links packages a b workspace distinct_targets below kept = kept
other_links packages a b workspace named_targets below kept = kept
other_links packages a b workspace distinct_paths below kept = kept
other_links packages a b workspace distinct_names below kept = kept
other_links packages a b workspace known_members below kept = kept
other_links packages a b workspace few_links below kept = absurd (omega arith)
other_links packages a b workspace known_ends below kept = absurd (omega arith)
other_links packages a b workspace distinct_pairs below kept = absurd (omega arith)

pub packages_kept : (packages : List PackageRecord) (links : List LinkRecord) (workspace : WorkspaceRecord) → ArePackagesAccepted packages workspace → KeptBelow packages links workspace (place few_links)
packages_kept packages links workspace kept rule below = other_links packages [] links workspace rule below (kept rule)

-- the rules of links are kept where there are none
pub packages_accepted : (packages : List PackageRecord) (workspace : WorkspaceRecord) → KeptBelow packages [] workspace (place few_links) → ArePackagesAccepted packages workspace
packages_accepted packages workspace before =
    all_kept packages [] workspace before (omega arith) (λ k d within. absurd (omega arith)) (λ i j key below_i below_j h k. absurd (omega arith))

-- accepted records have accepted packages
pub accepted_packages : (packages : List PackageRecord) (links : List LinkRecord) (workspace : WorkspaceRecord) → IsAccepted packages links workspace → ArePackagesAccepted packages workspace
accepted_packages packages links workspace kept =
    packages_accepted packages workspace (λ rule below. other_links packages links [] workspace rule below (kept rule))
