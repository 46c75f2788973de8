-- Why there is no answer, by the step that finds it.
use Rattle.std.proofs.Common.{◌≡◌, ◌∙◌, ap, sym, true, false, ℕ, List, Option, Some, slice_get}
use Rattle.std.specs.Prelude.{is_some}
use Rattle.std.specs.Option.{option_and_then}
use Rattle.guppy_data.specs.declared.records.PackageRecord.{PackageRecord}
use Rattle.guppy_graph.specs.Graph.{GraphData}
use Rattle.guppy_graph.specs.Members.{IsMember, member_path}
use Rattle.guppy_features.specs.Questions.{Question, question}
use Rattle.guppy_features.specs.declared.options.CargoOptions.{CargoOptions}
use Rattle.guppy_built.specs.Asked.{Choice, IsAsked, IsChoiceFault}
use Rattle.guppy_built.specs.Refused.{IsBuiltFault, IsLackingFault, IsMembersFault}
use Rattle.guppy_built.specs.Why.{IsWhyFault}
use Rattle.guppy_built.specs.declared.fault.BuiltFault.{BuiltFault}
use Rattle.guppy_built.specs.declared.fault.BuiltFault.TheVariants.{NoMember, UnknownFeature, LacksFeature, FeatureOff, Unresolved, OutOfMemory}

-- whether the package at a position is a member its record tells
pub is_member_at : (packages : List PackageRecord) (p : ℕ) (r : PackageRecord) → slice_get packages p ≡ Some r → is_some (member_path r) ≡ true → IsMember packages p
is_member_at packages p r found is = ap (λ (o : Option PackageRecord). is_some (option_and_then member_path o)) found ∙ is

pub no_member_at : (packages : List PackageRecord) (p : ℕ) (r : PackageRecord) → slice_get packages p ≡ Some r → is_some (member_path r) ≡ false → ¬ IsMember packages p
no_member_at packages p r found off is =
    let there : is_some (member_path r) ≡ true = sym (ap (λ (o : Option PackageRecord). is_some (option_and_then member_path o)) found) ∙ is in
    absurd (cc)

module _ (g : GraphData) (c : Choice) where
  -- why none are taken for members
  pub members_refused : (fault : BuiltFault) → IsMembersFault g.packages c.members fault → IsBuiltFault g c fault
  members_refused (NoMember place) is = is
  members_refused (UnknownFeature place) is = absurd is
  members_refused LacksFeature is = absurd is
  members_refused FeatureOff is = absurd is
  members_refused (Unresolved owner dependency) is = absurd is
  members_refused OutOfMemory is = tt

  -- why nothing is asked
  pub choice_refused : (fault : BuiltFault) → IsChoiceFault g c fault → IsBuiltFault g c fault
  choice_refused (NoMember place) is = absurd is
  choice_refused (UnknownFeature place) is = is
  choice_refused LacksFeature is = absurd is
  choice_refused FeatureOff is = absurd is
  choice_refused (Unresolved owner dependency) is = absurd is
  choice_refused OutOfMemory is = tt

  -- what isn't resolved of the question
  pub lacking_refused : (options : CargoOptions) (members : List ℕ) → IsAsked g c options members → (q : Question) → q ≡ question g options → (fault : BuiltFault) → IsLackingFault q fault → IsBuiltFault g c fault
  lacking_refused options members asked q same (NoMember place) is = absurd is
  lacking_refused options members asked q same (UnknownFeature place) is = absurd is
  lacking_refused options members asked q same LacksFeature is = absurd is
  lacking_refused options members asked q same FeatureOff is = absurd is
  lacking_refused options members asked q same (Unresolved owner dependency) is = record { options = options; members = members; asked = asked; first = rw same at is }
  lacking_refused options members asked q same OutOfMemory is = tt

  -- each is told of a feature, too
  pub why_refused : (id name : List ℕ) (fault : BuiltFault) → IsBuiltFault g c fault → IsWhyFault g c id name fault
  why_refused id name (NoMember place) is = is
  why_refused id name (UnknownFeature place) is = is
  why_refused id name LacksFeature is = absurd is
  why_refused id name FeatureOff is = absurd is
  why_refused id name (Unresolved owner dependency) is = is
  why_refused id name OutOfMemory is = tt
