use Rattle.std.proofs.Common.{◌≡◌, ℕ, List, arith, codes, inl, inr, map}
use Rattle.guppy_data.proofs.Sources.{Lacks-from_find, IsCutAt-from_split}
use Rattle.guppy_features.specs.Dependencies.{seen_dependency, dependencies}
use Rattle.guppy_builds.specs.Building.{question_of}
use Rattle.guppy_builds.specs.Required.{HasOne, HasOn}
use Rattle.guppy_builds.proofs.Cuts.{by_cut}
use Rattle.guppy_builds.proofs.building.Building.is_required_on.Goals as goal

pub returns-in-Some : goal.returns-in-Some
returns-in-Some c =
    let q = question_of c.args.self in
    let text = c.args.text.now in
    let name = c.in-Some.name.now in
    let feature = c.in-Some.feature.now in
    let all : map seen_dependency c.args.dependencies.now ≡ dependencies c.args.self.asked.graph.now c.args.position = c.requires.dependencies in
    let on = rw all at c.have_on.ensures in
    let cut = IsCutAt-from_split (codes "/") text name feature (omega arith) c.in-Some.ensures.cases in
    let P = λ (x : List ℕ) (f : List ℕ). HasOne (dependencies c.args.self.asked.graph.now c.args.position) (HasOn q (dependencies c.args.self.asked.graph.now c.args.position) x f) in (
      λ r. inr (name, feature, cut, on.0 r),
      λ h. elim h [
        | inl own ↦ absurd (own.0 name feature cut.0)
        | inr other ↦ on.1 (by_cut P text name feature cut other)
      ],
    )

pub returns-in-None : goal.returns-in-None
returns-in-None c =
    let text = c.args.text.now in
    let lacks = Lacks-from_find (codes "/") text c.in-None.ensures.cases in
    let on = rw c.feature.ensures at c.is_on.ensures in (
      λ r. inl (lacks, on.0 r),
      λ h. elim h [
        | inl own ↦ on.1 own.1
        | inr other ↦ absurd (lacks other.0 other.1 other.2.0)
      ],
    )
