use Rattle.std.proofs.Common.{List}
use Rattle.std.specs.String.{string_bytes}
use Rattle.std.specs.declared.string.String.{String}
use Rattle.std.specs.declared.alloc.Global.{Global}
use Rattle.guppy_data.specs.declared.platform.status.PlatformStatusImpl.{PlatformStatusImpl}
use Rattle.guppy_data.specs.Platform.{recorded_status}
use Rattle.guppy_closure.specs.declared.clause.Clause.{Clause}
use Rattle.guppy_features.specs.declared.fact.Fact.{Fact}
use Rattle.guppy_features.specs.Adding.{Adds, OfSome}
use Rattle.guppy_features.specs.Dependencies.{seen_dependency}
use Rattle.guppy_features.specs.Questions.{question_of}
use Rattle.guppy_features.specs.Needs.{IfOn, feature_there}
use Rattle.guppy_features.proofs.question.Asked.add_features.Given as goal

abbrev pub invariant-loop-name : goal.invariant-loop-name
invariant-loop-name l =
    let q = question_of l.fn.self in
    let d = seen_dependency l.dependency in
    let R = λ (e : String Global × PlatformStatusImpl). IfOn q l.side d l.used (recorded_status e.1) (feature_there q l.side (string_bytes e.0) d) in
    (new : List (Clause Fact)) → Adds (OfSome l.name-iterator R) l.rules.items new
    → Adds (OfSome d.part.feature_targets.entries R) l.initial.rules.items new
