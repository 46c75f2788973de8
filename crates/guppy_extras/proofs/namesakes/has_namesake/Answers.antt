use Rattle.std.proofs.Common.{◌≡◌, ◌+◌, ◌-◌, inl, inr, refl, sym, subst, length, true, false, arith}
use Rattle.std.proofs.lemmas.Bool.{le-ltb}
use Rattle.std.proofs.lemmas.Option.{slice_get_read}
use Rattle.guppy.specs.declared.metadata.PackageMetadata.{PackageMetadata}
use Rattle.guppy_graph.proofs.Lists.{some_at}
use Rattle.guppy_extras.specs.Sorted.{record_of, HaveOneName}
use Rattle.guppy_extras.proofs.NamedAlike.{IsBehindNamesake, beside_tells, first_alone, behind_other, last_alone, before_other}
use Rattle.guppy_extras.proofs.namesakes.has_namesake.Goals.{else-place-gt0-via-then-place-gt0+else-have_one_name, else-place-gt0-via-else-place-gt0}
use Rattle.guppy_extras.proofs.namesakes.has_namesake.Goals as goal

pub returns-then-have_one_name : goal.returns-then-have_one_name
returns-then-have_one_name c =
    let g = c.requires.sorted.0 in
    let ms = c.args.packages.now in
    let place = c.args.place in
    let before = c.index-packages-place.result in
    let here = c.index-packages-place-then-place-gt0.result in
    let at_before = slice_get_read ms (length ms) (place - 1) before refl (let w = c.requires.within in omega arith) c.index-packages-place.is in
    let at = slice_get_read ms (length ms) place here refl c.requires.within c.index-packages-place-then-place-gt0.is in
    let next : place - 1 + 1 ≡ place = (let w = c.if-place-gt0.true in omega arith) in
    beside_tells g ms c.requires.sorted.1 place here at true
    (λ yes. inl (place - 1, before, next, at_before, c.have_one_name.ensures.0 c.if-have_one_name.true))
    (λ no. absurd (cc))

pub returns-then-place-packages : goal.returns-then-place-packages
returns-then-place-packages c =
    let g = c.requires.sorted.0 in
    let ms = c.args.packages.now in
    let place = c.args.place in
    let here = c.index-packages-place-then-place-packages.result in
    let behind = c.index-packages-place-then-place-packages-2.result in
    let told = c.have_one_name-then-place-packages in
    let at = slice_get_read ms (length ms) place here refl c.requires.within c.index-packages-place-then-place-packages.is in
    let at_behind = slice_get_read ms (length ms) (place + 1) behind refl c.if-place-packages.true c.index-packages-place-then-place-packages-2.is in
    let none_before : IsBehindNamesake g ms c.requires.sorted.1 place here → ⊥ = elim c.else-place-gt0.branch [
      | else-place-gt0-via-then-place-gt0+else-have_one_name w ↦
          let before = w.index-packages-place.result in
          let same : w.index-packages-place-then-place-gt0.result ≡ here = (let e = w.index-packages-place-then-place-gt0.is in let there = slice_get_read ms (length ms) place w.index-packages-place-then-place-gt0.result refl c.requires.within e in cc (there, at)) in
          let at_before = slice_get_read ms (length ms) (place - 1) before refl (let w = c.requires.within in omega arith) w.index-packages-place.is in
          behind_other g ms c.requires.sorted.1 place here at before at_before
          (λ one. let yes = w.have_one_name.ensures.1 (subst (λ (m : PackageMetadata). HaveOneName (record_of before) (record_of m)) (sym same) one) in let no = w.if-have_one_name.false in absurd (cc (yes, no)))
      | else-place-gt0-via-else-place-gt0 w ↦ first_alone g ms c.requires.sorted.1 place here at w.if-place-gt0.false
    ] in
    beside_tells g ms c.requires.sorted.1 place here at told.result
    (λ yes. inr (behind, at_behind, told.ensures.0 yes))
    (λ no. (none_before, before_other g ms c.requires.sorted.1 place here at behind at_behind (λ one. let yes = told.ensures.1 one in absurd (cc (yes, no)))))

pub returns-else-place-packages : goal.returns-else-place-packages
returns-else-place-packages c =
    let g = c.requires.sorted.0 in
    let ms = c.args.packages.now in
    let place = c.args.place in
    let found = some_at ms place c.requires.within in
    let here = found.0 in
    let at = found.1 in
    let none_before : IsBehindNamesake g ms c.requires.sorted.1 place here → ⊥ = elim c.else-place-gt0.branch [
      | else-place-gt0-via-then-place-gt0+else-have_one_name w ↦
          let before = w.index-packages-place.result in
          let same : w.index-packages-place-then-place-gt0.result ≡ here = (let e = w.index-packages-place-then-place-gt0.is in let there = slice_get_read ms (length ms) place w.index-packages-place-then-place-gt0.result refl c.requires.within e in cc (there, at)) in
          let at_before = slice_get_read ms (length ms) (place - 1) before refl (let w = c.requires.within in omega arith) w.index-packages-place.is in
          behind_other g ms c.requires.sorted.1 place here at before at_before
          (λ one. let yes = w.have_one_name.ensures.1 (subst (λ (m : PackageMetadata). HaveOneName (record_of before) (record_of m)) (sym same) one) in let no = w.if-have_one_name.false in absurd (cc (yes, no)))
      | else-place-gt0-via-else-place-gt0 w ↦ first_alone g ms c.requires.sorted.1 place here at w.if-place-gt0.false
    ] in
    rw (le-ltb (place + 1) (length ms) c.if-place-packages.false)
    (beside_tells g ms c.requires.sorted.1 place here at false
    (λ yes. absurd (cc))
    (λ no. (none_before, last_alone g ms c.requires.sorted.1 place here at c.if-place-packages.false)))
