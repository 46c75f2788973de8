use Rattle.std.proofs.Common.{◌≡◌, ◌∙◌, sym, ap, subst, ℕ, true, List, [], ◌∷◌, ◌++◌, map, take, string_bytes}
use Rattle.std.proofs.lemmas.List.{take_all}
use Rattle.guppy_data.specs.Path.{components}
use Rattle.guppy_data.specs.Utf8Path.{path_text}
use Rattle.guppy_data.proofs.Mapped.{one_more_mapped}
use Rattle.guppy_folders.specs.Folders.{lists_in}
use Rattle.guppy_folders.specs.Touched.{IsIgnored, AreCounted}
use Rattle.guppy_folders.proofs.LongestFolders.{counted_skipped, counted_more, counted_along}
use Rattle.guppy_folders.proofs.Sets.{set_made}
use Rattle.guppy_folders.proofs.touched.counted_paths.Goals as goal

pub loop-path-preserved-then-is_ignored : goal.loop-path-preserved-then-is_ignored
loop-path-preserved-then-is_ignored c =
    let ignored = map string_bytes c.args.ignored.now in
    let i = c.loop-path.path-index in
    let texts = c.args.paths.now in
    let own = string_bytes c.path-item.result in
    let text : path_text c.new-path.result ≡ own = c.new-path.ensures ∙ c.as_str.ensures.value in
    let skipped = subst (IsIgnored ignored) text (c.is_ignored.ensures.0 c.if-is_ignored.true) in
    subst (λ (paths : List (List ℕ)). AreCounted paths ignored (lists_in c.loop-path.counted.items)) (sym (one_more_mapped string_bytes texts i c.path-item.result c.loop-path-test.true c.path-item.is))
    (counted_skipped ignored (map string_bytes (take i texts)) (lists_in c.loop-path.counted.items) c.loop-path.invariant own skipped)

pub loop-path-preserved : goal.loop-path-preserved
loop-path-preserved c =
    let ignored = map string_bytes c.args.ignored.now in
    let i = c.loop-path.path-index in
    let texts = c.args.paths.now in
    let own = string_bytes c.path-item.result in
    let text : path_text c.new-path.result ≡ own = c.new-path.ensures ∙ c.as_str.ensures.value in
    let counts : IsIgnored ignored own → ⊥ = λ h. let is : c.is_ignored.result ≡ true = c.is_ignored.ensures.1 (subst (IsIgnored ignored) (sym text) h) in absurd (cc) in
    let so_far = map string_bytes (take i texts) in
    let before = c.loop-path.counted.items in
    let lists : lists_in c.add_folder.new.folders.items ≡ lists_in before ++ components own ∷ [] =
    c.in_ok-add_folder.ensures.added ∙ ap (λ (l : List ℕ). lists_in before ++ components l ∷ []) text in
    subst (λ (paths : List (List ℕ)). AreCounted paths ignored (lists_in c.add_folder.new.folders.items)) (sym (one_more_mapped string_bytes texts i c.path-item.result c.loop-path-test.true c.path-item.is))
    (subst (AreCounted (so_far ++ own ∷ []) ignored) (sym lists) (counted_more ignored so_far (lists_in before) c.loop-path.invariant own counts))

pub returns : goal.returns
returns c =
    let ignored = map string_bytes c.args.ignored.now in
    let before = c.loop-path.counted.items in
    let all = take_all c.loop-path.path-index c.args.paths.now c.loop-path-test.false in
    let are = rw all at c.loop-path.invariant in
    counted_along ignored (map string_bytes c.args.paths.now) (lists_in before) are (lists_in c.new.result) (set_made before c.new.result c.new.ensures.kept)
