use Rattle.std.proofs.Common.{◌≡◌, ◌∙◌, sym, ap, subst, ℕ, true, List, [], ◌∷◌, ◌++◌, map, take, string_bytes}
use Rattle.std.specs.declared.vec.Vec.{Vec}
use Rattle.std.specs.declared.alloc.Global.{Global}
use Rattle.std.proofs.lemmas.List.{map_push, take_all}
use Rattle.guppy_data.specs.Path.{components}
use Rattle.guppy_data.specs.Component.{part_shown}
use Rattle.guppy_data.specs.Utf8Path.{path_text}
use Rattle.guppy_data.specs.declared.texts.component.Component.{Component}
use Rattle.guppy_data.proofs.Mapped.{one_more_mapped, there_mapped}
use Rattle.guppy_folders.specs.Touched.{IsIgnored, IsOutside, AreLongest}
use Rattle.guppy_folders.specs.Folders.{lists_in, IsLongest}
use Rattle.guppy_folders.proofs.LongestFolders.{longest_skipped, longest_more, longest_along}
use Rattle.guppy_folders.proofs.Sets.{set_made}
use Rattle.guppy_folders.proofs.touched.touched_folders.Goals as goal

pub loop-path-preserved-then-is_ignored : goal.loop-path-preserved-then-is_ignored
loop-path-preserved-then-is_ignored c =
    let folders = lists_in c.args.folders.now in
    let ignored = map string_bytes c.args.ignored.now in
    let i = c.loop-path.path-index in
    let texts = c.args.paths.now in
    let own = string_bytes c.path-item.result in
    let text : path_text c.new-path.result ≡ own = c.new-path.ensures ∙ c.as_str.ensures.value in
    let skipped = subst (IsIgnored ignored) text (c.is_ignored.ensures.0 c.if-is_ignored.true) in
    subst (λ (paths : List (List ℕ)). AreLongest folders paths ignored (lists_in c.loop-path.touched.items)) (sym (one_more_mapped string_bytes texts i c.path-item.result c.loop-path-test.true c.path-item.is))
    (longest_skipped folders ignored (map string_bytes (take i texts)) (lists_in c.loop-path.touched.items) c.loop-path.invariant own skipped)

pub returns-in-None : goal.returns-in-None
returns-in-None c =
    let folders = lists_in c.args.folders.now in
    let ignored = map string_bytes c.args.ignored.now in
    let own = string_bytes c.path-item.result in
    let text : path_text c.new-path.result ≡ own = c.new-path.ensures ∙ c.as_str.ensures.value in
    let counts : IsIgnored ignored own → ⊥ = λ h. let is : c.is_ignored.result ≡ true = c.is_ignored.ensures.1 (subst (IsIgnored ignored) (sym text) h) in absurd (cc) in
    let outside = rw c.in-None.is at c.in_ok-folder.ensures in
    (own, there_mapped string_bytes c.args.paths.now c.loop-path.path-index c.path-item.result c.loop-path-test.true c.path-item.is, counts, subst (IsOutside folders) text outside)

pub loop-path-preserved : goal.loop-path-preserved
loop-path-preserved c =
    let folders = lists_in c.args.folders.now in
    let ignored = map string_bytes c.args.ignored.now in
    let i = c.loop-path.path-index in
    let texts = c.args.paths.now in
    let own = string_bytes c.path-item.result in
    let text : path_text c.new-path.result ≡ own = c.new-path.ensures ∙ c.as_str.ensures.value in
    let counts : IsIgnored ignored own → ⊥ = λ h. let is : c.is_ignored.result ≡ true = c.is_ignored.ensures.1 (subst (IsIgnored ignored) (sym text) h) in absurd (cc) in
    let folder = c.in-Some.folder in
    let found = rw c.in-Some.is at c.in_ok-folder.ensures in
    let apart : IsOutside folders own → ⊥ = λ h. found.0 (subst (IsOutside folders) (sym text) h) in
    let is_longest = subst (λ (path : List ℕ). IsLongest folders (components path) (map part_shown folder.items)) text found.1 in
    let so_far = map string_bytes (take i texts) in
    let before = c.loop-path.touched.items in
    let lists : lists_in c.push.new.self.items ≡ lists_in before ++ map part_shown folder.items ∷ [] =
    ap lists_in c.in_ok-push-in-Some.ensures.items ∙ map_push (λ (l : Vec Component Global). map part_shown l.items) before folder in
    subst (λ (paths : List (List ℕ)). AreLongest folders paths ignored (lists_in c.push.new.self.items)) (sym (one_more_mapped string_bytes texts i c.path-item.result c.loop-path-test.true c.path-item.is))
    (subst (AreLongest folders (so_far ++ own ∷ []) ignored) (sym lists) (longest_more folders ignored so_far (lists_in before) c.loop-path.invariant own counts apart (map part_shown folder.items) is_longest))

pub returns : goal.returns
returns c =
    let folders = lists_in c.args.folders.now in
    let ignored = map string_bytes c.args.ignored.now in
    let before = c.loop-path.touched.items in
    let all = take_all c.loop-path.path-index c.args.paths.now c.loop-path-test.false in
    let are = rw all at c.loop-path.invariant in
    longest_along folders ignored (map string_bytes c.args.paths.now) (lists_in before) (lists_in c.new.result) are (set_made before c.new.result c.new.ensures.kept)
