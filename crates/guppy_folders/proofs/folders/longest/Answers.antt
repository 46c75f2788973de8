use Rattle.std.proofs.Common.{◌≡◌, ◌∙◌, ap, sym, subst, arith, true, List, [], ◌∷◌, length, map, Contains}
use Rattle.std.proofs.lemmas.List.{length-append}
use Rattle.guppy_data.specs.Path.{Part, components}
use Rattle.guppy_data.specs.Component.{part_shown}
use Rattle.guppy_data.specs.Utf8Path.{path_text}
use Rattle.guppy_folders.specs.Folders.{IsInside, lists_in}
use Rattle.guppy_folders.proofs.Sets.{set_has, shorter_than, none_shorter, Inside-itself, Inside-length, Inside-shorter}
use Rattle.guppy_folders.proofs.folders.longest.Goals as goal

pub loop-folder-init : goal.loop-folder-init
loop-folder-init c =
    let whole = components (path_text c.args.path) in
    let is = c.in_ok-folder.ensures in
    let long = ap length is in
    record {
      inside = subst (λ (l : List Part). IsInside l whole) (sym is) (Inside-itself whole);
      no_longer = λ other there inside. let less = Inside-length other whole inside in omega arith;
    }

pub returns-then-contains : goal.returns-then-contains
returns-then-contains c = record {
  is_one = (set_has c.args.folders.now c.loop-folder.folder).0 (c.contains.ensures.0 c.if-contains.true);
  holds = c.loop-folder.invariant.inside;
  longest = c.loop-folder.invariant.no_longer;
}

pub returns-then-not-pop_name : goal.returns-then-not-pop_name
returns-then-not-pop_name c = λ folder there inside.
    let whole = components (path_text c.args.path) in
    let list = map part_shown c.loop-folder.folder.items in
    let has = set_has c.args.folders.now c.loop-folder.folder in
    let missing = λ (h : Contains (lists_in c.args.folders.now) list). let is : c.contains.result ≡ true = c.contains.ensures.1 (has.1 h) in absurd (cc) in
    let less = shorter_than (lists_in c.args.folders.now) whole list c.loop-folder.invariant.inside c.loop-folder.invariant.no_longer missing folder there inside in
    none_shorter whole list c.loop-folder.invariant.inside (c.pop_name.ensures.no_name (λ h. absurd (cc))) folder inside less

pub loop-folder-preserved : goal.loop-folder-preserved
loop-folder-preserved c =
    let whole = components (path_text c.args.path) in
    let list = map part_shown c.loop-folder.folder.items in
    let left = map part_shown c.pop_name.new.parts.items in
    let has = set_has c.args.folders.now c.loop-folder.folder in
    let missing = λ (h : Contains (lists_in c.args.folders.now) list). let is : c.contains.result ≡ true = c.contains.ensures.1 (has.1 h) in absurd (cc) in
    let less = shorter_than (lists_in c.args.folders.now) whole list c.loop-folder.invariant.inside c.loop-folder.invariant.no_longer missing in
    let popped = c.pop_name.ensures.name (cc) in
    let long = ap length popped.2 ∙ length-append left (popped.0 ∷ []) in
    record {
      inside = Inside-shorter left popped.0 whole popped.1 (subst (λ (xs : List Part). IsInside xs whole) popped.2 c.loop-folder.invariant.inside);
      no_longer = λ other there inside. let l = less other there inside in omega arith;
    }
