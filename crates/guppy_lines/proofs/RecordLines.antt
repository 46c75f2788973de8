-- What the records of some lines become with one line more.
use Rattle.std.proofs.Common.{◌≡◌, ℕ, ◌+◌, Bool, true, false, List, [], ◌∷◌, ◌++◌, take, drop, length, if◌then◌else◌, refl, ◌∙◌, ap, arith, Some, None, append-nil, add-one}
use Rattle.std.specs.Prelude.{Option}
use Rattle.std.specs.List.{AllPass, filter_map, cons_option}
use Rattle.std.specs.Option.{option_to_list}
use Rattle.std.specs.Str.{is_utf8}
use Rattle.std.specs.Str.Lines.{lines}
use Rattle.std.proofs.lemmas.List.Elements.{filter_map-append, All-push, All-nil}
use Rattle.indexmap.proofs.SetLemmas.{AllZip-push}
use Rattle.guppy_data.specs.declared.records.PackageRecord.{PackageRecord}
use Rattle.guppy_data.specs.declared.records.LinkRecord.{LinkRecord}
use Rattle.guppy_data.specs.declared.records.WorkspaceRecord.{WorkspaceRecord}
use Rattle.guppy_data.specs.declared.texts.dependency_kind.DependencyKind.{DependencyKind}
use Rattle.guppy_lines.specs.declared.fault.RunFault.{RunFault}
use Rattle.guppy_lines.specs.declared.fault.RunFault.TheVariants.{Library, BadArguments, NoWalk, Unpublishable, Build, Before, BadLine, InputFailed, OutputFailed}
use Rattle.guppy_data.specs.declared.records.Records.{Records}
use Rattle.guppy_lines.specs.Text.{Statement, a_package, a_link, statement_of, is_good, words}
use Rattle.guppy_lines.specs.Records.{AreRecordsOf, IsPackageOf, IsLinkOf, package_of, link_of}
use Rattle.guppy_lines.specs.Reading.{AddsStatements, IsLineFault, IsReadingFault}
use Rattle.guppy_lines.proofs.InputLines.{slice_get-drop, take-one_more, drop-one_more}

pub package_added : (packages : List PackageRecord) (links : List LinkRecord) (workspace : WorkspaceRecord) (id : List ℕ) (package' : PackageRecord) → IsPackageOf id package'
    → (statements : List Statement) → AreRecordsOf statements packages links workspace → AreRecordsOf (statements ++ a_package id ∷ []) (packages ++ package' ∷ []) links workspace
package_added packages links workspace id p is statements were = record {
  packages_are = rw (filter_map-append package_of statements (a_package id ∷ [])) (AllZip-push IsPackageOf (filter_map package_of statements) packages id p were.packages_are is);
  links_are = rw (filter_map-append link_of statements (a_package id ∷ []), append-nil (filter_map link_of statements)) were.links_are;
  workspace_is = were.workspace_is;
}

pub link_added : (packages : List PackageRecord) (links : List LinkRecord) (workspace : WorkspaceRecord) (from to : List ℕ) (section : DependencyKind) (link : LinkRecord)
    → IsLinkOf (record { from = from; to = to; section = section }) link
    → (statements : List Statement) → AreRecordsOf statements packages links workspace → AreRecordsOf (statements ++ a_link from to section ∷ []) packages (links ++ link ∷ []) workspace
link_added packages links workspace from to section l is statements were = record {
  packages_are = rw (filter_map-append package_of statements (a_link from to section ∷ []), append-nil (filter_map package_of statements)) were.packages_are;
  links_are = rw (filter_map-append link_of statements (a_link from to section ∷ [])) (AllZip-push IsLinkOf (filter_map link_of statements) links (record { from = from; to = to; section = section }) l were.links_are is);
  workspace_is = were.workspace_is;
}

filter_map-one : (statement : Option Statement) → cons_option statement [] ≡ option_to_list statement
filter_map-one None = refl
filter_map-one (Some e) = refl

none_either_way : (b : Bool) → (if b then None else None) ≡ (let none : Option Statement = None in none)
none_either_way true = refl
none_either_way false = refl

statement_of-nil : statement_of [] ≡ None
unfolding words
statement_of-nil = none_either_way (is_utf8 [])

-- an empty line adds nothing
pub nothing_added : (records : Records) (line : List ℕ) → length line ≡ 0 → AddsStatements records records (option_to_list (statement_of line))
nothing_added records [] none statements were = rw (statement_of-nil, append-nil statements) were
nothing_added records (b ∷ bs) none statements were = absurd (omega arith)

-- the first lines of the text are good, and the rest are still to come
pub record HasPassed (text rest : List ℕ) (passed : ℕ) : Type 0 where
  pub left : drop passed (lines text) ≡ lines rest
  pub good : AllPass is_good (take passed (lines text))

pub has_passed_none : (text : List ℕ) → HasPassed text text 0
has_passed_none text = record { left = refl; good = All-nil (λ line. is_good line ≡ true) }

pub has_passed_more : (text rest line after : List ℕ) (passed : ℕ) → HasPassed text rest passed → lines rest ≡ line ∷ lines after → is_good line ≡ true → HasPassed text after (passed + 1)
has_passed_more text rest line after passed was first good = rw (add-one passed) (record {
  left = drop-one_more passed (lines text) line (lines after) (was.left ∙ first);
  good = rw (take-one_more passed (lines text) line (lines after) (was.left ∙ first)) (All-push (λ l. is_good l ≡ true) (take passed (lines text)) line was.good good);
})

-- the records of the lines that were passed
abbrev pub statements_passed : List ℕ → ℕ → List Statement
statements_passed text passed = filter_map statement_of (take passed (lines text))

pub statements_passed-more : (text rest line after : List ℕ) (passed : ℕ) → HasPassed text rest passed → lines rest ≡ line ∷ lines after
    → statements_passed text (passed + 1) ≡ statements_passed text passed ++ option_to_list (statement_of line)
statements_passed-more text rest line after passed was first =
    rw (add-one passed, take-one_more passed (lines text) line (lines after) (was.left ∙ first))
    (filter_map-append statement_of (take passed (lines text)) (line ∷ []) ∙ ap (λ l. filter_map statement_of (take passed (lines text)) ++ l) (filter_map-one (statement_of line)))

pub bad_line : (text rest line after : List ℕ) (passed : ℕ) (fault : RunFault) → HasPassed text rest passed → lines rest ≡ line ∷ lines after
    → IsLineFault line (passed + 1) fault → IsReadingFault text fault
bad_line text rest line after passed (Library error) was first is = is
bad_line text rest line after passed BadArguments was first is = is
bad_line text rest line after passed (NoWalk from to) was first is = is
bad_line text rest line after passed (Unpublishable member needed) was first is = is
bad_line text rest line after passed (Build fault) was first is = is
bad_line text rest line after passed (Before told) was first is = is
bad_line text rest line after passed (BadLine n) was first is = record {
  before = passed;
  counted = is.0;
  line = line;
  stands = slice_get-drop passed (lines text) line (lines after) (was.left ∙ first);
  bad = is.1;
  good_before = was.good;
}
bad_line text rest line after passed InputFailed was first is = is
bad_line text rest line after passed OutputFailed was first is = is
