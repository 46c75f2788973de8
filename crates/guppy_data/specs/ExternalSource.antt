-- What the text of an external source says.
use Rattle.std.specs.Prelude.{ℕ, List, [], ◌++◌, ◌≡◌, ◌≢◌, codes}
use Rattle.guppy_data.specs.declared.views.external_source.ExternalSource.{ExternalSource}
use Rattle.guppy_data.specs.declared.views.external_source.ExternalSource.TheVariants.{Registry as SeenRegistry, Sparse as SeenSparse, Git as SeenGit}
use Rattle.guppy_data.specs.declared.views.external_source.GitReq.{GitReq}
use Rattle.guppy_data.specs.declared.views.external_source.GitReq.TheVariants.{Branch as SeenBranch, Tag as SeenTag, Rev as SeenRev, Default as SeenDefault}

-- what is asked of a repository
pub data Request : Type 0 where
  Branch : List ℕ → Request
  Tag : List ℕ → Request
  Rev : List ℕ → Request
  Default : Request

-- where a package comes from: of a repository its text, what is asked of it and what was found
pub data Source : Type 0 where
  Registry : List ℕ → Source
  Sparse : List ℕ → Source
  Git : List ℕ → Request → List ℕ → Source

-- the marker stands nowhere in the text
abbrev pub Lacks : List ℕ → List ℕ → Type 0
Lacks marker text = (before after : List ℕ) → text ≢ before ++ (marker ++ after)

-- the text is cut at its first marker
abbrev pub IsCutAt : List ℕ → List ℕ → List ℕ → List ℕ → Type 0
IsCutAt marker text before after = (text ≡ before ++ (marker ++ after)) × Lacks marker before

-- the text before the last `#` names this repository and asks this of it
abbrev pub IsRequest : List ℕ → List ℕ → Request → Type 0
IsRequest text repository (Branch branch) = IsCutAt (codes "?branch=") text repository branch
IsRequest text repository (Tag tag) =
    Lacks (codes "?branch=") text × IsCutAt (codes "?tag=") text repository tag
IsRequest text repository (Rev rev) =
    Lacks (codes "?branch=") text × Lacks (codes "?tag=") text
    × IsCutAt (codes "?rev=") text repository rev
IsRequest text repository Default =
    Lacks (codes "?branch=") text × Lacks (codes "?tag=") text × Lacks (codes "?rev=") text
    × (text ≡ repository)

-- the text is that of the source
abbrev pub IsSource : List ℕ → Source → Type 0
IsSource text (Registry url) = text ≡ codes "registry+" ++ url
IsSource text (Sparse url) = text ≡ codes "sparse+" ++ url
IsSource text (Git repository request resolved) =
    (front : List ℕ) × (text ≡ codes "git+" ++ (front ++ (codes "#" ++ resolved)))
    × Lacks (codes "#") resolved × IsRequest front repository request

-- the parts that are seen
abbrev pub seen_request : GitReq → Request
seen_request (SeenBranch branch) = Branch branch.now
seen_request (SeenTag tag) = Tag tag.now
seen_request (SeenRev rev) = Rev rev.now
seen_request SeenDefault = Default

abbrev pub seen_source : ExternalSource → Source
seen_source (SeenRegistry url) = Registry url.now
seen_source (SeenSparse url) = Sparse url.now
seen_source (SeenGit repository req resolved) = Git repository.now (seen_request req) resolved.now

-- what is printed behind the repository
abbrev pub printed_request : Request → List ℕ
printed_request (Branch branch) = codes "?branch=" ++ branch
printed_request (Tag tag) = codes "?tag=" ++ tag
printed_request (Rev rev) = codes "?rev=" ++ rev
printed_request Default = []

-- the printed text
abbrev pub printed_source : Source → List ℕ
printed_source (Registry url) = codes "registry+" ++ url
printed_source (Sparse url) = codes "sparse+" ++ url
printed_source (Git repository request resolved) =
    codes "git+" ++ (repository ++ (printed_request request ++ (codes "#" ++ resolved)))
