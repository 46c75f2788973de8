-- What the arguments ask.
use Rattle.std.specs.Prelude.{ℕ, Bool, true, List, [], ◌∷◌, take, drop, Option, Some, None, option_map, codes, if◌then◌else◌}
use Rattle.std.specs.Str.{bytes_eq}
use Rattle.guppy_search.specs.declared.ix.direction.DependencyDirection.{DependencyDirection}
use Rattle.guppy_search.specs.declared.ix.direction.DependencyDirection.TheVariants.{Forward, Reverse}
use Rattle.guppy_features.specs.declared.options.CargoResolverVersion.{CargoResolverVersion}
use Rattle.guppy_features.specs.declared.options.StandardFeatures.{StandardFeatures}
use Rattle.guppy_command.specs.declared.table.TheConstants.{PUBLISHABLE}

-- what Cargo is asked to build: the chosen members, or by default those that it takes by itself, what `--features`
-- names and which features beside, whether tests are built, too, and by which resolver
pub record BuildRequest : Type 0 where
  pub members : List (List ℕ)
  pub features : List (List ℕ)
  pub standard : StandardFeatures
  pub tests : Bool
  pub resolver : CargoResolverVersion

-- the packages that these reach in a direction, whether the first depends on the second, why it does,
-- the packages in their order, the roots of all packages or the links walked from them in a direction,
-- the cycles, the packages that are there more than once, what Cargo builds, which features of a
-- package are on there, or why the second word's is, whether the graph is a verified one, the
-- members in an order to publish them, all or those alone that can be published, what these reach or
-- all as it is drawn, or, with folders to leave out, and folders that belong to packages beside their own, the
-- members that changes at some paths affect
pub data Command : Type 0 where
  reach : DependencyDirection → List (List ℕ) → Command
  depends : List ℕ → List ℕ → Command
  why : List ℕ → List ℕ → Command
  order : Command
  roots : DependencyDirection → Command
  links : DependencyDirection → Command
  cycles : Command
  duplicates : Command
  built : BuildRequest → Command
  features : BuildRequest → List ℕ → Command
  why_feature : BuildRequest → List ℕ → List ℕ → Command
  verify : Command
  publish_order : Bool → Command
  dot : List (List ℕ) → Command
  affected : List (List ℕ) → List (List ℕ × List ℕ) → List (List ℕ) → Command

-- `forward` or `reverse`
abbrev pub direction_of : List ℕ → Option DependencyDirection
direction_of word = if bytes_eq word (codes "forward") then Some Forward else
    (if bytes_eq word (codes "reverse") then Some Reverse else None)

-- `forward ID..` or `reverse ID..`, with one ID or more
abbrev pub reach_of : List (List ℕ) → Option Command
reach_of (word ∷ id ∷ ids) =
    option_map (λ direction. reach direction (id ∷ ids)) (direction_of word)
reach_of _ = None

-- `A B`
abbrev pub depends_of : List (List ℕ) → Option Command
depends_of (from ∷ to ∷ []) = Some (depends from to)
depends_of _ = None

abbrev pub why_of : List (List ℕ) → Option Command
why_of (from ∷ to ∷ []) = Some (why from to)
why_of _ = None

-- `forward` or `reverse`, with no word behind it
abbrev pub lone_direction_of : List (List ℕ) → Option DependencyDirection
lone_direction_of (word ∷ []) = direction_of word
lone_direction_of _ = None

-- `order`, `cycles`, `duplicates` or `verify`, with no word behind it
abbrev pub plain_command_of : List ℕ → List (List ℕ) → Option Command
plain_command_of word [] = if bytes_eq word (codes "order") then Some order
    else (if bytes_eq word (codes "cycles") then Some cycles
    else (if bytes_eq word (codes "duplicates") then Some duplicates
    else (if bytes_eq word (codes "verify") then Some verify else None)))
plain_command_of word _ = None

-- nothing, or `--publishable` behind the command, where it is no option
abbrev pub publish_of : Bool → List (List ℕ) → Option Command
publish_of publishable [] = Some (publish_order publishable)
publish_of publishable (word ∷ []) = if bytes_eq word PUBLISHABLE.now then Some (publish_order true) else None
publish_of _ _ = None

-- the command with these words behind it, if it takes them, where those alone that can be published may be wanted
abbrev pub command_of : Bool → List ℕ → List (List ℕ) → Option Command
command_of publishable word words = if bytes_eq word (codes "reach") then reach_of words
    else (if bytes_eq word (codes "depends") then depends_of words
    else (if bytes_eq word (codes "why") then why_of words
    else (if bytes_eq word (codes "roots") then option_map roots (lone_direction_of words)
    else (if bytes_eq word (codes "links") then option_map links (lone_direction_of words)
    else (if bytes_eq word (codes "publish-order") then publish_of publishable words
    else (if bytes_eq word (codes "dot") then Some (dot words)
    else plain_command_of word words))))))

-- no word behind it
abbrev pub built_of : BuildRequest → List (List ℕ) → Option Command
built_of request [] = Some (built request)
built_of request _ = None

-- `PACKAGE`
abbrev pub features_of : BuildRequest → List (List ℕ) → Option Command
features_of request (id ∷ []) = Some (features request id)
features_of request _ = None

-- `PACKAGE FEATURE`
abbrev pub why_feature_of : BuildRequest → List (List ℕ) → Option Command
why_feature_of request (id ∷ feature ∷ []) = Some (why_feature request id feature)
why_feature_of request _ = None

-- `built`, `features` or `why-feature` with these words behind it, if it takes them
abbrev pub build_command_of : BuildRequest → List ℕ → List (List ℕ) → Option Command
build_command_of request word words = if bytes_eq word (codes "built") then built_of request words
    else (if bytes_eq word (codes "features") then features_of request words
    else (if bytes_eq word (codes "why-feature") then why_feature_of request words else None))

-- the path without a `./` at its front
abbrev pub from_root : List ℕ → List ℕ
from_root path = if bytes_eq (take 2 path) (codes "./") then drop 2 path else path
