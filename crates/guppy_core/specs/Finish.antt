-- The order in which a depth-first search finishes.
use Rattle.std.specs.Prelude.{◌≡◌, ◌⊎◌, ◌↔◌, ℕ, ◌+◌, List, Some, slice_get}
use Rattle.guppy_search.specs.Reach.{Walk, ReachedFrom}
use Rattle.guppy_core.specs.Listing.{Stands, StandsBefore}

-- one that is in mutual reach with x stands last among all that x reaches
pub record IsRooted (R : ℕ → ℕ → Type 0) (order : List ℕ) (x : ℕ) : Type 0 where
  pub root : ℕ
  pub place : ℕ
  pub at : slice_get order place ≡ Some root
  pub to_root : Walk R x root
  pub from_root : Walk R root x
  pub last : (y : ℕ) → Walk R x y → StandsBefore order (place + 1) y

-- those that walks from the starts reach, each once: of a step from u to v, where v does not reach
-- u, v stands first; and each has a root
pub record IsFinishList (R : ℕ → ℕ → Type 0) (IsStart : ℕ → Type 0) (order : List ℕ) : Type 0 where
  pub once : (i j x : ℕ) → slice_get order i ≡ Some x → slice_get order j ≡ Some x → i ≡ j
  pub reached : (x : ℕ) → Stands order x ↔ ReachedFrom R IsStart x
  pub steps : (i u v : ℕ) → slice_get order i ≡ Some u → R u v → Walk R v u ⊎ StandsBefore order i v
  pub rooted : (x : ℕ) → Stands order x → IsRooted R order x
