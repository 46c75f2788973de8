-- Numbers for the components.
use Rattle.std.specs.Prelude.{◌≡◌, ◌↔◌, ℕ, ◌<◌, ◌≤◌, List, length, slice_index}
use Rattle.guppy_search.specs.Reach.{Mutual}

-- the number of each position below n is that of its class of mutual reach, and steps lead to no
-- lower number
pub record AreNumbers (R : ℕ → ℕ → Type 0) (n : ℕ) (numbers : List ℕ) (count : ℕ) : Type 0 where
  pub length_is : length numbers ≡ n
  pub below : (p : ℕ) → p < n → slice_index numbers p < count
  pub classes : (p q : ℕ) → p < n → q < n → (slice_index numbers p ≡ slice_index numbers q)
      ↔ Mutual R p q
  pub steps : (p q : ℕ) → p < n → q < n → R p q → slice_index numbers p ≤ slice_index numbers q
  pub each : (c : ℕ) → c < count → (p : ℕ) × (p < n) × (slice_index numbers p ≡ c)
