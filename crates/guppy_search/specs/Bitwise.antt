-- Operations on words that go bit by bit.
use Rattle.std.specs.Prelude.{◌≡◌, ℕ, ◌<◌, ◌^◌, ◌==◌, Bool, false}
use Rattle.std.specs.Int.{bit_at}

-- each bit of what is made of two words is made of their bits there, and of two clear bits a clear one
pub record IsBitwise (Makes : ℕ → ℕ → ℕ → Type 0) (both : Bool → Bool → Bool) : Type 0 where
  pub bits : (a b made i : ℕ) → b < 2 ^ 64 → i < 64 → Makes a b made
      → (bit_at made i == 1) ≡ both (bit_at a i == 1) (bit_at b i == 1)
  pub clear : both false false ≡ false
