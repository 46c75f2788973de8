-- When a chain of options gives a value.
use Rattle.std.proofs.Common.{◌≡◌, Bool, true, false, cond, Some, None, refl, inl, inr}
use Rattle.std.specs.Prelude.{Option, ◌⊎◌, option_map, option_and_then}

module _ {A B : Type 0} where
  pub bind_some : (f : A → Option B) (o : Option A) (y : B) → option_and_then f o ≡ Some y → (x : A) × (o ≡ Some x) × (f x ≡ Some y)
  bind_some f None y e = absurd (cc)
  bind_some f (Some x) y e = (x, refl, e)

  pub map_some : (f : A → B) (o : Option A) (y : B) → option_map f o ≡ Some y → (x : A) × (o ≡ Some x) × (f x ≡ y)
  map_some f None y e = absurd (cc)
  map_some f (Some x) y e = (x, refl, (cc))

-- which way a test went
pub chosen : {A : Type 0} (b : Bool) (x y z : A) → cond b x y ≡ z → ((b ≡ true) × (x ≡ z)) ⊎ ((b ≡ false) × (y ≡ z))
chosen true x y z e = inl (refl, e)
chosen false x y z e = inr (refl, e)
