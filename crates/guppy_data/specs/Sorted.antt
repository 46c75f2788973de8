-- What a sorted set keeps of a list.
use Rattle.std.specs.Prelude.{◌≡◌, Bool, true, List}
use Rattle.std.specs.List.{Contains, Any}

-- each element of xs is equal to one of ys, and each of ys is one of xs
pub record KeepsUpTo {X : Type 0} (eq : X → X → Bool) (xs ys : List X) : Type 0 where
  pub each : (x : X) → Contains xs x → Any (λ y. eq x y ≡ true) ys
  pub no_other : (y : X) → Contains ys y → Contains xs y
