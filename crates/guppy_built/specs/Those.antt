-- Those of a list of which something holds.
use Rattle.std.specs.Prelude.{List, [], ◌∷◌}

-- the second list has those of the first of which P holds, in their order
pub data AreThose {X : Type 0} (P : X → Type 0) : List X → List X → Type 0 where
  none : AreThose P [] []
  holds : (x : X) {all those : List X} → P x → AreThose P all those → AreThose P (x ∷ all) (x ∷ those)
  fails : (x : X) {all those : List X} → ¬ P x → AreThose P all those → AreThose P (x ∷ all) those
