-- Levels, and the stack of a search by levels.
use Rattle.std.proofs.Common.{◌≡◌, ◌⊎◌, ℕ, suc, zero, ◌<◌, ◌≤◌, cond, List, [], ◌∷◌, refl, arith, inl, inr, ⊎_elim}
use Rattle.std.proofs.Math.Dec.{ltb, eqb}
use Rattle.std.specs.Prelude.{max}
use Rattle.std.proofs.lemmas.Bool.{cases_lt, lt-ltb, le-ltb, eq-eqb, ne_eqb, cond-true, cond-false}

-- a level that is not 0 becomes v at least
abbrev pub raise : ℕ → ℕ → ℕ
raise v zero = 0
raise v (suc l) = max (suc l) v

-- raising keeps what is no higher
pub raise-mono : (v a b : ℕ) → a ≤ b → raise v a ≤ raise v b
raise-mono v zero b h = omega arith
raise-mono v (suc a) zero h = absurd (omega arith)
raise-mono v (suc a) (suc b) h = omega arith

-- raises nothing below where it was
pub raise-above : (v a : ℕ) → a ≤ raise v a
raise-above v zero = omega arith
raise-above v (suc a) = omega arith

-- opens nothing
pub raise-open : (v a : ℕ) → 0 < raise v a → 0 < a
raise-open v zero h = h
raise-open v (suc a) h = omega arith

-- and who was higher, and is no more, was no higher than v
pub raise-past : (v a b : ℕ) → 0 < raise v b → raise v b ≤ raise v a → a < b → b ≤ v
raise-past v a zero o h less = absurd (omega arith)
raise-past v zero (suc b) o h less = absurd (omega arith)
raise-past v (suc a) (suc b) o h less = omega arith

-- v is raised no higher than another that is open
pub raise-covers : (v u : ℕ) → 0 < u → raise v v ≤ raise v u
raise-covers v zero h = absurd (omega arith)
raise-covers zero (suc u) h = omega arith
raise-covers (suc v) (suc u) h = omega arith

-- a level below the floor becomes 0
abbrev pub close : ℕ → ℕ → ℕ
close floor l = cond (ltb l floor) 0 l

pub close-low : (floor l : ℕ) → l < floor → close floor l ≡ 0
close-low floor l h = cond-true (ltb l floor) 0 l (lt-ltb l floor h)

pub close-high : (floor l : ℕ) → floor ≤ l → close floor l ≡ l
close-high floor l h = cond-false (ltb l floor) 0 l (le-ltb l floor h)

pub close-cases : (floor l : ℕ) → ((l < floor) × (close floor l ≡ 0)) ⊎ ((floor ≤ l) × (close floor l ≡ l))
close-cases floor l = ⊎_elim (λ h. inl (h, close-low floor l h)) (λ h. inr (h, close-high floor l h)) (cases_lt l floor)

-- closing keeps what is no higher
pub close-mono : (floor a b : ℕ) → a ≤ b → close floor a ≤ close floor b
close-mono floor a b h =
    ⊎_elim
    (λ p. let e = p.1 in omega arith)
    (λ p. let e = p.1 in let f = p.0 in let above : floor ≤ b = omega arith in let k = close-high floor b above in omega arith)
    (close-cases floor a)

-- who is still open was not closed
pub close-open : (floor l : ℕ) → 0 < close floor l → (floor ≤ l) × (close floor l ≡ l)
close-open floor l h = ⊎_elim (λ p. absurd (let e = p.1 in omega arith)) (λ p. p) (close-cases floor l)

-- v gets the level m
abbrev pub put : (ℕ → ℕ) → ℕ → ℕ → ℕ → ℕ
put h v m x = cond (eqb x v) m (h x)

pub put-same : (h : ℕ → ℕ) (v m x : ℕ) → x ≡ v → put h v m x ≡ m
put-same h v m x e = cond-true (eqb x v) m (h x) (eq-eqb x v e)

pub put-other : (h : ℕ → ℕ) (v m x : ℕ) → (x ≡ v → ⊥) → put h v m x ≡ h x
put-other h v m x e = cond-false (eqb x v) m (h x) (ne_eqb x v e)

-- x is on the stack
abbrev pub In : List ℕ → ℕ → Type 0
In [] x = ⊥
In (u ∷ s) x = (x ≡ u) ⊎ In s x

-- the levels do not fall from the top of the stack down, and nobody is there twice
abbrev pub Stacked : (ℕ → ℕ) → List ℕ → Type 0
Stacked h [] = Unit {0}
Stacked h (u ∷ s) = ((x : ℕ) → In s x → (h u ≤ h x) × (x ≡ u → ⊥)) × Stacked h s

-- a stack by one measure is one by another that keeps its order
pub stacked_on : (h k : ℕ → ℕ) (s : List ℕ) → ((x y : ℕ) → In s x → In s y → h x ≤ h y → k x ≤ k y) → Stacked h s → Stacked k s
stacked_on h k [] m t = tt
stacked_on h k (u ∷ s) m t = (λ x i. let e = t.0 x i in (m u x (inl refl) (inr i) e.0, e.1), stacked_on h k s (λ x y a b. m x y (inr a) (inr b)) t.1)
