-- Paths turned round: the ends of a turned path, and a path turned twice. By induction on the path. Assumes nothing.
use mathlib.Core.Path.{◌≡◌, refl, ap, ◌∙◌}
use mathlib.Core.List.{List, [], ◌∷◌, ◌++◌, append-nil}
use Prim.Native.Nat.{ℕ}
use Rattle.order.specs.Cover.{onto, final}

-- x ∷ p turned round before q: it starts with the last of x ∷ p, and has the last of x ∷ q
pub turned-ends : (x : ℕ) (p q : List ℕ) → (r : List ℕ) × (onto (x ∷ p) q ≡ final x p ∷ r) × (final (final x p) r ≡ final x q)
unfolding onto final
turned-ends x [] q = (q, refl, refl)
turned-ends x (y ∷ p) q = turned-ends y p (x ∷ q)

pub final-cons : (a b : ℕ) (s : List ℕ) → final a (b ∷ s) ≡ final b s
unfolding final
final-cons a b s = refl

pub final-nil : (x : ℕ) → final x [] ≡ x
unfolding final
final-nil x = refl

onto-onto : (q p r : List ℕ) → onto (onto q p) r ≡ onto p (q ++ r)
unfolding onto
onto-onto [] p r = refl
onto-onto (x ∷ q) p r = onto-onto q (x ∷ p) r

-- q and p joined at their starts, turned round, are p and q so joined
pub onto-turned : (q p : List ℕ) → onto (onto q p) [] ≡ onto p q
onto-turned q p = onto-onto q p [] ∙ ap (onto p) (append-nil q)

pub turned-twice : (p : List ℕ) → onto (onto p []) [] ≡ p
unfolding onto
turned-twice p = onto-turned p []
