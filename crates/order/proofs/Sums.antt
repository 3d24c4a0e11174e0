-- Lists taken from the last element on, as the code's loops go: one element more, at i - 1. The weights so summed. Assumes nothing.
use mathlib.Core.Path.{◌≡◌, refl, sym, ap, ap₂, ◌∙◌}
use mathlib.Core.Bool.{Bool, cond}
use mathlib.Core.List.{List, [], ◌∷◌}
use Prim.Native.Nat.{ℕ, ◌+◌, ◌-◌, ◌≤◌, ◌<◌}
use native.Mathlib.Omega.{arith}
use borrow.Author.Tests.{eq-eqb, ne_eqb}
use Rattle.laws.specs.Lists.{All}
use Rattle.laws.specs.Views.{up_from, list_of}
use Rattle.laws.proofs.Views.{up-head}
use Rattle.order.specs.declared.edges.Edge.{Edge}
use Rattle.order.specs.Weights.{weighs_of, tally_of}
use Rattle.order.specs.Pairs.{ItemRow, pairs_of}
use Rattle.order.specs.Slice.{count_item_of}
use Rattle.order.specs.Arrangement.{abs_diff_of, beside_of}
use Rattle.order.specs.Choice.{covers_of, covered_by}
use Rattle.order.proofs.EdgeWires.{OnEdge, Below}
use Rattle.order.proofs.Counting.{counted-cons}

-- ---- from the last on

module _ {A : Type 0} (e : ℕ → A) where
  pub up-prev : (i m : ℕ) → 0 < i → i ≤ m → up_from e (i - 1) (m - (i - 1)) ≡ e (i - 1) ∷ up_from e i (m - i)
  up-prev i m h g =
      let n : i - 1 + 1 ≡ i = omega arith in
      up-head e (i - 1) m (omega arith) ∙ ap (λ (k : ℕ). e (i - 1) ∷ up_from e k (m - k)) n

  pub up-end : (m : ℕ) → up_from e m (m - m) ≡ []
  unfolding up_from
  up-end m =
      let n : m - m ≡ 0 = omega arith in
      rw n

  -- none is left
  pub up_none : (k n : ℕ) → n ≤ 0 → up_from e k n ≡ []
  unfolding up_from
  up_none k n h =
      let z : n ≡ 0 = omega arith in
      rw z

  pub up-all : (i m : ℕ) → i ≤ 0 → up_from e i (m - i) ≡ list_of m e
  up-all i m h =
      let n : i ≡ 0 = omega arith in
      let k : m - 0 ≡ m = omega arith in
      rw (n, k)

-- ---- items counted

pub counted_none : (T : ℕ → ItemRow) (g : ℕ) → [] ≡ tally_of (pairs_of (up_from T g (g - g)))
unfolding tally_of pairs_of
counted_none T g = rw (up-end T g)

pub counted-more : (T : ℕ → ItemRow) (i g : ℕ) (es fs : List Edge) → 0 < i → i ≤ g → es ≡ tally_of (pairs_of (up_from T i (g - i)))
    → fs ≡ count_item_of (T (i - 1)) es → fs ≡ tally_of (pairs_of (up_from T (i - 1) (g - (i - 1))))
counted-more T i g es fs h l e f =
    f ∙ ap (count_item_of (T (i - 1))) e ∙ sym (ap (λ (l : List ItemRow). tally_of (pairs_of l)) (up-prev T i g h l)
    ∙ counted-cons (T (i - 1)) (up_from T i (g - i)))

-- ---- weights

pub weighs-none : (E : ℕ → Edge) (m : ℕ) → 0 ≡ weighs_of (up_from E m (m - m))
unfolding weighs_of
weighs-none E m = rw (up-end E m)

pub weighs-more : (E : ℕ → Edge) (i m s v : ℕ) → 0 < i → i ≤ m → s ≡ weighs_of (up_from E i (m - i)) → v ≡ (E (i - 1)).weight
    → s + v ≡ weighs_of (up_from E (i - 1) (m - (i - 1)))
unfolding weighs_of
weighs-more E i m s v h g e f = rw (up-prev E i m h g) (omega (arith, e, f))

module _ (pos : ℕ → ℕ) where
  near : (E e : Edge) (a b : ℕ) → e ≡ E → a ≡ pos e.lo → b ≡ pos e.hi → abs_diff_of a b ≡ abs_diff_of (pos E.lo) (pos E.hi)
  near E e a b p q r = ap₂ abs_diff_of (q ∙ ap (λ (f : Edge). pos f.lo) p) (r ∙ ap (λ (f : Edge). pos f.hi) p)

  pub covers-hit : (E e : Edge) (a b d : ℕ) → e ≡ E → a ≡ pos e.lo → b ≡ pos e.hi → d ≡ abs_diff_of a b → d ≡ 1 → e.weight ≡ covers_of pos E
  covers-hit E e a b d p q r s t =
      ap (λ (f : Edge). f.weight) p
      ∙ sym (ap (λ (c : Bool). cond c E.weight 0) (eq-eqb (abs_diff_of (pos E.lo) (pos E.hi)) 1 (sym (near E e a b p q r) ∙ sym s ∙ t)))

  pub covers-miss : (E e : Edge) (a b d : ℕ) → e ≡ E → a ≡ pos e.lo → b ≡ pos e.hi → d ≡ abs_diff_of a b → (d ≡ 1 → ⊥) → 0 ≡ covers_of pos E
  covers-miss E e a b d p q r s t =
      sym (ap (λ (c : Bool). cond c E.weight 0) (ne_eqb (abs_diff_of (pos E.lo) (pos E.hi)) 1 (λ u. t (s ∙ near E e a b p q r ∙ u))))

  pub covered_none : (E : ℕ → Edge) (m : ℕ) → 0 ≡ covered_by (up_from E m (m - m)) pos
  unfolding covered_by
  covered_none E m = rw (up-end E m)

  pub covered_more : (E : ℕ → Edge) (i m s v : ℕ) → 0 < i → i ≤ m → s ≡ covered_by (up_from E i (m - i)) pos → v ≡ covers_of pos (E (i - 1))
      → s + v ≡ covered_by (up_from E (i - 1) (m - (i - 1))) pos
  unfolding covered_by
  covered_more E i m s v h g e f = rw (up-prev E i m h g) (omega (arith, e, f))

-- modes that agree on the wires of the edges
pub covered-agree : (n : ℕ) (pos pos' : ℕ → ℕ) → ((w : ℕ) → w < n → pos w ≡ pos' w) → (es : List Edge) → All (OnEdge (Below n)) es
    → covered_by es pos ≡ covered_by es pos'
unfolding covered_by
covered-agree n pos pos' h [] b = refl
covered-agree n pos pos' h (e ∷ es) b =
    ap₂ ◌+◌ (ap₂ (λ (i j : ℕ). cond (beside_of i j) e.weight 0) (h e.lo b.0.0) (h e.hi b.0.1)) (covered-agree n pos pos' h es b.1)
