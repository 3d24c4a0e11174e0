-- The order of items whose matchgates stand on neighbouring wires: the identity covers every edge, so no path cover covers more, and each wire is its
-- own mode. Assumes nothing.
use mathlib.Core.Path.{◌≡◌, refl, ap, ap₂, ◌∙◌}
use mathlib.Core.Logic.{inl, inr}
use mathlib.Core.Bool.{Bool, true, false, cond, ◌&&◌}
use mathlib.Core.List.{List, [], ◌∷◌}
use Prim.Native.Nat.{ℕ, ◌+◌, ◌-◌, ◌<◌}
use native.Mathlib.Nat.{le_refl}
use native.Mathlib.Omega.{arith}
use lib.Dec.{ltb}
use borrow.Author.Tests.{eq-eqb, lt-ltb, le-ltb}
use Rattle.laws.specs.Lists.{All}
use Rattle.laws.proofs.Lists.{all_append}
use Rattle.order.specs.declared.edges.Edge.{Edge}
use Rattle.order.specs.Weights.{pair_of, edges_of, weighs_of}
use Rattle.order.specs.Cover.{wires}
use Rattle.order.specs.Arrangement.{find, beside_of}
use Rattle.order.specs.Choice.{covered_by, covered_of, identity_of, improved_of, arrange_of, choose_order_of}
use Rattle.order.proofs.Permutation.{wire-mode}
use Rattle.order.proofs.EdgeWires.{OnPair, OnEdge, pair-on, edges-all}
use Rattle.resolve.specs.Items.{Item, one, two, opaque, is_matchgate}
use Rattle.detect.specs.Compile.{match_pairs}
use Rattle.register.specs.Register.{Beside}
use Rattle.register.specs.Follows.{GaussianItem}

-- ---- neighbours

neighbours : (a b : ℕ) → Beside a b → beside_of a b ≡ true
neighbours a b (inl e) = rw (lt-ltb a b (omega arith)) (eq-eqb (b - a) 1 (omega arith))
neighbours a b (inr e) = rw (le-ltb a b (omega arith)) (eq-eqb (a - b) 1 (omega arith))

turned : (a b : ℕ) → Beside a b → Beside b a
turned a b (inl e) = inr e
turned a b (inr e) = inl e

-- where wires are their own modes, neighbouring wires have neighbouring modes
pub beside-modes : (n : ℕ) (pos : ℕ → ℕ) → ((w : ℕ) → w < n → pos w ≡ w) → (a b : ℕ) → a < n → b < n → Beside a b → beside_of (pos a) (pos b) ≡ true
beside-modes n pos own a b k l s = ap₂ beside_of (own a k) (own b l) ∙ neighbours a b s

-- wires with neighbouring modes in the identity
abbrev Near : ℕ → ℕ → ℕ → Type 0
Near n a b = beside_of (find a (wires n)) (find b (wires n)) ≡ true

near : (n a b : ℕ) → a < n → b < n → Beside a b → Near n a b
near n = beside-modes n (λ w. find w (wires n)) (wire-mode n)

-- ---- the identity covers every edge

identity-covers : (n : ℕ) (es : List Edge) → All (OnEdge (Near n)) es → covered_of es (wires n) ≡ weighs_of es
unfolding covered_by weighs_of
identity-covers n [] h = refl
identity-covers n (e ∷ es) h = ap₂ ◌+◌ (ap (λ (t : Bool). cond t e.weight 0) h.0) (identity-covers n es h.1)

identity-stays : (reorder : Bool) (n : ℕ) (es : List Edge) → All (OnEdge (Near n)) es → arrange_of reorder n es ≡ identity_of n
unfolding arrange_of
identity-stays reorder n es h =
    ap (λ (t : Bool). cond (reorder && t) (improved_of n es (covered_of es (wires n))) (identity_of n))
    (ap (λ (k : ℕ). ltb k (weighs_of es)) (identity-covers n es h) ∙ le-ltb (weighs_of es) (weighs_of es) (le_refl (weighs_of es))) ∙ by reorder
  where
    by : (r : Bool) → cond (r && false) (improved_of n es (covered_of es (wires n))) (identity_of n) ≡ identity_of n
    by true = refl
    by false = refl

-- ---- the pairs of the matchgates

pair-near : (n a b : ℕ) → a < n → b < n → Beside a b → OnPair (Near n) (pair_of a b)
pair-near n a b k l s = pair-on (Near n) a b (near n a b k l s) (near n b a l k (turned a b s))

pairs-near : (n : ℕ) (xs : List Item) → All (GaussianItem n) xs → All (OnPair (Near n)) (match_pairs xs)
unfolding match_pairs
pairs-near n [] h = tt
pairs-near n (one w m ∷ xs) h = pairs-near n xs h.1
pairs-near n (two kind a b r v ∷ xs) (g, h) = all_append (OnPair (Near n)) (match_pairs xs) _ (pairs-near n xs h) (by (is_matchgate kind))
  where
    by : (t : Bool) → All (OnPair (Near n)) (cond t (pair_of a b ∷ []) [])
    by true = (pair-near n a b g.0 g.1 g.2, tt)
    by false = tt
pairs-near n (opaque ∷ xs) h = absurd h.0

-- with Gaussian items on neighbouring wires the order is the identity, whether or not it may be another
pub plain-order : (reorder : Bool) (n : ℕ) (xs : List Item) → All (GaussianItem n) xs → choose_order_of reorder n (match_pairs xs) ≡ identity_of n
unfolding choose_order_of
plain-order reorder n xs h =
    identity-stays reorder n (edges_of (match_pairs xs)) (edges-all (Near n) (match_pairs xs) (pairs-near n xs h))
