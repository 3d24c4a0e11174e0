-- What a two-qubit block is (`classify2` of detect.rs): its tests in that order, with document 01's phase in the place of g. The answer has the kind with
-- its residual, the matrix to apply, v (where `swap` is true the block is SWAP · v), and whether the block is angled. Assumes nothing.
-- A public promise rests on this.
use Rattle.std.specs.Prelude.{Bool, true, false, cond, not, ◌&&◌, ◌||◌, ℕ, ◌+◌, Float}
use Rattle.std.specs.Float.Ieee.{le}
use Rattle.num.specs.Order.{min_of}
use Rattle.gate.specs.Complex.{f0}
use Rattle.gate.specs.declared.matrix.Mat4.{Mat4}
use Rattle.majorana.specs.Majorana.{majorana_map2_of, swap4_of}
use Rattle.classify.specs.declared.classify.Kind2.{Kind2}
use Rattle.classify.specs.declared.classify.Kind2.TheVariants.{Diag, Interaction, Match, NonGaussian}
use Rattle.classify.specs.declared.classify.Rank.{Rank}
use Rattle.classify.specs.declared.classify.Rank.TheVariants.{Gaussian, Interaction as InteractionRank, Neither}
use Rattle.classify.specs.declared.classify.Class2.{Class2}
use Rattle.classify.specs.Diagonal.{offdiag4_of, interaction_of, phase_none_of}

-- ---- the tests

-- "the off-diagonal test"
unfoldable pub diagonal_of : Float → Mat4 → Bool
diagonal_of tol u = le (offdiag4_of u) tol

-- the block passed the off-diagonal test, and its phase counts as none
unfoldable pub without_phase_of : Float → Bool → Mat4 → Bool
without_phase_of tol diag u = diag && phase_none_of tol (interaction_of u)

unfoldable pub residual2_of : Mat4 → Float
residual2_of u = (majorana_map2_of u).residual

-- ---- the class: kind, swap, v, and whether an off-diagonal test that was made passed

abbrev pub class2 : Kind2 → Bool → Mat4 → Bool → Class2
class2 k s v a = record { kind = k; swap = s; v = v; angled = a }

-- 4. without relabelling: "a genuine interaction phase", or neither. r0 is the residual of u.
unfoldable pub plain_of : Bool → Float → Mat4 → Class2
plain_of diag_u r0 u = cond diag_u (class2 Interaction false u true) (class2 (NonGaussian r0) false u false)

-- 4. with relabelling: an interaction phase of u, then one of v = SWAP · u, or neither
unfoldable pub fallback_of : Bool → Bool → Float → Mat4 → Mat4 → Class2
fallback_of diag_u diag_v r u v = cond diag_u (class2 Interaction false u true) (cond diag_v (class2 Interaction true v true) (class2 (NonGaussian r) false u false))

-- 3. v = SWAP · u: diagonal without phase, then a matchgate
unfoldable pub swapped_of : Float → Bool → Float → Mat4 → Mat4 → Class2
swapped_of tol diag_u r0 u v =
    cond (without_phase_of tol (diagonal_of tol v) v) (class2 Diag true v true)
    (cond (le (residual2_of v) tol) (class2 (Match (residual2_of v)) true v (diag_u || diagonal_of tol v))
    (fallback_of diag_u (diagonal_of tol v) (min_of r0 (residual2_of v)) u v))

-- 1. u: diagonal without phase; 2. a matchgate; then as above
unfoldable pub classify2_of : Bool → Float → Mat4 → Class2
classify2_of relabel tol u =
    cond (without_phase_of tol (diagonal_of tol u) u) (class2 Diag false u true)
    (cond (le (residual2_of u) tol) (class2 (Match (residual2_of u)) false u (diagonal_of tol u))
    (cond relabel (swapped_of tol (diagonal_of tol u) (residual2_of u) u (swap4_of u)) (plain_of (diagonal_of tol u) (residual2_of u) u)))

-- ---- whether the block is angled, by the tests alone

-- 3. is reached: relabelling is on, and neither 1. nor 2. took the block
unfoldable pub third_of : Bool → Float → Mat4 → Bool
third_of relabel tol u = relabel && (not (without_phase_of tol (diagonal_of tol u) u) && not (le (residual2_of u) tol))

-- "The report's `angled` flag (added) is yes exactly if some candidate cut that was tried passed the off-diagonal test that 000 makes on it, plain or
-- swapped": the plain test is made always, the swapped one, on SWAP · u, where 3. is reached
unfoldable pub angled_of : Bool → Float → Mat4 → Bool
angled_of relabel tol u = diagonal_of tol u || (third_of relabel tol u && diagonal_of tol (swap4_of u))

-- ---- what a kind says

-- 0 Gaussian, 1 an interaction, 2 neither
abbrev pub rank_of : Kind2 → ℕ
rank_of Diag = 0
rank_of Interaction = 1
rank_of (Match r) = 0
rank_of (NonGaussian r) = 2

-- the number of each rank
abbrev pub rank_number : Rank → ℕ
rank_number Gaussian = 0
rank_number InteractionRank = 1
rank_number Neither = 2

-- "Matchgate residual (0 for diagonal blocks)"
abbrev pub residual_of : Kind2 → Float
residual_of Diag = f0
residual_of Interaction = f0
residual_of (Match r) = r
residual_of (NonGaussian r) = r

-- the number of a kind, of which C and the stored results speak
abbrev pub kind_code_of : Kind2 → ℕ
kind_code_of Diag = 0
kind_code_of Interaction = 1
kind_code_of (Match r) = 2
kind_code_of (NonGaussian r) = 3

-- that of a class: 4 more for a swap, and 8 more where it is angled
unfoldable pub code_of : Class2 → ℕ
code_of c = kind_code_of c.kind + cond c.swap 4 0 + cond c.angled 8 0
