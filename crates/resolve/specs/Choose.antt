-- The choice of a block's cuts (000, `fuse`, its second loop): every pair of cuts is tried, those of the first slot outside, and the first of the best
-- scores is kept. A score is (rank, residual for rank 2 and 0.0 otherwise, gates taken). Assumes nothing. A public promise rests on this.
use Rattle.std.specs.Prelude.{Bool, false, cond, ◌&&◌, ◌||◌, List, [], ◌∷◌, ◌++◌, ℕ, ◌+◌, eqb, ltb, Float}
use Rattle.std.specs.Float.Ieee.{lt, eq}
use Rattle.gate.specs.Complex.{f0}
use Rattle.gate.specs.Matrix.{kron_of, mul4_of}
use Rattle.gate.specs.declared.matrix.Mat2.{Mat2}
use Rattle.gate.specs.declared.matrix.Mat4.{Mat4}
use Rattle.classify.specs.Classify.{classify2_of, class2, rank_of, residual_of}
use Rattle.classify.specs.declared.classify.Class2.{Class2}
use Rattle.classify.specs.declared.classify.Kind2.{Kind2}
use Rattle.classify.specs.declared.classify.Kind2.TheVariants.{NonGaussian}
use Rattle.resolve.specs.Cuts.{cuts}

-- ---- scores

-- the score's second part
unfoldable pub level_of : Kind2 → Float
level_of k = cond (eqb (rank_of k) 2) (residual_of k) f0

-- a candidate: its score, cut ka of the first tail, cut kb of the second, and the class that the block then has
pub record Choice : Type 0 where
  pub rank : ℕ
  pub level : Float
  pub taken : ℕ
  pub ka : ℕ
  pub kb : ℕ
  pub class : Class2

unfoldable pub candidate_of : ℕ → ℕ → Class2 → Choice
candidate_of ka kb c = record { rank = rank_of c.kind; level = level_of c.kind; taken = ka + kb; ka = ka; kb = kb; class = c }

-- a score (r, l, k) is strictly better than a score (s, m, j)
unfoldable pub better_of : ℕ → Float → ℕ → ℕ → Float → ℕ → Bool
better_of r l k s m j = ltb r s || (eqb r s && (lt l m || (eq l m && ltb k j)))

-- so is that of the candidate x than that of y
abbrev pub improves : Choice → Choice → Bool
improves x y = better_of x.rank x.level x.taken y.rank y.level y.taken

-- ---- the search

-- the best candidate so far, and whether one so far was angled
pub record Search : Type 0 where
  pub best : Choice
  pub angled : Bool

-- before any candidate: every rank is below 3
abbrev pub no_choice : Mat4 → Choice
no_choice u = record { rank = 3; level = f0; taken = 0; ka = 0; kb = 0; class = class2 (NonGaussian f0) false u false }

-- one candidate more: the best so far, and whether one has been angled
unfoldable pub offer_of : ℕ → ℕ → Class2 → Search → Search
offer_of ka kb c s = record {
  best = cond (improves (candidate_of ka kb c) s.best) (candidate_of ka kb c) s.best;
  angled = s.angled || c.angled;
}

-- a candidate before it is classified: cut ka of the first tail, cut kb of the second
pub record Offer : Type 0 where
  pub ka : ℕ
  pub kb : ℕ

-- cut ka with each cut of the second tail
unfoldable pub offers_of : ℕ → List ℕ → List Offer
offers_of ka [] = []
offers_of ka (kb ∷ kbs) = record { ka = ka; kb = kb } ∷ offers_of ka kbs

-- each cut of the first tail with each of the second
unfoldable pub all_offers : List ℕ → List ℕ → List Offer
all_offers [] kbs = []
all_offers (ka ∷ kas) kbs = offers_of ka kbs ++ all_offers kas kbs

-- the candidates of tails of la and lb gates, in the order in which they are tried
abbrev pub offers : ℕ → ℕ → List Offer
offers la lb = all_offers (cuts la) (cuts lb)

-- the block `base` with cuts of its closing tails; pa t and pb t are what cut t gives
module _ (relabel : Bool) (tol : Float) (base : Mat4) (pa pb : ℕ → Mat2) where
  -- the class that the block then has
  abbrev pub class_of : Offer → Class2
  class_of o = classify2_of relabel tol (mul4_of (kron_of (pa o.ka) (pb o.kb)) base)

  -- each candidate is classified, once
  unfoldable pub try_each : List Offer → Search → Search
  try_each [] s = s
  try_each (o ∷ os) s = try_each os (offer_of o.ka o.kb (class_of o) s)

  -- tails of la and lb gates
  unfoldable pub choose_of : ℕ → ℕ → Search
  choose_of la lb = try_each (offers la lb) (record { best = no_choice base; angled = false })
