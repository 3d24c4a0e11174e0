-- The comparison of scores: the code's derived order is the definition's, and any candidate is better than none. By cases on the tests.
-- Assumes nothing.
use mathlib.Core.Path.{◌≡◌, refl, sym, ap, ◌∙◌}
use mathlib.Core.Bool.{Bool, true, false, cond, ◌&&◌, ◌||◌}
use Prim.Native.Nat.{ℕ, ◌+◌}
use lib.Dec.{eqb, ltb}
use lib.Ieee.{Float, lt, eq}
use Rattle.std.specs.Prelude.{Some, None}
use Rattle.std.specs.declared.cmp.Ordering.TheVariants.{Less, Equal, Greater}
use Rattle.std.specs.Ordering.{partial_lt, is_lt, is_some_and, partial_ordering_then}
use Rattle.gate.specs.Complex.{f0}
use Rattle.gate.specs.declared.matrix.Mat4.{Mat4}
use Rattle.classify.specs.Classify.{rank_of, rank_number}
use Rattle.classify.specs.declared.classify.Rank.{Rank}
use Rattle.classify.specs.declared.classify.Rank.TheVariants as rank
use Rattle.classify.specs.declared.classify.Class2.{Class2}
use Rattle.classify.specs.declared.classify.Kind2.{Kind2}
use Rattle.classify.specs.declared.classify.Kind2.TheVariants.{Diag, Interaction, Match, NonGaussian}
use Rattle.resolve.specs.contracts.choose.ScorePartialOrd.TheImpl as score
use Rattle.resolve.specs.declared.choose.Score.{Score}
use Rattle.resolve.specs.declared.choose.Choice.{Choice as Candidate}
use Rattle.resolve.specs.declared.choose.Search.{Search as Searched}
use Rattle.resolve.specs.Choose.{Choice, Search, level_of, candidate_of, better_of, improves, no_choice, offer_of}
use Rattle.resolve.specs.Searched.{choice_of, best_of, search_of}

by_tests : (t e l q g k d : Bool)
    → is_some_and is_lt (partial_ordering_then (Some (cond t Less (cond e Equal Greater))) (partial_ordering_then (cond l (Some Less) (cond q (Some Equal) (cond g (Some Greater) None))) (Some (cond k Less (cond d Equal Greater)))))
    ≡ (t || (e && (l || (q && k))))
by_tests true e l q g k d = refl
by_tests false false l q g k d = refl
by_tests false true true q g k d = refl
by_tests false true false true g true d = refl
by_tests false true false true g false true = refl
by_tests false true false true g false false = refl
by_tests false true false false true k d = refl
by_tests false true false false false k d = refl

-- the derived order
by_ranks : (r s : Rank) (l m : Float) (k j : ℕ)
    → partial_lt score.partial_cmp-value.it (record { rank = r; level = l; taken = k }) (record { rank = s; level = m; taken = j }) ≡ better_of (rank_number r) l k (rank_number s) m j
unfolding better_of
by_ranks rank.Gaussian rank.Gaussian l m k j = by_tests false true (lt l m) (eq l m) (lt m l) (ltb k j) (eqb k j)
by_ranks rank.Gaussian rank.Interaction l m k j = refl
by_ranks rank.Gaussian rank.Neither l m k j = refl
by_ranks rank.Interaction rank.Gaussian l m k j = refl
by_ranks rank.Interaction rank.Interaction l m k j = by_tests false true (lt l m) (eq l m) (lt m l) (ltb k j) (eqb k j)
by_ranks rank.Interaction rank.Neither l m k j = refl
by_ranks rank.Neither rank.Gaussian l m k j = refl
by_ranks rank.Neither rank.Interaction l m k j = refl
by_ranks rank.Neither rank.Neither l m k j = by_tests false true (lt l m) (eq l m) (lt m l) (ltb k j) (eqb k j)

pub score-less : (x y : Score) → partial_lt score.partial_cmp-value.it x y ≡ better_of (rank_number x.rank) x.level x.taken (rank_number y.rank) y.level y.taken
score-less x y = by_ranks x.rank y.rank x.level y.level x.taken y.taken

-- the level of a block that is neither, and of any other
pub level-neither : (k : Kind2) (r : Float) → k ≡ NonGaussian r → r ≡ level_of k
unfolding level_of
level-neither k r e = rw e

pub level-other : (k : Kind2) → ((r : Float) → k ≡ NonGaussian r → ⊥) → f0 ≡ level_of k
unfolding level_of
level-other Diag n = refl
level-other Interaction n = refl
level-other (Match r) n = refl
level-other (NonGaussian r) n = absurd (n r refl)

any-improves : (kind : Kind2) (l : Float) (n : ℕ) → better_of (rank_of kind) l n 3 f0 0 ≡ true
unfolding better_of
any-improves Diag l n = refl
any-improves Interaction l n = refl
any-improves (Match r) l n = refl
any-improves (NonGaussian r) l n = refl

pub first-improves : (base : Mat4) (ka kb : ℕ) (c : Class2) (x : Choice) → x ≡ candidate_of ka kb c → improves x (no_choice base) ≡ true
unfolding candidate_of
first-improves base ka kb c x e = ap (λ y. improves y (no_choice base)) e ∙ any-improves c.kind (level_of c.kind) (ka + kb)

-- a search with the better of y and of the best so far
abbrev better : Class2 → Search → Choice → Bool → Search
better c s y t = record { best = cond t y s.best; angled = s.angled || c.angled }

offered : (ka kb : ℕ) (c : Class2) (s : Search) (y : Choice) (t : Bool) → y ≡ candidate_of ka kb c → improves y s.best ≡ t → better c s y t ≡ offer_of ka kb c s
unfolding offer_of
offered ka kb c s y t e h = ap (better c s y) (sym h) ∙ ap (λ (z : Choice). better c s z (improves z s.best)) e

pub offer-is : (base : Mat4) (ka kb : ℕ) (c : Class2) (s : Searched) (x : Candidate) (t : Bool) (best : Candidate) → choice_of x ≡ candidate_of ka kb c
    → improves (choice_of x) (best_of base s.best) ≡ t → choice_of best ≡ cond t (choice_of x) (best_of base s.best)
    → search_of base (record { best = Some best; angled = s.angled || c.angled }) ≡ offer_of ka kb c (search_of base s)
offer-is base ka kb c s x t best e h b = ap (λ (y : Choice). better c (search_of base s) y true) b ∙ offered ka kb c (search_of base s) (choice_of x) t e h
