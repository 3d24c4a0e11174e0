-- The greedy path cover (000, `path_order`): a list of paths, each a list of wires. An edge between ends of two paths joins them, any other is left.
-- "Degree below 2" is "an end of its path", "no cycle" is "of another path", and no union-find is needed. Assumes nothing. A public promise rests on this.
use Rattle.std.specs.Prelude.{Bool, true, false, cond, List, [], ◌∷◌, ℕ, eqb}
use Rattle.laws.specs.Views.{up_from, list_of}
use Rattle.order.specs.declared.edges.Edge.{Edge}

-- the wires 0, 1, .., n - 1
unfoldable pub wires : ℕ → List ℕ
unfolding up_from
wires n = list_of n (λ w. w)

-- ---- one path

-- p turned round, before q
unfoldable pub onto : List ℕ → List ℕ → List ℕ
onto [] q = q
onto (x ∷ p) q = onto p (x ∷ q)

-- the last wire of x ∷ p
unfoldable pub final : ℕ → List ℕ → ℕ
final x [] = x
final x (y ∷ p) = final y p

abbrev pub starts_with : ℕ → List ℕ → Bool
starts_with w [] = false
starts_with w (x ∷ p) = eqb x w

abbrev pub ends_with : ℕ → List ℕ → Bool
ends_with w [] = false
ends_with w (x ∷ p) = eqb (final x p) w

-- ---- the path with a given end

-- no path has the end, or: that path, turned so that it starts there, and the others
pub data Pull : Type 0 where
  none : Pull
  got : List ℕ → List (List ℕ) → Pull

abbrev pub behind : List ℕ → Pull → Pull
behind p none = none
behind p (got q qs) = got q (p ∷ qs)

unfoldable pub pull : ℕ → List (List ℕ) → Pull
unfolding onto final
pull w [] = none
pull w (p ∷ ps) = cond (starts_with w p) (got p ps) (cond (ends_with w p) (got (onto p []) ps) (behind p (pull w ps)))

-- ---- the cover

-- the paths so far, and whether every edge was kept
pub record Cover : Type 0 where
  pub paths : List (List ℕ)
  pub all : Bool

abbrev pub left : Cover → Cover
left c = record { paths = c.paths; all = false }

abbrev pub with_second : List ℕ → Pull → Cover → Cover
with_second p none c = left c
with_second p (got q rs) c = record { paths = onto p q ∷ rs; all = c.all }

abbrev pub with_first : ℕ → Pull → Cover → Cover
with_first b none c = left c
with_first b (got p qs) c = with_second p (pull b qs) c

-- the edge a b: the two paths that end there become one
abbrev pub join_of : ℕ → ℕ → Cover → Cover
join_of a b c = with_first b (pull a c.paths) c

unfoldable pub cover_from : List Edge → Cover → Cover
unfolding pull
cover_from [] c = c
cover_from (e ∷ es) c = cover_from es (join_of e.lo e.hi c)

-- each wire alone
unfoldable pub singles : List ℕ → List (List ℕ)
singles [] = []
singles (w ∷ ws) = (w ∷ []) ∷ singles ws

abbrev pub alone : ℕ → Cover
alone n = record { paths = singles (wires n); all = true }

unfoldable pub cover_of : ℕ → List Edge → Cover
unfolding cover_from singles wires
cover_of n es = cover_from es (alone n)
