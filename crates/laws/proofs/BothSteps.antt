-- Both steps of a map of two indices, 2 h and 2 h + 1, in one loop: turn t makes the columns 2 t and 2 t + 1 and then the rows 2 t and 2 t + 1.
-- The steps do not get into each other's way: only the map's own rows are read by the first, and where a turn makes them it made their columns before.
-- Assumes nothing.
use mathlib.Core.Path.{◌≡◌, refl, sym, ◌∙◌}
use mathlib.Core.Logic.{◌⊎◌, inl, inr, ◌≢◌, ⊎_elim}
use mathlib.Core.Bool.{Bool, true, false, true≢false}
use mathlib.Core.List.{List}
use Prim.Native.Nat.{ℕ, ◌+◌, ◌*◌, ◌/◌, ◌≤◌, ◌<◌}
use native.Mathlib.Nat.{le_of_eq}
use native.Mathlib.Omega.{arith}
use lib.ListN.{length, get_or}
use lib.Ieee.{Float, nan}
use Rattle.laws.specs.Matrix.{Mat, at, Is}
use Rattle.laws.specs.Maps.{Local, inside, rows, cols, column_turn, row_turn, pair_turn}
use Rattle.laws.specs.Loops.{up_to, by_pairs}
use Rattle.std.proofs.lemmas.Bool.{cases_lt, cases_eq, cases_Bool, false_from_ne_true, cond_both}
use Rattle.laws.proofs.Loops.{up_left, more}
use Rattle.laws.proofs.Columns.{column-long, column-after, column-other}
use Rattle.laws.proofs.Maps.{inside-yes, inside-below, inside-above, rows_out, cols-out, rows-own, cols-own}
use Rattle.laws.proofs.Maps.{column-own, row-long, row-after, row_other, row-own}

-- an index by its half
half_of : (c t : ℕ) → c / 2 ≡ t → (c ≡ 2 * t) ⊎ (c ≡ 2 * t + 1)
half_of c t e = ⊎_elim (λ l. inl (omega arith)) (λ l. inr (omega arith)) (cases_lt c (2 * t + 1))

-- ---- a turn: two columns, then two rows

module _ (o : Local) (n t : ℕ) (m : List Float) (h : t < n) (band : o.start + o.width ≤ 2 * n) (room : 2 * n * (2 * n) ≤ length m) where
  dim : ℕ
  dim = 2 * n

  m₁ : List Float
  m₁ = column_turn o dim (2 * t) m

  m₂ : List Float
  m₂ = column_turn o dim (2 * t + 1) m₁

  m₃ : List Float
  m₃ = row_turn o dim (2 * t) m₂

  m₄ : List Float
  m₄ = row_turn o dim (2 * t + 1) m₃

  a : 2 * t < dim
  unfolding dim
  a = omega arith

  b : 2 * t + 1 < dim
  unfolding dim
  b = omega arith

  long₁ : length m₁ ≡ length m
  unfolding dim m₁
  long₁ = column-long dim _ _ (2 * t) _ m a band

  room₁ : dim * dim ≤ length m₁
  unfolding dim m₁
  room₁ = rw long₁ room

  long₂ : length m₂ ≡ length m
  unfolding dim m₁ m₂
  long₂ = column-long dim _ _ (2 * t + 1) _ m₁ b band ∙ long₁

  room₂ : dim * dim ≤ length m₂
  unfolding dim m₁ m₂
  room₂ = rw long₂ room

  long₃ : length m₃ ≡ length m
  unfolding dim m₁ m₂ m₃
  long₃ = row-long o dim (2 * t) m m₂ a band room₂ ∙ long₂

  room₃ : dim * dim ≤ length m₃
  unfolding dim m₁ m₂ m₃
  room₃ = rw long₃ room

  long₄ : length m₄ ≡ length m
  unfolding dim m₁ m₂ m₃ m₄
  long₄ = row-long o dim (2 * t + 1) m m₃ b band room₃ ∙ long₃

  after₄ : (i : ℕ) → dim * dim ≤ i → get_or m₄ i nan ≡ get_or m i nan
  unfolding dim m₁ m₂ m₃ m₄
  after₄ i g =
      row-after o dim (2 * t + 1) m m₃ b band room₃ i g
      ∙ row-after o dim (2 * t) m m₂ a band room₂ i g
      ∙ column-after dim _ _ (2 * t + 1) _ m₁ b band i g
      ∙ column-after dim _ _ (2 * t) _ m a band i g

  -- the turn's own columns, and the others
  column-pair : (r c : ℕ) → r < dim → c < dim → c / 2 ≡ t → at dim m₂ r c ≡ rows o (at dim m) r c
  unfolding dim m₁ m₂
  column-pair r c hr hc e = by (half_of c t e)
    where
      by : (c ≡ 2 * t) ⊎ (c ≡ 2 * t + 1) → at dim m₂ r c ≡ rows o (at dim m) r c
      by (inl e) =
          rw e
          (column-other dim _ _ (2 * t + 1) _ m₁ b band r (2 * t) a (λ e. omega arith) ∙ column-own o dim (2 * t) m m a band (λ r h. refl) room r hr)
      by (inr e) =
          rw e
          (column-own o dim (2 * t + 1) m m₁ b band (λ r h. column-other dim _ _ (2 * t) _ m a band r (2 * t + 1) b (λ e. omega arith)) room₁ r hr)

  column-away : (r c : ℕ) → r < dim → c < dim → c / 2 ≢ t → at dim m₂ r c ≡ at dim m r c
  unfolding dim m₁ m₂
  column-away r c hr hc ne =
      column-other dim _ _ (2 * t + 1) _ m₁ b band r c hc (λ e. ne (omega arith)) ∙ column-other dim _ _ (2 * t) _ m a band r c hc (λ e. ne (omega arith))

  -- the turn's own rows, and the others
  row-pair : (r c : ℕ) → r < dim → c < dim → r / 2 ≡ t → at dim m₄ r c ≡ cols o (at dim m₂) r c
  unfolding dim m₁ m₂ m₃ m₄
  row-pair r c hr hc e = by (half_of r t e)
    where
      by : (r ≡ 2 * t) ⊎ (r ≡ 2 * t + 1) → at dim m₄ r c ≡ cols o (at dim m₂) r c
      by (inl e) =
          rw e
          (row_other o dim (2 * t + 1) m m₃ b band room₃ (2 * t) c a hc (λ e. omega arith)
          ∙ row-own o dim (2 * t) m₂ m₂ a band room₂ (λ c h. refl) c hc)
      by (inr e) =
          rw e
          (row-own o dim (2 * t + 1) m₂ m₃ b band room₃
          (λ c h. row_other o dim (2 * t) m₂ m₂ a band room₂ (2 * t + 1) c b h (λ e. omega arith)) c hc)

  row-away : (r c : ℕ) → r < dim → c < dim → r / 2 ≢ t → at dim m₄ r c ≡ at dim m₂ r c
  unfolding dim m₁ m₂ m₃ m₄
  row-away r c hr hc ne =
      row_other o dim (2 * t + 1) m m₃ b band room₃ r c hr hc (λ e. ne (omega arith))
      ∙ row_other o dim (2 * t) m m₂ a band room₂ r c hr hc (λ e. ne (omega arith))

-- ---- the loop: the first t pairs are done

abbrev pub PairsTo : Local → ℕ → List Float → ℕ → List Float → Type 0
PairsTo o dim m₀ t m = Is dim m₀ (up_to (by_pairs (inside o)) t (cols o (rows o (at dim m₀))) (at dim m₀)) m

module _ (o : Local) (k n t : ℕ) (m₀ m : List Float) (start : o.start ≡ 2 * k) (width : o.width ≡ 2) (h : t < n)
    (band : o.start + o.width ≤ 2 * n) (room : 2 * n * (2 * n) ≤ length m) (w : PairsTo o (2 * n) m₀ t m) where
  d : ℕ
  d = 2 * n

  f : Mat
  f = at d m₀

  -- the map's indices are those of the half k
  own-half : (i : ℕ) → inside o i ≡ true → i / 2 ≡ k
  own-half i e = by (cases_lt i o.start) (cases_lt i (o.start + o.width))
    where
      by : (i < o.start) ⊎ (o.start ≤ i) → (i < o.start + o.width) ⊎ (o.start + o.width ≤ i) → i / 2 ≡ k
      by (inl l) _ = absurd (true≢false (sym e ∙ inside-below o i l))
      by (inr l) (inr l') = absurd (true≢false (sym e ∙ inside-above o i l'))
      by (inr l) (inl l') = omega (arith, start, width)

  half-own : (i : ℕ) → i / 2 ≡ k → inside o i ≡ true
  half-own i e = inside-yes o i (omega (arith, start)) (omega (arith, start, width))

  not_own : (i : ℕ) → i / 2 ≢ k → inside o i ≡ false
  not_own i ne = false_from_ne_true (inside o i) (λ e. ne (own-half i e))

  -- a row's entries turn on that row's
  cols-row : (g g' : Mat) (r c : ℕ) → r < d → c < d → ((c' : ℕ) → c' < d → g r c' ≡ g' r c') → cols o g r c ≡ cols o g' r c
  unfolding d
  cols-row g g' r c hr hc e = by (cases_Bool (inside o c))
    where
      by : (inside o c ≡ true) ⊎ (inside o c ≡ false) → cols o g r c ≡ cols o g' r c
      by (inl own) = cols-own o g g' r c own (λ j l. e (o.start + j) (omega arith))
      by (inr out) = cols-out o g r c out ∙ e c hc ∙ sym (cols-out o g' r c out)

  -- what the turn reads is not made yet
  left : (r c : ℕ) → r < d → c < d → by_pairs (inside o) r c ≡ t → at d m r c ≡ f r c
  unfolding d f
  left r c hr hc e = w.each r c hr hc ∙ up_left (by_pairs (inside o)) _ _ t r c (le_of_eq (sym e))

  -- a row that is not the map's is as it was until its columns are made
  apart : (r c : ℕ) → r < d → c < d → inside o r ≡ false → at d (m₂ o n t m h band room) r c ≡ at d m r c
  unfolding d dim
  apart r c hr hc out = by (cases_eq (c / 2) t)
    where
      by : (c / 2 ≡ t) ⊎ (c / 2 ≢ t) → at d (m₂ o n t m h band room) r c ≡ at d m r c
      by (inl e) = column-pair o n t m h band room r c hr hc e ∙ rows_out o (at d m) r c out
      by (inr ne) = column-away o n t m h band room r c hr hc ne

  -- an entry in the map's rows and the turn's columns
  rowed : (r c : ℕ) → r < d → c < d → inside o r ≡ true → c / 2 ≡ t → at d (m₂ o n t m h band room) r c ≡ rows o f r c
  unfolding d dim f
  rowed r c hr hc own e =
      column-pair o n t m h band room r c hr hc e
      ∙ rows-own o (at d m) f r c own (λ j l. left (o.start + j) c (omega arith) hc (rw (half-own (o.start + j) (omega (arith, start, width))) e))

  -- entries of another turn stay
  other : (r c : ℕ) → r < d → c < d → by_pairs (inside o) r c ≢ t → at d (m₄ o n t m h band room) r c ≡ at d m r c
  unfolding d dim
  other r c hr hc = by (cases_Bool (inside o r))
    where
      by : (inside o r ≡ true) ⊎ (inside o r ≡ false) → by_pairs (inside o) r c ≢ t → at d (m₄ o n t m h band room) r c ≡ at d m r c
      by (inl own) ne = on (cases_eq (r / 2) t) ∙ column-away o n t m h band room r c hr hc ne'
        where
          ne' : c / 2 ≢ t
          ne' e = ne (rw own e)

          on : (r / 2 ≡ t) ⊎ (r / 2 ≢ t) → at d (m₄ o n t m h band room) r c ≡ at d (m₂ o n t m h band room) r c
          on (inl e) =
              row-pair o n t m h band room r c hr hc e
              ∙ cols-out o (at d (m₂ o n t m h band room)) r c (not_own c (λ e'. ne' (e' ∙ sym (own-half r own) ∙ e)))
          on (inr ne) = row-away o n t m h band room r c hr hc ne
      by (inr out) ne = row-away o n t m h band room r c hr hc (λ e. ne (rw out e)) ∙ apart r c hr hc out

  -- those of this turn are made
  made-now : (r c : ℕ) → r < d → c < d → by_pairs (inside o) r c ≡ t → at d (m₄ o n t m h band room) r c ≡ cols o (rows o f) r c
  unfolding d dim f
  made-now r c hr hc = by (cases_Bool (inside o r)) (cases_Bool (inside o c))
    where
      by : (inside o r ≡ true) ⊎ (inside o r ≡ false) → (inside o c ≡ true) ⊎ (inside o c ≡ false) → by_pairs (inside o) r c ≡ t
          → at d (m₄ o n t m h band room) r c ≡ cols o (rows o f) r c
      by (inl own) (inl own') e =
          let here : c / 2 ≡ t = sym (rw own) ∙ e in
          row-pair o n t m h band room r c hr hc (own-half r own ∙ sym (own-half c own') ∙ here)
          ∙ cols-own o (at d (m₂ o n t m h band room)) (rows o f) r c own'
          (λ j l. rowed r (o.start + j) hr (omega arith) own (omega (arith, start, width, own-half c own', here)))
      by (inl own) (inr out) e =
          let here : c / 2 ≡ t = sym (rw own) ∙ e in
          row-away o n t m h band room r c hr hc (λ e'. true≢false (sym (half-own c (here ∙ sym e' ∙ own-half r own)) ∙ out))
          ∙ rowed r c hr hc own here
          ∙ sym (cols-out o (rows o f) r c out)
      by (inr out) _ e =
          let here : r / 2 ≡ t = sym (rw out) ∙ e in
          row-pair o n t m h band room r c hr hc here
          ∙ cols-row (at d (m₂ o n t m h band room)) (rows o f) r c hr hc
          (λ c' hc'. apart r c' hr hc' out ∙ left r c' hr hc' (rw out here) ∙ sym (rows_out o f r c' out))

pub pairs-more : (o : Local) (k n t : ℕ) (m₀ m m' : List Float) → o.start ≡ 2 * k → o.width ≡ 2 → t < n → o.start + o.width ≤ 2 * n
    → 2 * n * (2 * n) ≤ length m₀ → PairsTo o (2 * n) m₀ t m → m' ≡ pair_turn o (2 * n) (2 * t) m → PairsTo o (2 * n) m₀ (t + 1) m'
unfolding dim m₁ m₂ m₃ m₄ d f
pairs-more o k n t m₀ m m' start width h band room w e =
    let room' : 2 * n * (2 * n) ≤ length m = rw w.long room in
    rw e
    (more (by_pairs (inside o)) _ _ (2 * n) t m₀ m _ w (long₄ o n t m h band room') (after₄ o n t m h band room')
    (other o k n t m₀ m start width h band room' w)
    (made-now o k n t m₀ m start width h band room' w))

-- each entry has its turn
pub pairs_below : (own : ℕ → Bool) (n r c : ℕ) → r < 2 * n → c < 2 * n → by_pairs own r c < n
pairs_below own n r c h g = cond_both (own r) (c / 2) (r / 2) (λ k. k < n) (λ _. omega arith) (λ _. omega arith)
