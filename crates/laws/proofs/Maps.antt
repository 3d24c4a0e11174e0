-- Laws of a local map on a matrix, over its width: what `dot`, `rows` and `cols` read; a turn of the loop that puts the rows under the map, by stores
-- in a column; a turn of the loop that puts the columns under it, by a part of a row that is lent. Assumes nothing.
use mathlib.Core.Path.{◌≡◌, refl, sym, ap, ◌∙◌}
use mathlib.Core.Logic.{◌⊎◌, inl, inr, ◌≢◌}
use mathlib.Core.Bool.{true, false, cond}
use mathlib.Core.List.{List}
use Prim.Native.Nat.{ℕ, zero, suc, ◌+◌, ◌*◌, ◌-◌, ◌≤◌, ◌<◌}
use native.Mathlib.Nat.{le_refl, add_assoc, add-sub_cancel_left}
use native.Mathlib.Omega.{arith}
use lib.ListN.{length, get_or, take, drop}
use lib.Ieee.{Float, nan}
use borrow.Author.Tests.{lt-ltb, le-ltb, le-leb, lt-leb}
use Rattle.laws.specs.Slices.{on_part}
use Rattle.laws.specs.Matrix.{Mat, at, Is}
use Rattle.laws.specs.Maps.{Local, inside, dot, under, rows, cols, column_turn, rotated, row_turn}
use Rattle.laws.specs.Loops.{up_to, by_row, by_col}
use Rattle.std.proofs.lemmas.Bool.{cases_lt}
use Rattle.laws.proofs.Views.{length-list_of, get_or-list_of}
use Rattle.laws.proofs.Slices.{part_at, length-put, put-before, put-inside, put-after}
use Rattle.laws.proofs.Matrix.{part_in, outside-part, Within}
use Rattle.laws.proofs.Loops.{up_left, more}
use Rattle.laws.proofs.Columns.{column-is, column-more}

-- ---- which indices are the map's

module _ (o : Local) (i : ℕ) where
  pub inside-yes : o.start ≤ i → i < o.start + o.width → inside o i ≡ true
  inside-yes h g = rw (le-leb o.start i h, lt-ltb i (o.start + o.width) g)

  pub inside-below : i < o.start → inside o i ≡ false
  inside-below h = rw (lt-leb o.start i h)

  pub inside-above : o.start + o.width ≤ i → inside o i ≡ false
  inside-above h = rw (le-leb o.start i (omega arith), le-ltb i (o.start + o.width) h)

-- ---- an entry in the map's rows or columns, and one outside them

module _ (o : Local) (m : Mat) where
  pub rows_in : (i c : ℕ) → i < o.width → rows o m (o.start + i) c ≡ under o.width o.map (λ j. m (o.start + j) c) i
  rows_in i c h = rw (inside-yes o (o.start + i) (omega arith) (omega arith), add-sub_cancel_left o.start i)

  pub rows_out : (r c : ℕ) → inside o r ≡ false → rows o m r c ≡ m r c
  rows_out r c h = rw h

  pub cols-in : (r i : ℕ) → i < o.width → cols o m r (o.start + i) ≡ under o.width o.map (λ j. m r (o.start + j)) i
  cols-in r i h = rw (inside-yes o (o.start + i) (omega arith) (omega arith), add-sub_cancel_left o.start i)

  pub cols-out : (r c : ℕ) → inside o c ≡ false → cols o m r c ≡ m r c
  cols-out r c h = rw h

-- ---- only entries within the matrix are read

pub dot-cong : (q v w : ℕ → Float) (k : ℕ) → ((j : ℕ) → j < k → v j ≡ w j) → dot q v k ≡ dot q w k
unfolding dot
dot-cong q v w zero e = refl
dot-cong q v w (suc k) e = rw (dot-cong q v w k (λ j h. e j (omega arith)), e k (omega arith))

-- an entry of the map's rows turns on its column's entries there, one of its columns on its row's
module _ (o : Local) (f g : Mat) (r c : ℕ) where
  pub rows-own : inside o r ≡ true → ((j : ℕ) → j < o.width → f (o.start + j) c ≡ g (o.start + j) c) → rows o f r c ≡ rows o g r c
  rows-own h e = rw h (dot-cong (o.map (r - o.start)) _ _ o.width e)

  pub cols-own : inside o c ≡ true → ((j : ℕ) → j < o.width → f r (o.start + j) ≡ g r (o.start + j)) → cols o f r c ≡ cols o g r c
  cols-own h e = rw h (dot-cong (o.map (c - o.start)) _ _ o.width e)

module _ (o : Local) (dim : ℕ) (band : o.start + o.width ≤ dim) where
  pub rows-within : Within dim (rows o)
  rows-within f g e r c h b =
      λ t. cond (inside o r) (dot-cong (o.map (r - o.start)) _ _ o.width (λ j l. e (o.start + j) c (omega arith) b) t) (e r c h b t)

  pub cols-within : Within dim (cols o)
  cols-within f g e r c h b =
      λ t. cond (inside o c) (dot-cong (o.map (c - o.start)) _ _ o.width (λ j l. e r (o.start + j) h (omega arith)) t) (e r c h b t)

-- ---- the rows step: the first n columns are done

abbrev pub RowsTo : Local → ℕ → List Float → ℕ → List Float → Type 0
RowsTo o dim m₀ n m = Is dim m₀ (up_to by_col n (rows o (at dim m₀)) (at dim m₀)) m

-- column c, as it was before its turn: what is stored, and what stays
module _ (o : Local) (dim c : ℕ) (m₀ m : List Float) (g : c < dim) (band : o.start + o.width ≤ dim) (old : (r : ℕ) → r < dim → at dim m r c ≡ at dim m₀ r c) where
  stored : (i : ℕ) → i < o.width → under o.width o.map (λ j. at dim m (o.start + j) c) i ≡ rows o (at dim m₀) (o.start + i) c
  stored i l = dot-cong (o.map i) _ _ o.width (λ j b. old (o.start + j) (omega arith)) ∙ sym (rows_in o (at dim m₀) i c l)

  kept : (r : ℕ) → (r < o.start) ⊎ (o.start + o.width ≤ r) → rows o (at dim m₀) r c ≡ at dim m₀ r c
  kept r (inl l) = rows_out o (at dim m₀) r c (inside-below o r l)
  kept r (inr l) = rows_out o (at dim m₀) r c (inside-above o r l)

  pub column-own : dim * dim ≤ length m → (r : ℕ) → r < dim → at dim (column_turn o dim c m) r c ≡ rows o (at dim m₀) r c
  column-own room =
      column-is dim o.start o.width c _ m g band (λ r. rows o (at dim m₀) r c) room (λ r h a. old r h ∙ sym (kept r a)) stored

pub rows_more : (o : Local) (dim c : ℕ) (m₀ m m' : List Float) → c < dim → o.start + o.width ≤ dim → dim * dim ≤ length m₀
    → RowsTo o dim m₀ c m → m' ≡ column_turn o dim c m → RowsTo o dim m₀ (c + 1) m'
rows_more o dim c m₀ m m' g band room w e =
    let old : (r : ℕ) → r < dim → at dim m r c ≡ at dim m₀ r c = λ r h. w.each r c h g ∙ up_left by_col _ _ c r c (le_refl c) in
    column-more _ _ dim o.start o.width c _ m₀ m m' band g room (λ r h a. kept o dim c m₀ m g band old r a) (stored o dim c m₀ m g band old) w e

-- ---- the columns step: the first n rows are done

abbrev pub ColsTo : Local → ℕ → List Float → ℕ → List Float → Type 0
ColsTo o dim m₀ n m = Is dim m₀ (up_to by_row n (cols o (at dim m₀)) (at dim m₀)) m

module _ (o : Local) (dim r : ℕ) (m₀ m : List Float) (h : r < dim) (band : o.start + o.width ≤ dim) (room : dim * dim ≤ length m) where
  a : ℕ
  a = r * dim + o.start

  mid : List Float
  mid = take o.width (drop a m)

  part : List Float
  part = rotated o.width o.map mid

  fit : a + o.width ≤ length m
  unfolding a
  fit = omega (arith, part_in dim r o.start o.width h band)

  len : length part ≡ o.width
  unfolding part rotated
  len = length-list_of o.width _

  pub row-long : length (row_turn o dim r m) ≡ length m
  unfolding on_part a mid part
  row-long = length-put a o.width m part nan fit len

  pub row-after : (i : ℕ) → dim * dim ≤ i → get_or (row_turn o dim r m) i nan ≡ get_or m i nan
  unfolding on_part a mid part
  row-after i g = put-after a o.width m part nan fit len i (omega (arith, part_in dim r o.start o.width h band))

  pub row_other : (r' c : ℕ) → r' < dim → c < dim → r' ≢ r → at dim (row_turn o dim r m) r' c ≡ at dim m r' c
  unfolding on_part a mid part
  row_other r' c h' g ne = by (outside-part dim r r' c o.start o.width g band ne)
    where
      by : (r' * dim + c < r * dim + o.start) ⊎ (r * dim + o.start + o.width ≤ r' * dim + c) → at dim (row_turn o dim r m) r' c ≡ at dim m r' c
      by (inl l) = put-before a o.width m part nan fit len (r' * dim + c) l
      by (inr l) = put-after a o.width m part nan fit len (r' * dim + c) l

  pub row-own : ((c : ℕ) → c < dim → at dim m r c ≡ at dim m₀ r c) → (c : ℕ) → c < dim → at dim (row_turn o dim r m) r c ≡ cols o (at dim m₀) r c
  unfolding on_part a mid part rotated
  row-own old c g = by (cases_lt c s) (cases_lt c (s + k))
    where
      s : ℕ
      s = o.start

      k : ℕ
      k = o.width

      by : (c < s) ⊎ (s ≤ c) → (c < s + k) ⊎ (s + k ≤ c) → at dim (row_turn o dim r m) r c ≡ cols o (at dim m₀) r c
      by (inl l) _ = rw (inside-below o c l) (put-before a k m part nan fit len (r * dim + c) (omega arith) ∙ old c g)
      by (inr l) (inr l') = rw (inside-above o c l') (put-after a k m part nan fit len (r * dim + c) (omega arith) ∙ old c g)
      by (inr l) (inl l') =
          rw (inside-yes o c l l')
          (ap (λ n. get_or (row_turn o dim r m) n nan) e
          ∙ put-inside a k m part nan fit len (c - s) (omega arith)
          ∙ get_or-list_of k _ (c - s) nan (omega arith)
          ∙ dot-cong (o.map (c - s)) _ _ k from)
        where
          e : r * dim + c ≡ a + (c - s)
          e = omega arith

          from : (j : ℕ) → j < k → get_or mid j nan ≡ at dim m₀ r (s + j)
          from j b = part_at a k m nan j b ∙ ap (λ n. get_or m n nan) (add_assoc (r * dim) s j) ∙ old (s + j) (omega arith)

pub cols-more : (o : Local) (dim r : ℕ) (m₀ m m' : List Float) → r < dim → o.start + o.width ≤ dim → dim * dim ≤ length m₀
    → ColsTo o dim m₀ r m → m' ≡ row_turn o dim r m → ColsTo o dim m₀ (r + 1) m'
cols-more o dim r m₀ m m' h band room w e =
    let room' : dim * dim ≤ length m = rw w.long room in
    rw e
    (more by_row _ _ dim r m₀ m _ w
    (row-long o dim r m₀ m h band room')
    (row-after o dim r m₀ m h band room')
    (row_other o dim r m₀ m h band room')
    (λ r' c h' g e'. rw e' (row-own o dim r m₀ m h band room' (λ c g. w.each r c h g ∙ up_left by_row _ _ r r c (le_refl r)) c g)))
