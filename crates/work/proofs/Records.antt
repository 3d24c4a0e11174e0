-- Laws of the marks: what is put is read back, other columns and other records stay; and of "only these columns have changed".
-- A place has its record and its column in one way, by linear arithmetic. Assumes nothing.
use mathlib.Core.Path.{◌≡◌, refl, sym, ap, ◌∙◌}
use mathlib.Core.Logic.{◌≢◌}
use mathlib.Core.Bool.{Bool, true, false, true≢false}
use mathlib.Core.List.{List}
use Prim.Native.Nat.{ℕ, ◌<◌}
use native.Mathlib.Omega.{arith}
use lib.ListN.{length, length-set}
use lib.Seq.{get_or-set_same, get_or-set_other}
use Rattle.work.specs.Sizes.{record_marks}
use Rattle.work.specs.Marks.{mark_place, mark_at, put_mark, Only}

-- ---- addresses

-- an address has one column
column-of : (i j c d : ℕ) → c < record_marks → d < record_marks → c ≢ d → mark_place j d ≢ mark_place i c
column-of i j c d hc hd ne e = ne (omega (arith, e, hc, hd))

-- and one record
record_of : (i j c : ℕ) → j ≢ i → mark_place j c ≢ mark_place i c
record_of i j c ne e = ne (omega (arith, e))

-- ---- one mark put

module _ (us : List ℕ) (i c v : ℕ) where
  pub put-size : length (put_mark us i c v) ≡ length us
  unfolding put_mark
  put-size = length-set us (mark_place i c) v

  pub put-here : mark_place i c < length us → mark_at (put_mark us i c v) i c ≡ v
  unfolding put_mark mark_at
  put-here h = get_or-set_same us (mark_place i c) v 0 h

  -- another column stays, in every record
  pub put-column : (j d : ℕ) → c < record_marks → d < record_marks → c ≢ d → mark_at (put_mark us i c v) j d ≡ mark_at us j d
  unfolding put_mark mark_at
  put-column j d hc hd ne = get_or-set_other us (mark_place i c) (mark_place j d) v 0 (column-of i j c d hc hd ne)

  -- the same column in another record stays
  pub put_record : (j : ℕ) → j ≢ i → mark_at (put_mark us i c v) j c ≡ mark_at us j c
  unfolding put_mark mark_at
  put_record j ne = get_or-set_other us (mark_place i c) (mark_place j c) v 0 (record_of i j c ne)

-- ---- only these columns

module _ (p : ℕ → Bool) where
  pub only_same : (us : List ℕ) → Only p us us
  only_same us = record { size = refl; same = λ i c h e. refl }

  pub only-trans : (us vs ws : List ℕ) → Only p us vs → Only p vs ws → Only p us ws
  only-trans us vs ws a b = record { size = b.size ∙ a.size; same = λ i c h e. b.same i c h e ∙ a.same i c h e }

  pub only-put : (us : List ℕ) (i c v : ℕ) → c < record_marks → p c ≡ true → Only p us (put_mark us i c v)
  only-put us i c v h t = record { size = put-size us i c v; same = λ j d hd e. put-column us i c v j d h hd (other d e) }
    where
      other : (d : ℕ) → p d ≡ false → c ≢ d
      other d e q = true≢false (sym t ∙ ap p q ∙ e)

  -- a wider choice of columns
  pub only_wider : (q : ℕ → Bool) (us vs : List ℕ) → ((c : ℕ) → q c ≡ false → p c ≡ false) → Only p us vs → Only q us vs
  only_wider q us vs w o = record { size = o.size; same = λ i c h e. o.same i c h (w c e) }
