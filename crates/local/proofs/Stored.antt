-- Laws of the state in a slice: `stored` and `Stored`, the two ways to say that it was made anew; what is read back; one state after another; a step
-- on the matrix, and signs that turn. Assumes nothing.
use mathlib.Core.Path.{◌≡◌, refl, sym, ap, ◌∙◌}
use mathlib.Core.Logic.{◌⊎◌, inl, inr}
use mathlib.Core.Bool.{cond}
use mathlib.Core.List.{List, map}
use Prim.Native.Nat.{ℕ, ◌+◌, ◌*◌, ◌-◌, ◌≤◌, ◌<◌}
use native.Mathlib.Nat.{add-sub_cancel_left}
use native.Mathlib.Omega.{arith}
use lib.Dec.{leb}
use lib.ListN.{length, get_or, get_or-eq_default}
use lib.Ieee.{Float, nan, neg}
use borrow.Author.Tests.{lt-ltb, le-ltb, le-leb, lt-leb}
use Rattle.laws.specs.Slices.{on_part}
use Rattle.laws.specs.Matrix.{Mat, at, matrix}
use Rattle.std.proofs.lemmas.Bool.{cases_lt}
use Rattle.laws.proofs.Slices.{mapped_part-long, mapped_part-before, mapped_part-inside, mapped_part-after}
use Rattle.laws.proofs.Views.{length-list_of, get_or-list_of}
use Rattle.laws.proofs.Matrix.{place_in, Within, is-matrix, matrix-is}
use Rattle.local.specs.Bounds.{state_places}
use Rattle.local.specs.State.{State, state_at, with_signs, stored, Stored}

-- ---- the signs after the matrix

module _ (dim : ℕ) (d : ℕ → Float) (s : List Float) where
  length-signed : length (with_signs dim d s) ≡ length s
  unfolding with_signs
  length-signed = length-list_of (length s) _

  signed-before : (i : ℕ) → i < dim * dim → state_places dim ≤ length s → get_or (with_signs dim d s) i nan ≡ get_or s i nan
  unfolding with_signs
  signed-before i h room = rw (get_or-list_of (length s) _ i nan (omega arith), lt-leb (dim * dim) i h)

  signed-at : (i : ℕ) → i < dim → state_places dim ≤ length s → get_or (with_signs dim d s) (dim * dim + i) nan ≡ d i
  unfolding with_signs
  signed-at i h room =
      let a : dim * dim ≤ dim * dim + i = omega arith in
      let b : dim * dim + i < state_places dim = omega arith in
      rw (
        get_or-list_of (length s) _ (dim * dim + i) nan (omega arith),
        le-leb (dim * dim) (dim * dim + i) a,
        lt-ltb (dim * dim + i)
            (state_places dim) b,
      )
      (ap d (add-sub_cancel_left (dim * dim) i))

  signed-after : (i : ℕ) → state_places dim ≤ i → get_or (with_signs dim d s) i nan ≡ get_or s i nan
  unfolding with_signs
  signed-after i h = by (cases_lt i (length s))
    where
      a : dim * dim ≤ i
      a = omega arith

      by : (i < length s) ⊎ (length s ≤ i) → get_or (with_signs dim d s) i nan ≡ get_or s i nan
      by (inl g) = rw (get_or-list_of (length s) _ i nan g, le-leb (dim * dim) i a, le-ltb i (state_places dim) h)
      by (inr g) = get_or-eq_default (with_signs dim d s) nan (rw length-signed g) ∙ sym (get_or-eq_default s nan g)

-- ---- the two ways

pub stored_is : (dim : ℕ) (s₀ : List Float) (t : State) (s : List Float) → state_places dim ≤ length s₀ → s ≡ stored dim t s₀ → Stored dim s₀ t s
unfolding stored
stored_is dim s₀ t s room e =
    let n = length-signed dim t.d s₀ in
    let w = matrix-is dim (with_signs dim t.d s₀) t.m s (omega arith) e in record {
      long = w.long ∙ n;
      entry = w.each;
      sign = λ i h. w.after (dim * dim + i) (omega arith) ∙ signed-at dim t.d s₀ i h room;
      after = λ i h. w.after i (omega arith) ∙ signed-after dim t.d s₀ i h;
    }

pub is-stored : (dim : ℕ) (s₀ : List Float) (t : State) (s : List Float) → state_places dim ≤ length s₀ → Stored dim s₀ t s → s ≡ stored dim t s₀
unfolding stored
is-stored dim s₀ t s room w =
    is-matrix dim (with_signs dim t.d s₀) t.m s
    (record { long = w.long ∙ sym (length-signed dim t.d s₀); each = w.entry; after = λ i h. one i h (cases_lt i (state_places dim)) })
  where
    one : (i : ℕ) → dim * dim ≤ i → (i < state_places dim) ⊎ (state_places dim ≤ i) → get_or s i nan ≡ get_or (with_signs dim t.d s₀) i nan
    one i h (inl g) =
        let e : i ≡ dim * dim + (i - dim * dim) = omega arith in
        let b : i - dim * dim < dim = omega arith in
        ap (λ n. get_or s n nan) e ∙ w.sign (i - dim * dim) b ∙ sym (signed-at dim t.d s₀ (i - dim * dim) b room)
        ∙ ap (λ n. get_or (with_signs dim t.d s₀) n nan) (sym e)
    one i h (inr g) = w.after i g ∙ sym (signed-after dim t.d s₀ i g)

-- nothing made anew
pub same : (dim : ℕ) (s : List Float) → Stored dim s (state_at dim s) s
same dim s = record { long = refl; entry = λ r c h g. refl; sign = λ i h. refl; after = λ i h. refl }

pub stored_same : (dim : ℕ) (s : List Float) → state_places dim ≤ length s → s ≡ stored dim (state_at dim s) s
stored_same dim s room = is-stored dim s (state_at dim s) s room (same dim s)

-- ---- states that agree on dim rows

pub record Alike (dim : ℕ) (t u : State) : Type 0 where
  pub entries : (r c : ℕ) → r < dim → c < dim → t.m r c ≡ u.m r c
  pub signs : (i : ℕ) → i < dim → t.d i ≡ u.d i

-- only these rows are stored
pub alike_is : (dim : ℕ) (s₀ : List Float) (t u : State) (s : List Float) → Stored dim s₀ t s → Alike dim t u → Stored dim s₀ u s
alike_is dim s₀ t u s w a = record {
  long = w.long;
  entry = λ r c h g. w.entry r c h g ∙ a.entries r c h g;
  sign = λ i h. w.sign i h ∙ a.signs i h;
  after = w.after;
}

-- what is stored is read back
pub read_back : (dim : ℕ) (s₀ : List Float) (t : State) (s : List Float) → Stored dim s₀ t s → Alike dim (state_at dim s) t
read_back dim s₀ t s w = record { entries = w.entry; signs = w.sign }

-- one state after another: the last is what stands there
pub is-then : (dim : ℕ) (s₀ s s' : List Float) (t u : State) → Stored dim s₀ t s → Stored dim s u s' → Stored dim s₀ u s'
is-then dim s₀ s s' t u w w' = record {
  long = w'.long ∙ w.long;
  entry = w'.entry;
  sign = w'.sign;
  after = λ i b. w'.after i b ∙ w.after i b;
}

-- ---- steps on the state in a slice

-- a step on the matrix that reads only entries of it
pub matrix-step : (dim : ℕ) (s₀ s s' : List Float) (t : State) (f : Mat → Mat) → state_places dim ≤ length s₀ → Within dim f
    → Stored dim s₀ t s → s' ≡ matrix dim (f (at dim s)) s → Stored dim s₀ (record { m = f t.m; d = t.d }) s'
matrix-step dim s₀ s s' t f room within w e =
    let room' : dim * dim ≤ length s = omega (arith, w.long) in
    let i = matrix-is dim s (f (at dim s)) s' room' e in record {
      long = i.long ∙ w.long;
      entry = λ r c h g. i.each r c h g ∙ within (at dim s) t.m w.entry r c h g;
      sign = λ j h. i.after (dim * dim + j) (omega arith) ∙ w.sign j h;
      after = λ j h. i.after j (omega arith) ∙ w.after j h;
    }

-- the signs from a on turn
turned : ℕ → ℕ → List Float → List Float
turned dim a s = on_part (dim * dim + a) (dim - a) (map neg) s

module _ (dim a : ℕ) (s₀ s : List Float) (t : State) (room : state_places dim ≤ length s₀) (h : a ≤ dim) (w : Stored dim s₀ t s) where
  p : ℕ
  p = dim * dim + a

  k : ℕ
  k = dim - a

  fit : p + k ≤ length s
  unfolding p k
  fit = omega (arith, w.long)

  turned-sign : (i : ℕ) → i < dim → (i < a) ⊎ (a ≤ i) → get_or (turned dim a s) (dim * dim + i) nan ≡ cond (leb a i) (neg (t.d i)) (t.d i)
  unfolding turned p k
  turned-sign i g (inl l) = rw (lt-leb a i l) (mapped_part-before neg p k s nan fit (dim * dim + i) (omega arith) ∙ w.sign i g)
  turned-sign i g (inr l) =
      let e : dim * dim + i ≡ p + (i - a) = omega arith in
      rw (le-leb a i l)
      (ap (λ n. get_or (turned dim a s) n nan) e
      ∙ mapped_part-inside neg p k s nan fit (i - a) (omega arith)
      ∙ ap (λ n. neg (get_or s n nan)) (sym e)
      ∙ ap neg (w.sign i g))

  pub turn_step : (s' : List Float) → s' ≡ on_part (dim * dim + a) (dim - a) (map neg) s
      → Stored dim s₀ (record { m = t.m; d = λ i. cond (leb a i) (neg (t.d i)) (t.d i) }) s'
  unfolding turned p k
  turn_step s' e = record {
    long = rw e (mapped_part-long neg p k s nan fit ∙ w.long);
    entry = λ r c x y. rw e (mapped_part-before neg p k s nan fit (r * dim + c) (omega (arith, place_in dim r c x y)) ∙ w.entry r c x y);
    sign = λ i g. rw e (turned-sign i g (cases_lt i a));
    after = λ i g. rw e (mapped_part-after neg p k s nan fit i (omega arith) ∙ w.after i g);
  }
