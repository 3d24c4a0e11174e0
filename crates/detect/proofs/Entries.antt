-- Tables filled entry by entry. Assumes nothing.
use mathlib.Core.Path.{◌≡◌, refl, sym, ap, ◌∙◌}
use mathlib.Core.Logic.{◌⊎◌, inl, inr, ◌≢◌}
use mathlib.Core.Bool.{cond}
use mathlib.Core.List.{List}
use Prim.Native.Nat.{ℕ, ◌+◌, ◌≤◌, ◌<◌}
use native.Mathlib.Omega.{arith}
use lib.Dec.{ltb}
use lib.ListN.{length, get_or, set, length-set}
use lib.Seq.{get_or-set_same, get_or-set_other, ext_get_or}
use borrow.Author.Tests.{lt-ltb, le-ltb}
use Rattle.laws.specs.Views.{up_from, list_of}
use Rattle.std.proofs.lemmas.Bool.{cases_lt, cases_eq}
use Rattle.laws.proofs.Views.{length-list_of, get_or-list_of, up_same}
use Rattle.detect.specs.Report.{table}

-- entry k of a table that has n entries
entry : ℕ → (ℕ → ℕ) → ℕ → ℕ
entry n e k = cond (ltb k n) (e k) 0

module _ (e : ℕ → ℕ) where
  pub table_none : list_of 128 (λ k. 0) ≡ table 0 e
  unfolding table up_from
  table_none = refl

  pub length-table : (n : ℕ) → length (table n e) ≡ 128
  unfolding table
  length-table n = length-list_of 128 (λ k. cond (ltb k n) (e k) 0)

  at : (n k : ℕ) → k < 128 → get_or (table n e) k 0 ≡ cond (ltb k n) (e k) 0
  unfolding table
  at n k h = get_or-list_of 128 (λ k. cond (ltb k n) (e k) 0) k 0 h

  pub table_at : (n k : ℕ) → k < n → n ≤ 128 → get_or (table n e) k 0 ≡ e k
  table_at n k h l = at n k (omega arith) ∙ rw (lt-ltb k n h)

  pub table_more : (k v : ℕ) (t : List ℕ) → k < 128 → t ≡ table k e → v ≡ e k → set t k v ≡ table (k + 1) e
  table_more k v t h q s =
      ap (λ t. set t k v) q
      ∙ ext_get_or 0 (set (table k e) k v) (table (k + 1) e) (length-set (table k e) k v ∙ length-table k ∙ sym (length-table (k + 1)))
      (λ i l. one i (omega (arith, length-set (table k e) k v, length-table k)) (cases_eq i k) (cases_lt i k))
    where
      one : (i : ℕ) → i < 128 → (i ≡ k) ⊎ (i ≢ k) → (i < k) ⊎ (k ≤ i) → get_or (set (table k e) k v) i 0 ≡ get_or (table (k + 1) e) i 0
      one i l (inl x) c =
          rw x (get_or-set_same (table k e) k v 0 (omega (arith, length-table k)) ∙ s ∙ sym (at (k + 1) k h ∙ rw (lt-ltb k (k + 1) (omega arith))))
      one i l (inr x) (inl c) =
          get_or-set_other (table k e) k i v 0 x ∙ at k i l ∙ rw (lt-ltb i k c) (sym (at (k + 1) i l ∙ rw (lt-ltb i (k + 1) (omega arith))))
      one i l (inr x) (inr c) =
          get_or-set_other (table k e) k i v 0 x ∙ at k i l ∙ rw (le-ltb i k c) (sym (at (k + 1) i l ∙ rw (le-ltb i (k + 1) (omega (arith, x)))))

pub table_same : (e f : ℕ → ℕ) (n : ℕ) → ((k : ℕ) → k < n → f k ≡ e k) → table n f ≡ table n e
unfolding table
table_same e f n h = up_same (λ k. cond (ltb k n) (e k) 0) (λ k. cond (ltb k n) (f k) 0) 0 128 (λ k a b. one k (cases_lt k n))
  where
    one : (k : ℕ) → (k < n) ⊎ (n ≤ k) → cond (ltb k n) (f k) 0 ≡ cond (ltb k n) (e k) 0
    one k (inl l) = rw (lt-ltb k n l) (h k l)
    one k (inr l) = rw (le-ltb k n l)
