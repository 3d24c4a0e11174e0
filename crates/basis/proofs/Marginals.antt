-- Marginals and basis indices on a basis state: the engine's answer, where it gives one, is the register's. Assumes nothing.
use mathlib.Core.Path.{◌≡◌, refl, sym, ap, ◌∙◌}
use mathlib.Core.Logic.{◌⊎◌, inl, inr, ◌≢◌}
use mathlib.Core.Bool.{Bool, true, false, not, cond, ◌||◌, or-true}
use mathlib.Core.List.{List}
use Prim.Native.Nat.{ℕ, zero, suc, ◌≤◌, ◌<◌}
use native.Mathlib.Nat.{not-suc-le-zero, le_refl}
use native.Mathlib.Omega.{arith}
use lib.Dec.{eqb, leb, ltb, lit<}
use lib.ListN.{length, get_or}
use lib.Ieee.{Float}
use borrow.Author.Tests.{eq-eqb, ne_eqb, ltb-true, ltb-false, leb-false}
use Rattle.laws.specs.Zeros.{+0, +1}
use Rattle.std.proofs.lemmas.Bool.{cases_eq}
use Rattle.pfaffian.specs.Shot.{bit}
use Rattle.state.specs.Questions.{state_ok}
use Rattle.state.specs.Answers.{Told, accepted, refused}
use Rattle.queries.specs.Answers.{Answered, without_row}
use Rattle.queries.specs.Lists.{bits_ok, stop_place, asked, noted_modes}
use Rattle.queries.specs.Products.{dim_left}
use Rattle.queries.specs.Marginals.{marked_of}
use Rattle.queries.specs.Basis.{basis_bit_of}
use Rattle.queries.specs.Calls.{covariance_of, work_ok, worked, stopped_of, marked_answer, marginal_probability_of, probability_of}
use Rattle.queries.proofs.Indices.{all_qubits, basis_bits, basis-is-marginal, qubits-long, bits-long, qubit-here, bit-here}
use Rattle.basis.specs.Holds.{Reads}
use Rattle.basis.specs.Answers.{differs, register_marginal, differs_from, register_probability}
use Rattle.queries.proofs.Stopping.{asked-small}
use Rattle.basis.proofs.Asked.{differs-each, differs-some, stopped-differs, asked-agrees, asked-differs}
use Rattle.basis.proofs.Marked.{marked-agrees, marked_differs}

-- an answer under a test: not a refusal
passes : (t : Bool) (x : Answered) (q : ℕ) (y : Told) → 0 < q → (cond t x (without_row (refused q 0))).told.number ≡ 0
    → (t ≡ true → x.told.number ≡ 0 → x.told ≡ y) → (cond t x (without_row (refused q 0))).told ≡ y
passes true x q y h e f = f refl e
passes false x q y h e f = absurd (omega arith)

module _ (n : ℕ) (b r : ℕ → Bool) (s : List Float) (modes : List ℕ) (R : Reads n b r (covariance_of n s) modes) where
  -- ---- a marginal

  module _ (qs xs : List ℕ) (ok : bits_ok qs xs ≡ true) where
    -- a list that is read whole
    marked-told : length qs ≤ stop_place n modes qs xs → (marked_of (covariance_of n s) n (asked modes qs xs)).value ≡ register_marginal n r qs xs
    marked-told h = by (differs n r qs xs) refl
      where
        by : (t : Bool) → differs n r qs xs ≡ t → (marked_of (covariance_of n s) n (asked modes qs xs)).value ≡ cond t +0 +1
        by true d =
            let k = asked-differs n b r (covariance_of n s) modes R qs xs ok h d in
            marked_differs n b (covariance_of n s) R.covariance (asked modes qs xs) k.0 k.1.0
            (asked-small modes qs xs ok k.0) k.1.1
        by false d =
            marked-agrees n b (covariance_of n s) R.covariance (asked modes qs xs)
            (λ k g. asked-agrees n b r (covariance_of n s) modes R qs xs ok h d k)

    -- a list that stops at a contradiction
    stopped-told : stop_place n modes qs xs < length qs → (stopped_of n qs (stop_place n modes qs xs)).number ≡ 0
        → stopped_of n qs (stop_place n modes qs xs) ≡ accepted (register_marginal n r qs xs)
    unfolding stopped_of
    stopped-told h = by (leb n (get_or qs (stop_place n modes qs xs) 0)) refl
      where
        place : ℕ
        place = stop_place n modes qs xs

        by : (t : Bool) → leb n (get_or qs place 0) ≡ t → (cond t (refused 19 place) (accepted +0)).number ≡ 0
            → cond t (refused 19 place) (accepted +0) ≡ accepted (register_marginal n r qs xs)
        by true f e = absurd (omega arith)
        by false f e = rw (stopped-differs n b r (covariance_of n s) modes R qs xs ok h (leb-false n (get_or qs place 0) f))

  pub marginal-told : (qs xs : List ℕ) (w : List Float) → (marginal_probability_of n s modes qs xs w).told.number ≡ 0
      → (marginal_probability_of n s modes qs xs w).told ≡ accepted (register_marginal n r qs xs)
  unfolding marginal_probability_of worked
  marginal-told qs xs w e =
      passes (state_ok n s modes) _ 16 _ (lit< tt) e (λ _ e.
      passes (bits_ok qs xs) _ 18 _ (lit< tt) e (λ ok e. by ok (ltb (stop_place n modes qs xs) (length qs)) refl e))
    where
      read : Answered
      read = marked_answer (covariance_of n s) n (asked modes qs xs) w

      by : bits_ok qs xs ≡ true → (t : Bool) → ltb (stop_place n modes qs xs) (length qs) ≡ t
          → (cond t (without_row (stopped_of n qs (stop_place n modes qs xs))) read).told.number ≡ 0
          → (cond t (without_row (stopped_of n qs (stop_place n modes qs xs))) read).told ≡ accepted (register_marginal n r qs xs)
      by ok true f e = stopped-told qs xs ok (ltb-true (stop_place n modes qs xs) (length qs) f) e
      by ok false f e =
          passes (work_ok (dim_left (noted_modes n (asked modes qs xs))) w) _ 20 _ (lit< tt) e
          (λ _ _. ap accepted (marked-told qs xs ok (ltb-false (stop_place n modes qs xs) (length qs) f)))

  -- ---- a basis index: the marginal of all n qubits

  module _ (low high : ℕ) where
    -- a qubit below m with another bit than the index
    from_some : (m j : ℕ) → j < m → basis_bit_of low high j ≢ bit (r j) → differs_from low high r m ≡ true
    unfolding differs_from
    from_some zero j h ne = absurd (not-suc-le-zero h)
    from_some (suc m) j h ne = by (cases_eq j m) (from_some m j)
      where
        by : (j ≡ m) ⊎ (j ≢ m) → (j < m → basis_bit_of low high j ≢ bit (r j) → differs_from low high r m ≡ true)
            → (differs_from low high r m || not (eqb (bit (r m)) (basis_bit_of low high m))) ≡ true
        by (inl q) f =
            rw (ne_eqb (bit (r m)) (basis_bit_of low high m) (λ z. ne (ap (basis_bit_of low high) q ∙ sym z ∙ ap (λ k. bit (r k)) (sym q))))
            (or-true (differs_from low high r m))
        by (inr q) f = rw (f (omega arith) ne)

    -- none
    from-none : (m : ℕ) → ((j : ℕ) → j < m → basis_bit_of low high j ≡ bit (r j)) → differs_from low high r m ≡ false
    unfolding differs_from
    from-none zero h = refl
    from-none (suc m) h =
        rw (from-none m (λ j g. h j (omega arith)), eq-eqb (bit (r m)) (basis_bit_of low high m) (sym (h m (le_refl (suc m)))))

    from_is : differs n r (all_qubits n) (basis_bits n low high) ≡ differs_from low high r n
    from_is = by (differs n r (all_qubits n) (basis_bits n low high)) refl
      where
        by : (t : Bool) → differs n r (all_qubits n) (basis_bits n low high) ≡ t → t ≡ differs_from low high r n
        by true d =
            let o = differs-some n r (all_qubits n) (basis_bits n low high) d in
            let j = o.at in
            let h : j < n = omega (arith, qubits-long n low high, o.within) in
            sym (from_some n j h (λ z. o.other (bit-here n low high j h ∙ z ∙ ap (λ k. bit (r k)) (sym (qubit-here n low high j h)))))
        by false d =
            sym (from-none n (λ j h.
            sym (bit-here n low high j h)
            ∙ differs-each n r (all_qubits n) (basis_bits n low high) (qubits-long n low high ∙ sym (bits-long n low high)) d j
            (omega (arith, qubits-long n low high)) (omega (arith, qubit-here n low high j h))
            ∙ ap (λ k. bit (r k)) (qubit-here n low high j h)))

    pub probability-told : (w : List Float) → (probability_of n s modes low high w).number ≡ 0
        → probability_of n s modes low high w ≡ accepted (register_probability n r low high)
    probability-told w e =
        let same = basis-is-marginal n low high s modes w in
        same
        ∙ marginal-told (all_qubits n) (basis_bits n low high) w (sym (ap (λ t. t.number) same) ∙ e)
        ∙ ap (λ t. accepted (cond t +0 +1)) from_is
