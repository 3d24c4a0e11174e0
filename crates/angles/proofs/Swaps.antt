-- The Pfaffian by its first row: it turns where two neighbours of the list change places, and is a pivot times the Pfaffian of what the elimination of its
-- two rows leaves. Any commutative ring. Assumes nothing.
use mathlib.Core.Path.{◌≡◌, refl, sym, ap, ◌∙◌}
use mathlib.Core.Bool.{xor}
use mathlib.Core.List.{List, [], ◌∷◌, ◌++◌, map}
use Prim.Native.Nat.{ℕ, zero, suc, ◌<◌}
use Rattle.std.proofs.lemmas.List.{append_assoc}
use Rattle.rings.specs.Rings.{Ops, IsRing, IsCommutative}
use Rattle.formulas.specs.Engine.{Mat}
use Rattle.formulas.specs.Pfaffians.{first_row, by_first, pfaffian, AllBelow, Alternating}
use Rattle.rings.proofs.Rings.{mul-zero, neg-zero, neg-neg}
use Rattle.rings.proofs.Solve.{var, nought, plus, times, minus, unit, by-comm}

module _ (𝓝 : Ops) where
  -- ---- by a row w: its entries times F of the others, with signs that alternate

  abbrev pub fr : (ℕ → 𝓝.N) → (List ℕ → 𝓝.N) → List ℕ → 𝓝.N
  fr w F [] = 𝓝.zero
  fr w F (x ∷ xs) = 𝓝.add (𝓝.mul (w x) (F xs)) (𝓝.neg (fr w (λ qs. F (x ∷ qs)) xs))

  abbrev headed : Mat 𝓝 → (List ℕ → 𝓝.N) → List ℕ → 𝓝.N
  headed m F [] = 𝓝.one
  headed m F (r ∷ rs) = fr (m r) F rs

  -- the Pfaffian of lists of at most 2 (k - 1) indices
  unfoldable pub P : Mat 𝓝 → ℕ → List ℕ → 𝓝.N
  P m zero rs = 𝓝.zero
  P m (suc k) rs = headed m (λ qs. P m k qs) rs

  -- F turns where two neighbours change places
  abbrev pub Turning : ℕ → (List ℕ → 𝓝.N) → Type 0
  Turning dim F = (pre : List ℕ) (x y : ℕ) (post : List ℕ) → x < dim → y < dim → F (pre ++ (x ∷ y ∷ post)) ≡ 𝓝.neg (F (pre ++ (y ∷ x ∷ post)))

module _ {𝓝 : Ops} (𝓒 : IsCommutative 𝓝) where
  abbrev 𝓛 : IsRing 𝓝
  𝓛 = 𝓒.ring

  open 𝓝 use {N, zero as 𝟘, one as 𝟙, add as ◌⊹◌, mul as ◌⋆◌, neg}

  infixl 65 ◌⊹◌
  infixl 70 ◌⋆◌
  first-is : (m : Mat 𝓝) (F : List ℕ → N) (r : ℕ) (seen xs : List ℕ) → first_row 𝓝 m F r seen xs ≡ fr 𝓝 (m r) (λ qs. F (seen ++ qs)) xs
  first-is m F r seen [] = refl
  first-is m F r seen (x ∷ xs) =
      ap (λ a. m r x ⋆ F (seen ++ xs) ⊹ neg a)
      (first-is m F r (seen ++ (x ∷ [])) xs ∙ (λ i. fr 𝓝 (m r) (λ qs. F (append_assoc seen (x ∷ []) qs i)) xs))

  head-is : (m : Mat 𝓝) (F : List ℕ → N) (rs : List ℕ) → by_first 𝓝 m F rs ≡ headed 𝓝 m F rs
  head-is m F [] = refl
  head-is m F (r ∷ rs) = first-is m F r [] rs

  pub textbook : (m : Mat 𝓝) (k : ℕ) (rs : List ℕ) → pfaffian 𝓝 m k rs ≡ P 𝓝 m (suc k) rs
  unfolding pfaffian P
  textbook m zero rs = head-is m (λ qs. 𝟘) rs
  textbook m (suc k) rs = head-is m (λ qs. pfaffian 𝓝 m k qs) rs ∙ (λ i. headed 𝓝 m (λ qs. textbook m k qs i) rs)

  -- ---- laws of such sums

  pub fr-null : (w : ℕ → N) (xs : List ℕ) → fr 𝓝 w (λ qs. 𝟘) xs ≡ 𝟘
  unfolding xor
  fr-null w [] = refl
  fr-null w (x ∷ xs) = ap (λ a. w x ⋆ 𝟘 ⊹ neg a) (fr-null w xs) ∙ by-comm 𝓒 (w x ∷ []) (plus (times (var 0) nought) (minus nought)) nought refl

  fr-neg : (w : ℕ → N) (F : List ℕ → N) (xs : List ℕ) → fr 𝓝 w (λ qs. neg (F qs)) xs ≡ neg (fr 𝓝 w F xs)
  unfolding xor
  fr-neg w F [] = sym (neg-zero 𝓛)
  fr-neg w F (x ∷ xs) =
      ap (λ a. w x ⋆ neg (F xs) ⊹ neg a) (fr-neg w (λ qs. F (x ∷ qs)) xs)
      ∙ by-comm 𝓒 (w x ∷ F xs ∷ fr 𝓝 w (λ qs. F (x ∷ qs)) xs ∷ []) (plus (times (var 0) (minus (var 1))) (minus (minus (var 2))))
      (minus (plus (times (var 0) (var 1)) (minus (var 2)))) refl

  -- c F - G
  fr-less : (w : ℕ → N) (c : N) (F G : List ℕ → N) (xs : List ℕ) → fr 𝓝 w (λ qs. c ⋆ F qs ⊹ neg (G qs)) xs ≡ c ⋆ fr 𝓝 w F xs ⊹ neg (fr 𝓝 w G xs)
  unfolding xor
  fr-less w c F G [] = by-comm 𝓒 (c ∷ []) nought (plus (times (var 0) nought) (minus nought)) refl
  fr-less w c F G (x ∷ xs) =
      ap (λ a. w x ⋆ (c ⋆ F xs ⊹ neg (G xs)) ⊹ neg a) (fr-less w c (λ qs. F (x ∷ qs)) (λ qs. G (x ∷ qs)) xs)
      ∙ by-comm 𝓒 (w x ∷ c ∷ F xs ∷ G xs ∷ fr 𝓝 w (λ qs. F (x ∷ qs)) xs ∷ fr 𝓝 w (λ qs. G (x ∷ qs)) xs ∷ [])
      (plus (times (var 0) (plus (times (var 1) (var 2)) (minus (var 3)))) (minus (plus (times (var 1) (var 4)) (minus (var 5)))))
      (plus (times (var 1) (plus (times (var 0) (var 2)) (minus (var 4)))) (minus (plus (times (var 0) (var 3)) (minus (var 5))))) refl

  fr-scaled : (w : ℕ → N) (c : N) (F : List ℕ → N) (xs : List ℕ) → fr 𝓝 w (λ qs. c ⋆ F qs) xs ≡ c ⋆ fr 𝓝 w F xs
  unfolding xor
  fr-scaled w c F [] = sym (mul-zero 𝓛 c)
  fr-scaled w c F (x ∷ xs) =
      ap (λ a. w x ⋆ (c ⋆ F xs) ⊹ neg a) (fr-scaled w c (λ qs. F (x ∷ qs)) xs)
      ∙ by-comm 𝓒 (w x ∷ c ∷ F xs ∷ fr 𝓝 w (λ qs. F (x ∷ qs)) xs ∷ []) (plus (times (var 0) (times (var 1) (var 2))) (minus (times (var 1) (var 3))))
      (times (var 1) (plus (times (var 0) (var 2)) (minus (var 3)))) refl

  -- a row of entries u j + (s v j + t j q)
  fr-row : (u v t : ℕ → N) (s q : N) (F : List ℕ → N) (xs : List ℕ)
      → fr 𝓝 (λ j. u j ⊹ (s ⋆ v j ⊹ t j ⋆ q)) F xs ≡ fr 𝓝 u F xs ⊹ (s ⋆ fr 𝓝 v F xs ⊹ q ⋆ fr 𝓝 t F xs)
  unfolding xor
  fr-row u v t s q F [] = by-comm 𝓒 (s ∷ q ∷ []) nought (plus nought (plus (times (var 0) nought) (times (var 1) nought))) refl
  fr-row u v t s q F (x ∷ xs) =
      ap (λ a. (u x ⊹ (s ⋆ v x ⊹ t x ⋆ q)) ⋆ F xs ⊹ neg a) (fr-row u v t s q (λ qs. F (x ∷ qs)) xs)
      ∙ by-comm 𝓒 (u x ∷ v x ∷ t x ∷ s ∷ q ∷ F xs ∷ fr 𝓝 u (λ qs. F (x ∷ qs)) xs ∷ fr 𝓝 v (λ qs. F (x ∷ qs)) xs ∷ fr 𝓝 t (λ qs. F (x ∷ qs)) xs ∷ [])
      (plus (times (plus (var 0) (plus (times (var 3) (var 1)) (times (var 2) (var 4)))) (var 5))
      (minus (plus (var 6) (plus (times (var 3) (var 7)) (times (var 4) (var 8))))))
      (plus (plus (times (var 0) (var 5)) (minus (var 6)))
      (plus (times (var 3) (plus (times (var 1) (var 5)) (minus (var 7)))) (times (var 4) (plus (times (var 2) (var 5)) (minus (var 8)))))) refl

  -- a row of entries t j c
  fr-times : (t : ℕ → N) (c : N) (F : List ℕ → N) (xs : List ℕ) → fr 𝓝 (λ j. t j ⋆ c) F xs ≡ c ⋆ fr 𝓝 t F xs
  unfolding xor
  fr-times t c F [] = sym (mul-zero 𝓛 c)
  fr-times t c F (x ∷ xs) =
      ap (λ a. t x ⋆ c ⋆ F xs ⊹ neg a) (fr-times t c (λ qs. F (x ∷ qs)) xs)
      ∙ by-comm 𝓒 (t x ∷ c ∷ F xs ∷ fr 𝓝 t (λ qs. F (x ∷ qs)) xs ∷ []) (plus (times (times (var 0) (var 1)) (var 2)) (minus (times (var 1) (var 3))))
      (times (var 1) (plus (times (var 0) (var 2)) (minus (var 3)))) refl

  -- two functions that agree on lists below dim
  fr-same : (dim : ℕ) (w : ℕ → N) (F G : List ℕ → N) → ((qs : List ℕ) → AllBelow dim qs → F qs ≡ G qs) → (xs : List ℕ) → AllBelow dim xs
      → fr 𝓝 w F xs ≡ fr 𝓝 w G xs
  fr-same dim w F G h [] b = refl
  fr-same dim w F G h (x ∷ xs) b =
      λ i. w x ⋆ h xs b.1 i ⊹ neg (fr-same dim w (λ qs. F (x ∷ qs)) (λ qs. G (x ∷ qs)) (λ qs c. h (x ∷ qs) (b.0, c)) xs b.1 i)

  -- ---- other names of the indices

  fr-named : (f : ℕ → ℕ) (w : ℕ → N) (F : List ℕ → N) (xs : List ℕ) → fr 𝓝 (λ j. w (f j)) (λ qs. F (map f qs)) xs ≡ fr 𝓝 w F (map f xs)
  fr-named f w F [] = refl
  fr-named f w F (x ∷ xs) = ap (λ a. w (f x) ⋆ F (map f xs) ⊹ neg a) (fr-named f w (λ qs. F (f x ∷ qs)) xs)

  pub named : (f : ℕ → ℕ) (m : Mat 𝓝) (k : ℕ) (rs : List ℕ) → P 𝓝 (λ i j. m (f i) (f j)) k rs ≡ P 𝓝 m k (map f rs)
  unfolding P
  named f m zero rs = refl
  named f m (suc k) [] = refl
  named f m (suc k) (r ∷ rs) =
      (λ i. fr 𝓝 (λ j. m (f r) (f j)) (λ qs. named f m k qs i) rs) ∙ fr-named f (m (f r)) (λ qs. P 𝓝 m k qs) rs

  -- ---- two rows

  -- by the row v, then by the row w
  cross : (v w : ℕ → N) (F : List ℕ → N) (xs : List ℕ) → fr 𝓝 v (λ qs. fr 𝓝 w F qs) xs ≡ neg (fr 𝓝 w (λ qs. fr 𝓝 v F qs) xs)
  unfolding xor
  cross v w F [] = sym (neg-zero 𝓛)
  cross v w F (x ∷ xs) =
      ap (λ a. v x ⋆ fr 𝓝 w F xs ⊹ neg a)
      (fr-less v (w x) F (λ qs. fr 𝓝 w (λ ps. F (x ∷ ps)) qs) xs ∙ ap (λ a. w x ⋆ fr 𝓝 v F xs ⊹ neg a) (cross v w (λ ps. F (x ∷ ps)) xs))
      ∙ by-comm 𝓒 (v x ∷ w x ∷ fr 𝓝 w F xs ∷ fr 𝓝 v F xs ∷ fr 𝓝 w (λ qs. fr 𝓝 v (λ ps. F (x ∷ ps)) qs) xs ∷ [])
      (plus (times (var 0) (var 2)) (minus (plus (times (var 1) (var 3)) (minus (minus (var 4))))))
      (minus (plus (times (var 1) (var 3)) (minus (plus (times (var 0) (var 2)) (minus (var 4)))))) refl
      ∙ ap (λ a. neg (w x ⋆ fr 𝓝 v F xs ⊹ neg a)) (sym (fr-less w (v x) F (λ qs. fr 𝓝 v (λ ps. F (x ∷ ps)) qs) xs))

  -- twice by the same row
  twice : (v : ℕ → N) (F : List ℕ → N) (xs : List ℕ) → fr 𝓝 v (λ qs. fr 𝓝 v F qs) xs ≡ 𝟘
  unfolding xor
  twice v F [] = refl
  twice v F (x ∷ xs) =
      ap (λ a. v x ⋆ fr 𝓝 v F xs ⊹ neg a)
      (fr-less v (v x) F (λ qs. fr 𝓝 v (λ ps. F (x ∷ ps)) qs) xs ∙ ap (λ a. v x ⋆ fr 𝓝 v F xs ⊹ neg a) (twice v (λ ps. F (x ∷ ps)) xs))
      ∙ by-comm 𝓒 (v x ∷ fr 𝓝 v F xs ∷ []) (plus (times (var 0) (var 1)) (minus (plus (times (var 0) (var 1)) (minus nought)))) nought refl

  -- ---- neighbours change places

  module _ (m : Mat 𝓝) where
    short : (x y : ℕ) (rs : List ℕ) → P 𝓝 m 1 (x ∷ y ∷ rs) ≡ 𝟘
    unfolding P xor
    short x y rs = fr-null (m x) (y ∷ rs)

    swap-first : (k x y : ℕ) (rs : List ℕ) → m x y ≡ neg (m y x) → P 𝓝 m k (x ∷ y ∷ rs) ≡ neg (P 𝓝 m k (y ∷ x ∷ rs))
    unfolding P xor
    swap-first zero x y rs e = sym (neg-zero 𝓛)
    swap-first (suc zero) x y rs e = short x y rs ∙ sym (neg-zero 𝓛) ∙ ap neg (sym (short y x rs))
    swap-first (suc (suc k)) x y rs e =
        (λ i. e i ⋆ P 𝓝 m (suc k) rs ⊹ neg (cross (m x) (m y) (λ qs. P 𝓝 m k qs) rs i))
        ∙ by-comm 𝓒 (m y x ∷ P 𝓝 m (suc k) rs ∷ fr 𝓝 (m y) (λ qs. fr 𝓝 (m x) (λ ps. P 𝓝 m k ps) qs) rs ∷ [])
        (plus (times (minus (var 0)) (var 1)) (minus (minus (var 2)))) (minus (plus (times (var 0) (var 1)) (minus (var 2)))) refl

    repeated : (k x : ℕ) (rs : List ℕ) → m x x ≡ 𝟘 → P 𝓝 m k (x ∷ x ∷ rs) ≡ 𝟘
    unfolding P xor
    repeated zero x rs e = refl
    repeated (suc zero) x rs e = short x x rs
    repeated (suc (suc k)) x rs e =
        (λ i. e i ⋆ P 𝓝 m (suc k) rs ⊹ neg (twice (m x) (λ qs. P 𝓝 m k qs) rs i))
        ∙ by-comm 𝓒 (P 𝓝 m (suc k) rs ∷ []) (plus (times nought (var 0)) (minus nought)) nought refl

  pub turning-more : (dim : ℕ) (F : List ℕ → N) → Turning 𝓝 dim F → (q : ℕ) → Turning 𝓝 dim (λ qs. F (q ∷ qs))
  turning-more dim F h q pre x y post hx hy = h (q ∷ pre) x y post hx hy

  fr-turns : (dim : ℕ) (w : ℕ → N) (F : List ℕ → N) → Turning 𝓝 dim F → Turning 𝓝 dim (fr 𝓝 w F)
  unfolding xor
  fr-turns dim w F h [] x y post hx hy =
      ap (λ a. w x ⋆ F (y ∷ post) ⊹ neg (w y ⋆ F (x ∷ post) ⊹ neg a)) ((λ i. fr 𝓝 w (λ qs. h [] x y qs hx hy i) post) ∙ fr-neg w (λ qs. F (y ∷ x ∷ qs)) post)
      ∙ by-comm 𝓒 (w x ∷ w y ∷ F (y ∷ post) ∷ F (x ∷ post) ∷ fr 𝓝 w (λ qs. F (y ∷ x ∷ qs)) post ∷ [])
      (plus (times (var 0) (var 2)) (minus (plus (times (var 1) (var 3)) (minus (minus (var 4))))))
      (minus (plus (times (var 1) (var 3)) (minus (plus (times (var 0) (var 2)) (minus (var 4)))))) refl
  fr-turns dim w F h (q ∷ pre) x y post hx hy =
      (λ i. w q ⋆ h pre x y post hx hy i ⊹ neg (fr-turns dim w (λ qs. F (q ∷ qs)) (turning-more dim F h q) pre x y post hx hy i))
      ∙ by-comm 𝓒 (w q ∷ F (pre ++ (y ∷ x ∷ post)) ∷ fr 𝓝 w (λ qs. F (q ∷ qs)) (pre ++ (y ∷ x ∷ post)) ∷ [])
      (plus (times (var 0) (minus (var 1))) (minus (minus (var 2)))) (minus (plus (times (var 0) (var 1)) (minus (var 2)))) refl

  module _ (dim : ℕ) (m : Mat 𝓝) (𝓜 : Alternating 𝓝 dim m) where
    -- THE PFAFFIAN TURNS where two neighbours change places
    pub turning : (k : ℕ) → Turning 𝓝 dim (λ qs. P 𝓝 m k qs)
    unfolding P
    turning zero pre x y post hx hy = sym (neg-zero 𝓛)
    turning (suc k) [] x y post hx hy = swap-first m (suc k) x y post (𝓜.turns x y hx hy)
    turning (suc k) (p ∷ pre) x y post hx hy = fr-turns dim (m p) (λ qs. P 𝓝 m k qs) (turning k) pre x y post hx hy

    -- ---- the elimination of a pair u, v, with t j the entry of row u over the pivot

    module _ (u v : ℕ) (hu : u < dim) (hv : v < dim) (t : ℕ → N) (ht : (j : ℕ) → t j ⋆ m u v ≡ m u j) (d : N) (hd : d ⋆ m u v ≡ 𝟙) where
      abbrev pub lesser : Mat 𝓝
      lesser i j = m i j ⊹ (neg (t i) ⋆ m v j ⊹ t j ⋆ m v i)

      abbrev G : ℕ → List ℕ → N
      G k qs = P 𝓝 m (suc k) (u ∷ v ∷ qs)

      by-v : (k : ℕ) (rs : List ℕ) → fr 𝓝 (m v) (G k) rs ≡ m u v ⋆ P 𝓝 m (suc k) (v ∷ rs)
      unfolding P xor
      by-v k rs =
          by-comm 𝓒 (m u v ∷ P 𝓝 m (suc k) (v ∷ rs) ∷ P 𝓝 m (suc k) (u ∷ rs) ∷ fr 𝓝 (m v) (G k) rs ∷ []) (var 3)
          (plus (plus (times (minus (var 0)) (var 1)) (minus (plus (times nought (var 2)) (minus (var 3))))) (times (var 0) (var 1))) refl
          ∙ ap (λ a. a ⊹ m u v ⋆ P 𝓝 m (suc k) (v ∷ rs)) vanishes
          ∙ by-comm 𝓒 (m u v ∷ P 𝓝 m (suc k) (v ∷ rs) ∷ []) (plus nought (times (var 0) (var 1))) (times (var 0) (var 1)) refl
        where
          vanishes : neg (m u v) ⋆ P 𝓝 m (suc k) (v ∷ rs) ⊹ neg (𝟘 ⋆ P 𝓝 m (suc k) (u ∷ rs) ⊹ neg (fr 𝓝 (m v) (G k) rs)) ≡ 𝟘
          vanishes =
              (λ i. sym (𝓜.turns v u hv hu) i ⋆ P 𝓝 m (suc k) (v ∷ rs) ⊹ neg (sym (𝓜.nought-at v hv) i ⋆ P 𝓝 m (suc k) (u ∷ rs) ⊹ neg (fr 𝓝 (m v) (G k) rs)))
              ∙ turning (suc (suc k)) (v ∷ []) u v rs hu hv
              ∙ ap neg (repeated m (suc (suc k)) v (u ∷ rs) (𝓜.nought-at v hv))
              ∙ neg-zero 𝓛

      by-u : (k : ℕ) (rs : List ℕ) → fr 𝓝 (m u) (G k) rs ≡ m u v ⋆ P 𝓝 m (suc k) (u ∷ rs)
      unfolding P xor
      by-u k rs =
          by-comm 𝓒 (m u v ∷ P 𝓝 m (suc k) (v ∷ rs) ∷ P 𝓝 m (suc k) (u ∷ rs) ∷ fr 𝓝 (m u) (G k) rs ∷ []) (var 3)
          (plus (plus (times nought (var 1)) (minus (plus (times (var 0) (var 2)) (minus (var 3))))) (times (var 0) (var 2))) refl
          ∙ ap (λ a. a ⊹ m u v ⋆ P 𝓝 m (suc k) (u ∷ rs)) vanishes
          ∙ by-comm 𝓒 (m u v ∷ P 𝓝 m (suc k) (u ∷ rs) ∷ []) (plus nought (times (var 0) (var 1))) (times (var 0) (var 1)) refl
        where
          vanishes : 𝟘 ⋆ P 𝓝 m (suc k) (v ∷ rs) ⊹ neg (m u v ⋆ P 𝓝 m (suc k) (u ∷ rs) ⊹ neg (fr 𝓝 (m u) (G k) rs)) ≡ 𝟘
          vanishes =
              (λ i. sym (𝓜.nought-at u hu) i ⋆ P 𝓝 m (suc k) (v ∷ rs) ⊹ neg (m u v ⋆ P 𝓝 m (suc k) (u ∷ rs) ⊹ neg (fr 𝓝 (m u) (G k) rs)))
              ∙ repeated m (suc (suc k)) u (v ∷ rs) (𝓜.nought-at u hu)

      by-t : (k : ℕ) (rs : List ℕ) → fr 𝓝 t (G k) rs ≡ P 𝓝 m (suc k) (u ∷ rs)
      unfolding xor
      by-t k rs =
          undone (fr 𝓝 t (G k) rs) ∙ ap (λ a. d ⋆ a) (sym (fr-times t (m u v) (G k) rs) ∙ (λ i. fr 𝓝 (λ j. ht j i) (G k) rs) ∙ by-u k rs)
          ∙ sym (undone (P 𝓝 m (suc k) (u ∷ rs)))
        where
          undone : (a : N) → a ≡ d ⋆ (m u v ⋆ a)
          undone a = sym (𝓛.one-mul a) ∙ ap (λ s. s ⋆ a) (sym hd) ∙ 𝓛.mul-assoc d (m u v) a

      row-is : (k r : ℕ) (rs : List ℕ) → r < dim → fr 𝓝 (lesser r) (G k) rs ≡ P 𝓝 m (suc (suc k)) (u ∷ v ∷ r ∷ rs)
      unfolding P xor
      row-is k r rs hr =
          fr-row (m r) (m v) t (neg (t r)) (m v r) (G k) rs
          ∙ (λ i. fr 𝓝 (m r) (G k) rs ⊹ (neg (t r) ⋆ by-v k rs i ⊹ m v r ⋆ by-t k rs i))
          ∙ by-comm 𝓒 (fr 𝓝 (m r) (G k) rs ∷ t r ∷ m u v ∷ P 𝓝 m (suc k) (v ∷ rs) ∷ m v r ∷ P 𝓝 m (suc k) (u ∷ rs) ∷ [])
          (plus (var 0) (plus (times (minus (var 1)) (times (var 2) (var 3))) (times (var 4) (var 5))))
          (plus (times (minus (times (var 1) (var 2))) (var 3)) (minus (plus (times (minus (var 4)) (var 5)) (minus (var 0))))) refl
          ∙ (λ i. neg (ht r i) ⋆ P 𝓝 m (suc k) (v ∷ rs) ⊹ neg (sym (𝓜.turns r v hr hv) i ⋆ P 𝓝 m (suc k) (u ∷ rs) ⊹ neg (fr 𝓝 (m r) (G k) rs)))
          ∙ ap (λ a. a ⋆ P 𝓝 m (suc k) (v ∷ rs) ⊹ neg (m r v ⋆ P 𝓝 m (suc k) (u ∷ rs) ⊹ neg (fr 𝓝 (m r) (G k) rs))) (sym (𝓜.turns r u hr hu))
          ∙ turning (suc (suc k)) [] r u (v ∷ rs) hr hu
          ∙ ap neg (turning (suc (suc k)) (u ∷ []) r v rs hr hv)
          ∙ neg-neg 𝓛 (P 𝓝 m (suc (suc k)) (u ∷ v ∷ r ∷ rs))

      -- THE PIVOT is a factor
      pub factor : (k : ℕ) (rs : List ℕ) → AllBelow dim rs → m u v ⋆ P 𝓝 lesser k rs ≡ P 𝓝 m (suc k) (u ∷ v ∷ rs)
      unfolding P xor
      factor zero rs b = mul-zero 𝓛 (m u v) ∙ sym (short m u v rs)
      factor (suc k) [] b = by-comm 𝓒 (m u v ∷ []) (times (var 0) unit) (plus (times (var 0) unit) (minus nought)) refl
      factor (suc k) (r ∷ rs) b =
          sym (fr-scaled (lesser r) (m u v) (λ qs. P 𝓝 lesser k qs) rs)
          ∙ fr-same dim (lesser r) (λ qs. m u v ⋆ P 𝓝 lesser k qs) (G k) (factor k) rs b.1
          ∙ row-is k r rs b.0

      pub lesser-alternates : Alternating 𝓝 dim lesser
      unfolding xor
      lesser-alternates = record {
        turns = λ i j hi hj. ap (λ a. a ⊹ (neg (t i) ⋆ m v j ⊹ t j ⋆ m v i)) (𝓜.turns i j hi hj)
            ∙ by-comm 𝓒 (m j i ∷ t i ∷ t j ∷ m v i ∷ m v j ∷ []) (plus (minus (var 0)) (plus (times (minus (var 1)) (var 4)) (times (var 2) (var 3))))
            (minus (plus (var 0) (plus (times (minus (var 2)) (var 3)) (times (var 1) (var 4))))) refl;
        nought-at = λ i hi. ap (λ a. a ⊹ (neg (t i) ⋆ m v i ⊹ t i ⋆ m v i)) (𝓜.nought-at i hi)
            ∙ by-comm 𝓒 (t i ∷ m v i ∷ []) (plus nought (plus (times (minus (var 0)) (var 1)) (times (var 0) (var 1)))) nought refl;
      }
