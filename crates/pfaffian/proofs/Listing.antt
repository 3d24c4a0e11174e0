-- Laws of a shot's outcomes: which mode has which, how the loop over the modes lists them, and the words that they make. Assumes nothing.
use mathlib.Core.Path.{◌≡◌, refl, sym, ap, ◌∙◌}
use mathlib.Core.Logic.{◌⊎◌, inl, inr, ◌≢◌, ⊎_elim}
use mathlib.Core.Bool.{Bool, true, false, ◌&&◌}
use mathlib.Core.List.{List}
use Prim.Native.Nat.{ℕ, zero, suc, ◌+◌, ◌-◌, ◌*◌, ◌^◌, ◌≤◌, ◌<◌}
use native.Mathlib.Nat.{not-suc-le-zero, le_of_suc-le-suc}
use native.Mathlib.Omega.{arith}
use lib.Dec.{ltb}
use lib.ListN.{length, get_or, set, replicate, length-replicate, get_or-replicate, get_or-eq_default}
use lib.Seq.{get_or-set_same, get_or-set_other}
use lib.Ieee.{Float, nan}
use native.Mathlib.Nat.{zero-add}
use lib.ListN.{take, drop}
use Rattle.std.proofs.lemmas.List.{take_rest, get_or-take, get_or-drop, length-take-le}
use borrow.Author.Tests.{le-ltb}
use Rattle.laws.specs.Tables.{mode_at}
use Rattle.laws.specs.Matrix.{Mat, at}
use Rattle.std.proofs.lemmas.Bool.{cases_lt, cases_eq}
use Rattle.pfaffian.specs.Shot.{drawn, after_mode, shot, reached, outcome, draw_from, bit, qubit_bit, word_of}
use Rattle.pfaffian.specs.Turns.{Stands, Measures, Listed}

-- ---- the outcomes

shot-from : (e : Mat) (t : ℕ → Float) (n k i : ℕ) → i < n → get_or (shot (reached e t k) k n t) i false ≡ outcome e t (k + i)
unfolding shot reached
shot-from e t zero k i h = absurd (not-suc-le-zero h)
shot-from e t (suc n) k zero h = let z : k + 0 ≡ k = omega arith in rw z
shot-from e t (suc n) k (suc i) h = let s : k + suc i ≡ suc k + i = omega arith in rw s (shot-from e t n (suc k) i (le_of_suc-le-suc h))

-- the outcome of mode k stands at k
pub shot-at : (e : Mat) (t : ℕ → Float) (n k : ℕ) → k < n → get_or (shot e 0 n t) k false ≡ outcome e t k
unfolding reached
shot-at e t n k h = let z : 0 + k ≡ k = omega arith in rw z at (shot-from e t n 0 k h)

pub length-shot : (m : Mat) (k n : ℕ) (t : ℕ → Float) → length (shot m k n t) ≡ n
unfolding shot
length-shot m k zero t = refl
length-shot m k (suc n) t = ap suc (length-shot (after_mode m k (drawn m k (t k))) (suc k) n t)

-- ---- the loop over the modes

-- at first the list stands for the matrix that it has
pub stands-start : (dim : ℕ) (m : List Float) (t : ℕ → Float) → Stands dim 0 true (reached (at dim m) t 0) m
unfolding reached
stands-start dim m t = record { right = λ r c l g h. refl; below = λ r c l g h. refl }

pub stands-turn : (dim k : ℕ) (e : Mat) (t : ℕ → Float) (draw : Float) (fresh fresh' one : Bool) (m m' : List Float) → draw ≡ t k
    → Stands dim k fresh (reached e t k) m
    → Measures dim k draw fresh m one fresh' m' → (one ≡ outcome e t k) × Stands dim (k + 1) fresh' (reached e t (k + 1)) m'
unfolding reached
stands-turn dim k e t draw fresh fresh' one m m' ed w h =
    let r = h (reached e t k) w in
    let o : one ≡ outcome e t k = r.0 ∙ ap (drawn (reached e t k) k) ed in
    let s : k + 1 ≡ suc k = omega arith in
    (o, rw (s, ← o) r.1)

pub listed_start : (outcomes bits : List Bool) → Listed 0 outcomes bits bits
listed_start outcomes bits = record { done = λ k h. absurd (not-suc-le-zero h); left = λ k h. refl }

pub listed-turn : (k : ℕ) (outcomes bits₀ bits : List Bool) (one : Bool) → k < length bits → one ≡ get_or outcomes k false
    → Listed k outcomes bits₀ bits
    → Listed (k + 1) outcomes bits₀ (set bits k one)
listed-turn k outcomes bits₀ bits one h e w = record {
  done = λ i l. at-or-before i l (cases_eq i k);
  left = λ i l. get_or-set_other bits k i one false (λ e. omega arith) ∙ w.left i (omega arith);
}
  where
    at-or-before : (i : ℕ) → i < k + 1 → (i ≡ k) ⊎ (i ≢ k) → get_or (set bits k one) i false ≡ get_or outcomes i false
    at-or-before i l (inl q) = rw q (get_or-set_same bits k one false h ∙ e)
    at-or-before i l (inr q) = get_or-set_other bits k i one false q ∙ w.done i (omega arith)

none-set : (n k : ℕ) → get_or (replicate n false) k false ≡ false
none-set n k =
    ⊎_elim (λ h. get_or-replicate n k false false h) (λ h. get_or-eq_default (replicate n false) false (rw (length-replicate n false) h)) (cases_lt k n)

-- over places that are all false they are the outcomes, and nothing else
pub listed-all : (n m : ℕ) (outcomes bits : List Bool) → length outcomes ≡ n → Listed n outcomes (replicate m false) bits
    → (k : ℕ) → get_or bits k false ≡ get_or outcomes k false
listed-all n m outcomes bits long w k = by (cases_lt k n)
  where
    by : (k < n) ⊎ (n ≤ k) → get_or bits k false ≡ get_or outcomes k false
    by (inl h) = w.done k h
    by (inr h) = w.left k h ∙ none-set m k ∙ sym (get_or-eq_default outcomes false (rw long h))

-- ---- the draws

-- a shot's own draws, lent on
pub draws-from : (draws : List Float) (first : ℕ) → draw_from (take (length draws - first) (drop first draws)) 0 ≡ draw_from draws first
draws-from draws first t k =
    (ap (λ l. get_or l (0 + k) nan) (take_rest draws first) ∙ get_or-drop first draws (0 + k) nan ∙ ap (λ i. get_or draws (first + i) nan) (zero-add k)) t

-- ---- the words

pub bit-small : (b : Bool) → bit b ≤ 1
bit-small true = omega arith
bit-small false = omega arith

module _ (f : ℕ → Bool) where
  -- a bit put below those that stand from i on
  pub word-turn : (low w i : ℕ) → 0 < i → i ≤ w → bit (f (low + (i - 1))) + 2 * word_of f (low + i) (w - i) ≡ word_of f (low + (i - 1)) (w - (i - 1))
  unfolding word_of
  word-turn low w i h l =
      let n : w - (i - 1) ≡ suc (w - i) = omega arith in
      let s : low + i ≡ suc (low + (i - 1)) = omega arith in
      rw (n, s)

  pub word_below : (q w : ℕ) → word_of f q w < 2 ^ w
  unfolding word_of
  word_below q zero = omega arith
  word_below q (suc w) = omega (arith, word_below (suc q) w, bit-small (f q))

pub word_same : (f g : ℕ → Bool) → ((q : ℕ) → f q ≡ g q) → (q w : ℕ) → word_of f q w ≡ word_of g q w
unfolding word_of
word_same f g h q zero = refl
word_same f g h q (suc w) = λ t. bit (h q t) + 2 * word_same f g h (suc q) w t

-- the modes of n qubits, lent as a part of a list
pub modes-taken : (ms : List ℕ) (n : ℕ) (outcomes : List Bool) (q : ℕ) → n ≤ length ms
    → qubit_bit (mode_at (take n ms)) (length (take n ms)) outcomes q ≡ qubit_bit (mode_at ms) n outcomes q
modes-taken ms n outcomes q h = ap (λ m. ltb q m && get_or outcomes (mode_at (take n ms) q) false) (length-take-le n ms h) ∙ by (cases_lt q n)
  where
    by : (q < n) ⊎ (n ≤ q) → (ltb q n && get_or outcomes (mode_at (take n ms) q) false) ≡ (ltb q n && get_or outcomes (mode_at ms q) false)
    by (inl l) = ap (λ m. ltb q n && get_or outcomes m false) (get_or-take n ms q 0 l)
    by (inr l) = rw (le-ltb q n l)

-- outcomes that are the same place by place make the same words
pub words_same : (modes : ℕ → ℕ) (n : ℕ) (outcomes bits : List Bool) → ((k : ℕ) → get_or bits k false ≡ get_or outcomes k false)
    → (q w : ℕ) → word_of (qubit_bit modes n bits) q w ≡ word_of (qubit_bit modes n outcomes) q w
words_same modes n outcomes bits h q w = word_same (qubit_bit modes n bits) (qubit_bit modes n outcomes) (λ q. ap (λ b. ltb q n && b) (h (modes q))) q w
