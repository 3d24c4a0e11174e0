-- How many cuts a tail has: one more than its gates up to 17, and 18 beyond. The cuts at both ends are kept, and those between are not. How many
-- candidates a block has, and how many are classified. Assumes nothing.
use mathlib.Core.Path.{◌≡◌, refl, sym, ap, ap₂, ◌∙◌}
use mathlib.Core.Logic.{◌⊎◌, inl, inr, ⊎_elim}
use mathlib.Core.Bool.{Bool, true, false, cond, or-true}
use mathlib.Core.List.{List, [], ◌∷◌, ◌++◌, reverse}
use Prim.Native.Nat.{ℕ, zero, suc, ◌+◌, ◌*◌, ◌-◌, ◌≤◌, ◌<◌, min}
use native.Mathlib.Nat.{add_comm, add_assoc, zero-add, add-zero, zero-mul, suc-mul, mul-le-mul}
use native.Mathlib.Omega.{arith}
use lib.Dec.{eqb, leb}
use lib.ListN.{length, length-append, get_or}
use lib.Ieee.{Float}
use borrow.Author.Tests.{le-leb, lt-leb}
use Rattle.laws.specs.Views.{up_from}
use Rattle.std.proofs.lemmas.Bool.{cases_lt, cond_both}
use Rattle.laws.proofs.Views.{up-join}
use Rattle.fuse.specs.Events.{Event, gone, one, two, three}
use Rattle.fuse.specs.Fuse.{fused}
use Rattle.fuse.specs.Compress.{compressed}
use Rattle.resolve.specs.Choose.{Choice}
use Rattle.resolve.specs.Cuts.{cut_window, in_window, keep, cuts, ahead}
use Rattle.resolve.specs.Choose.{offers_of, all_offers, offers}
use Rattle.resolve.specs.Resolve.{Resolved, lengthened, promised, passed, settled}
use Rattle.resolve.specs.Resolve.{candidates, classified, chosen, resolve_step, resolved, start_of}
use Rattle.resolve.specs.Slots.{max_candidates}
use Rattle.resolve.specs.Whole.{resolved_of, fuse_of}

-- ---- what is kept of the numbers from k on

abbrev numbers : ℕ → ℕ → List ℕ
numbers k n = up_from (λ t. t) k n

module _ (p : ℕ → Bool) where
  keep_all : (k n : ℕ) → ((t : ℕ) → k ≤ t → t < k + n → p t ≡ true) → length (keep p (numbers k n)) ≡ n
  unfolding keep up_from
  keep_all k zero h = refl
  keep_all k (suc n) h = rw (h k (omega arith) (omega arith)) (ap suc (keep_all (suc k) n (λ t a b. h t (omega arith) (omega arith))))

  keep-none : (k n : ℕ) → ((t : ℕ) → k ≤ t → t < k + n → p t ≡ false) → length (keep p (numbers k n)) ≡ 0
  unfolding keep up_from
  keep-none k zero h = refl
  keep-none k (suc n) h = rw (h k (omega arith) (omega arith)) (keep-none (suc k) n (λ t a b. h t (omega arith) (omega arith)))

  keep_join : (xs ys : List ℕ) → keep p (xs ++ ys) ≡ keep p xs ++ keep p ys
  unfolding keep
  keep_join [] ys = refl
  keep_join (x ∷ xs) ys = go (p x) (keep_join xs ys)
    where
      go : (b : Bool) → keep p (xs ++ ys) ≡ keep p xs ++ keep p ys
          → cond b (x ∷ keep p (xs ++ ys)) (keep p (xs ++ ys)) ≡ cond b (x ∷ keep p xs) (keep p xs) ++ keep p ys
      go true e = ap (λ l. x ∷ l) e
      go false e = e

  keep-length : (k n m : ℕ) → length (keep p (numbers k (n + m))) ≡ length (keep p (numbers k n)) + length (keep p (numbers (k + n) m))
  keep-length k n m =
      ap (λ l. length (keep p l)) (up-join (λ t. t) k n m) ∙ ap length (keep_join (numbers k n) (numbers (k + n) m))
      ∙ length-append (keep p (numbers k n)) (keep p (numbers (k + n) m))

-- ---- the window

module _ (len t : ℕ) where
  near : t ≤ cut_window → in_window len t ≡ true
  near h = rw (le-leb t 8 h)

  far : len ≤ t + cut_window → in_window len t ≡ true
  far h = rw (le-leb len (t + 8) h) (or-true (leb t 8))

  outside : cut_window < t → t + cut_window < len → in_window len t ≡ false
  outside h g = rw (lt-leb t 8 h, lt-leb len (t + 8) g)

-- ---- the count

pub cuts-short : (len : ℕ) → len ≤ 2 * cut_window + 1 → length (cuts len) ≡ len + 1
unfolding cuts
cuts-short len h = keep_all (in_window len) 0 (len + 1) (λ t a b. inside t (cases_lt 8 t) (omega arith))
  where
    inside : (t : ℕ) → (8 < t) ⊎ (t ≤ 8) → t ≤ len → in_window len t ≡ true
    inside t (inl g) b = far len t (omega arith)
    inside t (inr g) b = near len t g

pub cuts-long : (len : ℕ) → 2 * cut_window + 1 ≤ len → length (cuts len) ≡ 2 * cut_window + 2
unfolding cuts
cuts-long len h =
    let m = len - 17 in
    let all : len + 1 ≡ 9 + (m + 9) = omega arith in
    let first = keep_all (in_window len) 0 9 (λ t a b. near len t (omega arith)) in
    let middle = keep-none (in_window len) 9 m (λ t a b. outside len t (omega arith) (omega arith)) in
    let last = keep_all (in_window len) (9 + m) 9 (λ t a b. far len t (omega arith)) in
    ap (λ n. length (keep (in_window len) (numbers 0 n))) all
    ∙ keep-length (in_window len) 0 9 (m + 9)
    ∙ ap₂ ◌+◌ first (keep-length (in_window len) 9 m 9 ∙ ap₂ ◌+◌ middle last)

-- so there are one more than the gates, up to 18
pub cuts-many : (len m : ℕ) → m ≡ min len (2 * cut_window + 1) → (m + 1 ≡ length (cuts len)) × (m + 1 ≤ 18)
cuts-many len m e = by (cases_lt len (2 * cut_window + 1))
  where
    by : (len < 2 * cut_window + 1) ⊎ (2 * cut_window + 1 ≤ len) → (m + 1 ≡ length (cuts len)) × (m + 1 ≤ 18)
    by (inl h) = (omega (arith, e, cuts-short len (omega arith)), omega (arith, e))
    by (inr h) = (omega (arith, e, cuts-long len h), omega (arith, e))

-- no tail has more than 18
pub cuts-few : (len : ℕ) → length (cuts len) ≤ 2 * cut_window + 2
cuts-few len = ⊎_elim (λ h. omega (arith, cuts-short len (omega arith))) (λ h. omega (arith, cuts-long len h)) (cases_lt len 17)

-- ---- the candidates of a block

row-many : (ka : ℕ) (kbs : List ℕ) → length (offers_of ka kbs) ≡ length kbs
unfolding offers_of
row-many ka [] = refl
row-many ka (kb ∷ kbs) = ap suc (row-many ka kbs)

all-many : (kas kbs : List ℕ) → length (all_offers kas kbs) ≡ length kas * length kbs
unfolding all_offers
all-many [] kbs = sym (zero-mul (length kbs))
all-many (ka ∷ kas) kbs =
    length-append (offers_of ka kbs) (all_offers kas kbs) ∙ ap₂ ◌+◌ (row-many ka kbs) (all-many kas kbs)
    ∙ add_comm (length kbs) (length kas * length kbs) ∙ sym (suc-mul (length kas) (length kbs))

-- every cut of the one tail with every cut of the other
pub offers-many : (la lb : ℕ) → length (offers la lb) ≡ length (cuts la) * length (cuts lb)
offers-many la lb = all-many (cuts la) (cuts lb)

pub pairs-few : (la lb : ℕ) → length (cuts la) * length (cuts lb) ≤ 324
pairs-few la lb = mul-le-mul (cuts-few la) (cuts-few lb)

-- so no block has more than 324 candidates
pub candidates-few : (a b : ℕ) (es : List Event) → candidates a b es ≤ max_candidates
unfolding candidates
candidates-few a b es =
    let la = length (ahead a es) in
    let lb = length (ahead b es) in
    rw (offers-many la lb) (pairs-few la lb)

-- ---- the candidates classified

settled-tried : (a b n : ℕ) (x : Choice) (angled : Bool) (r : Resolved) → (settled a b n x angled r).tried ≡ r.tried + n
settled-tried a b n x angled r = cond_both x.class.swap _ _ (λ (z : Resolved). z.tried ≡ r.tried + n) (λ _. refl) (λ _. refl)

module _ (relabel : Bool) (tol : Float) where
  tried-from : (es : List Event) (r : Resolved) → (resolved relabel tol es r).tried ≡ r.tried + classified es
  unfolding resolved classified
  tried-from [] r = sym (add-zero r.tried)
  tried-from (gone ∷ es) r = tried-from es r
  tried-from (one w m ∷ es) r = tried-from es (passed w m r) ∙ ap (λ k. k + classified es) (by (eqb (get_or r.splits w 0) 0))
    where
      by : (b : Bool) → (cond b (lengthened w m r) (promised w (get_or r.splits w 0 - 1) r)).tried ≡ r.tried
      by true = refl
      by false = refl
  tried-from (two a b u ∷ es) r =
      tried-from es (resolve_step relabel tol (two a b u) es r)
      ∙ ap (λ k. k + classified es) (settled-tried a b (candidates a b es) (chosen relabel tol a b u es r).best (chosen relabel tol a b u es r).angled r)
      ∙ add_assoc r.tried (candidates a b es) (classified es)
  tried-from (three a b c ∷ es) r = tried-from es (resolve_step relabel tol (three a b c) es r) ∙ ap (λ k. k + classified es) (add-zero r.tried)

  -- `tried` is the number of classifications: one for each candidate of each block
  pub tried-is : (n swaps : ℕ) (es : List Event) → (fuse_of relabel tol n swaps es).tried ≡ classified (reverse (compressed (fused es)))
  unfolding fuse_of resolved_of start_of
  tried-is n swaps es = tried-from (reverse (compressed (fused es))) (start_of n swaps) ∙ zero-add (classified (reverse (compressed (fused es))))
