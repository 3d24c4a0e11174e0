-- The search for the best cuts, cut by cut: what is left to try from a cut on; and that it turns on what the cuts take and on nothing else.
-- Assumes nothing.
use mathlib.Core.Path.{◌≡◌, refl, sym, ap, ◌∙◌}
use Rattle.std.proofs.lemmas.Bool.{false≢true, cond_both}
use mathlib.Core.Bool.{Bool, true, false, cond}
use mathlib.Core.List.{List, [], ◌∷◌, ◌++◌}
use Prim.Native.Nat.{ℕ, zero, suc, ◌+◌, ◌-◌, ◌≤◌, ◌<◌}
use native.Mathlib.Omega.{arith}
use lib.Ieee.{Float}
use Rattle.laws.specs.Lists.{All}
use Rattle.laws.specs.Views.{up_from}
use Rattle.laws.proofs.Lists.{all_append}
use Rattle.laws.proofs.Views.{up-head}
use Rattle.gate.specs.Matrix.{kron_of, mul4_of}
use Rattle.gate.specs.declared.matrix.Mat2.{Mat2}
use Rattle.gate.specs.declared.matrix.Mat4.{Mat4}
use Rattle.classify.specs.Classify.{classify2_of}
use Rattle.resolve.specs.Choose.{Search}
use Rattle.resolve.specs.Cuts.{in_window, keep, cuts}
use Rattle.resolve.specs.Choose.{no_choice, offer_of, Offer, offers_of, all_offers, try_each, choose_of}

-- ---- the cuts from t on

unfoldable pub cuts_from : ℕ → ℕ → List ℕ
cuts_from len t = keep (in_window len) (up_from (λ t. t) t (len + 1 - t))

module _ (len : ℕ) where
  pub from_start : cuts_from len 0 ≡ cuts len
  unfolding cuts_from cuts
  from_start =
      let n : len + 1 - 0 ≡ len + 1 = omega arith in
      ap (λ n. keep (in_window len) (up_from (λ t. t) 0 n)) n

  module _ (t : ℕ) where
    pub from_end : len < t → cuts_from len t ≡ []
    unfolding cuts_from keep up_from
    from_end h =
        let n : len + 1 - t ≡ 0 = omega arith in
        rw n

    next : t ≤ len → cuts_from len t ≡ cond (in_window len t) (t ∷ cuts_from len (t + 1)) (cuts_from len (t + 1))
    unfolding cuts_from keep
    next h = ap (keep (in_window len)) (up-head (λ t. t) t (len + 1) (omega arith))

    pub from-tried : t ≤ len → in_window len t ≡ true → cuts_from len t ≡ t ∷ cuts_from len (t + 1)
    from-tried h w = next h ∙ rw w

    pub from-passed : t ≤ len → in_window len t ≡ false → cuts_from len t ≡ cuts_from len (t + 1)
    from-passed h w = next h ∙ rw w

-- the first cut is always tried
pub first_window : (len t : ℕ) → in_window len t ≡ false → 0 < t
first_window len zero e = absurd (false≢true (sym e))
first_window len (suc t) e = omega arith

-- ---- the search from a cut on

module _ (relabel : Bool) (tol : Float) (base : Mat4) (pa pb : ℕ → Mat2) where
  abbrev each : List Offer → Search → Search
  each = try_each relabel tol base pa pb

  each_append : (os ps : List Offer) (s : Search) → each (os ++ ps) s ≡ each ps (each os s)
  unfolding try_each
  each_append [] ps s = refl
  each_append (o ∷ os) ps s = each_append os ps _

  pub row-end : (ka lb kb : ℕ) (s : Search) → lb < kb → each (offers_of ka (cuts_from lb kb)) s ≡ s
  unfolding offers_of try_each
  row-end ka lb kb s h = ap (λ l. each (offers_of ka l) s) (from_end lb kb h)

  pub row-tried : (ka lb kb : ℕ) (s : Search) → kb ≤ lb → in_window lb kb ≡ true
      → each (offers_of ka (cuts_from lb kb)) s
      ≡ each (offers_of ka (cuts_from lb (kb + 1))) (offer_of ka kb (classify2_of relabel tol (mul4_of (kron_of (pa ka) (pb kb)) base)) s)
  unfolding offers_of try_each
  row-tried ka lb kb s h w = ap (λ l. each (offers_of ka l) s) (from-tried lb kb h w)

  pub row-passed : (ka lb kb : ℕ) (s : Search) → kb ≤ lb → in_window lb kb ≡ false
      → each (offers_of ka (cuts_from lb kb)) s ≡ each (offers_of ka (cuts_from lb (kb + 1))) s
  row-passed ka lb kb s h w = ap (λ l. each (offers_of ka l) s) (from-passed lb kb h w)

  pub all_end : (la ka : ℕ) (kbs : List ℕ) (s : Search) → la < ka → each (all_offers (cuts_from la ka) kbs) s ≡ s
  unfolding all_offers try_each
  all_end la ka kbs s h = ap (λ l. each (all_offers l kbs) s) (from_end la ka h)

  pub all-tried : (la ka : ℕ) (kbs : List ℕ) (s : Search) → ka ≤ la → in_window la ka ≡ true
      → each (all_offers (cuts_from la ka) kbs) s ≡ each (all_offers (cuts_from la (ka + 1)) kbs) (each (offers_of ka kbs) s)
  unfolding all_offers
  all-tried la ka kbs s h w =
      ap (λ l. each (all_offers l kbs) s) (from-tried la ka h w) ∙ each_append (offers_of ka kbs) (all_offers (cuts_from la (ka + 1)) kbs) s

  pub all-passed : (la ka : ℕ) (kbs : List ℕ) (s : Search) → ka ≤ la → in_window la ka ≡ false
      → each (all_offers (cuts_from la ka) kbs) s ≡ each (all_offers (cuts_from la (ka + 1)) kbs) s
  all-passed la ka kbs s h w = ap (λ l. each (all_offers l kbs) s) (from-passed la ka h w)

  pub all_start : (la lb : ℕ)
      → each (all_offers (cuts_from la 0) (cuts lb)) (record { best = no_choice base; angled = false }) ≡ choose_of relabel tol base pa pb la lb
  unfolding choose_of
  all_start la lb = ap (λ l. each (all_offers l (cuts lb)) (record { best = no_choice base; angled = false })) (from_start la)

pub ruleset rows = (from_start, row-end, row-tried, row-passed, first_window)

pub ruleset searches = (all_start, all_end, all-tried, all-passed, first_window)

-- ---- other tables with the same prefixes

-- every number of a list is at most m
abbrev pub UpTo : ℕ → List ℕ → Type 0
UpTo m = All (λ t. t ≤ m)

keep-up-to : (m : ℕ) (p : ℕ → Bool) (k n : ℕ) → k + n ≤ m + 1 → UpTo m (keep p (up_from (λ t. t) k n))
unfolding keep up_from
keep-up-to m p k zero h = tt
keep-up-to m p k (suc n) h =
    cond_both (p k) _ _ (UpTo m)
    (λ _. (omega arith, (keep-up-to m p (suc k) n (omega arith)))) (λ _. (keep-up-to m p (suc k) n (omega arith)))

pub cuts-up-to : (m : ℕ) → UpTo m (cuts m)
unfolding cuts
cuts-up-to m = keep-up-to m (in_window m) 0 (m + 1) (omega arith)

-- both cuts of an offer are there
abbrev Inside : ℕ → ℕ → Offer → Type 0
Inside la lb o = (o.ka ≤ la) × (o.kb ≤ lb)

module _ (la lb : ℕ) where
  row_inside : (ka : ℕ) (kbs : List ℕ) → ka ≤ la → UpTo lb kbs → All (Inside la lb) (offers_of ka kbs)
  unfolding offers_of
  row_inside ka [] h v = tt
  row_inside ka (kb ∷ kbs) h v = ((h, v.0), row_inside ka kbs h v.1)

  all-inside : (kas kbs : List ℕ) → UpTo la kas → UpTo lb kbs → All (Inside la lb) (all_offers kas kbs)
  unfolding all_offers
  all-inside [] kbs u v = tt
  all-inside (ka ∷ kas) kbs u v =
      all_append (Inside la lb) (offers_of ka kbs) (all_offers kas kbs) (row_inside ka kbs u.0 v) (all-inside kas kbs u.1 v)

module _ (relabel : Bool) (tol : Float) (base : Mat4) (pa pb qa qb : ℕ → Mat2) (la lb : ℕ)
    (ha : (t : ℕ) → t ≤ la → qa t ≡ pa t) (hb : (t : ℕ) → t ≤ lb → qb t ≡ pb t) where
  each_same : (os : List Offer) (s : Search) → All (Inside la lb) os → try_each relabel tol base qa qb os s ≡ try_each relabel tol base pa pb os s
  unfolding try_each
  each_same [] s h = refl
  each_same (o ∷ os) s h = rw (ha o.ka h.0.0, hb o.kb h.0.1) (each_same os _ h.1)

  pub choose-same : choose_of relabel tol base qa qb la lb ≡ choose_of relabel tol base pa pb la lb
  unfolding choose_of
  choose-same = each_same _ _ (all-inside la lb (cuts la) (cuts lb) (cuts-up-to la) (cuts-up-to lb))
