-- The keys follow a whole cover. Every path has its keys; the definition finds two paths to join exactly where the keys say that the wires are ends
-- of two paths; and the keys moved by the code's link are those of the joined cover. That no wire stands twice tells the paths apart. Assumes
-- nothing.
use mathlib.Core.Path.{◌≡◌, refl, sym, ap, ap₂, subst, ◌∙◌}
use mathlib.Core.Bool.{Bool, true, false, cond, ◌&&◌, ◌||◌, or_comm, and-false, and-true, false≢true, true≢false}
use mathlib.Core.List.{List, [], ◌∷◌}
use mathlib.Core.Logic.{◌⊎◌, inl, inr, ⊎_elim, ◌≢◌}
use Prim.Native.Nat.{ℕ, suc, ◌+◌, ◌≤◌, ◌<◌}
use native.Mathlib.Nat.{not-suc-le-zero}
use native.Mathlib.Omega.{arith}
use lib.Dec.{eqb, ltb}
use lib.ListN.{length, length-append}
use borrow.Author.Tests.{eq-eqb, ne_eqb, eqb-true}
use Rattle.laws.specs.Lists.{All}
use Rattle.std.proofs.lemmas.Bool.{cases_lt, cases_eq}
use Rattle.order.specs.declared.keys.Key.{Key}
use Rattle.order.specs.declared.keys.Link.{Link}
use Rattle.order.specs.Keys.{key, moved_of, is_end_of, can_join, the_link, link_of, other_end_of, joined_keys}
use Rattle.order.specs.Cover.{onto, final, starts_with, ends_with, Pull, none, got, behind, pull, Cover, left, with_second, with_first, join_of}
use Rattle.order.specs.Arrangement.{flat}
use Rattle.order.proofs.Totals.{total, bit, times, total-turned, total-ones}
use Rattle.order.proofs.Permutation.{sum-cons, Whole, pull-whole, Wires, wires-times, wires-once}
use Rattle.order.proofs.Turns.{turned-ends}
use Rattle.order.proofs.Joins.{Rise, Keyed, keyed-turned, keyed-first, keyed-ends, keyed-same, keyed-join}

-- ---- wires on a list

times-here : (x : ℕ) (p : List ℕ) → 0 < times x (x ∷ p)
unfolding total
times-here x p = rw (eq-eqb x x refl) (omega arith)

times-final : (x : ℕ) (p : List ℕ) → 0 < times (final x p) (x ∷ p)
unfolding final total
times-final x [] = rw (eq-eqb x x refl) (omega arith)
times-final x (y ∷ p) = omega (arith, times-final y p)

times-nil : (w : ℕ) → 0 < times w [] → ⊥
unfolding total
times-nil w g = omega arith

starts-on : (w : ℕ) (p : List ℕ) → starts_with w p ≡ true → (t : List ℕ) × (p ≡ w ∷ t)
starts-on w [] e = absurd (false≢true e)
starts-on w (x ∷ p) e = (p, ap (λ (z : ℕ). z ∷ p) (eqb-true x w e))

-- a list that ends with w starts with it when turned round
ends_on : (w : ℕ) (p : List ℕ) → ends_with w p ≡ true → (t : List ℕ) × (onto p [] ≡ w ∷ t)
ends_on w [] e = absurd (false≢true e)
ends_on w (x ∷ p) e = ((turned-ends x p []).0, (turned-ends x p []).1 ∙ ap (λ (z : ℕ). z ∷ (turned-ends x p []).0) (eqb-true (final x p) w e))

flat-nil : (w : ℕ) → times w (flat []) ≡ 0
unfolding flat total
flat-nil w = refl

flat-length : (p : List ℕ) (ps : List (List ℕ)) → length (flat (p ∷ ps)) ≡ length p + length (flat ps)
unfolding flat
flat-length p ps = length-append p (flat ps)

-- ---- a keyed path

module _ (K : ℕ → Key) where
  rise-on : (l h i w : ℕ) (p : List ℕ) → Rise K l h i p → 0 < times w p → ((K w).lo ≡ l) × ((K w).hi ≡ h) × ((K w).at < i + length p)
  unfolding Rise total
  rise-on l h i w [] r g = absurd (not-suc-le-zero g)
  rise-on l h i w (x ∷ p) r g = go (eqb x w) refl g (rise-on l h (suc i) w p r.1)
    where
      go : (t : Bool) → eqb x w ≡ t → 0 < bit t + times w p → (0 < times w p → ((K w).lo ≡ l) × ((K w).hi ≡ h) × ((K w).at < suc i + length p))
          → ((K w).lo ≡ l) × ((K w).hi ≡ h) × ((K w).at < i + suc (length p))
      go true e u r' = (ap (λ (k : Key). k.lo) own, ap (λ (k : Key). k.hi) own, omega (arith, ap (λ (k : Key). k.at) own))
        where
          own : K w ≡ key l h i
          own = sym (ap K (eqb-true x w e)) ∙ r.0
      go false e u r' = let k = r' (omega arith) in (k.0, k.1, omega (arith, k.2))

  -- the wires of a keyed list are those of its path
  keyed-total : (f : ℕ → ℕ) (p : List ℕ) (k : Keyed K p) → total f p ≡ total f (k.lo ∷ k.rest)
  keyed-total f p k = ⊎_elim (λ e. ap (total f) e) (λ e. ap (total f) e ∙ total-turned f (k.lo ∷ k.rest)) k.way

  keyed-on : (p : List ℕ) (k : Keyed K p) (w : ℕ) → 0 < times w p → ((K w).lo ≡ k.lo) × ((K w).hi ≡ k.hi) × ((K w).at < length p)
  keyed-on p k w g = (o.0, o.1, omega (arith, o.2, size))
    where
      o : ((K w).lo ≡ k.lo) × ((K w).hi ≡ k.hi) × ((K w).at < 0 + length (k.lo ∷ k.rest))
      o = rise-on k.lo k.hi 0 w (k.lo ∷ k.rest) k.rise (omega (arith, keyed-total (λ x. bit (eqb x w)) p k))

      size : length p ≡ length (k.lo ∷ k.rest)
      size = sym (total-ones p) ∙ keyed-total (λ x. 1) p k ∙ total-ones (k.lo ∷ k.rest)

  pub keyed-lo : (p : List ℕ) (k : Keyed K p) → 0 < times k.lo p
  keyed-lo p k = omega (arith, keyed-total (λ x. bit (eqb x k.lo)) p k, times-here k.lo k.rest)

  keyed-hi : (p : List ℕ) (k : Keyed K p) → 0 < times k.hi p
  keyed-hi p k =
      subst (λ (z : ℕ). 0 < times z p) k.last
      (omega (arith, keyed-total (λ x. bit (eqb x (final k.lo k.rest))) p k, times-final k.lo k.rest))

  -- on its path a wire is an end by its key where it is one in the list
  keyed-end : (w : ℕ) (p : List ℕ) → Keyed K p → 0 < times w p → is_end_of (K w) w ≡ (starts_with w p || ends_with w p)
  keyed-end w [] k g = absurd (times-nil w g)
  keyed-end w (x ∷ p) k g =
      ap₂ (λ (l h : ℕ). eqb l w || eqb h w) (keyed-on (x ∷ p) k w g).0 (keyed-on (x ∷ p) k w g).1 ∙ go (keyed-ends K x p k)
    where
      go : ((k.lo ≡ x) × (k.hi ≡ final x p)) ⊎ ((k.lo ≡ final x p) × (k.hi ≡ x))
          → (eqb k.lo w || eqb k.hi w) ≡ (eqb x w || eqb (final x p) w)
      go (inl e) = ap₂ (λ (l h : ℕ). eqb l w || eqb h w) e.0 e.1
      go (inr e) = ap₂ (λ (l h : ℕ). eqb l w || eqb h w) e.0 e.1 ∙ or_comm (eqb (final x p) w) (eqb x w)

-- ---- all paths of a cover

abbrev found : Pull → Bool
found none = false
found (got q qs) = true

module _ (K : ℕ → Key) where
  unfoldable pub EachKeyed : List (List ℕ) → Type 0
  EachKeyed ps = All (Keyed K) ps

  -- a wire that is there: its key names wires that are there, and a place that is
  pub each_on : (ps : List (List ℕ)) → EachKeyed ps → (w : ℕ) → 0 < times w (flat ps)
      → (0 < times (K w).lo (flat ps)) × (0 < times (K w).hi (flat ps)) × ((K w).at < length (flat ps))
  unfolding EachKeyed
  each_on [] h w g = absurd (nil g)
    where
      nil : 0 < times w (flat []) → ⊥
      nil g = omega (arith, flat-nil w)
  each_on (p ∷ ps) h w g = go (cases_lt 0 (times w p)) (each_on ps h.1 w)
    where
      more : (v : ℕ) → times v (flat (p ∷ ps)) ≡ times v p + times v (flat ps)
      more v = sum-cons (λ x. bit (eqb x v)) p ps

      long : length (flat (p ∷ ps)) ≡ length p + length (flat ps)
      long = flat-length p ps

      go : (0 < times w p) ⊎ (times w p ≤ 0)
          → (0 < times w (flat ps) → (0 < times (K w).lo (flat ps)) × (0 < times (K w).hi (flat ps)) × ((K w).at < length (flat ps)))
          → (0 < times (K w).lo (flat (p ∷ ps))) × (0 < times (K w).hi (flat (p ∷ ps))) × ((K w).at < length (flat (p ∷ ps)))
      go (inl u) r = let o = keyed-on K p h.0 w u in (
        rw o.0 (omega (arith, more h.0.lo, keyed-lo K p h.0)),
        rw o.1 (omega (arith, more h.0.hi, keyed-hi K p h.0)),
        omega (arith, o.2, long),
      )
      go (inr u) r = let o = r (omega (arith, more w)) in (
        omega (arith, more (K w).lo, o.0),
        omega (arith, more (K w).hi, o.1),
        omega (arith, o.2, long),
      )

  -- the path of a wire that is not there is none of these
  each-away : (ps : List (List ℕ)) → EachKeyed ps → (l : ℕ) → times l (flat ps) ≡ 0 → (w : ℕ) → 0 < times w (flat ps) → (K w).lo ≢ l
  each-away ps h l z w g e = let o = each_on ps h w g in omega (arith, z, rw e at o.0)

  -- ---- a path pulled

  -- it starts with the wire, and all paths have their keys still
  abbrev Got : ℕ → Pull → Type 0
  Got w none = Unit {0}
  Got w (got q qs) = (t : List ℕ) × (q ≡ w ∷ t) × Keyed K q × EachKeyed qs

  pull-got : (w : ℕ) (ps : List (List ℕ)) → EachKeyed ps → Got w (pull w ps)
  unfolding pull EachKeyed
  pull-got w [] h = tt
  pull-got w (p ∷ ps) h = go (starts_with w p) (ends_with w p) refl refl (pull w ps) (pull-got w ps h.1)
    where
      rest : (r : Pull) → Got w r → Got w (behind p r)
      rest none g = tt
      rest (got q qs) g = (g.0, g.1, g.2, (h.0, g.3))

      go : (s e : Bool) → starts_with w p ≡ s → ends_with w p ≡ e → (r : Pull) → Got w r
          → Got w (cond s (got p ps) (cond e (got (onto p []) ps) (behind p r)))
      go true e u v r g = ((starts-on w p u).0, (starts-on w p u).1, h.0, h.1)
      go false true u v r g = ((ends_on w p v).0, (ends_on w p v).1, keyed-turned K p h.0, h.1)
      go false false u v r g = rest r g

  found-cons : (w : ℕ) (p : List ℕ) (ps : List (List ℕ)) → found (pull w (p ∷ ps)) ≡ (starts_with w p || (ends_with w p || found (pull w ps)))
  unfolding pull
  found-cons w p ps = go (starts_with w p) (ends_with w p) (pull w ps)
    where
      rest : (r : Pull) → found (behind p r) ≡ found r
      rest none = refl
      rest (got q qs) = refl

      go : (s e : Bool) (r : Pull) → found (cond s (got p ps) (cond e (got (onto p []) ps) (behind p r))) ≡ (s || (e || found r))
      go true e r = refl
      go false true r = refl
      go false false r = rest r

  -- a wire that is not there is not found
  pull-away : (w : ℕ) (ps : List (List ℕ)) → EachKeyed ps → times w (flat ps) ≡ 0 → found (pull w ps) ≡ false
  pull-away w ps h z = go (pull w ps) (pull-got w ps h) (pull-whole (λ x. bit (eqb x w)) w ps)
    where
      go : (r : Pull) → Got w r → Whole (λ x. bit (eqb x w)) (times w (flat ps)) r → found r ≡ false
      go none g k = refl
      go (got q qs) g k = absurd (bad (rw g.1 at k))
        where
          bad : times w (w ∷ g.0) + times w (flat qs) ≡ times w (flat ps) → ⊥
          bad k = omega (arith, k, z, times-here w g.0)

  starts-off : (w : ℕ) (p : List ℕ) → times w p ≤ 0 → starts_with w p ≡ false
  starts-off w p z = go (starts_with w p) refl
    where
      go : (s : Bool) → starts_with w p ≡ s → s ≡ false
      go true e = let o = starts-on w p e in absurd (bad (rw o.1 at z))
        where
          bad : times w (w ∷ (starts-on w p e).0) ≤ 0 → ⊥
          bad z = omega (arith, times-here w (starts-on w p e).0)
      go false e = refl

  ends-off : (w : ℕ) (p : List ℕ) → times w p ≤ 0 → ends_with w p ≡ false
  ends-off w p z = go (ends_with w p) refl
    where
      go : (s : Bool) → ends_with w p ≡ s → s ≡ false
      go true e = absurd (bad (rw (ends_on w p e).1 at (total-turned (λ x. bit (eqb x w)) p)))
        where
          bad : times w (w ∷ (ends_on w p e).0) ≡ times w p → ⊥
          bad k = omega (arith, k, z, times-here w (ends_on w p e).0)
      go false e = refl

  -- a wire that is there once is pulled exactly where its key says that it is an end
  pull-end : (w : ℕ) (ps : List (List ℕ)) → EachKeyed ps → times w (flat ps) ≡ 1 → is_end_of (K w) w ≡ found (pull w ps)
  unfolding EachKeyed
  pull-end w [] h z = absurd (nil z)
    where
      nil : times w (flat []) ≡ 1 → ⊥
      nil z = omega (arith, flat-nil w)
  pull-end w (p ∷ ps) h z = go (cases_lt 0 (times w p)) (pull-end w ps h.1) ∙ sym (found-cons w p ps)
    where
      more : times w (flat (p ∷ ps)) ≡ times w p + times w (flat ps)
      more = sum-cons (λ x. bit (eqb x w)) p ps

      or : (s e : Bool) → (s || e) ≡ (s || (e || false))
      or true e = refl
      or false true = refl
      or false false = refl

      go : (0 < times w p) ⊎ (times w p ≤ 0) → (times w (flat ps) ≡ 1 → is_end_of (K w) w ≡ found (pull w ps))
          → is_end_of (K w) w ≡ (starts_with w p || (ends_with w p || found (pull w ps)))
      go (inl u) r =
          keyed-end K w p h.0 u ∙ or (starts_with w p) (ends_with w p)
          ∙ ap (λ (r : Bool). starts_with w p || (ends_with w p || r)) (sym (pull-away w ps h.1 (omega (arith, more))))
      go (inr u) r = rw (starts-off w p u, ends-off w p u) (r (omega (arith, more)))

-- ---- keys that agree on the wires that are there

module _ (K L : ℕ → Key) where
  rise-agree : (l h i : ℕ) (p : List ℕ) → ((x : ℕ) → 0 < times x p → L x ≡ K x) → Rise K l h i p → Rise L l h i p
  unfolding Rise total
  rise-agree l h i [] e r = tt
  rise-agree l h i (x ∷ p) e r =
      (e x (rw (eq-eqb x x refl) (omega arith)) ∙ r.0, rise-agree l h (suc i) p (λ y g. e y (omega (arith, g))) r.1)

  keyed-agree : (p : List ℕ) → ((x : ℕ) → 0 < times x p → L x ≡ K x) → Keyed K p → Keyed L p
  keyed-agree p e k = record {
    lo = k.lo;
    hi = k.hi;
    rest = k.rest;
    rise =
        rise-agree k.lo k.hi 0 (k.lo ∷ k.rest)
        (λ x g. e x (omega (arith, g, keyed-total K (λ y. bit (eqb y x)) p k))) k.rise;
    last = k.last;
    way = k.way;
    le = k.le;
  }

  pub each-agree : (ps : List (List ℕ)) → ((x : ℕ) → 0 < times x (flat ps) → L x ≡ K x) → EachKeyed K ps → EachKeyed L ps
  unfolding EachKeyed
  each-agree [] e h = tt
  each-agree (p ∷ ps) e h = (
    keyed-agree p (λ x g. e x (omega (arith, g, sum-cons (λ y. bit (eqb y x)) p ps))) h.0,
    each-agree ps (λ x g. e x (omega (arith, g, sum-cons (λ y. bit (eqb y x)) p ps))) h.1,
  )

-- the paths that are not joined
each_same : (K L : ℕ → Key) (j : Link) → ((x : ℕ) → L x ≡ moved_of j (K x)) → (ps : List (List ℕ)) → EachKeyed K ps
    → times j.near (flat ps) ≡ 0 → times j.far (flat ps) ≡ 0 → EachKeyed L ps
unfolding EachKeyed
each_same K L j moved [] h u v = tt
each_same K L j moved (p ∷ ps) h u v = (
  keyed-same K L j moved p h.0 (other j.near u) (other j.far v),
  each_same K L j moved ps h.1 (rest j.near u) (rest j.far v),
)
  where
    more : (w : ℕ) → times w (flat (p ∷ ps)) ≡ times w p + times w (flat ps)
    more w = sum-cons (λ x. bit (eqb x w)) p ps

    other : (w : ℕ) → times w (flat (p ∷ ps)) ≡ 0 → h.0.lo ≢ w
    other w z e = omega (arith, z, more w, rw e at (keyed-lo K p h.0))

    rest : (w : ℕ) → times w (flat (p ∷ ps)) ≡ 0 → times w (flat ps) ≡ 0
    rest w z = omega (arith, z, more w)

-- ---- THE STEP: an edge in the definition and in the keys

module _ (K L : ℕ → Key) (n a b : ℕ) (c : Cover) (moved : (x : ℕ) → L x ≡ joined_keys K a b x) (all : Wires n (flat c.paths)) where
  abbrev Follows : Cover → Type 0
  Follows d = EachKeyed L d.paths × (d.all ≡ (c.all && can_join K a b))

  -- what is pulled and what is left are all wires
  abbrev Rests : List ℕ → List (List ℕ) → Type 0
  Rests p qs = (f : ℕ → ℕ) → total f p + total f (flat qs) ≡ total f (flat c.paths)

  stays : EachKeyed K c.paths → can_join K a b ≡ false → Follows (left c)
  stays h e = (
    each-agree K L c.paths (λ x g. moved x ∙ ap (λ (t : Bool). cond t (moved_of (the_link K a b) (K x)) (K x)) e) h,
    sym (and-false c.all) ∙ ap (λ (t : Bool). c.all && t) (sym e),
  )

  -- a wire of one part is not of the other
  elsewhere : (p : List ℕ) (qs : List (List ℕ)) → Rests p qs → (w : ℕ) → 0 < times w p → times w (flat qs) ≡ 0
  elsewhere p qs s w g = omega (arith, g, s (λ x. bit (eqb x w)), wires-once n (flat c.paths) all w)

  joins : (t s : List ℕ) (rs : List (List ℕ)) → Keyed K (a ∷ t) → Keyed K (b ∷ s) → EachKeyed K rs → Rests (a ∷ t) ((b ∷ s) ∷ rs)
      → (K a).lo ≢ (K b).lo → can_join K a b ≡ true → Follows (record { paths = onto (a ∷ t) (b ∷ s) ∷ rs; all = c.all })
  unfolding EachKeyed
  joins t s rs ka kb h z ne e = (
    (
      keyed-join K L a b t s ka kb (λ q. ne (fa ∙ sym q ∙ sym fb)) link,
      each_same K L (the_link K a b) link rs h (near (ltb (other_end_of (K a) a) (other_end_of (K b) b)))
          (far (ltb (other_end_of (K a) a) (other_end_of (K b) b))),
    ),
    sym (and-true c.all) ∙ ap (λ (t : Bool). c.all && t) (sym e),
  )
    where
      link : (x : ℕ) → L x ≡ moved_of (the_link K a b) (K x)
      link x = moved x ∙ ap (λ (t : Bool). cond t (moved_of (the_link K a b) (K x)) (K x)) e

      fa : (K a).lo ≡ ka.lo
      fa = (keyed-first K a t ka).0

      fb : (K b).lo ≡ kb.lo
      fb = (keyed-first K b s kb).0

      more : (w : ℕ) → times w (flat ((b ∷ s) ∷ rs)) ≡ times w (b ∷ s) + times w (flat rs)
      more w = sum-cons (λ x. bit (eqb x w)) (b ∷ s) rs

      offa : times (K a).lo (flat rs) ≡ 0
      offa = rw fa (omega (arith, more ka.lo, elsewhere (a ∷ t) ((b ∷ s) ∷ rs) z ka.lo (keyed-lo K (a ∷ t) ka)))

      offb : times (K b).lo (flat rs) ≡ 0
      offb =
          rw fb
          (omega (arith, more kb.lo, keyed-lo K (b ∷ s) kb, z (λ x. bit (eqb x kb.lo)), wires-once n (flat c.paths) all kb.lo))

      near : (t : Bool) → times (cond t (link_of (K a) (K (other_end_of (K a) a)) (other_end_of (K a) a) (K b) (other_end_of (K b) b))
          (link_of (K b) (K (other_end_of (K b) b)) (other_end_of (K b) b) (K a) (other_end_of (K a) a))).near (flat rs) ≡ 0
      near true = offa
      near false = offb

      far : (t : Bool) → times (cond t (link_of (K a) (K (other_end_of (K a) a)) (other_end_of (K a) a) (K b) (other_end_of (K b) b))
          (link_of (K b) (K (other_end_of (K b) b)) (other_end_of (K b) b) (K a) (other_end_of (K a) a))).far (flat rs) ≡ 0
      far true = offb
      far false = offa

  -- with the path of a in hand
  second : (t : List ℕ) (qs : List (List ℕ)) → b < n → EachKeyed K c.paths → Keyed K (a ∷ t) → EachKeyed K qs → Rests (a ∷ t) qs
      → is_end_of (K a) a ≡ true → Follows (with_second (a ∷ t) (pull b qs) c)
  second t qs hb h₀ ka h z ea = by (cases_eq (K a).lo (K b).lo)
    where
      fa : (K a).lo ≡ ka.lo
      fa = (keyed-first K a t ka).0

      -- on the same path
      same : (r : Pull) → found r ≡ false → can_join K a b ≡ false → Follows (with_second (a ∷ t) r c)
      same none u e = stays h₀ e
      same (got q rs) u e = absurd (true≢false u)

      other : (K a).lo ≢ (K b).lo → (r : Pull) → Got K b r → ((f : ℕ → ℕ) → Whole f (total f (flat qs)) r) → is_end_of (K b) b ≡ found r
          → Follows (with_second (a ∷ t) r c)
      other ne none g k eb = stays h₀ (rw (ea, eb))
      other ne (got q rs) (s, e, kb, h) k eb =
          subst (λ (q : List ℕ). Follows (record { paths = onto (a ∷ t) q ∷ rs; all = c.all })) (sym e)
          (joins t s rs ka (rw e at kb) h (λ f. omega (arith, z f, rw e at (k f), sum-cons f (b ∷ s) rs)) ne
          (rw (ea, eb, ne_eqb (K a).lo (K b).lo ne)))

      by : ((K a).lo ≡ (K b).lo) ⊎ ((K a).lo ≢ (K b).lo) → Follows (with_second (a ∷ t) (pull b qs) c)
      by (inl e) =
          same (pull b qs) (pull-away K b qs h (gone (cases_lt 0 (times b (flat qs)))))
          (rw (eq-eqb (K a).lo (K b).lo e) (and-false (is_end_of (K a) a && is_end_of (K b) b)))
        where
          gone : (0 < times b (flat qs)) ⊎ (times b (flat qs) ≤ 0) → times b (flat qs) ≡ 0
          gone (inl g) = absurd (each-away K qs h ka.lo (elsewhere (a ∷ t) qs z ka.lo (keyed-lo K (a ∷ t) ka)) b g (sym e ∙ fa))
          gone (inr g) = omega arith
      by (inr ne) = other ne (pull b qs) (pull-got K b qs h) (λ f. pull-whole f b qs) (pull-end K b qs h (there (cases_lt 0 (times b (a ∷ t)))))
        where
          there : (0 < times b (a ∷ t)) ⊎ (times b (a ∷ t) ≤ 0) → times b (flat qs) ≡ 1
          there (inl g) = absurd (ne (fa ∙ sym (keyed-on K (a ∷ t) ka b g).0))
          there (inr g) = omega (arith, z (λ x. bit (eqb x b)), wires-times n (flat c.paths) all b hb)

  pub join-keyed : a < n → b < n → EachKeyed K c.paths → Follows (join_of a b c)
  join-keyed ha hb h =
      first (pull a c.paths) (pull-got K a c.paths h) (λ f. pull-whole f a c.paths)
      (pull-end K a c.paths h (wires-times n (flat c.paths) all a ha))
    where
      first : (r : Pull) → Got K a r → ((f : ℕ → ℕ) → Whole f (total f (flat c.paths)) r) → is_end_of (K a) a ≡ found r → Follows (with_first b r c)
      first none g k ea = stays h (rw ea)
      first (got p qs) (t, e, ka, kq) k ea =
          subst (λ (p : List ℕ). Follows (with_second p (pull b qs) c)) (sym e)
          (second t qs hb h (rw e at ka) kq (λ f. rw e at (k f)) ea)
