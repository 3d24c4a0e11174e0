-- Keys along one path, and what a join does to them: two paths that the definition joins at their first wires are joined in the keys, whichever
-- way each of them lies. Places are measured from a path's two ends, so that no case is made of its direction. Assumes nothing.
use mathlib.Core.Path.{◌≡◌, refl, sym, ap, ap₂, subst, subst₂, ◌∙◌}
use mathlib.Core.Bool.{Bool, true, false, cond}
use mathlib.Core.List.{List, [], ◌∷◌}
use mathlib.Core.Logic.{◌⊎◌, inl, inr, ⊎_elim, ◌≢◌}
use Prim.Native.Nat.{ℕ, suc, ◌+◌, ◌≤◌}
use native.Mathlib.Omega.{arith}
use lib.Dec.{eqb, ltb}
use lib.ListN.{length}
use borrow.Author.Tests.{eq-eqb, ne_eqb, le-ltb, eqb-true, ltb-true, ltb-false}
use native.Mathlib.Numerals.{add-one}
use Rattle.std.proofs.lemmas.Bool.{cond_both}
use Rattle.order.specs.declared.keys.Key.{Key}
use Rattle.order.specs.declared.keys.Link.{Link}
use Rattle.order.specs.Keys.{key, moved_of, link_of, other_end_of, the_link}
use Rattle.order.specs.Cover.{onto, final}
use Rattle.order.specs.Arrangement.{abs_diff_of}
use Rattle.order.proofs.Turns.{turned-ends, final-cons, final-nil, onto-turned, turned-twice}

pub key_of : {l h a m i b : ℕ} → l ≡ m → h ≡ i → a ≡ b → key l h a ≡ key m i b
key_of p q r = cc

-- ---- keys along a list

module _ (K : ℕ → Key) where
  -- the places go up from i
  unfoldable pub Rise : ℕ → ℕ → ℕ → List ℕ → Type 0
  Rise l h i [] = Unit {0}
  Rise l h i (x ∷ p) = (K x ≡ key l h i) × Rise l h (suc i) p

  -- the places go down to 0
  unfoldable Fall : ℕ → ℕ → List ℕ → Type 0
  Fall l h [] = Unit {0}
  Fall l h (x ∷ p) = (K x ≡ key l h (length p)) × Fall l h p

  -- the ends have the places d and e: the wire after i others is i from d, and as far from e as wires follow
  unfoldable Spread : ℕ → ℕ → ℕ → ℕ → ℕ → List ℕ → Type 0
  Spread l h d e i [] = Unit {0}
  Spread l h d e i (x ∷ p) =
      ((K x).lo ≡ l) × ((K x).hi ≡ h) × (abs_diff_of (K x).at d ≡ i) × (abs_diff_of (K x).at e ≡ length p) × Spread l h d e (suc i) p

  rise-onto : (l h : ℕ) (p q : List ℕ) → Fall l h p → Rise l h (length p) q → Rise l h 0 (onto p q)
  unfolding Rise Fall onto
  rise-onto l h [] q f r = r
  rise-onto l h (x ∷ p) q f r = rise-onto l h p (x ∷ q) f.1 (f.0, r)

  rise-spread : (l h i m : ℕ) (p : List ℕ) → m + 1 ≡ i + length p → Rise l h i p → Spread l h 0 m i p
  unfolding Rise Spread
  rise-spread l h i m [] e r = tt
  rise-spread l h i m (x ∷ p) e r = (
    ap (λ (k : Key). k.lo) r.0,
    ap (λ (k : Key). k.hi) r.0,
    ap (λ (k : Key). abs_diff_of k.at 0) r.0 ∙ rw (le-ltb i 0 (omega arith)) (omega arith),
    ap (λ (k : Key). abs_diff_of k.at m) r.0 ∙ far i m (length p) (omega (arith, e)),
    rise-spread l h (suc i) m p (omega (arith, e)) r.1,
  )
    where
      far : (i m n : ℕ) → m ≡ i + n → abs_diff_of i m ≡ n
      far i m n f = cond_both (ltb i m) _ _ (λ z. z ≡ n) (λ g. omega (arith, f)) (λ g. omega (arith, f, ltb-false i m g))

  -- turned round, a path is spread the other way
  spread-onto : (l h d e : ℕ) (p q : List ℕ) → Spread l h d e (length q) p → Spread l h e d (length p) q → Spread l h e d 0 (onto p q)
  unfolding Spread onto
  spread-onto l h d e [] q s r = r
  spread-onto l h d e (x ∷ p) q s r = spread-onto l h d e p (x ∷ q) s.4 (s.0, s.1, s.3, s.2, r)

  spread-turned : (l h d e : ℕ) (p : List ℕ) → Spread l h d e 0 p → Spread l h e d 0 (onto p [])
  unfolding Spread
  spread-turned l h d e p s = spread-onto l h d e p [] s tt

  pub rise-final : (l h i x : ℕ) (p : List ℕ) → Rise l h i (x ∷ p) → K (final x p) ≡ key l h (i + length p)
  unfolding Rise final
  rise-final l h i x [] r = r.0 ∙ ap (key l h) nil
    where
      nil : i ≡ i + 0
      nil = omega arith
  rise-final l h i x (y ∷ p) r = rise-final l h (suc i) y p r.1 ∙ ap (key l h) next
    where
      next : suc i + length p ≡ i + suc (length p)
      next = omega arith

  pub rise-first : (l h i x : ℕ) (p : List ℕ) → Rise l h i (x ∷ p) → K x ≡ key l h i
  unfolding Rise
  rise-first l h i x p r = r.0

-- ---- a path and its ends

module _ (K : ℕ → Key) where
  -- the list p lies along the path from its smaller end `lo` to its larger end `hi`, that way or the other
  pub record Keyed (p : List ℕ) : Type 0 where
    pub lo : ℕ
    pub hi : ℕ
    pub rest : List ℕ
    pub rise : Rise K lo hi 0 (lo ∷ rest)
    pub last : final lo rest ≡ hi
    pub way : (p ≡ lo ∷ rest) ⊎ (p ≡ onto (lo ∷ rest) [])
    pub le : lo ≤ hi

  pub keyed-turned : (p : List ℕ) → Keyed p → Keyed (onto p [])
  keyed-turned p k = record {
    lo = k.lo;
    hi = k.hi;
    rest = k.rest;
    rise = k.rise;
    last = k.last;
    way =
        ⊎_elim (λ e. inr (ap (λ (z : List ℕ). onto z []) e)) (λ e. inl (ap (λ (z : List ℕ). onto z []) e ∙ turned-twice (k.lo ∷ k.rest))) k.way;
    le = k.le;
  }

  -- a list x ∷ p, seen from its first wire
  record Ended (l h x : ℕ) (p : List ℕ) : Type 0 where
    spread : Spread K l h (K x).at (K (final x p)).at 0 (x ∷ p)
    ends : ((l ≡ x) × (h ≡ final x p)) ⊎ ((l ≡ final x p) × (h ≡ x))

  abbrev EndedList : ℕ → ℕ → List ℕ → Type 0
  EndedList l h [] = Unit {0}
  EndedList l h (x ∷ p) = Ended l h x p

  rise-ended : (l h : ℕ) (p : List ℕ) → Rise K l h 0 (l ∷ p) → final l p ≡ h → Ended l h l p
  rise-ended l h p r e = record {
    spread =
        subst₂ (λ (d e : ℕ). Spread K l h d e 0 (l ∷ p)) (sym (ap (λ (k : Key). k.at) (rise-first K l h 0 l p r)))
        (sym (ap (λ (k : Key). k.at) (rise-final K l h 0 l p r)))
        (rise-spread K l h 0 (0 + length p) (l ∷ p) (omega arith) r);
    ends = inl (refl, sym e);
  }

  ended-turned : (l h x : ℕ) (p : List ℕ) → Ended l h x p → EndedList l h (onto (x ∷ p) [])
  ended-turned l h x p k = subst (EndedList l h) (sym o.1) (record {
    spread =
        subst (λ (z : List ℕ). Spread K l h (K (final x p)).at (K (final (final x p) o.0)).at 0 z) o.1
        (subst (λ (z : ℕ). Spread K l h (K (final x p)).at (K z).at 0 (onto (x ∷ p) [])) (sym end)
        (spread-turned K l h (K x).at (K (final x p)).at (x ∷ p) k.spread));
    ends = ⊎_elim (λ f. inr (f.0 ∙ sym end, f.1)) (λ f. inl (f.0, f.1 ∙ sym end)) k.ends;
  })
    where
      o : (s : List ℕ) × (onto (x ∷ p) [] ≡ final x p ∷ s) × (final (final x p) s ≡ final x [])
      o = turned-ends x p []

      end : final (final x p) o.0 ≡ x
      end = o.2 ∙ final-nil x

  keyed-ended : (x : ℕ) (p : List ℕ) (k : Keyed (x ∷ p)) → Ended k.lo k.hi x p
  keyed-ended x p k =
      ⊎_elim (λ e. subst (EndedList k.lo k.hi) (sym e) up)
      (λ e. subst (EndedList k.lo k.hi) (sym e) (ended-turned k.lo k.hi k.lo k.rest up))
      k.way
    where
      up : Ended k.lo k.hi k.lo k.rest
      up = rise-ended k.lo k.hi k.rest k.rise k.last

  ended-first : (l h x : ℕ) (p : List ℕ) → Ended l h x p → ((K x).lo ≡ l) × ((K x).hi ≡ h) × (abs_diff_of (K x).at (K (final x p)).at ≡ length p)
  unfolding Spread
  ended-first l h x p k = (k.spread.0, k.spread.1, k.spread.3)

  pub keyed-first : (x : ℕ) (p : List ℕ) (k : Keyed (x ∷ p)) → ((K x).lo ≡ k.lo) × ((K x).hi ≡ k.hi)
      × (abs_diff_of (K x).at (K (final x p)).at ≡ length p)
  keyed-first x p k = ended-first k.lo k.hi x p (keyed-ended x p k)

  -- its two ends are the path's, in one order or the other
  pub keyed-ends : (x : ℕ) (p : List ℕ) (k : Keyed (x ∷ p)) → ((k.lo ≡ x) × (k.hi ≡ final x p)) ⊎ ((k.lo ≡ final x p) × (k.hi ≡ x))
  keyed-ends x p k = (keyed-ended x p k).ends

  -- the end that the first wire's key names as the other is its last wire
  pub keyed-other : (x : ℕ) (p : List ℕ) → Keyed (x ∷ p) → other_end_of (K x) x ≡ final x p
  keyed-other x p k = go (keyed-ends x p k) (keyed-first x p k)
    where
      go : ((k.lo ≡ x) × (k.hi ≡ final x p)) ⊎ ((k.lo ≡ final x p) × (k.hi ≡ x))
          → ((K x).lo ≡ k.lo) × ((K x).hi ≡ k.hi) × (abs_diff_of (K x).at (K (final x p)).at ≡ length p) → other_end_of (K x) x ≡ final x p
      go (inl e) f = rw (eq-eqb (K x).lo x (f.0 ∙ e.0)) (f.1 ∙ e.1)
      go (inr e) f = pick (eqb (K x).lo x) refl
        where
          pick : (t : Bool) → eqb (K x).lo x ≡ t → cond t (K x).hi (K x).lo ≡ final x p
          pick true g = f.1 ∙ e.1 ∙ sym (eqb-true (K x).lo x g) ∙ f.0 ∙ e.0
          pick false g = f.0 ∙ e.0

-- ---- a join

module _ (K L : ℕ → Key) (j : Link) (moved : (x : ℕ) → L x ≡ moved_of j (K x)) where
  -- the path that comes first: each wire gets its distance from the far end
  fall-near : (h d i : ℕ) (p : List ℕ) → Spread K j.near h d j.turn i p → Fall L j.lo j.hi p
  unfolding Spread Fall moved_of
  fall-near h d i [] s = tt
  fall-near h d i (x ∷ p) s = (moved x ∙ near x s.0 ∙ key_of refl refl s.3, fall-near h d (suc i) p s.4)
    where
      near : (x : ℕ) → (K x).lo ≡ j.near → moved_of j (K x) ≡ key j.lo j.hi (abs_diff_of (K x).at j.turn)
      near x e = rw (eq-eqb (K x).lo j.near e)

  rise-far : (l h e i : ℕ) (p : List ℕ) → l ≢ j.near → l ≡ j.far → Spread K l h j.joint e i p → Rise L j.lo j.hi (j.size + i) p
  unfolding Spread Rise moved_of
  rise-far l h e i [] u v s = tt
  rise-far l h e i (x ∷ p) u v s = (
    moved x ∙ far x s.0 ∙ key_of refl refl (ap (λ (m : ℕ). j.size + m) s.2),
    subst (λ (m : ℕ). Rise L j.lo j.hi m p) (next j.size) (rise-far l h e (suc i) p u v s.4),
  )
    where
      next : (m : ℕ) → m + suc i ≡ suc (m + i)
      next m = omega arith

      far : (x : ℕ) → (K x).lo ≡ l → moved_of j (K x) ≡ key j.lo j.hi (j.size + abs_diff_of (K x).at j.joint)
      far x f = rw (ne_eqb (K x).lo j.near (λ g. u (sym f ∙ g)), eq-eqb (K x).lo j.far (f ∙ v))

  follow : (l h d e : ℕ) (p q : List ℕ) (g : ℕ) → Spread K j.near h d j.turn 0 p → l ≢ j.near → l ≡ j.far
      → Spread K l g j.joint e 0 q → j.size ≡ length p → Rise L j.lo j.hi 0 (onto p q)
  follow l h d e p q g s u v r z =
      rise-onto L j.lo j.hi p q (fall-near h d 0 p s) (subst (λ (m : ℕ). Rise L j.lo j.hi m q) (same ∙ z) (rise-far l g e 0 q u v r))
    where
      same : j.size + 0 ≡ j.size
      same = omega arith

  -- a path that is not joined keeps its keys
  rise-same : (l h i : ℕ) (p : List ℕ) → l ≢ j.near → l ≢ j.far → Rise K l h i p → Rise L l h i p
  unfolding Rise moved_of
  rise-same l h i [] u v r = tt
  rise-same l h i (x ∷ p) u v r = (
    moved x ∙ rw (ne_eqb (K x).lo j.near (λ f. u (sym own ∙ f)), ne_eqb (K x).lo j.far (λ f. v (sym own ∙ f))) r.0,
    rise-same l h (suc i) p u v r.1,
  )
    where
      own : (K x).lo ≡ l
      own = ap (λ (k : Key). k.lo) r.0

  pub keyed-same : (p : List ℕ) (k : Keyed K p) → k.lo ≢ j.near → k.lo ≢ j.far → Keyed L p
  keyed-same p k u v = record {
    lo = k.lo;
    hi = k.hi;
    rest = k.rest;
    rise = rise-same k.lo k.hi 0 (k.lo ∷ k.rest) u v k.rise;
    last = k.last;
    way = k.way;
    le = k.le;
  }

-- the path a ∷ t from its last wire, then b ∷ s
module _ (K L : ℕ → Key) (a b : ℕ) (t s : List ℕ) (ka : Keyed K (a ∷ t)) (kb : Keyed K (b ∷ s)) (ne : kb.lo ≢ ka.lo) where
  rise-joined : ((x : ℕ) → L x ≡ moved_of (link_of (K a) (K (final a t)) (final a t) (K b) (final b s)) (K x))
      → Rise L (final a t) (final b s) 0 (onto (a ∷ t) (b ∷ s))
  rise-joined moved =
      follow K L (link_of (K a) (K (final a t)) (final a t) (K b) (final b s)) moved kb.lo ka.hi (K a).at (K (final b s)).at (a ∷ t) (b ∷ s)
      kb.hi
      (subst (λ (z : ℕ). Spread K z ka.hi (K a).at (K (final a t)).at 0 (a ∷ t)) (sym fa.0) (keyed-ended K a t ka).spread)
      (λ e. ne (e ∙ fa.0))
      (sym (keyed-first K b s kb).0)
      (keyed-ended K b s kb).spread
      (ap (λ (z : ℕ). z + 1) fa.2 ∙ add-one (length t))
    where
      fa : ((K a).lo ≡ ka.lo) × ((K a).hi ≡ ka.hi) × (abs_diff_of (K a).at (K (final a t)).at ≡ length t)
      fa = keyed-first K a t ka

  -- the list l has that path, in that direction or the other
  keyed-link : final a t ≤ final b s → (l : List ℕ) → (l ≡ onto (a ∷ t) (b ∷ s)) ⊎ (l ≡ onto (onto (a ∷ t) (b ∷ s)) [])
      → ((x : ℕ) → L x ≡ moved_of (link_of (K a) (K (final a t)) (final a t) (K b) (final b s)) (K x)) → Keyed L l
  keyed-link le l way moved = record {
    lo = final a t;
    hi = final b s;
    rest = o.0;
    rise = subst (Rise L (final a t) (final b s) 0) o.1 (rise-joined moved);
    last = o.2 ∙ final-cons a b s;
    way = ⊎_elim (λ e. inl (e ∙ o.1)) (λ e. inr (e ∙ ap (λ (z : List ℕ). onto z []) o.1)) way;
    le = le;
  }
    where
      o : (r : List ℕ) × (onto (a ∷ t) (b ∷ s) ≡ final a t ∷ r) × (final (final a t) r ≡ final a (b ∷ s))
      o = turned-ends a t (b ∷ s)

-- THE JOIN: what the definition puts in the place of two paths has the keys of the code's link
pub keyed-join : (K L : ℕ → Key) (a b : ℕ) (t s : List ℕ) (ka : Keyed K (a ∷ t)) (kb : Keyed K (b ∷ s)) → kb.lo ≢ ka.lo
    → ((x : ℕ) → L x ≡ moved_of (the_link K a b) (K x)) → Keyed L (onto (a ∷ t) (b ∷ s))
keyed-join K L a b t s ka kb ne moved = go (ltb (final a t) (final b s)) refl (λ x. moved x ∙ ap (λ (j : Link). moved_of j (K x)) same)
  where
    pick : ℕ → ℕ → Bool → Link
    pick p q c = cond c (link_of (K a) (K p) p (K b) q) (link_of (K b) (K q) q (K a) p)

    same : the_link K a b ≡ pick (final a t) (final b s) (ltb (final a t) (final b s))
    same = ap₂ (λ (p q : ℕ). pick p q (ltb p q)) (keyed-other K a t ka) (keyed-other K b s kb)

    go : (c : Bool) → ltb (final a t) (final b s) ≡ c → ((x : ℕ) → L x ≡ moved_of (pick (final a t) (final b s) c) (K x))
        → Keyed L (onto (a ∷ t) (b ∷ s))
    go true e h = keyed-link K L a b t s ka kb ne (omega (arith, ltb-true (final a t) (final b s) e)) (onto (a ∷ t) (b ∷ s)) (inl refl) h
    go false e h =
        keyed-link K L b a s t kb ka (λ q. ne (sym q)) (ltb-false (final a t) (final b s) e) (onto (a ∷ t) (b ∷ s))
        (inr (sym (onto-turned (b ∷ s) (a ∷ t)))) h
