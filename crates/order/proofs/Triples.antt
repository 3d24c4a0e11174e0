-- Three marks of a record put at once: they are read back, other records stay, and only their columns change. Edges and keys are two cases.
-- By the laws of one mark. Assumes nothing.
use mathlib.Core.Path.{◌≡◌, refl, sym, ◌∙◌}
use mathlib.Core.Bool.{Bool, true, false, ◌&&◌}
use mathlib.Core.List.{List}
use mathlib.Core.Logic.{◌≢◌, ⊎_elim}
use Prim.Native.Nat.{ℕ, ◌+◌, ◌≤◌, ◌<◌}
use native.Mathlib.Omega.{arith}
use lib.Dec.{leb}
use lib.ListN.{length}
use borrow.Author.Tests.{le-leb, leb-true}
use Rattle.std.proofs.lemmas.Bool.{cases_eq}
use Rattle.work.specs.Sizes.{record_marks}
use Rattle.work.specs.Marks.{mark_at, put_mark, Only, Records}
use Rattle.work.proofs.Records.{put-size, put-here, put-column, put_record, only-trans, only-put, only_wider}
use Rattle.order.specs.declared.edges.Edge.{Edge}
use Rattle.order.specs.declared.keys.Key.{Key}
use Rattle.order.specs.Weights.{edge}
use Rattle.order.specs.Slice.{columns, edge_columns, key_columns, put_three, edge_at, put_edge, key_at, put_key}
use Rattle.order.proofs.Joins.{key_of}

-- ---- columns

-- a column that is in no wider range is in no narrower one
pub columns-wider : (a b x y c : ℕ) → x ≤ a → b ≤ y → columns x y c ≡ false → columns a b c ≡ false
columns-wider a b x y c h g e = go (leb a c) (leb c b) refl refl
  where
    inside : x ≤ c → c ≤ y → true ≡ false
    inside p q = sym (both (le-leb x c p) (le-leb c y q)) ∙ e
      where
        both : leb x c ≡ true → leb c y ≡ true → columns x y c ≡ true
        both p q = rw (p, q)

    go : (s t : Bool) → leb a c ≡ s → leb c b ≡ t → (s && t) ≡ false
    go true true p q = inside (omega (arith, leb-true a c p)) (omega (arith, leb-true c b q))
    go true false p q = refl
    go false t p q = refl

pub only-columns : (a b x y : ℕ) (us vs : List ℕ) → x ≤ a → b ≤ y → Only (columns a b) us vs → Only (columns x y) us vs
only-columns a b x y us vs h g o = only_wider (columns a b) (columns x y) us vs (λ c e. columns-wider a b x y c h g e) o

-- ---- three marks

-- another record stays
pub put-away : (us : List ℕ) (i c v j d : ℕ) → c < record_marks → d < record_marks → j ≢ i → mark_at (put_mark us i c v) j d ≡ mark_at us j d
put-away us i c v j d hc hd ne = ⊎_elim (λ (e : c ≡ d). rw (sym e) (put_record us i c v j ne)) (λ e. put-column us i c v j d hc hd e) (cases_eq c d)

module _ (a b c : ℕ) (ha : a < record_marks) (hb : b < record_marks) (hc : c < record_marks) (us : List ℕ) (i x y z : ℕ) where
  one : List ℕ
  one = put_mark us i a x

  two : List ℕ
  two = put_mark one i b y

  three-away : (j d : ℕ) → d < record_marks → j ≢ i → mark_at (put_three a b c us i x y z) j d ≡ mark_at us j d
  unfolding one two
  three-away j d hd ne = put-away two i c z j d hc hd ne ∙ put-away one i b y j d hb hd ne ∙ put-away us i a x j d ha hd ne

  three-size : length (put_three a b c us i x y z) ≡ length us
  unfolding one two
  three-size = put-size two i c z ∙ put-size one i b y ∙ put-size us i a x

  three-last : Records us (i + 1) → mark_at (put_three a b c us i x y z) i c ≡ z
  unfolding one two
  three-last r = put-here two i c z (omega (arith, put-size one i b y, put-size us i a x))

  three-middle : Records us (i + 1) → b ≢ c → mark_at (put_three a b c us i x y z) i b ≡ y
  unfolding one two
  three-middle r ne = put-column two i c z i b hc hb (λ e. ne (sym e)) ∙ put-here one i b y (omega (arith, put-size us i a x))

  three-first : Records us (i + 1) → a ≢ b → a ≢ c → mark_at (put_three a b c us i x y z) i a ≡ x
  unfolding one two
  three-first r nb nc =
      put-column two i c z i a hc ha (λ e. nc (sym e)) ∙ put-column one i b y i a hb ha (λ e. nb (sym e)) ∙ put-here us i a x (omega arith)

  three-only : (p : ℕ → Bool) → p a ≡ true → p b ≡ true → p c ≡ true → Only p us (put_three a b c us i x y z)
  unfolding one two
  three-only p pa pb pc =
      only-trans p us two (put_three a b c us i x y z) (only-trans p us one two (only-put p us i a x ha pa) (only-put p one i b y hb pb))
      (only-put p two i c z hc pc)

-- ---- edges and keys

pub edge_of : {l h w m i v : ℕ} → l ≡ m → h ≡ i → w ≡ v → edge l h w ≡ edge m i v
edge_of p q r = cc

module _ (us : List ℕ) (i : ℕ) (e : Edge) where
  pub edge_here : Records us (i + 1) → edge_at (put_edge us i e) i ≡ e
  edge_here r =
      edge_of (three-first 12 13 14 (omega arith) (omega arith) (omega arith) us i e.lo e.hi e.weight r (λ q. omega (arith, q))
      (λ q. omega (arith, q)))
      (three-middle 12 13 14 (omega arith) (omega arith) (omega arith) us i e.lo e.hi e.weight r (λ q. omega (arith, q)))
      (three-last 12 13 14 (omega arith) (omega arith) (omega arith) us i e.lo e.hi e.weight r)

  pub edge-away : (j : ℕ) → j ≢ i → edge_at (put_edge us i e) j ≡ edge_at us j
  edge-away j ne = edge_of (away 12 (omega arith)) (away 13 (omega arith)) (away 14 (omega arith))
    where
      away : (d : ℕ) → d < record_marks → mark_at (put_edge us i e) j d ≡ mark_at us j d
      away d h = three-away 12 13 14 (omega arith) (omega arith) (omega arith) us i e.lo e.hi e.weight j d h ne

  pub edge-only : Only edge_columns us (put_edge us i e)
  edge-only = three-only 12 13 14 (omega arith) (omega arith) (omega arith) us i e.lo e.hi e.weight edge_columns refl refl refl

module _ (us : List ℕ) (w : ℕ) (k : Key) where
  pub key_here : Records us (w + 1) → key_at (put_key us w k) w ≡ k
  key_here r =
      key_of (three-first 8 9 10 (omega arith) (omega arith) (omega arith) us w k.lo k.hi k.at r (λ q. omega (arith, q))
      (λ q. omega (arith, q)))
      (three-middle 8 9 10 (omega arith) (omega arith) (omega arith) us w k.lo k.hi k.at r (λ q. omega (arith, q)))
      (three-last 8 9 10 (omega arith) (omega arith) (omega arith) us w k.lo k.hi k.at r)

  pub key-away : (v : ℕ) → v ≢ w → key_at (put_key us w k) v ≡ key_at us v
  key-away v ne = key_of (away 8 (omega arith)) (away 9 (omega arith)) (away 10 (omega arith))
    where
      away : (d : ℕ) → d < record_marks → mark_at (put_key us w k) v d ≡ mark_at us v d
      away d h = three-away 8 9 10 (omega arith) (omega arith) (omega arith) us w k.lo k.hi k.at v d h ne

  pub key-only : Only key_columns us (put_key us w k)
  key-only = three-only 8 9 10 (omega arith) (omega arith) (omega arith) us w k.lo k.hi k.at key_columns refl refl refl

-- what other columns hold stays
pub edges-stay : (p : ℕ → Bool) (us vs : List ℕ) → p 12 ≡ false → p 13 ≡ false → p 14 ≡ false → Only p us vs → (i : ℕ) → edge_at vs i ≡ edge_at us i
edges-stay p us vs a b c o i = edge_of (o.same i 12 (omega arith) a) (o.same i 13 (omega arith) b) (o.same i 14 (omega arith) c)

pub keys-stay : (p : ℕ → Bool) (us vs : List ℕ) → p 8 ≡ false → p 9 ≡ false → p 10 ≡ false → Only p us vs → (i : ℕ) → key_at vs i ≡ key_at us i
keys-stay p us vs a b c o i = key_of (o.same i 8 (omega arith) a) (o.same i 9 (omega arith) b) (o.same i 10 (omega arith) c)
