-- Fusing keeps the run of a list of events, in any monoid. A block that takes a gate: what is not on its slots commutes with the block, so the
-- one-qubit gates on them and the gate itself may move next to it. Assumes nothing.
use mathlib.Core.Path.{◌≡◌, refl, sym, ap, ◌∙◌, subst}
use mathlib.Core.Logic.{◌≢◌, Ne-symm}
use mathlib.Core.Bool.{Bool, true, false, cond, ◌&&◌, ◌||◌}
use mathlib.Core.List.{List, [], ◌∷◌, ◌++◌, map}
use Prim.Native.Nat.{ℕ}
use lib.Dec.{eqb}
use borrow.Author.Tests.{eqb-true, eqb-false}
use Rattle.std.proofs.lemmas.Bool.{or_parts}
use Rattle.laws.specs.Views.{until, from}
use Rattle.laws.specs.Lists.{All}
use Rattle.laws.proofs.Lists.{all_map, all_append, whole, until-all, from_all, until-fails}
use Rattle.gate.specs.Matrix.{id2, mul2_of, mul4_of, kron_of, mat4_swap_qubits_of}
use Rattle.gate.specs.declared.matrix.Mat2.{Mat2}
use Rattle.gate.specs.declared.matrix.Mat4.{Mat4}
use Rattle.fuse.specs.Events.{Event, gone, one, two, three, one_on, meets, product, clear}
use Rattle.fuse.specs.Fuse.{grown, joined, place, fuse_step, fused}
use Rattle.register.specs.Runs.{Monoid, Acts, ev, run, Ok, Keeps}

-- ---- events and slots

-- it is no block on c or d
abbrev pub Free : ℕ → ℕ → Event → Type 0
Free c d gone = Unit {0}
Free c d (one v m) = Unit {0}
Free c d (two a b u) = (c ≢ a) × (c ≢ b) × (d ≢ a) × (d ≢ b)
Free c d (three x y z) = Unit {0}

-- it is not on c or d
abbrev pub Off : ℕ → ℕ → Event → Type 0
Off c d gone = Unit {0}
Off c d (one v m) = (c ≢ v) × (d ≢ v)
Off c d (two a b u) = (c ≢ a) × (c ≢ b) × (d ≢ a) × (d ≢ b)
Off c d (three x y z) = ⊥

pub fails : (a b : ℕ) → eqb a b ≡ false → b ≢ a
fails a b e h = eqb-false a b e (sym h)

pub free : (c d : ℕ) (e : Event) → meets c d e ≡ false → Free c d e
free c d gone h = tt
free c d (one v m) h = tt
free c d (three x y z) h = tt
free c d (two a b u) h =
    let t = or_parts (eqb a c || eqb b c) (eqb a d || eqb b d) h in
    let p = or_parts (eqb a c) (eqb b c) t.0 in
    let q = or_parts (eqb a d) (eqb b d) t.1 in
    (fails a c p.0, fails b c p.1, fails a d q.0, fails b d q.1)

free-turned : (c d : ℕ) (e : Event) → Free c d e → Free d c e
free-turned c d gone h = tt
free-turned c d (one v m) h = tt
free-turned c d (two a b u) h = (h.2, h.3, h.0, h.1)
free-turned c d (three x y z) h = tt

module _ (G : Monoid) (A : Acts G) where
  -- ---- moving in a product

  hop : (y e r : G.M) → G.mul y e ≡ G.mul e y → G.mul y r ≡ G.mul r y → G.mul y (G.mul e r) ≡ G.mul (G.mul e r) y
  hop y e r h k = sym (G.assoc y e r) ∙ ap (λ x. G.mul x r) h ∙ G.assoc e y r ∙ ap (G.mul e) k ∙ sym (G.assoc e r y)

  past-unit : (y : G.M) → G.mul y G.unit ≡ G.mul G.unit y
  past-unit y = G.right y ∙ sym (G.left y)

  -- y commutes with every gate that is not on c or d
  pub record Away (c d : ℕ) (y : G.M) : Type 0 where
    pub past1 : (v : ℕ) (m : Mat2) → c ≢ v → d ≢ v → G.mul y (A.ev1 v m) ≡ G.mul (A.ev1 v m) y
    pub past2 : (a b : ℕ) (u : Mat4) → c ≢ a → c ≢ b → d ≢ a → d ≢ b → G.mul y (A.ev2 a b u) ≡ G.mul (A.ev2 a b u) y

  pub first-away : (c d : ℕ) (m : Mat2) → Away c d (A.ev1 c m)
  first-away c d m = record { past1 = λ v k h l. A.apart11 c v m k h; past2 = λ a b u h i j l. A.apart12 c a b m u h i }

  second-away : (c d : ℕ) (m : Mat2) → Away c d (A.ev1 d m)
  second-away c d m = record { past1 = λ v k h l. A.apart11 d v m k l; past2 = λ a b u h i j l. A.apart12 d a b m u j l }

  both-away : (c d : ℕ) (m : Mat4) → Away c d (A.ev2 c d m)
  both-away c d m = record {
    past1 = λ v k h l. sym (A.apart12 v c d k m (Ne-symm h) (Ne-symm l));
    past2 = λ a b u h i j l. A.apart22 c d a b m u h i j l;
  }

  -- and so with a run of such gates
  pub passes : (c d : ℕ) (y : G.M) → Away c d y → (es : List Event) → All (Off c d) es → G.mul y (run G A es) ≡ G.mul (run G A es) y
  unfolding run
  passes c d y p [] h = past-unit y
  passes c d y p (gone ∷ es) h = hop y G.unit (run G A es) (past-unit y) (passes c d y p es h.1)
  passes c d y p (one v m ∷ es) h = hop y (A.ev1 v m) (run G A es) (p.past1 v m h.0.0 h.0.1) (passes c d y p es h.1)
  passes c d y p (two a b u ∷ es) h =
      hop y (A.ev2 a b u) (run G A es) (p.past2 a b u h.0.0 h.0.1 h.0.2 h.0.3) (passes c d y p es h.1)
  passes c d y p (three a b e ∷ es) h = absurd h.0

  pub run-append : (xs ys : List Event) → run G A (xs ++ ys) ≡ G.mul (run G A xs) (run G A ys)
  unfolding run
  run-append [] ys = sym (G.left (run G A ys))
  run-append (x ∷ xs) ys = ap (G.mul (ev G A x)) (run-append xs ys) ∙ sym (G.assoc (ev G A x) (run G A xs) (run G A ys))

  -- ---- the one-qubit gates on the slots of a block

  pub product_ok : (w : ℕ) (es : List Event) → All (Ok G A) es → A.ok2 (product w es)
  unfolding product
  product_ok w [] h = A.ok-id
  product_ok w (gone ∷ es) h = product_ok w es h.1
  product_ok w (one v m ∷ es) h = by (eqb v w) (product_ok w es h.1)
    where
      by : (t : Bool) → A.ok2 (product w es) → A.ok2 (cond t (mul2_of m (product w es)) (product w es))
      by true k = A.ok-mul2 m (product w es) h.0.1 k
      by false k = k
  product_ok w (two a b u ∷ es) h = product_ok w es h.1
  product_ok w (three a b c ∷ es) h = absurd h.0

  clear-ok : (c d : ℕ) (es : List Event) → All (Ok G A) es → All (Ok G A) (map (clear c d) es)
  clear-ok c d [] h = tt
  clear-ok c d (e ∷ es) h = (by (one_on c e || one_on d e), clear-ok c d es h.1)
    where
      by : (t : Bool) → Ok G A (cond t gone e)
      by true = tt
      by false = h.0

  cleared : (c d : ℕ) (e : Event) → Ok G A e → Free c d e → Off c d (clear c d e)
  cleared c d gone o f = tt
  cleared c d (one v m) o f = by (eqb v c) (eqb v d) refl refl
    where
      by : (s t : Bool) → eqb v c ≡ s → eqb v d ≡ t → Off c d (cond (s || t) gone (one v m))
      by true t p q = tt
      by false true p q = tt
      by false false p q = (fails v c p, fails v d q)
  cleared c d (two a b u) o f = f
  cleared c d (three x y z) o f = absurd o

  cleared-off : (c d : ℕ) (es : List Event) → All (Ok G A) es → All (Free c d) es → All (Off c d) (map (clear c d) es)
  cleared-off c d [] h f = tt
  cleared-off c d (e ∷ es) h f = (cleared c d e h.0 f.0, cleared-off c d es h.1 f.1)

  -- events without a block on c or d: the others, after the products of the one-qubit gates on c and on d
  pub parts : (c d : ℕ) → c ≢ d → (es : List Event) → All (Ok G A) es → All (Free c d) es
      → run G A es ≡ G.mul (run G A (map (clear c d) es)) (G.mul (A.ev1 c (product c es)) (A.ev1 d (product d es)))
  unfolding run product
  parts c d n [] h f = sym (G.left (G.mul (A.ev1 c id2) (A.ev1 d id2)) ∙ (λ i. G.mul (A.one-id c i) (A.one-id d i)) ∙ G.left G.unit)
  parts c d n (gone ∷ es) h f =
      ap (G.mul G.unit) (parts c d n es h.1 f.1)
      ∙ sym (G.assoc G.unit (run G A (map (clear c d) es)) (G.mul (A.ev1 c (product c es)) (A.ev1 d (product d es))))
  parts c d n (two a b u ∷ es) h f =
      ap (G.mul (A.ev2 a b u)) (parts c d n es h.1 f.1)
      ∙ sym (G.assoc (A.ev2 a b u) (run G A (map (clear c d) es)) (G.mul (A.ev1 c (product c es)) (A.ev1 d (product d es))))
  parts c d n (three a b e ∷ es) h f = absurd h.0
  parts c d n (one v m ∷ es) h f = ap (G.mul (A.ev1 v m)) (parts c d n es h.1 f.1) ∙ by (eqb v c) (eqb v d) (eqb-true v c) (eqb-true v d)
    where
      R : G.M
      R = run G A (map (clear c d) es)

      P : Mat2
      P = product c es

      Q : Mat2
      Q = product d es

      C : G.M
      C = A.ev1 c P

      D : G.M
      D = A.ev1 d Q

      -- y passes the others
      over : (y : G.M) → Away c d y → G.mul y (G.mul R (G.mul C D)) ≡ G.mul (G.mul G.unit R) (G.mul y (G.mul C D))
      over y p =
          sym (G.assoc y R (G.mul C D))
          ∙ ap (λ x. G.mul x (G.mul C D)) (passes c d y p (map (clear c d) es) (cleared-off c d es h.1 f.1))
          ∙ G.assoc R y (G.mul C D)
          ∙ ap (λ x. G.mul x (G.mul y (G.mul C D))) (sym (G.left R))

      by : (s t : Bool) → (s ≡ true → v ≡ c) → (t ≡ true → v ≡ d)
          → G.mul (A.ev1 v m) (G.mul R (G.mul C D))
          ≡ G.mul (G.mul (ev G A (cond (s || t) gone (one v m))) R) (G.mul (A.ev1 c (cond s (mul2_of m P) P)) (A.ev1 d (cond t (mul2_of m Q) Q)))
      by true true p q = absurd (n (sym (p refl) ∙ q refl))
      by true false p q =
          ap (λ x. G.mul (A.ev1 x m) (G.mul R (G.mul C D))) (p refl)
          ∙ over (A.ev1 c m) (first-away c d m)
          ∙ ap (G.mul (G.mul G.unit R))
          (sym (G.assoc (A.ev1 c m) C D) ∙ ap (λ x. G.mul x D) (sym (A.one-mul c m P h.0.1 (product_ok c es h.1))))
      by false true p q =
          ap (λ x. G.mul (A.ev1 x m) (G.mul R (G.mul C D))) (q refl)
          ∙ over (A.ev1 d m) (second-away c d m)
          ∙ ap (G.mul (G.mul G.unit R))
          (sym (G.assoc (A.ev1 d m) C D)
          ∙ ap (λ x. G.mul x D) (A.apart11 d c m P (Ne-symm n))
          ∙ G.assoc C (A.ev1 d m) D
          ∙ ap (G.mul C) (sym (A.one-mul d m Q h.0.1 (product_ok d es h.1))))
      by false false p q = sym (G.assoc (A.ev1 v m) R (G.mul C D))

  -- ---- a block that takes a gate

  module _ (c d : ℕ) (p : A.pair c d) (m u : Mat4) (om : A.ok4 m) (ou : A.ok4 u) (new old : List Event) (h : All (Ok G A) new) where
    kron-ok : A.ok4 (kron_of (product c new) (product d new))
    kron-ok = A.ok-kron (product c new) (product d new) (product_ok c new h) (product_ok d new h)

    grown-ok : A.ok4 (grown c d m u new)
    grown-ok = A.ok-mul4 m (mul4_of (kron_of (product c new) (product d new)) u) om (A.ok-mul4 (kron_of (product c new) (product d new)) u kron-ok ou)

    joined-ok : All (Ok G A) old → All (Ok G A) (joined c d m u new old)
    joined-ok k = (tt, all_append (Ok G A) (map (clear c d) new) (two c d (grown c d m u new) ∷ old) (clear-ok c d new h) ((p, grown-ok), k))

    joined-run : All (Free c d) new → run G A (joined c d m u new old) ≡ run G A (two c d m ∷ (new ++ (two c d u ∷ old)))
    unfolding run
    joined-run f =
        let n = A.differ c d p in
        let K = kron_of (product c new) (product d new) in
        let R = run G A (map (clear c d) new) in
        let C = A.ev1 c (product c new) in
        let D = A.ev1 d (product d new) in
        let X = A.ev2 c d m in
        let U = A.ev2 c d u in
        let O = run G A old in
        let B = grown c d m u new in
        let block : A.ev2 c d B ≡ G.mul X (G.mul (G.mul C D) U) =
        A.two-mul c d m (mul4_of K u) n om (A.ok-mul4 K u kron-ok ou)
        ∙ ap (G.mul X)
        (A.two-mul c d K u n kron-ok ou
        ∙ ap (λ x. G.mul x U) (A.two-kron c d (product c new) (product d new) n (product_ok c new h) (product_ok d new h))) in
        G.left (run G A (map (clear c d) new ++ (two c d B ∷ old)))
        ∙ run-append (map (clear c d) new) (two c d B ∷ old)
        ∙ ap (λ x. G.mul R (G.mul x O)) block
        ∙ ap (G.mul R) (G.assoc X (G.mul (G.mul C D) U) O ∙ ap (G.mul X) (G.assoc (G.mul C D) U O))
        ∙ sym (G.assoc R X (G.mul (G.mul C D) (G.mul U O)))
        ∙ ap (λ x. G.mul x (G.mul (G.mul C D) (G.mul U O))) (sym (passes c d X (both-away c d m) (map (clear c d) new) (cleared-off c d new h f)))
        ∙ G.assoc X R (G.mul (G.mul C D) (G.mul U O))
        ∙ ap (G.mul X)
        (sym (G.assoc R (G.mul C D) (G.mul U O))
        ∙ ap (λ x. G.mul x (G.mul U O)) (sym (parts c d n new h f))
        ∙ sym (run-append new (two c d u ∷ old)))

  -- ---- the pass

  module _ (a b : ℕ) (p : A.pair a b) (m : Mat4) (om : A.ok4 m) (new all : List Event) (h : All (Ok G A) new) (f : All (Free a b) new)
      (k : All (Ok G A) all) where
    stays : Keeps G A (two a b m ∷ all) (two a b m ∷ all)
    stays = (((p, om), k), refl)

    -- the block has the gate's slots, in this order or the other; m' is the gate in the block's orientation
    takes : (c d : ℕ) (u m' : Mat4) (old : List Event) → new ++ (two c d u ∷ old) ≡ all → All (Ok G A) (two c d u ∷ old) → A.ok4 m'
        → All (Free c d) new → A.ev2 c d m' ≡ A.ev2 a b m → Keeps G A (two a b m ∷ all) (joined c d m' u new old)
    unfolding run
    takes c d u m' old e o om' f' same = (
      joined-ok c d o.0.0 m' u om' o.0.1 new old h o.1,
      joined-run c d o.0.0 m' u om' o.0.1 new old h f' ∙ (λ i. G.mul (same i) (run G A (e i))),
    )

    placed : (old : List Event) → new ++ old ≡ all → All (Ok G A) old → Keeps G A (two a b m ∷ all) (place a b m new old all)
    placed [] e o = stays
    placed (gone ∷ old) e o = stays
    placed (one v k ∷ old) e o = stays
    placed (three x y z ∷ old) e o = stays
    placed (two c d u ∷ old) e o = straight (eqb c a) (eqb d b) (eqb-true c a) (eqb-true d b)
      where
        crossed : (s t : Bool) → (s ≡ true → c ≡ b) → (t ≡ true → d ≡ a)
            → Keeps G A (two a b m ∷ all) (cond (s && t) (joined c d (mat4_swap_qubits_of m) u new old) (two a b m ∷ all))
        crossed false t i j = stays
        crossed true false i j = stays
        crossed true true i j =
            takes c d u (mat4_swap_qubits_of m) old e o (A.ok-renamed m om)
            (all_map {P = Free a b}
            (λ x q. subst (λ y. Free y d x) (sym (i refl)) (subst (λ y. Free b y x) (sym (j refl)) (free-turned a b x q))) new f)
            (A.two-renamed c d m (A.differ c d o.0.0) om ∙ (λ t. A.ev2 (j refl t) (i refl t) m))

        straight : (s t : Bool) → (s ≡ true → c ≡ a) → (t ≡ true → d ≡ b)
            → Keeps G A (two a b m ∷ all)
            (cond (s && t) (joined c d m u new old) (cond (eqb c b && eqb d a) (joined c d (mat4_swap_qubits_of m) u new old) (two a b m ∷ all)))
        straight false t i j = crossed (eqb c b) (eqb d a) (eqb-true c b) (eqb-true d a)
        straight true false i j = crossed (eqb c b) (eqb d a) (eqb-true c b) (eqb-true d a)
        straight true true i j =
            takes c d u m old e o om
            (all_map {P = Free a b} (λ x q. subst (λ y. Free y d x) (sym (i refl)) (subst (λ y. Free a y x) (sym (j refl)) q)) new f)
            (λ t. A.ev2 (i refl t) (j refl t) m)

  fuse-step : (e : Event) (es : List Event) → Ok G A e → All (Ok G A) es → Keeps G A (e ∷ es) (fuse_step e es)
  fuse-step gone es o k = ((o, k), refl)
  fuse-step (one w m) es o k = ((o, k), refl)
  fuse-step (three a b c) es o k = absurd o
  fuse-step (two a b m) es o k =
      placed a b o.0 m o.1 (until (meets a b) es) es (until-all (meets a b) (Ok G A) es k)
      (all_map {P = λ e. meets a b e ≡ false} (free a b) (until (meets a b) es) (until-fails (meets a b) es))
      k (from (meets a b) es) (whole (meets a b) es) (from_all (meets a b) (Ok G A) es k)

  pub fused_keeps : (es : List Event) → All (Ok G A) es → Keeps G A es (fused es)
  unfolding fused run
  fused_keeps [] k = (tt, refl)
  fused_keeps (e ∷ es) k = by (fused_keeps es k.1)
    where
      by : Keeps G A es (fused es) → Keeps G A (e ∷ es) (fuse_step e (fused es))
      by h =
          let s = fuse-step e (fused es) k.0 h.0 in
          (s.0, s.1 ∙ ap (G.mul (ev G A e)) h.1)
