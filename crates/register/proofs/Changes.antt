-- Gates act on bits as the runs of events ask: the laws of products and renamings are those of the bits that are read from matrices, and gates on
-- different slots commute because they change different places. So fusing and compressing keep what the events do to the bits. Assumes nothing.
use mathlib.Core.Path.{◌≡◌, refl, sym, ap, ap₂, ◌∙◌, subst}
use mathlib.Core.Logic.{◌⊎◌, inl, inr, ◌≢◌, Ne-symm, ⊎_elim}
use mathlib.Core.Bool.{Bool, true, false, not, cond, ◌&&◌}
use mathlib.Core.List.{List, [], ◌∷◌}
use Prim.Native.Nat.{ℕ}
use lib.Dec.{eqb}
use Rattle.laws.specs.Tables.{update}
use Rattle.laws.specs.Lists.{All}
use Rattle.std.proofs.lemmas.Bool.{cases_eq}
use Rattle.laws.proofs.Tables.{update_here, update-away, two-first, two-second, two-away, by_two}
use Rattle.gate.specs.Matrix.{id2, mul2_of, mul4_of, kron_of, mat4_swap_qubits_of}
use Rattle.gate.specs.declared.matrix.Mat2.{Mat2}
use Rattle.gate.specs.declared.matrix.Mat4.{Mat4}
use Rattle.monomial.specs.Monomial.{flip, Mono4, Has4, diagonal, bit_a, bit_b}
use Rattle.monomial.specs.Algebra.{times4, kron4, renamed}
use Rattle.monomial.proofs.Algebra.{mul4-has, kron-has, renamed-has}
use Rattle.fuse.specs.Events.{Event, gone, one, two, three}
use Rattle.fuse.specs.Fuse.{fused}
use Rattle.fuse.specs.Compress.{compressed}
use Rattle.register.specs.Runs.{Acts, run, Ok}
use Rattle.register.specs.Bits.{turned_of, first_of, second_of, turn1, turn2, events_run, changes}
use Rattle.register.specs.Blocks.{Turn, Block, Closed}
use Rattle.register.proofs.Fusing.{fused_keeps}
use Rattle.register.proofs.Compressing.{compressed-keeps}
use Rattle.register.proofs.Readings.{turn-id, turned-id, turn-mul, turned-mul, first-is, second_is, mul-first, mul-second, kron-first, kron-second, renamed-first, renamed-second}

-- ---- changes of different places commute

commute : {A : Type 0} (v w : ℕ) (x y : A) (f : ℕ → A) → v ≢ w → update v x (update w y f) ≡ update w y (update v x f)
commute v w x y f n = λ i z. by_two w v y x f (Ne-symm n) (update v x (update w y f)) second first others z i
  where
    second : update v x (update w y f) w ≡ y
    second = two-second v w x y f n

    first : update v x (update w y f) v ≡ x
    first = two-first v w x y f n

    others : (z : ℕ) → z ≢ w → z ≢ v → update v x (update w y f) z ≡ f z
    others z p q = two-away v w x y f n z q p

pub update_same : {A : Type 0} (w : ℕ) (f : ℕ → A) (x : ℕ) → update w (f w) f x ≡ f x
update_same w f x = ⊎_elim (λ e. ap (update w (f w) f) e ∙ update_here w (f w) f ∙ ap f (sym e)) (λ e. update-away w (f w) f x e) (cases_eq x w)

update_twice : {A : Type 0} (w : ℕ) (a b : A) (f : ℕ → A) (x : ℕ) → update w a (update w b f) x ≡ update w a f x
update_twice {A} w a b f x = by (eqb x w)
  where
    by : (t : Bool) → cond t a (cond t b (f x)) ≡ cond t a (f x)
    by true = refl
    by false = refl

pub turn2-away : (a b : ℕ) (u : Mat4) (f : ℕ → Bool) (x : ℕ) → x ≢ a → x ≢ b → turn2 a b u f x ≡ f x
turn2-away a b u f x p q =
    update-away a (first_of u (f a) (f b)) (update b (second_of u (f a) (f b)) f) x p ∙ update-away b (second_of u (f a) (f b)) f x q

-- a gate with the bits of its slots given
at1 : ℕ → Mat2 → (ℕ → Bool) → Bool → ℕ → Bool
at1 w m f x = update w (turned_of m x) f

at2 : ℕ → ℕ → Mat4 → (ℕ → Bool) → Bool → Bool → ℕ → Bool
at2 a b u f x y = update a (first_of u x y) (update b (second_of u x y) f)

pub apart1 : (v w : ℕ) (m k : Mat2) → v ≢ w → (f : ℕ → Bool) → turn1 v m (turn1 w k f) ≡ turn1 w k (turn1 v m f)
unfolding at1
apart1 v w m k n f =
    ap (at1 v m (turn1 w k f)) (update-away w (turned_of k (f w)) f v n)
    ∙ commute v w (turned_of m (f v)) (turned_of k (f w)) f n
    ∙ sym (ap (at1 w k (turn1 v m f)) (update-away v (turned_of m (f v)) f w (Ne-symm n)))

pub apart2 : (w a b : ℕ) (m : Mat2) (u : Mat4) → w ≢ a → w ≢ b → (f : ℕ → Bool) → turn1 w m (turn2 a b u f) ≡ turn2 a b u (turn1 w m f)
unfolding at1 at2
apart2 w a b m u p q f =
    let X = turned_of m (f w) in
    let B = first_of u (f a) (f b) in
    let C = second_of u (f a) (f b) in
    ap (at1 w m (turn2 a b u f)) (turn2-away a b u f w p q)
    ∙ commute w a X B (update b C f) p
    ∙ ap (update a B) (commute w b X C f q)
    ∙ sym (ap₂ (at2 a b u (turn1 w m f)) (update-away w X f a (Ne-symm p)) (update-away w X f b (Ne-symm q)))

pub apart4 : (c d a b : ℕ) (m u : Mat4) → c ≢ a → c ≢ b → d ≢ a → d ≢ b → (f : ℕ → Bool) → turn2 c d m (turn2 a b u f) ≡ turn2 a b u (turn2 c d m f)
unfolding at2
apart4 c d a b m u ca cb da db f =
    let X = first_of m (f c) (f d) in
    let Y = second_of m (f c) (f d) in
    let B = first_of u (f a) (f b) in
    let C = second_of u (f a) (f b) in
    ap₂ (at2 c d m (turn2 a b u f)) (turn2-away a b u f c ca cb) (turn2-away a b u f d da db)
    ∙ ap (update c X) (commute d a Y B (update b C f) da ∙ ap (update a B) (commute d b Y C f db))
    ∙ commute c a X B (update b C (update d Y f)) ca
    ∙ ap (update a B) (commute c b X C (update d Y f) cb)
    ∙ sym (ap₂ (at2 a b u (turn2 c d m f)) (turn2-away c d m f a (Ne-symm ca) (Ne-symm da)) (turn2-away c d m f b (Ne-symm cb) (Ne-symm db)))

-- ---- products

pub one-id : (w : ℕ) (f : ℕ → Bool) → turn1 w id2 f ≡ f
unfolding at1
one-id w f = ap (λ x. update w x f) (turned-id (f w)) ∙ (λ i x. update_same w f x i)

pub one-mul : (w : ℕ) (m k : Mat2) → Turn m → Turn k → (f : ℕ → Bool) → turn1 w (mul2_of m k) f ≡ turn1 w m (turn1 w k f)
unfolding at1
one-mul w m k p q f =
    let g = turn1 w k f in
    ap (λ x. update w x f) (turned-mul m k p q (f w))
    ∙ sym (ap (at1 w m g) (update_here w (turned_of k (f w)) f) ∙ (λ i x. update_twice w (turned_of m (turned_of k (f w))) (turned_of k (f w)) f x i))

pub two-kron : (a b : ℕ) → a ≢ b → (f : ℕ → Bool) (m k : Mat2) → Turn m → Turn k → turn2 a b (kron_of m k) f ≡ turn1 a m (turn1 b k f)
unfolding at1
two-kron a b n f m k p q =
    (λ i. update a (kron-first m k p q (f a) (f b) i) (update b (kron-second m k p q (f a) (f b) i) f))
    ∙ sym (ap (at1 a m (turn1 b k f)) (update-away b (turned_of k (f b)) f a n))

module _ {Q : Mono4 → Type 0} (a b : ℕ) (n : a ≢ b) (f : ℕ → Bool) where
  pub two-mul : (m k : Mat4) → Block Q m → Block Q k → turn2 a b (mul4_of m k) f ≡ turn2 a b m (turn2 a b k f)
  unfolding at2
  two-mul m k p q =
      let x = first_of k (f a) (f b) in
      let y = second_of k (f a) (f b) in
      let g = turn2 a b k f in
      (λ i. update a (mul-first m k p q (f a) (f b) i) (update b (mul-second m k p q (f a) (f b) i) f))
      ∙ sym (ap₂ (at2 a b m g) (two-first a b x y f n) (two-second a b x y f n)
      ∙ (λ i z. by_two a b (first_of m x y) (second_of m x y) f n (at2 a b m g x y)
      (two-first a b (first_of m x y) (second_of m x y) g n)
      (two-second a b (first_of m x y) (second_of m x y) g n)
      (λ z s t. two-away a b (first_of m x y) (second_of m x y) g n z s t ∙ two-away a b x y f n z s t) z i))

  pub two-renamed : (m : Mat4) → Block Q m → turn2 a b (mat4_swap_qubits_of m) f ≡ turn2 b a m f
  two-renamed m p =
      (λ i. update a (renamed-first m p (f a) (f b) i) (update b (renamed-second m p (f a) (f b) i) f))
      ∙ commute a b (second_of m (f b) (f a)) (first_of m (f b) (f a)) f n

-- ---- diagonal blocks change no bit

pub diagonal-still : (a b : ℕ) (u : Mat4) (c : Mono4) → Has4 u c → diagonal c ≡ true → (f : ℕ → Bool) → turn2 a b u f ≡ f
diagonal-still a b u c h d f =
    (λ i. update a ((first-is u c h (f a) (f b) ∙ kept.0 (f a) (f b)) i) (update b ((second_is u c h (f a) (f b) ∙ kept.1 (f a) (f b)) i) f))
    ∙ ap (update a (f a)) (λ i x. update_same b f x i)
    ∙ (λ i x. update_same a f x i)
  where
    by : (s p q : Bool) → (not s && (not p && not q)) ≡ true → ((x y : Bool) → flip p (cond s y x) ≡ x) × ((x y : Bool) → flip q (cond s x y) ≡ y)
    by false false false e = ((λ x y. refl), λ x y. refl)
    by false false true e = absurd (subst (λ (t : Bool). cond t ⊥ (Unit {0})) e tt)
    by false true q e = absurd (subst (λ (t : Bool). cond t ⊥ (Unit {0})) e tt)
    by true p q e = absurd (subst (λ (t : Bool). cond t ⊥ (Unit {0})) e tt)

    kept : ((x y : Bool) → bit_a c x y ≡ x) × ((x y : Bool) → bit_b c x y ≡ y)
    kept = by c.swap c.turn_a c.turn_b d

-- ---- blocks of a closed class

module _ (Q : Mono4 → Type 0) (C : Closed Q) where
  pub block-mul : (m k : Mat4) → Block Q m → Block Q k → Block Q (mul4_of m k)
  block-mul m k p q = (times4 p.0 q.0, mul4-has m k p.0 q.0 p.1 q.1, C.times p.0 q.0 p.2 q.2)

  pub block-kron : (m k : Mat2) → Turn m → Turn k → Block Q (kron_of m k)
  block-kron m k p q = (kron4 p.0 q.0, kron-has m k p.0 q.0 p.1 q.1, C.kron p.0 q.0)

-- ---- the action, for any notion of slots and pairs and any class of blocks that is closed

module _ (slot : ℕ → Type 0) (pair : ℕ → ℕ → Type 0) (differ : (a b : ℕ) → pair a b → a ≢ b) (Q : Mono4 → Type 0) (C : Closed Q) where
  abbrev pub acts : Acts changes
  acts = record {
    slot = slot;
    pair = pair;
    ok2 = Turn;
    ok4 = Block Q;
    ev1 = turn1;
    ev2 = turn2;
    differ = differ;
    ok-id = turn-id;
    ok-mul2 = turn-mul;
    ok-mul4 = block-mul Q C;
    ok-kron = block-kron Q C;
    ok-renamed = λ m p. (renamed p.0, renamed-has m p.0 p.1, C.renaming p.0 p.2);
    one-id = λ w i f. one-id w f i;
    one-mul = λ w m k p q i f. one-mul w m k p q f i;
    two-mul = λ a b m k n p q i f. two-mul a b n f m k p q i;
    two-kron = λ a b m k n p q i f. two-kron a b n f m k p q i;
    two-renamed = λ a b m n p i f. two-renamed a b n f m p i;
    apart11 = λ v w m k n i f. apart1 v w m k n f i;
    apart12 = λ w a b m u p q i f. apart2 w a b m u p q f i;
    apart22 = λ c d a b m u p q r s i f. apart4 c d a b m u p q r s f i;
  }

  -- an event of a register tape
  abbrev pub EventIs : Event → Type 0
  EventIs = Ok changes acts

  -- the run in the monoid is the run on bits
  runs-are : (es : List Event) → run changes acts es ≡ events_run es
  unfolding run events_run
  runs-are [] = refl
  runs-are (gone ∷ es) = runs-are es
  runs-are (one w m ∷ es) = λ i f. turn1 w m (runs-are es i f)
  runs-are (two a b u ∷ es) = λ i f. turn2 a b u (runs-are es i f)
  runs-are (three a b c ∷ es) = runs-are es

  pub passes-keep : (es : List Event) → All EventIs es → All EventIs (compressed (fused es)) × (events_run (compressed (fused es)) ≡ events_run es)
  passes-keep es h =
      let f = fused_keeps changes acts es h in
      let c = compressed-keeps changes acts (fused es) f.0 in
      (c.0, sym (runs-are (compressed (fused es))) ∙ c.1 ∙ f.1 ∙ runs-are es)
