-- Blocks exist: every signed permutation of the two Majorana operators of a mode, or of the four of two modes, is what a block does to them. The image of each
-- Pauli is a product of theirs; that it respects products is a computed test over all of them. So blocks stand for every list of operations whose maps are
-- signed permutations, zero signs aside. Assumes nothing.
use mathlib.Core.Path.{◌≡◌, refl, sym, ap, subst, ◌∙◌}
use mathlib.Core.Logic.{◌≢◌}
use mathlib.Core.Bool.{Bool, true, false, not, ◌&&◌}
use mathlib.Core.List.{List, [], ◌∷◌}
use Prim.Native.Nat.{ℕ}
use native.Mathlib.Omega.{arith}
use lib.Dec.{T, eqb}
use lib.Ieee.{Float}
use lib.Ieee.Fits.{and_i, and_l, and_r}
use borrow.Author.Tests.{ne_eqb}
use Rattle.laws.specs.Phase.{i0, i3}
use Rattle.real.specs.declared.maps.Map2.{Map2}
use Rattle.real.specs.declared.maps.Map4.{Map4}
use Rattle.state.specs.declared.operation.Operation.{Operation}
use Rattle.state.specs.declared.operation.Operation.TheVariants.{One, Two, Interaction}
use Rattle.std.proofs.Common.{Some}
use Rattle.signs.specs.Paulis.{Pauli, p_i, p_x, p_y, p_z}
use Rattle.signs.specs.Blocks as Blocks
use Rattle.signs.specs.Blocks.{◌·₁◌, ◌·◌, front₁, front, Block₁, Block}
use Rattle.signs.specs.Majoranas.{Four, c0, c1, c2, c3, num₁, num, Row, image₁, image, Sends₁, Sends}
use Rattle.signs.specs.Circuits.{Maps₁, Maps, Permutes₁, Permutes, Permuting, BlockOp, one, two, interaction, operation}
use Rattle.signs.specs.Signs.{StandIn, AllPermute}
use Rattle.signs.proofs.Tables.{four, all2, all4}
use Rattle.signs.proofs.Permutations.{row, two_rows₁, two_rows₁→, four_rows, four_rows→, implies, by-implies, same_two, same-two, differ, distinct}
use Rattle.signs.proofs.Gates.{keeps₁, keeps, block_of₁, block_of}

-- ---- one mode

-- the image of each Pauli, by those of X and Y: Z is -i X Y
abbrev table₁ : Row Bool → Row Bool → Pauli → Blocks.One
table₁ r s p_i = record { phase = i0; at = p_i }
table₁ r s p_x = image₁ r
table₁ r s p_y = image₁ s
table₁ r s p_z = front₁ i3 (image₁ r ·₁ image₁ s)

abbrev good₁ : Row Bool → Row Bool → Bool
good₁ r s = implies (differ num₁ r s) (all2 (keeps₁ (table₁ r s)))

every₁ : T (two_rows₁ good₁)
every₁ = tt

pub block₁ : (rows : Bool → Row Bool) → T (differ num₁ (rows false) (rows true)) → (g : Block₁) × Sends₁ g rows
unfolding block_of₁
block₁ rows d = (block_of₁ (table₁ r s) keeps, sends)
  where
    r : Row Bool
    r = rows false

    s : Row Bool
    s = rows true

    keeps : T (all2 (keeps₁ (table₁ r s)))
    keeps = by-implies (differ num₁ r s) (all2 (keeps₁ (table₁ r s))) (two_rows₁→ good₁ every₁ r s) d

    sends : Sends₁ (block_of₁ (table₁ r s) keeps) rows
    sends false = refl
    sends true = refl

-- ---- two modes

-- of the Paulis of the first mode: X I, Y I, Z I
abbrev first : Row Four → Row Four → Pauli → Blocks.Two
first r s p_i = record { phase = i0; first = p_i; second = p_i }
first r s p_x = image r
first r s p_y = image s
first r s p_z = front i3 (image r · image s)

-- of the second: I X is Z I times Z X, and I Z is -i times Z X times Z Y
abbrev second : Row Four → Row Four → Row Four → Row Four → Pauli → Blocks.Two
second r s t u p_i = record { phase = i0; first = p_i; second = p_i }
second r s t u p_x = first r s p_z · image t
second r s t u p_y = first r s p_z · image u
second r s t u p_z = front i3 (image t · image u)

abbrev table : Row Four → Row Four → Row Four → Row Four → Pauli → Pauli → Blocks.Two
table r s t u p q = first r s p · second r s t u q

abbrev sent : Row Four → Row Four → Row Four → Row Four → Bool
sent r s t u =
    let f = table r s t u in
    same_two (f p_x p_i) (image r) && same_two (f p_y p_i) (image s) && same_two (f p_z p_x) (image t) && same_two (f p_z p_y) (image u)

abbrev good : Row Four → Row Four → Row Four → Row Four → Bool
good r s t u = implies (distinct r s t u) (all4 (keeps (table r s t u)) && sent r s t u)

every : T (four_rows good)
every = tt

-- the tests are none that always pass: rows in one column are no block's, of two operators or of four
one-column : (all2 (keeps₁ (table₁ (row false false) (row true false))) ≡ false)
    × (all4 (keeps (table (row false c0) (row true c0) (row false c1) (row false c3))) ≡ false)
one-column = (refl, refl)

pub block : (rows : Four → Row Four) → T (distinct (rows c0) (rows c1) (rows c2) (rows c3)) → (g : Block) × Sends g rows
unfolding block_of
block rows d = (block_of f kept, sends)
  where
    r : Row Four
    r = rows c0

    s : Row Four
    s = rows c1

    t : Row Four
    t = rows c2

    u : Row Four
    u = rows c3

    f : Pauli → Pauli → Blocks.Two
    f = table r s t u

    both : T (all4 (keeps f) && sent r s t u)
    both = by-implies (distinct r s t u) (all4 (keeps f) && sent r s t u) (four_rows→ good every r s t u) d

    kept : T (all4 (keeps f))
    kept = and_l (all4 (keeps f)) (sent r s t u) both

    to : T (same_two (f p_x p_i) (image r)) × T (same_two (f p_y p_i) (image s)) × T (same_two (f p_z p_x) (image t))
        × T (same_two (f p_z p_y) (image u))
    to =
        four (same_two (f p_x p_i) (image r)) (same_two (f p_y p_i) (image s)) (same_two (f p_z p_x) (image t)) (same_two (f p_z p_y) (image u))
        (and_r (all4 (keeps f)) (sent r s t u) both)

    sends : Sends (block_of f kept) rows
    sends c0 = same-two (f p_x p_i) (image r) to.0
    sends c1 = same-two (f p_y p_i) (image s) to.1
    sends c2 = same-two (f p_z p_x) (image t) to.2
    sends c3 = same-two (f p_z p_y) (image u) to.3

-- ---- operations

different : (a b : ℕ) → a ≢ b → T (not (eqb a b))
different a b d = subst (λ (t : Bool). T (not t)) (sym (ne_eqb a b d)) tt

maps₁ : (q : Map2) → Permutes₁ q → (g : Block₁) × Maps₁ g q
maps₁ q p =
    let b = block₁ p.rows (different (num₁ (p.rows false).col) (num₁ (p.rows true).col) (λ e. absurd (omega (arith, p.apart false true e)))) in
    (b.0, record { rows = p.rows; sends = b.1; entries = p.entries })

maps : (q : Map4) → Permutes q → (g : Block) × Maps g q
maps q p = let b = block p.rows all in (b.0, record { rows = p.rows; sends = b.1; entries = p.entries })
  where
    D : Four → Four → Bool
    D c d = differ num (p.rows c) (p.rows d)

    apart : (c d : Four) → num c ≢ num d → T (D c d)
    apart c d ne = different (num (p.rows c).col) (num (p.rows d).col) (λ e. ne (p.apart c d e))

    all : T (distinct (p.rows c0) (p.rows c1) (p.rows c2) (p.rows c3))
    all =
        and_i (D c0 c1 && D c0 c2 && D c0 c3) (D c1 c2 && D c1 c3 && D c2 c3)
        (three (D c0 c1) (D c0 c2) (D c0 c3) (apart c0 c1 (λ e. omega (arith, e))) (apart c0 c2 (λ e. omega (arith, e))) (apart c0 c3 (λ e. omega (arith, e))))
        (three (D c1 c2) (D c1 c3) (D c2 c3) (apart c1 c2 (λ e. omega (arith, e))) (apart c1 c3 (λ e. omega (arith, e))) (apart c2 c3 (λ e. omega (arith, e))))
      where
        three : (a b c : Bool) → T a → T b → T c → T (a && b && c)
        three a b c x y z = and_i (a && b) c (and_i a b x y) z

-- with the block that it comes from
come : (o : Operation) → Permuting o → (x : BlockOp) × (operation x ≡ o)
come (One k q) p = let g = maps₁ q p in (one k g.0 q g.1, refl)
come (Two k q) p = let g = maps q p in (two k g.0 q g.1, refl)
come (Interaction mode block second unit) p = (interaction mode block second unit, refl)

-- blocks stand for every list of signed permutations
pub blocks-stand : (n : ℕ) (ops : List (List Float)) → AllPermute n ops → (xs : List BlockOp) × StandIn n xs ops
blocks-stand n [] h = ([], tt)
blocks-stand n (op ∷ ops) h =
    let x = come h.0.0 h.0.2 in
    let xs = blocks-stand n ops h.1 in
    (x.0 ∷ xs.0, (h.0.1 ∙ ap Some (sym x.1), xs.1))
