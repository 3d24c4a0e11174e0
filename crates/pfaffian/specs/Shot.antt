-- One shot of a sample (001, `sample`): the modes are measured one after the other, mode k by draw k, and each projection updates the entries of the
-- modes after it. The covariance is given by its entries, and is not assumed antisymmetric. Assumes nothing. A public promise rests on this.
use Rattle.std.specs.Prelude.{Bool, true, false, cond, ◌&&◌, List, [], ◌∷◌, ℕ, zero, suc, ◌+◌, ◌*◌, ltb, negsuc, get_or, Float}
use Rattle.std.specs.Float.{nan, fin, binary64}
use Rattle.std.specs.Float.Ieee.{add, sub, mul, div, neg, le, of_bits}
use Rattle.laws.specs.Zeros.{+1, sg}
use Rattle.laws.specs.Matrix.{Mat}
use Rattle.num.specs.Order.{clamp_of}
use Rattle.pfaffian.specs.declared.shots.Words.{Words}

-- a shot is two words: it has at most so many modes
abbrev pub max_modes : ℕ
max_modes = 128

-- 0.5
abbrev pub half : Float
half = fin false 1 (negsuc 0)

-- the f64 nearest 1e-300
abbrev pub tiny : Float
tiny = of_bits binary64 0x01a5_6e1f_c2f8_f359

-- `mab`: Z of mode k, within its bounds
abbrev pub mab_of : Mat → ℕ → Float
mab_of m k = clamp_of (m (2 * k) (2 * k + 1)) (neg +1) +1

-- `one`: the outcome of mode k for a draw, where draw >= p0. Not so beside a NaN
abbrev pub drawn_of : Float → Float → Bool
drawn_of mab draw = le (mul binary64 half (add binary64 +1 mab)) draw

abbrev pub drawn : Mat → ℕ → Float → Bool
drawn m k draw = drawn_of (mab_of m k) draw

-- `s`: -1.0 for the outcome one, else 1.0
abbrev pub spin_of : Bool → Float
spin_of one = sg one +1

-- `den`
abbrev pub den_of : Float → Bool → Float
den_of mab one = add binary64 +1 (mul binary64 (spin_of one) mab)

abbrev pub den : Mat → ℕ → Bool → Float
den m k one = den_of (mab_of m k) one

-- `v`: the new entry (c, e), right of the diagonal: m[c][e] + f * (mcb * mea - mca * meb), where a = 2k and b = 2k + 1
abbrev pub projected : Mat → Float → ℕ → Mat
projected m f k c e =
    add binary64 (m c e)
    (mul binary64 f (sub binary64 (mul binary64 (m c (2 * k + 1)) (m e (2 * k))) (mul binary64 (m c (2 * k)) (m e (2 * k + 1)))))

-- the entries after mode k: v right of the diagonal, -v across it
abbrev pub updated : Mat → Float → ℕ → Mat
updated m f k c e =
    cond (ltb (2 * k + 1) c && ltb (2 * k + 1) e) (cond (ltb c e) (projected m f k c e) (cond (ltb e c) (neg (projected m f k e c)) (m c e))) (m c e)

-- the matrix after mode k: nothing is updated where den <= 1e-300. A NaN is not
abbrev pub after_mode : Mat → ℕ → Bool → Mat
after_mode m k one = cond (le (den m k one) tiny) m (updated m (div binary64 (spin_of one) (den m k one)) k)

-- the outcomes of n modes from k on. Mode k uses draw t k, whatever its den
unfoldable pub shot : Mat → ℕ → ℕ → (ℕ → Float) → List Bool
shot m k zero t = []
shot m k (suc n) t = let one = drawn m k (t k) in one ∷ shot (after_mode m k one) (suc k) n t

-- the matrix when mode k is reached, and the outcome of mode k, which `shot` lists
unfoldable pub reached : Mat → (ℕ → Float) → ℕ → Mat
reached e t zero = e
reached e t (suc k) = after_mode (reached e t k) k (drawn (reached e t k) k (t k))

abbrev pub outcome : Mat → (ℕ → Float) → ℕ → Bool
outcome e t k = drawn (reached e t k) k (t k)

-- ---- the draws, as a slice has them

-- draw k of a shot whose draws start at `first`
abbrev pub draw_from : List Float → ℕ → ℕ → Float
draw_from draws first k = get_or draws (first + k) nan

-- ---- the words of a shot

-- bit q is the outcome of the mode that qubit q has; from n on it is 0
abbrev pub qubit_bit : (ℕ → ℕ) → ℕ → List Bool → ℕ → Bool
qubit_bit modes n outcomes q = ltb q n && get_or outcomes (modes q) false

abbrev pub bit : Bool → ℕ
bit false = 0
bit true = 1

-- w bits from q on as a number, the lowest first
unfoldable pub word_of : (ℕ → Bool) → ℕ → ℕ → ℕ
word_of f q zero = 0
word_of f q (suc w) = bit (f q) + 2 * word_of f (suc q) w

-- the shot of n modes: the qubits 0 to 63 in the low word, 64 to 127 in the high one
abbrev pub shot_of : Mat → ℕ → (ℕ → Float) → (ℕ → ℕ) → Words
shot_of e n t modes =
    let f = qubit_bit modes n (shot e 0 n t) in
    record { low = word_of f 0 64; high = word_of f 64 64 }
