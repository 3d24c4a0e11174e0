-- `text::millionths::nearest` meets its contract, by the laws of `rounded`. Assumes nothing.
use mathlib.Core.Path.{◌≡◌, sym, ap, ◌∙◌}
use Prim.Native.Nat.{ℕ, ◌+◌, ◌*◌, ◌/◌, ◌%◌, ◌^◌, ◌≤◌, ◌<◌}
use native.Mathlib.Nat.{mod-eq_of_lt, div-lt_iff_lt-mul}
use native.Mathlib.Omega.{arith}
use lib.Pow.{pow_pos, pow_mono}
use Rattle.text.specs.Millionths.{rounded, million}
use Rattle.text.proofs.Rounding.{rounded-none, rounded-most}
use Rattle.text.proofs.millionths.nearest.Goals as goal

-- 1 << s in 128 bits
power : (s : ℕ) → s ≤ 73 → 1 * 2 ^ s % 2 ^ 128 ≡ 2 ^ s
power s h = mod-eq_of_lt {n = 1 * 2 ^ s} {m = 2 ^ 128} (omega (arith, pow_mono {i = s} {j = 73} h)) ∙ omega arith

-- m * 10 ^ 6, rounded over 2 ^ 11 and more
small : (num s : ℕ) → num < 2 ^ 73 → 11 ≤ s → rounded num (2 ^ s) < 2 ^ 64
small num s h l =
    let k : num / 2 ^ s < 2 ^ 62 = (div-lt_iff_lt-mul {k = 2 ^ s} {x = num} {y = 2 ^ 62} (pow_pos s)).1 (omega (arith, h, pow_mono {i = 11} {j = s} l)) in
    omega (arith, k, rounded-most num (2 ^ s))

pub returns-then-s-gt73 : goal.returns-then-s-gt73
returns-then-s-gt73 c =
    sym (rounded-none (c.args.m * million) (2 ^ c.args.s) (omega (arith, c.requires.0, pow_mono {i = 74} {j = c.args.s} c.if-s-gt73.true)))

pub rounded-requires : goal.rounded-requires
rounded-requires c =
    let s = c.args.s in
    let e = power s c.if-s-gt73.false in
    (omega (arith, c.requires.0, c.from.ensures), omega (arith, e, pow_pos s), omega (arith, e, pow_mono {i = s} {j = 73} c.if-s-gt73.false))

pub overflow_cast-result : goal.overflow_cast-result
overflow_cast-result c =
    let s = c.args.s in
    let num = c.from.result * million in
    let e : c.rounded.result ≡ rounded num (2 ^ s) = c.rounded.ensures ∙ ap (rounded num) (power s c.if-s-gt73.false) in
    record { fits = omega (arith, e, small num s (omega (arith, c.requires.0, c.from.ensures)) c.requires.1) }
