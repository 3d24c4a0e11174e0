-- Worked values: determinants of both signs, and a case in which a lost turn of d changes an answer. By computation. Assumes nothing.
use mathlib.Core.Path.{◌≡◌, refl}
use mathlib.Core.Bool.{Bool, true, false}
use lib.Ieee.{Float, add, sub, mul, div, neg, lt, le, eq, is_nan}
use Rattle.num.specs.Order.{abs_of}
use Rattle.laws.specs.Views.{up_from}
use Rattle.laws.specs.Zeros.{+0, +1}
use Rattle.laws.specs.Maps.{Local, dot}
use Rattle.real.specs.Maps.{real4, local2, local4}
use Rattle.real.specs.declared.maps.Map2.{Map2}
use Rattle.real.specs.declared.maps.Map4.{Map4}
use Rattle.local.specs.State.{vacuum, get}
use Rattle.local.specs.Det.{better_of, last_largest, less, lowered_all, eliminated, det, odd}
use Rattle.local.specs.Apply.{step}

-- ---- maps

-- 1 0 0 0 / 0 0 -1 0 / 0 1 0 0 / 0 0 0 1: a turn by a right angle of the indices 1 and 2
abbrev between : Map4
between = record { r0 = real4 +1 +0 +0 +0; r1 = real4 +0 +0 (neg +1) +0; r2 = real4 +0 +1 +0 +0; r3 = real4 +0 +0 +0 +1 }

-- 1 0 / 0 -1: the map of X
abbrev flip : Map2
flip = record { r0 = record { x0 = +1; x1 = +0 }; r1 = record { x0 = +0; x1 = neg +1 } }

even : odd (local4 0 between) ≡ false
unfolding odd det eliminated last_largest better_of lowered_all less up_from abs_of is_nan add sub mul div neg lt le eq
even = refl

uneven : odd (local2 0 flip) ≡ true
unfolding odd det sub mul neg lt
uneven = refl

-- ---- the sign that is postponed: X on mode 0 stands between two turns that mix the modes 0 and 1

-- Z of mode 0 after the three, by an engine that decides so when d turns
abbrev answer : (Local → Bool) → Float
answer o = get (step o (local4 0 between) (step o (local2 0 flip) (step o (local4 0 between) vacuum))) 0 1

with-turn : answer odd ≡ +1
unfolding dot odd det eliminated last_largest better_of lowered_all less up_from abs_of is_nan add sub mul div neg lt le eq
with-turn = refl

without : answer (λ o. false) ≡ neg +1
unfolding dot add mul neg lt
without = refl
