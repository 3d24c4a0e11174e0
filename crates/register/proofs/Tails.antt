-- The closing tail of a block as changes of one bit: what a cut takes from it, and the tail as the events go by. Assumes nothing.
use mathlib.Core.Path.{◌≡◌, refl, ap, ◌∙◌}
use mathlib.Core.Logic.{◌≢◌}
use mathlib.Core.Bool.{Bool, true, false, cond, ◌||◌}
use mathlib.Core.List.{List, [], ◌∷◌}
use Prim.Native.Nat.{ℕ, zero, suc}
use lib.Dec.{eqb}
use lib.ListN.{take}
use borrow.Author.Tests.{eq-eqb, ne_eqb}
use Rattle.laws.specs.Views.{until}
use Rattle.laws.specs.Lists.{All}
use Rattle.laws.proofs.Lists.{until-all}
use Rattle.gate.specs.Matrix.{id2, mul2_of, time_step_of, time_product_from, time_product_of}
use Rattle.gate.specs.declared.matrix.Mat2.{Mat2}
use Rattle.gate.specs.declared.matrix.Mat4.{Mat4}
use Rattle.fuse.specs.Events.{Event, gone, one, two, three, block_on}
use Rattle.resolve.specs.Cuts.{ones, ahead, prefix_of}
use Rattle.register.specs.Bits.{turned_of}
use Rattle.register.specs.Blocks.{Turn}
use Rattle.register.proofs.Readings.{turn-id, turned-id, turn-mul, turned-mul}

-- ---- the gates of a tail, the oldest first

abbrev pub turned_all : List Mat2 → Bool → Bool
turned_all [] x = x
turned_all (m ∷ ms) x = turned_all ms (turned_of m x)

product-from : (acc : Mat2) (gs : List Mat2) → Turn acc → All Turn gs
    → Turn (time_product_from acc gs) × ((x : Bool) → turned_of (time_product_from acc gs) x ≡ turned_all gs (turned_of acc x))
unfolding time_product_from time_step_of
product-from acc [] t h = (t, λ x. refl)
product-from acc (g ∷ gs) t h =
    let r = product-from (mul2_of g acc) gs (turn-mul g acc h.0 t) h.1 in
    (r.0, λ x. r.1 x ∙ ap (turned_all gs) (turned-mul g acc h.0 t x))

all_take : {A : Type 0} (P : A → Type 0) (k : ℕ) (xs : List A) → All P xs → All P (take k xs)
all_take P zero xs h = tt
all_take P (suc k) [] h = tt
all_take P (suc k) (x ∷ xs) h = (h.0, all_take P k xs h.1)

-- what cut k takes
module _ (gs : List Mat2) (k : ℕ) (h : All Turn gs) where
  pub prefix-turn : Turn (prefix_of gs k)
  unfolding prefix_of time_product_of
  prefix-turn = (product-from id2 (take k gs) turn-id (all_take Turn k gs h)).0

  pub prefix-turned : (x : Bool) → turned_of (prefix_of gs k) x ≡ turned_all (take k gs) x
  unfolding prefix_of time_product_of
  prefix-turned x = (product-from id2 (take k gs) turn-id (all_take Turn k gs h)).1 x ∙ ap (turned_all (take k gs)) (turned-id x)

-- ---- the tail on w, event by event

module _ (w : ℕ) (es : List Event) where
  pub ahead-gone : ahead w (gone ∷ es) ≡ ahead w es
  unfolding ahead until ones
  ahead-gone = refl

  ahead-one : (v : ℕ) (m : Mat2) → ahead w (one v m ∷ es) ≡ cond (eqb v w) (m ∷ ahead w es) (ahead w es)
  unfolding ahead until ones
  ahead-one v m = refl

  pub ahead_own : (m : Mat2) → ahead w (one w m ∷ es) ≡ m ∷ ahead w es
  ahead_own m = ahead-one w m ∙ ap (λ t. cond t (m ∷ ahead w es) (ahead w es)) (eq-eqb w w refl)

  pub ahead-other : (v : ℕ) (m : Mat2) → v ≢ w → ahead w (one v m ∷ es) ≡ ahead w es
  ahead-other v m n = ahead-one v m ∙ ap (λ t. cond t (m ∷ ahead w es) (ahead w es)) (ne_eqb v w n)

  ahead-two : (a b : ℕ) (u : Mat4) → ahead w (two a b u ∷ es) ≡ cond (eqb a w || eqb b w) [] (ahead w es)
  unfolding ahead until ones
  ahead-two a b u = by (eqb a w || eqb b w)
    where
      by : (t : Bool) → ones w (cond t [] (two a b u ∷ until (block_on w) es)) ≡ cond t [] (ones w (until (block_on w) es))
      by true = refl
      by false = refl

  pub ahead-block : (a b : ℕ) (u : Mat4) → a ≢ w → b ≢ w → ahead w (two a b u ∷ es) ≡ ahead w es
  ahead-block a b u p q =
      ahead-two a b u ∙ ap (λ t. cond (t || eqb b w) [] (ahead w es)) (ne_eqb a w p) ∙ ap (λ t. cond t [] (ahead w es)) (ne_eqb b w q)

pub ahead-first : (a b : ℕ) (u : Mat4) (es : List Event) → ahead a (two a b u ∷ es) ≡ []
ahead-first a b u es = ahead-two a es a b u ∙ ap (λ t. cond (t || eqb b a) [] (ahead a es)) (eq-eqb a a refl)

pub ahead-second : (a b : ℕ) (u : Mat4) (es : List Event) → ahead b (two a b u ∷ es) ≡ []
ahead-second a b u es =
    ahead-two b es a b u ∙ ap (λ t. cond (eqb a b || t) [] (ahead b es)) (eq-eqb b b refl) ∙ by (eqb a b)
  where
    by : (t : Bool) → cond (t || true) [] (ahead b es) ≡ []
    by true = refl
    by false = refl

-- its gates have blocks if the events' have
module _ (E : Event → Type 0) (turn : (v : ℕ) (m : Mat2) → E (one v m) → Turn m) where
  ones-turn : (w : ℕ) (es : List Event) → All E es → All Turn (ones w es)
  unfolding ones
  ones-turn w [] h = tt
  ones-turn w (gone ∷ es) h = ones-turn w es h.1
  ones-turn w (one v m ∷ es) h = by (eqb v w) (ones-turn w es h.1)
    where
      by : (t : Bool) → All Turn (ones w es) → All Turn (cond t (m ∷ ones w es) (ones w es))
      by true k = (turn v m h.0, k)
      by false k = k
  ones-turn w (two a b u ∷ es) h = ones-turn w es h.1
  ones-turn w (three a b c ∷ es) h = ones-turn w es h.1

  pub ahead-turn : (w : ℕ) (es : List Event) → All E es → All Turn (ahead w es)
  unfolding ahead
  ahead-turn w es h = ones-turn w (until (block_on w) es) (until-all (block_on w) E es h)
