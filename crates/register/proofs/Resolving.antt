-- Resolving the splits: whatever cuts are chosen, the items do to the wires what the events do to the slots. The wire in a slot is behind its slot by
-- the remainder, and ahead of it by the gates that the last block on it has taken before they came. Assumes nothing.
use mathlib.Core.Path.{◌≡◌, refl, sym, ap, ap₂, ◌∙◌, subst}
use mathlib.Core.Logic.{◌⊎◌, inl, inr, ◌≢◌, Ne-symm, ⊎_elim}
use mathlib.Core.Bool.{Bool, true, false, cond}
use mathlib.Core.List.{List, [], ◌∷◌}
use Prim.Native.Nat.{ℕ, suc, ◌-◌, ◌<◌}
use native.Mathlib.Omega.{arith}
use lib.Dec.{eqb}
use lib.ListN.{length, get_or, set, take, length-set}
use lib.Seq.{get_or-set_same, get_or-set_other, take-nil}
use lib.Ieee.{Float}
use borrow.Author.Tests.{eqb-true, eqb-false}
use Rattle.laws.specs.Slices.{traded}
use Rattle.laws.specs.Lists.{All}
use Rattle.std.proofs.lemmas.Bool.{cases_eq}
use Rattle.laws.proofs.Tables.{update_here, update-away, two-first, two-second, exchanged-first, exchanged-second, exchanged-away}
use Rattle.gate.specs.Matrix.{mul4_of, kron_of}
use Rattle.gate.specs.declared.matrix.Mat2.{Mat2}
use Rattle.gate.specs.declared.matrix.Mat4.{Mat4}
use Rattle.monomial.specs.Monomial.{bit_a, bit_b}
use Rattle.fuse.specs.Events.{Event, gone, one, two, three}
use Rattle.resolve.specs.Choose.{Choice}
use Rattle.resolve.specs.Items.{Item}
use Rattle.resolve.specs.Cuts.{ahead, prefix_of}
use Rattle.resolve.specs.Resolve.{Rest, none, opened, longer, Resolved, lengthened, promised, emptied, renamed, added, passed, item_of, settled, candidates, chosen, resolve_step, resolved}
use Rattle.register.specs.Bits.{turned_of, first_of, second_of, turn1, turn2, event_bits, items_run, zeros}
use Rattle.register.specs.Blocks.{Turn, Block, Pair, Places, ClassIs, Rules, ItemIs}
use Rattle.register.proofs.Readings.{turned-id, turn-id, turn-mul, turned-mul, first-is, second_is, mul-first, mul-second, kron-first, kron-second}
use Rattle.register.proofs.Changes.{turn2-away, block-mul, block-kron}
use Rattle.register.proofs.Permuting.{by_three, traded-at, traded-places}
use Rattle.register.proofs.Relabelling.{SlotEvent}
use Rattle.register.proofs.Choosing.{picked}
use Rattle.register.proofs.Tails.{turned_all, prefix-turn, prefix-turned, ahead-gone, ahead_own, ahead-other, ahead-block, ahead-first, ahead-second, ahead-turn}

-- a property of the numbers below n: of one of them, and of the others
by_one : (P : ℕ → Type 0) (n v : ℕ) → P v → ((w : ℕ) → w < n → w ≢ v → P w) → (w : ℕ) → w < n → P w
by_one P n v pv po w h = ⊎_elim (λ e. subst P (sym e) pv) (λ e. po w h e) (cases_eq w v)

-- the events the oldest first
abbrev pub forward : List Event → (ℕ → Bool) → ℕ → Bool
forward [] F = F
forward (e ∷ es) F = forward es (event_bits e F)

module _ (relabel : Bool) (tol : Float) (R : Rules relabel tol) (n : ℕ) (P : ℕ → ℕ → Type 0) where
  abbrev pub ResolveEvent : Event → Type 0
  ResolveEvent = SlotEvent n R.Q R.closed P R.Still

  abbrev pub ResolveItem : Item → Type 0
  ResolveItem = ItemIs relabel n R.Q P R.Still

  -- F: the bits of the slots after the events so far; es: the events to come
  pub record Tied (es : List Event) (F : ℕ → Bool) (rests : List Rest) (splits content : List ℕ) (items : List Item) : Type 0 where
    pub rests-long : length rests ≡ n
    pub splits-long : length splits ≡ n
    pub places : Places n R.Still content
    pub items-are : All ResolveItem items
    pub turns : (w : ℕ) → w < n → Turn (opened (get_or rests w none))
    pub bits : (w : ℕ) → w < n
        → turned_of (opened (get_or rests w none)) (items_run items zeros (get_or content w 0)) ≡ turned_all (take (get_or splits w 0) (ahead w es)) (F w)

  abbrev pub TiedTo : List Event → (ℕ → Bool) → Resolved → Type 0
  TiedTo es F r = Tied es F r.rests r.splits r.content r.items

  -- ---- no gate

  gone-step : (es : List Event) (F : ℕ → Bool) (r : Resolved) → TiedTo (gone ∷ es) F r → TiedTo es F r
  gone-step es F r t = record {
    rests-long = t.rests-long;
    splits-long = t.splits-long;
    places = t.places;
    items-are = t.items-are;
    turns = t.turns;
    bits = λ w h. t.bits w h ∙ ap (λ l. turned_all (take (get_or r.splits w 0) l) (F w)) (ahead-gone w es);
  }

  -- ---- a gate on one slot

  module _ (v : ℕ) (hv : v < n) (m : Mat2) (tm : Turn m) (es : List Event) (F : ℕ → Bool) (r : Resolved) (t : TiedTo (one v m ∷ es) F r) where
    ρ : ℕ → Mat2
    ρ w = opened (get_or r.rests w none)

    X : ℕ → Bool
    X w = items_run r.items zeros (get_or r.content w 0)

    k : ℕ → ℕ
    k w = get_or r.splits w 0

    -- of the other slots nothing changes
    elsewhere : (w : ℕ) → w < n → w ≢ v → turned_of (ρ w) (X w) ≡ turned_all (take (k w) (ahead w es)) (turn1 v m F w)
    unfolding ρ X k
    elsewhere w h ne =
        t.bits w h
        ∙ ap (λ l. turned_all (take (k w) l) (F w)) (ahead-other w es v m (Ne-symm ne))
        ∙ ap (turned_all (take (k w) (ahead w es))) (sym (update-away v (turned_of m (F v)) F w ne))

    -- the next of the remainder
    longer-step : k v ≡ 0 → TiedTo es (turn1 v m F) (lengthened v m r)
    unfolding ρ X k
    longer-step z =
        let new = longer m (get_or r.rests v none) in
        let here : get_or (set r.rests v new) v none ≡ new = get_or-set_same r.rests v new none (subst (λ i. v < i) (sym t.rests-long) hv) in
        let there : (w : ℕ) → w ≢ v → get_or (set r.rests v new) w none ≡ get_or r.rests w none =
        λ w ne. get_or-set_other r.rests v w new none ne in
        record {
          rests-long = length-set r.rests v new ∙ t.rests-long;
          splits-long = t.splits-long;
          places = t.places;
          items-are = t.items-are;
          turns =
              by_one (λ w. Turn (opened (get_or (set r.rests v new) w none))) n v
              (subst (λ q. Turn (opened q)) (sym here) (turn-mul m (ρ v) tm (t.turns v hv)))
              (λ w h ne. subst (λ q. Turn (opened q)) (sym (there w ne)) (t.turns w h));
          bits =
              by_one (λ w. turned_of (opened (get_or (set r.rests v new) w none)) (X w) ≡ turned_all (take (k w) (ahead w es)) (turn1 v m F w)) n v
              (ap (λ q. turned_of (opened q) (X v)) here
              ∙ turned-mul m (ρ v) tm (t.turns v hv) (X v)
              ∙ ap (turned_of m) (t.bits v hv ∙ ap (λ j. turned_all (take j (ahead v (one v m ∷ es))) (F v)) z)
              ∙ sym (ap (λ j. turned_all (take j (ahead v es)) (turn1 v m F v)) z ∙ update_here v (turned_of m (F v)) F))
              (λ w h ne. ap (λ q. turned_of (opened q) (X w)) (there w ne) ∙ elsewhere w h ne);
        }

    -- one that was taken before it came
    promised-step : k v ≢ 0 → TiedTo es (turn1 v m F) (promised v (k v - 1) r)
    unfolding ρ X k
    promised-step nz =
        let j = k v - 1 in
        let more : k v ≡ suc j = omega arith in
        let here : get_or (set r.splits v j) v 0 ≡ j = get_or-set_same r.splits v j 0 (subst (λ i. v < i) (sym t.splits-long) hv) in
        let there : (w : ℕ) → w ≢ v → get_or (set r.splits v j) w 0 ≡ k w = λ w ne. get_or-set_other r.splits v w j 0 ne in
        record {
          rests-long = t.rests-long;
          splits-long = length-set r.splits v j ∙ t.splits-long;
          places = t.places;
          items-are = t.items-are;
          turns = t.turns;
          bits =
              by_one (λ w. turned_of (ρ w) (X w) ≡ turned_all (take (get_or (set r.splits v j) w 0) (ahead w es)) (turn1 v m F w)) n v
              (t.bits v hv
              ∙ ap₂ (λ i l. turned_all (take i l) (F v)) more (ahead_own v es m)
              ∙ sym (ap (λ i. turned_all (take i (ahead v es)) (turn1 v m F v)) here
              ∙ ap (turned_all (take j (ahead v es))) (update_here v (turned_of m (F v)) F)))
              (λ w h ne. elsewhere w h ne ∙ sym (ap (λ i. turned_all (take i (ahead w es)) (turn1 v m F w)) (there w ne)));
        }

    one-step : TiedTo es (turn1 v m F) (passed v m r)
    unfolding k
    one-step = by (eqb (k v) 0) (eqb-true (k v) 0) (eqb-false (k v) 0)
      where
        by : (s : Bool) → (s ≡ true → k v ≡ 0) → (s ≡ false → k v ≢ 0) → TiedTo es (turn1 v m F) (cond s (lengthened v m r) (promised v (k v - 1) r))
        by true p q = longer-step (p refl)
        by false p q = promised-step (q refl)

  -- ---- a block

  module _ (a b : ℕ) (u : Mat4) (p : Pair n P R.Still a b) (q : Block R.Q u) (es : List Event) (es-are : All ResolveEvent es)
      (F : ℕ → Bool) (r : Resolved) (t : TiedTo (two a b u ∷ es) F r) where
    -- the wire in a slot, the bits of the wires, the remainders
    wire : ℕ → ℕ
    wire w = get_or r.content w 0

    Y : ℕ → Bool
    Y = items_run r.items zeros

    ρ' : ℕ → Mat2
    ρ' w = opened (get_or r.rests w none)

    x : Choice
    x = (chosen relabel tol a b u es r).best

    -- what cut i takes of the tail on w
    pre : ℕ → ℕ → Mat2
    pre w i = prefix_of (ahead w es) i

    base : Mat4
    base = mul4_of u (kron_of (ρ' a) (ρ' b))

    -- the block with what it takes before and after it
    W : Mat4
    W = mul4_of (kron_of (pre a x.ka) (pre b x.kb)) base

    rest-turn : (w : ℕ) → w < n → Turn (ρ' w)
    unfolding ρ'
    rest-turn = t.turns

    tail : (w : ℕ) → All Turn (ahead w es)
    tail w = ahead-turn ResolveEvent (λ v m e. e.1) w es es-are

    pre-turn : (w i : ℕ) → Turn (pre w i)
    unfolding pre
    pre-turn w i = prefix-turn (ahead w es) i (tail w)

    rests-block : Block R.Q (kron_of (ρ' a) (ρ' b))
    rests-block = block-kron R.Q R.closed (ρ' a) (ρ' b) (rest-turn a p.0) (rest-turn b p.1)

    pre-block : Block R.Q (kron_of (pre a x.ka) (pre b x.kb))
    pre-block = block-kron R.Q R.closed (pre a x.ka) (pre b x.kb) (pre-turn a x.ka) (pre-turn b x.kb)

    base-block : Block R.Q base
    unfolding base
    base-block = block-mul R.Q R.closed u (kron_of (ρ' a) (ρ' b)) q rests-block

    W-block : Block R.Q W
    unfolding W
    W-block = block-mul R.Q R.closed (kron_of (pre a x.ka) (pre b x.kb)) base pre-block base-block

    -- a slot's own bit is that of its wire after the remainder
    caught-up : (w : ℕ) → w < n → ahead w (two a b u ∷ es) ≡ [] → turned_of (ρ' w) (Y (wire w)) ≡ F w
    unfolding ρ' Y wire
    caught-up w h e =
        t.bits w h
        ∙ ap (λ l. turned_all (take (get_or r.splits w 0) l) (F w)) e
        ∙ ap (λ l. turned_all l (F w)) (take-nil (get_or r.splits w 0))

    A : Bool
    A = Y (wire a)

    B : Bool
    B = Y (wire b)

    rests-first : first_of (kron_of (ρ' a) (ρ' b)) A B ≡ F a
    unfolding A
    rests-first = kron-first (ρ' a) (ρ' b) (rest-turn a p.0) (rest-turn b p.1) A B ∙ caught-up a p.0 (ahead-first a b u es)

    rests-second : second_of (kron_of (ρ' a) (ρ' b)) A B ≡ F b
    unfolding B
    rests-second = kron-second (ρ' a) (ρ' b) (rest-turn a p.0) (rest-turn b p.1) A B ∙ caught-up b p.1 (ahead-second a b u es)

    -- the block on the wires: the block on the slots, and then the gates taken
    first-ahead : Bool
    first-ahead = turned_all (take x.ka (ahead a es)) (first_of u (F a) (F b))

    second-ahead : Bool
    second-ahead = turned_all (take x.kb (ahead b es)) (second_of u (F a) (F b))

    base-first : first_of base A B ≡ first_of u (F a) (F b)
    unfolding base
    base-first = mul-first u (kron_of (ρ' a) (ρ' b)) q rests-block A B ∙ ap₂ (first_of u) rests-first rests-second

    base-second : second_of base A B ≡ second_of u (F a) (F b)
    unfolding base
    base-second = mul-second u (kron_of (ρ' a) (ρ' b)) q rests-block A B ∙ ap₂ (second_of u) rests-first rests-second

    W-first : first_of W A B ≡ first-ahead
    unfolding W first-ahead pre
    W-first =
        mul-first (kron_of (pre a x.ka) (pre b x.kb)) base pre-block base-block A B
        ∙ kron-first (pre a x.ka) (pre b x.kb) (pre-turn a x.ka) (pre-turn b x.kb) (first_of base A B) (second_of base A B)
        ∙ ap (turned_of (pre a x.ka)) base-first
        ∙ prefix-turned (ahead a es) x.ka (tail a) (first_of u (F a) (F b))

    W-second : second_of W A B ≡ second-ahead
    unfolding W second-ahead pre
    W-second =
        mul-second (kron_of (pre a x.ka) (pre b x.kb)) base pre-block base-block A B
        ∙ kron-second (pre a x.ka) (pre b x.kb) (pre-turn a x.ka) (pre-turn b x.kb) (first_of base A B) (second_of base A B)
        ∙ ap (turned_of (pre b x.kb)) base-second
        ∙ prefix-turned (ahead b es) x.kb (tail b) (second_of u (F a) (F b))

    class-is : ClassIs relabel R.Q R.Still W-block.0 x.class
    unfolding x W pre base ρ' chosen
    class-is =
        subst (ClassIs relabel R.Q R.Still W-block.0)
        (sym (picked relabel tol base (prefix_of (ahead a es)) (prefix_of (ahead b es)) (length (ahead a es)) (length (ahead b es))))
        (R.class W W-block.0 W-block.1 W-block.2)

    -- what is applied: the same bits, exchanged where the wires are renamed
    v : Mat4
    v = x.class.v

    applied-first : first_of v A B ≡ bit_a class-is.block A B
    unfolding v
    applied-first = first-is v class-is.block class-is.has A B

    applied-second : second_of v A B ≡ bit_b class-is.block A B
    unfolding v
    applied-second = second_is v class-is.block class-is.has A B

    v-first : cond x.class.swap (second_of v A B) (first_of v A B) ≡ first-ahead
    v-first =
        (λ i. cond x.class.swap (applied-second i) (applied-first i))
        ∙ sym (first-is W W-block.0 W-block.1 A B ∙ class-is.first A B)
        ∙ W-first

    v-second : cond x.class.swap (first_of v A B) (second_of v A B) ≡ second-ahead
    v-second =
        (λ i. cond x.class.swap (applied-first i) (applied-second i))
        ∙ sym (second_is W W-block.0 W-block.1 A B ∙ class-is.second A B)
        ∙ W-second

    -- ---- the state after it, with any wires in the slots that have these bits

    wires-differ : wire a ≢ wire b
    unfolding wire
    wires-differ e = p.2 (t.places.apart a b p.0 p.1 e)

    rests' : List Rest
    rests' = set (set r.rests a none) b none

    splits' : List ℕ
    splits' = set (set r.splits a x.ka) b x.kb

    items' : List Item
    items' = item_of a b x r ∷ r.items

    settled_at : (content : List ℕ) → Places n R.Still content
        → turn2 (wire a) (wire b) v Y (get_or content a 0) ≡ first-ahead → turn2 (wire a) (wire b) v Y (get_or content b 0) ≡ second-ahead
        → ((w : ℕ) → w ≢ a → w ≢ b → get_or content w 0 ≡ get_or r.content w 0)
        → Tied es (turn2 a b u F) rests' splits' content items'
    unfolding wire Y v first-ahead second-ahead rests' splits' items' items_run
    settled_at content pl at_a at_b at_others =
        let ra : a < length r.rests = subst (λ i. a < i) (sym t.rests-long) p.0 in
        let rb : b < length (set r.rests a none) = subst (λ i. b < i) (sym (length-set r.rests a none ∙ t.rests-long)) p.1 in
        let sa : a < length r.splits = subst (λ i. a < i) (sym t.splits-long) p.0 in
        let sb : b < length (set r.splits a x.ka) = subst (λ i. b < i) (sym (length-set r.splits a x.ka ∙ t.splits-long)) p.1 in
        let rest-a : get_or rests' a none ≡ none =
        get_or-set_other (set r.rests a none) b a none none p.2 ∙ get_or-set_same r.rests a none none ra in
        let rest-b : get_or rests' b none ≡ none = get_or-set_same (set r.rests a none) b none none rb in
        let rest-o : (w : ℕ) → w ≢ a → w ≢ b → get_or rests' w none ≡ get_or r.rests w none =
        λ w na nb. get_or-set_other (set r.rests a none) b w none none nb ∙ get_or-set_other r.rests a w none none na in
        let split-a : get_or splits' a 0 ≡ x.ka =
        get_or-set_other (set r.splits a x.ka) b a x.kb 0 p.2 ∙ get_or-set_same r.splits a x.ka 0 sa in
        let split-b : get_or splits' b 0 ≡ x.kb = get_or-set_same (set r.splits a x.ka) b x.kb 0 sb in
        let split-o : (w : ℕ) → w ≢ a → w ≢ b → get_or splits' w 0 ≡ get_or r.splits w 0 =
        λ w na nb. get_or-set_other (set r.splits a x.ka) b w x.kb 0 nb ∙ get_or-set_other r.splits a w x.ka 0 na in
        let first = first_of u (F a) (F b) in
        let second = second_of u (F a) (F b) in
        record {
          rests-long = length-set (set r.rests a none) b none ∙ length-set r.rests a none ∙ t.rests-long;
          splits-long = length-set (set r.splits a x.ka) b x.kb ∙ length-set r.splits a x.ka ∙ t.splits-long;
          places = pl;
          items-are = (
            (
              (
                t.places.below a p.0,
                t.places.below b p.1,
                wires-differ,
                (λ s. subst (λ w. P w (wire b)) (sym (t.places.own s a p.0)) (subst (P a) (sym (t.places.own s b p.1)) (p.3 s))),
              ),
              (class-is.block, class-is.has, class-is.within, class-is.kind),
            ),
            t.items-are,
          );
          turns =
              by_three (λ w. Turn (opened (get_or rests' w none))) n a b
              (subst (λ o. Turn (opened o)) (sym rest-a) turn-id)
              (subst (λ o. Turn (opened o)) (sym rest-b) turn-id)
              (λ w h na nb. subst (λ o. Turn (opened o)) (sym (rest-o w na nb)) (t.turns w h));
          bits =
              by_three (λ w. turned_of (opened (get_or rests' w none)) (turn2 (wire a) (wire b) v Y (get_or content w 0))
              ≡ turned_all (take (get_or splits' w 0) (ahead w es)) (turn2 a b u F w)) n a b
              (ap (λ o. turned_of (opened o) (turn2 (wire a) (wire b) v Y (get_or content a 0))) rest-a
              ∙ turned-id (turn2 (wire a) (wire b) v Y (get_or content a 0))
              ∙ at_a
              ∙ sym (ap₂ (λ i y. turned_all (take i (ahead a es)) y) split-a (two-first a b first second F p.2)))
              (ap (λ o. turned_of (opened o) (turn2 (wire a) (wire b) v Y (get_or content b 0))) rest-b
              ∙ turned-id (turn2 (wire a) (wire b) v Y (get_or content b 0))
              ∙ at_b
              ∙ sym (ap₂ (λ i y. turned_all (take i (ahead b es)) y) split-b (two-second a b first second F p.2)))
              (λ w h na nb.
              ap₂ (λ o z. turned_of (opened o) z) (rest-o w na nb)
              (ap (turn2 (wire a) (wire b) v Y) (at_others w na nb)
              ∙ turn2-away (wire a) (wire b) v Y (get_or r.content w 0)
              (λ e. na (t.places.apart w a h p.0 e)) (λ e. nb (t.places.apart w b h p.1 e)))
              ∙ t.bits w h
              ∙ ap (λ l. turned_all (take (get_or r.splits w 0) l) (F w)) (ahead-block w es a b u (Ne-symm na) (Ne-symm nb))
              ∙ sym (ap₂ (λ i y. turned_all (take i (ahead w es)) y) (split-o w na nb) (turn2-away a b u F w na nb)));
        }

    two-step : (count : ℕ) (angled : Bool) → TiedTo es (turn2 a b u F) (settled a b count x angled r)
    unfolding wire Y v A B first-ahead second-ahead rests' splits' items'
    two-step count angled = by x.class.swap refl
      where
        first : Bool
        first = first_of v A B

        second : Bool
        second = second_of v A B

        by : (s : Bool) → x.class.swap ≡ s
            → TiedTo es (turn2 a b u F)
            (cond s (added (item_of a b x r) 1 count angled (renamed a b (emptied b x.kb (emptied a x.ka r))))
            (added (item_of a b x r) 0 count angled (emptied b x.kb (emptied a x.ka r))))
        by false e =
            settled_at r.content t.places
            (two-first (wire a) (wire b) first second Y wires-differ ∙ ap (λ s. cond s second first) (sym e) ∙ v-first)
            (two-second (wire a) (wire b) first second Y wires-differ ∙ ap (λ s. cond s first second) (sym e) ∙ v-second)
            (λ w na nb. refl)
        by true e =
            let at = traded-at t.places a b p.0 p.1 in
            settled_at (traded 0 a b r.content)
            (traded-places t.places a b p.0 p.1 (λ s. absurd (subst (λ (s : Bool). cond s (Unit {0}) ⊥) (sym e ∙ class-is.still s) tt)))
            (ap (turn2 (wire a) (wire b) v Y) (at a ∙ ap (λ i. get_or r.content i 0) (exchanged-first a b))
            ∙ two-second (wire a) (wire b) first second Y wires-differ ∙ ap (λ s. cond s second first) (sym e) ∙ v-first)
            (ap (turn2 (wire a) (wire b) v Y) (at b ∙ ap (λ i. get_or r.content i 0) (exchanged-second a b))
            ∙ two-first (wire a) (wire b) first second Y wires-differ ∙ ap (λ s. cond s first second) (sym e) ∙ v-second)
            (λ w na nb. at w ∙ ap (λ i. get_or r.content i 0) (exchanged-away a b w na nb))

  -- ---- all events

  pub resolved-tied : (es : List Event) → All ResolveEvent es → (F : ℕ → Bool) (r : Resolved) → TiedTo es F r
      → TiedTo [] (forward es F) (resolved relabel tol es r)
  unfolding resolved x
  resolved-tied [] h F r t = t
  resolved-tied (gone ∷ es) h F r t = resolved-tied es h.1 F r (gone-step es F r t)
  resolved-tied (one w m ∷ es) h F r t =
      resolved-tied es h.1 (turn1 w m F) (passed w m r) (one-step w h.0.0 m h.0.1 es F r t)
  resolved-tied (two a b u ∷ es) h F r t =
      resolved-tied es h.1 (turn2 a b u F) (resolve_step relabel tol (two a b u) es r)
      (two-step a b u h.0.0 h.0.1 es h.1 F r t (candidates a b es) (chosen relabel tol a b u es r).angled)
  resolved-tied (three a b c ∷ es) h F r t = absurd h.0
