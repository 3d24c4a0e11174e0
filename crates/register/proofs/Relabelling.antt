-- Relabelling: the register's bit of a qubit is the bit of the qubit's slot after the events, with and without the flag. A Swap that is a renaming
-- exchanges slots where the register exchanges bits; every other gate does on its slots what the register does on its qubits. Assumes nothing.
use mathlib.Core.Path.{◌≡◌, refl, sym, ap, ap₂, ◌∙◌, subst}
use mathlib.Core.Logic.{◌⊎◌, inl, inr, ◌≢◌}
use mathlib.Core.Bool.{Bool, true, false, not, cond, ◌&&◌}
use mathlib.Core.List.{List, [], ◌∷◌}
use Prim.Native.Nat.{ℕ, ◌<◌}
use lib.Dec.{eqb}
use borrow.Author.Tests.{eqb-true}
use Rattle.laws.specs.Tables.{update, exchanged, exchange}
use Rattle.laws.specs.Lists.{All}
use Rattle.std.proofs.lemmas.Bool.{cases_eq}
use Rattle.laws.proofs.Tables.{update_here, update-away, two-first, two-second, exchanged-below, exchange-first, exchange-second, exchange-away}
use Rattle.tape.specs.declared.gates.Gate.{Gate}
use Rattle.tape.specs.declared.gates.Gate.TheVariants.{One, Two, Three}
use Rattle.gate.specs.declared.matrix.Mat4.{Mat4}
use Rattle.monomial.specs.Monomial.{flip, Mono4}
use Rattle.fuse.specs.Events.{Event, gone, one, two}
use Rattle.fuse.specs.Relabel.{swap_code, Labelled, put, swapped, slot_of, label, labelled, unlabelled}
use Rattle.register.specs.Register.{turns, register_step, register_from, register_bits}
use Rattle.register.specs.Bits.{turned_of, first_of, second_of, turn2, events_run, zeros}
use Rattle.register.specs.Blocks.{Closed, GateIs, Pair, Places}
use Rattle.register.proofs.Readings.{turned-is, first-is, second_is}
use Rattle.register.proofs.Changes.{update_same, turn2-away, EventIs}
use Rattle.register.proofs.Permuting.{by_three, identity-places, traded-at, traded-places}

-- a gate on one qubit, as a change of its bit
turned : (t : Bool) (q : ℕ) (f : ℕ → Bool) (p : ℕ) → cond t (update q (not (f q)) f) f p ≡ update q (flip t (f q)) f p
turned true q f p = refl
turned false q f p = sym (update_same q f p)

module _ (n : ℕ) (Q : Mono4 → Type 0) (C : Closed Q) (P : ℕ → ℕ → Type 0) (Still : Type 0) where
  -- the events that come of such gates
  abbrev pub SlotEvent : Event → Type 0
  SlotEvent = EventIs (λ w. w < n) (Pair n P Still) (λ a b p. p.2) Q C

  -- the register's bits R, and the gates so far as events
  pub record Labels (R : ℕ → Bool) (s : Labelled) : Type 0 where
    pub places : Places n Still s.lab
    pub events : All SlotEvent s.events
    pub bits : (q : ℕ) → q < n → R q ≡ events_run s.events zeros (slot_of s q)

  module _ (R : ℕ → Bool) (s : Labelled) (l : Labels R s) where
    E : ℕ → Bool
    E = events_run s.events zeros

    -- slots of different qubits are different
    slots-differ : (p q : ℕ) → p < n → q < n → p ≢ q → slot_of s p ≢ slot_of s q
    slots-differ p q hp hq ne e = ne (l.places.apart p q hp hq e)

    one-bits : (code q : ℕ) (m : _) → GateIs n Q P Still (One code q m) → (p : ℕ) → p < n
        → register_step (One code q m) R p ≡ events_run (one (slot_of s q) m ∷ s.events) zeros (slot_of s p)
    unfolding events_run E
    one-bits code q m g p h = turned (turns code) q R p ∙ by (cases_eq p q)
      where
        B : Bool
        B = flip (turns code) (R q)

        W : Bool
        W = turned_of m (E (slot_of s q))

        same : B ≡ W
        same = sym (turned-is m g.1.0 g.1.1 (E (slot_of s q)) ∙ ap₂ flip g.1.2 (sym (l.bits q g.0)))

        by : (p ≡ q) ⊎ (p ≢ q) → update q B R p ≡ update (slot_of s q) W E (slot_of s p)
        by (inl e) =
            ap (update q B R) e ∙ update_here q B R ∙ same
            ∙ sym (ap (λ v. update (slot_of s q) W E (slot_of s v)) e ∙ update_here (slot_of s q) W E)
        by (inr e) =
            update-away q B R p e ∙ l.bits p h
            ∙ sym (update-away (slot_of s q) W E (slot_of s p) (slots-differ p q h g.0 e))

    -- the gate exchanges
    two-bits : (a b : ℕ) (m : Mat4) → a < n → b < n → a ≢ b → ((x y : Bool) → first_of m x y ≡ y) → ((x y : Bool) → second_of m x y ≡ x)
        → (p : ℕ) → p < n → exchange a b R p ≡ events_run (two (slot_of s a) (slot_of s b) m ∷ s.events) zeros (slot_of s p)
    unfolding events_run E
    two-bits a b m ha hb ne fst snd =
        let sa = slot_of s a in
        let sb = slot_of s b in
        let x = E sa in
        let y = E sb in
        let ns = slots-differ a b ha hb ne in
        by_three (λ p. exchange a b R p ≡ turn2 sa sb m E (slot_of s p)) n a b
        (exchange-first a b R ∙ l.bits b hb ∙ sym (two-first sa sb (first_of m x y) (second_of m x y) E ns ∙ fst x y))
        (exchange-second a b R ∙ l.bits a ha ∙ sym (two-second sa sb (first_of m x y) (second_of m x y) E ns ∙ snd x y))
        (λ p h pa pb. exchange-away a b R p pa pb ∙ l.bits p h
        ∙ sym (turn2-away sa sb m E (slot_of s p) (slots-differ p a h ha pa) (slots-differ p b h hb pb)))

    swap-bits : (a b : ℕ) → a < n → b < n → (p : ℕ) → p < n → exchange a b R p ≡ events_run (gone ∷ s.events) zeros (slot_of (swapped a b s) p)
    unfolding events_run E
    swap-bits a b ha hb p h = l.bits (exchanged a b p) (exchanged-below a b n p ha hb h) ∙ ap E (sym (traded-at l.places a b ha hb p))

    label-step : (relabel : Bool) (x : Gate) → GateIs n Q P Still x → Labels (register_step x R) (label relabel x s)
    label-step relabel (One code q m) g =
        record {
          places = l.places;
          events = ((l.places.below q g.0, (g.1.0, g.1.1)), l.events);
          bits = one-bits code q m g;
        }
    label-step relabel (Three a b c) g = absurd g
    label-step relabel (Two code a b m) g =
        subst (λ t.
        Labels (cond t (exchange a b R) R) (cond (relabel && eqb code swap_code) (swapped a b s) (put (two (slot_of s a) (slot_of s b) m) s)))
        (sym g.3) (by relabel (eqb code swap_code) (eqb-true code swap_code))
      where
        own_pair : Still → a < n → b < n → P a b → P (slot_of s a) (slot_of s b)
        own_pair t ha hb h = subst (λ v. P v (slot_of s b)) (sym (l.places.own t a ha)) (subst (P a) (sym (l.places.own t b hb)) h)

        kept : Labels (exchange a b R) (put (two (slot_of s a) (slot_of s b) m) s)
        kept =
            record {
              places = l.places;
              events = (
                (
                  (
                    l.places.below a g.0,
                    l.places.below b g.1,
                    slots-differ a b g.0 g.1 g.2,
                    (λ t. own_pair t g.0 g.1 (g.4 t).1),
                  ),
                  (g.5.0, g.5.1, g.5.2),
                ),
                l.events,
              );
              bits =
                  two-bits a b m g.0 g.1 g.2 (λ x y. first-is m g.5.0 g.5.1 x y ∙ g.5.3 x y)
                  (λ x y. second_is m g.5.0 g.5.1 x y ∙ g.5.4 x y);
            }

        by : (r t : Bool) → (t ≡ true → code ≡ swap_code)
            → Labels (exchange a b R) (cond (r && t) (swapped a b s) (put (two (slot_of s a) (slot_of s b) m) s))
        by false t e = kept
        by true false e = kept
        by true true e =
            record {
              places = traded-places l.places a b g.0 g.1 (λ t. (g.4 t).0 (e refl));
              events = (tt, l.events);
              bits = swap-bits a b g.0 g.1;
            }

  labels-all : (relabel : Bool) (gs : List Gate) → All (GateIs n Q P Still) gs → (R : ℕ → Bool) (s : Labelled) → Labels R s
      → Labels (register_from gs R) (labelled relabel gs s)
  unfolding register_from labelled
  labels-all relabel [] g R s l = l
  labels-all relabel (x ∷ xs) g R s l = labels-all relabel xs g.1 (register_step x R) (label relabel x s) (label-step R s l relabel x g.0)

  pub relabelled : (relabel : Bool) (gs : List Gate) → All (GateIs n Q P Still) gs → Labels (register_bits gs) (labelled relabel gs (unlabelled n))
  unfolding register_bits unlabelled events_run
  relabelled relabel gs g =
      labels-all relabel gs g zeros (unlabelled n) (record { places = identity-places n Still; events = tt; bits = λ q h. refl })
