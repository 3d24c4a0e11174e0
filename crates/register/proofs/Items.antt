-- From the gates of a register tape to its items: the register's bit of a qubit is the bit of the wire in the qubit's slot after all items, for every
-- tape, flag and tolerance, and whatever cuts are chosen. Each item is what its kind says; without Swap and on neighbouring pairs all are Gaussian.
-- Assumes nothing.
use mathlib.Core.Path.{◌≡◌, refl, sym, ap, ◌∙◌, subst}
use mathlib.Core.Bool.{Bool, false}
use mathlib.Core.List.{List, [], ◌∷◌, reverse, reverse_aux, Memᴰ}
use Prim.Native.Nat.{ℕ, zero, ◌<◌}
use native.Mathlib.Nat.{le_refl}
use lib.ListN.{get_or, take}
use lib.Seq.{take-nil}
use lib.Ieee.{Float}
use Rattle.resolve.proofs.Tails.{ahead_none}
use Rattle.laws.specs.Views.{list_of, until}
use Rattle.laws.specs.Lists.{All}
use Rattle.laws.proofs.Views.{length-list_of, get_or-list_of}
use Rattle.laws.proofs.Lists.{all_map, all-onto}
use Rattle.tape.specs.Good.{GoodGate}
use Rattle.tape.specs.declared.gates.Gate.{Gate}
use Rattle.monomial.specs.Monomial.{Mono4, IsMatchgate}
use Rattle.monomial.specs.Tolerance.{Tolerance}
use Rattle.fuse.specs.Events.{Event}
use Rattle.fuse.specs.Relabel.{slot_of, labelled, unlabelled}
use Rattle.fuse.specs.Fuse.{fused}
use Rattle.fuse.specs.Compress.{compressed}
use Rattle.resolve.specs.Items as Items
use Rattle.resolve.specs.Items.{Item, ItemKind}
use Rattle.resolve.specs.Cuts.{ones, ahead}
use Rattle.resolve.specs.Resolve.{Rest, none, opened, start_of}
use Rattle.resolve.specs.Whole.{resolved_of, Fused, fuse_of}
use Rattle.register.specs.Register.{RegisterGate, Beside, PlainGate}
use Rattle.register.specs.Bits.{turned_of, events_run, items_run, zeros}
use Rattle.register.specs.Blocks.{Turn, EvenSum, Pair, Places, GateIs, Rules, ItemIs, KindIs, GaussianKind}
use Rattle.register.specs.Follows.{Follows, any_pair, GaussianItem, Plain}
use Rattle.register.proofs.Readings.{turn-id, turned-id}
use Rattle.register.proofs.Changes.{passes-keep}
use Rattle.register.proofs.Permuting.{identity-places}
use Rattle.register.proofs.Relabelling.{relabelled}
use Rattle.register.proofs.Gates.{all-members, register-gate, fitting-gate}
use Rattle.register.proofs.Classing.{not-both, even_rules, fit_rules}
use Rattle.register.proofs.Tails.{turned_all}
use Rattle.register.proofs.Resolving.{ResolveEvent, ResolveItem, TiedTo, forward, resolved-tied}
use Rattle.register.proofs.Remainders.{all-rests, rests-are}

-- ---- items whose blocks fit

fits-kind : (relabel : Bool) (b : Mono4) (kind : ItemKind) → IsMatchgate b → KindIs relabel b kind → GaussianKind kind
fits-kind relabel b Items.matchgate F h = tt
fits-kind relabel b Items.phaseless F h = tt
fits-kind relabel b Items.interacting F h = not-both b F h.1
fits-kind relabel b Items.neither F h = not-both b F h.1

gaussian-item : (relabel : Bool) (n : ℕ) (x : Item) → ItemIs relabel n IsMatchgate Beside (Unit {0}) x → GaussianItem n x
gaussian-item relabel n (Items.one w m) h = h
gaussian-item relabel n (Items.two kind a b r v) h =
    (h.0.0, h.0.1, h.0.3 tt, (h.1.0, h.1.1, h.1.2), fits-kind relabel h.1.0 kind h.1.2 h.1.3)
gaussian-item relabel n Items.opaque h = absurd h

module _ (relabel : Bool) (tol : Float) (R : Rules relabel tol) (n : ℕ) (P : ℕ → ℕ → Type 0) where
  -- ---- the events, the newest first

  forward-reverse : (es fs : List Event) (F : ℕ → Bool) → forward (reverse_aux es fs) F ≡ forward fs (events_run es F)
  unfolding events_run
  forward-reverse [] fs F = refl
  forward-reverse (e ∷ es) fs F = forward-reverse es (e ∷ fs) F

  start-tied : (es : List Event) (swaps : ℕ) → TiedTo relabel tol R n P es zeros (start_of n swaps)
  unfolding start_of items_run
  start-tied es swaps =
      let empty : ℕ → Rest = λ w. none in
      let nought : ℕ → ℕ = λ w. 0 in
      let rest_at : (w : ℕ) → w < n → get_or (list_of n empty) w none ≡ none = λ w h. get_or-list_of n empty w none h in
      let split_at : (w : ℕ) → w < n → get_or (list_of n nought) w 0 ≡ zero = λ w h. get_or-list_of n nought w 0 h in
      record {
        rests-long = length-list_of n empty;
        splits-long = length-list_of n nought;
        places = identity-places n R.Still;
        items-are = tt;
        turns = λ w h. subst (λ o. Turn (opened o)) (sym (rest_at w h)) turn-id;
        bits = λ w h.
            ap (λ o. turned_of (opened o) false) (rest_at w h) ∙ turned-id false
            ∙ sym (ap (λ k. turned_all (take k (ahead w es)) false) (split_at w h));
      }

  -- ---- resolving as a whole

  -- what fusing makes of the events es
  pub record Resolves (es : List Event) (f : Fused) : Type 0 where
    pub places : Places n R.Still f.content
    pub items : All (ResolveItem relabel tol R n P) f.items
    pub bits : (w : ℕ) → w < n → events_run es zeros w ≡ items_run f.items zeros (get_or f.content w 0)

  pub resolves : (swaps : ℕ) (es : List Event) → All (ResolveEvent relabel tol R n P) es → Resolves es (fuse_of relabel tol n swaps es)
  unfolding fuse_of resolved_of
  resolves swaps es h =
      let k = passes-keep (λ w. w < n) (Pair n P R.Still) (λ a b p. p.2) R.Q R.closed es h in
      let fs = compressed (fused es) in
      let r = resolved_of relabel tol n swaps es in
      let t : TiedTo relabel tol R n P [] (forward (reverse fs) zeros) r =
      resolved-tied relabel tol R n P (reverse fs) (all-onto (ResolveEvent relabel tol R n P) fs [] k.0 tt) zeros (start_of n swaps)
      (start-tied (reverse fs) swaps) in
      record {
        places = t.places;
        items = rests-are relabel tol R n P [] (forward (reverse fs) zeros) r t n (le_refl n);
        bits = λ w l.
            sym (all-rests relabel tol R n P [] (forward (reverse fs) zeros) r t w l
            ∙ t.bits w l
            ∙ ap (λ s. turned_all (take (get_or r.splits w 0) s) (forward (reverse fs) zeros w)) (ahead_none w)
            ∙ ap (λ s. turned_all s (forward (reverse fs) zeros w)) (take-nil (get_or r.splits w 0))
            ∙ ap (λ (b : ℕ → Bool). b w) (forward-reverse fs [] zeros)
            ∙ ap (λ (g : (ℕ → Bool) → ℕ → Bool). g zeros w) k.1);
      }

  -- ---- the whole path

  pub follows : (gs : List Gate) → All (GateIs n R.Q P R.Still) gs
      → (let s = labelled relabel gs (unlabelled n) in Follows relabel n R.Q P R.Still gs s (fuse_of relabel tol n s.swaps s.events))
  follows gs g =
      let s = labelled relabel gs (unlabelled n) in
      let l = relabelled n R.Q R.closed P R.Still relabel gs g in
      let r = resolves s.swaps s.events l.events in
      record {
        lab = l.places;
        content = r.places;
        items = r.items;
        bits = λ q h. l.bits q h ∙ r.bits (slot_of s q) (l.places.below q h);
      }

-- ---- the theorems

module _ (n : ℕ) (gs : List Gate) (good : (x : Gate) → Memᴰ x gs → GoodGate n x) (register : (x : Gate) → Memᴰ x gs → RegisterGate x)
    (relabel : Bool) (tol : Float) (ok : Tolerance tol) where
  -- every register tape
  pub items-follow : (let s = labelled relabel gs (unlabelled n) in
      Follows relabel n EvenSum any_pair ⊥ gs s (fuse_of relabel tol n s.swaps s.events))
  items-follow =
      follows relabel tol (even_rules relabel tol ok) n any_pair gs (all-members gs (λ x m. register-gate n any_pair x (good x m) (register x m)))

  -- one without Swap whose pairs are neighbours
  module _ (plain : (x : Gate) → Memᴰ x gs → PlainGate x) where
    fits-follow : (let s = labelled relabel gs (unlabelled n) in
        Follows relabel n IsMatchgate Beside (Unit {0}) gs s (fuse_of relabel tol n s.swaps s.events))
    fits-follow =
        follows relabel tol (fit_rules relabel tol ok) n Beside gs (all-members gs (λ x m. fitting-gate n x (good x m) (register x m) (plain x m)))

    pub items-plain : (let s = labelled relabel gs (unlabelled n) in Plain n s (fuse_of relabel tol n s.swaps s.events))
    items-plain =
        let s = labelled relabel gs (unlabelled n) in
        let f = fits-follow in
        record {
          lab = f.lab.own tt;
          content = f.content.own tt;
          items = all_map (gaussian-item relabel n) (fuse_of relabel tol n s.swaps s.events).items f.items;
        }
