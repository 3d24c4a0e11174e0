-- A pass over the events, the oldest first: each event is put to those before it. Assumes nothing. Only inner functions rest on this.
use Rattle.std.specs.Prelude.{◌≡◌, refl, List, [], ◌∷◌}
use Rattle.fuse.specs.Events.{Event}
use Rattle.fuse.specs.Fuse.{fuse_step, fused}
use Rattle.fuse.specs.Compress.{compress_step, compressed}

-- F puts each event by f
pub record PassLaws (f : Event → List Event → List Event) (F : List Event → List Event) : Type 0 where
  pub none : F [] ≡ []
  pub more : (x : Event) (es : List Event) → F (x ∷ es) ≡ f x (F es)

pub fuse_laws : PassLaws fuse_step fused
unfolding fused
fuse_laws = record { none = refl; more = λ x es. refl }

pub compress_laws : PassLaws compress_step compressed
unfolding compressed
compress_laws = record { none = refl; more = λ x es. refl }
