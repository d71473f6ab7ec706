-- Where an element of a list stands, by `place_in`.
-- Assumes nothing.
use Rattle.std.specs.Prelude.{◌≡◌, refl, List, ◌<◌, length}
use Rattle.std.proofs.Common.{ap, ◌∙◌}
use Rattle.std.proofs.Math.Option.{some}
use Rattle.std.proofs.Math.ListN.{get_elem?}
use Rattle.model.specs.Lists.{same}
use Rattle.model.specs.Policy.{Policy}
use Rattle.model.specs.Standing.{place_in}
use Rattle.laws.specs.Members.{In}
use Rattle.laws.specs.Entries.{where_at, where_inside}
use Rattle.bytes_io.proofs.Same.{eq_same, same_eq}

module _ (ps : List Policy) (bs : Policy) where
  -- at a place before the end stands the policy itself
  pub place_at : place_in ps bs < length ps → get_elem? ps (place_in ps bs) ≡ some bs
  place_at h =
      let w = where_at (λ (p : Policy). same p bs) ps h in
      w.1 ∙ ap (λ (q : Policy). some q) (same_eq w.0 bs w.2)

  -- and it is before the end if the policy is there
  pub place_inside : In bs ps → place_in ps bs < length ps
  place_inside i = let e : bs ≡ bs = refl in where_inside (λ (p : Policy). same p bs) ps bs i (eq_same e)
