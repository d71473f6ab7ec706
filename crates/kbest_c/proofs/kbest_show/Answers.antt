-- The place for the figures of accepting is that of the part that is shown.
-- Assumes nothing.
use mathlib.Core.Path.{◌≡◌, ap, ◌∙◌}
use mathlib.Core.List.{List}
use Prim.Native.Nat.{ℕ}
use lib.ListN.{take, drop}
use Rattle.std.specs.Prelude.{Result, Ok, Err}
use Rattle.std.specs.Result.{IfOk, result_unwrap_or}
use Rattle.model.specs.Record.{accept_number}
use Rattle.model.specs.Calls.{accept_states, accept_count, shown}
use Rattle.questions.specs.Answers.{leaves}
use Rattle.refusal.specs.declared.Refusal.{Refusal}
use Rattle.refusal.specs.Refusal.{number_in, some_number}
use Rattle.accept.specs.declared.Accepted.{Accepted}
use Rattle.place.specs.declared.Place.{Place}
use Rattle.place.specs.Place.{place_of, browsed, shown_there, browsed-shown}
use Rattle.kbest_c.specs.Part.{shown_offset, shown_length}
use Rattle.kbest_c.proofs.kbest_show.Goals as goal

shows : (r : List ℕ) (j : ℕ) {s k : ℕ} {p : Place} → s ≡ accept_states r → k ≡ accept_count r → p ≡ place_of r s k j
    → (take p.size (drop p.from r) ≡ shown r j) × (p.from ≡ shown_offset r j) × (p.size ≡ shown_length r j)
unfolding browsed place_of shown_offset shown_length
shows r j es ek e = (
  ap (λ (q : Place). take q.size (drop q.from r)) e ∙ browsed-shown r j es ek,
  ap (λ (q : Place). q.from) e ∙ rw (es, ek, shown_there r j),
  ap (λ (q : Place). q.size) e ∙ rw (es, ek, shown_there r j),
)

figures : (r : Result Accepted Refusal) (bs : List ℕ) → number_in r ≡ accept_number bs → IfOk r (λ a. a.s ≡ accept_states bs) → IfOk r (λ a. a.k ≡ accept_count bs)
    → ((result_unwrap_or r (record { s = 0; k = 0 })).s ≡ accept_states bs) × ((result_unwrap_or r (record { s = 0; k = 0 })).k ≡ accept_count bs)
unfolding accept_states accept_count
figures (Ok a) bs e es ek = (es, ek)
figures (Err q) bs e es ek = (leaves e (some_number q) _ 0, leaves e (some_number q) _ 0)

pub returns : goal.returns
returns c =
    let e = c.accept.ensures in
    let f = figures c.accept.result c.args.filed.now e.number e.states e.count in
    let a = ap (λ (x : Accepted). x.s) c.unwrap_or-a.ensures in
    let b = ap (λ (x : Accepted). x.k) c.unwrap_or-a.ensures in
    shows _ _ (a ∙ f.0) (b ∙ f.1) c.locate-p.ensures
