-- The bytes of policy j in an array of policies, and the line that is written for it.
-- Assumes nothing.
use mathlib.Core.Path.{◌≡◌, ap, ◌∙◌}
use mathlib.Core.List.{List}
use Prim.Native.Nat.{ℕ, suc, ◌+◌, ◌*◌, ◌-◌, ◌≤◌}
use native.Mathlib.Nat.{add-sub_cancel_left, mul-le-mul_right, suc-mul}
use native.Mathlib.Numerals.{add-one}
use native.Mathlib.Omega.{arith}
use lib.IntN.{pos}
use lib.ListN.{length, take, drop, get_or, length-drop}
use lib.Seq.{length-take-le}
use Rattle.record.specs.declared.Listing.{Listing}
use Rattle.text.specs.Text.{Appended, joined, line_text}
use Rattle.page_lines.specs.Lines.{array_lines}

-- policy j of n ends within the array
pub within : (j n s : ℕ) → suc j ≤ n → j * s + s ≤ n * s
within j n s h = omega (arith, mul-le-mul_right {m = suc j} {n = n} s h, suc-mul j s)

module _ (l : Listing) (j : ℕ) (h : j * l.s + l.s ≤ length l.plans) where
  abbrev pub part : List ℕ
  part = take (j * l.s + l.s - j * l.s) (drop (j * l.s) l.plans)

  pub part_is : part ≡ take l.s (drop (j * l.s) l.plans)
  part_is = rw add-sub_cancel_left

  pub part_long : length part ≡ l.s
  part_long = ap length part_is ∙ length-take-le l.s (drop (j * l.s) l.plans) (rw length-drop (omega arith))

  pub next_line : {o₀ o o' : List ℕ} {at p q : ℕ} → Appended o₀ at (array_lines l j) o p
      → Appended o p (line_text (j + 1) (get_or l.costs j (pos 0)) part) o' q → Appended o₀ at (array_lines l (j + 1)) o' q
  next_line a b = rw (add-one j, ← part_is) (joined a (rw (add-one j) at b))
