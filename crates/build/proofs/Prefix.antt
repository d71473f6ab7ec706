-- The bytes that a walk keeps of another.
-- Assumes nothing.
use mathlib.Core.Path.{◌≡◌, refl, sym, ap, ◌∙◌, subst}
use mathlib.Core.Bool.{Bool, true, false}
use mathlib.Core.Logic.{◌⊎◌, inl}
use mathlib.Core.List.{List, [], ◌∷◌, ◌++◌, append_assoc, head-eq_of_cons-eq, tail-eq_of_cons-eq}
use Prim.Native.Nat.{ℕ, zero, suc, ◌+◌, ◌-◌, ◌≤◌, ◌<◌}
use native.Mathlib.Numerals.{add-one}
use native.Mathlib.Omega.{arith}
use lib.ListN.{length, take, drop, length-append, length-drop}
use lib.Seq.{drop-cons, take-suc, take_at, length-take-le}
use Rattle.model.specs.Lists.{is_in}
use Rattle.model.specs.Model.{Words, Action, state_count, action}
use Rattle.model.specs.Questions.{book_number}
use Rattle.model.specs.Policy.{Policy, onward}
use Rattle.model.specs.Path.{byte_at}
use Rattle.laws.specs.Members.{in_one}
use Rattle.laws.specs.Greedy.{byte_of}
use Rattle.accepted.specs.Options.{Feasible, Alive}
use Rattle.sets.specs.Sets.{SetOf}
use Rattle.build.specs.Walk.{walk_by, chosen, Usable, Walked, Own, Passed}
use Rattle.build.specs.Best.{best_at}
use Rattle.build.proofs.Split.{split_before}
use Rattle.build.proofs.Pass.{Pass, bare, onward_alive}

pub walk_long : (act : ℕ → ℕ → Action) (f : ℕ → ℕ) (n p : ℕ) (reach : List ℕ) → length (walk_by act f n p reach) ≡ n
walk_long act f zero p reach = refl
walk_long act f (suc n) p reach = ap suc (walk_long act f n (suc p) (onward act p (byte_of (is_in p reach) (f p)) reach))

module _ (ws : Words) (bs : Policy) where
  -- nothing is kept yet
  abbrev pub walked_none : Alive ws 0 → (set : ℕ) → SetOf set (0 ∷ []) → Walked ws bs 0 set
  walked_none a set m =
      let z : state_count ws - 0 ≡ state_count ws = omega arith in
      record { reach = 0 ∷ []; set_is = m; alive = λ q i. subst (Alive ws) (sym (in_one i)) a; rest = λ f h. rw z }

  pub passed_none : Alive ws 0 → Own ws bs → (set : ℕ) → SetOf set (0 ∷ []) → Passed ws bs 0 set
  passed_none a o set m =
      let z : state_count ws - 0 ≡ state_count ws = omega arith in
      record {
        walked = walked_none a set m;
        long = ap length o.own ∙ walk_long (action ws) o.by (state_count ws) 0 (0 ∷ []);
        by = o.by;
        left = rw z o.own;
      }

  -- one state more
  module _ (ok : book_number ws ≡ 0) (s : ℕ) (state : s < state_count ws) (set : ℕ) (h : Passed ws bs s set) where
    abbrev w : Walked ws bs s set
    w = h.walked

    abbrev byte : ℕ
    byte = byte_at bs s

    size : state_count ws - s ≡ suc (state_count ws - (s + 1))
    size = omega arith

    next : s + 1 ≡ suc s
    next = add-one s

    cut : byte ∷ drop (suc s) bs ≡ walk_by (action ws) h.by (suc (state_count ws - (s + 1))) s w.reach
    cut = sym (drop-cons bs s 255 (omega (arith, h.long))) ∙ h.left ∙ ap (λ (n : ℕ). walk_by (action ws) h.by n s w.reach) size

    head : byte ≡ byte_of (is_in s w.reach) (h.by s)
    head = head-eq_of_cons-eq cut

    twice : (b : Bool) (x y : ℕ) → x ≡ byte_of b y → byte_of b x ≡ x
    twice true x y e = refl
    twice false x y e = sym e

    same : byte_of (is_in s w.reach) byte ≡ byte
    same = twice (is_in s w.reach) byte (h.by s) head

    pub passed_more : (byte ≡ 255) ⊎ Feasible ws s byte → (after : ℕ) → SetOf after (onward (action ws) s byte w.reach) → Passed ws bs (s + 1) after
    passed_more t after m =
        record {
          walked = record {
            reach = onward (action ws) s byte w.reach;
            set_is = m;
            alive = onward_alive ws ok s byte w.reach t w.alive;
            rest = goes;
          };
          long = h.long;
          by = h.by;
          left = ap (λ (n : ℕ). drop n bs) next ∙ tail-eq_of_cons-eq cut
              ∙ ap (λ (b : ℕ). walk_by (action ws) h.by (state_count ws - (s + 1)) (suc s) (onward (action ws) s b w.reach)) (sym head)
              ∙ ap (λ (n : ℕ). walk_by (action ws) h.by (state_count ws - (s + 1)) n (onward (action ws) s byte w.reach)) (sym next);
        }
      where
        goes : (f : ℕ → ℕ) → ((p : ℕ) → p < s + 1 → f p ≡ byte_at bs p)
            → walk_by (action ws) f (state_count ws) 0 (0 ∷ [])
            ≡ take (s + 1) bs ++ walk_by (action ws) f (state_count ws - (s + 1)) (s + 1) (onward (action ws) s byte w.reach)
        goes f agrees =
            let act : byte_of (is_in s w.reach) (f s) ≡ byte = ap (byte_of (is_in s w.reach)) (agrees s (omega arith)) ∙ same in
            w.rest f (λ p l. agrees p (omega arith))
            ∙ ap (λ (n : ℕ). take s bs ++ walk_by (action ws) f n s w.reach) size
            ∙ ap (λ (b : ℕ). take s bs ++ (b ∷ walk_by (action ws) f (state_count ws - (s + 1)) (suc s) (onward (action ws) s b w.reach))) act
            ∙ sym (append_assoc (take s bs) (byte ∷ [])
            (walk_by (action ws) f (state_count ws - (s + 1)) (suc s) (onward (action ws) s byte w.reach)))
            ∙ ap (λ (l : List ℕ). l ++ walk_by (action ws) f (state_count ws - (s + 1)) (suc s) (onward (action ws) s byte w.reach))
            (sym (take-suc bs s 255 (omega (arith, h.long))))
            ∙ ap (λ (n : ℕ). take n bs ++ walk_by (action ws) f (state_count ws - (s + 1)) n (onward (action ws) s byte w.reach)) (sym next)

    -- 255 stands for no action
    pub passed_bare : byte ≡ 255 → Passed ws bs (s + 1) set
    passed_bare e = passed_more (inl e) set (rw e (bare ws ok s set w.reach w.set_is))

  -- the pass over the other states begins there
  pub begin_at : (r c set : ℕ) (out : Policy) → Walked ws bs r set → length out ≡ state_count ws → take r out ≡ take r bs
      → Pass ws (chosen ws bs r c) r set out
  begin_at r c set out h long same =
      record {
        long = long;
        reach = h.reach;
        set_is = h.set_is;
        alive = h.alive;
        rest = h.rest (chosen ws bs r c) (λ p l. split_before (byte_at bs) r c (best_at ws) p l)
            ∙ ap (λ (l : List ℕ). l ++ walk_by (action ws) (chosen ws bs r c) (state_count ws - r) r h.reach) (sym same);
      }

-- ---- bytes that are copied

pub usable_long : (ws : Words) (bs : Policy) (r : ℕ) → Usable ws bs r → r ≤ length bs
usable_long ws bs zero u = omega arith
usable_long ws bs (suc r) u = (u r (omega arith)).0

pub copied : {o : List ℕ} (bs d : List ℕ) (r n : ℕ) → r ≤ length bs → length d ≡ n → r ≤ n → o ≡ take r bs ++ drop r d
    → (length o ≡ n) × (take r o ≡ take r bs)
copied bs d r n h long l e =
    let front = length-take-le r bs h in
    (rw e (length-append (take r bs) (drop r d) ∙ omega (arith, front, length-drop r d)), rw e (take_at (take r bs) (drop r d) r front))
