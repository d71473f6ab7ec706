-- A model by its content (document 01: a book by its posts, choices and lines), and the words that say it.
-- Assumes nothing.
use Rattle.std.specs.Prelude.{ℕ, ◌-◌, List, ◌∷◌, ◌++◌, map, ℤ, pos, length}
use Rattle.model.specs.Lists.{for_each}
use Rattle.model.specs.Model.{Words}

-- a line of the two columns
pub record Line : Type 0 where
  pub left : ℤ
  pub right : ℤ

-- an action as it is written: its amount (a cost in a book, a reward in a planners' table) and the lines below its first
pub record Entry : Type 0 where
  pub amount : ℤ
  pub lines : List Line

-- "A choice's first line holds r (left) and its cost in seconds (right). Then come its r lines"
abbrev pub entry_lines : Entry → List Line
entry_lines e = record { left = pos (length e.lines); right = e.amount } ∷ e.lines

-- D and the stages; a stage is its states, a state its actions
pub record Content : Type 0 where
  pub scale : ℕ
  pub stages : List (List (List Entry))

-- "Posts are numbered from 0 through the stages in order"
abbrev pub states : Content → List (List Entry)
states c = for_each (λ (s : List (List Entry)). s) c.stages

-- "The lines follow the posts in order and each post's choices in order, both from 0."
abbrev pub state_lines : List (List Entry) → List Line
state_lines = for_each (for_each entry_lines)

abbrev pub lefts : List Line → List ℤ
lefts ls = map (λ (l : Line). l.left) ls

abbrev pub rights : List Line → List ℤ
rights ls = map (λ (l : Line). l.right) ls

-- how many elements each list has, as words
abbrev pub lengths : {A : Type 0} → List (List A) → List ℤ
lengths xss = map (λ xs. pos (length xs)) xss

-- "Sizes come first, then two parallel columns": "D, the scale of chances; H, the number of stages with a decision; L, the number of lines"; "how
-- many posts each stage 0 to H has"; "how many choices each post has"; "L words of left column, then L words of right column"
unfoldable pub book_words : Content → Words
book_words c =
    pos c.scale ∷ pos (length c.stages - 1) ∷ pos (length (state_lines (states c)))
    ∷ (lengths c.stages ++ lengths (states c) ++ lefts (state_lines (states c)) ++ rights (state_lines (states c)))
