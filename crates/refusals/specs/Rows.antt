-- A table of refusals, its rows in the order in which they are checked, and the claim that each is returned exactly if
-- its condition holds and no earlier one does.
use Rattle.std.specs.Prelude.{List, [], ◌∷◌, ◌⊎◌, ◌↔◌, ◌≡◌, ℕ}
use Rattle.refusals.specs.Refusal.{Entry, plain}

-- a number with its index or value, and the condition that it stands for
pub record Row : Type 1 where
  pub refusal : Entry
  pub holds : Type 0

-- a row of a number alone
abbrev pub row : ℕ → Type 0 → Row
row k condition = record { refusal = plain k; holds = condition }

-- row by row: it is returned exactly if its condition holds and no earlier one does; and accepted is exactly where no
-- condition holds. None: no row before these holds
abbrev pub ExactlyFirst : (Entry → Type 0) → Type 0 → Type 0 → List Row → Type 0
ExactlyFirst Returned Accepted None [] = Accepted ↔ None
ExactlyFirst Returned Accepted None (r ∷ rs) =
    (Returned r.refusal ↔ (None × r.holds)) × ExactlyFirst Returned Accepted (None × (r.holds → ⊥)) rs

-- no row holds; and the first that holds has this number, where a table may name a number twice
abbrev pub NoneHolds : List Row → Type 0
NoneHolds [] = Unit {0}
NoneHolds (r ∷ rs) = (r.holds → ⊥) × NoneHolds rs

abbrev pub FirstIs : ℕ → List Row → Type 0
FirstIs k [] = ⊥
FirstIs k (r ∷ rs) = (r.holds × (r.refusal.number ≡ k)) ⊎ ((r.holds → ⊥) × FirstIs k rs)
