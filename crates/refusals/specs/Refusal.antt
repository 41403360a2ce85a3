-- A refusal as the table states it, by number, index and value; and the first of an ordered list of conditions that
-- applies.
use Rattle.std.specs.Prelude.{Bool, cond, List, [], ◌∷◌, ℕ, eqb, Float, Result, Ok, Err}
use Rattle.numbers.specs.Float.{zero_f}
use Rattle.refusals.specs.declared.Refusal.{Refusal}

-- an entry of the table
pub record Entry : Type 0 where
  pub number : ℕ
  pub index : ℕ
  pub value : Float

abbrev pub none : Entry
none = record { number = 0; index = 0; value = zero_f }

-- a refusal that is its number alone
abbrev pub plain : ℕ → Entry
plain k = record { number = k; index = 0; value = zero_f }

-- the number of each refusal, with its index or value
abbrev pub entry : Refusal → Entry
entry Refusal.TooManyStates = plain 1
entry Refusal.ToleranceLength = plain 2
entry Refusal.LentLength = plain 3
entry Refusal.LargeSetting = plain 4
entry Refusal.NoSteps = plain 5
entry Refusal.NoIterations = plain 6
entry Refusal.NoOrder = plain 7
entry Refusal.Banded = plain 8
entry (Refusal.RelativeTolerance i) = record { number = 9; index = i; value = zero_f }
entry (Refusal.AbsoluteTolerance i) = record { number = 10; index = i; value = zero_f }
entry (Refusal.FirstStep h) = record { number = 11; index = 0; value = h }
entry (Refusal.Weight i) = record { number = 12; index = i; value = zero_f }
entry Refusal.SessionRange = plain 13
entry Refusal.Unasked = plain 14

-- of a test: what it refuses by, and none where it refuses nothing
abbrev pub entry_of : {A : Type 0} → Result A Refusal → Entry
entry_of (Ok x) = none
entry_of (Err r) = entry r

-- a condition, and the number that it is refused by
pub record Condition : Type 0 where
  pub holds : Bool
  pub number : ℕ

abbrev pub when : Bool → ℕ → Condition
when b k = record { holds = b; number = k }

-- the refusal by this number if the condition holds, unless there is one already
unfoldable pub also_of : Entry → Bool → ℕ → Entry
also_of r holds k = cond (eqb r.number 0) (cond holds (plain k) r) r

-- the first condition that holds, unless there is a refusal already
unfoldable pub in_order : Entry → List Condition → Entry
in_order r [] = r
in_order r (c ∷ cs) = in_order (also_of r c.holds c.number) cs

-- b, unless a is a refusal
unfoldable pub or_else : Entry → Entry → Entry
or_else a b = cond (eqb a.number 0) b a
