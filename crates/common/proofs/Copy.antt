-- A loop that copies a list number by number: a turn, and the end. Assumes nothing.
use mathlib.Core.Path.{◌≡◌, refl, sym, ◌∙◌}
use mathlib.Core.List.{List}
use Prim.Native.Nat.{ℕ, ◌+◌, ◌≤◌, ◌<◌}
use native.Mathlib.Numerals.{add-one}
use lib.Ieee.{Float, nan}
use lib.ListN.{length, take, set, get_or}
use lib.Seq.{take-suc, take-suc-set, take_all}

pub copied : (i : ℕ) (to from : List Float) (x : Float) → i < length to → i < length from → take i to ≡ take i from
    → x ≡ get_or from i nan → take (i + 1) (set to i x) ≡ take (i + 1) from
copied i to from x h k e same = rw (add-one, take-suc-set to i x h, take-suc from i nan k, e, same)

pub copied-all : (i : ℕ) (to from : List Float) → length to ≤ i → length from ≤ i → take i to ≡ take i from
    → to ≡ from
copied-all i to from h k e = sym (take_all i to h) ∙ e ∙ take_all i from k

-- for an attribute
pub ruleset copy_turns = (copied, copied-all)
