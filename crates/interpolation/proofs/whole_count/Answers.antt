-- `whole_count` meets its contract: the first count that the float equals is the only one. Assumes nothing.
use Prim.Native.Nat.{ℕ, ◌+◌, ◌≤◌, ◌<◌}
use mathlib.Core.Bool.{true, false}
use mathlib.Core.Path.{◌≡◌, sym, ap, ◌∙◌}
use native.Mathlib.Omega.{arith}
use lib.Ieee as Ieee
use lib.Ieee.{Float}
use Rattle.std.specs.Prelude.{Option, Some, None, IsSomeAnd, MatchOption}
use Rattle.std.proofs.Common.{rules}
use Rattle.std.proofs.lemmas.Iterator.{first_from_Range}
use Rattle.numbers.specs.Float.{whole}
use Rattle.common.specs.Limits.{max_states}
use Rattle.interpolation.specs.Header.{whole_count_of}
use Rattle.interpolation.proofs.Counts.{is-count, not-count}
use Rattle.interpolation.proofs.whole_count.Goals as goal

abbrev Equals : Float → ℕ → Type 0
Equals x k = Ieee.eq x (whole k) ≡ true

abbrev Differs : Float → ℕ → Type 0
Differs x k = Ieee.eq x (whole k) ≡ false

-- o is what is found, r the same as a count
counted : {Q : ℕ → ℕ → Type 0} (x : Float) (limit : ℕ) (o r : Option ℕ) → limit ≤ max_states
    → MatchOption o ((k : ℕ) → 0 ≤ k → k < limit + 1 → Differs x k)
    (λ i. (0 ≤ i) × (i < limit + 1) × Equals x i × ((k : ℕ) → 0 ≤ k → k < i → Differs x k))
    → MatchOption o (r ≡ None) (λ i. IsSomeAnd r (Q i)) → ((i k : ℕ) → Q i k → k ≡ i) → r ≡ whole_count_of x limit
counted x limit None r h p q s = q ∙ sym (not-count x limit (λ k b. p k (omega arith) (omega arith)))
counted x limit (Some i) (Some k) h p q s =
    ap Some (s i k q) ∙ sym (is-count x limit i h (omega (arith, p.1)) p.2)
counted x limit (Some i) None h p q s = absurd q

pub returns : goal.returns
returns c =
    let x = c.args.x in
    let first =
    first_from_Range _ _ _ c.find.result (Equals x) (Differs x) c.find.ensures.ran
    (λ k q h. search rules) (λ k q h. search rules)
    in
    counted x c.args.limit c.find.result c.map.result c.requires first c.map.ensures.cases
    (λ i k h. search rules)
