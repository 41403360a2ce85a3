-- `pivots_below` meets its contract: all by fours, then all that are left. Assumes nothing.
use Prim.Native.Nat.{◌*◌, ◌/◌}
use mathlib.Core.Path.{refl, sym, ◌∙◌}
use native.Mathlib.Omega.{arith}
use lib.ListN.{length}
use Rattle.std.proofs.Common.{rules, tests}
use Rattle.std.proofs.lemmas.Iterator.{YieldsList-from_range}
use Rattle.session.specs.Session.{pivot_below, pivots_below}
use Rattle.session.proofs.Every.{every_halves, all_range, four, all-fours}
use Rattle.session.proofs.ranges.pivots_below.Goals as goal

pub returns-then-all : goal.returns-then-all
unfolding pivots_below
returns-then-all c =
    let p = pivot_below c.args.ipiv.now c.args.n in
    let n = length c.args.ipiv.now in
    let fours =
    all_range (four p) _ _ _ _ 0 (n / 4) c.all.ensures.ran (YieldsList-from_range 0 (n / 4) _ refl refl)
    (λ x b q k. search (rules, tests)) ∙ all-fours p (n / 4)
    in
    rw (every_halves p (n / 4 * 4) n (omega arith), sym fours ∙ c.if-all.true)
    (all_range p _ _ _ _ (n / 4 * 4) n c.all-then-all.ensures.ran
    (YieldsList-from_range (n / 4 * 4) n _ refl refl) (λ x b q k. search (rules, tests)))

pub returns-else-all : goal.returns-else-all
unfolding pivots_below
returns-else-all c =
    let p = pivot_below c.args.ipiv.now c.args.n in
    let n = length c.args.ipiv.now in
    let fours =
    all_range (four p) _ _ _ _ 0 (n / 4) c.all.ensures.ran (YieldsList-from_range 0 (n / 4) _ refl refl)
    (λ x b q k. search (rules, tests)) ∙ all-fours p (n / 4)
    in
    rw (every_halves p (n / 4 * 4) n (omega arith), sym fours ∙ c.if-all.false) c.if-all.false
