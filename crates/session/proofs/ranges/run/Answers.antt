-- `run` meets its contract: all of a range. Assumes nothing.
use mathlib.Core.Path.{◌≡◌, refl}
use Prim.Native.Nat.{ℕ}
use lib.ListN.{get_or, get_or-map}
use Rattle.std.proofs.Common.{rules, tests}
use Rattle.std.proofs.lemmas.Iterator.{YieldsList-from_range}
use Rattle.session.specs.declared.fields.Range.{Range}
use Rattle.session.specs.Fields.{lowest, highest}
use Rattle.session.specs.Session.{word_in_range}
use Rattle.session.proofs.Every.{all_range}
use Rattle.session.proofs.ranges.run.Goals as goal

pub returns : goal.returns
returns c =
    let a = c.args in
    let z : Range = record { low = 0; high = 0 } in
    let low : (x : ℕ) → get_or lowest x 0 ≡ (get_or a.r.now x z).low =
    λ x. rw c.requires.0 at (get_or-map (λ r. r.low) a.r.now x z)
    in
    let high : (x : ℕ) → get_or highest x 0 ≡ (get_or a.r.now x z).high =
    λ x. rw c.requires.1 at (get_or-map (λ r. r.high) a.r.now x z)
    in
    all_range (word_in_range a.u.now) _ _ _ _ a.a a.e c.all.ensures.ran (YieldsList-from_range a.a a.e _ refl refl)
    (λ x b q k. rw (low x, high x) (search (rules, tests)))
