-- `not_negative` meets its contract: all of a range. Assumes nothing.
use mathlib.Core.Path.{refl}
use Rattle.std.proofs.Common.{rules, tests}
use Rattle.std.proofs.lemmas.Iterator.{YieldsList-from_range}
use Rattle.session.specs.Session.{every, not_negative_at, not_negative}
use Rattle.session.proofs.Every.{all_range}
use Rattle.session.proofs.ranges.not_negative.Goals as goal

pub returns : goal.returns
unfolding not_negative every
returns c =
    let a = c.args in
    all_range (not_negative_at a.bytes.now a.at) _ _ _ _ 0 a.k c.all.ensures.ran
    (YieldsList-from_range 0 a.k _ refl refl) (λ x b q k. search (rules, tests))
