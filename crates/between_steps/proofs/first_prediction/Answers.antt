-- `first_prediction` predicts within range: what prepares a step keeps the places. Assumes nothing.
use mathlib.Core.Path.{refl}
use Rattle.history.proofs.Laws.{same-range}
use Rattle.between_steps.proofs.Inside.{prepared-range}
use Rattle.between_steps.proofs.first_prediction.Goals as goal

pub stoda_get_predicted_values-e-requires-clause-step_in_range :
    goal.stoda_get_predicted_values-e-requires-clause-step_in_range
stoda_get_predicted_values-e-requires-clause-step_in_range c =
    let q = rw (← c.prepare-prepared.ensures) at (prepared-range c.requires.inside c.args.work.now) in
    same-range _ refl refl refl refl q
