-- A record that is taken is in the ranges of a step. Assumes nothing.
use Rattle.probe.proofs.Usable.{step-in-range}
use Rattle.probe.proofs.steps.probe_correct_columns.Goals as goal

pub correct_columns-requires-clause-step_in_range : goal.correct_columns-requires-clause-step_in_range
correct_columns-requires-clause-step_in_range c =
    step-in-range _ _ _ _ c.is_usable.ensures c.if-is_usable.true _ c.settings.ensures _ c.common.ensures
