-- `run` meets its contract: each turn counts one answer, which has a word at least, and at most one that differs.
-- Assumes nothing.
use Prim.Native.Nat.{◌+◌, ◌≤◌}
use mathlib.Core.Path.{◌≡◌}
use Rattle.common.specs.Limits.{max_states}
use Rattle.replay_runs.proofs.run.Given as goal

abbrev pub invariant-loop : goal.invariant-loop
invariant-loop l =
    (l.n ≤ max_states) × (l.place.words.now ≡ l.initial.place.words.now) × (l.place.at ≤ 1010000)
    × (l.found.runs ≡ l.initial.found.runs) × (l.found.answers ≡ l.initial.found.answers + l.counter)
    × (l.initial.place.at + l.counter ≤ l.place.at) × (l.initial.found.differ ≤ l.found.differ)
    × (l.found.differ ≤ l.initial.found.differ + l.counter)
