-- `all` meets its contract: each turn counts a run, with one answer at least. Before the first the place is at 0.
-- Assumes nothing.
use Prim.Native.Nat.{◌*◌, ◌≤◌}
use mathlib.Core.Path.{◌≡◌}
use Rattle.replay_runs.proofs.all.Given as goal

abbrev pub invariant-loop : goal.invariant-loop
invariant-loop l =
    (l.place.words.now ≡ l.stored) × (l.place.at ≤ 1020000 * l.counter) × (l.place.at ≤ 1020000)
    × (l.found.answers ≤ l.place.at) × (l.found.differ ≤ l.found.answers)
    × (l.found.runs ≤ l.found.answers) × (l.found.runs ≡ l.counter)
