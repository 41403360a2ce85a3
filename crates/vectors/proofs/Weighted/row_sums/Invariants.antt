-- `row_sums` meets its contract. The invariant: of each row, the columns that are left give the whole sum.
-- Assumes nothing.
use Prim.Native.Nat.{◌+◌}
use mathlib.Core.Path.{◌≡◌}
use Rattle.loops.specs.For.{for}
use Rattle.vectors.specs.Norm.{row_at, row_of}
use Rattle.vectors.proofs.Weighted.row_sums.Given as goal

abbrev pub invariant-loop-j : goal.invariant-loop-j
invariant-loop-j l =
    let m = l.self in
    (for l.j m.n (row_at m.n m.a.now m.w.now l.i) l.s.a ≡ row_of m.n m.a.now m.w.now l.i)
    × (for l.j m.n (row_at m.n m.a.now m.w.now (l.i + 1)) l.s.b ≡ row_of m.n m.a.now m.w.now (l.i + 1))
    × (for l.j m.n (row_at m.n m.a.now m.w.now (l.i + 2)) l.s.c ≡ row_of m.n m.a.now m.w.now (l.i + 2))
    × (for l.j m.n (row_at m.n m.a.now m.w.now (l.i + 3)) l.s.d ≡ row_of m.n m.a.now m.w.now (l.i + 3))
