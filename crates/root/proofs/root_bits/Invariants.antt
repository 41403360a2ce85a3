-- `root_bits` meets its contract: the bits still to be tried, from the pattern so far, give the whole pattern.
-- No candidate lies past infinity's pattern (proofs/Room.antt).
use mathlib.Core.Path.{◌≡◌}
use Rattle.loops.specs.For.{for}
use Rattle.root.specs.Root.{bit_turn}
use Rattle.root.proofs.Room.{Room}
use Rattle.root.proofs.root_bits.Given as goal

abbrev pub invariant-loop : goal.invariant-loop
invariant-loop l =
    Room l.counter l.bits l.bit
    × (for l.counter 63 (bit_turn l.x l.k) (record { bits = l.bits; bit = l.bit })
    ≡ for 0 63 (bit_turn l.x l.k) (record { bits = 0; bit = 0x4000_0000_0000_0000 }))
