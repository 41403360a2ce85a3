-- `snapshot_step`: n, nq, t, h, hu, 2^-52, columns 0 to nq, written to the question from n on.
-- Of a question that is too short nothing is said: the caller has seen to its length.
use Rattle.std.specs.Prelude.{List, ℕ, ◌+◌, ◌*◌, get_or, set, Float}
use Rattle.std.specs.Float.{nan}
use Rattle.loops.specs.For.{for}
use Rattle.numbers.specs.Float.{whole, uround}
use Rattle.common.specs.declared.Settings.{Settings}
use Rattle.common.specs.declared.Common.{Common}
use Rattle.common.specs.Layout.{header_length}

unfoldable pub header_of : Settings → Common → ℕ → List Float → List Float
header_of s c at to =
    set (set (set (set (set (set to
    at (whole s.n))
    (at + 1) (whole c.nq))
    (at + 2) c.tn)
    (at + 3) c.h)
    (at + 4) c.hu)
    (at + 5) uround

abbrev pub snapshot_at : ℕ → List Float → ℕ → List Float → List Float
snapshot_at n work i question = set question (n + header_length + i) (get_or work i nan)

unfoldable pub snapshot_of : Settings → Common → List Float → List Float → List Float
snapshot_of s c work question = for 0 ((c.nq + 1) * s.n) (snapshot_at s.n work) (header_of s c s.n question)
