-- The limits in force: a start keeps the settings as they were given, and some act as another number.
-- Which numbers a start accepts is not said here (crate refusals).
use Rattle.std.specs.Prelude.{ℕ, min, max}
use Rattle.common.specs.declared.MethodFamily.{MethodFamily}
use Rattle.common.specs.declared.MethodFamily.TheVariants.{Adams, Bdf}
use Rattle.common.specs.declared.Settings.{Settings}

-- the largest number of states
abbrev pub max_states : ℕ
max_states = 64

abbrev pub mxordn_of : Settings → ℕ
mxordn_of s = min s.mxordn 12

abbrev pub mxords_of : Settings → ℕ
mxords_of s = min s.mxords 5

abbrev pub msbp_of : Settings → ℕ
msbp_of s = max s.msbp 1

abbrev pub mxncf_of : Settings → ℕ
mxncf_of s = max s.mxncf 1

-- the largest order of a family
abbrev pub maxord_of : Settings → MethodFamily → ℕ
maxord_of s Adams = mxordn_of s
maxord_of s Bdf = mxords_of s
