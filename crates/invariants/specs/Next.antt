-- The session of an accepted start, and the session that the next reply finds: the settings stay.
-- That these are the bytes a host is given is not said here: see session and calls.
use Rattle.std.specs.Prelude.{Float}
use Rattle.common.specs.State.{Given}
use Rattle.questions.specs.declared.Session.{Session}
use Rattle.questions.specs.declared.Phase.TheVariants.{FirstDerivative}
use Rattle.questions.specs.Turns.{RunState}
use Rattle.common.specs.Initial.{initial_of}
use Rattle.refusals.specs.declared.Options.{Options}
use Rattle.refusals.specs.declared.Lengths.{Lengths}
use Rattle.refusals.specs.Start.{accepted_settings, given_step_of, smallest_of, inverse_largest_of}

abbrev pub started_session : Float → Float → Options → Lengths → Session
started_session x0 xend o l =
    let s = accepted_settings x0 xend o l in
    let c = initial_of s x0 (given_step_of o) (smallest_of o) (inverse_largest_of x0 xend o) in
    record { settings = s; common = c; phase = FirstDerivative }

-- what the next reply finds
abbrev pub session_found : Given → RunState → Session
session_found g l = record { settings = g.s; common = l.st.c; phase = l.phase }
