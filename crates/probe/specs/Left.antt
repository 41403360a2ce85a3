-- The functions on the history, the record and the snapshot at every argument: what they leave where their requires is
-- met, and otherwise the number 2 and everything as it was.
use Rattle.std.specs.Prelude.{Bool, cond, ◌&&◌, List, [], ℕ, ◌+◌, leb, length, Float}
use Rattle.common.specs.declared.Settings.{Settings}
use Rattle.common.specs.declared.Common.{Common}
use Rattle.common.specs.Rules.{first_call_init_of, reset_of}
use Rattle.common.specs.Limits.{max_states}
use Rattle.common.specs.Layout.{matrix_at, question_length}
use Rattle.history.specs.Columns.{predict_columns_of, retract_columns_of, rescale_columns_of, correct_columns_of}
use Rattle.history.specs.Steps.{limited_of, adjust_of, predicted_of, predicted_work_of}
use Rattle.interpolation.specs.Snapshot.{snapshot_of}
use Rattle.probe.specs.Lent.{lent_settings, lent_common, written_floats, written_counts, are_columns, is_usable}

-- the number returned, and the numbers lent
pub record Columns : Type 0 where
  pub number : ℕ
  pub yh : List Float

abbrev pub columns_left : Bool → List Float → List Float → Columns
columns_left taken after yh = cond taken (record { number = 0; yh = after }) (record { number = 2; yh = yh })

unfoldable pub predict_left : ℕ → ℕ → ℕ → List Float → Columns
predict_left n nq nqnyh yh = columns_left (are_columns n nq nqnyh (length yh)) (predict_columns_of n nq nqnyh yh) yh

unfoldable pub retract_left : ℕ → ℕ → ℕ → List Float → Columns
retract_left n nq nqnyh yh = columns_left (are_columns n nq nqnyh (length yh)) (retract_columns_of n nq nqnyh yh) yh

unfoldable pub correct_left : List Float → List ℕ → List Float → Columns
correct_left fs cs work =
    columns_left (is_usable fs cs (length work)) (correct_columns_of (lent_settings fs cs) (lent_common fs cs) work)
    work

unfoldable pub snapshot_left : List Float → List ℕ → List Float → List Float → Columns
snapshot_left fs cs work question =
    columns_left (is_usable fs cs (length work) && leb (question_length (lent_settings fs cs).n) (length question))
    (snapshot_of (lent_settings fs cs) (lent_common fs cs) work question)
    question

-- the number returned, the record and the work
pub record RecordLeft : Type 0 where
  pub number : ℕ
  pub floats : List Float
  pub counts : List ℕ
  pub work : List Float

-- where it is taken, the record c with that work, and otherwise what was lent
abbrev pub record_left : Bool → Common → List Float → List Float → List ℕ → List Float → RecordLeft
record_left taken c after fs cs work =
    cond taken
    (record { number = 0; floats = written_floats c fs; counts = written_counts c cs; work = after })
    (record { number = 2; floats = fs; counts = cs; work = work })

unfoldable pub adjust_left : List Float → List ℕ → Float → List Float → RecordLeft
adjust_left fs cs rh work =
    let s = lent_settings fs cs in
    let c = lent_common fs cs in
    record_left (is_usable fs cs (length work)) (adjust_of c rh)
    (rescale_columns_of s.n (c.nq + 1) (limited_of c rh) work)
    fs cs work

unfoldable pub predicted_left : List Float → List ℕ → List Float → RecordLeft
predicted_left fs cs work =
    let s = lent_settings fs cs in
    let c = lent_common fs cs in
    record_left (is_usable fs cs (length work)) (predicted_of s c) (predicted_work_of s c work) fs cs work

-- these two need no work; the test is told of as much as the largest number of states has
abbrev pub without_work : (Settings → Common → Common) → List Float → List ℕ → RecordLeft
without_work f fs cs =
    record_left (is_usable fs cs (matrix_at max_states)) (f (lent_settings fs cs) (lent_common fs cs)) [] fs cs []

unfoldable pub init_left : List Float → List ℕ → RecordLeft
init_left fs cs = without_work first_call_init_of fs cs

unfoldable pub reset_left : List Float → List ℕ → RecordLeft
reset_left fs cs = without_work reset_of fs cs
