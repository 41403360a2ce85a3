-- A step's first prediction keeps the count of derivatives and the length of the work; so does what the start and a
-- reply write into the work.
-- Assumes nothing.
use mathlib.Core.Path.{◌≡◌, refl, ◌∙◌}
use mathlib.Core.Bool.{Bool, true, false}
use mathlib.Core.List.{List}
use Prim.Native.Nat.{ℕ, ◌+◌, ◌≤◌}
use native.Mathlib.Omega.{arith}
use lib.Ieee.{Float}
use lib.ListN.{length}
use Rattle.loops.proofs.Part.{length_part, length-put_part}
use Rattle.vectors.specs.Weights.{invert_of}
use Rattle.vectors.proofs.Laws.{length-invert}
use Rattle.common.specs.declared.Settings.{Settings}
use Rattle.common.specs.declared.Common.{Common}
use Rattle.common.specs.Layout.{ewt_at, y_at, matrix_at, ewt}
use Rattle.common.specs.Rules.{reset_of, first_call_init_of}
use Rattle.history.specs.Parts.{stored_of}
use Rattle.history.specs.Steps.{adjust_of, predicted_of}
use Rattle.history.proofs.Laws.{length-rescale, length-predict}
use Rattle.between_steps.specs.Begin.{is_cut, cut_of, setup_of, prepared_at, prepared_of, predicted_at}
use Rattle.between_steps.specs.Begin.{first_prediction_of}
use Rattle.between_steps.specs.Start.{inverted, taken_of}

module _ (s : Settings) (c : Common) (work : List Float) where
  prepared-at : (cut due : Bool) → ((prepared_at s cut due c work).common.nfe ≡ c.nfe)
      × (length (prepared_at s cut due c work).work ≡ length work)
  unfolding prepared_at cut_of adjust_of setup_of reset_of first_call_init_of
  prepared-at true due = (refl, length-rescale s.n _ _ work)
  prepared-at false true = (refl, refl)
  prepared-at false false = (refl, refl)

  -- no derivative of the step yet
  pub first-counts : ((first_prediction_of s c work).common.nfe ≡ c.nfe)
      × ((first_prediction_of s c work).common.count ≡ 0)
  unfolding first_prediction_of predicted_at predicted_of prepared_of
  first-counts = ((prepared-at (is_cut s c) c.setup).0, refl)

  pub length-first : length (first_prediction_of s c work).work ≡ length work
  unfolding first_prediction_of predicted_at prepared_of
  length-first = length-predict s.n _ _ _ ∙ (prepared-at (is_cut s c) c.setup).1

pub length-stored : (at : ℕ) (f work : List Float) → at + length f ≤ length work
    → length (stored_of at f work) ≡ length work
length-stored at f work room = length-put_part at (length f) work room f refl

module _ (n : ℕ) (work : List Float) (room : matrix_at n ≤ length work) where
  pub length_taken : (y : List Float) → length y ≡ n → length (taken_of n y work) ≡ length work
  length_taken y l =
      let e = length-stored (y_at n) y work (omega arith) in
      length-stored 0 y _ (omega (arith, e)) ∙ e

  pub length-inverted : length (inverted n work) ≡ length work
  length-inverted =
      let fits : ewt_at n + n ≤ length work = omega arith in
      let same = length-invert (ewt n work) ∙ length_part (ewt_at n) n work fits in
      length-put_part (ewt_at n) n work fits (invert_of (ewt n work)).ewt same
