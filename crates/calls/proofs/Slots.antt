-- The slots of a tolerance list that a start put: the list, then 0.
--     slots-put
-- Assumes nothing.
use mathlib.Core.List.{List, [], ◌∷◌, ◌++◌}
use mathlib.Core.Path.{◌≡◌, refl, sym, ap, ◌∙◌}
use Prim.Native.Nat.{ℕ, zero, suc, ◌+◌, ◌-◌, ◌≤◌, ◌<◌}
use native.Mathlib.Omega.{arith}
use lib.Ieee.{Float, nan, binary64, of_bits}
use lib.ListN.{length, get_or, replicate, length-append, length-replicate, get_or-replicate}
use lib.Seq.{ext_get_or}
use Rattle.common.specs.Limits.{max_states}
use Rattle.numbers.specs.Float.{zero_f}
use Rattle.words.specs.Words.{word, floats_in, slot_of}
use Rattle.words.proofs.Rows.{length-floats, floats_at}
use Rattle.session.proofs.Fits.{ListFits}
use Rattle.session.proofs.Back.{slot-fits, slot-back}
use Rattle.calls.specs.Follow.{slots_of}

padded : (list : List Float) (k i : ℕ) → i < length list + k
    → get_or (list ++ replicate k zero_f) i nan ≡ get_or list i zero_f
padded [] k i h = get_or-replicate k i zero_f nan (omega arith)
padded (x ∷ list) k zero h = refl
padded (x ∷ list) k (suc i) h = padded list k i (omega arith)

pub slots-put : (bytes : List ℕ) (at : ℕ) (list : List Float) → length list ≤ max_states → ListFits list
    → ((i : ℕ) → i < max_states → word bytes (at + i) ≡ slot_of list i) → floats_in bytes at max_states ≡ slots_of list
slots-put bytes at list h f put =
    let k = max_states - length list in
    let long = length-floats bytes at max_states in
    let whole = length-append list (replicate k zero_f) in
    let rest = length-replicate k zero_f in
    ext_get_or nan (floats_in bytes at max_states) (slots_of list) (omega (arith, long, whole, rest))
    (λ i l.
    let m : i < max_states = omega (arith, long) in
    floats_at bytes at max_states i nan m ∙ ap (of_bits binary64) (put i m) ∙ slot-back list i (slot-fits list f i)
    ∙ sym (padded list k i (omega arith)))
