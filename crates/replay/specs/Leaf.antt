-- A stored call of a leaf, made again: what it answers and leaves, and whether that is what is stored.
-- Where b holds several lists, they stand one behind the other. Of calls that are not stored it says nothing.
use Rattle.std.specs.Prelude.{Bool, not, cond, ◌&&◌, List, ℕ, ◌+◌, ◌-◌, ◌*◌, ◌/◌, eqb, leb, ltb, length, get_or}
use Rattle.std.specs.Prelude.{nat_eq, set, take, drop, replicate, count_by, Float}
use Rattle.std.specs.List.{list_all, enumerate_from, range_with_len}
use Rattle.std.specs.Float.Ieee as Ieee
use Rattle.std.specs.Float.{binary64}
use Rattle.loops.specs.For.{for}
use Rattle.numbers.specs.Float.{zero_f}
use Rattle.common.specs.Limits.{max_states}
use Rattle.vectors.specs.Weights.{invert_of, weights_outcome}
use Rattle.interpolation.specs.Evaluate.{interpolate_of}
use Rattle.probe.specs.Leaves as P
use Rattle.probe.specs.Leaves.{vmnorm_or_nan, fnorm_or_nan, ewset_left, ewset_like_left, index_of, initial_step_or_nan}
use Rattle.probe.specs.Leaves.{factor_left, solve_left}
use Rattle.probe.specs.Left as H
use Rattle.probe.specs.Left.{predict_left, retract_left, correct_left, adjust_left, predicted_left}
use Rattle.probe.specs.Left.{init_left, reset_left, snapshot_left}
use Rattle.replay.specs.declared.leaf.Call.{Call}

-- the answer, and what then stands in the lists that were lent
pub record LeafAfter : Type 0 where
  pub number : ℕ
  pub a : List Float
  pub b : List Float
  pub m : List ℕ

abbrev pub leaf_after : ℕ → List Float → List Float → List ℕ → LeafAfter
leaf_after number a b m = record { number = number; a = a; b = b; m = m }

abbrev pub bits : Float → ℕ
bits x = Ieee.to_bits binary64 x

-- what stands from one place up to another
abbrev pub between : ℕ → ℕ → List Float → List Float
between a e l = take (e - a) (drop a l)

-- f0, the weights, rtol and atol
unfoldable pub leaf_first_step : Float → Float → List Float → List Float → ℕ → ℕ → ℕ
leaf_first_step t tout y b n nrtol =
    cond (leb n max_states && (leb nrtol max_states && leb (2 * n + nrtol) (length b)))
    (bits (initial_step_or_nan t tout y (between 0 n b) (between n (2 * n) b) (between (2 * n) (2 * n + nrtol) b)
    (between (2 * n + nrtol) (length b) b)))
    2

-- rtol and atol
unfoldable pub leaf_weights : List Float → ℕ → ℕ → ℕ → List Float → P.WorkLeft
leaf_weights b nrtol n at a =
    cond (leb nrtol (length b)) (ewset_left (between 0 nrtol b) (between nrtol (length b) b) n at a) (P.work_left 2 a)

-- the record's floats and the work
unfoldable pub leaf_snapshot : List Float → List ℕ → List Float → H.Columns
leaf_snapshot b m a =
    cond (leb 11 (length b)) (snapshot_left (between 0 11 b) m (between 11 (length b) b) a)
    (record { number = 2; yh = a })

-- 0 vmnorm, 1 fnorm_dense, and any other initial_step_size
unfoldable pub leaf_norms : ℕ → ℕ → ℕ → Float → Float → List Float → List Float → ℕ
leaf_norms kind p q x y a b =
    cond (eqb kind 0) (bits (vmnorm_or_nan a b))
    (cond (eqb kind 1) (bits (fnorm_or_nan p a b)) (leaf_first_step x y a b p q))

-- 3 ewset, 4 ewset_scalar_like, 5 invert_weights, 6 dense_lu_factor, 7 dense_lu_solve, 8 predict_columns,
-- and any other retract_columns
unfoldable pub leaf_lists : ℕ → ℕ → ℕ → ℕ → List Float → List Float → List ℕ → LeafAfter
leaf_lists kind p q r a b m =
    cond (eqb kind 3) (leaf_after (leaf_weights b r p q a).number (leaf_weights b r p q a).work b m)
    (cond (eqb kind 4) (leaf_after (ewset_like_left p q a).number (ewset_like_left p q a).work b m)
    (cond (eqb kind 5) (leaf_after (index_of (length a) (weights_outcome (invert_of a))) (invert_of a).ewt b m)
    (cond (eqb kind 6) (leaf_after (factor_left p a m).number (factor_left p a m).a b (factor_left p a m).ipiv)
    (cond (eqb kind 7) (leaf_after (solve_left p q m r a).number (solve_left p q m r a).work b m)
    (cond (eqb kind 8) (leaf_after (predict_left p q r a).number (predict_left p q r a).yh b m)
    (leaf_after (retract_left p q r a).number (retract_left p q r a).yh b m))))))

abbrev pub leaf_record : H.RecordLeft → List Float → LeafAfter
leaf_record l a = leaf_after l.number a l.floats l.counts

-- 10 correct_columns, 11 stoda_adjust_step_size, 12 stoda_get_predicted_values, 13 stoda_first_call_init,
-- 14 stoda_reset, 15 snapshot_step, and any other interpolate
unfoldable pub leaf_records : ℕ → Float → List Float → List Float → List ℕ → LeafAfter
leaf_records kind x a b m =
    cond (eqb kind 10) (leaf_after (correct_left b m a).number (correct_left b m a).yh b m)
    (cond (eqb kind 11) (leaf_record (adjust_left b m x a) (adjust_left b m x a).work)
    (cond (eqb kind 12) (leaf_record (predicted_left b m a) (predicted_left b m a).work)
    (cond (eqb kind 13) (leaf_record (init_left b m) a)
    (cond (eqb kind 14) (leaf_record (reset_left b m) a)
    (cond (eqb kind 15) (leaf_after (leaf_snapshot b m a).number (leaf_snapshot b m a).yh b m)
    (leaf_after (interpolate_of x b a).number (interpolate_of x b a).output b m))))))

unfoldable pub leaf_of : Call → List Float → List Float → List ℕ → LeafAfter
leaf_of h a b m =
    cond (ltb h.kind 3) (leaf_after (leaf_norms h.kind h.p h.q h.x h.y a b) a b m)
    (cond (ltb h.kind 10) (leaf_lists h.kind h.p h.q h.r a b m) (leaf_records h.kind h.x a b m))

-- a list filled from the stored numbers, and whether its entries are the stored ones: floats by their patterns
abbrev pub stored_at : {A : Type 0} → (ℕ → A) → List ℕ → ℕ → ℕ → List A → List A
stored_at of stored at i list = set list i (of (get_or stored (at + i) 0))

unfoldable pub leaf_list : {A : Type 0} → (ℕ → A) → List ℕ → ℕ → List A → List A
leaf_list of stored at list = for 0 (length list) (stored_at of stored at) list

abbrev pub leaf_floats : List ℕ → ℕ → List Float → List Float
leaf_floats stored at list = leaf_list (Ieee.of_bits binary64) stored at list

abbrev pub leaf_counts : List ℕ → ℕ → List ℕ → List ℕ
leaf_counts stored at list = leaf_list (λ word. word) stored at list

unfoldable pub are_left : {A : Type 0} → (A → ℕ) → List A → List ℕ → ℕ → Bool
are_left word list stored at =
    list_all (λ p. nat_eq (word p.1) (get_or stored (at + p.0) 0)) (enumerate_from 0 list)

abbrev pub are_floats : List Float → List ℕ → ℕ → Bool
are_floats list stored at = are_left (Ieee.to_bits binary64) list stored at

abbrev pub are_counts : List ℕ → List ℕ → ℕ → Bool
are_counts list stored at = are_left (λ count. count) list stored at

-- the lists a, b and m are stored from `at` on, and what is left of them behind
unfoldable pub called_of : Call → List ℕ → List Float → List Float → List ℕ → LeafAfter
called_of h stored a b m =
    leaf_of h (leaf_floats stored h.at a) (leaf_floats stored (h.at + length a) b)
    (leaf_counts stored (h.at + length a + length b) m)

unfoldable pub is_left : Call → List ℕ → List Float → List Float → List ℕ → Bool
is_left h stored a b m =
    let at = h.at + length a + length b + length m in
    are_floats a stored at && (are_floats b stored (at + length a) && are_counts m stored (at + length a + length b))

unfoldable pub is_again : Call → List ℕ → List Float → List Float → List ℕ → Bool
is_again h stored a b m =
    let l = called_of h stored a b m in
    eqb l.number h.number && is_left h stored l.a l.b l.m

-- call i: its head is 11 numbers
unfoldable pub call_of : List ℕ → ℕ → Call
call_of heads i = record {
  kind = get_or heads (11 * i) 0;
  p = get_or heads (11 * i + 1) 0;
  q = get_or heads (11 * i + 2) 0;
  r = get_or heads (11 * i + 3) 0;
  x = Ieee.of_bits binary64 (get_or heads (11 * i + 4) 0);
  y = Ieee.of_bits binary64 (get_or heads (11 * i + 5) 0);
  at = get_or heads (11 * i + 6) 0;
  number = get_or heads (11 * i + 7) 0;
}

unfoldable pub length_of : List ℕ → ℕ → ℕ → ℕ
length_of heads k limit = cond (leb (get_or heads k 0) limit) (get_or heads k 0) limit

unfoldable pub is_same : List ℕ → List ℕ → ℕ → Bool
is_same heads stored i =
    leb (call_of heads i).at 900000
    && is_again (call_of heads i) stored
    (between 0 (length_of heads (11 * i + 8) 64) (replicate 64 zero_f))
    (between 0 (length_of heads (11 * i + 9) 80) (replicate 80 zero_f))
    (take (length_of heads (11 * i + 10) 16 - 0) (drop 0 (replicate 16 0)))

abbrev pub calls_differ : List ℕ → List ℕ → ℕ
calls_differ heads stored = count_by (λ i. not (is_same heads stored i)) (range_with_len 0 (length heads / 11))
