-- What was written is what is read.
--     decode-encode                  the record, where each count and float can be kept (Fits)
--     rtol-kept, atol-kept           encoding leaves the tolerances
--     rtol-put, atol-put             the tolerance lists
--     decode-put                     writing tolerances leaves the record
--     n-encode, finished-encode      what a finished session is judged by
--     stored-n, finished-phase       n and phase as they are decoded
-- Assumes nothing.
use mathlib.Core.Path.{◌≡◌, sym, ◌∙◌, ap}
use mathlib.Core.List.{List}
use mathlib.Core.Logic.{inl, inr, ⊎_elim}
use Prim.Native.Nat.{ℕ, ◌+◌, ◌-◌, ◌≤◌, ◌<◌, ◌^◌}
use native.Mathlib.Omega.{arith}
use native.Mathlib.Nat.{eq-zero-or-pos}
use lib.Dec.{eqb, lit<}
use lib.ListN.{length, get_or, take, get_or-eq_default}
use lib.Seq.{ext_get_or, get_or-take, length-take-le}
use lib.Ieee.{Float, nan, binary64, of_bits}
use lib.Ieee.Bits.{of_bits-to_bits, to_bits-lt}
use Rattle.loops.specs.Part.{part}
use Rattle.numbers.specs.Float.{zero_f}
use Rattle.questions.specs.declared.Session.{Session}
use Rattle.words.specs.Words.{word, float, floats_in, slot_of, put_counts_of, put_floats_of}
use Rattle.session.specs.States.{phase_number}
use Rattle.session.specs.Fields.{session_of, counts_of, floats_of}
use Rattle.session.specs.Session.{encode_of, decode_of, put_tolerances_of, rtol_slots, atol_slots, stored_counts}
use Rattle.session.specs.Session.{stored_floats, stored_n, finished_in}
use Rattle.session.proofs.Fits.{Fit, Fits, ListFits}
use Rattle.common.specs.Limits.{max_states}
use Rattle.common.specs.SessionWords.{count_words, float_words, rtol_at, atol_at, session_length}
use Rattle.words.proofs.Rows.{same-default, length-put-counts, length-put-floats, length-counts, counts-at}
use Rattle.words.proofs.Rows.{length-floats, floats_at, put-counts-at, put-counts-other, put-floats-at}
use Rattle.words.proofs.Rows.{put-floats-other}
use Rattle.session.proofs.Listed.{counts-small, floats-fit, record-back, zero-fits}
use Rattle.session.proofs.StateNumbers.{phase-small}

-- ---- the record

pub length-encode : (x : Session) (b : List ℕ) → length (encode_of x b) ≡ length b
unfolding encode_of
length-encode x b =
    length-put-floats count_words float_words (floats_of x) (put_counts_of 0 (counts_of x) b)
    ∙ length-put-counts 0 (counts_of x) b

-- a slot that was put and read is the entry
pub slot-back : (list : List Float) (i : ℕ) → Fit (get_or list i zero_f)
    → of_bits binary64 (slot_of list i) ≡ get_or list i zero_f
slot-back list i f = of_bits-to_bits binary64 (get_or list i zero_f) f

slot_small : (list : List Float) (i : ℕ) → Fit (get_or list i zero_f) → slot_of list i < 2 ^ 64
slot_small list i f = to_bits-lt binary64 (get_or list i zero_f) f

module _ (x : Session) (b : List ℕ) (room : session_length ≤ length b) where
  -- the first words are the counts
  pub encoded-count : (k : ℕ) → k < count_words → get_or (counts_of x) k 0 < 2 ^ 64
      → word (encode_of x b) (0 + k) ≡ get_or (counts_of x) k 0
  unfolding encode_of
  encoded-count k h small =
      put-floats-other count_words float_words (floats_of x) (put_counts_of 0 (counts_of x) b) (0 + k)
      (inl (omega arith))
      ∙ put-counts-at 0 (counts_of x) b k h (omega arith) small

  -- words from the tolerances on stay
  pub encoded-other : (j : ℕ) → rtol_at ≤ j → word (encode_of x b) j ≡ word b j
  unfolding encode_of
  encoded-other j h =
      put-floats-other count_words float_words (floats_of x) (put_counts_of 0 (counts_of x) b) j (inr h)
      ∙ put-counts-other 0 (counts_of x) b j (inr (omega arith))

  encoded-float : (k : ℕ) → k < float_words → Fit (get_or (floats_of x) k zero_f)
      → float (encode_of x b) (count_words + k) ≡ get_or (floats_of x) k zero_f
  unfolding encode_of
  encoded-float k h f =
      ap (of_bits binary64)
      (put-floats-at count_words float_words (floats_of x) (put_counts_of 0 (counts_of x) b) k h
      (rw length-put-counts (omega arith))
      (slot_small (floats_of x) k f))
      ∙ slot-back (floats_of x) k f

  slots_kept : (at : ℕ) → rtol_at ≤ at → floats_in (encode_of x b) at max_states ≡ floats_in b at max_states
  slots_kept at h =
      ext_get_or nan (floats_in (encode_of x b) at max_states) (floats_in b at max_states)
      (length-floats (encode_of x b) at max_states ∙ sym (length-floats b at max_states))
      (λ i l.
      let m : i < max_states = omega (arith, length-floats (encode_of x b) at max_states) in
      floats_at (encode_of x b) at max_states i nan m ∙ ap (of_bits binary64) (encoded-other (at + i) (omega arith))
      ∙ sym (floats_at b at max_states i nan m))

  pub rtol-kept : rtol_slots (encode_of x b) ≡ rtol_slots b
  rtol-kept = slots_kept rtol_at (omega arith)

  pub atol-kept : atol_slots (encode_of x b) ≡ atol_slots b
  atol-kept = slots_kept atol_at (omega arith)

  module _ (fits : Fits x) where
    pub counts-back : stored_counts (encode_of x b) ≡ counts_of x
    counts-back =
        ext_get_or 0 (stored_counts (encode_of x b)) (counts_of x) (length-counts (encode_of x b) 0 count_words)
        (λ i l.
        let m : i < count_words = omega (arith, length-counts (encode_of x b) 0 count_words) in
        counts-at (encode_of x b) 0 count_words i 0 m ∙ encoded-count i m (counts-small x fits.counts i))

    pub floats-back : stored_floats (encode_of x b) ≡ floats_of x
    floats-back =
        let e = length-floats (encode_of x b) count_words float_words in
        ext_get_or nan (stored_floats (encode_of x b)) (floats_of x) e
        (λ i l.
        let m : i < float_words = omega (arith, e) in
        floats_at (encode_of x b) count_words float_words i nan m ∙ encoded-float i m (floats-fit x fits.floats i)
        ∙ same-default (floats_of x) i zero_f nan m)

    pub decode-encode : decode_of (encode_of x b) ≡ x
    unfolding decode_of
    decode-encode =
        ap (λ (u : List ℕ). session_of u (stored_floats (encode_of x b))) counts-back
        ∙ ap (λ (f : List Float). session_of (counts_of x) f) floats-back
        ∙ record-back x

-- ---- n and the phase

pub finished-encode : (x : Session) (b : List ℕ) → session_length ≤ length b
    → finished_in (encode_of x b) ≡ eqb (phase_number x.phase) 10
finished-encode x b room = rw (encoded-count x b room 0 (lit< tt) (phase-small x.phase))

pub stored-n : (b : List ℕ) → (decode_of b).settings.n ≡ stored_n b
unfolding decode_of
stored-n b = counts-at b 0 count_words 1 0 (lit< tt)

-- ---- the tolerances

pub slot-fits : (list : List Float) → ListFits list → (i : ℕ) → Fit (get_or list i zero_f)
slot-fits list f i =
    ⊎_elim
    (λ (z : length list - i ≡ 0). rw (get_or-eq_default list zero_f {n = i} (omega arith)) zero-fits)
    (λ (z : 0 < length list - i). rw (same-default list i zero_f nan (omega arith)) (f i (omega arith)))
    (eq-zero-or-pos (length list - i))

-- the first entries of slots that were put are the list
slots-back : (b : List ℕ) (at : ℕ) (list : List Float) → length list ≤ max_states → ListFits list
    → ((i : ℕ) → i < max_states → word b (at + i) ≡ slot_of list i)
    → part 0 (length list) (floats_in b at max_states) ≡ list
slots-back b at list h f put =
    let l = length-floats b at max_states in
    let m : length (take (length list) (floats_in b at max_states)) ≡ length list =
    length-take-le (length list) (floats_in b at max_states) (omega arith) in
    ext_get_or nan (take (length list) (floats_in b at max_states)) list m
    (λ i k.
    let o : i < length list = omega arith in
    get_or-take (length list) (floats_in b at max_states) i nan o ∙ floats_at b at max_states i nan (omega arith)
    ∙ ap (of_bits binary64) (put i (omega arith)) ∙ slot-back list i (slot-fits list f i)
    ∙ same-default list i zero_f nan o)

module _ (rtol atol : List Float) (b : List ℕ) where
  pub length-put-tolerances : length (put_tolerances_of rtol atol b) ≡ length b
  unfolding put_tolerances_of
  length-put-tolerances =
      length-put-floats atol_at max_states atol (put_floats_of rtol_at max_states rtol b)
      ∙ length-put-floats rtol_at max_states rtol b

  -- the record's words stay
  pub put_other : (j : ℕ) → j < rtol_at → word (put_tolerances_of rtol atol b) j ≡ word b j
  unfolding put_tolerances_of
  put_other j h =
      put-floats-other atol_at max_states atol (put_floats_of rtol_at max_states rtol b) j (inl (omega arith))
      ∙ put-floats-other rtol_at max_states rtol b j (inl h)

  pub counts-put : stored_counts (put_tolerances_of rtol atol b) ≡ stored_counts b
  counts-put =
      let t = put_tolerances_of rtol atol b in
      let e = length-counts t 0 count_words in
      ext_get_or 0 (stored_counts t) (stored_counts b) (e ∙ sym (length-counts b 0 count_words))
      (λ i l.
      let m : i < count_words = omega (arith, e) in
      counts-at t 0 count_words i 0 m ∙ put_other (0 + i) (omega arith) ∙ sym (counts-at b 0 count_words i 0 m))

  floats-put : stored_floats (put_tolerances_of rtol atol b) ≡ stored_floats b
  floats-put =
      let t = put_tolerances_of rtol atol b in
      let e = length-floats t count_words float_words in
      ext_get_or nan (stored_floats t) (stored_floats b) (e ∙ sym (length-floats b count_words float_words))
      (λ i l.
      let m : i < float_words = omega (arith, e) in
      floats_at t count_words float_words i nan m ∙ ap (of_bits binary64) (put_other (count_words + i) (omega arith))
      ∙ sym (floats_at b count_words float_words i nan m))

  pub decode-put : decode_of (put_tolerances_of rtol atol b) ≡ decode_of b
  unfolding decode_of
  decode-put =
      ap (λ (u : List ℕ). session_of u (stored_floats (put_tolerances_of rtol atol b))) counts-put
      ∙ ap (λ (f : List Float). session_of (stored_counts b) f) floats-put

  module _ (room : session_length ≤ length b) where
    pub rtol-slot : ListFits rtol → (i : ℕ) → i < max_states
        → word (put_tolerances_of rtol atol b) (rtol_at + i) ≡ slot_of rtol i
    unfolding put_tolerances_of
    rtol-slot f i h =
        put-floats-other atol_at max_states atol (put_floats_of rtol_at max_states rtol b) (rtol_at + i)
        (inl (omega arith))
        ∙ put-floats-at rtol_at max_states rtol b i h (omega arith) (slot_small rtol i (slot-fits rtol f i))

    pub atol-slot : ListFits atol → (i : ℕ) → i < max_states
        → word (put_tolerances_of rtol atol b) (atol_at + i) ≡ slot_of atol i
    unfolding put_tolerances_of
    atol-slot f i h =
        put-floats-at atol_at max_states atol (put_floats_of rtol_at max_states rtol b) i h
        (rw length-put-floats (omega arith)) (slot_small atol i (slot-fits atol f i))

    pub rtol-put : length rtol ≤ max_states → ListFits rtol
        → part 0 (length rtol) (rtol_slots (put_tolerances_of rtol atol b)) ≡ rtol
    rtol-put h f = slots-back (put_tolerances_of rtol atol b) rtol_at rtol h f (rtol-slot f)

    pub atol-put : length atol ≤ max_states → ListFits atol
        → part 0 (length atol) (atol_slots (put_tolerances_of rtol atol b)) ≡ atol
    atol-put h f = slots-back (put_tolerances_of rtol atol b) atol_at atol h f (atol-slot f)
