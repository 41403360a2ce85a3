-- Words of eight bytes, little-endian, in a list of bytes; word k stands at byte 8·k.
-- A word is a count or the pattern of a float: a NaN is written as 7ff8000000000000, and every pattern of a NaN is
-- read as one. Nothing is said of what a word stands for.
use Rattle.std.specs.Prelude.{List, ℕ, ◌+◌, ◌*◌, ◌/◌, ◌%◌, length, get_or, set, replicate, Float}
use Rattle.std.specs.Float.{binary64}
use Rattle.std.specs.Float.Ieee.{to_bits, of_bits}
use Rattle.loops.specs.For.{for}
use Rattle.numbers.specs.Float.{zero_f}

-- the number whose eight digits to the base 256 stand from `at` on, the lowest first
unfoldable pub word_at : List ℕ → ℕ → ℕ
word_at bytes at =
    get_or bytes at 0 + 256 * (get_or bytes (at + 1) 0 + 256 * (get_or bytes (at + 2) 0 + 256 * (get_or bytes (at + 3) 0
    + 256 * (get_or bytes (at + 4) 0 + 256 * (get_or bytes (at + 5) 0 + 256 * (get_or bytes (at + 6) 0
    + 256 * get_or bytes (at + 7) 0))))))

unfoldable pub put_word : List ℕ → ℕ → ℕ → List ℕ
put_word bytes at w =
    set (set (set (set (set (set (set (set bytes at (w % 256)) (at + 1) (w / 256 % 256)) (at + 2) (w / 65536 % 256))
    (at + 3) (w / 16777216 % 256)) (at + 4) (w / 4294967296 % 256)) (at + 5) (w / 1099511627776 % 256))
    (at + 6) (w / 281474976710656 % 256)) (at + 7) (w / 72057594037927936 % 256)

-- word k
abbrev pub word : List ℕ → ℕ → ℕ
word bytes k = word_at bytes (8 * k)

-- the float whose pattern is word k
abbrev pub float : List ℕ → ℕ → Float
float bytes k = of_bits binary64 (word bytes k)

-- ---- rows, from word `at` on

-- k words read to the first entries of a list, each as what it stands for
abbrev pub row_over : {A : Type 0} → (ℕ → A) → List ℕ → ℕ → ℕ → List A → List A
row_over read bytes at k list = for 0 k (λ i l. set l i (read (word bytes (at + i)))) list

-- k words put, 0 beyond their list's end
abbrev pub put_row_of : ℕ → ℕ → List ℕ → List ℕ → List ℕ
put_row_of at k words bytes = for 0 k (λ i b. put_word b (8 * (at + i)) (get_or words i 0)) bytes

-- ---- counts

-- k of them, to the first entries of a list
unfoldable pub counts_over : List ℕ → ℕ → ℕ → List ℕ → List ℕ
counts_over bytes at k list = row_over (λ w. w) bytes at k list

abbrev pub counts_in : List ℕ → ℕ → ℕ → List ℕ
counts_in bytes at k = counts_over bytes at k (replicate k 0)

abbrev pub put_count_at : ℕ → List ℕ → ℕ → List ℕ → List ℕ
put_count_at at list i bytes = put_word bytes (8 * (at + i)) (get_or list i 0)

unfoldable pub put_counts_of : ℕ → List ℕ → List ℕ → List ℕ
put_counts_of at list bytes = for 0 (length list) (put_count_at at list) bytes

-- ---- floats

-- k of them, to the first entries of a list
unfoldable pub floats_over : List ℕ → ℕ → ℕ → List Float → List Float
floats_over bytes at k list = row_over (of_bits binary64) bytes at k list

abbrev pub floats_in : List ℕ → ℕ → ℕ → List Float
floats_in bytes at k = floats_over bytes at k (replicate k zero_f)

-- entry i of a list, 0 beyond its end
abbrev pub slot_of : List Float → ℕ → ℕ
slot_of list i = to_bits binary64 (get_or list i zero_f)

abbrev pub put_float_at : ℕ → List Float → ℕ → List ℕ → List ℕ
put_float_at at list i bytes = put_word bytes (8 * (at + i)) (slot_of list i)

-- k words: the list, then 0
unfoldable pub put_floats_of : ℕ → ℕ → List Float → List ℕ → List ℕ
put_floats_of at k list bytes = for 0 k (put_float_at at list) bytes
