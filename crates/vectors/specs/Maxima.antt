-- Four at a time: how the code of `vmnorm` and of `fnorm_dense` goes through entries and rows.
-- What they answer is in Norm, and that both come to the same in proofs/Maxima.antt. Speed is not spoken of.
use Rattle.std.specs.Prelude.{List, ℕ, ◌+◌, Float}
use Rattle.numbers.specs.Order.{max_of}
use Rattle.vectors.specs.declared.Four.{Four}
use Rattle.vectors.specs.Norm.{norm_turn, row_at, row_of, fnorm_turn}

-- the entries i to i + 3, each to its maximum
abbrev pub four_at : List Float → List Float → ℕ → Four → Four
four_at v w i m = record {
  a = norm_turn v w i m.a;
  b = norm_turn v w (i + 1) m.b;
  c = norm_turn v w (i + 2) m.c;
  d = norm_turn v w (i + 3) m.d;
}

-- the largest of the four
abbrev pub top_of : Four → Float
top_of m = max_of (max_of m.a m.b) (max_of m.c m.d)

-- the sums of the rows i to i + 3 with entry j more, and whole
abbrev pub row_sums_at : ℕ → List Float → List Float → ℕ → ℕ → Four → Four
row_sums_at n a w i j s = record {
  a = row_at n a w i j s.a;
  b = row_at n a w (i + 1) j s.b;
  c = row_at n a w (i + 2) j s.c;
  d = row_at n a w (i + 3) j s.d;
}

abbrev pub row_sums_of : ℕ → List Float → List Float → ℕ → Four
row_sums_of n a w i =
    record { a = row_of n a w i; b = row_of n a w (i + 1); c = row_of n a w (i + 2); d = row_of n a w (i + 3) }

-- the matrix norm with the rows i to i + 3 more
abbrev pub four_rows_at : ℕ → List Float → List Float → ℕ → Float → Float
four_rows_at n a w i an =
    fnorm_turn n a w (i + 3) (fnorm_turn n a w (i + 2) (fnorm_turn n a w (i + 1) (fnorm_turn n a w i an)))
