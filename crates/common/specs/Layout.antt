-- The lent slice `work`: the history of 13 columns, six vectors of n, then the matrix, `work_length n` numbers; and the
-- length of the question.
--     0 history   13n ewt   14n savf   15n ftem   16n acor   17n y   18n y_fd   19n matrix
-- `ewt_at` to `matrix_at` are where the parts begin (EWT to MATRIX in src/lib.rt), `ewt` to `matrix` what stands there.
-- The order of the parts is ours: of the Rust, which has a vector for each, nothing is claimed here.
use Rattle.std.specs.Prelude.{List, ℕ, ◌+◌, ◌*◌, Float}
use Rattle.loops.specs.Part.{part}

abbrev pub ewt_at : ℕ → ℕ
ewt_at n = 13 * n

abbrev pub savf_at : ℕ → ℕ
savf_at n = 14 * n

abbrev pub ftem_at : ℕ → ℕ
ftem_at n = 15 * n

abbrev pub acor_at : ℕ → ℕ
acor_at n = 16 * n

abbrev pub y_at : ℕ → ℕ
y_at n = 17 * n

abbrev pub yfd_at : ℕ → ℕ
yfd_at n = 18 * n

abbrev pub matrix_at : ℕ → ℕ
matrix_at n = 19 * n

abbrev pub work_length : ℕ → ℕ
work_length n = n * n + matrix_at n

-- the question: y, then the snapshot: its header and the columns
abbrev pub header_length : ℕ
header_length = 6

abbrev pub question_length : ℕ → ℕ
question_length n = 14 * n + header_length

-- column j of the history: the n numbers at j·n
abbrev pub column : ℕ → ℕ → List Float → List Float
column n j work = part (j * n) n work

-- the inverted error weights
abbrev pub ewt : ℕ → List Float → List Float
ewt n work = part (ewt_at n) n work

-- the last derivative
abbrev pub savf : ℕ → List Float → List Float
savf n work = part (savf_at n) n work

-- the sum of the corrections of this pass
abbrev pub acor : ℕ → List Float → List Float
acor n work = part (acor_at n) n work

-- the state that is asked for or reported
abbrev pub y : ℕ → List Float → List Float
y n work = part (y_at n) n work

-- the state of a difference column
abbrev pub yfd : ℕ → List Float → List Float
yfd n work = part (yfd_at n) n work

abbrev pub matrix : ℕ → List Float → List Float
matrix n work = part (matrix_at n) (n * n) work
