-- The counts of a session by the names of docs/SESSION.md: the number that stands in the bytes b, whatever it is.
-- icount is kept with 1,000,000 added, kflag as the number of error failures, a flag as 0 or 1.
-- Made by tools/record.py from the structs of crates/common/src/lib.rt.
use Rattle.std.specs.Prelude.{List, ℕ}
use Rattle.words.specs.Words.{word}

abbrev pub phase_word : List ℕ → ℕ
phase_word b = word b 0

abbrev pub n_word : List ℕ → ℕ
n_word b = word b 1

abbrev pub maxsteps_word : List ℕ → ℕ
maxsteps_word b = word b 2

abbrev pub mxordn_word : List ℕ → ℕ
mxordn_word b = word b 3

abbrev pub mxords_word : List ℕ → ℕ
mxords_word b = word b 4

abbrev pub maxcor_word : List ℕ → ℕ
maxcor_word b = word b 5

abbrev pub msbp_word : List ℕ → ℕ
msbp_word b = word b 6

abbrev pub mxncf_word : List ℕ → ℕ
mxncf_word b = word b 7

abbrev pub supplied_word : List ℕ → ℕ
supplied_word b = word b 8

abbrev pub given_word : List ℕ → ℕ
given_word b = word b 9

abbrev pub nrtol_word : List ℕ → ℕ
nrtol_word b = word b 10

abbrev pub natol_word : List ℕ → ℕ
natol_word b = word b 11

abbrev pub meth_word : List ℕ → ℕ
meth_word b = word b 12

abbrev pub nq_word : List ℕ → ℕ
nq_word b = word b 13

abbrev pub lmax_word : List ℕ → ℕ
lmax_word b = word b 14

abbrev pub nqnyh_word : List ℕ → ℕ
nqnyh_word b = word b 15

abbrev pub ialth_word : List ℕ → ℕ
ialth_word b = word b 16

abbrev pub icount_word : List ℕ → ℕ
icount_word b = word b 17

abbrev pub table_word : List ℕ → ℕ
table_word b = word b 18

abbrev pub nslp_word : List ℕ → ℕ
nslp_word b = word b 19

abbrev pub nst_word : List ℕ → ℕ
nst_word b = word b 20

abbrev pub nfe_word : List ℕ → ℕ
nfe_word b = word b 21

abbrev pub nje_word : List ℕ → ℕ
nje_word b = word b 22

abbrev pub nlu_word : List ℕ → ℕ
nlu_word b = word b 23

abbrev pub rejected_word : List ℕ → ℕ
rejected_word b = word b 24

abbrev pub total_word : List ℕ → ℕ
total_word b = word b 25

abbrev pub count_word : List ℕ → ℕ
count_word b = word b 26

abbrev pub kflag_word : List ℕ → ℕ
kflag_word b = word b 27

abbrev pub ncf_word : List ℕ → ℕ
ncf_word b = word b 28

abbrev pub m_word : List ℕ → ℕ
m_word b = word b 29

abbrev pub column_word : List ℕ → ℕ
column_word b = word b 30

abbrev pub due_word : List ℕ → ℕ
due_word b = word b 31

abbrev pub jcur_word : List ℕ → ℕ
jcur_word b = word b 32

abbrev pub setup_word : List ℕ → ℕ
setup_word b = word b 33
