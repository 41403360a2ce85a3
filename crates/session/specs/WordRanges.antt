-- The ranges of 13 that one word says, of the bytes b, in the order of 01-scope, 'Limits and refusals'. They are not
-- made from the field list: the list's own bounds, by which code and test go, are proved to be these (`in-range`).
-- What fields say of each other is in InRange.
use Rattle.std.specs.Prelude.{List, ℕ, ◌^◌, ◌≤◌, ◌<◌}
use Rattle.common.specs.Limits.{max_states}
use Rattle.session.specs.Names.{phase_word, n_word, maxsteps_word, mxordn_word, mxords_word, maxcor_word, msbp_word}
use Rattle.session.specs.Names.{mxncf_word, supplied_word, given_word, meth_word, nq_word, lmax_word, ialth_word}
use Rattle.session.specs.Names.{icount_word, table_word, nslp_word, nst_word, nfe_word, nje_word, nlu_word}
use Rattle.session.specs.Names.{rejected_word, total_word, count_word, kflag_word, due_word, jcur_word, setup_word}

pub record WordRanges (b : List ℕ) : Type 0 where
  -- settings as start accepts
  pub n : (1 ≤ n_word b) × (n_word b ≤ max_states)
  pub maxsteps : (1 ≤ maxsteps_word b) × (maxsteps_word b ≤ 1000000)
  pub mxordn : (1 ≤ mxordn_word b) × (mxordn_word b ≤ 1000000)
  pub mxords : (1 ≤ mxords_word b) × (mxords_word b ≤ 1000000)
  pub maxcor : (1 ≤ maxcor_word b) × (maxcor_word b ≤ 1000000)
  pub msbp : msbp_word b ≤ 1000000
  pub mxncf : mxncf_word b ≤ 1000000
  -- counts below 2^62
  pub nslp : nslp_word b < 2 ^ 62
  pub nst : nst_word b < 2 ^ 62
  pub nfe : nfe_word b < 2 ^ 62
  pub nje : nje_word b < 2 ^ 62
  pub nlu : nlu_word b < 2 ^ 62
  pub rejected : rejected_word b < 2 ^ 62
  pub total : total_word b < 2 ^ 62
  pub count : count_word b < 2 ^ 62
  -- flags among the values the Rust stores; the coefficients in force: none yet, or those of table 1
  pub supplied : supplied_word b ≤ 1
  pub given : given_word b ≤ 1
  pub due : due_word b ≤ 1
  pub jcur : jcur_word b ≤ 1
  pub setup : setup_word b ≤ 1
  pub table : table_word b ≤ 1
  -- family 1 or 2; order nq 1 to 12; lmax 2 to 13; ialth at least 1
  pub meth : (1 ≤ meth_word b) × (meth_word b ≤ 2)
  pub nq : (1 ≤ nq_word b) × (nq_word b ≤ 12)
  pub lmax : (2 ≤ lmax_word b) × (lmax_word b ≤ 13)
  pub ialth : (1 ≤ ialth_word b) × (ialth_word b < 2 ^ 64)
  -- icount 20 − 1,000,000 to 20, kept with 1,000,000 added; kflag 0 to −9, kept as the number of failures
  pub icount : (20 ≤ icount_word b) × (icount_word b ≤ 1000020)
  pub kflag : kflag_word b ≤ 9
  -- phase known
  pub phase : phase_word b ≤ 10
