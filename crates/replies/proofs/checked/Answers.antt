-- `checked` meets its contract: each return by the tests on its way. Assumes nothing.
use borrow.Author.Rules.{rules}
use Rattle.refusals.specs.Refusal.{also_of, or_else}
use Rattle.replies.specs.Replies.{lengths_refusal, stored_refusal, reply_refusal_of}
use Rattle.replies.proofs.checked.Goals as goal

pub returns-then-not-are_lent-clause-refused : goal.returns-then-not-are_lent-clause-refused
unfolding reply_refusal_of lengths_refusal stored_refusal also_of or_else
returns-then-not-are_lent-clause-refused c = search rules

pub returns-then-is_finished-clause-refused : goal.returns-then-is_finished-clause-refused
unfolding reply_refusal_of lengths_refusal stored_refusal also_of or_else
returns-then-is_finished-clause-refused c = search rules

pub returns-then-not-in_range-clause-refused : goal.returns-then-not-in_range-clause-refused
unfolding reply_refusal_of lengths_refusal stored_refusal also_of or_else
returns-then-not-in_range-clause-refused c = search rules

pub returns-clause-refused : goal.returns-clause-refused
unfolding reply_refusal_of lengths_refusal stored_refusal also_of or_else
returns-clause-refused c = search rules
