-- `topology_combine::examine` meets its contract. Assumes nothing.
use Rattle.hybit_core.proofs.AnswerLaws.{told_refused, accepted_by}
use native.Mathlib.Omega.{arith}
use Rattle.topology.specs.Calls.{as_room}
use Rattle.topology_combine.proofs.CallLaws.{combine_pair, pair_few, combine_most, combine_counted}
use borrow.Author.Rules.{rules}
use Rattle.topology.specs.Matrix.{lent_topology}
use Rattle.topology_combine.proofs.examine.Goals as goal

pub returns-in_err-examine_pair : goal.returns-in_err-examine_pair
returns-in_err-examine_pair c = told_refused _ c.in_err-examine_pair.field-0.0 _ (search rules) (search (combine_pair, rules))

pub overflow_add-most : goal.overflow_add-most
overflow_add-most c = let h = pair_few c.args.operation (lent_topology c.args.topology) (lent_topology c.args.other) (as_room c.args.ptr_room c.args.word_room c.args.mask_room) _ c.examine_pair.ensures c.in_ok-examine_pair.was in omega arith

pub returns-in-Ok : goal.returns-in-Ok
returns-in-Ok c = combine_most c.args.operation (lent_topology c.args.topology) (lent_topology c.args.other) (as_room c.args.ptr_room c.args.word_room c.args.mask_room) _ c.examine_pair.ensures c.in_ok-examine_pair.was _ c.examine_room-w.ensures c.in-Ok.is

pub count_words-words-requires : goal.count_words-words-requires
count_words-words-requires c = accepted_by _ _ c.examine_pair.ensures c.in_ok-examine_pair.was

pub returns : goal.returns
returns c = combine_counted c.args.operation (lent_topology c.args.topology) (lent_topology c.args.other) (as_room c.args.ptr_room c.args.word_room c.args.mask_room) _ c.examine_pair.ensures c.in_ok-examine_pair.was c.examine_room.result _ c.count_words-words.ensures c.examine_room.ensures
