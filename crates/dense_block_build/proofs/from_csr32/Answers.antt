-- `dense_block_build::from_csr32` meets its contract. Assumes nothing.
use Rattle.dense_block_build.proofs.BuildLaws.{padded-at, checked, columns_refused, values_short, fill_asks, blocks_built}
use lib.ListN.{length}
use Rattle.dense_block_build.proofs.from_csr32.Goals as goal

pub returns-then-out_values-width : goal.returns-then-out_values-width
returns-then-out_values-width c = let rest = values_short _ c.args.size _ _ _ _ c.from_csr32-found.ensures.answer _ c.in-Ok.is _ c.width-width.ensures _ _ _ c.if-out_values-width.true (padded-at _ _ _ _ _ c.from_csr32-found.auto.out_row_ptr c.clear_all.ensures.pointers) (padded-at _ _ _ _ _ c.from_csr32-found.auto.out_col_idx c.clear_all.ensures.columns) c.clear_all.ensures.values in record { answer = rest.0; pointers = rest.1.0; columns = rest.1.1.0; values = rest.1.1.1 }

pub invariant_of-source : goal.invariant_of-source
invariant_of-source c = record { valid = checked _ c.args.size _ _ (length c.args.out_values.now) _ c.from_csr32-found.ensures.answer _ c.in-Ok.is }

pub fill-requires : goal.fill-requires
fill-requires c = let rest = fill_asks _ c.args.size _ _ _ _ c.from_csr32-found.ensures.answer _ c.in-Ok.is _ c.width-width.ensures c.if-out_values-width.false _ _ c.from_csr32-found.auto.out_row_ptr c.from_csr32-found.auto.out_col_idx c.from_csr32-found.ensures.pointers c.from_csr32-found.ensures.columns in record { count = rest.0; pointers = rest.1.0; columns = rest.1.1.0; room = rest.1.1.1 }

pub returns-in-Err : goal.returns-in-Err
returns-in-Err c = let rest = columns_refused _ c.args.size _ _ _ _ c.from_csr32-found.ensures.answer _ _ _ _ c.in-Err.is c.from_csr32-found.ensures.pointers c.from_csr32-found.ensures.columns c.clear_from.ensures in record { answer = rest.0; pointers = rest.1.0; columns = rest.1.1.0; values = rest.1.1.1 }

pub returns-else-out_values-width : goal.returns-else-out_values-width
returns-else-out_values-width c = let rest = blocks_built _ c.args.size _ _ _ _ c.from_csr32-found.ensures.answer _ c.in-Ok.is _ c.width-width.ensures c.if-out_values-width.false _ _ _ _ c.fill.ensures.figures c.from_csr32-found.ensures.pointers c.from_csr32-found.ensures.columns c.fill.ensures.values in record { answer = rest.0; pointers = rest.1.0; columns = rest.1.1.0; values = rest.1.1.1 }
