-- `csr32_apply::three_rows` meets its contract. Assumes nothing.
use borrow.Author.Rules.{rules}
use Rattle.csr32.proofs.CsrLaws.{valid, row_of}
use Rattle.csr32.proofs.SumLaws.{places_of, row_sum}
use Rattle.csr32_apply.proofs.three_rows.Goals as goal

pub pointer-pa-requires : goal.pointer-pa-requires
pointer-pa-requires c = let i = row_of (valid _ c.args.operands.valid) c.requires.0 in search rules

pub pointer-ea-requires : goal.pointer-ea-requires
pointer-ea-requires c = let i = row_of (valid _ c.args.operands.valid) c.requires.0 in search rules

pub pointer-pb-requires : goal.pointer-pb-requires
pointer-pb-requires c = let i = row_of (valid _ c.args.operands.valid) c.requires.1 in search rules

pub pointer-eb-requires : goal.pointer-eb-requires
pointer-eb-requires c = let i = row_of (valid _ c.args.operands.valid) c.requires.1 in search rules

pub pointer-pc-requires : goal.pointer-pc-requires
pointer-pc-requires c = let i = row_of (valid _ c.args.operands.valid) c.requires.2 in search rules

pub pointer-ec-requires : goal.pointer-ec-requires
pointer-ec-requires c = let i = row_of (valid _ c.args.operands.valid) c.requires.2 in search rules

pub sum_three-requires : goal.sum_three-requires
sum_three-requires c = let v = valid _ c.args.operands.valid in
    record { first = places_of v _ _ _ c.requires.0 c.pointer-pa.ensures c.pointer-ea.ensures; second = places_of v _ _ _ c.requires.1 c.pointer-pb.ensures c.pointer-eb.ensures; third = places_of v _ _ _ c.requires.2 c.pointer-pc.ensures c.pointer-ec.ensures }

pub returns : goal.returns
returns c = (
  row_sum _ _ _ _ _ _ c.pointer-pa.ensures c.pointer-ea.ensures c.sum_three.ensures.0,
  row_sum _ _ _ _ _ _ c.pointer-pb.ensures c.pointer-eb.ensures c.sum_three.ensures.1,
  row_sum _ _ _ _ _ _ c.pointer-pc.ensures c.pointer-ec.ensures c.sum_three.ensures.2,
)
