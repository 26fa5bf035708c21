-- `csr32_apply::apply` meets its contract. Assumes nothing.
use Rattle.hybit_core.proofs.AnswerLaws.{accepted_by, answer_accepted}
use Rattle.lent.proofs.LentLaws.{kept_accepted}
use Rattle.csr32.proofs.CsrLaws.{apply_accepted}
use Rattle.csr32_apply.proofs.apply.Goals as goal

pub invariant_of-fill_product : goal.invariant_of-fill_product
invariant_of-fill_product c = let rest = apply_accepted _ _ _ (accepted_by _ _ c.examine_apply.ensures c.in_ok-examine_apply.was) in record { valid = rest.0; columns = rest.1.0 }

pub fill_product-requires : goal.fill_product-requires
fill_product-requires c = (apply_accepted _ _ _ (accepted_by _ _ c.examine_apply.ensures c.in_ok-examine_apply.was)).1.1

pub returns : goal.returns
returns c = let e = c.examine_apply.ensures in
    let t = c.in_ok-examine_apply.was in
    record { answer = answer_accepted _ _ e t; target = kept_accepted _ _ _ _ _ e t c.fill_product.ensures }
