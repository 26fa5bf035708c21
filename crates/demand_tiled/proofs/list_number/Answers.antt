-- `demand_tiled::list_number` meets its contract. Assumes nothing.
use native.Mathlib.Omega.{arith}
use mathlib.Core.Path.{refl}
use lib.ListN.{length-take}
use Rattle.demand_tiled.proofs.NumberLaws.{row_past, product_short, apply_refused, apply_done}
use Rattle.demand_examine.proofs.StepLaws.{front_long}
use Rattle.demand_tiled.proofs.list_number.Goals as goal

pub returns-then-row-csr : goal.returns-then-row-csr
returns-then-row-csr c = let rest = row_past _ _ _ _ _ c.if-row-csr.true c.clear_from.ensures in record { answer = rest.0; list = rest.1 }

pub returns-then-product-csr : goal.returns-then-product-csr
returns-then-product-csr c = let rest = product_short _ _ _ _ c.if-row-csr.false _ c.if-product-csr.true c.clear_from-then-product-csr.ensures in record { answer = rest.0; list = rest.1 }

pub slice_bounds-apply-end : goal.slice_bounds-apply-end
slice_bounds-apply-end c = omega arith

pub slice_bounds-apply-end-2 : goal.slice_bounds-apply-end-2
slice_bounds-apply-end-2 c = simp length-take (omega arith)

pub returns-in-Err : goal.returns-in-Err
returns-in-Err c = let rest = apply_refused _ _ _ _ c.if-row-csr.false c.if-product-csr.false _ _ (simp length-take (omega arith)) c.apply-v.ensures.answer _ _ _ c.in-Err.is c.clear_from-in-Err.ensures (front_long _ c.apply-v.new.y c.args.product.now c.apply-v.auto.y c.if-product-csr.false) in record { answer = rest.0; list = rest.1 }

pub returns : goal.returns
returns c = let rest = apply_done _ _ _ _ c.if-row-csr.false c.if-product-csr.false _ _ (simp length-take (omega arith)) c.apply-v.ensures.answer c.in_default.is _ _ _ c.apply-v.ensures.target refl c.clear_from-2.ensures _ refl in record { answer = rest.0; list = rest.1 }
