-- `dense_block_build::add_band` meets its contract. Assumes nothing.
use Rattle.dense_block_build.proofs.SizeLaws.{width_pos}
use Rattle.dense_block_build.proofs.BandLaws.{banding_none, banding_long, banding_more, banding_done, band-below, band_end, band-entries, band_asks, band-added}
use Rattle.dense_block_build.proofs.add_band.Goals as goal

pub loop-row-init : goal.loop-row-init
loop-row-init c = banding_none _ _ _ _ (width_pos c.args.size) _ c.requires.zeros

pub add_row-requires : goal.add_row-requires
add_row-requires c = rw c.row.ensures.ncols (let rest = band_asks _ c.args.size c.args.band c.args.csr.valid _ _ c.width-width.ensures (band-below _ c.args.size c.args.band c.args.csr.valid _ _ _ c.width-width.ensures c.min-rows.ensures c.loop-row-test.true) _ _ c.row.ensures.cols c.row.ensures.vals _ c.requires.noted _ c.loop-row.out c.requires.ranks (banding_long _ _ _ _ _ _ _ c.loop-row.invariant) in
    record { inside = rest.0; noted = rest.1.0; ranks = rest.1.1.0; long = rest.1.1.1 })

pub loop-row-preserved : goal.loop-row-preserved
loop-row-preserved c = let x = (band-below _ c.args.size c.args.band c.args.csr.valid _ _ _ c.width-width.ensures c.min-rows.ensures c.loop-row-test.true) in
    banding_more _ _ _ _ _ _ _ c.loop-row.invariant _ _ x (band-entries _ c.args.size c.args.band c.args.csr.valid _ _ c.width-width.ensures x _ _ c.row.ensures.cols c.row.ensures.vals) (band-added _ c.args.size c.args.band c.args.csr.valid _ _ c.width-width.ensures x _ _ c.row.ensures.cols c.row.ensures.vals _ c.requires.noted _ _ (rw c.row.ensures.ncols at c.add_row.ensures))

pub returns : goal.returns
returns c = banding_done _ _ _ _ _ _ _ c.loop-row.invariant (band_end _ c.args.size c.args.band c.args.csr.valid _ _ _ c.width-width.ensures c.min-rows.ensures c.loop-row-test.false) c.requires.inside
