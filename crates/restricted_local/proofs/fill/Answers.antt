-- `restricted_local::fill` meets its contract. Assumes nothing.
use native.Mathlib.Omega.{arith}
use Rattle.restricted_local.proofs.RegionLaws.{words-few, region_numbered}
use Rattle.restricted_local.proofs.fill.Goals as goal

pub count_words-requires : goal.count_words-requires
count_words-requires c = let h = words-few _ _ _ c.args.rows.accepted in
    (h, omega (arith, h, c.requires.room))

pub fill_rows-kept-requires : goal.fill_rows-kept-requires
fill_rows-kept-requires c = record { numbered = region_numbered _ _ _ _ _ c.args.rows.accepted c.requires.room c.count_words.auto.counts c.count_words.ensures; fits = c.requires.fits }
