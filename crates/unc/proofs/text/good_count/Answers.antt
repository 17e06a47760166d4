use native.Mathlib.Omega.{arith}
use Rattle.unc.proofs.names.PieceLaws.{scan_within}
use Rattle.unc.proofs.text.good_count.Goals as goal

pub part-requires : goal.part-requires
part-requires g c =
    (omega arith, scan_within (g.T.Text.units c.args.s) c.loop-s.from _ c.loop-s.n (omega arith) c.plain_end-to.ensures)
