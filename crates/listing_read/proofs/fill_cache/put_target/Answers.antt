use native.Mathlib.Omega.{arith}
use Rattle.listing_read.proofs.fill_cache.PutLaws.{target_put}
use Rattle.listing_read.proofs.fill_cache.put_target.Goals as goal

pub returns : goal.returns
returns c =
    let a = c.args in
    target_put a.refs.now a.i (omega (arith, c.requires)) a.n a.at a.text.now (omega (arith, c.requires)) c.requires.1.1
    c.put_path-next.ensures c.put_unit.ensures
