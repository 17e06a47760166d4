use mathlib.Core.Path.{refl, sym, ap}
use Prim.Native.Nat.{◌+◌}
use native.Mathlib.Omega.{arith}
use lib.ListN.{length}
use Rattle.cache.specs.places.Layout.{place_at, text_at}
use Rattle.listing_spelling.proofs.spell.PutLaws.{left_start, left_next, left_done}
use Rattle.listing_write.specs.Form.{target_key, path_line, ended}
use Rattle.listing_write.proofs.FormLaws.{left_fits, targets_left, targets_start, targets_next, targets_end}
use Rattle.listing_write.proofs.EntryLaws.{put_same}
use Rattle.listing_write.proofs.put_targets.Goals as goal

pub loop-j-init : goal.loop-j-init
loop-j-init c = (refl, left_start _ _ _ (omega (arith, c.requires.1, ap length (targets_start (place_at c.args.i c.args.cache.now)))))

pub put_path-end-requires : goal.put_path-end-requires
put_path-end-requires c =
    let piece = place_at c.args.i c.args.cache.now in
    let j = c.loop-j.j in
    let e = targets_next j piece (omega (arith, c.list_count-j-end.ensures)) in
    let t = ap (λ x. length (ended (path_line target_key x))) c.text.ensures in
    omega (arith, left_fits (ended (path_line target_key (text_at (1 + j) piece))) _ c.loop-j.invariant.1 e)

pub loop-j-preserved : goal.loop-j-preserved
loop-j-preserved c =
    let piece = place_at c.args.i c.args.cache.now in
    let l = c.loop-j in
    let e = targets_next l.j piece (omega (arith, c.list_count-j-end.ensures)) in
    let w = put_same (ap (λ x. ended (path_line target_key x)) c.text.ensures) c.put_path-end.ensures in
    (omega arith, left_next _ _ l.invariant.1 e w)

pub returns : goal.returns
returns c =
    let piece = place_at c.args.i c.args.cache.now in
    put_same (sym (targets_start piece))
    (left_done _ _ (targets_left 0 piece) c.loop-j.invariant.1 refl refl (targets_end c.loop-j.j piece (omega (arith, c.list_count-j-end.ensures))))
