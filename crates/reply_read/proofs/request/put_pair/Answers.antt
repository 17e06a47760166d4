-- A unit as two bytes, the low one first.
use mathlib.Core.Path.{◌≡◌, ap, ◌∙◌}
use mathlib.Core.List.{List}
use Prim.Native.Nat.{ℕ, ◌+◌, ◌/◌, ◌%◌}
use lib.ListN.{get_or, set}
use native.Mathlib.Omega.{arith}
use Rattle.reply_read.proofs.referral.RequestLaws.{pair_stored}
use Rattle.reply_read.proofs.request.put_pair.Goals as goal

pub returns : goal.returns
returns c =
    let u = c.args.u in
    let d = c.args.out.now in
    let p = c.to_le_bytes.result in
    let low : get_or p 0 0 ≡ u % 256 = ap (λ (x : List ℕ). get_or x 0 0) c.to_le_bytes.ensures in
    let part : get_or p 1 0 ≡ u / 256 % 256 = ap (λ (x : List ℕ). get_or x 1 0) c.to_le_bytes.ensures in
    let high : get_or p 1 0 ≡ u / 256 = omega arith in
    (λ i. set (set d c.args.at (low i)) (c.args.at + 1) (high i)) ∙ pair_stored d c.args.at u (omega arith)
