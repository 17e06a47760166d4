use mathlib.Core.Path.{◌≡◌, ap, ◌∙◌}
use mathlib.Core.List.{[]}
use Prim.Native.Nat.{ℕ}
use native.Mathlib.Omega.{arith}
use Rattle.std.specs.Prelude.{Result, Err, Some, None}
use Rattle.walk_shown.specs.question.Shown.{given}
use Rattle.walk_shown.specs.declared.question.ShowError.{ShowError}
use Rattle.walk_shown.specs.declared.question.ShowError.TheVariants.{NoEntry}
use Rattle.walk_shown.proofs.question.ShownLaws.{dc_gone, dc_fits, dc_short, dc_put}
use Rattle.walk_shown.proofs.question.put_dc.Goals as goal

pub returns-in_err-i : goal.returns-in_err-i
returns-in_err-i c =
    let none : c.find_domain.result ≡ None = grind arith in
    let refused : c.from_residual.result ≡ Err NoEntry = grind arith in
    ap (λ (r : Result ℕ ShowError). given r c.args.out.now) refused ∙ dc_gone _ _ _ _ c.host.ensures c.find_domain.ensures none

pub dc-requires : goal.dc-requires
dc-requires c =
    let found : c.find_domain.result ≡ Some c.in_ok-i.i = grind arith in
    dc_fits _ _ _ [] c.host.ensures c.find_domain.ensures _ found c.requires.1

pub put-requires : goal.put-requires
put-requires c =
    let found : c.find_domain.result ≡ Some c.in_ok-i.i = grind arith in
    dc_short _ _ _ [] c.host.ensures c.find_domain.ensures _ found c.requires.1 c.dc.ensures

pub returns : goal.returns
returns c =
    let found : c.find_domain.result ≡ Some c.in_ok-i.i = grind arith in
    dc_put _ _ _ _ c.host.ensures c.find_domain.ensures _ found c.dc.ensures c.put.ensures
