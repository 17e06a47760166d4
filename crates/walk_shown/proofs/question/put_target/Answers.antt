use mathlib.Core.Path.{◌≡◌, ap, ◌∙◌}
use mathlib.Core.List.{[]}
use Prim.Native.Nat.{ℕ}
use native.Mathlib.Omega.{arith}
use Rattle.std.specs.Prelude.{Result, Err, Some, None}
use Rattle.walk_shown.specs.question.Shown.{given}
use Rattle.walk_shown.specs.declared.question.ShowError.{ShowError}
use Rattle.walk_shown.specs.declared.question.ShowError.TheVariants.{NoEntry}
use Rattle.walk_shown.proofs.question.ShownLaws.{target_gone, target_fits, target_short, target_put}
use Rattle.walk_shown.proofs.question.put_target.Goals as goal

pub returns-in_err-i : goal.returns-in_err-i
returns-in_err-i c =
    let none : c.find_prefix.result ≡ None = grind arith in
    let refused : c.from_residual.result ≡ Err NoEntry = grind arith in
    ap (λ (r : Result ℕ ShowError). given r c.args.out.now) refused ∙ target_gone _ _ _ _ c.find_prefix.ensures none

pub target-requires : goal.target-requires
target-requires c =
    let found : c.find_prefix.result ≡ Some c.in_ok-i.i = grind arith in
    target_fits _ _ _ [] c.find_prefix.ensures _ found c.requires

pub put-requires : goal.put-requires
put-requires c =
    let found : c.find_prefix.result ≡ Some c.in_ok-i.i = grind arith in
    target_short _ _ _ [] c.find_prefix.ensures _ found c.requires c.target.ensures

pub returns : goal.returns
returns c =
    let found : c.find_prefix.result ≡ Some c.in_ok-i.i = grind arith in
    target_put _ _ _ _ c.find_prefix.ensures _ found c.target.ensures c.put.ensures
