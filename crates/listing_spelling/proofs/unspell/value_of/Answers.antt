use mathlib.Core.Path.{◌≡◌, ap, ◌∙◌}
use Prim.Native.Nat.{ℕ, ◌+◌}
use lib.ListN.{drop}
use Rattle.listing_spelling.specs.unspell.Reading.{value_from}
use native.Mathlib.Omega.{arith}
use Rattle.std.specs.Prelude.{None}
use borrow.Author.Rules.{rules}
use Rattle.listing_spelling.specs.unspell.Code.{small_value}
use Rattle.listing_spelling.proofs.unspell.NumberLaws.{value_start, value_next, number_large, number_told}
use Rattle.listing_spelling.proofs.unspell.value_of.Goals as goal

pub loop-u-init : goal.loop-u-init
loop-u-init c = (omega arith, value_start _)

pub returns-in_err-checked_mul : goal.returns-in_err-checked_mul
returns-in_err-checked_mul c =
    let s = c.args.s.now in
    let l = c.loop-u in
    let h : None ≡ small_value s = number_large s _ _ (l.invariant.1 ∙ value_next s l.u-index l.n (omega arith)) (grind arith) in
    search rules

pub returns-in_err-n : goal.returns-in_err-n
returns-in_err-n c =
    let s = c.args.s.now in
    let l = c.loop-u in
    let h : None ≡ small_value s = number_large s _ _ (l.invariant.1 ∙ value_next s l.u-index l.n (omega arith)) (grind arith) in
    search rules

pub loop-u-preserved : goal.loop-u-preserved
loop-u-preserved c =
    let l = c.loop-u in
    (grind arith, l.invariant.1 ∙ value_next c.args.s.now l.u-index l.n (omega arith) ∙ ap (λ (x : ℕ). value_from x (drop (l.u-index + 1) c.args.s.now)) (grind arith))

pub returns : goal.returns
returns c = number_told _ _ _ c.loop-u.invariant.1 (omega arith) c.loop-u.invariant.0
