use mathlib.Core.List.{[], ◌∷◌}
use mathlib.Core.Path.{◌≡◌, refl, ap, ◌∙◌}
use Prim.Native.Nat.{ℕ}
use native.Mathlib.Omega.{arith}
use lib.ListN.{drop}
use Rattle.laws.specs.Lists.{pasted}
use Rattle.listing_spelling.proofs.spell.PutLaws.{left_start, left_next, left_done, put_piece}
use Rattle.listing_spelling.proofs.unspell.UnspelledLaws.{plain_says, tilde_says, tilde_fits, left_one, says_end, rest_from}
use borrow.Author.Rules.{rules}
use Rattle.listing_spelling.proofs.unspell.unspell.Goals as goal
use Rattle.listing_spelling.proofs.unspell.unspell.Goals.{then-u-eq-TILDE, else-u-eq-TILDE}

pub loop-u-init : goal.loop-u-init
loop-u-init c = (refl, (c.requires.0, left_start _ _ _ c.requires.1))

pub hex_of-requires : goal.hex_of-requires
hex_of-requires c = (tilde_fits c.in-Some.ensures.cases.0 c.loop-u.invariant.1.0 c.if-u-eq-TILDE.true).0

pub overflow_cast-hex_of : goal.overflow_cast-hex_of
overflow_cast-hex_of c = omega (arith, c.hex_of.ensures, (tilde_fits c.in-Some.ensures.cases.0 c.loop-u.invariant.1.0 c.if-u-eq-TILDE.true).1)

pub put_unit-requires : goal.put_unit-requires
put_unit-requires c = left_one _ _ c.loop-u.invariant.1.1 (tilde_says c.in-Some.ensures.cases.0 c.loop-u.invariant.1.0 c.if-u-eq-TILDE.true).1

pub slice_bounds-rest-count : goal.slice_bounds-rest-count
slice_bounds-rest-count c = (tilde_fits c.in-Some.ensures.cases.0 c.loop-u.invariant.1.0 c.if-u-eq-TILDE.true).0

pub slice_bounds-rest-start : goal.slice_bounds-rest-start
slice_bounds-rest-start c = let h = (tilde_fits c.in-Some.ensures.cases.0 c.loop-u.invariant.1.0 c.if-u-eq-TILDE.true).0 in search rules

pub put_unit-requires-else-u-eq-TILDE : goal.put_unit-requires-else-u-eq-TILDE
put_unit-requires-else-u-eq-TILDE c = left_one _ _ c.loop-u.invariant.1.1 (plain_says c.in-Some.ensures.cases.0 c.loop-u.invariant.1.0 c.if-u-eq-TILDE.false).1

pub loop-u-preserved : goal.loop-u-preserved
loop-u-preserved c =
    let l = c.loop-u in
    let e = c.in-Some.ensures.cases.0 in
    elim c.if-u-eq-TILDE.branch [
      | then-u-eq-TILDE w ↦
          let s = tilde_says e l.invariant.1.0 w.if-u-eq-TILDE.true in
          let f : c.if-u-eq-TILDE.rest.now ≡ drop 4 c.in-Some.tail.now = ap (λ r. r.now) w.rest-is ∙ rest_from 4 c.in-Some.tail.now in
          let o = w.out-is ∙ (w.put_unit.ensures ∙ ap (λ (x : ℕ). pasted l.out l.end (x ∷ [])) w.hex_of.ensures) in
          (omega arith, rw f (s.0, left_next _ _ l.invariant.1.1 s.1 (put_piece o)))
      | else-u-eq-TILDE w ↦
          let s = plain_says e l.invariant.1.0 w.if-u-eq-TILDE.false in
          let o = w.out-is ∙ w.put_unit-else-u-eq-TILDE.ensures in
          (omega arith, rw w.rest-is (s.0, left_next _ _ l.invariant.1.1 s.1 (put_piece o)))
    ]

pub returns : goal.returns
returns c = left_done _ _ _ c.loop-u.invariant.1.1 refl refl (says_end c.loop-u.rest.now (search rules))
