use mathlib.Core.List.{List}
use mathlib.Core.Path.{ap, ◌∙◌}
use Prim.Native.Nat.{ℕ, ◌+◌}
use native.Mathlib.Omega.{arith}
use lib.ListN.{length}
use Rattle.cache.specs.places.Code.{changed}
use Rattle.listing_spelling.specs.unspell.Reading.{is_spelled, unspelled}
use Rattle.cache_entry.specs.write_entry.Code.{add_text}
use Rattle.listing_read.proofs.fill_cache.LineLaws.{value_slice, line_inside}
use borrow.Author.Rules.{rules}
use Rattle.listing_read.proofs.fill_cache.put_path.Goals as goal

pub put_value-requires : goal.put_value-requires
put_value-requires c =
    let p = c.requires.1.1 in
    let s = value_slice c.args.text.now c.args.at 7 c.line_end-end.ensures p.keyed in
    let l = line_inside c.args.text.now c.args.at p.ended in
    let e = c.line_end-end.ensures in
    let k = p.keyed in
    (search rules, (search rules, (ap is_spelled s ∙ p.good, omega (arith, p.short, ap (λ (x : List ℕ). length (unspelled x)) s))))

pub overflow_add-result : goal.overflow_add-result
overflow_add-result c = omega (arith, c.line_end-end.ensures, line_inside c.args.text.now c.args.at c.requires.1.1.ended)

pub returns : goal.returns
returns c =
    let a = c.args in
    let s = value_slice a.text.now a.at 7 c.line_end-end.ensures c.requires.1.1.keyed in
    record {
      memory = c.put_value.ensures ∙ ap (λ (x : List ℕ). changed a.i (add_text a.j (unspelled x)) a.refs.now) s;
      next = ap (λ (x : ℕ). x + 1) c.line_end-end.ensures;
    }
