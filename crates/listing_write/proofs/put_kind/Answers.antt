use Rattle.std.proofs.Common.{◌≡◌, ◌∙◌, ◌++◌, ap, length, arith}
use Rattle.listing_write.specs.Form.{kind_key, kind_word, ended}
use Rattle.listing_write.proofs.FormLaws.{kind_root, kind_link}
use Rattle.listing_write.proofs.EntryLaws.{put_same}
use Rattle.listing_write.proofs.put_kind.Goals as goal
use Rattle.listing_write.proofs.put_kind.Goals.{then-root, else-root}

pub put_line-requires : goal.put_line-requires
put_line-requires c =
    let e : c.if-root.put_line.now ≡ kind_key ++ kind_word c.args.root = elim c.if-root.branch [
      | then-root w ↦ ap (λ r. r.now) w.put_line-is ∙ kind_root _ w.if-root.true
      | else-root w ↦ ap (λ r. r.now) w.put_line-is ∙ kind_link _ w.if-root.false
    ] in
    omega (arith, ap (λ x. length (ended x)) e)

pub returns : goal.returns
returns c =
    let e : c.if-root.put_line.now ≡ kind_key ++ kind_word c.args.root = elim c.if-root.branch [
      | then-root w ↦ ap (λ r. r.now) w.put_line-is ∙ kind_root _ w.if-root.true
      | else-root w ↦ ap (λ r. r.now) w.put_line-is ∙ kind_link _ w.if-root.false
    ] in
    put_same (ap ended e) c.put_line.ensures
