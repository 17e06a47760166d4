use native.Mathlib.Omega.{arith}
use mathlib.Core.List.{[], ◌∷◌}
use Rattle.listing_spelling.proofs.spell.PutLaws.{put_then, put_piece}
use Rattle.listing_write.specs.Form.{ended}
use Rattle.listing_write.proofs.FormLaws.{length_ended}
use Rattle.listing_write.proofs.put_line.Goals as goal

pub copy_units-requires : goal.copy_units-requires
copy_units-requires c = omega (arith, length_ended c.args.line.now)

pub end_line-requires : goal.end_line-requires
end_line-requires c = omega (arith, length_ended c.args.line.now)

pub returns : goal.returns
unfolding ended
returns c = put_then _ _ c.args.line.now (10 ∷ []) (put_piece c.copy_units.ensures) c.end_line.ensures c.requires
