-- Puts the key, both halves of the status and the line's end.
use mathlib.Core.List.{[], ◌∷◌, ◌++◌}
use Prim.Native.Nat.{◌/◌, ◌%◌}
use native.Mathlib.Omega.{arith}
use Rattle.listing_spelling.specs.spell.Spelling.{hex_units}
use Rattle.listing_spelling.proofs.spell.PutLaws.{put_piece}
use Rattle.listing_spelling.proofs.spell.SpellingLaws.{length_hex}
use Rattle.script_output.proofs.printed.PrintedLaws.{status_parts}
use Rattle.script_output.proofs.printed.PieceLaws.{fits_1, fits_2_of_3, fits_3_of_4, fits_4, four_put}
use Rattle.listing_write.specs.Keys.{status_key}
use Rattle.script_output.proofs.printed.put_status.Goals as goal

pub copy_units-requires : goal.copy_units-requires
copy_units-requires c = fits_1 c.args.out.now _ _ status_key ((hex_units (c.args.status / 65536)) ++ ((hex_units (c.args.status % 65536)) ++ (10 ∷ []))) c.requires (status_parts c.args.status)

pub put_hex-a-requires : goal.put_hex-a-requires
put_hex-a-requires c = omega (arith, fits_2_of_3 _ _ _ status_key (hex_units (c.args.status / 65536)) ((hex_units (c.args.status % 65536)) ++ (10 ∷ [])) c.requires (status_parts c.args.status) (put_piece c.copy_units.ensures), length_hex (c.args.status / 65536))

pub put_hex-b-requires : goal.put_hex-b-requires
put_hex-b-requires c = omega (arith, fits_3_of_4 _ _ _ status_key (hex_units (c.args.status / 65536)) (hex_units (c.args.status % 65536)) (10 ∷ []) c.requires (status_parts c.args.status) (put_piece c.copy_units.ensures) c.put_hex-a.ensures, length_hex (c.args.status % 65536))

pub put_unit-requires : goal.put_unit-requires
put_unit-requires c = omega (arith, fits_4 _ _ _ status_key (hex_units (c.args.status / 65536)) (hex_units (c.args.status % 65536)) (10 ∷ []) c.requires (status_parts c.args.status) (put_piece c.copy_units.ensures) c.put_hex-a.ensures c.put_hex-b.ensures)

pub overflow_add-result : goal.overflow_add-result
overflow_add-result c = omega (arith, fits_4 _ _ _ status_key (hex_units (c.args.status / 65536)) (hex_units (c.args.status % 65536)) (10 ∷ []) c.requires (status_parts c.args.status) (put_piece c.copy_units.ensures) c.put_hex-a.ensures c.put_hex-b.ensures)

pub returns : goal.returns
returns c = four_put _ _ _ status_key (hex_units (c.args.status / 65536)) (hex_units (c.args.status % 65536)) (10 ∷ []) c.requires (status_parts c.args.status) (put_piece c.copy_units.ensures) c.put_hex-a.ensures c.put_hex-b.ensures (put_piece c.put_unit.ensures)
