-- Hands out a text of a place as a part of the memory.
use native.Mathlib.Omega.{arith}
use Rattle.cache.proofs.places.LayoutLaws.{place_text}
use Rattle.cache.proofs.places.text.Goals as goal

pub returns : goal.returns
returns c = place_text _ _ (omega arith) _ _ _ (omega arith) (omega arith) (omega arith)
