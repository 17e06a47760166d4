-- Finds the place with an equal key. The invariant: the places from i on decide.
use Rattle.std.proofs.Common.{◌≡◌}
use Rattle.cache_lookup.specs.Code.{key_place}
use Rattle.cache_lookup.proofs.FindLaws.{key_from}
use Rattle.cache_lookup.proofs.find_key.Given as goal

abbrev pub invariant-loop-i : goal.invariant-loop-i
invariant-loop-i g l = key_place (g.N.Text.units l.name) l.cache ≡ key_from (g.N.Text.units l.name) l.cache l.i
