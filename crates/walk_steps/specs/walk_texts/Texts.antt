-- The texts of a walk: the path and the path tried, each in a room of 256 units with zeros after it, one room behind the other.
use Rattle.std.specs.Prelude.{ℕ, List, ◌++◌}
use Rattle.laws.specs.Lists.{roomed}

-- the two rooms, as a path and a path tried write them
unfoldable pub texts_of : List ℕ → List ℕ → List ℕ
texts_of path tried = roomed 256 path ++ roomed 256 tried
