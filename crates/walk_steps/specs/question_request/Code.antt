-- Shapes of the code, proved equal to the rules; nothing here is to be believed.
use Rattle.std.specs.Prelude.{ℕ, List, length, take, Option, None, Some}
use Rattle.unc.specs.names.Paths.{first_of}
use Rattle.walk_steps.specs.declared.steps.Kind.{Kind}
use Rattle.walk_steps.specs.declared.steps.Kind.TheVariants.{Dc, Root, Link, Sysvol, Io}
use Rattle.walk_steps.specs.declared.steps.Next.{Next}
use Rattle.walk_steps.specs.declared.steps.Next.TheVariants.{Asks, Ends}

-- how many units of the path are the name asked, by the kind and the next move
unfoldable pub name_units : Kind → List ℕ → Option ℕ
name_units Dc path = Some (length (first_of 1 path))
name_units Root path = Some (length (first_of 2 path))
name_units Link path = Some (length path)
name_units Sysvol path = Some (length (first_of 2 path))
name_units Io path = None

unfoldable pub next_units : Next → List ℕ → Option ℕ
next_units (Asks q) path = name_units q.kind path
next_units (Ends e status) path = None

-- the name as a part of the path
unfoldable pub named : Option ℕ → List ℕ → Option (List ℕ)
named (Some n) path = Some (take n path)
named None path = None
