-- A walk as 32 units, for hosts in other languages. Its texts are lent after them.
--     0-1     the limit, low unit first
--     2-3     the size given
--     4       the units of the bootstrap DC
--     5       the moves
--     6, 7    the units of the path and of the path tried
--     8       1 where the walk had a cache hit or a successful referral
--     9       what comes next: a question by the number of its kind, 1 to 5, or an end by its number, 20 to 27
--     10 .. 12  of a question: the units that name its entry, the party, the party with which the round began; of an end 0
--     13-14   the size asked, or the end's status
--     15      1 where a link request came of PATH_NOT_COVERED
--     16 .. 31  0
use Rattle.std.specs.Prelude.{ℕ, List, [], ◌∷◌, ◌++◌, eqb, leb, Option, Some, None}
use Rattle.laws.specs.Choice.{choose}
use Rattle.laws.specs.Lists.{roomed}
use Rattle.laws.specs.Listed.{same_list}
use Rattle.cache.specs.places.Layout.{unit_at, wide_at, wide_units, flag_at, flag_unit}
use Rattle.walk_steps.specs.steps.Steps.{end_number}
use Rattle.walk_steps.specs.declared.steps.Kind.{Kind}
use Rattle.walk_steps.specs.declared.steps.Kind.TheVariants.{Dc, Root, Link, Sysvol, Io}
use Rattle.walk_steps.specs.declared.steps.End.{End}
use Rattle.walk_steps.specs.declared.steps.End.TheVariants.{Done, NotDfs, NoDc, Failed, LimitReached, Malformed, TooLong, Gone}
use Rattle.walk_steps.specs.declared.steps.Asking.{Asking}
use Rattle.walk_steps.specs.declared.steps.Next.{Next}
use Rattle.walk_steps.specs.declared.steps.Next.TheVariants.{Asks, Ends}
use Rattle.walk_form.specs.declared.held.Walk.{Walk}

-- the numbers of the kinds: dc, root, link, sysvol, io, in the order of document 01's `ask=`
unfoldable pub kind_number : Kind → ℕ
kind_number Dc = 1
kind_number Root = 2
kind_number Link = 3
kind_number Sysvol = 4
kind_number Io = 5

-- units 9 to 15: a question, or an end
unfoldable pub asking_units : Asking → List ℕ
asking_units q = kind_number q.kind ∷ q.entry ∷ q.party ∷ q.began ∷ (wide_units q.size ++ (flag_unit q.uncovered ∷ []))

unfoldable pub next_packed : Next → List ℕ
next_packed (Asks q) = asking_units q
next_packed (Ends e status) = end_number e ∷ 0 ∷ 0 ∷ 0 ∷ (wide_units status ++ (0 ∷ []))

-- units 0 to 8, and then these
unfoldable pub walk_units : Walk → List ℕ → List ℕ
walk_units w next =
    wide_units w.limit ++ (wide_units w.size ++ (w.boot ∷ w.moves ∷ w.path ∷ w.tried ∷ flag_unit w.hit ∷ next))

-- the whole walk
unfoldable pub packed_walk : Walk → List ℕ
packed_walk w = roomed 32 (walk_units w (next_packed w.next))

-- read back
unfoldable pub kind_at : ℕ → Kind
kind_at n = choose (eqb n 1) Dc (choose (eqb n 2) Root (choose (eqb n 3) Link (choose (eqb n 4) Sysvol Io)))

unfoldable pub end_of_number : ℕ → End
end_of_number n =
    choose (eqb n 20) Done
    (choose (eqb n 21) NotDfs
    (choose (eqb n 22) NoDc
    (choose (eqb n 23) Failed
    (choose (eqb n 24) LimitReached
    (choose (eqb n 25) Malformed
    (choose (eqb n 26) TooLong Gone))))))

unfoldable pub asking_at : List ℕ → Asking
asking_at u = record {
  kind = kind_at (unit_at 9 u);
  entry = unit_at 10 u;
  party = unit_at 11 u;
  began = unit_at 12 u;
  size = wide_at 13 u;
  uncovered = flag_at 15 u;
}

unfoldable pub next_at : List ℕ → Next
next_at u = choose (leb (unit_at 9 u) 5) (Asks (asking_at u)) (Ends (end_of_number (unit_at 9 u)) (wide_at 13 u))

unfoldable pub walk_at : List ℕ → Walk
walk_at u = record {
  limit = wide_at 0 u;
  size = wide_at 2 u;
  boot = unit_at 4 u;
  moves = unit_at 5 u;
  path = unit_at 6 u;
  tried = unit_at 7 u;
  hit = flag_at 8 u;
  next = next_at u;
}

-- units are of the form where they are exactly what the walk that is read writes: another length, a flag other than 0 and 1, an unknown number
-- and anything in unused units are not
unfoldable pub unpacked : List ℕ → Option Walk
unpacked u = choose (same_list (packed_walk (walk_at u)) u) (Some (walk_at u)) None
