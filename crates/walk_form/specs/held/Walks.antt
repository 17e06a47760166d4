-- A walk as it is held: numbers, and its texts lent with them in three rooms of 256 units. Document 01: "A walk is in form when its path (2
-- components or more while it waits), the path it tries, the size it asks and its settings would be accepted, its moves are at most its limit,
-- and it names an entry matching its path, and a party, exactly if its question has them."
use Rattle.std.specs.Prelude.{ℕ, ◌-◌, Bool, true, false, ◌&&◌, ◌||◌, not, List, ◌++◌, length, take, drop, leb, eqb}
use Rattle.laws.specs.Lists.{roomed}
use Rattle.laws.specs.Listed.{same_list}
use Rattle.unc.specs.names.Names.{good_name}
use Rattle.unc.specs.names.Paths.{first_of, matches, normalised_count}
use Rattle.walk_steps.specs.walk_texts.Texts.{texts_of}
use Rattle.cache_store.specs.domain_cache.Domains.{good_size}
use Rattle.walk_steps.specs.steps.Steps.{Resting, Core}
use Rattle.walk_steps.specs.steps.Held.{next_of, tried_of, core_of}
use Rattle.walk_steps.specs.declared.steps.Kind.{Kind}
use Rattle.walk_steps.specs.declared.steps.Kind.TheVariants.{Dc, Root, Link, Sysvol, Io}
use Rattle.walk_steps.specs.declared.steps.End.{End}
use Rattle.walk_steps.specs.declared.steps.End.TheVariants.{Done, NotDfs, NoDc, Failed, LimitReached, Malformed, TooLong, Gone}
use Rattle.walk_steps.specs.declared.steps.Asking.{Asking}
use Rattle.walk_steps.specs.declared.steps.Next.{Next}
use Rattle.walk_steps.specs.declared.steps.Next.TheVariants.{Asks, Ends}
use Rattle.walk_form.specs.declared.held.Walk.{Walk}

-- the three rooms: path, path tried, bootstrap DC
unfoldable pub lent : List ℕ → List ℕ → List ℕ → List ℕ
lent path tried boot = texts_of path tried ++ roomed 256 boot

-- and the texts in them
unfoldable pub path_in : Walk → List ℕ → List ℕ
path_in w texts = take w.path texts

unfoldable pub tried_in : Walk → List ℕ → List ℕ
tried_in w texts = take w.tried (drop 256 texts)

unfoldable pub boot_in : Walk → List ℕ → List ℕ
boot_in w texts = take w.boot (drop 512 texts)

-- "limit not 1 to 64, size not 1,024 to 57,344, or bootstrap DC not one good component"
unfoldable pub good_limit : ℕ → Bool
good_limit limit = leb 1 limit && leb limit 64

unfoldable pub good_settings : ℕ → ℕ → List ℕ → Bool
good_settings limit size boot = good_limit limit && (good_size size && good_name boot)

-- the domain of the path's first component; units of the path that are a prefix of 2 components or more and match it
unfoldable pub names_domain : List ℕ → Asking → Bool
names_domain path q = eqb q.entry (length (first_of 1 path))

unfoldable pub names_prefix : List ℕ → Asking → Bool
names_prefix path q =
    leb q.entry (length path) && (leb 2 (normalised_count (take q.entry path)) && matches (take q.entry path) path)

-- no party, and so no round; one party and no round
unfoldable pub no_party : Asking → Bool
no_party q = eqb q.party 0 && eqb q.began 0

unfoldable pub one_party : Asking → Bool
one_party q = eqb q.party q.began

-- a question, by its kind: the entry and the party that it has, the size it asks, and whether it came of PATH_NOT_COVERED
unfoldable pub asked_in_form : List ℕ → Asking → Kind → Bool
asked_in_form path q Dc = names_domain path q && (no_party q && (good_size q.size && not q.uncovered))
asked_in_form path q Root =
    ((eqb q.entry 0 && no_party q) || names_domain path q) && (good_size q.size && not q.uncovered)
asked_in_form path q Link = names_prefix path q && good_size q.size
asked_in_form path q Sysvol = names_domain path q && (one_party q && (good_size q.size && not q.uncovered))
asked_in_form path q Io = names_prefix path q && (eqb q.size 0 && not q.uncovered)

-- "there is a path tried exactly while the walk waits for I/O and after end 20"
unfoldable pub has_tried : Kind → Bool
has_tried Dc = false
has_tried Root = false
has_tried Link = false
has_tried Sysvol = false
has_tried Io = true

unfoldable pub end_tried : End → Bool
end_tried Done = true
end_tried NotDfs = false
end_tried NoDc = false
end_tried Failed = false
end_tried LimitReached = false
end_tried Malformed = false
end_tried TooLong = false
end_tried Gone = false

unfoldable pub good_tried : Bool → List ℕ → Bool
good_tried true tried = leb 1 (normalised_count tried)
good_tried false tried = eqb (length tried) 0

-- "status (0 unless 20, 22, 23)"
unfoldable pub end_status : End → ℕ → Bool
end_status Done status = true
end_status NotDfs status = eqb status 0
end_status NoDc status = true
end_status Failed status = true
end_status LimitReached status = eqb status 0
end_status Malformed status = eqb status 0
end_status TooLong status = eqb status 0
end_status Gone status = eqb status 0

-- the next move, given the path and the path tried
unfoldable pub next_in_form : List ℕ → List ℕ → Next → Bool
next_in_form path tried (Asks q) =
    leb 2 (normalised_count path) && (good_tried (has_tried q.kind) tried && asked_in_form path q q.kind)
next_in_form path tried (Ends e status) =
    leb 1 (normalised_count path) && (good_tried (end_tried e) tried && end_status e status)

-- the walk and its texts
unfoldable pub in_form : Walk → List ℕ → Bool
in_form w texts =
    eqb (length texts) 768
    && (same_list (lent (path_in w texts) (tried_in w texts) (boot_in w texts)) texts
    && (good_settings w.limit w.size (boot_in w texts)
    && (leb w.moves w.limit && next_in_form (path_in w texts) (tried_in w texts) w.next)))

-- the walk that a rest leaves, and its texts
unfoldable pub walk_of : ℕ → List ℕ → Resting → Walk
walk_of limit boot x = record {
  limit = limit;
  size = x.core.size;
  boot = length boot;
  moves = limit - x.left;
  path = length x.core.path;
  tried = length (tried_of x.rest);
  hit = x.core.hit;
  next = next_of x.rest;
}

unfoldable pub texts_after : List ℕ → Resting → List ℕ
texts_after boot x = lent x.core.path (tried_of x.rest) boot

-- what the steps use of a walk that is held
unfoldable pub core_in : Walk → List ℕ → Core
core_in w texts = core_of (path_in w texts) w.size w.hit
