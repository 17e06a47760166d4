-- Shapes of the code, proved equal to the rules; nothing here is to be believed.
use Rattle.std.specs.Prelude.{ℕ, ◌≤◌, ◌<◌, ◌/◌, ◌%◌, ◌≡◌, Bool, true, false, List, [], leb, eqb, length, take, Option, Some, None}
use Rattle.laws.specs.Choice.{choose}
use Rattle.unc.specs.names.Paths.{first_of, is_sysvol, matches, replaced}
use Rattle.walk_steps.specs.walk_texts.Texts.{texts_of}
use Rattle.walk_steps.specs.walk_texts.Code.{Standing}
use Rattle.cache.specs.places.Layout.{place_count}
use Rattle.cache.specs.order.Order.{good_prefix, good_referral}
use Rattle.cache.specs.order.Memory.{referrals, domains, decode, in_order}
use Rattle.cache.specs.order.Entries.{Referral}
use Rattle.cache_lookup.specs.Lookup.{longest_match, target_path, expired}
use Rattle.cache_lookup.specs.Code.{entry_at}
use Rattle.walk_steps.specs.steps.Steps.{Core, Question, Called, stops, asks, replaces, Turn, Resting, goes, turned, from_step2, step3, step5, step6_host, step7, step9, step11, link_request}
use Rattle.walk_steps.specs.steps.Held.{caches_of, tried_of, core_of}
use Rattle.walk_steps.specs.steps.Code.{rested_of, root_in}
use Rattle.walk_steps.specs.declared.steps.Kind.{Kind}
use Rattle.walk_steps.specs.declared.steps.Kind.TheVariants.{Dc, Root, Sysvol}
use Rattle.walk_steps.specs.declared.steps.Rested.{Rested}
use Rattle.walk_steps.specs.declared.steps.End.TheVariants.{TooLong}

-- Words of the functions that move: what they are given, and what they leave.

-- where the steps came to rest: the numbers, and the rooms of the path and of the path tried
pub record Packed : Type 0 where
  pub rested : Rested
  pub texts : List ℕ

abbrev pub rested_with : Rested → List ℕ → Packed
rested_with r texts = record { rested = r; texts = texts }

unfoldable pub packed : Resting → Packed
packed x = record { rested = rested_of x; texts = texts_of x.core.path (tried_of x.rest) }

-- where the steps come to rest from what they call for, over lent caches
unfoldable pub steps_from : ℕ → List ℕ → List ℕ → ℕ → Core → Called → Packed
steps_from left refs doms clock w a = packed (goes left (caches_of refs doms) clock w a)

-- what a stored entry calls for: SYSVOL goes to step 3, root and link replies to step 3 or 4 by their kind
unfoldable pub called_after : Bool → Core → Referral → Called
called_after true w e = asks (step3 w e)
called_after false w e = step7 w e

-- the path stands in its room and is good, and the referral cache is in order
pub record Ready (refs texts : List ℕ) (len : ℕ) : Type 0 where
  pub order : in_order referrals refs ≡ true
  pub standing : Standing len texts
  pub good : good_prefix (take len texts) ≡ true

-- place i holds a good entry, whose prefix matches the path
pub record Usable (refs path : List ℕ) (i : ℕ) : Type 0 where
  pub fits : i < place_count refs
  pub good : good_referral (entry_at referrals i refs) ≡ true
  pub matched : matches (entry_at referrals i refs).prefix path ≡ true

-- the rooms after step 11: the new path alone, or as they were where it is too long
unfoldable pub moved_to : List ℕ → List ℕ → List ℕ
moved_to path texts = choose (leb (length path) 256) (texts_of path []) texts

-- A point of the steps as one number, which the members of the cycle hand on: the case, the place of its entry or of the DC that it asks,
-- whether there was a hit, the units of the path and the moves left. One number in and out keeps the frame of a move small.

-- The cases: the step that is due, or where the steps rest (at step 11, if no move is left).
abbrev pub due2 : ℕ
due2 = 0

abbrev pub due5 : ℕ
due5 = 1

abbrev pub due9 : ℕ
due9 = 2

abbrev pub due7 : ℕ
due7 = 3

abbrev pub due11 : ℕ
due11 = 4

abbrev pub to_try : ℕ
to_try = 5

abbrev pub ask_link : ℕ
ask_link = 6

abbrev pub ask_dc : ℕ
ask_dc = 7

abbrev pub ask_domain : ℕ
ask_domain = 8

abbrev pub ask_host : ℕ
ask_host = 9

abbrev pub too_long : ℕ
too_long = 10

-- The parts of a number.
abbrev pub what_of : ℕ → ℕ
what_of n = n % 16

abbrev pub place_in : ℕ → ℕ
place_in n = n / 16 % 65536

abbrev pub hit_in : ℕ → Bool
hit_in n = eqb (n / 1048576 % 2) 1

abbrev pub units_of : ℕ → ℕ
units_of n = n / 2097152 % 512

abbrev pub left_of : ℕ → ℕ
left_of n = n / 1073741824

pub record Parts (what i : ℕ) (hit : Bool) (len left n : ℕ) : Type 0 where
  pub its_case : what_of n ≡ what
  pub its_place : place_in n ≡ i
  pub its_hit : hit_in n ≡ hit
  pub its_units : units_of n ≡ len
  pub its_left : left_of n ≡ left

-- The questions that try no path: a request that names the domain, by its kind and its DC; and all.
unfoldable pub domain_request : Kind → Core → ℕ → Question
domain_request kind w i =
    record { kind = kind; entry = length (first_of 1 w.path); party = i; began = i; size = w.size; tried = []; uncovered = false }

unfoldable pub kind_of_case : ℕ → List ℕ → Kind
kind_of_case what path = choose (eqb what ask_dc) Dc (choose (is_sysvol path) Sysvol Root)

abbrev pub link_at : Core → List ℕ → ℕ → Question
link_at w refs i =
    link_request w (length (entry_at referrals i refs).prefix) (entry_at referrals i refs).hint (entry_at referrals i refs).hint false

unfoldable pub question_of_case : List ℕ → Core → ℕ → ℕ → Question
question_of_case refs w i what =
    choose (eqb what ask_link) (link_at w refs i) (choose (eqb what ask_host) (step6_host w) (domain_request (kind_of_case what w.path) w i))

-- What a case calls for; step 2 brings a hit besides.
unfoldable pub called_at : List ℕ → List ℕ → Core → ℕ → ℕ → Called
called_at refs doms w i what =
    choose (eqb what due5) (asks (step5 (decode domains doms) w))
    (choose (eqb what due9) (asks (step9 (caches_of refs doms) w))
    (choose (eqb what due7) (step7 w (entry_at referrals i refs))
    (choose (eqb what due11) (replaces (step11 w (entry_at referrals i refs)))
    (choose (eqb what to_try) (asks (step3 w (entry_at referrals i refs)))
    (choose (eqb what too_long) (stops TooLong 0 []) (asks (question_of_case refs w i what)))))))

unfoldable pub turn_at : List ℕ → List ℕ → ℕ → Core → ℕ → ℕ → Turn
turn_at refs doms clock w i what =
    choose (eqb what due2) (from_step2 (caches_of refs doms) w clock)
    (record { caches = caches_of refs doms; core = w; called = called_at refs doms w i what })

-- where the steps come to rest from a case, and from a point
unfoldable pub steps_by : List ℕ → List ℕ → ℕ → ℕ → ℕ → ℕ → Bool → List ℕ → ℕ → Packed
steps_by refs doms size clock what i hit path left = packed (turned left clock (turn_at refs doms clock (core_of path size hit) i what))

unfoldable pub steps_at : List ℕ → List ℕ → ℕ → ℕ → ℕ → List ℕ → Packed
steps_at refs doms size clock n texts =
    steps_by refs doms size clock (what_of n) (place_in n) (hit_in n) (take (units_of n) texts) (left_of n)

-- a point's path is good, and so is the entry that it goes by (steps 7, 11 and 3) or asks
pub record Point (refs texts : List ℕ) (n : ℕ) : Type 0 where
  pub ready : Ready refs texts (units_of n)
  pub usable : due7 ≤ what_of n → what_of n ≤ to_try → Usable refs (take (units_of n) texts) (place_in n)
  pub fits : what_of n ≡ ask_link → place_in n < place_count refs
  pub counted : left_of n < 65536

-- one from which no move is made: no step is due, unless it is step 11 and the limit is reached
pub record Halted (refs texts : List ℕ) (n : ℕ) : Type 0 where
  pub point : Point refs texts n
  pub rests : due7 < what_of n
  pub last : what_of n ≡ due11 → left_of n ≡ 0

-- a step without a move: the steps come to the same rest from point r as from point n
pub record SameSteps (refs doms : List ℕ) (clock : ℕ) (texts : List ℕ) (n r : ℕ) : Type 0 where
  pub same : (size : ℕ) → steps_at refs doms size clock r texts ≡ steps_at refs doms size clock n texts
  pub point : Point refs texts r
  pub left : left_of r ≡ left_of n

-- the members of the cycle: they come to the same rest from r as from n, and no move is made from r
pub record SameRest (refs doms : List ℕ) (clock n : ℕ) (texts : List ℕ) (r : ℕ) (after : List ℕ) : Type 0 where
  pub same : (size : ℕ) → steps_at refs doms size clock r after ≡ steps_at refs doms size clock n texts
  pub halted : Halted refs after r

-- What is looked up, as a number: a place, or one that is more than any place.
abbrev pub nowhere : ℕ
nowhere = 65536

abbrev pub no_dc : ℕ
no_dc = 65537

pub record FoundAt (found : Option ℕ) (r : ℕ) : Type 0 where
  pub none : r ≡ nowhere → found ≡ None
  pub there : (r ≡ nowhere → ⊥) → found ≡ Some r

-- step 5: a host, a domain without a DC, or the DC hinted at
pub record DcAt (doms path : List ℕ) (r : ℕ) : Type 0 where
  pub host : r ≡ nowhere → (size : ℕ) (hit : Bool) → step5 (decode domains doms) (core_of path size hit) ≡ step6_host (core_of path size hit)
  pub without : r ≡ no_dc → (size : ℕ) (hit : Bool) → step5 (decode domains doms) (core_of path size hit) ≡ domain_request Dc (core_of path size hit) 0
  pub dc : (r ≡ nowhere → ⊥) → (r ≡ no_dc → ⊥) → (size : ℕ) (hit : Bool)
      → step5 (decode domains doms) (core_of path size hit) ≡ domain_request (choose (is_sysvol path) Sysvol Root) (core_of path size hit) r
  pub few : (r ≡ nowhere → ⊥) → (r ≡ no_dc → ⊥) → r < 65536

-- by the step that is due
pub record Sought (refs doms path : List ℕ) (what r : ℕ) : Type 0 where
  pub two : what ≡ due2 → FoundAt (longest_match path (decode referrals refs)) r
  pub nine : what ≡ due9 → FoundAt (root_in path refs) r
  pub five : what ≡ due5 → DcAt doms path r

-- Step 2: the step that is due after a match, and the point.
unfoldable pub after_match : ℕ → Referral → ℕ
after_match clock e = choose (expired clock e) (choose e.settings.root due5 due9) due7

pub record Matched (refs : List ℕ) (clock n found r : ℕ) : Type 0 where
  pub missed : found ≡ nowhere → Parts due5 0 (hit_in n) (units_of n) (left_of n) r
  pub matching : (found ≡ nowhere → ⊥) → Parts (after_match clock (entry_at referrals found refs)) found true (units_of n) (left_of n) r

-- Step 11's new path.
unfoldable pub replaced_at : List ℕ → List ℕ → ℕ → List ℕ
replaced_at refs texts n =
    replaced (target_path (entry_at referrals (place_in n) refs).hint (entry_at referrals (place_in n) refs)) (length (entry_at referrals (place_in n) refs).prefix) (take (units_of n) texts)
