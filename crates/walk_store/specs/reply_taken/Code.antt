-- Shapes of the code, proved equal to the rules; nothing here is to be believed.
-- Words of a reply that is taken: what it calls for, the turn that it makes, and the caches put back.
use Rattle.std.specs.Prelude.{ℕ, ◌≤◌, ◌<◌, ◌≡◌, Bool, true, ◌&&◌, ◌||◌, List, eqb, leb, length, take}
use Rattle.laws.specs.Choice.{choose}
use Rattle.unc.specs.names.Paths.{first_of, matches}
use Rattle.cache.specs.places.Layout.{place_count, place_at}
use Rattle.cache.specs.places.Code.{changed}
use Rattle.cache.specs.order.Memory.{referrals, domains, decode, in_order}
use Rattle.cache_lookup.specs.Code.{entry_at}
use Rattle.reply_read.specs.declared.referral.Unread.{Unread}
use Rattle.reply_read.specs.declared.referral.Unread.TheVariants as unread
use Rattle.walk_steps.specs.steps.Steps.{Core, Turn, ends, asks, with_hit, step5, after_store, empty_end, path_not_found}
use Rattle.walk_steps.specs.steps.Held.{caches_of}
use Rattle.walk_steps.specs.declared.steps.Kind.{Kind}
use Rattle.walk_steps.specs.declared.steps.Kind.TheVariants as kind
use Rattle.walk_steps.specs.declared.steps.End.TheVariants as end
use Rattle.walk_steps.specs.declared.steps.Asking.{Asking}
use Rattle.walk_steps.specs.cycle.Code.{Usable}
use Rattle.walk_store.specs.declared.party_hint.Hinted.{Hinted}
use Rattle.walk_store.specs.declared.reply_taken.Taken.{Taken}
use Rattle.walk_store.specs.declared.reply_taken.Taken.TheVariants.{Ends, Dcs, Entry}
use Rattle.walk_store.specs.declared.reply_taken.Awaited.{Awaited}
use Rattle.walk_store.specs.declared.reply_taken.Awaited.TheVariants.{DcNames, Referral, NoReply}
use Rattle.walk_store.specs.party_hint.Code.{Lent, lent_caches, unhinted, Unhintable}

-- the reply that is read, by the kind of the question
unfoldable pub awaited_by : Kind → List ℕ → Awaited
awaited_by kind.Dc path = DcNames
awaited_by kind.Root path = Referral (length (first_of 2 path))
awaited_by kind.Link path = Referral (length path)
awaited_by kind.Sysvol path = Referral (length (first_of 2 path))
awaited_by kind.Io path = NoReply

-- a prefix that matches the first `name` units of the path matches the path
pub record NamedIn (name : ℕ) (path : List ℕ) : Type 0 where
  pub within : name ≤ length path
  pub whole : (p : List ℕ) → matches p (take name path) ≡ true → matches p path ≡ true

-- step 8.1.2, by numbers
unfoldable pub covers_no_more : Asking → Bool → ℕ → Bool
covers_no_more q root units = q.uncovered && (root || leb units q.entry)

-- what is taken of a reply that says nothing
unfoldable pub unread_taken : Kind → Unread → Taken
unread_taken k unread.Malformed = Ends end.Malformed 0
unread_taken k unread.Nothing = Ends (empty_end k) path_not_found

-- memory to save in, with place i of a cache where it has the units of a place
unfoldable pub saved_in : ℕ → List ℕ → List ℕ → List ℕ
saved_in i raw saved = choose (eqb (length saved) 2336) (place_at i raw) saved

-- the turn that was made by what was taken, over the caches that it left
unfoldable pub taken_turn : Core → Kind → Taken → List ℕ → List ℕ → Turn
taken_turn w kind (Ends e status) refs doms = record { caches = caches_of refs doms; core = w; called = ends e status }
taken_turn w kind (Dcs i) refs doms =
    record { caches = caches_of refs doms; core = with_hit true w; called = asks (step5 (decode domains doms) (with_hit true w)) }
taken_turn w kind (Entry i h) refs doms =
    record { caches = caches_of refs doms; core = with_hit true w; called = after_store kind (with_hit true w) (entry_at referrals i refs) }

-- both caches as they were before
unfoldable pub put_back : Taken → List ℕ → List ℕ → List ℕ → Lent
put_back (Ends e status) saved refs doms = lent_caches refs doms
put_back (Dcs i) saved refs doms = lent_caches refs (changed i (λ q. saved) doms)
put_back (Entry i h) saved refs doms = unhinted h (changed i (λ q. saved) refs) doms

-- the saved place and the hint can be put back
pub record CanPutBack (t : Taken) (saved refs doms : List ℕ) : Type 0 where
  pub long : length saved ≡ 2336
  pub dcs_fit : (i : ℕ) → t ≡ Dcs i → i < place_count doms
  pub entry_fits : (i : ℕ) (h : Hinted) → t ≡ Entry i h → (i < place_count refs) × Unhintable h (changed i (λ q. saved) refs) doms

-- what was taken lies in caches in order, the entry matches the path, and where n units of a place were lent to save in it can be put back
pub record TakenIn (n : ℕ) (t : Taken) (saved path refs doms : List ℕ) : Type 0 where
  pub refs_order : in_order referrals refs ≡ true
  pub doms_order : in_order domains doms ≡ true
  pub usable : (i : ℕ) (h : Hinted) → t ≡ Entry i h → Usable refs path i
  pub able : n ≡ 2336 → CanPutBack t saved refs doms
