-- Document 01, "Examples to hold it to": those marked P, as one table. A row is an example with its value; what it says is an equation with the
-- definition that the contracts cite.
use Rattle.std.specs.Prelude.{ℕ, zero, suc, ◌≡◌, Bool, true, false, List, [], ◌∷◌, ◌++◌, map, length, take, replicate, eqb, Option, None, Some}
use Rattle.laws.specs.Choice.{choose}
use Rattle.unc.specs.names.Paths.{matches, replaced}
use Rattle.cache.specs.order.Entries.{Referral, free, used}
use Rattle.cache.specs.order.Memory.{referrals, domains, encode}
use Rattle.cache_lookup.specs.Lookup.{age, expired}
use Rattle.reply_read.specs.referral.Request.{bytes_of, request}
use Rattle.reply_read.specs.referral.Replies as replies
use Rattle.reply_read.specs.referral.Replies.{malformed, nothing, says, read_referral}
use Rattle.walk_steps.specs.steps.Steps.{Caches, end_number, buffer_overflow}
use Rattle.walk_steps.specs.declared.steps.Next.{Next}
use Rattle.walk_steps.specs.declared.steps.Next.TheVariants.{Asks, Ends}
use Rattle.walk_steps.specs.declared.steps.End.TheVariants.{NotDfs}
use Rattle.walk_calls.specs.calls.Calls.{Answered, refusal_number}
use Rattle.theorems.specs.limit.Unlimited.{Move, replacement, made_in}
use Rattle.theorems.specs.limit.Calls.{Held, Start, Calls, start, then, referral, run}
use Rattle.theorems.specs.limit.Limits.{MovesOf}

-- what a call shows: the number that refuses it; or the size of the question then put, or the number of the end, with the moves made
pub data Told : Type 0 where
  gives : ℕ → Told
  puts : (size moves : ℕ) → Told
  ends : (number moves : ℕ) → Told

unfoldable pub told_next : ℕ → Next → Told
told_next moves (Asks q) = puts q.size moves
told_next moves (Ends e status) = ends (end_number e) moves

unfoldable pub told : Answered → Told
told o =
    choose (eqb (refusal_number o.left.verdict) 0)
    (told_next o.left.walk.moves o.left.walk.next)
    (gives (refusal_number o.left.verdict))

-- the memory of a host: these caches, a walk of any content, room for its texts
unfoldable pub memory : Caches → Held
memory c = record {
  walk = record { limit = 0; size = 0; boot = 0; moves = 0; path = 0; tried = 0; hit = false; next = Ends NotDfs 0 };
  texts = replicate 768 0;
  refs = encode referrals c.referrals;
  doms = encode domains c.domains;
}

-- a start with size 8,192 and the bootstrap DC "dc1", and n answers 0x80000005 to it
unfoldable pub begin : List ℕ → Start
begin path = record { path = path; boot = 100 ∷ 99 ∷ 49 ∷ []; size = 8192; clock = 0; out = replicate 516 0 }

unfoldable pub overflows : ℕ → Calls
overflows zero = start
overflows (suc n) = then (overflows n) (referral buffer_overflow [] 0 (replicate 516 0))

-- an entry with this TTL, taken at this time
unfoldable pub dated : ℕ → ℕ → Referral
dated ttl taken = record {
  prefix = [];
  settings = record {
    root = true;
    interlink = false;
    failback = false;
    ttl = ttl;
    taken = taken;
  };
  targets = [];
  hint = 0;
}

-- a reply that was read, as its prefix and its targets; none where it is malformed
unfoldable pub heard : replies.Reply replies.ReferralReply → Option (List (List ℕ))
heard malformed = None
heard nothing = Some []
heard (says r) = Some (r.prefix ∷ map (λ t. t.path) r.targets)

pub data Row : Type 0 where
  -- a prefix, a path, and whether it matches
  matching : (prefix path : List ℕ) → Bool → Row
  -- a start from these caches with this limit and path, and so many answers 0x80000005: what the last call shows
  calling : Caches → (limit : ℕ) → (path : List ℕ) → (answers : ℕ) → Told → Row
  -- a start from these caches with this limit and path: the moves made in it, and what it shows
  moving : Caches → (limit : ℕ) → (path : List ℕ) → List Move → Told → Row
  -- taken, now: the age; and with a TTL whether it is expired
  aging : (taken clock : ℕ) → ℕ → Row
  expiring : (taken clock ttl : ℕ) → Bool → Row
  -- a name asked, and how many bytes the request has
  requesting : (name : List ℕ) → ℕ → Row
  -- a prefix, a target and a path: the path replaced
  replacing : (prefix target path : List ℕ) → List ℕ → Row
  -- a reply to a request for this name, cut to so many bytes: what is read
  reading : (name reply : List ℕ) (bytes : ℕ) → Option (List (List ℕ)) → Row

unfoldable pub Says : Row → Type 0
Says (matching prefix path b) = matches prefix path ≡ b
Says (calling c limit path n t) = told (run limit (memory c) (begin path) (overflows n)) ≡ t
Says (moving c limit path ms t) =
    (told (run limit (memory c) (begin path) start) ≡ t) × MovesOf limit (memory c) (begin path) start (made_in c ms)
Says (aging taken clock n) = age clock taken ≡ n
Says (expiring taken clock ttl b) = expired clock (dated ttl taken) ≡ b
Says (requesting name n) = length (request name) ≡ n
Says (replacing prefix target path s) = replaced target (length prefix) path ≡ s
Says (reading name reply n h) = (length (take n reply) ≡ n) × (heard (read_referral 8192 name (take n reply)) ≡ h)

-- the texts of the examples
module _ where
  -- \corp\leak\s1 and \CORP\Leak\S1
  abbrev pub leak : List ℕ
  leak = 92 ∷ 99 ∷ 111 ∷ 114 ∷ 112 ∷ 92 ∷ 108 ∷ 101 ∷ 97 ∷ 107 ∷ 92 ∷ 115 ∷ 49 ∷ []

  abbrev pub capitals : List ℕ
  capitals = 92 ∷ 67 ∷ 79 ∷ 82 ∷ 80 ∷ 92 ∷ 76 ∷ 101 ∷ 97 ∷ 107 ∷ 92 ∷ 83 ∷ 49 ∷ []

  -- one component of n units "a"
  abbrev pub long : ℕ → List ℕ
  long n = 92 ∷ replicate n 97

  -- \abc
  abbrev pub alone : List ℕ
  alone = 92 ∷ 97 ∷ 98 ∷ 99 ∷ []

  -- \files\s1 and \nas1\s1
  abbrev pub files : List ℕ
  files = 92 ∷ 102 ∷ 105 ∷ 108 ∷ 101 ∷ 115 ∷ 92 ∷ 115 ∷ 49 ∷ []

  abbrev pub nas : List ℕ
  nas = 92 ∷ 110 ∷ 97 ∷ 115 ∷ 49 ∷ 92 ∷ 115 ∷ 49 ∷ []

  -- \MyDomain\MyDfs, \someserver\someshare\somepath, \MyDir
  abbrev pub my_dfs : List ℕ
  my_dfs = 92 ∷ 77 ∷ 121 ∷ 68 ∷ 111 ∷ 109 ∷ 97 ∷ 105 ∷ 110 ∷ 92 ∷ 77 ∷ 121 ∷ 68 ∷ 102 ∷ 115 ∷ []

  abbrev pub some_target : List ℕ
  some_target =
      92 ∷ 115 ∷ 111 ∷ 109 ∷ 101 ∷ 115 ∷ 101 ∷ 114 ∷ 118 ∷ 101 ∷ 114 ∷ 92 ∷ 115 ∷ 111 ∷ 109 ∷ 101 ∷ 115 ∷ 104 ∷ 97 ∷ 114 ∷ 101
      ∷ 92 ∷ 115 ∷ 111 ∷ 109 ∷ 101 ∷ 112 ∷ 97 ∷ 116 ∷ 104 ∷ []

  abbrev pub my_dir : List ℕ
  my_dir = 92 ∷ 77 ∷ 121 ∷ 68 ∷ 105 ∷ 114 ∷ []

  -- \a\b, and \a\b\c
  abbrev pub ab : List ℕ
  ab = 92 ∷ 97 ∷ 92 ∷ 98 ∷ []

  abbrev pub abc : List ℕ
  abc = ab ++ (92 ∷ 99 ∷ [])

-- caches with nothing in them; a fresh link \a\b with Interlink and target \a\b
abbrev pub empty : Caches
empty = record { referrals = free ∷ []; domains = free ∷ [] }

abbrev pub interlinked : Caches
interlinked = record {
  referrals =
      used (record {
        prefix = ab;
        settings = record {
          root = false;
          interlink = true;
          failback = false;
          ttl = 300;
          taken = 0;
        };
        targets = record { path = ab; opens = false } ∷ [];
        hint = 0;
      })
      ∷ [];
  domains = free ∷ [];
}

-- one version 3 entry, \files\s1 to \nas1\s1, offsets 34, 34, 54; a root, TTL 300
abbrev pub reply : List ℕ
reply =
    (18 ∷ 0 ∷ 1 ∷ 0 ∷ 3 ∷ 0 ∷ 0 ∷ 0 ∷ [])
    ++ ((3 ∷ 0 ∷ 34 ∷ 0 ∷ 1 ∷ 0 ∷ 0 ∷ 0 ∷ 44 ∷ 1 ∷ 0 ∷ 0 ∷ 34 ∷ 0 ∷ 34 ∷ 0 ∷ 54 ∷ 0 ∷ [])
    ++ (replicate 16 0 ++ (bytes_of (files ++ (0 ∷ [])) ++ bytes_of (nas ++ (0 ∷ [])))))

-- The table.
unfoldable pub rows : List Row
rows =
    -- `\corp\leak\s1` does not match `\corp\leak\s10\a`; it matches `\CORP\Leak\S1`
    matching leak (leak ++ (48 ∷ 92 ∷ 97 ∷ [])) false
    ∷ matching leak capitals true
    -- normalised, 256 units pass, 257 give 2; "\" gives 1; `\abc` ends 21 with 0 moves
    ∷ calling empty 4 (long 255) 0 (ends 21 0)
    ∷ calling empty 4 (92 ∷ (long 255 ++ (92 ∷ []))) 0 (ends 21 0)
    ∷ calling empty 4 (long 256) 0 (gives 2)
    ∷ calling empty 4 (92 ∷ []) 0 (gives 1)
    ∷ calling empty 4 alone 0 (ends 21 0)
    -- taken 4294967290, now 4: TTL 10 expired, TTL 11 not. Taken 100, now 99: age 4294967295. TTL 0: expired
    ∷ expiring 4294967290 4 10 true
    ∷ expiring 4294967290 4 11 false
    ∷ aging 100 99 4294967295
    ∷ expiring 100 100 0 true
    -- sizes from 8,192: 16,384, 32,768, 57,344, then failure
    ∷ calling empty 64 files 0 (puts 8192 1)
    ∷ calling empty 64 files 1 (puts 16384 2)
    ∷ calling empty 64 files 2 (puts 32768 3)
    ∷ calling empty 64 files 3 (puts 57344 4)
    ∷ calling empty 64 files 4 (ends 21 4)
    -- request for `\files\s1`: 22 bytes
    ∷ requesting files 22
    -- prefix `\MyDomain\MyDfs`, target `\someserver\someshare\somepath`, path `\MyDomain\MyDfs\MyDir`: `\someserver\someshare\somepath\MyDir`
    ∷ replacing my_dfs some_target (my_dfs ++ my_dir) (some_target ++ my_dir)
    -- `\a\b\c`, a fresh link `\a\b` with Interlink and target `\a\b`, limit 5: five moves, no question, end 24
    ∷ moving interlinked 5 abc (replacement abc ∷ replacement abc ∷ replacement abc ∷ replacement abc ∷ replacement abc ∷ []) (ends 24 5)
    -- one version 3 entry, `\files\s1` to `\nas1\s1`, offsets 34, 34, 54: 80 bytes are read, 79 are malformed
    ∷ reading files reply 80 (Some (files ∷ nas ∷ []))
    ∷ reading files reply 79 None
    ∷ []

-- every row of a list says what holds
pub data EachSays : List Row → Type 0 where
  no_row : EachSays []
  a_row : {r : Row} {rs : List Row} → Says r → EachSays rs → EachSays (r ∷ rs)
