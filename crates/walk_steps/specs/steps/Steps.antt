-- The client steps: source document 000, with document 01's choices. Nothing outside this file decides a transition.
--
-- A walk has a path. It is at rest at a question that waits for its answer, or at an end. An event (a start, a referral's answer, an
-- I/O answer) changes the caches at most by what it stores and by one hint, and then the steps go on from there: they call for an
-- end, for a question, or for a replacement of the path (step 11), after which they go on from step 2. The steps themselves change no
-- cache. A question put and a replacement are moves (document 01's word).
--
-- Where a step of document 000 stands; a definition comes after those that it uses, so that the last steps come first.
--   1 started            6 step6, step6_host; failures: failed, failed_host    11 step11
--   2 step2              7 step7                                             12 step12
--   3 step3              8 step8; its outcomes: io_answered, io_fails;         13 step13
--   4 step4                8.1.2: covers_nothing                              14 step14
--   5 step5              9 step9, link_request
--                       10 step10
-- Replies: referral_answered (3.1.5.4), referral_answer and stored_turn (3.1.5.4.3, 3.1.5.4.4), dc_answer (3.1.5.4.2). The limit: goes.
use Rattle.std.specs.Prelude.{ℕ, zero, suc, ◌+◌, ◌*◌, ◌/◌, min, Bool, true, false, ◌&&◌, ◌||◌, not, List, [], ◌∷◌, length, get_or, take, leb, ltb, eqb, Option, None, Some}
use Rattle.laws.specs.Choice.{choose}
use Rattle.unc.specs.names.Paths.{components, component_count, first_of, is_sysvol, replaced, path_units}
use Rattle.cache.specs.order.Entries.{Referral, Domain, Place}
use Rattle.cache.specs.order.Memory.{referrals, domains}
use Rattle.cache_lookup.specs.Lookup.{longest_match, with_key, expired, target_path, target_hinted, dc_hinted}
use Rattle.reply_read.specs.referral.Request.{most_size}
use Rattle.reply_read.specs.referral.Replies as replies
use Rattle.reply_read.specs.referral.Replies.{malformed, nothing, says, read_referral}
use Rattle.reply_read.specs.name_lists.NameLists.{read_dcs}
use Rattle.walk_steps.specs.declared.steps.Kind.{Kind}
use Rattle.walk_steps.specs.declared.steps.Kind.TheVariants.{Dc, Root, Link, Sysvol, Io}
use Rattle.walk_steps.specs.declared.steps.End.{End}
use Rattle.walk_steps.specs.declared.steps.End.TheVariants.{Done, NotDfs, NoDc, Failed, LimitReached, Malformed, TooLong, Gone}
use Rattle.cache_store.specs.entry_after_reply.Stored.{held, prefixed, stored_entry, stored, is_interlink, dcs_stored}

-- Both caches.
pub record Caches : Type 0 where
  pub referrals : List (Place Referral)
  pub domains : List (Place Domain)

-- What the steps use of a walk: the path (that after the last step 11 replacement), the size given, and whether the walk had a cache
-- hit or a successful referral. The bootstrap DC is only a party's name, and no step looks at it.
pub record Core : Type 0 where
  pub path : List ℕ
  pub size : ℕ
  pub hit : Bool

-- "Ends: 20 done, 21 not DFS, 22 no DC, 23 failed in DFS, 24 limit reached, 25 reply malformed, 26 new path too long, 27 the entry in use is gone"
unfoldable pub end_number : End → ℕ
end_number Done = 20
end_number NotDfs = 21
end_number NoDc = 22
end_number Failed = 23
end_number LimitReached = 24
end_number Malformed = 25
end_number TooLong = 26
end_number Gone = 27

-- A question of a kind (`ask=` of the program `walk`: dc, root, link, sysvol, io). `entry` is how many units of the path name the entry in use: a domain (dc, root, sysvol) or a prefix (link, io); 0 for a
-- root request to a host. `party` is the place of the DC or target asked, `began` the place where its round began, `size` the size asked,
-- `tried` the path of an I/O try; `uncovered` says that a link request came of PATH_NOT_COVERED.
pub record Question : Type 0 where
  pub kind : Kind
  pub entry : ℕ
  pub party : ℕ
  pub began : ℕ
  pub size : ℕ
  pub tried : List ℕ
  pub uncovered : Bool

-- What the steps call for: an end with its status and the path tried (end 20 has one), a question, or step 11's new path.
pub data Called : Type 0 where
  stops : End → ℕ → List ℕ → Called
  asks : Question → Called
  replaces : List ℕ → Called

abbrev pub ends : End → ℕ → Called
ends e status = stops e status []

-- Step 12: the path is no DFS path. Step 13: no DC of its domain. Step 14: it is a DFS path, and the request or the I/O failed.
abbrev pub step12 : Called
step12 = ends NotDfs 0

abbrev pub step13 : ℕ → Called
step13 status = ends NoDc status

abbrev pub step14 : ℕ → Called
step14 status = ends Failed status

-- the entry of the longest match; the domain of an equal name
unfoldable pub longest : List ℕ → List (Place Referral) → Option Referral
longest path ps = held (longest_match path ps) ps

unfoldable pub domain_named : List ℕ → List (Place Domain) → Option Domain
domain_named name ps = held (with_key domains name ps) ps

-- statuses that are named
abbrev pub buffer_overflow : ℕ
buffer_overflow = 0x80000005

abbrev pub path_not_found : ℕ
path_not_found = 0xC000003A

abbrev pub path_not_covered : ℕ
path_not_covered = 0xC0000257

-- Sev, the top two bits of a status
unfoldable pub severity : ℕ → ℕ
severity status = status / 1073741824

-- Step 3, then step 8: the I/O try at a target of the entry, in a round that began at `began`. The prefix is replaced by the target's path.
unfoldable pub step8 : Core → Referral → ℕ → ℕ → Question
step8 w e place began = record {
  kind = Io;
  entry = length e.prefix;
  party = place;
  began = began;
  size = 0;
  tried = replaced (target_path place e) (length e.prefix) w.path;
  uncovered = false;
}

unfoldable pub step3 : Core → Referral → Question
step3 w e = step8 w e e.hint e.hint

-- Step 11: the prefix is replaced by the target hinted at; the steps go on from step 2 with this path.
unfoldable pub step11 : Core → Referral → List ℕ
step11 w e = replaced (target_path e.hint e) (length e.prefix) w.path

-- Step 4: a link. SYSVOL and NETLOGON go to step 3, an Interlink to step 11, any other to step 3.
unfoldable pub step4 : Core → Referral → Called
step4 w e = choose (not (is_sysvol w.path) && e.settings.interlink) (replaces (step11 w e)) (asks (step3 w e))

-- Steps 2.3, 7, 8.1.3, 9.1 and 9.2: root targets go to step 3, link targets to step 4.
unfoldable pub step7 : Core → Referral → Called
step7 w e = choose e.settings.root (asks (step3 w e)) (step4 w e)

-- Step 6, through a domain: a root request to one of its DCs, in a round that began at `began`. The name of the domain is the path's first component.
unfoldable pub step6 : Core → ℕ → ℕ → Question
step6 w place began =
    record { kind = Root; entry = length (first_of 1 w.path); party = place; began = began; size = w.size; tried = []; uncovered = false }

-- Step 6, with the first component as the host's name.
unfoldable pub step6_host : Core → Question
step6_host w = record { kind = Root; entry = 0; party = 0; began = 0; size = w.size; tried = []; uncovered = false }

-- Step 10: a SYSVOL request to the DC hinted at.
unfoldable pub step10 : Core → Domain → Question
step10 w d =
    record { kind = Sysvol; entry = length (first_of 1 w.path); party = d.hint; began = d.hint; size = w.size; tried = []; uncovered = false }

-- Step 5.2: a domain. Without a DC a DC request to the bootstrap DC; then SYSVOL and NETLOGON go to step 10, any other path to step 6.
unfoldable pub dc_request : Core → Question
dc_request w = record { kind = Dc; entry = length (first_of 1 w.path); party = 0; began = 0; size = w.size; tried = []; uncovered = false }

unfoldable pub step5_domain : Core → Domain → Question
step5_domain w d =
    choose (eqb (length d.dcs) 0) (dc_request w)
    (choose (is_sysvol w.path) (step10 w d) (step6 w d.hint d.hint))

-- Step 5: the first component is looked up in the domain cache.
unfoldable pub step5_with : Core → Option Domain → Question
step5_with w None = step6_host w
step5_with w (Some d) = step5_domain w d

unfoldable pub step5 : List (Place Domain) → Core → Question
step5 ds w = step5_with w (domain_named (get_or (components w.path) 0 []) ds)

-- Step 9: an expired link is asked for at the targets of the root entry of exactly the first two components; without one, step 5.
unfoldable pub link_request : Core → ℕ → ℕ → ℕ → Bool → Question
link_request w entry place began uncovered =
    record { kind = Link; entry = entry; party = place; began = began; size = w.size; tried = []; uncovered = uncovered }

unfoldable pub step9_with : Caches → Core → Option Referral → Question
step9_with c w None = step5 c.domains w
step9_with c w (Some e) = choose e.settings.root (link_request w (length e.prefix) e.hint e.hint false) (step5 c.domains w)

unfoldable pub step9 : Caches → Core → Question
step9 c w = step9_with c w (prefixed (first_of 2 w.path) c.referrals)

-- Step 2: the longest match in the referral cache. An expired root goes to step 5, an expired link to step 9, a fresh entry to step 3 or 4.
unfoldable pub step2_with : Caches → Core → ℕ → Option Referral → Called
step2_with c w clock None = asks (step5 c.domains w)
step2_with c w clock (Some e) = choose (expired clock e) (asks (choose e.settings.root (step5 c.domains w) (step9 c w))) (step7 w e)

unfoldable pub step2 : Caches → Core → ℕ → Called
step2 c w clock = step2_with c w clock (longest w.path c.referrals)

unfoldable pub is_there : {E : Type 0} → Option E → Bool
is_there None = false
is_there (Some e) = true

-- "ReferralCache hit": a match at step 2, expired or not
unfoldable pub hit_at : Caches → Core → Bool
hit_at c w = w.hit || is_there (longest w.path c.referrals)

-- The steps from step 2 on, with the hit that it may bring.
pub record Turn : Type 0 where
  pub caches : Caches
  pub core : Core
  pub called : Called

unfoldable pub with_hit : Bool → Core → Core
with_hit hit w = record { path = w.path; size = w.size; hit = hit }

unfoldable pub with_path : List ℕ → Core → Core
with_path path w = record { path = path; size = w.size; hit = w.hit }

unfoldable pub from_step2 : Caches → Core → ℕ → Turn
from_step2 c w clock = record { caches = c; core = with_hit (hit_at c w) w; called = step2 c w clock }

-- Step 1: a path of one component is no DFS path (step 12).
unfoldable pub started : Caches → Core → ℕ → Turn
started c w clock =
    choose (eqb (component_count w.path) 1) (record { caches = c; core = w; called = step12 }) (from_step2 c w clock)

-- The name asked: "\domain" for a DC request, the first two components for root and SYSVOL, the whole path for a link; the path of an I/O try.
unfoldable pub name_asked : Core → Question → List ℕ
name_asked w q = named q.kind
  where
    named : Kind → List ℕ
    named Dc = first_of 1 w.path
    named Root = first_of 2 w.path
    named Link = w.path
    named Sysvol = first_of 2 w.path
    named Io = q.tried

-- The entry in use: the domain of the first component, or the referral entry of an equal prefix.
unfoldable pub domain_in_use : Caches → Core → Option Domain
domain_in_use c w = domain_named (get_or (components w.path) 0 []) c.domains

unfoldable pub referral_in_use : Caches → Core → Question → Option Referral
referral_in_use c w q = prefixed (take q.entry w.path) c.referrals

-- how many parties the entry in use has; 0 where it is gone
unfoldable pub dc_count : Option Domain → ℕ
dc_count None = 0
dc_count (Some d) = length d.dcs

unfoldable pub target_count : Option Referral → ℕ
target_count None = 0
target_count (Some e) = length e.targets

unfoldable pub party_count : Caches → Core → Question → ℕ
party_count c w q = counted q.kind
  where
    counted : Kind → ℕ
    counted Dc = dc_count (domain_in_use c w)
    counted Root = dc_count (domain_in_use c w)
    counted Link = target_count (referral_in_use c w q)
    counted Sysvol = dc_count (domain_in_use c w)
    counted Io = target_count (referral_in_use c w q)

-- "27 the entry in use is gone or has too few targets (or DCs)": the party asked and the one with which the round began are still there.
-- A DC request needs its domain only, a root request to a host needs nothing.
unfoldable pub is_in_use : Caches → Core → Question → Bool
is_in_use c w q = usable q.kind
  where
    round : Bool
    round = ltb q.party (party_count c w q) && ltb q.began (party_count c w q)

    usable : Kind → Bool
    usable Dc = is_there (domain_in_use c w)
    usable Root = eqb q.entry 0 || round
    usable Link = round
    usable Sysvol = round
    usable Io = round

-- Rounds: "from the hint onward, round past the last, each once": the next party of n, or what comes when the round is exhausted.
unfoldable pub next_place : ℕ → ℕ → ℕ
next_place n place = choose (leb n (place + 1)) 0 (place + 1)

unfoldable pub onward : ℕ → Question → (ℕ → Question) → Called → Called
onward n q ask exhausted = choose (eqb (next_place n q.party) q.began) exhausted (asks (ask (next_place n q.party)))

-- A referral that fails (severity 2 or 3). 0x80000005 first asks the same party again with the size doubled, at most 57,344.
unfoldable pub doubled : Question → Question
doubled q = record {
  kind = q.kind;
  entry = q.entry;
  party = q.party;
  began = q.began;
  size = min (2 * q.size) most_size;
  tried = q.tried;
  uncovered = q.uncovered;
}

-- "SYSVOL and DC requests try one party; its failure ends 22 with its status. DCs exhausted: end 22 with 0xC000003A. Targets exhausted: end 23 with
-- the last status. A root request to a host that fails: end 21 if the walk has had no cache hit and no successful referral, else end 23."
unfoldable pub failed_host : Core → ℕ → Called
failed_host w status = choose w.hit (step14 status) step12

unfoldable pub failed : Caches → Core → Question → ℕ → Called
failed c w q status = failing q.kind
  where
    failing : Kind → Called
    failing Dc = step13 status
    failing Sysvol = step13 status
    failing Root =
        choose (eqb q.entry 0) (failed_host w status)
        (onward (party_count c w q) q (λ place. step6 w place q.began) (step13 path_not_found))
    failing Link =
        onward (party_count c w q) q (λ place. link_request w q.entry place q.began q.uncovered) (step14 status)
    -- cannot come: an I/O try has an answer of its own
    failing Io = step14 status

unfoldable pub referral_fails : Caches → Core → Question → ℕ → Called
referral_fails c w q status =
    choose (eqb status buffer_overflow && ltb q.size most_size) (asks (doubled q)) (failed c w q status)

-- "Success sets the hint to the party that answered": of the entry in use, where there is one.
unfoldable pub with_referrals : List (Place Referral) → Caches → Caches
with_referrals ps c = record { referrals = ps; domains = c.domains }

unfoldable pub with_domains : List (Place Domain) → Caches → Caches
with_domains ps c = record { referrals = c.referrals; domains = ps }

unfoldable pub dc_hint_set : Caches → Core → ℕ → Caches
dc_hint_set c w place = at (with_key domains (get_or (components w.path) 0 []) c.domains)
  where
    at : Option ℕ → Caches
    at None = c
    at (Some i) = with_domains (dc_hinted i place c.domains) c

unfoldable pub target_hint_set : Caches → Core → Question → Caches
target_hint_set c w q = at (with_key referrals (take q.entry w.path) c.referrals)
  where
    at : Option ℕ → Caches
    at None = c
    at (Some i) = with_referrals (target_hinted i q.party c.referrals) c

unfoldable pub hint_set : Caches → Core → Question → Caches
hint_set c w q = by q.kind
  where
    by : Kind → Caches
    by Dc = c
    by Root = choose (eqb q.entry 0) c (dc_hint_set c w q.party)
    by Link = target_hint_set c w q
    by Sysvol = dc_hint_set c w q.party
    by Io = target_hint_set c w q

-- A reply without an entry: "end 23 with 0xC000003A (22 for DC and SYSVOL)".
unfoldable pub empty_end : Kind → End
empty_end Dc = NoDc
empty_end Root = Failed
empty_end Link = Failed
empty_end Sysvol = NoDc
-- cannot come: an I/O try has no reply
empty_end Io = Failed

-- A DC reply: the DCs are stored, and step 5.2 goes on.
unfoldable pub dcs_in : Caches → Core → List (List ℕ) → Caches
dcs_in c w names = at (with_key domains (get_or (components w.path) 0 []) c.domains)
  where
    at : Option ℕ → Caches
    at None = c
    at (Some i) = with_domains (dcs_stored i names c.domains) c

unfoldable pub dc_answer : Caches → Core → replies.Reply (List (List ℕ)) → Turn
dc_answer c w malformed = record { caches = c; core = w; called = ends Malformed 0 }
dc_answer c w nothing = record { caches = c; core = w; called = ends (empty_end Dc) path_not_found }
dc_answer c w (says names) =
    record { caches = dcs_in c w names; core = with_hit true w; called = asks (step5 (dcs_in c w names).domains (with_hit true w)) }

-- Step 8.1.2, after PATH_NOT_COVERED: "a reply of kind root, or a prefix no longer than that in use, ends 23 with 0xC0000257 and stores nothing".
unfoldable pub covers_nothing : Question → replies.ReferralReply → Bool
covers_nothing q r = q.uncovered && (r.root || leb (length r.prefix) q.entry)

-- A root, link or SYSVOL reply that is stored: the hint of the party that answered, then the entry. The entry just stored is the one in use:
-- SYSVOL goes to step 3, root and link replies to step 3 or 4 by their kind.
unfoldable pub after_store : Kind → Core → Referral → Called
after_store Root w e = step7 w e
after_store Link w e = step7 w e
after_store Sysvol w e = asks (step3 w e)
-- cannot come: neither stores a referral
after_store Dc w e = step7 w e
after_store Io w e = step7 w e

unfoldable pub stored_turn : Caches → Core → Question → replies.ReferralReply → ℕ → Turn
stored_turn c w q r clock =
    record {
      caches = with_referrals (stored r (is_interlink r c.domains) clock c.referrals) c;
      core = with_hit true w;
      called = after_store q.kind w (stored_entry (prefixed r.prefix c.referrals) r (is_interlink r c.domains) clock);
    }

unfoldable pub referral_answer : Caches → Core → Question → ℕ → replies.Reply replies.ReferralReply → Turn
referral_answer c w q clock malformed = record { caches = c; core = w; called = ends Malformed 0 }
referral_answer c w q clock nothing = record { caches = c; core = w; called = ends (empty_end q.kind) path_not_found }
referral_answer c w q clock (says r) =
    choose (covers_nothing q r)
    (record { caches = c; core = w; called = step14 path_not_covered })
    (stored_turn (hint_set c w q) w q r clock)

unfoldable pub referral_succeeds : Caches → Core → Question → List ℕ → ℕ → Turn
referral_succeeds c w q reply clock = by q.kind
  where
    by : Kind → Turn
    by Dc = dc_answer c w (read_dcs q.size reply)
    by Root = referral_answer c w q clock (read_referral q.size (name_asked w q) reply)
    by Link = referral_answer c w q clock (read_referral q.size (name_asked w q) reply)
    by Sysvol = referral_answer c w q clock (read_referral q.size (name_asked w q) reply)
    -- cannot come: an I/O try has no reply
    by Io = record { caches = c; core = w; called = ends Malformed 0 }

-- The answer to a referral request. The entry in use is looked up before the answer is read.
unfoldable pub referral_answered : Caches → Core → Question → ℕ → List ℕ → ℕ → Turn
referral_answered c w q status reply clock =
    choose (is_in_use c w q)
    (choose (leb 2 (severity status))
    (record { caches = c; core = w; called = referral_fails c w q status })
    (referral_succeeds c w q reply clock))
    (record { caches = c; core = w; called = ends Gone 0 })

-- Step 8's outcome. "I/O fails only at severity 3. Next target on 0xC00000B5 ..; any other ends 23, PATH_NOT_COVERED apart."
abbrev pub next_target_statuses : List ℕ
next_target_statuses = 0xC00000B5 ∷ 0xC00000BE ∷ 0xC00000C9 ∷ 0xC00000CC ∷ 0xC0000236 ∷ 0xC000023D ∷ []

unfoldable pub is_one_of : ℕ → List ℕ → Bool
is_one_of n [] = false
is_one_of n (m ∷ ms) = eqb n m || is_one_of n ms

unfoldable pub io_fails : Core → Question → ℕ → Referral → Called
io_fails w q status e =
    choose (eqb status path_not_covered)
    (choose e.settings.root (asks (link_request w q.entry q.party q.party true)) (step14 status))
    (choose (is_one_of status next_target_statuses)
    (onward (length e.targets) q (λ place. step8 w e place q.began) (step14 status))
    (step14 status))

unfoldable pub io_with : Caches → Core → Question → ℕ → Option Referral → Turn
-- cannot come: the entry was found to be in use
io_with c w q status None = record { caches = c; core = w; called = ends Gone 0 }
io_with c w q status (Some e) =
    choose (eqb (severity status) 3)
    (record { caches = c; core = w; called = io_fails w q status e })
    (record { caches = hint_set c w q; core = w; called = stops Done status q.tried })

unfoldable pub io_answered : Caches → Core → Question → ℕ → Turn
io_answered c w q status =
    choose (is_in_use c w q) (io_with c w q status (referral_in_use c w q)) (record { caches = c; core = w; called = ends Gone 0 })

-- Where the steps come to rest: at a question or at an end, which has its status and the path tried; with so many moves left.
pub data Rest : Type 0 where
  waits : Question → Rest
  ended : End → ℕ → List ℕ → Rest

pub record Resting : Type 0 where
  pub core : Core
  pub left : ℕ
  pub rest : Rest

-- "Before a move the limit is tested, then the length of the new path; neither end counts as a move." The moves left are the limit.
unfoldable pub rests : Core → ℕ → Rest → Resting
rests w n r = record { core = w; left = n; rest = r }

unfoldable pub asking : ℕ → Core → Question → Resting
asking zero w q = rests w zero (ended LimitReached 0 [])
asking (suc n) w q = choose (leb (length q.tried) path_units) (rests w n (waits q)) (rests w (suc n) (ended TooLong 0 []))

unfoldable pub goes : ℕ → Caches → ℕ → Core → Called → Resting
goes zero c clock w (stops e status tried) = rests w zero (ended e status tried)
goes zero c clock w (asks q) = asking zero w q
goes zero c clock w (replaces p) = rests w zero (ended LimitReached 0 [])
goes (suc n) c clock w (stops e status tried) = rests w (suc n) (ended e status tried)
goes (suc n) c clock w (asks q) = asking (suc n) w q
goes (suc n) c clock w (replaces p) =
    choose (leb (length p) path_units)
    (goes n c clock (with_hit (hit_at c (with_path p w)) (with_path p w)) (step2 c (with_path p w) clock))
    (rests w (suc n) (ended TooLong 0 []))

-- where they rest after an event, with so many moves left
unfoldable pub turned : ℕ → ℕ → Turn → Resting
turned left clock t = goes left t.caches clock t.core t.called
