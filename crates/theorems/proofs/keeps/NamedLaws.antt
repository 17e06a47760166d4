-- An event changes no place but those that it names.
use Rattle.std.specs.Prelude.{Option, None, Some}
use mathlib.Core.Path.{◌≡◌, refl, sym, ap, ◌∙◌, subst}
use mathlib.Core.Bool.{Bool, false, ◌||◌}
use mathlib.Core.List.{List, [], ◌∷◌}
use Prim.Native.Nat.{ℕ, zero, suc, ◌+◌}
use lib.ListN.{get_or, take, set}
use lib.Seq.{get_or-set_other}
use lib.Dec.{eqb, leb, ltb}
use borrow.Author.Tests.{eqb-false}
use Rattle.laws.specs.Choice.{choose}
use Rattle.laws.proofs.Choices.{or_none}
use Rattle.unc.specs.names.Paths.{components}
use Rattle.cache.specs.order.Entries.{Referral, Place, free, used}
use Rattle.cache.specs.order.Memory.{referrals, domains}
use Rattle.cache_lookup.specs.Lookup.{has_key, with_key_from, with_key, first_free_from, place_age, oldest_from, oldest, found_or, new_place, on_entry, target_hint_to, target_hinted, dc_hinted}
use Rattle.reply_read.specs.referral.Replies as replies
use Rattle.reply_read.specs.referral.Replies.{malformed, nothing, says, read_referral}
use Rattle.reply_read.specs.name_lists.NameLists.{read_dcs}
use Rattle.cache_store.specs.entry_after_reply.Stored.{store_place, stored}
use Rattle.cache_store.proofs.domain_cache.DcLaws.{dcs_elsewhere}
use Rattle.walk_steps.specs.steps.Steps.{Caches, Core, Question, Turn, with_referrals, with_domains, dc_hint_set, target_hint_set, hint_set, dcs_in, dc_answer, name_asked, is_in_use, referral_in_use, severity, covers_nothing, stored_turn, referral_answer, referral_succeeds, referral_answered, io_with, io_answered}
use Rattle.walk_steps.specs.declared.steps.Kind.{Kind}
use Rattle.walk_steps.specs.declared.steps.Kind.TheVariants.{Dc, Root, Link, Sysvol, Io}
use Rattle.theorems.specs.keeps.Named.{is_at, uses_prefix, uses_domain, stores_at, stores, Elsewhere}
use Rattle.theorems.proofs.keeps.CalledLaws.{chosen}
use Rattle.theorems.proofs.keeps.HintLaws.{kind_to, target_none, target_at_lem, dc_none, dc_at, dcs_none, dcs_at}

-- a hint changes no key and no age, and frees no place: a reply goes where it would have gone
module _ (h : ℕ) where
  same_key : (name : List ℕ) (p : Place Referral) → has_key referrals name (on_entry (target_hint_to h) p) ≡ has_key referrals name p
  unfolding has_key on_entry target_hint_to
  same_key name free = refl
  same_key name (used e) = refl

  same_age : (clock : ℕ) (p : Place Referral) → place_age clock (on_entry (target_hint_to h) p) ≡ place_age clock p
  unfolding place_age on_entry target_hint_to
  same_age clock free = refl
  same_age clock (used e) = refl

  same_found : (name : List ℕ) (n : ℕ) (ps : List (Place Referral)) (i : ℕ)
      → with_key_from referrals name n (set ps i (on_entry (target_hint_to h) (get_or ps i free))) ≡ with_key_from referrals name n ps
  unfolding with_key_from
  same_found name n [] i = refl
  same_found name n (p ∷ ps) zero = ap (λ (b : Bool). choose b (Some n) (with_key_from referrals name (n + 1) ps)) (same_key name p)
  same_found name n (p ∷ ps) (suc i) = ap (choose (has_key referrals name p) (Some n)) (same_found name (n + 1) ps i)

  same_free : (n : ℕ) (ps : List (Place Referral)) (i : ℕ) → first_free_from n (set ps i (on_entry (target_hint_to h) (get_or ps i free))) ≡ first_free_from n ps
  unfolding first_free_from on_entry
  same_free n [] i = refl
  same_free n (free ∷ ps) zero = refl
  same_free n (used e ∷ ps) zero = refl
  same_free n (free ∷ ps) (suc i) = refl
  same_free n (used e ∷ ps) (suc i) = same_free (n + 1) ps i

  same_oldest : (clock n best m : ℕ) (ps : List (Place Referral)) (i : ℕ)
      → oldest_from clock n best m (set ps i (on_entry (target_hint_to h) (get_or ps i free))) ≡ oldest_from clock n best m ps
  unfolding oldest_from
  same_oldest clock n best m [] i = refl
  same_oldest clock n best m (p ∷ ps) zero =
      ap (λ (a : ℕ). oldest_from clock (n + 1) (choose (ltb m a) n best) (choose (ltb m a) a m) ps) (same_age clock p)
  same_oldest clock n best m (p ∷ ps) (suc i) =
      same_oldest clock (n + 1) (choose (ltb m (place_age clock p)) n best) (choose (ltb m (place_age clock p)) (place_age clock p) m) ps i

  same_place : (clock : ℕ) (prefix : List ℕ) (ps : List (Place Referral)) (i : ℕ) → store_place clock prefix (target_hinted i h ps) ≡ store_place clock prefix ps
  unfolding store_place new_place oldest with_key target_hinted
  same_place clock prefix ps i =
      λ j. found_or (found_or (same_oldest clock 0 0 0 ps i j) (same_free 0 ps i j)) (same_found prefix 0 ps i j)

-- nothing changes
pub same_elsewhere : (f g : ℕ → Bool) (c : Caches) → Elsewhere f g c c
same_elsewhere f g c = record { prefixes = λ i h. refl; names = λ i h. refl }

module _ (c : Caches) (w : Core) (q : Question) where
  -- the hint of the entry in use
  target_elsewhere : (f g : ℕ → Bool) (k : Kind) → ((i : ℕ) → f i ≡ false → is_at i (with_key referrals (take q.entry w.path) c.referrals) ≡ false)
      → Elsewhere f g c (target_hint_set c w (kind_to k q))
  unfolding is_at with_referrals target_hinted
  target_elsewhere f g k u = go (with_key referrals (take q.entry w.path) c.referrals) refl
    where
      go : (x : Option ℕ) → with_key referrals (take q.entry w.path) c.referrals ≡ x → Elsewhere f g c (target_hint_set c w (kind_to k q))
      go None h = subst (Elsewhere f g c) (sym (target_none c w (kind_to k q) h)) (same_elsewhere f g c)
      go (Some j) h =
          subst (Elsewhere f g c) (sym (target_at_lem c w (kind_to k q) j h)) (record {
            prefixes = λ i n. get_or-set_other c.referrals j i _ free (eqb-false i j (ap (is_at i) (sym h) ∙ u i n));
            names = λ i n. refl;
          })

  dc_elsewhere : (f g : ℕ → Bool) (place : ℕ) → ((i : ℕ) → g i ≡ false → is_at i (with_key domains (get_or (components w.path) 0 []) c.domains) ≡ false)
      → Elsewhere f g c (dc_hint_set c w place)
  unfolding is_at with_domains dc_hinted
  dc_elsewhere f g place u = go (with_key domains (get_or (components w.path) 0 []) c.domains) refl
    where
      go : (x : Option ℕ) → with_key domains (get_or (components w.path) 0 []) c.domains ≡ x → Elsewhere f g c (dc_hint_set c w place)
      go None h = subst (Elsewhere f g c) (sym (dc_none c w place h)) (same_elsewhere f g c)
      go (Some j) h =
          subst (Elsewhere f g c) (sym (dc_at c w place j h)) (record {
            prefixes = λ i n. refl;
            names = λ i n. get_or-set_other c.domains j i _ free (eqb-false i j (ap (is_at i) (sym h) ∙ u i n));
          })

  dcs_in_elsewhere : (f g : ℕ → Bool) (xs : List (List ℕ)) → ((i : ℕ) → g i ≡ false → is_at i (with_key domains (get_or (components w.path) 0 []) c.domains) ≡ false)
      → Elsewhere f g c (dcs_in c w xs)
  unfolding is_at with_domains
  dcs_in_elsewhere f g xs u = go (with_key domains (get_or (components w.path) 0 []) c.domains) refl
    where
      go : (x : Option ℕ) → with_key domains (get_or (components w.path) 0 []) c.domains ≡ x → Elsewhere f g c (dcs_in c w xs)
      go None h = subst (Elsewhere f g c) (sym (dcs_none c w xs h)) (same_elsewhere f g c)
      go (Some j) h =
          subst (Elsewhere f g c) (sym (dcs_at c w xs j h)) (record {
            prefixes = λ i n. refl;
            names = λ i n. dcs_elsewhere j xs c.domains i (eqb-false i j (ap (is_at i) (sym h) ∙ u i n));
          })

  hint_elsewhere : Elsewhere (uses_prefix c w q) (uses_domain c w q) c (hint_set c w q)
  unfolding hint_set uses_prefix uses_domain
  hint_elsewhere = go q.kind
    where
      go : (k : Kind) → Elsewhere (uses_prefix c w (kind_to k q)) (uses_domain c w (kind_to k q)) c (hint_set c w (kind_to k q))
      go Dc = same_elsewhere _ _ c
      go Root = chosen (Elsewhere (uses_prefix c w (kind_to Root q)) (uses_domain c w (kind_to Root q)) c) (eqb q.entry 0) _ _ (same_elsewhere _ _ c) (dc_elsewhere _ _ q.party (λ i n. n))
      go Link = target_elsewhere _ _ Link (λ i n. n)
      go Sysvol = dc_elsewhere _ _ q.party (λ i n. n)
      go Io = target_elsewhere _ _ Io (λ i n. n)

  -- the hint set, a reply goes where it would have gone
  hint_place : (clock : ℕ) (prefix : List ℕ) → store_place clock prefix (hint_set c w q).referrals ≡ store_place clock prefix c.referrals
  unfolding hint_set with_referrals with_domains
  hint_place clock prefix = go q.kind
    where
      Same : Caches → Type 0
      Same d = store_place clock prefix d.referrals ≡ store_place clock prefix c.referrals

      target : (k : Kind) (x : Option ℕ) → with_key referrals (take q.entry w.path) c.referrals ≡ x → Same (target_hint_set c w (kind_to k q))
      target k None h = subst Same (sym (target_none c w (kind_to k q) h)) refl
      target k (Some j) h = subst Same (sym (target_at_lem c w (kind_to k q) j h)) (same_place q.party clock prefix c.referrals j)

      dc : (x : Option ℕ) → with_key domains (get_or (components w.path) 0 []) c.domains ≡ x → Same (dc_hint_set c w q.party)
      dc None h = subst Same (sym (dc_none c w q.party h)) refl
      dc (Some j) h = subst Same (sym (dc_at c w q.party j h)) refl

      go : (k : Kind) → Same (hint_set c w (kind_to k q))
      go Dc = refl
      go Root = chosen Same (eqb q.entry 0) _ _ refl (dc (with_key domains (get_or (components w.path) 0 []) c.domains) refl)
      go Link = target Link (with_key referrals (take q.entry w.path) c.referrals) refl
      go Sysvol = dc (with_key domains (get_or (components w.path) 0 []) c.domains) refl
      go Io = target Io (with_key referrals (take q.entry w.path) c.referrals) refl

  -- a reply that is stored
  module _ (f : ℕ → Bool) (reply : replies.Reply replies.ReferralReply) (clock : ℕ)
      (uses : (i : ℕ) → f i ≡ false → uses_prefix c w q i ≡ false) (put : (i : ℕ) → f i ≡ false → stores_at c clock reply i ≡ false) where
    reply_elsewhere : Elsewhere f (uses_domain c w q) c (referral_answer c w q clock reply).caches
    unfolding referral_answer stored_turn with_referrals stored stores_at
    reply_elsewhere = go reply put
      where
        go : (x : replies.Reply replies.ReferralReply) → ((i : ℕ) → f i ≡ false → stores_at c clock x i ≡ false) → Elsewhere f (uses_domain c w q) c (referral_answer c w q clock x).caches
        go malformed u = same_elsewhere f (uses_domain c w q) c
        go nothing u = same_elsewhere f (uses_domain c w q) c
        go (says r) u =
            chosen (λ (t : Turn). Elsewhere f (uses_domain c w q) c t.caches) (covers_nothing q r) _ _ (same_elsewhere f (uses_domain c w q) c) (record {
              prefixes =
                  λ i n.
                  get_or-set_other (hint_set c w q).referrals (store_place clock r.prefix (hint_set c w q).referrals) i _ free
                  (λ e. eqb-false i (store_place clock r.prefix c.referrals) (u i n) (e ∙ hint_place clock r.prefix))
                  ∙ hint_elsewhere.prefixes i (uses i n);
              names = hint_elsewhere.names;
            })

module _ (c : Caches) (w : Core) (q : Question) where
  -- a success
  success_elsewhere : (reply : List ℕ) (clock : ℕ) → Elsewhere (λ i. uses_prefix c w q i || stores c w q reply clock i) (uses_domain c w q) c (referral_succeeds c w q reply clock).caches
  unfolding referral_succeeds stores uses_domain dc_answer
  success_elsewhere reply clock = go q.kind
    where
      Kept : Kind → Type 0
      Kept k =
          Elsewhere (λ i. uses_prefix c w (kind_to k q) i || stores c w (kind_to k q) reply clock i) (uses_domain c w (kind_to k q)) c
          (referral_succeeds c w (kind_to k q) reply clock).caches

      said : (k : Kind)
          → Elsewhere (λ i. uses_prefix c w (kind_to k q) i || stores_at c clock (read_referral q.size (name_asked w (kind_to k q)) reply) i) (uses_domain c w (kind_to k q)) c
          (referral_answer c w (kind_to k q) clock (read_referral q.size (name_asked w (kind_to k q)) reply)).caches
      said k =
          reply_elsewhere c w (kind_to k q) _ (read_referral q.size (name_asked w (kind_to k q)) reply) clock (λ i n. (or_none _ _ n).0) (λ i n. (or_none (uses_prefix c w (kind_to k q) i) _ n).1)

      dcs : (x : replies.Reply (List (List ℕ))) → Elsewhere (λ i. uses_prefix c w (kind_to Dc q) i || stores c w (kind_to Dc q) reply clock i) (uses_domain c w (kind_to Dc q)) c (dc_answer c w x).caches
      dcs malformed = same_elsewhere _ _ c
      dcs nothing = same_elsewhere _ _ c
      dcs (says xs) = dcs_in_elsewhere c w (kind_to Dc q) _ _ xs (λ i n. n)

      go : (k : Kind) → Kept k
      go Dc = dcs (read_dcs q.size reply)
      go Root = said Root
      go Link = said Link
      go Sysvol = said Sysvol
      go Io = same_elsewhere _ _ c

  -- the answer to a referral request, and to an I/O try
  pub answered_elsewhere : (status : ℕ) (reply : List ℕ) (clock : ℕ)
      → Elsewhere (λ i. uses_prefix c w q i || stores c w q reply clock i) (uses_domain c w q) c (referral_answered c w q status reply clock).caches
  unfolding referral_answered
  answered_elsewhere status reply clock =
      chosen Kept (is_in_use c w q) _ _ (chosen Kept (leb 2 (severity status)) _ _ (same_elsewhere _ _ c) (success_elsewhere reply clock)) (same_elsewhere _ _ c)
    where
      Kept : Turn → Type 0
      Kept t = Elsewhere (λ i. uses_prefix c w q i || stores c w q reply clock i) (uses_domain c w q) c t.caches

  pub tried_elsewhere : (status : ℕ) → Elsewhere (uses_prefix c w q) (uses_domain c w q) c (io_answered c w q status).caches
  unfolding io_answered io_with
  tried_elsewhere status = chosen Kept (is_in_use c w q) _ _ (go (referral_in_use c w q)) (same_elsewhere _ _ c)
    where
      Kept : Turn → Type 0
      Kept t = Elsewhere (uses_prefix c w q) (uses_domain c w q) c t.caches

      go : (o : Option Referral) → Kept (io_with c w q status o)
      go None = same_elsewhere _ _ c
      go (Some e) = chosen Kept (eqb (severity status) 3) _ _ (same_elsewhere _ _ c) (hint_elsewhere c w q)
