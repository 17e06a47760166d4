-- Document 01: "PathConsumed is not used." What is read of a reply is the same whatever its first two bytes are.
use Rattle.std.specs.Prelude.{Option, None, Some}
use mathlib.Core.Path.{◌≡◌, refl, ap, ◌∙◌}
use mathlib.Core.Bool.{false, ◌&&◌}
use mathlib.Core.List.{List, ◌∷◌, map}
use Prim.Native.Nat.{ℕ, zero, suc, ◌+◌, ◌≤◌}
use native.Mathlib.Numerals.{add-one}
use native.Mathlib.Omega.{arith}
use lib.ListN.{take}
use Rattle.laws.specs.Lists.{every}
use Rattle.reply_bytes.specs.texts.Bytes.{u16_at, u32_at, Text, text_from}
use Rattle.reply_read.specs.name_lists.NameLists.{domain_said, bytes_past, texts_at, dc_names, good_dcs, read_dcs, domain_at, good_domain_name, read_domains}
use Rattle.unc.specs.names.Paths.{Target}
use Rattle.reply_read.specs.referral.Replies.{referral_count, header_flag, version_at, size_at, server_type_at, entry_flag, text_of, starts, entries, fits, path_of, fixed_length, ttl_at, prefix_at, target_at, good_fields, good_entry, all_read, target_read, later_target, kept_targets, referral_said, referral_with, referral_in, read_as, read_referral}

module _ (a b c d : ℕ) (s : List ℕ) where
  abbrev one : List ℕ
  one = a ∷ b ∷ s

  abbrev two : List ℕ
  two = c ∷ d ∷ s

  units : (e : ℕ) → 2 ≤ e → u16_at one e ≡ u16_at two e
  unfolding u16_at
  units zero h = absurd (omega arith)
  units (suc zero) h = absurd (omega arith)
  units (suc (suc k)) h = rw add-one

  texts : (e : ℕ) → 2 ≤ e → text_from one e ≡ text_from two e
  unfolding text_from
  texts zero h = absurd (omega arith)
  texts (suc zero) h = absurd (omega arith)
  texts (suc (suc k)) h = refl

  texts_of_lem : (f e : ℕ) → 2 ≤ e → text_of f one e ≡ text_of f two e
  unfolding text_of
  texts_of_lem f e h = texts (e + u16_at one (e + f)) (omega arith) ∙ ap (λ (n : ℕ). text_from two (e + n)) (units (e + f) (omega arith))

  prefixes : (e : ℕ) → 2 ≤ e → prefix_at one e ≡ prefix_at two e
  unfolding prefix_at
  prefixes e h = ap path_of (texts_of_lem 12 e h)

  targets : (e : ℕ) → 2 ≤ e → target_at one e ≡ target_at two e
  unfolding target_at
  targets e h = ap path_of (texts_of_lem 16 e h)

  versions : (e : ℕ) → 2 ≤ e → version_at one e ≡ version_at two e
  unfolding version_at
  versions e h = units e h

  sizes : (e : ℕ) → 2 ≤ e → size_at one e ≡ size_at two e
  unfolding size_at
  sizes e h = units (e + 2) (omega arith)

  types : (e : ℕ) → 2 ≤ e → server_type_at one e ≡ server_type_at two e
  unfolding server_type_at
  types e h = units (e + 4) (omega arith)

  flags : (m e : ℕ) → 2 ≤ e → entry_flag m one e ≡ entry_flag m two e
  unfolding entry_flag
  flags m e h = rw (units (e + 6) (omega arith))

  fitting : (n e : ℕ) → 2 ≤ e → fits n one e ≡ fits n two e
  unfolding fits
  fitting n e h = rw (sizes e h)

  first : 2 ≤ 8
  first = omega arith

  fields : (e : ℕ) → 2 ≤ e → good_fields one e ≡ good_fields two e
  unfolding good_fields
  fields e h = rw (versions e h, versions 8 first, fitting (fixed_length (version_at two e)) e h, flags 2 e h, types e h, types 8 first)

  goods : (e : ℕ) → 2 ≤ e → good_entry one e ≡ good_entry two e
  unfolding good_entry
  goods e h = rw (fields e h, prefixes e h, prefixes 8 first, targets e h)

  starting : (n e : ℕ) → 2 ≤ e → starts n e one ≡ starts n e two
  unfolding starts
  starting zero e h = refl
  starting (suc n) e h =
      ap (λ (x : ℕ). e ∷ starts n (e + x) one) (sizes e h) ∙ ap (λ (x : List ℕ). e ∷ x) (starting n (e + size_at two e) (omega arith))

  all_good : (n e : ℕ) → 2 ≤ e → every (good_entry one) (starts n e two) ≡ every (good_entry two) (starts n e two)
  unfolding starts every
  all_good zero e h = refl
  all_good (suc n) e h = λ i. goods e h i && all_good n (e + size_at two e) (omega arith) i

  later : (e : ℕ) → 2 ≤ e → later_target one e ≡ later_target two e
  unfolding later_target
  later e h = rw (targets e h, versions e h, flags 4 e h)

  later_all : (k n e : ℕ) → 2 ≤ e → map (later_target one) (take k (starts n e two)) ≡ map (later_target two) (take k (starts n e two))
  unfolding starts
  later_all zero n e h = refl
  later_all (suc k) zero e h = refl
  later_all (suc k) (suc n) e h = λ i. later e h i ∷ later_all k n (e + size_at two e) (omega arith) i

  kept : (k n e : ℕ) → 2 ≤ e → kept_targets one (take k (starts n e two)) ≡ kept_targets two (take k (starts n e two))
  unfolding kept_targets starts
  kept zero n e h = refl
  kept (suc k) zero e h = refl
  kept (suc k) (suc n) e h = λ i. target_read (targets e h i) false ∷ later_all k n (e + size_at two e) (omega arith) i

  count : referral_count one ≡ referral_count two
  unfolding referral_count
  count = units 2 (omega arith)

  all_entries : entries one ≡ entries two
  unfolding entries
  all_entries = ap (λ (n : ℕ). starts n 8 one) count ∙ starting (referral_count two) 8 first

  entries_good : every (good_entry one) (entries one) ≡ every (good_entry two) (entries two)
  unfolding entries
  entries_good = ap (every (good_entry one)) all_entries ∙ all_good (referral_count two) 8 first

  targets_kept : kept_targets one (take 8 (entries one)) ≡ kept_targets two (take 8 (entries two))
  unfolding entries
  targets_kept = ap (λ (es : List ℕ). kept_targets one (take 8 es)) all_entries ∙ kept 8 (referral_count two) 8 first

  header : (m : ℕ) → header_flag m one ≡ header_flag m two
  unfolding header_flag u32_at
  header m = rw (units 4 (omega arith), units 6 (omega arith))

  ttls : (v e : ℕ) → 2 ≤ e → ttl_at v one e ≡ ttl_at v two e
  unfolding ttl_at u32_at
  ttls v e h = rw (units (e + 8) (omega arith), units (e + 8 + 2) (omega arith))

  said : (p : Option (List ℕ)) (ts : Option (List Target)) → referral_with one p ts ≡ referral_with two p ts
  unfolding referral_with referral_said
  said None ts = refl
  said (Some p) None = refl
  said (Some p) (Some ts) = rw (versions 8 first, types 8 first, header 1, header 2, header 4, count, ttls (version_at two 8) 8 first)

  same : referral_in one ≡ referral_in two
  unfolding referral_in
  same = said _ _ ∙ (λ i. referral_with two (prefixes 8 first i) (all_read (targets_kept i)))

  -- a root, link or SYSVOL reply
  pub path_consumed_unused : (size : ℕ) (asked : List ℕ) → read_referral size asked one ≡ read_referral size asked two
  unfolding read_referral read_as
  path_consumed_unused size asked = rw (entries_good, prefixes 8 first, count, same)

  -- a DC reply
  texts_from_lem : (n e : ℕ) → 2 ≤ e → texts_at n e one ≡ texts_at n e two
  unfolding texts_at
  texts_from_lem zero e h = refl
  texts_from_lem (suc n) e h =
      ap (λ (x : Text). x ∷ texts_at n (e + bytes_past x) one) (texts e h)
      ∙ ap (λ (x : List Text). text_from two e ∷ x) (texts_from_lem n (e + bytes_past (text_from two e)) (omega arith))

  dcs : dc_names one ≡ dc_names two
  unfolding dc_names
  dcs =
      rw (units 22 (omega arith), units 24 (omega arith), texts_from_lem (u16_at two 22) (8 + u16_at two 24) (omega arith))

  dcs_good : good_dcs one ≡ good_dcs two
  unfolding good_dcs
  dcs_good = rw (versions 8 first, fitting 18 8 first, flags 2 8 first, units 22 (omega arith), dcs)

  pub path_consumed_unused_dcs : (size : ℕ) → read_dcs size one ≡ read_dcs size two
  unfolding read_dcs read_as
  path_consumed_unused_dcs size = rw (dcs_good, dcs, count)

  -- a domain reply
  named : (e : ℕ) → 2 ≤ e → domain_at one e ≡ domain_at two e
  unfolding domain_at
  named e h = ap domain_said (texts_of_lem 12 e h)

  domain_good : (e : ℕ) → 2 ≤ e → good_domain_name one e ≡ good_domain_name two e
  unfolding good_domain_name
  domain_good e h = rw (versions e h, fitting 18 e h, flags 2 e h, named e h)

  all_domains : (n e : ℕ) → 2 ≤ e → every (good_domain_name one) (starts n e two) ≡ every (good_domain_name two) (starts n e two)
  unfolding starts every
  all_domains zero e h = refl
  all_domains (suc n) e h = λ i. domain_good e h i && all_domains n (e + size_at two e) (omega arith) i

  all_named : (n e : ℕ) → 2 ≤ e → map (domain_at one) (starts n e two) ≡ map (domain_at two) (starts n e two)
  unfolding starts
  all_named zero e h = refl
  all_named (suc n) e h = λ i. named e h i ∷ all_named n (e + size_at two e) (omega arith) i

  domains_good : every (good_domain_name one) (entries one) ≡ every (good_domain_name two) (entries two)
  unfolding entries
  domains_good = ap (every (good_domain_name one)) all_entries ∙ all_domains (referral_count two) 8 first

  domains_named : map (domain_at one) (entries one) ≡ map (domain_at two) (entries two)
  unfolding entries
  domains_named = ap (map (domain_at one)) all_entries ∙ all_named (referral_count two) 8 first

  pub path_consumed_unused_domains : (size : ℕ) → read_domains size one ≡ read_domains size two
  unfolding read_domains read_as
  path_consumed_unused_domains size = rw (domains_good, domains_named, count)
