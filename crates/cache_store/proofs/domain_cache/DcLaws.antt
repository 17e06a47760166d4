-- Laws of a DC reply stored into its domain entry.
use Rattle.std.specs.Prelude.{Some}
use mathlib.Core.Path.{◌≡◌, refl, sym, ap, ◌∙◌}
use mathlib.Core.Bool.{true}
use mathlib.Core.List.{List, [], ◌∷◌, map}
use mathlib.Core.Logic.{inl}
use Prim.Native.Nat.{ℕ, ◌+◌, ◌≤◌, ◌<◌}
use native.Mathlib.Omega.{arith}
use lib.ListN.{length, get_or, take, set, length-map, length-take}
use lib.Seq.{get_or-set_other}
use borrow.Author.Tests.{leb-true, le-leb}
use Rattle.laws.specs.Lists.{every}
use Rattle.laws.proofs.Choices.{and_left, and_right, and_both}
use Rattle.laws.proofs.Every.{every_take}
use Rattle.laws.proofs.Listed.{every_set}
use Rattle.unc.specs.names.Names.{good_name}
use Rattle.reply_bytes.specs.texts.Code.{spanned, Inside}
use Rattle.reply_bytes.specs.declared.texts.Span.{Span}
use Rattle.reply_bytes.proofs.texts.UnitLaws.{length_spanned}
use Rattle.cache.specs.places.Layout.{place_count, written}
use Rattle.cache.specs.places.Code.{changed, key_only}
use Rattle.cache.proofs.places.LayoutLaws.{changed_step}
use Rattle.cache.proofs.places.WrittenLaws.{length_written}
use Rattle.cache.proofs.places.PutLaws.{key_only_lem}
use Rattle.cache.specs.order.Entries.{Domain, Place, free, used}
use Rattle.cache.specs.order.Order.{good_domain, good_dc_hint}
use Rattle.cache.specs.order.Memory.{domains, domain_units, decode, encode, in_order, piece_of, good_place}
use Rattle.cache.proofs.order.MemoryLaws.{cache_told, order_good, length_decode, decode_encode, changed_encode}
use Rattle.cache.proofs.order.KindLaws.{domain_told, good_domain_lem, domain_shape, domains_lawful, name_short}
use Rattle.cache.proofs.order.PlaceLaws.{hint_good}
use Rattle.cache_lookup.specs.Code.{entry_at}
use Rattle.cache_lookup.specs.Lookup.{with_key}
use Rattle.cache_lookup.proofs.LookupLaws.{KeyAt, key_found, used_inside}
use Rattle.cache_lookup.proofs.StoreLaws.{entry_good, entry_is, entry_start, kept_in_order}
use Rattle.reply_read.specs.referral.Replies.{says}
use Rattle.reply_read.specs.referral.Code.{is_inside}
use Rattle.reply_read.specs.name_lists.NameLists.{read_dcs}
use Rattle.reply_read.specs.name_lists.Code.{dcs_shown, DcsInside}
use Rattle.reply_read.specs.declared.name_lists.DcsFound.{DcsFound}
use Rattle.reply_read.proofs.name_lists.SaysLaws.{SoundDcs, says_dcs}
use Rattle.cache_entry.specs.write_entry.Code.{add_all, add_dc, add_text}
use Rattle.cache_entry.proofs.write_entry.WritingLaws.{short_name}
use Rattle.cache_entry.proofs.write_entry.PieceLaws.{key_shape_lem, dcs_written}
use Rattle.cache_store.specs.entry_after_reply.Stored.{with_dcs, dcs_stored}
use Rattle.cache_store.specs.domain_cache.Code.{good_name_span, DomainAt, StorableDcs}

-- a name that fits lies inside the reply and is short
module _ (r : List ℕ) (s : Span) (h : good_name_span r s ≡ true) where
  pub fits_inside : Inside r s
  unfolding good_name_span is_inside
  fits_inside = leb-true _ _ (and_left (is_inside r s) _ h)

  pub fits_good : good_name (spanned r s) ≡ true
  unfolding good_name_span
  fits_good = and_right (is_inside r s) _ h

  pub fits_short : s.units ≤ 256
  fits_short = let l : length (spanned r s) ≤ 255 = name_short (spanned r s) fits_good in omega (arith, length_spanned r s)

  pub fits_room : Inside r s × (s.units ≤ 256)
  fits_room = (fits_inside, fits_short)

-- names that fit are good and short
pub all_good : (r : List ℕ) (ss : List Span) → every (good_name_span r) ss ≡ true → every good_name (map (spanned r) ss) ≡ true
unfolding every
all_good r [] h = refl
all_good r (s ∷ ss) h = and_both (fits_good r s (and_left (good_name_span r s) _ h)) (all_good r ss (and_right (good_name_span r s) _ h))

pub good_short : (ts : List (List ℕ)) → every good_name ts ≡ true → every short_name ts ≡ true
unfolding every
good_short [] h = refl
good_short (t ∷ ts) h =
    let l : length t ≤ 255 = name_short t (and_left (good_name t) _ h) in
    and_both (le-leb (length t) 256 (omega arith)) (good_short ts (and_right (good_name t) _ h))

-- DC n is text 1 + n
pub dc_added : (i n : ℕ) (t raw : List ℕ) {o : List ℕ} → o ≡ changed i (add_text (1 + n) t) raw → o ≡ changed i (add_dc n t) raw
unfolding add_dc
dc_added i n t raw e = e

-- what a DC reply makes of an entry
abbrev dcs_of : Domain → List (List ℕ) → Domain
dcs_of d names = record { name = d.name; dcs = names; hint = 0 }

module _ (d : Domain) (good : good_domain d ≡ true) (names : List (List ℕ)) (few : length names ≤ 8) (each : every good_name names ≡ true) where
  first_hint : good_dc_hint names 0 ≡ true
  first_hint = hint_good names 0 (inl refl)

  dcs_good : good_domain (dcs_of d names) ≡ true
  dcs_good = good_domain_lem _ (record { named = (domain_told d good).named; few = few; each = each; hinted = first_hint })

  name_fits_lem : length d.name ≤ 256
  name_fits_lem = let l : length d.name ≤ 255 = name_short d.name (domain_told d good).named in omega arith

  key_alone : key_only (domain_units d) ≡ written (d.name ∷ []) 0 [] []
  unfolding domain_units
  key_alone = key_only_lem d.name d.dcs d.hint [] [] (domain_shape d good)

  dcs_units : add_all add_dc 0 names (written (d.name ∷ []) 0 [] []) ≡ domain_units (dcs_of d names)
  unfolding domain_units
  dcs_units = dcs_written d.name [] 0 0 names (key_shape_lem d.name name_fits_lem) refl (omega arith) (good_short names each)

  -- the place, written in two steps
  dcs_changed : (raw : List ℕ) (i : ℕ) → i < place_count raw → raw ≡ changed i (λ q. domain_units d) raw → {m o : List ℕ} → m ≡ changed i key_only raw
      → o ≡ changed i (add_all add_dc 0 names) m → o ≡ changed i (λ q. domain_units (dcs_of d names)) raw
  dcs_changed raw i fits s {m} a b =
      let long : length (written (d.name ∷ []) 0 [] []) ≡ 2336 = length_written (d.name ∷ []) 0 [] [] (key_shape_lem d.name name_fits_lem) in
      changed_step raw i fits (written (d.name ∷ []) 0 [] []) (domain_units (dcs_of d names)) (add_all add_dc 0 names)
      (changed_step raw i fits (domain_units d) (written (d.name ∷ []) 0 [] []) key_only s a key_alone (domains_lawful.long d good) long)
      b dcs_units long (domains_lawful.long (dcs_of d names) dcs_good)

-- an entry that was found by its name is held
pub domain_found : (raw : List ℕ) → in_order domains raw ≡ true → (name : List ℕ) (i : ℕ) → with_key domains name (decode domains raw) ≡ Some i → DomainAt i raw
domain_found raw order name i h =
    let k : KeyAt domains name (decode domains raw) i = key_found domains name (decode domains raw) i h in
    let u : i < place_count raw = rw (← length_decode domains raw) (used_inside (decode domains raw) i k.entry k.here) in
    record {
      order = order;
      fits = u;
      holds = k.here ∙ ap used (sym (entry_is domains domains_lawful raw i order u k.entry k.here));
    }

-- what the reader found can be stored
both_fit : (r : List ℕ) (ss : List Span) → every (is_inside r) ss ≡ true → every good_name (map (spanned r) ss) ≡ true → every (good_name_span r) ss ≡ true
unfolding every good_name_span
both_fit r [] h k = refl
both_fit r (s ∷ ss) h k =
    and_both (and_both (and_left (is_inside r s) _ h) (and_left (good_name (spanned r s)) _ k))
    (both_fit r ss (and_right (is_inside r s) _ h) (and_right (good_name (spanned r s)) _ k))

pub storable_dcs : (size : ℕ) (r : List ℕ) (f : DcsFound) → read_dcs size r ≡ says (dcs_shown r f) → DcsInside r f → StorableDcs r f
unfolding dcs_shown
storable_dcs size r f e w =
    let s : SoundDcs (map (spanned r) (take f.count f.kept)) = says_dcs size r _ e in
    record { few = w.few; good = both_fit r (take f.count f.kept) (every_take (is_inside r) f.count f.kept w.kept_within) s.good }

-- the cache after the store
module _ (raw : List ℕ) (i : ℕ) (at : DomainAt i raw) (r : List ℕ) (f : DcsFound) (s : StorableDcs r f) where
  names : List (List ℕ)
  names = map (spanned r) (take f.count f.kept)

  entry : Domain
  entry = entry_at domains i raw

  well : good_domain entry ≡ true
  unfolding entry
  well = entry_good domains domains_lawful raw i at.order at.fits entry at.holds

  few : length names ≤ 8
  unfolding names
  few = let n : f.count ≤ 8 = s.few in simp (length-map, length-take) (omega arith)

  good : good_domain (dcs_of entry names) ≡ true
  unfolding names
  good = dcs_good entry well names few (all_good r (take f.count f.kept) s.good)

  stored_is : dcs_stored i names (decode domains raw) ≡ set (decode domains raw) i (used (dcs_of entry names))
  unfolding dcs_stored with_dcs entry
  stored_is = ap (λ (p : Place Domain). set (decode domains raw) i (with_dcs names p)) at.holds

  pub dcs_stored_lem : {m o : List ℕ} → m ≡ changed i key_only raw → o ≡ changed i (add_all add_dc 0 (map (spanned r) (take f.count f.kept))) m
      → o ≡ encode domains (dcs_stored i (map (spanned r) (take f.count f.kept)) (decode domains raw))
  unfolding names entry piece_of good_place
  dcs_stored_lem a b =
      dcs_changed entry well names few (all_good r (take f.count f.kept) s.good) raw i at.fits
      (entry_start domains domains_lawful raw i at.order at.fits entry at.holds) a b
      ∙ (changed_encode domains domains_lawful raw i (used (dcs_of entry names)) at.order good at.fits ∙ ap (encode domains) (sym stored_is))

  -- it is in order
  pub dcs_in_order : in_order domains (encode domains (dcs_stored i (map (spanned r) (take f.count f.kept)) (decode domains raw))) ≡ true
  unfolding names entry
  dcs_in_order =
      ap (λ (ps : List (Place Domain)). in_order domains (encode domains ps)) stored_is
      ∙ kept_in_order domains domains_lawful raw i at.order at.fits entry at.holds (dcs_of entry names) good refl

  -- what it holds is what was stored
  pub dcs_held : decode domains (encode domains (dcs_stored i (map (spanned r) (take f.count f.kept)) (decode domains raw)))
      ≡ dcs_stored i (map (spanned r) (take f.count f.kept)) (decode domains raw)
  unfolding names good_place
  dcs_held =
      decode_encode domains domains_lawful _
      (ap (every (good_place domains)) stored_is
      ∙ every_set (good_place domains) (decode domains raw) i (used (dcs_of entry names)) (cache_told domains (decode domains raw) (order_good domains raw at.order)).places good)

-- every other place stays as it was
pub dcs_elsewhere : (i : ℕ) (names : List (List ℕ)) (ps : List (Place Domain)) (j : ℕ) → (j ≡ i → ⊥) → get_or (dcs_stored i names ps) j free ≡ get_or ps j free
unfolding dcs_stored
dcs_elsewhere i names ps j h = get_or-set_other ps i j _ free h
