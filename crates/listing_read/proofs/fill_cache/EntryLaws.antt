-- Laws of an entry that is read: its settings, its targets, and its place.
use mathlib.Core.Path.{◌≡◌, refl, sym, ap, ◌∙◌}
use mathlib.Core.Bool.{Bool, true, false, not}
use mathlib.Core.List.{List, [], ◌∷◌, ◌++◌, map}
use mathlib.Core.Logic.{◌⊎◌, inl, inr}
use Prim.Native.Nat.{ℕ, suc, ◌+◌, ◌≤◌, ◌<◌}
use native.Mathlib.Numerals.{add-one}
use native.Mathlib.Omega.{arith}
use lib.ListN.{length, get_or, drop, length-append, length-drop, drop_of_length-le, get_or-eq_default}
use lib.Seq.{drop-drop, drop-cons, get_or-drop}
use lib.Dec.{eqb}
use borrow.Author.Tests.{not-true, le-leb}
use Rattle.laws.specs.Choice.{choose}
use Rattle.laws.specs.Lists.{every}
use Rattle.laws.proofs.Choices.{and_both, and_left, and_right}
use Rattle.laws.proofs.Every.{every_at}
use Rattle.laws.proofs.Orders.{lt_or_le}
use Rattle.cache.specs.places.Layout.{place_count, flag_unit, written, blank, hint_unit, root_unit}
use Rattle.cache.specs.places.Code.{changed, put_unit, put_settings}
use Rattle.cache.proofs.places.LayoutLaws.{changed_step}
use Rattle.cache.proofs.places.WrittenLaws.{Shaped, length_written}
use Rattle.cache.proofs.places.PutLaws.{put_settings_lem, put_hint}
use Rattle.unc.specs.names.Paths.{Target}
use Rattle.cache.specs.order.Entries.{Referral, used}
use Rattle.cache.specs.order.Order.{good_prefix, good_target, good_referral}
use Rattle.cache.specs.order.Memory.{settings_units, referral_units}
use Rattle.cache.proofs.order.KindLaws.{GoodReferral, referral_told, referral_shape, prefix_short}
use Rattle.cache.proofs.order.MemoryLaws.{length_blank}
use Rattle.listing_spelling.specs.spell.Spelling.{decimal_in, decimal}
use Rattle.cache_entry.specs.write_entry.Code.{add_text, add_target, add_all, begun, settings}
use Rattle.cache_entry.proofs.write_entry.WritingLaws.{Keeps, short, keeps_pasted, keeps_unit, keeps_target, then_changed, all_more, all_done}
use Rattle.cache_entry.proofs.write_entry.PieceLaws.{targets_written, key_shape_lem, begun_written}
use Rattle.listing_write.specs.Form.{prefix_key, kind_key, interlink_key, failback_key, ttl_key, taken_key, hint_key, target_key, kind_word, path_line, number_line, ended, lines_text, target_lines, setting_lines, count_lines, entry_lines, entry_text, listing}
use Rattle.listing_spelling.specs.unspell.Reading.{unit, unspelled}
use Rattle.listing_read.specs.listing_rules.Entries.{entry_said, entries_said}
use Rattle.listing_read.specs.listing_rules.Read.{listable, is_listing}
use Rattle.listing_read.proofs.listing_rules.SaidLaws.{Listable, listable_told, listing_sound}
use Rattle.listing_read.specs.declared.fill_cache.Read.{Read}
use Rattle.listing_read.specs.fill_cache.Code.{said_at, rest_after, value_at, NumberAt, NumberRead, PathAt, PathRead, TargetRead, TargetsRead, settled, SettingsRead, EntryRead, LinesAt}
use Rattle.listing_read.proofs.fill_cache.LineLaws.{prefix_later, target_later, ttl_later, taken_later, hint_later, line_passed, first_line, number_there, number_says, path_says, path_there}

-- an entry of a listing is one that a listing can say
pub entry_told : (text : List ℕ) (i : ℕ) → is_listing text ≡ true → i < length (entries_said text) → Listable (said_at text i)
unfolding said_at
entry_told text i h k = listable_told (said_at text i) (every_at listable (entries_said text) (listing_sound text h).each i (entry_said []) k)

-- targets that are good fit their rooms
fit_rooms : (ts : List Target) → every good_target ts ≡ true → every short ts ≡ true
unfolding every good_target
fit_rooms [] h = refl
fit_rooms (t ∷ ts) h =
    and_both (le-leb (length t.path) 256 (prefix_short t.path (and_left (good_prefix t.path) _ h))) (fit_rooms ts (and_right (good_prefix t.path) _ h))

-- Settings. The three lines of flags have 33 units
abbrev flag_lines : Bool → Bool → Bool → List (List ℕ) → List (List ℕ)
flag_lines a b c ls = (kind_key ++ kind_word a) ∷ number_line interlink_key (flag_unit b) ∷ number_line failback_key (flag_unit c) ∷ ls

module _ (ls : List (List ℕ)) (rest : List ℕ) where
  root_unit_lem : (a b c : Bool) → eqb (get_or (lines_text (flag_lines a b c ls) ++ rest) 5 0) 114 ≡ a
  unfolding lines_text ended kind_word
  root_unit_lem true b c = refl
  root_unit_lem false b c = refl

  interlink_unit_lem : (a b c : Bool) → eqb (get_or (lines_text (flag_lines a b c ls) ++ rest) 20 0) 49 ≡ b
  unfolding lines_text ended kind_word number_line flag_unit choose decimal decimal_in
  interlink_unit_lem true true c = refl
  interlink_unit_lem true false c = refl
  interlink_unit_lem false true c = refl
  interlink_unit_lem false false c = refl

  failback_unit_lem : (a b c : Bool) → eqb (get_or (lines_text (flag_lines a b c ls) ++ rest) 31 0) 49 ≡ c
  unfolding lines_text ended kind_word number_line flag_unit choose decimal decimal_in
  failback_unit_lem true true true = refl
  failback_unit_lem true true false = refl
  failback_unit_lem true false true = refl
  failback_unit_lem true false false = refl
  failback_unit_lem false true true = refl
  failback_unit_lem false true false = refl
  failback_unit_lem false false true = refl
  failback_unit_lem false false false = refl

  flags_passed : (a b c : Bool) → drop 33 (lines_text (flag_lines a b c ls) ++ rest) ≡ lines_text ls ++ rest
  unfolding lines_text ended kind_word number_line flag_unit choose decimal decimal_in
  flags_passed true true true = refl
  flags_passed true true false = refl
  flags_passed true false true = refl
  flags_passed true false false = refl
  flags_passed false true true = refl
  flags_passed false true false = refl
  flags_passed false false true = refl
  flags_passed false false false = refl

keeps_settings : (ss : List ℕ) → length ss ≡ 7 → Keeps (put_settings ss)
unfolding put_settings
keeps_settings ss h = keeps_pasted root_unit ss (omega arith)

settings_of_lem : (e : Referral) {a b c : Bool} {x y : ℕ} → a ≡ e.settings.root → b ≡ e.settings.interlink → c ≡ e.settings.failback → x ≡ e.settings.ttl → y ≡ e.settings.taken
    → settings a b c x y ≡ settings_units e.settings
unfolding settings settings_units
settings_of_lem e p q r s t = λ i. settings (p i) (q i) (r i) (s i) (t i)

long_settings : (e : Referral) → length (settings_units e.settings) ≡ 7
unfolding settings_units
long_settings e = refl

module _ (text : List ℕ) (i n : ℕ) (at : LinesAt text i n (drop 1 (entry_lines (said_at text i)))) where
  abbrev e : Referral
  e = said_at text i

  told : Listable e
  told = entry_told text i at.form at.inside

  -- what stands after the lines of ttl and taken
  after_taken : List ℕ
  after_taken = lines_text (number_line hint_key e.hint ∷ target_lines e.targets) ++ rest_after text i

  after_ttl : List ℕ
  after_ttl = ended (number_line taken_key e.settings.taken) ++ after_taken

  counts : List (List ℕ)
  counts = count_lines e ++ target_lines e.targets

  stands : drop n text ≡ lines_text (flag_lines e.settings.root e.settings.interlink e.settings.failback counts) ++ rest_after text i
  unfolding entry_lines setting_lines counts
  stands = at.stands

  pub root_there : eqb (get_or text (n + 5) 0) 114 ≡ e.settings.root
  root_there = ap (λ (x : ℕ). eqb x 114) (sym (get_or-drop n text 5 0)) ∙ (ap (λ (x : List ℕ). eqb (get_or x 5 0) 114) stands ∙ root_unit_lem counts (rest_after text i) e.settings.root e.settings.interlink e.settings.failback)

  pub interlink_there : eqb (get_or text (n + 20) 0) 49 ≡ e.settings.interlink
  interlink_there =
      ap (λ (x : ℕ). eqb x 49) (sym (get_or-drop n text 20 0))
      ∙ (ap (λ (x : List ℕ). eqb (get_or x 20 0) 49) stands ∙ interlink_unit_lem counts (rest_after text i) e.settings.root e.settings.interlink e.settings.failback)

  pub failback_there : eqb (get_or text (n + 31) 0) 49 ≡ e.settings.failback
  failback_there =
      ap (λ (x : ℕ). eqb x 49) (sym (get_or-drop n text 31 0))
      ∙ (ap (λ (x : List ℕ). eqb (get_or x 31 0) 49) stands ∙ failback_unit_lem counts (rest_after text i) e.settings.root e.settings.interlink e.settings.failback)

  after_flags : drop (n + 33) text ≡ ended (number_line ttl_key e.settings.ttl) ++ after_ttl
  unfolding count_lines counts after_ttl after_taken
  after_flags =
      sym (drop-drop 33 n text)
      ∙ (ap (drop 33) stands
      ∙ (flags_passed counts (rest_after text i) e.settings.root e.settings.interlink e.settings.failback
      ∙ (first_line (number_line ttl_key e.settings.ttl) (number_line taken_key e.settings.taken ∷ number_line hint_key e.hint ∷ target_lines e.targets) (rest_after text i)
      ∙ ap (λ (x : List ℕ). ended (number_line ttl_key e.settings.ttl) ++ x) (first_line (number_line taken_key e.settings.taken) (number_line hint_key e.hint ∷ target_lines e.targets) (rest_after text i)))))

  pub flags_inside : n + 33 < length text
  unfolding ended
  flags_inside =
      let l = length-drop (n + 33) text in
      let m : length (drop (n + 33) text) ≡ length (number_line ttl_key e.settings.ttl) + 1 + length after_ttl = ap length after_flags ∙ simp length-append in
      omega arith

  pub ttl_there : NumberAt 4 (drop (n + 33) text)
  ttl_there = number_there ttl_key after_ttl e.settings.ttl told.ttl (ttl_later e.settings.ttl) after_flags

  module _ {t : Read} (a : NumberRead 4 (n + 33) text t) where
    pub ttl_said : t.value ≡ e.settings.ttl
    ttl_said = a.value ∙ number_says ttl_key after_ttl e.settings.ttl told.ttl (ttl_later e.settings.ttl) after_flags

    after_ttl_is : drop t.next text ≡ ended (number_line taken_key e.settings.taken) ++ after_taken
    unfolding after_ttl
    after_ttl_is = line_passed text (n + 33) (number_line ttl_key e.settings.ttl) after_ttl after_flags (ttl_later e.settings.ttl) a.next

    pub taken_there : NumberAt 6 (drop t.next text)
    taken_there = number_there taken_key after_taken e.settings.taken told.taken (taken_later e.settings.taken) after_ttl_is

    module _ {k : Read} (b : NumberRead 6 t.next text k) where
      pub taken_said : k.value ≡ e.settings.taken
      taken_said = b.value ∙ number_says taken_key after_taken e.settings.taken told.taken (taken_later e.settings.taken) after_ttl_is

      after_taken_is : drop k.next text ≡ ended (number_line hint_key e.hint) ++ (lines_text (target_lines e.targets) ++ rest_after text i)
      unfolding after_taken
      after_taken_is =
          line_passed text t.next (number_line taken_key e.settings.taken) after_taken after_ttl_is (taken_later e.settings.taken) b.next
          ∙ first_line (number_line hint_key e.hint) (target_lines e.targets) (rest_after text i)

      pub hint_small : e.hint < 8
      hint_small = let g = referral_told e told.good in omega (arith, g.few, g.hinted)

      small_hint : e.hint < 4294967296
      small_hint = omega (arith, hint_small)

      pub hint_there : NumberAt 5 (drop k.next text)
      hint_there = number_there hint_key (lines_text (target_lines e.targets) ++ rest_after text i) e.hint small_hint (hint_later e.hint) after_taken_is

      module _ {h : Read} (c : NumberRead 5 k.next text h) where
        pub hint_said : h.value ≡ e.hint
        hint_said = c.value ∙ number_says hint_key (lines_text (target_lines e.targets) ++ rest_after text i) e.hint small_hint (hint_later e.hint) after_taken_is

        after_hint : LinesAt text i h.next (target_lines e.targets)
        after_hint = record {
          form = at.form;
          inside = at.inside;
          stands = line_passed text k.next (number_line hint_key e.hint) (lines_text (target_lines e.targets) ++ rest_after text i) after_taken_is (hint_later e.hint) c.next;
        }

        pub settings_read : (raw : List ℕ) → i < place_count raw → {x y z : Bool} {m o : List ℕ} → x ≡ eqb (get_or text (n + 5) 0) 114 → y ≡ eqb (get_or text (n + 20) 0) 49
            → z ≡ eqb (get_or text (n + 31) 0) 49 → m ≡ changed i (put_settings (settings x y z t.value k.value)) raw → o ≡ changed i (put_unit hint_unit h.value) m
            → SettingsRead text i raw o h.next
        unfolding settled
        settings_read raw fits {x} {y} {z} {m} {o} p q r u v =
            let s = settings_of_lem e (p ∙ root_there) (q ∙ interlink_there) (r ∙ failback_there) ttl_said taken_said in
            record {
              memory = then_changed raw i fits (put_settings (settings_units e.settings)) (put_unit hint_unit e.hint) (keeps_settings (settings_units e.settings) (long_settings e)) (keeps_unit hint_unit e.hint (omega arith))
                  (u ∙ ap (λ (w : List ℕ). changed i (put_settings w) raw) s) (v ∙ ap (λ (w : ℕ). changed i (put_unit hint_unit w) m) hint_said);
              next = after_hint;
            }

-- Targets. What stands after an entry begins with "p", or is nothing
rest_other : (es : List Referral) → get_or (listing (map used es)) 0 0 ≡ 116 → ⊥
unfolding listing entry_text lines_text entry_lines setting_lines path_line ended
rest_other [] h = omega arith
rest_other (e ∷ es) h = omega arith

first_target : (t : Target) (ts : List Target) (rest : List ℕ) → get_or (lines_text (target_lines (t ∷ ts)) ++ rest) 0 0 ≡ 116
unfolding lines_text target_lines path_line ended
first_target t ts rest = refl

module _ (text : List ℕ) (i n m : ℕ) (at : LinesAt text i n (target_lines (drop m (said_at text i).targets))) where
  abbrev ts : List Target
  ts = (said_at text i).targets

  targets_told : Listable (said_at text i)
  targets_told = entry_told text i at.form at.inside

  pub targets_few : length (said_at text i).targets ≤ 8
  targets_few = (referral_told (said_at text i) targets_told.good).few

  -- no target is left
  none_left : length (said_at text i).targets ≤ m → LinesAt text i n []
  unfolding target_lines
  none_left h = record { form = at.form; inside = at.inside; stands = at.stands ∙ ap (λ (x : List Target). lines_text (target_lines x) ++ rest_after text i) (drop_of_length-le ts h) }

  pub more_left : get_or text n 0 ≡ 116 → m < length (said_at text i).targets
  unfolding lines_text rest_after
  more_left h = go (lt_or_le m (length ts))
    where
      go : (m < length ts) ⊎ (length ts ≤ m) → m < length ts
      go (inl l) = l
      go (inr l) =
          absurd (rest_other (drop (i + 1) (entries_said text)) (ap (λ (x : List ℕ). get_or x 0 0) (sym (none_left l).stands) ∙ (get_or-drop n text 0 0 ∙ (let k : n + 0 ≡ n = omega arith in ap (λ (x : ℕ). get_or text x 0) k) ∙ h)))

  left_first : m < length (said_at text i).targets → get_or text n 0 ≡ 116
  left_first l =
      let k : n + 0 ≡ n = omega arith in
      let z : Target = record { path = []; opens = false } in
      ap (λ (x : ℕ). get_or text x 0) (sym k)
      ∙ (sym (get_or-drop n text 0 0)
      ∙ (ap (λ (x : List ℕ). get_or x 0 0) at.stands
      ∙ (ap (λ (x : List Target). get_or (lines_text (target_lines x) ++ rest_after text i) 0 0) (drop-cons ts m z l)
      ∙ first_target (get_or ts m z) (drop (suc m) ts) (rest_after text i))))

  pub left_none : (get_or text n 0 ≡ 116 → ⊥) → length (said_at text i).targets ≤ m
  left_none h = go (lt_or_le m (length ts))
    where
      go : (m < length ts) ⊎ (length ts ≤ m) → length ts ≤ m
      go (inl l) = absurd (h (left_first l))
      go (inr l) = l

  pub left_past : length text ≤ n → length (said_at text i).targets ≤ m
  left_past h = left_none (λ e. past e (get_or-eq_default text 0 {n = n} h))
    where
      past : get_or text n 0 ≡ 116 → get_or text n 0 ≡ 0 → ⊥
      past e f = omega arith

  -- one more target
  module _ (l : m < length (said_at text i).targets) where
    -- the target whose line stands here
    here : Target
    here = get_or (said_at text i).targets m (record { path = unspelled (value_at 7 (drop n text)); opens = false })

    after : List ℕ
    after = lines_text (target_lines (drop (m + 1) (said_at text i).targets)) ++ rest_after text i

    line_here : drop n text ≡ ended (path_line target_key here.path) ++ after
    unfolding target_lines here after
    line_here =
        at.stands
        ∙ (ap (λ (x : List Target). lines_text (target_lines x) ++ rest_after text i) (drop-cons ts m (record { path = unspelled (value_at 7 (drop n text)); opens = false }) l)
        ∙ (first_line (path_line target_key here.path) (target_lines (drop (suc m) ts)) (rest_after text i)
        ∙ ap (λ (x : ℕ). ended (path_line target_key here.path) ++ (lines_text (target_lines (drop x ts)) ++ rest_after text i)) (sym (add-one m))))

    units_here : every unit here.path ≡ true
    unfolding here
    units_here = every_at (λ t. every unit t.path) ts targets_told.paths m _ l

    short_here : length here.path ≤ 256
    unfolding here good_target
    short_here = prefix_short here.path (every_at good_target ts (referral_told (said_at text i) targets_told.good).each m _ l)

    closed_here : here.opens ≡ false
    unfolding here
    closed_here = not-true _ (every_at (λ t. not t.opens) ts targets_told.one m _ l)

    pub target_there : PathAt (drop n text)
    target_there = path_there target_key after here.path refl units_here short_here (target_later here.path) line_here

    is_here : here ≡ record { path = unspelled (value_at 7 (drop n text)); opens = false }
    is_here = λ j. record { path = sym (path_says target_key after here.path refl units_here short_here (target_later here.path) line_here) j; opens = closed_here j }

    module _ (raw : List ℕ) (fits : i < place_count raw) {o : List ℕ} {r : ℕ} (w : TargetRead n text i m raw o r) where
      pub target_next : LinesAt text i r (target_lines (drop (m + 1) (said_at text i).targets))
      unfolding after
      target_next = record {
        form = at.form;
        inside = at.inside;
        stands = line_passed text n (path_line target_key here.path) after line_here (target_later here.path) w.next;
      }

      pub target_added : changed i (add_all add_target m (drop m (said_at text i).targets)) raw ≡ changed i (add_all add_target (m + 1) (drop (m + 1) (said_at text i).targets)) o
      unfolding here
      target_added =
          all_more add_target short keeps_target raw i fits ts m (record { path = unspelled (value_at 7 (drop n text)); opens = false }) l targets_few
          (fit_rooms ts (referral_told (said_at text i) targets_told.good).each) is_here w.memory

  pub targets_done : (first raw : List ℕ) → i < place_count raw → changed i (add_all add_target 0 (said_at text i).targets) first ≡ changed i (add_all add_target m (drop m (said_at text i).targets)) raw
      → length (said_at text i).targets ≤ m → TargetsRead text i first raw n
  targets_done first raw fits q h = record {
    memory = all_done add_target short keeps_target raw i fits m ts q h;
    next = none_left h;
  }

-- The place of an entry, from blank on
module _ (e : Referral) (good : good_referral e ≡ true) where
  g : GoodReferral e
  g = referral_told e good

  key_shape : Shaped (e.prefix ∷ []) [] []
  key_shape = key_shape_lem e.prefix (prefix_short e.prefix g.prefixed)

  set_shape : Shaped (e.prefix ∷ []) [] (settings_units e.settings)
  set_shape = record { few_texts = key_shape.few_texts; short = key_shape.short; few_marks = key_shape.few_marks; few_settings = (referral_shape e good).few_settings }

  prefix_written : add_text 0 e.prefix blank ≡ written (e.prefix ∷ []) 0 [] []
  unfolding begun
  prefix_written = begun_written e.prefix [] (prefix_short e.prefix g.prefixed)

  settled_written : settled e (written (e.prefix ∷ []) 0 [] []) ≡ written (e.prefix ∷ []) e.hint [] (settings_units e.settings)
  unfolding settled
  settled_written =
      ap (put_unit hint_unit e.hint) (put_settings_lem (e.prefix ∷ []) 0 [] [] (settings_units e.settings) key_shape set_shape (omega arith))
      ∙ put_hint (e.prefix ∷ []) 0 [] (settings_units e.settings) set_shape e.hint

  all_written : add_all add_target 0 e.targets (written (e.prefix ∷ []) e.hint [] (settings_units e.settings)) ≡ referral_units e
  unfolding referral_units
  all_written = (targets_written e.prefix [] e.hint [] (settings_units e.settings) 0 e.targets set_shape refl refl (let f = g.few in omega arith) (fit_rooms e.targets g.each)).0

  long_entry : length (referral_units e) ≡ 2336
  unfolding referral_units
  long_entry = length_written _ e.hint _ (settings_units e.settings) (referral_shape e good)

  place_read : (raw : List ℕ) (i : ℕ) → i < place_count raw → {a b c o : List ℕ} → a ≡ changed i (λ q. blank) raw → b ≡ changed i (add_text 0 e.prefix) a
      → c ≡ changed i (settled e) b → o ≡ changed i (add_all add_target 0 e.targets) c → o ≡ changed i (λ q. referral_units e) raw
  place_read raw i fits p q r s =
      let u = length_written (e.prefix ∷ []) 0 [] [] key_shape in
      let v = length_written (e.prefix ∷ []) e.hint [] (settings_units e.settings) set_shape in
      changed_step raw i fits _ _ (add_all add_target 0 e.targets)
      (changed_step raw i fits _ _ (settled e) (changed_step raw i fits _ _ (add_text 0 e.prefix) p q prefix_written length_blank u) r settled_written u v) s all_written v long_entry

-- an entry, from its first line on
module _ (text : List ℕ) (i n : ℕ) (at : LinesAt text i n (entry_lines (said_at text i))) where
  entry_listable : Listable (said_at text i)
  entry_listable = entry_told text i at.form at.inside

  after_prefix : List ℕ
  after_prefix = lines_text (drop 1 (entry_lines (said_at text i))) ++ rest_after text i

  prefix_line_is : drop n text ≡ ended (path_line prefix_key (said_at text i).prefix) ++ after_prefix
  unfolding entry_lines setting_lines after_prefix
  prefix_line_is = at.stands ∙ first_line (path_line prefix_key (said_at text i).prefix) (drop 1 (entry_lines (said_at text i))) (rest_after text i)

  short_prefix : length (said_at text i).prefix ≤ 256
  short_prefix = prefix_short (said_at text i).prefix (referral_told (said_at text i) entry_listable.good).prefixed

  pub prefix_there : PathAt (drop n text)
  prefix_there = path_there prefix_key after_prefix (said_at text i).prefix refl entry_listable.prefixed short_prefix (prefix_later (said_at text i).prefix) prefix_line_is

  prefix_says : unspelled (value_at 7 (drop n text)) ≡ (said_at text i).prefix
  prefix_says = path_says prefix_key after_prefix (said_at text i).prefix refl entry_listable.prefixed short_prefix (prefix_later (said_at text i).prefix) prefix_line_is

  pub prefix_next : {raw o : List ℕ} {r : ℕ} → PathRead n text i 0 raw o r → LinesAt text i r (drop 1 (entry_lines (said_at text i)))
  unfolding after_prefix
  prefix_next w = record {
    form = at.form;
    inside = at.inside;
    stands = line_passed text n (path_line prefix_key (said_at text i).prefix) after_prefix prefix_line_is (prefix_later (said_at text i).prefix) w.next;
  }

  pub entry_read : (raw : List ℕ) → i < place_count raw → {a b c o : List ℕ} {r s t : ℕ} → a ≡ changed i (λ q. blank) raw → PathRead n text i 0 a b r
      → SettingsRead text i b c s → TargetsRead text i c o t → EntryRead text i raw o t
  entry_read raw fits {a} p q u v = record {
    memory = place_read (said_at text i) entry_listable.good raw i fits p (q.memory ∙ ap (λ (x : List ℕ). changed i (add_text 0 x) a) prefix_says) u.memory v.memory;
    next = v.next;
  }
