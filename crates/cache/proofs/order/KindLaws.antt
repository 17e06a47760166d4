-- The two kinds of entries are lawful: a good entry fills its place, comes back when read, and its place does not look free.
use mathlib.Core.Path.{◌≡◌, refl, sym, ap, ◌∙◌}
use mathlib.Core.Bool.{Bool, true, false, ◌&&◌, true≢false}
use mathlib.Core.List.{List, [], ◌∷◌, map}
use Prim.Native.Nat.{ℕ, zero, suc, ◌+◌, ◌-◌, ◌/◌, ◌%◌, ◌≤◌, ◌<◌}
use native.Mathlib.Nat.{add_assoc}
use native.Mathlib.Numerals.{one-add}
use native.Mathlib.Omega.{arith}
use lib.ListN.{length, get_or, length-map}
use lib.Dec.{leb, eqb}
use borrow.Author.Tests.{ne_eqb, leb-true, le-leb, ltb-true, lt-ltb}
use Rattle.laws.specs.Choice.{choose}
use Rattle.laws.specs.Lists.{every}
use Rattle.laws.specs.Listed.{listed}
use Rattle.laws.proofs.Choices.{choose_no, and_left, and_right, and_both}
use Rattle.laws.proofs.Orders.{told}
use Rattle.laws.proofs.Listed.{listed_same, listed_get_d, get_d_map}
use mathlib.Core.Logic.{◌⊎◌, inl, inr}
use Rattle.unc.specs.names.Names.{good_name, good_component, nothing_or_dots}
use Rattle.unc.specs.names.Paths.{normalised_count, is_normalised, component_count, Target}
use Rattle.cache.specs.places.Layout.{unit_at, wide_at, flag_at, flag_unit, text_at, list_count, written, count_unit, hint_unit, root_unit, head_units}
use Rattle.cache.proofs.places.WrittenLaws.{Shaped, length_written, written_length, written_count, written_hint, written_mark, written_setting, written_text}
use Rattle.cache.specs.order.Entries.{Referral, Domain}
use Rattle.cache.specs.order.Order.{good_prefix, good_target, first_opens_none, good_referral, good_domain, good_dc_hint}
use Rattle.cache.specs.order.Memory.{target_of, referral_of, settings_units, referral_units, domain_of, domain_units, referrals, domains, settings_at}
use Rattle.cache.proofs.order.MemoryLaws.{Lawful}

-- a good prefix and a good name have units, and fit their room
prefix_passed : (s : List ℕ) → good_prefix s ≡ true → (leb (length s) 256 && is_normalised s) ≡ true
unfolding good_prefix normalised_count
prefix_passed s h = go (told (leb (length s) 256 && is_normalised s))
  where
    go : ((leb (length s) 256 && is_normalised s) ≡ true) ⊎ ((leb (length s) 256 && is_normalised s) ≡ false) → (leb (length s) 256 && is_normalised s) ≡ true
    go (inl e) = e
    go (inr e) = absurd (let u : 2 ≤ 0 = leb-true 2 0 (ap (leb 2) (sym (choose_no (component_count s) 0 e)) ∙ h) in omega arith)

pub prefix_short : (s : List ℕ) → good_prefix s ≡ true → length s ≤ 256
prefix_short s h = leb-true (length s) 256 (and_left _ _ (prefix_passed s h))

pub prefix_some : (s : List ℕ) → good_prefix s ≡ true → 1 ≤ length s
unfolding is_normalised
prefix_some [] h = absurd (true≢false (sym (and_right (leb 0 256) _ (prefix_passed [] h))))
prefix_some (u ∷ s) h = omega arith

pub name_short : (s : List ℕ) → good_name s ≡ true → length s ≤ 255
unfolding good_name
name_short s h = leb-true (length s) 255 (and_left _ _ h)

pub name_some : (s : List ℕ) → good_name s ≡ true → 1 ≤ length s
unfolding good_name good_component nothing_or_dots every
name_some [] h = absurd (true≢false (sym h))
name_some (u ∷ s) h = omega arith

-- a flag and a number of 32 bits come back
flag_back : (b : Bool) → eqb (flag_unit b) 1 ≡ b
unfolding flag_unit choose
flag_back true = refl
flag_back false = refl

-- the list of a written place, read back
module _ (key : List ℕ) (list : List (List ℕ)) (hint : ℕ) (marks settings : List ℕ) (shape : Shaped (key ∷ list) marks settings) where
  pub count_back : list_count (written (key ∷ list) hint marks settings) ≡ length list
  count_back =
      let c : unit_at count_unit (written (key ∷ list) hint marks settings) ≡ length (key ∷ list) - 1 = written_count _ _ _ _ shape in
      let f : length (key ∷ list) ≤ 9 = shape.few_texts in
      omega arith

  pub text_back : (j : ℕ) → j < length list → text_at (1 + j) (written (key ∷ list) hint marks settings) ≡ get_or list j []
  text_back j h =
      let f : length (key ∷ list) ≤ 9 = shape.few_texts in
      rw (one-add j) (written_text _ _ _ _ shape (suc j) (omega arith))

  pub key_shows : 1 ≤ length key → eqb (unit_at 0 (written (key ∷ list) hint marks settings)) 0 ≡ false
  key_shows h =
      let l : unit_at 0 (written (key ∷ list) hint marks settings) ≡ length key = written_length _ _ _ _ shape 0 (omega arith) in
      ne_eqb (unit_at 0 (written (key ∷ list) hint marks settings)) 0 (λ e. omega arith)

-- a good referral entry, test by test
pub record GoodReferral (e : Referral) : Type 0 where
  pub prefixed : good_prefix e.prefix ≡ true
  pub some : 1 ≤ length e.targets
  pub few : length e.targets ≤ 8
  pub each : every good_target e.targets ≡ true
  pub first : first_opens_none e.targets ≡ true
  pub hinted : e.hint < length e.targets

module _ (e : Referral) where
  pub referral_told : good_referral e ≡ true → GoodReferral e
  unfolding good_referral
  referral_told h =
      let n : ℕ = length e.targets in
      let a = and_right (good_prefix e.prefix) _ h in
      let b = and_right (leb 1 n) _ a in
      let c = and_right (leb n 8) _ b in
      let d = and_right (every good_target e.targets) _ c in
      record {
        prefixed = and_left (good_prefix e.prefix) _ h;
        some = leb-true _ _ (and_left (leb 1 n) _ a);
        few = leb-true _ _ (and_left (leb n 8) _ b);
        each = and_left (every good_target e.targets) _ c;
        first = and_left (first_opens_none e.targets) _ d;
        hinted = ltb-true _ _ (and_right (first_opens_none e.targets) _ d);
      }

  pub good_referral_lem : GoodReferral e → good_referral e ≡ true
  unfolding good_referral
  good_referral_lem g =
      and_both g.prefixed
      (and_both {a = leb 1 (length e.targets)} (le-leb _ _ g.some)
      (and_both {a = leb (length e.targets) 8} (le-leb _ _ g.few)
      (and_both g.each (and_both g.first (lt-ltb _ _ g.hinted)))))

-- a good domain entry, test by test
pub record GoodDomain (d : Domain) : Type 0 where
  pub named : good_name d.name ≡ true
  pub few : length d.dcs ≤ 8
  pub each : every good_name d.dcs ≡ true
  pub hinted : good_dc_hint d.dcs d.hint ≡ true

module _ (d : Domain) where
  pub domain_told : good_domain d ≡ true → GoodDomain d
  unfolding good_domain
  domain_told h =
      let a = and_right (good_name d.name) _ h in
      let b = and_right (leb (length d.dcs) 8) _ a in
      record {
        named = and_left (good_name d.name) _ h;
        few = leb-true _ _ (and_left (leb (length d.dcs) 8) _ a);
        each = and_left (every good_name d.dcs) _ b;
        hinted = and_right (every good_name d.dcs) _ b;
      }

  pub good_domain_lem : GoodDomain d → good_domain d ≡ true
  unfolding good_domain
  good_domain_lem g =
      and_both g.named (and_both {a = leb (length d.dcs) 8} (le-leb _ _ g.few) (and_both g.each g.hinted))

-- texts of which each is short
short_list : (P : List ℕ → Bool) (n : ℕ) → ((s : List ℕ) → P s ≡ true → length s ≤ n) → (ts : List (List ℕ)) → every P ts ≡ true → (j : ℕ) → length (get_or ts j []) ≤ n
unfolding every
short_list P n f [] h j = omega arith
short_list P n f (t ∷ ts) h zero = f t (and_left (P t) _ h)
short_list P n f (t ∷ ts) h (suc j) = short_list P n f ts (and_right (P t) _ h) j

-- the paths of targets
pub every_path : (ts : List Target) → every good_target ts ≡ true → every good_prefix (map (λ t. t.path) ts) ≡ true
unfolding every good_target
every_path [] h = refl
every_path (t ∷ ts) h = and_both (and_left (good_prefix t.path) _ h) (every_path ts (and_right (good_prefix t.path) _ h))

pub path_every : (ts : List Target) → every good_prefix (map (λ t. t.path) ts) ≡ true → every good_target ts ≡ true
unfolding every good_target
path_every [] h = refl
path_every (t ∷ ts) h = and_both (and_left (good_prefix t.path) _ h) (path_every ts (and_right (good_prefix t.path) _ h))

no_target : Target
no_target = record { path = []; opens = false }

module _ (e : Referral) (good : good_referral e ≡ true) where
  g : GoodReferral e
  g = referral_told e good

  pub referral_shape : Shaped (e.prefix ∷ map (λ t. t.path) e.targets) (map (λ t. flag_unit t.opens) e.targets) (settings_units e.settings)
  unfolding settings_units every
  referral_shape =
      let f : length e.targets ≤ 8 = g.few in
      record {
        few_texts = simp length-map (omega arith);
        short = short_list good_prefix 256 prefix_short (e.prefix ∷ map (λ t. t.path) e.targets) (and_both g.prefixed (every_path e.targets g.each));
        few_marks = simp length-map f;
        few_settings = omega arith;
      }

  referral_long : length (referral_units e) ≡ 2336
  unfolding referral_units
  referral_long = length_written _ _ _ _ referral_shape

  referral_shows : eqb (unit_at 0 (referral_units e)) 0 ≡ false
  unfolding referral_units
  referral_shows = key_shows _ _ _ _ _ referral_shape (prefix_some _ g.prefixed)

  setting_flag : (j : ℕ) (b : Bool) → j < head_units - root_unit → get_or (settings_units e.settings) j 0 ≡ flag_unit b → flag_at (root_unit + j) (referral_units e) ≡ b
  unfolding referral_units flag_at
  setting_flag j b h q = ap (λ (u : ℕ). eqb u 1) (written_setting _ _ _ _ referral_shape j h ∙ q) ∙ flag_back b

  setting_wide : (j n : ℕ) → root_unit + j + 1 < 32 → get_or (settings_units e.settings) j 0 ≡ n % 65536 → get_or (settings_units e.settings) (j + 1) 0 ≡ n / 65536
      → wide_at (root_unit + j) (referral_units e) ≡ n
  unfolding referral_units wide_at
  setting_wide j n h p q =
      let a : unit_at (root_unit + j) (referral_units e) ≡ get_or (settings_units e.settings) j 0 = written_setting _ _ _ _ referral_shape j (omega arith) in
      let b : unit_at (root_unit + (j + 1)) (referral_units e) ≡ get_or (settings_units e.settings) (j + 1) 0 = written_setting _ _ _ _ referral_shape (j + 1) (omega arith) in
      rw (add_assoc root_unit j 1) (omega arith)

  target_back : (j : ℕ) → j < length e.targets → target_of j (referral_units e) ≡ get_or e.targets j no_target
  unfolding target_of referral_units flag_at
  target_back j h =
      let f : length e.targets ≤ 8 = g.few in
      let p = text_back e.prefix (map (λ t. t.path) e.targets) e.hint _ _ referral_shape j (simp length-map h)
      ∙ get_d_map (λ t. t.path) e.targets j no_target [] h in
      let o = ap (λ (u : ℕ). eqb u 1) (written_mark _ _ _ _ referral_shape j (omega arith) ∙ get_d_map (λ t. flag_unit t.opens) e.targets j no_target 0 h)
      ∙ flag_back (get_or e.targets j no_target).opens in
      λ i. record { path = p i; opens = o i }

  targets_back : listed (list_count (referral_units e)) (λ j. target_of j (referral_units e)) ≡ e.targets
  unfolding referral_units
  targets_back =
      ap (λ (n : ℕ). listed n (λ j. target_of j (referral_units e))) (count_back _ _ _ _ _ referral_shape ∙ simp length-map)
      ∙ (listed_same (length e.targets) (λ j. target_of j (referral_units e)) (λ j. get_or e.targets j no_target) target_back
      ∙ listed_get_d e.targets no_target)

  referral_back : referral_of (referral_units e) ≡ e
  unfolding referral_of referral_units settings_units settings_at
  referral_back =
      let p : text_at 0 (referral_units e) ≡ e.prefix = written_text _ _ _ _ referral_shape 0 (omega arith) in
      let h : unit_at hint_unit (referral_units e) ≡ e.hint = written_hint _ _ _ _ referral_shape in
      λ i. record {
        prefix = p i;
        settings = record {
          root = setting_flag 0 e.settings.root (omega arith) refl i;
          interlink = setting_flag 1 e.settings.interlink (omega arith) refl i;
          failback = setting_flag 2 e.settings.failback (omega arith) refl i;
          ttl = setting_wide 3 e.settings.ttl (omega arith) refl refl i;
          taken = setting_wide 5 e.settings.taken (omega arith) refl refl i;
        };
        targets = targets_back i;
        hint = h i;
      }

pub referrals_lawful : Lawful referrals
unfolding referral_of settings_at
referrals_lawful = record { first = λ piece. refl; long = referral_long; back = referral_back; shows = referral_shows }

module _ (d : Domain) (good : good_domain d ≡ true) where
  q : GoodDomain d
  q = domain_told d good

  pub domain_shape : Shaped (d.name ∷ d.dcs) [] []
  unfolding every
  domain_shape =
      let f : length d.dcs ≤ 8 = q.few in
      record {
        few_texts = omega arith;
        short = short_list good_name 256 (λ s h. let n : length s ≤ 255 = name_short s h in omega arith) (d.name ∷ d.dcs) (and_both q.named q.each);
        few_marks = omega arith;
        few_settings = omega arith;
      }

  domain_long : length (domain_units d) ≡ 2336
  unfolding domain_units
  domain_long = length_written _ _ _ _ domain_shape

  domain_shows : eqb (unit_at 0 (domain_units d)) 0 ≡ false
  unfolding domain_units
  domain_shows = key_shows _ _ _ _ _ domain_shape (name_some _ q.named)

  dcs_back : listed (list_count (domain_units d)) (λ j. text_at (1 + j) (domain_units d)) ≡ d.dcs
  unfolding domain_units
  dcs_back =
      ap (λ (n : ℕ). listed n (λ j. text_at (1 + j) (domain_units d))) (count_back _ _ _ _ _ domain_shape)
      ∙ (listed_same (length d.dcs) (λ j. text_at (1 + j) (domain_units d)) (λ j. get_or d.dcs j []) (text_back _ _ _ _ _ domain_shape)
      ∙ listed_get_d d.dcs [])

  domain_back : domain_of (domain_units d) ≡ d
  unfolding domain_of domain_units
  domain_back =
      let p : text_at 0 (domain_units d) ≡ d.name = written_text _ _ _ _ domain_shape 0 (omega arith) in
      let h : unit_at hint_unit (domain_units d) ≡ d.hint = written_hint _ _ _ _ domain_shape in
      λ i. record { name = p i; dcs = dcs_back i; hint = h i }

pub domains_lawful : Lawful domains
unfolding domain_of
domains_lawful = record { first = λ piece. refl; long = domain_long; back = domain_back; shows = domain_shows }
