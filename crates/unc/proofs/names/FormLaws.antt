-- Laws of a text's form as a path, of normalising and of the replaced path.
use mathlib.Core.Path.{◌≡◌, refl, sym, ap, ◌∙◌}
use mathlib.Core.Bool.{Bool, true, false, not}
use mathlib.Core.List.{List, [], ◌∷◌}
use mathlib.Core.Logic.{◌⊎◌, inl, inr, ◌≢◌}
use Prim.Native.Nat.{ℕ, ◌+◌, ◌-◌, ◌≤◌, ◌<◌, zero-le}
use native.Mathlib.Omega.{arith}
use lib.Dec.{leb, eqb}
use lib.ListN.{length, get_or, take, drop, length-take, length-drop, get_or-eq_default, drop_of_length-le}
use lib.Seq.{drop-cons, take_all, take-length}
use borrow.Author.Tests.{eq-eqb, ne_eqb, le-leb, lt-leb}
use Rattle.laws.specs.Choice.{choose}
use Rattle.laws.specs.Lists.{every, roomed, pasted}
use Rattle.laws.proofs.Choices.{choose_yes, choose_no, and_no_left, and_no_right}
use Rattle.laws.proofs.Orders.{told, lt_or_le}
use Rattle.laws.proofs.Pasting.{room_in_two}
use Rattle.unc.specs.names.Names.{good_component}
use Rattle.unc.specs.names.Paths.{pieces, component_count, leads, without_trail, body, good_path, normalised, is_normalised, normalised_count}
use Rattle.std.specs.Prelude.{Ok, Err}
use Rattle.unc.specs.names.Code.{good_count, form_within, room_after, form_of}
use Rattle.unc.specs.declared.names.Form.{Form}
use Rattle.unc.specs.declared.names.PathError.{PathError}
use Rattle.unc.specs.declared.names.PathError.TheVariants.{Bad, Long}
use Rattle.unc.proofs.names.PieceLaws.{length_pieces, count_backslash, parts}

-- leading backslashes
module _ (s : List ℕ) where
  pub leads_none : (get_or s 0 0 ≡ 92 → ⊥) → leads s ≡ 0
  unfolding leads
  leads_none h = choose_no _ 0 (ne_eqb _ _ h)

  pub leads_one : get_or s 0 0 ≡ 92 → (get_or s 1 0 ≡ 92 → ⊥) → leads s ≡ 1
  unfolding leads choose
  leads_one h k = rw (eq-eqb _ _ h, ne_eqb _ _ k)

  pub leads_two : get_or s 0 0 ≡ 92 → get_or s 1 0 ≡ 92 → leads s ≡ 2
  unfolding leads choose
  leads_two h k = rw (eq-eqb _ _ h, eq-eqb _ _ k)

  -- past the end stands no backslash
  pub past_end : (i : ℕ) → length s ≤ i → get_or s i 0 ≡ 92 → ⊥
  past_end i h e = let z : ◌≡◌ {A = ℕ} 0 92 = sym (get_or-eq_default s 0 h) ∙ e in omega arith

  pub leads_within : leads s ≤ length s
  leads_within = go (parts (get_or s 0 0)) (parts (get_or s 1 0)) (lt_or_le 0 (length s)) (lt_or_le 1 (length s))
    where
      go : (get_or s 0 0 ≡ 92) ⊎ (get_or s 0 0 ≡ 92 → ⊥) → (get_or s 1 0 ≡ 92) ⊎ (get_or s 1 0 ≡ 92 → ⊥)
          → (0 < length s) ⊎ (length s ≤ 0) → (1 < length s) ⊎ (length s ≤ 1) → leads s ≤ length s
      go (inr a) b c d = rw (leads_none a) zero-le
      go (inl a) (inr b) (inl c) d = rw (leads_one a b) c
      go (inl a) (inr b) (inr c) d = absurd (past_end 0 c a)
      go (inl a) (inl b) c (inl d) = rw (leads_two a b) d
      go (inl a) (inl b) c (inr d) = absurd (past_end 1 d b)

-- a trailing backslash
module _ (s : List ℕ) (from : ℕ) where
  last_unit : from < length s → get_or (drop from s) (length (drop from s) - 1) 0 ≡ get_or s (length s - 1) 0
  last_unit h =
      let e : from + (length (drop from s) - 1) ≡ length s - 1 = simp length-drop (omega arith) in
      lib.Seq.get_or-drop from s (length (drop from s) - 1) 0 ∙ ap (λ (i : ℕ). get_or s i 0) e

  pub trail_none : length s ≤ from → from + length (without_trail (drop from s)) ≡ from
  unfolding without_trail choose
  trail_none h = rw (drop_of_length-le s h) (omega arith)

  pub trail_dropped : from < length s → get_or s (length s - 1) 0 ≡ 92 → from + length (without_trail (drop from s)) ≡ length s - 1
  unfolding without_trail
  trail_dropped h e =
      ap (λ (x : List ℕ). from + length x) (choose_yes (take (length (drop from s) - 1) (drop from s)) (drop from s) (eq-eqb _ _ (last_unit h ∙ e)))
      ∙ simp (length-take, length-drop) (omega arith)

  pub trail_kept : from < length s → (get_or s (length s - 1) 0 ≡ 92 → ⊥) → from + length (without_trail (drop from s)) ≡ length s
  unfolding without_trail
  trail_kept h e =
      ap (λ (x : List ℕ). from + length x) (choose_no (take (length (drop from s) - 1) (drop from s)) (drop from s) (ne_eqb _ _ (λ z. e (sym (last_unit h) ∙ z))))
      ∙ simp length-drop (omega arith)

-- what is kept is a beginning
trail_begin : (t : List ℕ) → take (length (without_trail t)) t ≡ without_trail t
unfolding without_trail choose
trail_begin t = go (eqb (get_or t (length t - 1) 0) 92)
  where
    go : (b : Bool) → take (length (choose b (take (length t - 1) t) t)) t ≡ choose b (take (length t - 1) t) t
    go true = let e : length (take (length t - 1) t) ≡ length t - 1 = simp length-take (omega arith) in rw e
    go false = take-length t

-- the test of every component, read off the count
pub count_none : (t : List ℕ) → good_count 0 t ≡ 0 → every good_component (pieces t) ≡ false
unfolding good_count
count_none t h = go (told (every good_component (pieces t)))
  where
    go : (every good_component (pieces t) ≡ true) ⊎ (every good_component (pieces t) ≡ false) → every good_component (pieces t) ≡ false
    go (inl e) = absurd (let z : 0 + length (pieces t) ≡ 0 = sym (choose_yes (0 + length (pieces t)) 0 e) ∙ h in omega (arith, length_pieces t))
    go (inr e) = e

pub count_some : (t : List ℕ) → (good_count 0 t ≡ 0 → ⊥) → (every good_component (pieces t) ≡ true) × (good_count 0 t ≡ length (pieces t))
unfolding good_count
count_some t h = go (told (every good_component (pieces t)))
  where
    go : (every good_component (pieces t) ≡ true) ⊎ (every good_component (pieces t) ≡ false)
        → (every good_component (pieces t) ≡ true) × (choose (every good_component (pieces t)) (0 + length (pieces t)) 0 ≡ length (pieces t))
    go (inl e) = (e, choose_yes (0 + length (pieces t)) 0 e ∙ omega arith)
    go (inr e) = absurd (h (choose_no (0 + length (pieces t)) 0 e))

-- the components of a normalised path are the pieces of its body
pub count_normalised : (t : List ℕ) → component_count (92 ∷ t) ≡ length (pieces t)
count_normalised t = count_backslash 92 t refl ∙ sym (length_pieces t)

-- the ways of `good_path`
pub path_good_lem : (s : List ℕ) → (leads s ≡ 0 → ⊥) → every good_component (pieces (body s)) ≡ true → good_path s ≡ true
unfolding good_path
path_good_lem s h k = rw (ne_eqb (leads s) 0 h, k)

pub path_bad : (s : List ℕ) → every good_component (pieces (body s)) ≡ false → good_path s ≡ false
unfolding good_path
path_bad s k = and_no_right (not (eqb (leads s) 0)) k

pub path_unled : (s : List ℕ) → leads s ≡ 0 → good_path s ≡ false
unfolding good_path
path_unled s h = rw (eq-eqb (leads s) 0 h)

-- the ways of `form_within`
form_no : (m : ℕ) (s : List ℕ) → good_path s ≡ false → form_within m s ≡ Err Bad
unfolding form_within choose
form_no m s h = rw h

form_over : (m : ℕ) (s : List ℕ) → good_path s ≡ true → m < length (normalised s) → form_within m s ≡ Err Long
unfolding form_within choose
form_over m s h k = rw (h, lt-leb (length (normalised s)) m k)

form_yes : (m : ℕ) (s : List ℕ) → good_path s ≡ true → length (normalised s) ≤ m → form_within m s ≡ form_of (length (normalised s)) (component_count (normalised s))
unfolding form_within choose
form_yes m s h k = rw (h, le-leb (length (normalised s)) m k)

never_bad : {f : Form} → Err Bad ≡ Ok f → ⊥
never_bad h = let z : ◌≡◌ {A = ℕ} 0 1 = cc in omega arith

never_long : {f : Form} → Err Long ≡ Ok f → ⊥
never_long h = let z : ◌≡◌ {A = ℕ} 0 1 = cc in omega arith

-- The form, as the scan of a text finds it: `from` and `to` are the ends of its body, k is the count of good components there.
module _ (s : List ℕ) (from to k : ℕ) (a : from ≡ leads s) (b : to ≡ from + length (without_trail (drop from s))) where
  pub body_found : take (to - from) (drop from s) ≡ body s
  unfolding body
  body_found =
      let e : to - from ≡ length (without_trail (drop from s)) = omega arith in
      ap (λ (i : ℕ). take i (drop from s)) e ∙ (trail_begin (drop from s) ∙ ap (λ (i : ℕ). without_trail (drop i s)) a)

  pub body_length : to - from + 1 ≡ length (normalised s)
  unfolding normalised body
  body_length =
      let e : length (without_trail (drop from s)) ≡ length (without_trail (drop (leads s) s)) = ap (λ (i : ℕ). length (without_trail (drop i s))) a in
      omega arith

  pub body_within : to ≤ length s
  body_within =
      let e : length (take (length (without_trail (drop from s))) (drop from s)) ≡ length (without_trail (drop from s)) = ap length (trail_begin (drop from s)) in
      let l : from ≤ length s = rw a (leads_within s) in
      omega (arith, length-take (length (without_trail (drop from s))) (drop from s), length-drop from s)

  pub body_fits : (n : ℕ) → length (normalised s) ≤ n → length (take (to - from) (drop from s)) ≤ n - 1
  body_fits n h = simp length-take (omega (arith, body_length))

  pub room_normalised : (room : List ℕ) {m o : List ℕ} → m ≡ pasted room 0 (92 ∷ [])
      → o ≡ pasted m 1 (roomed (length room - 1) (take (to - from) (drop from s))) → length (normalised s) ≤ length room
      → o ≡ roomed (length room) (normalised s)
  unfolding normalised
  room_normalised room f g h = room_in_two room (92 ∷ []) (body s) f (g ∙ rw body_found) (omega arith)

  pub form_lead : (m : ℕ) → from ≡ 0 → form_within m s ≡ Err Bad
  form_lead m h = form_no m s (path_unled s (sym a ∙ h))

  module _ (c : k ≡ good_count 0 (take (to - from) (drop from s))) where
    pub count_found : k ≡ good_count 0 (body s)
    count_found = c ∙ ap (good_count 0) body_found

    pub form_bad : (m : ℕ) → k ≡ 0 → form_within m s ≡ Err Bad
    form_bad m h = form_no m s (path_bad s (count_none (body s) (sym count_found ∙ h)))

    module _ (h : from ≡ 0 → ⊥) (g : k ≡ 0 → ⊥) where
      pub found_good : good_path s ≡ true
      found_good = path_good_lem s (λ e. h (a ∙ e)) (count_some (body s) (λ e. g (count_found ∙ e))).0

      pub form_long : (m : ℕ) → m < to - from + 1 → form_within m s ≡ Err Long
      form_long m l = form_over m s found_good (rw (← body_length) l)

      pub form_good : (m : ℕ) → to - from + 1 ≤ m → form_within m s ≡ form_of (to - from + 1) k
      unfolding normalised
      form_good m l =
          let e : k ≡ component_count (normalised s) =
          count_found ∙ ((count_some (body s) (λ e. g (count_found ∙ e))).1 ∙ sym (count_normalised (body s))) in
          form_yes m s found_good (rw (← body_length) l) ∙ (λ i. form_of (sym body_length i) (sym e i))

-- A form told: what follows for the path and for its room.
module _ (s room : List ℕ) where
  room_after_bad : good_path s ≡ false → room_after s room ≡ room
  unfolding room_after choose
  room_after_bad h = rw h

  room_after_long : good_path s ≡ true → length room < length (normalised s) → room_after s room ≡ room
  unfolding room_after choose
  room_after_long h k = rw (h, lt-leb (length (normalised s)) (length room) k)

  room_after_good : good_path s ≡ true → length (normalised s) ≤ length room → room_after s room ≡ roomed (length room) (normalised s)
  unfolding room_after choose
  room_after_good h k = rw (h, le-leb (length (normalised s)) (length room) k)

  -- of a text without a form the room stays
  pub form_stays : form_within (length room) s ≢ form_of (length (normalised s)) (component_count (normalised s)) → room ≡ room_after s room
  form_stays h = go (told (good_path s)) (lt_or_le (length room) (length (normalised s)))
    where
      go : (good_path s ≡ true) ⊎ (good_path s ≡ false) → (length room < length (normalised s)) ⊎ (length (normalised s) ≤ length room) → room ≡ room_after s room
      go (inr a) b = sym (room_after_bad a)
      go (inl a) (inl b) = sym (room_after_long a b)
      go (inl a) (inr b) = absurd (h (form_yes (length room) s a b))

  -- of a text with a form the path is good and fits
  pub form_fits : {f : Form} → form_within (length room) s ≡ Ok f → (good_path s ≡ true) × (length (normalised s) ≤ length room)
  form_fits h = go (told (good_path s)) (lt_or_le (length room) (length (normalised s)))
    where
      go : (good_path s ≡ true) ⊎ (good_path s ≡ false) → (length room < length (normalised s)) ⊎ (length (normalised s) ≤ length room)
          → (good_path s ≡ true) × (length (normalised s) ≤ length room)
      go (inl a) (inr b) = (a, b)
      go (inl a) (inl b) = absurd (never_long (sym (form_over (length room) s a b) ∙ h))
      go (inr a) b = absurd (never_bad (sym (form_no (length room) s a) ∙ h))

  pub form_room : {f : Form} {o : List ℕ} → form_within (length room) s ≡ Ok f → o ≡ roomed (length room) (normalised s) → o ≡ room_after s room
  form_room h e = e ∙ sym (room_after_good (form_fits h).0 (form_fits h).1)

  pub form_stays_err : {e : PathError} → form_within (length room) s ≡ Err e → room ≡ room_after s room
  form_stays_err {e} h = form_stays (λ k. let z : ◌≡◌ {A = ℕ} 0 1 = cc (sym h ∙ k) in omega arith)

-- What a text's form tells of it as a path.
module _ (m : ℕ) (s : List ℕ) where
  pub told_bad : form_within m s ≡ Err Bad → good_path s ≡ false
  told_bad h = go (told (good_path s)) (lt_or_le m (length (normalised s)))
    where
      go : (good_path s ≡ true) ⊎ (good_path s ≡ false) → (m < length (normalised s)) ⊎ (length (normalised s) ≤ m) → good_path s ≡ false
      go (inr a) b = a
      go (inl a) (inl b) = absurd (let z : ◌≡◌ {A = ℕ} 0 1 = cc (sym (form_over m s a b) ∙ h) in omega arith)
      go (inl a) (inr b) = absurd (let z : ◌≡◌ {A = ℕ} 0 1 = cc (sym (form_yes m s a b) ∙ h) in omega arith)

  pub told_long : form_within m s ≡ Err Long → (good_path s ≡ true) × (leb (length (normalised s)) m ≡ false)
  told_long h = go (told (good_path s)) (lt_or_le m (length (normalised s)))
    where
      go : (good_path s ≡ true) ⊎ (good_path s ≡ false) → (m < length (normalised s)) ⊎ (length (normalised s) ≤ m)
          → (good_path s ≡ true) × (leb (length (normalised s)) m ≡ false)
      go (inl a) (inl b) = (a, lt-leb (length (normalised s)) m b)
      go (inl a) (inr b) = absurd (let z : ◌≡◌ {A = ℕ} 0 1 = cc (sym (form_yes m s a b) ∙ h) in omega arith)
      go (inr a) b = absurd (let z : ◌≡◌ {A = ℕ} 0 1 = cc (sym (form_no m s a) ∙ h) in omega arith)

  module _ {f : Form} (h : form_within m s ≡ Ok f) where
    pub told_good : good_path s ≡ true
    told_good = go (told (good_path s))
      where
        go : (good_path s ≡ true) ⊎ (good_path s ≡ false) → good_path s ≡ true
        go (inl a) = a
        go (inr a) = absurd (never_bad (sym (form_no m s a) ∙ h))

    pub told_fits : length (normalised s) ≤ m
    told_fits = go (lt_or_le m (length (normalised s)))
      where
        go : (m < length (normalised s)) ⊎ (length (normalised s) ≤ m) → length (normalised s) ≤ m
        go (inl b) = absurd (never_long (sym (form_over m s told_good b) ∙ h))
        go (inr b) = b

    told_form : record { units = length (normalised s); components = component_count (normalised s) } ≡ f
    told_form = cc (sym (form_yes m s told_good told_fits) ∙ h)

    pub told_units : f.units ≡ length (normalised s)
    told_units = ap (λ (x : Form). x.units) (sym told_form)

    pub told_components : f.components ≡ component_count (normalised s)
    told_components = ap (λ (x : Form). x.components) (sym told_form)

-- the number of components of a text that is a normalised path
module _ (s : List ℕ) where
  pub normal_unled : (get_or s 0 0 ≡ 92 → ⊥) → 0 ≡ normalised_count s
  unfolding normalised_count is_normalised
  normal_unled h = sym (choose_no (component_count s) 0 (and_no_right (leb (length s) 256) (and_no_left (every good_component (pieces (drop 1 s))) (ne_eqb (get_or s 0 0) 92 h))))

  pub normal_empty : length s ≡ 0 → 0 ≡ normalised_count s
  normal_empty h = normal_unled (past_end s 0 (omega arith))

  pub normal_long : 256 < length s → 0 ≡ normalised_count s
  unfolding normalised_count choose
  normal_long h = rw (lt-leb (length s) 256 h)

  pub normal_count : {k : ℕ} → length s ≤ 256 → 0 < length s → get_or s 0 0 ≡ 92 → k ≡ good_count 0 (take (length s - 1) (drop 1 s)) → k ≡ normalised_count s
  unfolding normalised_count is_normalised good_count
  normal_count h l e f =
      let t : take (length s - 1) (drop 1 s) ≡ drop 1 s = take_all (length s - 1) (drop 1 s) (simp length-drop (omega arith)) in
      let n : component_count s ≡ 0 + length (pieces (drop 1 s)) =
      ap component_count (drop-cons s 0 0 l) ∙ (count_backslash (get_or s 0 0) (drop 1 s) e ∙ (sym (length_pieces (drop 1 s)) ∙ omega arith)) in
      f ∙ rw (t, le-leb (length s) 256 h, eq-eqb (get_or s 0 0) 92 e, n)

-- What the functions of this crate name.
-- a trailing backslash
pub ruleset trail = (trail_none, trail_dropped, trail_kept)

-- the form of a path
pub ruleset form = (body_within, form_lead, form_bad, form_long, form_good)

-- a path put into a room
pub ruleset room = (body_length, body_within, body_fits, room_normalised)

-- a room after a text was normalised into it
pub ruleset put = (form_fits, form_room, form_stays_err)

-- the components of a normalised path
pub ruleset count = (normal_empty, normal_long, normal_unled, normal_count)
