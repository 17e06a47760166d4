-- Laws of paths and names in texts, as spans.
use Rattle.std.specs.Prelude.{Option, None, Some, Result, Ok, Err}
use Rattle.std.specs.Result.{result_ok}
use mathlib.Core.Path.{◌≡◌, refl, sym, ap, ◌∙◌}
use mathlib.Core.Bool.{true, false, true≢false}
use mathlib.Core.List.{List, ◌∷◌}
use mathlib.Core.Logic.{◌⊎◌, inl, inr}
use Prim.Native.Nat.{ℕ, suc, ◌+◌, ◌-◌, ◌*◌, ◌≤◌, ◌<◌}
use native.Mathlib.Omega.{arith}
use lib.Dec.{leb}
use lib.ListN.{length, get_or, take, drop}
use lib.Seq.{drop-cons}
use borrow.Author.Tests.{le-leb, lt-leb, leb-true}
use Rattle.laws.proofs.Choices.{choose_yes, choose_no, and_both, and_no_left, and_no_right}
use Rattle.laws.proofs.Orders.{lt_or_le}
use Rattle.unc.specs.names.Paths.{leads, without_trail, body, good_path, normalised, component_count}
use Rattle.unc.specs.names.Code.{form_within}
use Rattle.unc.proofs.names.PieceLaws.{parts}
use Rattle.unc.proofs.names.FormLaws.{leads_none, leads_one, leads_two, leads_within, body_found, body_length, body_within, path_unled, told_bad, told_long, told_good, told_fits, told_units, told_components}
use Rattle.unc.specs.declared.names.Form.{Form}
use Rattle.unc.specs.declared.names.PathError.{PathError}
use Rattle.unc.specs.declared.names.PathError.TheVariants.{Bad, Long}
use Rattle.reply_bytes.specs.texts.Code.{spanned, Inside}
use Rattle.reply_bytes.specs.declared.texts.Span.{Span}
use Rattle.reply_bytes.specs.texts.Bytes.{Text, terminated, unterminated}
use Rattle.reply_read.specs.referral.Replies.{path_of}
use Rattle.reply_read.specs.referral.Code.{is_inside, text_shown, text_inside}

-- What reading a path or name answers, and what is known of it where it is taken.
module _ (r : List ℕ) where
  pub bad_text : {v : Option Span} → v ≡ None → {x : Option (List ℕ)} → x ≡ None → (text_shown r v ≡ x) × (text_inside r v ≡ true)
  unfolding text_shown text_inside
  bad_text h e = rw h (sym e, refl)

  module _ {v : Option Span} where
    pub text_bad : v ≡ None → {x : Option (List ℕ)} → text_shown r v ≡ x → x ≡ None
    unfolding text_shown
    text_bad e f = sym f ∙ ap (text_shown r) e

    module _ (s : Span) (e : v ≡ Some s) where
      pub text_good : {x : Option (List ℕ)} → text_shown r v ≡ x → x ≡ Some (spanned r s)
      unfolding text_shown
      text_good f = sym f ∙ ap (text_shown r) e

      pub text_inside_lem : text_inside r v ≡ true → Inside r s
      unfolding text_inside is_inside
      text_inside_lem h = leb-true (s.from + 2 * s.units) (length r) (sym (ap (text_inside r) e) ∙ h)

-- the ways of `path_of`
module _ (u : List ℕ) where
  pub path_none : good_path u ≡ false → path_of (terminated u) ≡ None
  unfolding path_of
  path_none h = choose_no (Some (normalised u)) None (and_no_left _ h)

  path_large : leb (length (normalised u)) 256 ≡ false → path_of (terminated u) ≡ None
  unfolding path_of
  path_large h = choose_no (Some (normalised u)) None (and_no_right (good_path u) (and_no_left _ h))

  path_short : component_count (normalised u) < 2 → path_of (terminated u) ≡ None
  unfolding path_of
  path_short h =
      choose_no (Some (normalised u)) None (and_no_right (good_path u) (and_no_right (leb (length (normalised u)) 256) (lt-leb 2 (component_count (normalised u)) h)))

  path_is : good_path u ≡ true → length (normalised u) ≤ 256 → 2 ≤ component_count (normalised u) → path_of (terminated u) ≡ Some (normalised u)
  unfolding path_of
  path_is h k l =
      choose_yes (Some (normalised u)) None (and_both h (and_both (le-leb (length (normalised u)) 256 k) (le-leb 2 (component_count (normalised u)) l)))

-- the unit before a path's body is a backslash
leads_backslash : (u : List ℕ) → (leads u ≡ 0 → ⊥) → get_or u (leads u - 1) 0 ≡ 92
leads_backslash u h = go (parts (get_or u 0 0)) (parts (get_or u 1 0))
  where
    go : (get_or u 0 0 ≡ 92) ⊎ (get_or u 0 0 ≡ 92 → ⊥) → (get_or u 1 0 ≡ 92) ⊎ (get_or u 1 0 ≡ 92 → ⊥) → get_or u (leads u - 1) 0 ≡ 92
    go (inl a) (inl b) = ap (λ (i : ℕ). get_or u (i - 1) 0) (leads_two u a b) ∙ b
    go (inl a) (inr b) = ap (λ (i : ℕ). get_or u (i - 1) 0) (leads_one u a b) ∙ a
    go (inr a) b = absurd (h (leads_none u a))

-- A path's form tells what is read of it.
module _ (u : List ℕ) where
  -- the normalised path: the body and the backslash before it
  whole_found : (leads u ≡ 0 → ⊥) → take (length (normalised u)) (drop (leads u - 1) u) ≡ normalised u
  unfolding normalised body
  whole_found h =
      let to : ℕ = leads u + length (without_trail (drop (leads u) u)) in
      let e : suc (length (without_trail (drop (leads u) u))) ≡ suc (to - leads u) = omega arith in
      let f : suc (leads u - 1) ≡ leads u = omega arith in
      (λ i. take (e i) (drop-cons u (leads u - 1) 0 (omega (arith, leads_within u)) i))
      ∙ (λ i. leads_backslash u h i ∷ (ap (λ (n : ℕ). take (to - leads u) (drop n u)) f ∙ body_found u (leads u) to 0 refl refl) i)

  module _ {x : Result Form PathError} (g : x ≡ form_within 256 u) where
    pub path_unformed : result_ok x ≡ None → path_of (terminated u) ≡ None
    path_unformed = go x g
      where
        go : (y : Result Form PathError) → y ≡ form_within 256 u → result_ok y ≡ None → path_of (terminated u) ≡ None
        go (Ok f) e h = absurd (let z : ◌≡◌ {A = ℕ} 0 1 = cc h in omega arith)
        go (Err Bad) e h = path_none u (told_bad 256 u (sym e))
        go (Err Long) e h = path_large u (told_long 256 u (sym e)).1

    module _ {f : Form} (h : result_ok x ≡ Some f) where
      formed : form_within 256 u ≡ Ok f
      formed = go x g h
        where
          go : (y : Result Form PathError) → y ≡ form_within 256 u → result_ok y ≡ Some f → form_within 256 u ≡ Ok f
          go (Ok k) e i = let p : k ≡ f = cc i in sym e ∙ ap Ok p
          go (Err k) e i = absurd (let z : ◌≡◌ {A = ℕ} 0 1 = cc i in omega arith)

      pub path_few : f.components < 2 → path_of (terminated u) ≡ None
      path_few k = path_short u (omega (arith, told_components 256 u formed))

      module _ {from : ℕ} (a : from ≡ leads u) where
        pub path_led : 1 ≤ from
        path_led = go (lt_or_le 0 from)
          where
            go : (0 < from) ⊎ (from ≤ 0) → 1 ≤ from
            go (inl k) = k
            go (inr k) = absurd (true≢false (sym (told_good 256 u formed) ∙ path_unled u (omega arith)))

        pub path_within : from - 1 + f.units ≤ length u
        path_within =
            let to : ℕ = leads u + length (without_trail (drop (leads u) u)) in
            omega (arith, path_led, told_units 256 u formed, body_length u (leads u) to 0 refl refl, body_within u (leads u) to 0 refl refl)

        pub path_found : 2 ≤ f.components → Some (take f.units (drop (from - 1) u)) ≡ path_of (terminated u)
        path_found k =
            (λ i. Some (take (told_units 256 u formed i) (drop (a i - 1) u)))
            ∙ ((λ i. Some (whole_found (λ e. let z : 1 ≤ from = path_led in omega arith) i))
            ∙ sym (path_is u (told_good 256 u formed) (told_fits 256 u formed) (omega (arith, told_components 256 u formed))))

-- texts without an end
pub path_unended : {t : Text} → t ≡ unterminated → path_of t ≡ None
unfolding path_of
path_unended e = ap path_of e
