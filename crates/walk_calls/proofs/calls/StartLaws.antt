-- Laws of a start, by its tests.
use mathlib.Core.Path.{◌≡◌, sym, ap, ◌∙◌, subst}
use mathlib.Core.Bool.{Bool, true, false, ◌&&◌}
use mathlib.Core.List.{List, [], ◌++◌}
use mathlib.Core.Logic.{◌⊎◌, inl, inr}
use Prim.Native.Nat.{ℕ, ◌-◌, ◌≤◌}
use native.Mathlib.Omega.{arith}
use lib.ListN.{length, take, replicate}
use lib.Seq.{length-take-le}
use lib.Dec.{leb}
use borrow.Author.Tests.{le-leb, leb-true}
use Rattle.std.specs.Prelude.{Result, Ok, Err}
use Rattle.laws.specs.Lists.{roomed}
use Rattle.laws.proofs.Choices.{choose_yes, choose_no}
use Rattle.laws.proofs.Orders.{told}
use Rattle.unc.specs.names.Paths.{good_path, normalised, is_normalised, component_count, path_units, body}
use Rattle.unc.specs.names.Code.{form_within, room_after}
use Rattle.unc.specs.declared.names.Form.{Form}
use Rattle.unc.specs.declared.names.PathError.{PathError}
use Rattle.unc.specs.declared.names.PathError.TheVariants.{Bad, Long}
use Rattle.unc.proofs.names.FormLaws.{count_normalised, told_bad, told_long, told_good, told_fits, told_units, told_components}
use Rattle.unc.proofs.names.PieceLaws.{pieces_some}
use Rattle.unc.proofs.names.WholeLaws.{normalised_is}
use Rattle.walk_steps.specs.walk_texts.Texts.{texts_of}
use Rattle.walk_steps.specs.walk_texts.Code.{Standing}
use Rattle.walk_steps.proofs.walk_texts.TextLaws.{path_in_lem, taken_stands}
use Rattle.cache.specs.order.Memory.{referrals, domains, in_order}
use Rattle.walk_form.specs.declared.held.Walk.{Walk}
use Rattle.walk_calls.specs.call_end.Closing.{Left, refused}
use Rattle.walk_calls.specs.declared.call_end.Refusal.TheVariants.{NotInOrder}
use Rattle.walk_calls.specs.start_steps.Code.{path_rooms, start_at, Begun}
use Rattle.walk_calls.specs.calls.Calls.{start_rest, start_call}
use Rattle.walk_calls.specs.call_end.Code.{path_refusal}

-- a normalised path has a component
normalised_some : (path : List ℕ) → 1 ≤ component_count (normalised path)
unfolding normalised
normalised_some path = omega (arith, count_normalised (body path), ap length (pieces_some (body path)))

blank_room : (n : ℕ) → replicate n 0 ≡ roomed n []
unfolding roomed
blank_room n = let z : n ≡ n - 0 = omega arith in ap (λ (m : ℕ). replicate m 0) z

-- a start, by its tests
module _ (refs doms texts : List ℕ) (walk : Walk) (path boot : List ℕ) (limit size clock : ℕ) (out : List ℕ) where
  pub start_order : {b : Bool} → b ≡ (in_order referrals refs && in_order domains doms) → b ≡ false
      → refused (Err NotInOrder) walk texts out ≡ start_call refs doms texts walk path boot limit size clock out
  unfolding start_call
  start_order e h = sym (choose_no _ _ (sym e ∙ h))

  module _ {b : Bool} (e : b ≡ (in_order referrals refs && in_order domains doms)) (h : b ≡ true) {f : Result Form PathError} (g : f ≡ form_within path_units path) where
    pub start_formless : (x : PathError) → f ≡ Err x → refused (Err (path_refusal x)) walk texts out ≡ start_call refs doms texts walk path boot limit size clock out
    unfolding start_call path_refusal
    start_formless Bad k = sym (choose_yes _ _ (sym e ∙ h) ∙ choose_no _ _ (told_bad path_units path (sym g ∙ k)))
    start_formless Long k =
        let z = told_long path_units path (sym g ∙ k) in
        sym (choose_yes _ _ (sym e ∙ h) ∙ (choose_yes _ _ z.0 ∙ choose_no _ _ z.1))

    pub start_good : {n : Form} → f ≡ Ok n → {p : List ℕ} {x : Left} → p ≡ normalised path → x ≡ start_at refs doms texts walk p boot limit size clock out
        → x ≡ start_call refs doms texts walk path boot limit size clock out
    unfolding start_call start_at start_rest
    start_good q p d =
        d
        ∙ (ap (λ (l : List ℕ). start_at refs doms texts walk l boot limit size clock out) p
        ∙ sym (choose_yes _ _ (sym e ∙ h) ∙ (choose_yes _ _ (told_good path_units path (sym g ∙ q)) ∙ choose_yes _ _ (le-leb _ _ (told_fits path_units path (sym g ∙ q))))))

-- the rooms that the path was put into
module _ (path : List ℕ) {f : Result Form PathError} (g : f ≡ form_within path_units path) {n : Form} (q : f ≡ Ok n) where
  good : good_path path ≡ true
  good = told_good path_units path (sym g ∙ q)

  short : length (normalised path) ≤ 256
  short = told_fits path_units path (sym g ∙ q)

  long : n.units ≡ length (normalised path)
  long = told_units path_units path (sym g ∙ q)

  parts : n.components ≡ component_count (normalised path)
  parts = told_components path_units path (sym g ∙ q)

  module _ (rooms : List ℕ) (l : length rooms ≡ 512) {o : List ℕ} (d : o ≡ path_rooms path rooms) where
    pub put_rooms : o ≡ texts_of (normalised path) []
    unfolding path_rooms room_after texts_of
    put_rooms =
        let z : length (take 256 rooms) ≡ 256 = length-take-le 256 rooms (omega arith) in
        let y : length (normalised path) ≤ length (take 256 rooms) = omega (arith, short) in
        let w : room_after path (take 256 rooms) ≡ roomed 256 (normalised path) =
        choose_yes _ (take 256 rooms) good
        ∙ (choose_yes _ (take 256 rooms) (le-leb _ _ y) ∙ ap (λ (m : ℕ). roomed m (normalised path)) z) in
        d ∙ (λ j. w j ++ blank_room 256 j)

    pub put_taken : take n.units o ≡ normalised path
    put_taken = (λ j. take (long j) (put_rooms j)) ∙ path_in_lem (normalised path) []

    pub put_begun : (refs : List ℕ) → in_order referrals refs ≡ true → Begun refs o n.units n.components
    put_begun refs order = record {
      order = order;
      standing = subst (λ (m : List ℕ). Standing n.units m) (sym put_rooms) (subst (λ (m : ℕ). Standing m (texts_of (normalised path) [])) (sym long) (taken_stands (normalised path) short));
      normal = ap is_normalised put_taken ∙ normalised_is path good;
      count = parts ∙ ap component_count (sym put_taken);
      some = omega (arith, parts, normalised_some path);
    }
