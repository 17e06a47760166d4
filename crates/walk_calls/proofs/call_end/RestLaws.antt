-- Laws of a call's end.
use mathlib.Core.Path.{◌≡◌, refl, sym, ap, ◌∙◌}
use mathlib.Core.Bool.{Bool, true, false}
use mathlib.Core.List.{List, ◌++◌}
use Prim.Native.Nat.{ℕ, ◌+◌, ◌≤◌}
use native.Mathlib.Omega.{arith}
use lib.ListN.{length, take, drop, length-append}
use Rattle.std.specs.Prelude.{Ok, Err}
use Rattle.laws.specs.Choice.{choose}
use Rattle.laws.specs.Lists.{pasted, roomed}
use Rattle.laws.proofs.Choices.{choose_yes, choose_no}
use Rattle.laws.proofs.Pasting.{pasted_join, pasted_whole, length_roomed}
use Rattle.walk_steps.specs.steps.Steps.{Resting}
use Rattle.walk_steps.specs.steps.Code.{rested_of}
use Rattle.walk_steps.specs.declared.steps.Rested.{Rested}
use Rattle.walk_steps.specs.cycle.Code.{rested_with, packed}
use Rattle.walk_steps.specs.question_request.Questions.{name_fits, with_request}
use Rattle.walk_steps.specs.question_request.Code.{next_units, named}
use Rattle.walk_steps.proofs.question_request.NameLaws.{rest_fits_lem, rest_out}
use Rattle.walk_store.proofs.after_reply.RestLaws.{rested_is, rooms_are, path_is}
use Rattle.walk_form.specs.held.Walks.{in_form, boot_in, lent, walk_of, texts_after}
use Rattle.walk_form.specs.declared.held.Walk.{Walk}
use Rattle.walk_form.proofs.held.FormLaws.{form_told, last_room}
use Rattle.walk_calls.specs.call_end.Closing.{refused, closes}
use Rattle.walk_calls.specs.call_end.Code.{walk_with, closed_rest}
use Rattle.walk_calls.specs.declared.call_end.Refusal.TheVariants.{ShortBuffer}

-- the texts of a start
pub texts_put : (texts rooms boot : List ℕ) {m o : List ℕ} → length texts ≡ 768 → length rooms ≡ 512 → length boot ≤ 256 → m ≡ pasted texts 0 rooms
    → o ≡ pasted m 512 (roomed 256 boot) → o ≡ rooms ++ roomed 256 boot
texts_put texts rooms boot {m} {o} l k b e h =
    let z : length (roomed 256 boot) ≡ 256 = length_roomed 256 boot b in
    let y : 512 ≡ 0 + length rooms = omega arith in
    let s : length (rooms ++ roomed 256 boot) ≡ length texts = length-append rooms (roomed 256 boot) ∙ omega arith in
    h
    ∙ ((λ j. pasted (e j) (y j) (roomed 256 boot))
    ∙ (pasted_join texts 0 rooms (roomed 256 boot) (omega arith) ∙ pasted_whole texts (rooms ++ roomed 256 boot) s))

-- the texts of an answer: the bootstrap DC stands in its room
pub texts_kept : (walk : Walk) (texts rooms : List ℕ) {o : List ℕ} → in_form walk texts ≡ true → length rooms ≡ 512 → o ≡ pasted texts 0 rooms
    → o ≡ rooms ++ roomed 256 (boot_in walk texts)
unfolding pasted
texts_kept walk texts rooms f k e =
    let z : 0 + length rooms ≡ 512 = omega arith in
    e ∙ ap (λ (l : List ℕ). rooms ++ l) (ap (λ (n : ℕ). drop n texts) z ∙ last_room (form_told walk texts f))

-- its settings
module _ (walk : Walk) (texts : List ℕ) (f : in_form walk texts ≡ true) where
  pub form_texts : length texts ≡ 768
  form_texts = (form_told walk texts f).long

  pub form_limit : walk.limit ≤ 64
  form_limit = (form_told walk texts f).limit_most

  pub form_boot : walk.boot ≤ 255
  form_boot = (form_told walk texts f).boot_most

  pub walk_kept : (r : Rested) {w : Walk} → w ≡ walk_with walk.limit walk.size walk.boot r → w ≡ walk_with walk.limit walk.size (length (boot_in walk texts)) r
  walk_kept r e = e ∙ ap (λ (n : ℕ). walk_with walk.limit walk.size n r) (sym (form_told walk texts f).boot_length)

module _ (limit size : ℕ) (boot : List ℕ) (r : Rested) (rooms : List ℕ) (walk : Walk) (texts out : List ℕ) {b : Bool}
    (f : b ≡ name_fits (length out) (named (next_units r.next (take r.path rooms)) (take r.path rooms))) where
  pub rest_short : b ≡ false → refused (Err ShortBuffer) walk texts out ≡ closed_rest limit size boot r rooms walk texts out
  unfolding closed_rest
  rest_short h = sym (choose_no _ _ (sym f ∙ h))

  pub rest_closed : b ≡ true → {w : Walk} {t o : List ℕ} → w ≡ walk_with limit size (length boot) r → t ≡ rooms ++ roomed 256 boot
      → o ≡ with_request (named (next_units r.next (take r.path rooms)) (take r.path rooms)) out
      → record { verdict = Ok tt; walk = w; texts = t; out = o } ≡ closed_rest limit size boot r rooms walk texts out
  unfolding closed_rest
  rest_closed h a e g = (λ j. record { verdict = Ok tt; walk = a j; texts = e j; out = g j }) ∙ sym (choose_yes _ _ (sym f ∙ h))

-- a rest that a call closes
module _ (x : Resting) (r : Rested) (rooms : List ℕ) (e : rested_with r rooms ≡ packed x) where
  pub closed_rest_lem : (limit size : ℕ) (boot : List ℕ) (walk : Walk) (texts out : List ℕ) → x.core.size ≡ size
      → closed_rest limit size boot r rooms walk texts out ≡ closes limit boot x walk texts out
  unfolding closed_rest closes walk_with walk_of texts_after lent rested_of
  closed_rest_lem limit size boot walk texts out s =
      λ j.
      choose (((λ k. name_fits (length out) (named (next_units (rested_is x r rooms e k).next (path_is x r rooms e k)) (path_is x r rooms e k))) ∙ rest_fits_lem x (length out) refl) j)
      (record {
        verdict = Ok tt;
        walk = walk_with limit (sym s j) (length boot) (rested_is x r rooms e j);
        texts = rooms_are x r rooms e j ++ roomed 256 boot;
        out = ((λ k. with_request (named (next_units (rested_is x r rooms e k).next (path_is x r rooms e k)) (path_is x r rooms e k)) out) ∙ rest_out x out refl) j;
      })
      (refused (Err ShortBuffer) walk texts out)
