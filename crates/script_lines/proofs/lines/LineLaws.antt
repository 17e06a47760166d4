-- Laws of the lines of `walk`'s input.
use Rattle.std.specs.Prelude.{Option, None, Some, nat_eq}
use Rattle.std.specs.Cmp.Lexicographic.{pointwise}
use Rattle.laws.specs.Choice.{choose}
use mathlib.Core.Path.{◌≡◌, sym, ap, ◌∙◌}
use mathlib.Core.Bool.{Bool, true, false, ◌&&◌}
use mathlib.Core.List.{List}
use Prim.Native.Nat.{ℕ, ◌≤◌, ◌<◌}
use native.Mathlib.Omega.{arith}
use lib.ListN.{length, take, drop}
use lib.Dec.{eqb}
use borrow.Author.Tests.{le-leb, lt-leb}
use Rattle.laws.specs.Lists.{every, pasted}
use Rattle.laws.proofs.Choices.{choose_yes, choose_no, and_both, and_right, and_no_left, and_no_right, and_yes_left}
use Rattle.listing_spelling.specs.unspell.Reading.{unspelled, is_spelled}
use Rattle.listing_spelling.specs.unspell.Code.{spelled_form}
use Rattle.listing_write.specs.Keys.{status_key}
use Rattle.listing_read.specs.line.Lines.{value_of, line_has_key}
use Rattle.listing_read.proofs.line.LineLaws.{key_stripped, spelled_good, spelled_bad}
use Rattle.script_lines.specs.line_bytes.Hexes.{is_hex, hex_number, hex_bytes}
use Rattle.script_lines.specs.declared.line_bytes.Rest.{Rest}
use Rattle.script_lines.specs.lines.Script.{reply_key, after, is_text, text_said, text_read, text_taken, read_into}
use Rattle.script_lines.specs.lines.Script.{status_said, is_status, is_reply, whole_bytes, takes_reply, with_reply}
use Rattle.script_lines.specs.declared.lines.Last.TheVariants.{Reply, Other}
use Rattle.script_lines.specs.declared.lines.Script.{Script}

-- a spelled text, by what stands after its key
module _ (key line room : List ℕ) where
  not_text : is_text key line (length room) ≡ false → text_read None room ≡ text_taken key line room
  unfolding text_taken
  not_text h = sym (choose_no _ _ h)

  pub text_other : pointwise nat_eq (take (length key) line) key ≡ false → text_read None room ≡ text_taken key line room
  unfolding is_text
  text_other h = not_text (and_no_left _ (sym (key_stripped key line) ∙ h))

  module _ {v : List ℕ} (e : v ≡ drop (length key) line) where
    pub text_bad : {r : Option ℕ} → r ≡ spelled_form v → r ≡ None → text_read None room ≡ text_taken key line room
    unfolding is_text value_of
    text_bad f h = not_text (and_no_right (line_has_key key line) (and_no_left _ (ap is_spelled (sym e) ∙ spelled_bad v f h)))

    pub text_long : {r : Option ℕ} {n : ℕ} → r ≡ spelled_form v → r ≡ Some n → length room < n → text_read None room ≡ text_taken key line room
    unfolding is_text value_of
    text_long {r} {n} f h l =
        let k : n ≡ length (unspelled (value_of key line)) = (spelled_good v f h).1 ∙ ap (λ (x : List ℕ). length (unspelled x)) e in
        not_text (and_no_right (line_has_key key line) (and_no_right (is_spelled (value_of key line)) (lt-leb (length (unspelled (value_of key line))) (length room) (omega arith))))

    pub text_said_lem : {r : Option ℕ} {n : ℕ} {o : List ℕ} → pointwise nat_eq (take (length key) line) key ≡ true → r ≡ spelled_form v → r ≡ Some n → n ≤ length room
        → o ≡ pasted room 0 (unspelled v) → text_read (Some n) o ≡ text_taken key line room
    unfolding is_text text_taken text_said value_of
    text_said_lem {r} {n} {o} p f h l m =
        let w = spelled_good v f h in
        let k : n ≡ length (unspelled (value_of key line)) = w.1 ∙ ap (λ (x : List ℕ). length (unspelled x)) e in
        (λ i. record { said = Some (k i); room = (m ∙ ap (λ (x : List ℕ). pasted room 0 (unspelled x)) e) i })
        ∙ sym (choose_yes _ _ (and_both (sym (key_stripped key line) ∙ p) (and_both (ap is_spelled (sym e) ∙ w.0) (le-leb (length (unspelled (value_of key line))) (length room) (omega arith)))))

-- a status
pub status_other : (line : List ℕ) → pointwise nat_eq (take 7 line) status_key ≡ false → status_said line ≡ None
unfolding status_said
status_other line h = choose_no _ _ (and_no_left _ (sym (key_stripped status_key line) ∙ h))

pub status_read : (line : List ℕ) {d : List ℕ} → pointwise nat_eq (take 7 line) status_key ≡ true → d ≡ drop 7 line
    → status_said line ≡ choose (eqb (length d) 8 && every is_hex d) (Some (hex_number d)) None
unfolding status_said value_of
status_read line h e =
    ap (λ (t : Bool). choose t (Some (hex_number (drop 7 line))) None) (and_yes_left (eqb (length (drop 7 line)) 8 && every is_hex (drop 7 line)) (sym (key_stripped status_key line) ∙ h))
    ∙ ap (λ (x : List ℕ). choose (eqb (length x) 8 && every is_hex x) (Some (hex_number x)) None) (sym e)

-- a reply
module _ (s : Script) (line : List ℕ) (r : Rest) (room : List ℕ) {o : Script} where
  pub reply_odd : {b : Bool} {n : ℕ} → n ≡ length (value_of reply_key line) → b ≡ whole_bytes n r → b ≡ false → o ≡ after Other s → read_into o room ≡ takes_reply s line r room
  unfolding takes_reply
  reply_odd l e h k = ap (λ (x : Script). read_into x room) k ∙ sym (choose_no _ _ (and_no_left _ (ap (λ (m : ℕ). whole_bytes m r) (sym l) ∙ (sym e ∙ h))))

  pub reply_digits : {b : Bool} → b ≡ every is_hex (value_of reply_key line) → b ≡ false → o ≡ after Other s → read_into o room ≡ takes_reply s line r room
  unfolding takes_reply
  reply_digits e h k = ap (λ (x : Script). read_into x room) k ∙ sym (choose_no _ _ (and_no_right (whole_bytes (length (value_of reply_key line)) r) (sym e ∙ h)))

  pub reply_said : {b d : Bool} {n m : ℕ} {q : List ℕ} → n ≡ length (value_of reply_key line) → b ≡ whole_bytes n r → b ≡ true → d ≡ every is_hex (value_of reply_key line) → d ≡ true
      → m ≡ length (take (length room) (hex_bytes (value_of reply_key line))) → q ≡ pasted room 0 (take (length room) (hex_bytes (value_of reply_key line)))
      → o ≡ after Reply (with_reply m s) → read_into o q ≡ takes_reply s line r room
  unfolding takes_reply
  reply_said l e h f k m q w =
      (λ i. record { script = (w ∙ ap (λ (x : ℕ). after Reply (with_reply x s)) m) i; room = q i })
      ∙ sym (choose_yes _ _ (and_both (ap (λ (x : ℕ). whole_bytes x r) (sym l) ∙ (sym e ∙ h)) (sym f ∙ k)))

pub reply_key_lem : (s : Script) (line : List ℕ) {b : Bool} → b ≡ is_reply s line → b ≡ true → line_has_key reply_key line ≡ true
unfolding is_reply
reply_key_lem s line e h = and_right (is_status s.last) (line_has_key reply_key line) (sym e ∙ h)
