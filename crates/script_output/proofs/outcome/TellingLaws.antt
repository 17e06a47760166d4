-- What is shown fits the buffer that was lent, and what is printed is what was shown.
use mathlib.Core.Path.{◌≡◌, refl, sym, ap, subst, ◌∙◌}
use mathlib.Core.Bool.{Bool, true, false}
use mathlib.Core.List.{List, [], ◌++◌}
use mathlib.Core.Logic.{◌⊎◌, inl, inr}
use Prim.Native.Nat.{ℕ, ◌+◌, ◌≤◌}
use native.Mathlib.Omega.{arith}
use lib.ListN.{length, take, get_or, replicate, length-take, length-append}
use lib.Seq.{length-take-le}
use lib.Dec.{leb, eqb}
use borrow.Author.Tests.{leb-true, eq-eqb, ne_eqb}
use Rattle.std.specs.Prelude.{Result, Ok, Err, Option, None, Some}
use Rattle.laws.specs.Choice.{choose}
use Rattle.laws.specs.Lists.{pasted}
use Rattle.laws.proofs.Choices.{choose_yes, choose_no}
use Rattle.laws.proofs.Orders.{told}
use Rattle.laws.proofs.Pasting.{length_pasted}
use Rattle.listing_spelling.specs.spell.Spelling.{Put}
use Rattle.walk_steps.specs.steps.Steps.{Caches, Core, Rest, waits, ended}
use Rattle.walk_steps.specs.declared.steps.Kind.{Kind}
use Rattle.walk_form.specs.packed.Packing.{kind_at}
use Rattle.script_output.specs.printed.Printed.{question_lines, end_lines, refused_line}
use Rattle.script_output.proofs.printed.PrintedLaws.{question_bytes, end_bytes, refused_bytes}
use Rattle.script_output.proofs.printed.PieceLaws.{two_put}
use Rattle.walk_form.specs.declared.held.Walk.{Walk}
use Rattle.walk_shown.specs.question.Shown.{Given, given, shows, shows_some, party_at, party_call, name_at, name_call, path_at, path_call, question_call, end_call}
use Rattle.walk_shown.specs.declared.question.ShowError.{ShowError}
use Rattle.walk_shown.specs.declared.question.ShowError.TheVariants.{NotInOrder, OutOfForm, ShortBuffer, NoEntry}
use Rattle.script_output.specs.outcome.Telling.{if_shown, question_told, end_told, room, three, waiting_lines, ended_lines, outcome_lines}

-- where a text is shown, it fits
unfoldable Fits : List ℕ → Given → Type 0
Fits out g = (n : ℕ) → g.answer ≡ Ok n → n ≤ length out

module _ (out : List ℕ) where
  fits_choose : (t : Bool) (a b : Given) → Fits out a → Fits out b → Fits out (choose t a b)
  unfolding choose
  fits_choose true a b f g = f
  fits_choose false a b f g = g

  fits_form : Fits out (given (Err OutOfForm) out)
  unfolding Fits
  fits_form n e = absurd (let z : ◌≡◌ {A = ℕ} 0 1 = cc in omega arith)

  fits_order : Fits out (given (Err NotInOrder) out)
  unfolding Fits
  fits_order n e = absurd (let z : ◌≡◌ {A = ℕ} 0 1 = cc in omega arith)

  fits_entry : Fits out (given (Err NoEntry) out)
  unfolding Fits
  fits_entry n e = absurd (let z : ◌≡◌ {A = ℕ} 0 1 = cc in omega arith)

  fits_text : (text : List ℕ) → length text ≤ length out → Fits out (given (Ok (length text)) (pasted out 0 text))
  unfolding Fits
  fits_text text h n e = let z : length text ≡ n = cc in omega arith

  fits_short : Fits out (given (Err ShortBuffer) out)
  unfolding Fits
  fits_short n e = absurd (let z : ◌≡◌ {A = ℕ} 0 1 = cc in omega arith)

  fits_shows : (text : List ℕ) → Fits out (shows text out)
  unfolding shows
  fits_shows text = go (told (leb (length text) (length out)))
    where
      go : (leb (length text) (length out) ≡ true) ⊎ (leb (length text) (length out) ≡ false) → Fits out (choose (leb (length text) (length out)) (given (Ok (length text)) (pasted out 0 text)) (given (Err ShortBuffer) out))
      go (inl h) = subst (Fits out) (sym (choose_yes _ _ h)) (fits_text text (leb-true _ _ h))
      go (inr h) = subst (Fits out) (sym (choose_no _ _ h)) fits_short

  fits_some : (o : Option (List ℕ)) → Fits out (shows_some o out)
  unfolding shows_some
  fits_some None = fits_entry
  fits_some (Some text) = fits_shows text

  fits_party : (c : Caches) (w : Core) (boot : List ℕ) (r : Rest) → Fits out (party_at c w boot r out)
  unfolding party_at
  fits_party c w boot (waits q) = fits_some _
  fits_party c w boot (ended e s t) = fits_form

  fits_name : (w : Core) (r : Rest) → Fits out (name_at w r out)
  unfolding name_at
  fits_name w (waits q) = fits_shows _
  fits_name w (ended e s t) = fits_form

  fits_path : (w : Core) (m : ℕ) (r : Rest) → Fits out (path_at w m r out)
  unfolding path_at
  fits_path w m (waits q) = fits_form
  fits_path w m (ended e s t) = fits_shows _

  module _ {r : Result ℕ ShowError} {o : List ℕ} {n : ℕ} (h : r ≡ Ok n) where
    pub party_fits : (refs doms : List ℕ) (walk : Walk) (texts : List ℕ) → given r o ≡ party_call refs doms walk texts out → n ≤ length out
    unfolding party_call Fits
    party_fits refs doms walk texts e =
        fits_choose _ _ _ (fits_choose _ _ _ (fits_party _ _ _ _) fits_form) fits_order n (ap (λ (g : Given). g.answer) (sym e) ∙ h)

    pub name_fits_lem : (walk : Walk) (texts : List ℕ) → given r o ≡ name_call walk texts out → n ≤ length out
    unfolding name_call Fits
    name_fits_lem walk texts e = fits_choose _ _ _ (fits_name _ _) fits_form n (ap (λ (g : Given). g.answer) (sym e) ∙ h)

    pub path_fits : (walk : Walk) (texts : List ℕ) → given r o ≡ path_call walk texts out → n ≤ length out
    unfolding path_call Fits
    path_fits walk texts e = fits_choose _ _ _ (fits_path _ _ _) fits_form n (ap (λ (g : Given). g.answer) (sym e) ∙ h)

pub taken_whole : (n : ℕ) (xs : List ℕ) → n ≤ length xs → n ≡ length (take n xs)
taken_whole n xs h = sym (length-take-le n xs h)

pub take_short : (n : ℕ) (xs : List ℕ) (m : ℕ) → n ≤ m → length (take n xs) ≤ m
take_short n xs m h = simp length-take (omega arith)

-- the lines fit
pub question_room : (k : Kind) (party name : List ℕ) (size : ℕ) → length party ≤ 256 → length name ≤ 256 → (at m : ℕ) → at + 2597 ≤ m
    → at + length (question_lines k party name size) ≤ m
question_room k party name size h l at m f = omega (arith, question_bytes k party name size h l)

pub end_room : (number status : ℕ) (path : List ℕ) (moves : ℕ) → length path ≤ 256 → (at m : ℕ) → at + 2334 ≤ m
    → at + length (end_lines number status path moves) ≤ m
end_room number status path moves h at m f = omega (arith, end_bytes number status path moves h)

-- what was not shown: the answers but the first
abbrev pub NotShown : Result ℕ ShowError → Type 0
NotShown s = (n : ℕ) → s ≡ Ok n → ⊥

pub not_shown : {s : Result ℕ ShowError} (e : ShowError) → s ≡ Err e → NotShown s
not_shown e h n k = let z : ◌≡◌ {A = ℕ} 0 1 = cc in omega arith

told_lines : {s : Result ℕ ShowError} {n : ℕ} (f : ℕ → List ℕ) → s ≡ Ok n → if_shown s f ≡ f n
unfolding if_shown
told_lines f h = ap (λ (x : Result ℕ ShowError). if_shown x f) h

untold : (s : Result ℕ ShowError) (f : ℕ → List ℕ) → NotShown s → if_shown s f ≡ []
unfolding if_shown
untold (Ok n) f h = absurd (h n refl)
untold (Err e) f h = refl

shown_few : (s : Result ℕ ShowError) (f : ℕ → List ℕ) (m : ℕ) → ((n : ℕ) → s ≡ Ok n → length (f n) ≤ m) → length (if_shown s f) ≤ m
unfolding if_shown
shown_few (Ok n) f m h = h n refl
shown_few (Err e) f m h = omega arith

-- the question
module _ (party name numbers : Given) where
  no_party_lem : NotShown party.answer → question_told party name numbers ≡ []
  unfolding question_told
  no_party_lem h = untold _ _ h

  module _ {p : ℕ} (hp : party.answer ≡ Ok p) where
    no_name : NotShown name.answer → question_told party name numbers ≡ []
    unfolding question_told
    no_name h = told_lines _ hp ∙ untold _ _ h

    module _ {n : ℕ} (hn : name.answer ≡ Ok n) where
      no_numbers : NotShown numbers.answer → question_told party name numbers ≡ []
      unfolding question_told
      no_numbers h = told_lines _ hp ∙ (told_lines _ hn ∙ untold _ _ h)

      question_told_lem : {k : ℕ} → numbers.answer ≡ Ok k
          → question_told party name numbers ≡ question_lines (kind_at (get_or numbers.out 0 0)) (take p party.out) (take n name.out) (get_or numbers.out 1 0)
      unfolding question_told
      question_told_lem hk = told_lines _ hp ∙ (told_lines _ hn ∙ told_lines _ hk)

module _ (refs doms : List ℕ) (walk : Walk) (texts : List ℕ) {rp : Result ℕ ShowError} {op : List ℕ} (e : given rp op ≡ party_call refs doms walk texts (replicate 256 0)) where
  pub party_hidden : NotShown rp → [] ≡ waiting_lines refs doms walk texts
  unfolding waiting_lines room
  party_hidden h =
      sym (no_party_lem (given rp op) (name_call walk texts room) (question_call walk texts three) h)
      ∙ (λ i. question_told (e i) (name_call walk texts room) (question_call walk texts three))

  module _ {p : ℕ} (hp : rp ≡ Ok p) {rn : Result ℕ ShowError} {on : List ℕ} (f : given rn on ≡ name_call walk texts (replicate 256 0)) where
    pub name_hidden : NotShown rn → [] ≡ waiting_lines refs doms walk texts
    unfolding waiting_lines room
    name_hidden h =
        sym (no_name (given rp op) (given rn on) (question_call walk texts three) hp h) ∙ (λ i. question_told (e i) (f i) (question_call walk texts three))

    module _ {n : ℕ} (hn : rn ≡ Ok n) {rk : Result ℕ ShowError} {ok : List ℕ} (g : given rk ok ≡ question_call walk texts (replicate 3 0)) where
      pub question_hidden : NotShown rk → [] ≡ waiting_lines refs doms walk texts
      unfolding waiting_lines room three
      question_hidden h = sym (no_numbers (given rp op) (given rn on) (given rk ok) hp hn h) ∙ (λ i. question_told (e i) (f i) (g i))

      pub question_printed : {k : ℕ} → rk ≡ Ok k → question_lines (kind_at (get_or ok 0 0)) (take p op) (take n on) (get_or ok 1 0) ≡ waiting_lines refs doms walk texts
      unfolding waiting_lines room three
      question_printed hk = sym (question_told_lem (given rp op) (given rn on) (given rk ok) hp hn hk) ∙ (λ i. question_told (e i) (f i) (g i))

-- the end
module _ (path numbers : Given) where
  no_path : NotShown path.answer → end_told path numbers ≡ []
  unfolding end_told
  no_path h = untold _ _ h

  module _ {p : ℕ} (hp : path.answer ≡ Ok p) where
    no_end : NotShown numbers.answer → end_told path numbers ≡ []
    unfolding end_told
    no_end h = told_lines _ hp ∙ untold _ _ h

    end_told_lem : {k : ℕ} → numbers.answer ≡ Ok k
        → end_told path numbers ≡ end_lines (get_or numbers.out 0 0) (get_or numbers.out 1 0) (take p path.out) (get_or numbers.out 2 0)
    unfolding end_told
    end_told_lem hk = told_lines _ hp ∙ told_lines _ hk

module _ (walk : Walk) (texts : List ℕ) {rp : Result ℕ ShowError} {op : List ℕ} (e : given rp op ≡ path_call walk texts (replicate 256 0)) where
  pub path_hidden : NotShown rp → [] ≡ ended_lines walk texts
  unfolding ended_lines room
  path_hidden h = sym (no_path (given rp op) (end_call walk texts three) h) ∙ (λ i. end_told (e i) (end_call walk texts three))

  module _ {p : ℕ} (hp : rp ≡ Ok p) {rk : Result ℕ ShowError} {ok : List ℕ} (g : given rk ok ≡ end_call walk texts (replicate 3 0)) where
    pub end_hidden : NotShown rk → [] ≡ ended_lines walk texts
    unfolding ended_lines room three
    end_hidden h = sym (no_end (given rp op) (given rk ok) hp h) ∙ (λ i. end_told (e i) (g i))

    pub end_printed : {k : ℕ} → rk ≡ Ok k → end_lines (get_or ok 0 0) (get_or ok 1 0) (take p op) (get_or ok 2 0) ≡ ended_lines walk texts
    unfolding ended_lines room three
    end_printed hk = sym (end_told_lem (given rp op) (given rk ok) hp hk) ∙ (λ i. end_told (e i) (g i))

-- how many bytes there are at most
pub room_units_lem : length room ≡ 256
unfolding room
room_units_lem = refl

pub waiting_bytes : (refs doms : List ℕ) (walk : Walk) (texts : List ℕ) → length (waiting_lines refs doms walk texts) ≤ 2597
unfolding waiting_lines question_told
waiting_bytes refs doms walk texts =
    shown_few _ _ _ (λ p hp. shown_few _ _ _ (λ n hn. shown_few _ _ _ (λ k hk.
    question_bytes _ _ _ _
    (take_short p _ 256 (omega (arith, party_fits room hp refs doms walk texts refl, room_units_lem)))
    (take_short n _ 256 (omega (arith, name_fits_lem room hn walk texts refl, room_units_lem))))))

pub ended_bytes : (walk : Walk) (texts : List ℕ) → length (ended_lines walk texts) ≤ 2334
unfolding ended_lines end_told
ended_bytes walk texts =
    shown_few _ _ _ (λ p hp. shown_few _ _ _ (λ k hk. end_bytes _ _ _ _ (take_short p _ 256 (omega (arith, path_fits room hp walk texts refl, room_units_lem)))))

-- where what was put ends, by another name
pub put_ends : {d v m : List ℕ} {at n k : ℕ} → n ≡ k → Put d at v m k → Put d at v m n
put_ends {d} {v} {m} {at} e w = subst (Put d at v m) (sym e) w

pub refusal_fits : (number : ℕ) {m : ℕ} → 4931 ≤ m → 0 + length (refused_line number) ≤ m
refusal_fits number h = omega (arith, refused_bytes number)

pub end_fits : (refs doms : List ℕ) (walk : Walk) (texts : List ℕ) {d m : List ℕ} {n : ℕ} → 4931 ≤ length d → Put d 0 (waiting_lines refs doms walk texts) m n → n + 2334 ≤ length m
end_fits refs doms walk texts {d} {m} fits w =
    let a = waiting_bytes refs doms walk texts in
    let e = w.end in
    let l : length m ≡ length d = ap length w.memory ∙ length_pasted d 0 (waiting_lines refs doms walk texts) (omega (arith, waiting_bytes refs doms walk texts)) in
    omega arith

-- an outcome
module _ (number : ℕ) (refs doms : List ℕ) (walk : Walk) (texts : List ℕ) where
  pub refusal_printed : (number ≡ 0 → ⊥) → refused_line number ≡ outcome_lines number refs doms walk texts
  unfolding outcome_lines
  refusal_printed h = sym (choose_no _ _ (ne_eqb number 0 h))

  taken_printed : number ≡ 0 → outcome_lines number refs doms walk texts ≡ waiting_lines refs doms walk texts ++ ended_lines walk texts
  unfolding outcome_lines
  taken_printed h = choose_yes _ _ (eq-eqb number 0 h)

  pub outcome_printed : {d m : List ℕ} {n : ℕ} → 4931 ≤ length d → Put d 0 (waiting_lines refs doms walk texts) m n → number ≡ 0
      → {o : List ℕ} {r : ℕ} → Put m n (ended_lines walk texts) o r → Put d 0 (outcome_lines number refs doms walk texts) o r
  outcome_printed {d} fits w h v =
      two_put d 0 _ (waiting_lines refs doms walk texts) (ended_lines walk texts)
      (let l = ap length (taken_printed h) in
      let s = length-append (waiting_lines refs doms walk texts) (ended_lines walk texts) in
      omega (arith, waiting_bytes refs doms walk texts, ended_bytes walk texts))
      (taken_printed h) w v

-- the most bytes that an outcome has
pub outcome_bytes : (number : ℕ) (refs doms : List ℕ) (walk : Walk) (texts : List ℕ) → length (outcome_lines number refs doms walk texts) ≤ 4931
unfolding outcome_lines
outcome_bytes number refs doms walk texts = go (told (eqb number 0))
  where
    go : (eqb number 0 ≡ true) ⊎ (eqb number 0 ≡ false)
        → length (choose (eqb number 0) (waiting_lines refs doms walk texts ++ ended_lines walk texts) (refused_line number)) ≤ 4931
    go (inl h) =
        let e = ap length (choose_yes (waiting_lines refs doms walk texts ++ ended_lines walk texts) (refused_line number) h) in
        let s = length-append (waiting_lines refs doms walk texts) (ended_lines walk texts) in
        omega (arith, waiting_bytes refs doms walk texts, ended_bytes walk texts)
    go (inr h) =
        let e = ap length (choose_no (waiting_lines refs doms walk texts ++ ended_lines walk texts) (refused_line number) h) in
        omega (arith, refused_bytes number)
