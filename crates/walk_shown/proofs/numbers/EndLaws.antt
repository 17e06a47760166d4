-- Laws of the path that an end shows: of end 20 the path tried, of the seven others the path.
use mathlib.Core.Path.{◌≡◌, refl, sym, ap, ◌∙◌}
use mathlib.Core.List.{List}
use Prim.Native.Nat.{ℕ}
use Rattle.walk_steps.specs.declared.steps.End.{End}
use Rattle.walk_steps.specs.declared.steps.End.TheVariants.{Done, NotDfs, NoDc, Failed, LimitReached, Malformed, TooLong, Gone}
use Rattle.walk_shown.specs.question.Shown.{Given, shows, end_path}

module _ (path tried out : List ℕ) {g : Given} where
  pub done_shows : (e : End) → e ≡ Done → g ≡ shows tried out → g ≡ shows (end_path e path tried) out
  unfolding end_path
  done_shows e h k = k ∙ ap (λ (y : End). shows (end_path y path tried) out) (sym h)

  pub others_show : (e : End) → (e ≡ Done → ⊥) → g ≡ shows path out → g ≡ shows (end_path e path tried) out
  unfolding end_path
  others_show Done h k = absurd (h refl)
  others_show NotDfs h k = k
  others_show NoDc h k = k
  others_show Failed h k = k
  others_show LimitReached h k = k
  others_show Malformed h k = k
  others_show TooLong h k = k
  others_show Gone h k = k
