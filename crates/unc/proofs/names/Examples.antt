-- Document 01, "Examples to hold it to": those marked P that speak of paths, as closed computations on the definitions.
use mathlib.Core.Path.{◌≡◌, refl}
use mathlib.Core.Bool.{true, false}
use mathlib.Core.List.{List, [], ◌∷◌, ◌++◌}
use Prim.Native.Nat.{ℕ}
use lib.ListN.{length, replicate}
use Rattle.laws.specs.Choice.{choose}
use Rattle.laws.specs.Lists.{every}
use Rattle.unc.specs.names.Names.{folded, same_unit, same_name, plain, nothing_or_dots, good_component}
use Rattle.unc.specs.names.Paths.{before, pieces, components, component_count, leads, without_trail, body, good_path, normalised, path_units, begins, matches, replaced}
use Rattle.std.specs.Prelude.{Err}
use Rattle.unc.specs.names.Code.{form_within, form_of}
use Rattle.unc.specs.declared.names.PathError.TheVariants.{Bad, Long}

-- \corp\leak\s1
abbrev prefix : List ℕ
prefix = 92 ∷ 99 ∷ 111 ∷ 114 ∷ 112 ∷ 92 ∷ 108 ∷ 101 ∷ 97 ∷ 107 ∷ 92 ∷ 115 ∷ 49 ∷ []

-- `\corp\leak\s1` does not match `\corp\leak\s10\a`
pub no_match : matches prefix (prefix ++ (48 ∷ 92 ∷ 97 ∷ [])) ≡ false
unfolding matches begins pieces before same_name same_unit folded choose
no_match = refl

-- it matches `\CORP\Leak\S1`
pub match : matches prefix (92 ∷ 67 ∷ 79 ∷ 82 ∷ 80 ∷ 92 ∷ 76 ∷ 101 ∷ 97 ∷ 107 ∷ 92 ∷ 83 ∷ 49 ∷ []) ≡ true
unfolding matches begins pieces before same_name same_unit folded choose
match = refl

-- a path of one component of n units "a"
abbrev long : ℕ → List ℕ
long n = 92 ∷ replicate n 97

-- normalised, 256 units pass, 257 give 2
pub passes : form_within path_units (long 255) ≡ form_of 256 1
unfolding form_within good_path normalised component_count components pieces before leads body without_trail every good_component nothing_or_dots plain choose
passes = refl

pub too_long_lem : form_within path_units (long 256) ≡ Err Long
unfolding form_within good_path normalised component_count components pieces before leads body without_trail every good_component nothing_or_dots plain choose
too_long_lem = refl

-- "\" gives 1
pub alone_bad : form_within path_units (92 ∷ []) ≡ Err Bad
unfolding form_within good_path normalised component_count components pieces before leads body without_trail every good_component nothing_or_dots plain choose
alone_bad = refl

-- `\abc` has one component, so that its walk ends 21
pub one_component : form_within path_units (92 ∷ 97 ∷ 98 ∷ 99 ∷ []) ≡ form_of 4 1
unfolding form_within good_path normalised component_count components pieces before leads body without_trail every good_component nothing_or_dots plain choose
one_component = refl

-- \MyDomain\MyDfs, \someserver\someshare\somepath, \MyDir
abbrev my_dfs : List ℕ
my_dfs = 92 ∷ 77 ∷ 121 ∷ 68 ∷ 111 ∷ 109 ∷ 97 ∷ 105 ∷ 110 ∷ 92 ∷ 77 ∷ 121 ∷ 68 ∷ 102 ∷ 115 ∷ []

abbrev some_target : List ℕ
some_target =
    92 ∷ 115 ∷ 111 ∷ 109 ∷ 101 ∷ 115 ∷ 101 ∷ 114 ∷ 118 ∷ 101 ∷ 114 ∷ 92 ∷ 115 ∷ 111 ∷ 109 ∷ 101 ∷ 115 ∷ 104 ∷ 97 ∷ 114 ∷ 101
    ∷ 92 ∷ 115 ∷ 111 ∷ 109 ∷ 101 ∷ 112 ∷ 97 ∷ 116 ∷ 104 ∷ []

abbrev my_dir : List ℕ
my_dir = 92 ∷ 77 ∷ 121 ∷ 68 ∷ 105 ∷ 114 ∷ []

-- prefix `\MyDomain\MyDfs`, path `\MyDomain\MyDfs\MyDir`: `\someserver\someshare\somepath\MyDir`
pub replaced_example : replaced some_target (length my_dfs) (my_dfs ++ my_dir) ≡ some_target ++ my_dir
unfolding replaced
replaced_example = refl
