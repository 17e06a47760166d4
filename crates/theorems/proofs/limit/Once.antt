-- The steps without a limit are determined, and where they come to rest they call for no further move.
use mathlib.Core.Path.{◌≡◌, refl, sym, ap, subst}
use mathlib.Core.List.{List, [], ◌∷◌, ◌++◌}
use Prim.Native.Nat.{ℕ, zero, suc, ◌+◌, ◌≤◌}
use native.Mathlib.Omega.{arith}
use lib.ListN.{length}
use Rattle.unc.specs.names.Paths.{path_units}
use Rattle.walk_steps.specs.steps.Steps.{Caches, Core, Called, replaces, Rest}
use Rattle.theorems.specs.limit.Unlimited.{Move, replacement, Makes, here, goes_on, Halts, at_end, is_put, try_long, path_long, calls_one}

-- a replacement that fits its room does not end
no_halt : {p : List ℕ} {r : Rest} → Halts (replaces p) r → length p ≤ path_units → ⊥
no_halt (path_long h) g = omega arith

-- a move called for on the way lies before the rest
pub behind : {c : Caches} {clock : ℕ} {w v u : Core} {a b d : Called} {rs ms : List Move} {r : Rest} → Makes c clock w a rs v b → Halts b r
    → Makes c clock w a ms u d → calls_one d ≡ 1 → length ms + 1 ≤ length rs + calls_one b
behind here h here k = omega arith
behind here h (goes_on g y) k = absurd (no_halt h g)
behind (goes_on f x) h here k = omega arith
behind (goes_on f x) h (goes_on g y) k =
    let z = behind x h y k in omega arith

halts_once : {a : Called} {r s : Rest} → Halts a r → Halts a s → r ≡ s
halts_once at_end at_end = refl
halts_once (is_put f) (is_put g) = refl
halts_once (is_put f) (try_long g) = absurd (omega arith)
halts_once (try_long f) (is_put g) = absurd (omega arith)
halts_once (try_long f) (try_long g) = refl
halts_once (path_long f) (path_long g) = refl

-- two ways to a rest are one
pub record OneWay (rs ms : List Move) (v u : Core) (b d : Called) : Type 0 where
  pub moves : rs ≡ ms
  pub core : v ≡ u
  pub called : b ≡ d

one_way : {c : Caches} {clock : ℕ} {w v u : Core} {a b d : Called} {rs ms : List Move} {r s : Rest} → Makes c clock w a rs v b → Halts b r
    → Makes c clock w a ms u d → Halts d s → OneWay rs ms v u b d
one_way here h here k = record { moves = refl; core = refl; called = refl }
one_way here h (goes_on g y) k = absurd (no_halt h g)
one_way (goes_on f x) h here k = absurd (no_halt k f)
one_way (goes_on {p = p} f x) h (goes_on g y) k =
    let z = one_way x h y k in
    record { moves = ap (λ (l : List Move). replacement p ∷ l) z.moves; core = z.core; called = z.called }

pub rest_once : {c : Caches} {clock : ℕ} {w v u : Core} {a b d : Called} {rs ms : List Move} {r s : Rest} → Makes c clock w a rs v b → Halts b r
    → Makes c clock w a ms u d → Halts d s → OneWay rs ms v u b d × (r ≡ s)
rest_once {s = s} x h y k =
    let z = one_way x h y k in (z, halts_once h (subst (λ (e : Called). Halts e s) (sym z.called) k))

-- two ways of as many moves are one
pub as_many : {c : Caches} {clock : ℕ} {w v u : Core} {a b d : Called} {rs ms : List Move} → Makes c clock w a rs v b → Makes c clock w a ms u d
    → length rs ≡ length ms → OneWay rs ms v u b d
as_many here here e = record { moves = refl; core = refl; called = refl }
as_many here (goes_on g y) e = absurd (omega arith)
as_many (goes_on f x) here e = absurd (omega arith)
as_many (goes_on {p = p} f x) (goes_on g y) e =
    let z = as_many x y (omega arith) in
    record { moves = ap (λ (l : List Move). replacement p ∷ l) z.moves; core = z.core; called = z.called }

-- the longer way begins with the shorter
pub goes_further : {c : Caches} {clock : ℕ} {w v u : Core} {a b d : Called} {rs ms : List Move} → Makes c clock w a rs v b → Makes c clock w a ms u d
    → length rs ≤ length ms → (more : List Move) × (ms ≡ rs ++ more)
goes_further {ms = ms} here y e = (ms, refl)
goes_further (goes_on f x) here e = absurd (omega arith)
goes_further (goes_on {p = p} f x) (goes_on g y) e =
    let z = goes_further x y (omega arith) in (z.0, ap (λ (l : List Move). replacement p ∷ l) z.1)

-- a way of fewer moves, up to a move that is called for on the way
pub record Shorter (c : Caches) (clock : ℕ) (w : Core) (a : Called) (k : ℕ) : Type 0 where
  pub moves : List Move
  pub core : Core
  pub called : Called
  pub made : Makes c clock w a moves core called
  pub move : calls_one called ≡ 1
  pub size : length moves ≡ k

stop_here : {c : Caches} {clock : ℕ} {w v : Core} {a b : Called} {ms : List Move} → Makes c clock w a ms v b → calls_one b ≡ 1 → calls_one a ≡ 1
unfolding calls_one
stop_here here e = e
stop_here (goes_on f x) e = refl

pub cut_short : (k : ℕ) {c : Caches} {clock : ℕ} {w v : Core} {a b : Called} {ms : List Move} → Makes c clock w a ms v b → calls_one b ≡ 1 → k ≤ length ms
    → Shorter c clock w a k
cut_short zero {w = w} {a = a} m e h = record { moves = []; core = w; called = a; made = here; move = stop_here m e; size = refl }
cut_short (suc k) here e h = absurd (omega arith)
cut_short (suc k) (goes_on {p = p} f x) e h =
    let z = cut_short k x e (omega arith) in
    record { moves = replacement p ∷ z.moves; core = z.core; called = z.called; made = goes_on f z.made; move = z.move; size = ap suc z.size }
