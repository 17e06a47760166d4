-- What a host is shown of a walk: the question that waits (kind, party, name, size), or the end (number, status, path, moves).
use Rattle.std.specs.Prelude.{ℕ, ◌&&◌, List, [], ◌∷◌, length, get_or, leb, eqb, Result, Ok, Err, Option, None, Some}
use Rattle.laws.specs.Choice.{choose}
use Rattle.laws.specs.Lists.{pasted}
use Rattle.unc.specs.names.Paths.{components}
use Rattle.cache.specs.order.Entries.{Referral, Domain}
use Rattle.cache.specs.order.Memory.{referrals, domains, in_order}
use Rattle.cache_lookup.specs.Lookup.{target_path, dc_name}
use Rattle.walk_steps.specs.steps.Steps.{Caches, Core, Question, Rest, waits, ended, domain_in_use, referral_in_use, is_in_use, name_asked, end_number}
use Rattle.walk_steps.specs.steps.Held.{caches_of}
use Rattle.walk_steps.specs.declared.steps.Kind.{Kind}
use Rattle.walk_steps.specs.declared.steps.Kind.TheVariants.{Dc, Root, Link, Sysvol, Io}
use Rattle.walk_steps.specs.declared.steps.End.{End}
use Rattle.walk_steps.specs.declared.steps.End.TheVariants.{Done, NotDfs, NoDc, Failed, LimitReached, Malformed, TooLong, Gone}
use Rattle.walk_form.specs.held.Walks.{in_form, boot_in, core_in}
use Rattle.walk_form.specs.declared.held.Walk.{Walk}
use Rattle.walk_form.specs.packed.Packing.{kind_number}
use Rattle.walk_calls.specs.calls.Calls.{rest_in}
use Rattle.walk_shown.specs.declared.question.ShowError.{ShowError}
use Rattle.walk_shown.specs.declared.question.ShowError.TheVariants.{NotInOrder, OutOfForm, ShortBuffer, NoEntry}

-- the numbers of what is not shown: 4 either cache not in order, 5 no such question or end, or out of form, 10 buffer shorter than the text,
-- 27 the entry in use is gone or too short; 0 where the text is shown
unfoldable pub shown_number : Result ℕ ShowError → ℕ
shown_number (Ok n) = 0
shown_number (Err NotInOrder) = 4
shown_number (Err OutOfForm) = 5
shown_number (Err ShortBuffer) = 10
shown_number (Err NoEntry) = 27

-- the DC and the target at a place of their entry
unfoldable pub dc_at_place : ℕ → Option Domain → Option (List ℕ)
dc_at_place place None = None
dc_at_place place (Some d) = Some (dc_name place d)

unfoldable pub target_at_place : ℕ → Option Referral → Option (List ℕ)
target_at_place place None = None
target_at_place place (Some e) = Some (target_path place e)

-- The party: of a DC request the bootstrap DC; of a root request to a host the path's first component; of root requests through a domain and of
-- SYSVOL requests the DC's name; of link requests and I/O tries the whole path of the target.
unfoldable pub party_of : Caches → Core → List ℕ → Question → Option (List ℕ)
party_of c w boot q = by q.kind
  where
    by : Kind → Option (List ℕ)
    by Dc = Some boot
    by Root = choose (eqb q.entry 0) (Some (get_or (components w.path) 0 [])) (dc_at_place q.party (domain_in_use c w))
    by Link = target_at_place q.party (referral_in_use c w q)
    by Sysvol = dc_at_place q.party (domain_in_use c w)
    by Io = target_at_place q.party (referral_in_use c w q)

-- and none by the test of end 27: the entry in use is gone, or has not both parties of the round
unfoldable pub party_text : Caches → Core → List ℕ → Question → Option (List ℕ)
party_text c w boot q = choose (is_in_use c w q) (party_of c w boot q) None

-- a question as it is shown
pub record QuestionShown : Type 0 where
  pub kind : ℕ
  pub party : Option (List ℕ)
  pub name : List ℕ
  pub size : ℕ

unfoldable pub question_shown : Caches → Core → List ℕ → Question → QuestionShown
question_shown c w boot q =
    record { kind = kind_number q.kind; party = party_text c w boot q; name = name_asked w q; size = q.size }

-- "path (for 20 the one tried, held in the walk; for others the path before step 3)"
unfoldable pub end_path : End → List ℕ → List ℕ → List ℕ
end_path Done path tried = tried
end_path NotDfs path tried = path
end_path NoDc path tried = path
end_path Failed path tried = path
end_path LimitReached path tried = path
end_path Malformed path tried = path
end_path TooLong path tried = path
end_path Gone path tried = path

-- an end as it is shown
pub record EndShown : Type 0 where
  pub number : ℕ
  pub status : ℕ
  pub path : List ℕ
  pub moves : ℕ

unfoldable pub end_shown : Core → End → ℕ → List ℕ → ℕ → EndShown
end_shown w e status tried moves =
    record { number = end_number e; status = status; path = end_path e w.path tried; moves = moves }

-- what a call gives back, and the buffer that it leaves
pub record Given : Type 0 where
  pub answer : Result ℕ ShowError
  pub out : List ℕ

abbrev pub given : Result ℕ ShowError → List ℕ → Given
given answer out = record { answer = answer; out = out }

-- a text at the start of the buffer, what stood past it stays; 10 where the buffer is shorter
unfoldable pub shows : List ℕ → List ℕ → Given
shows text out = choose (leb (length text) (length out)) (given (Ok (length text)) (pasted out 0 text)) (given (Err ShortBuffer) out)

unfoldable pub shows_some : Option (List ℕ) → List ℕ → Given
shows_some None out = given (Err NoEntry) out
shows_some (Some text) out = shows text out

-- `question_party`: 4, 5, 27 or 10
unfoldable pub party_at : Caches → Core → List ℕ → Rest → List ℕ → Given
party_at c w boot (ended e status tried) out = given (Err OutOfForm) out
party_at c w boot (waits q) out = shows_some (question_shown c w boot q).party out

unfoldable pub party_call : List ℕ → List ℕ → Walk → List ℕ → List ℕ → Given
party_call refs doms walk texts out =
    choose (in_order referrals refs && in_order domains doms)
    (choose (in_form walk texts)
    (party_at (caches_of refs doms) (core_in walk texts) (boot_in walk texts) (rest_in walk texts) out)
    (given (Err OutOfForm) out))
    (given (Err NotInOrder) out)

-- `question_name`: 5 or 10
unfoldable pub name_at : Core → Rest → List ℕ → Given
name_at w (ended e status tried) out = given (Err OutOfForm) out
name_at w (waits q) out = shows (name_asked w q) out

unfoldable pub name_call : Walk → List ℕ → List ℕ → Given
name_call walk texts out = choose (in_form walk texts) (name_at (core_in walk texts) (rest_in walk texts) out) (given (Err OutOfForm) out)

-- `end_path`: 5 or 10
unfoldable pub path_at : Core → ℕ → Rest → List ℕ → Given
path_at w moves (waits q) out = given (Err OutOfForm) out
path_at w moves (ended e status tried) out = shows (end_shown w e status tried moves).path out

unfoldable pub path_call : Walk → List ℕ → List ℕ → Given
path_call walk texts out =
    choose (in_form walk texts) (path_at (core_in walk texts) walk.moves (rest_in walk texts) out) (given (Err OutOfForm) out)

-- `question_numbers`: its kind and size, and the moves; `end_numbers`: its number, status and moves
unfoldable pub question_at : ℕ → Rest → List ℕ → Given
question_at moves (ended e status tried) out = given (Err OutOfForm) out
question_at moves (waits q) out = shows (kind_number q.kind ∷ q.size ∷ moves ∷ []) out

unfoldable pub question_call : Walk → List ℕ → List ℕ → Given
question_call walk texts out = choose (in_form walk texts) (question_at walk.moves (rest_in walk texts) out) (given (Err OutOfForm) out)

unfoldable pub end_at : ℕ → Rest → List ℕ → Given
end_at moves (waits q) out = given (Err OutOfForm) out
end_at moves (ended e status tried) out = shows (end_number e ∷ status ∷ moves ∷ []) out

unfoldable pub end_call : Walk → List ℕ → List ℕ → Given
end_call walk texts out = choose (in_form walk texts) (end_at walk.moves (rest_in walk texts) out) (given (Err OutOfForm) out)
