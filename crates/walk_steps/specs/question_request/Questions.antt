-- The request of the question that waits, and the buffer for it.
use Rattle.std.specs.Prelude.{ℕ, Bool, true, List, length, leb, Option, None, Some}
use Rattle.reply_read.specs.referral.Request.{request, buffer_with}
use Rattle.walk_steps.specs.steps.Steps.{Core, Rest, waits, ended, Resting, name_asked}
use Rattle.walk_steps.specs.declared.steps.Kind.{Kind}
use Rattle.walk_steps.specs.declared.steps.Kind.TheVariants.{Dc, Root, Link, Sysvol, Io}

-- the name of the request that a walk at rest puts; I/O and ends have none
unfoldable pub request_name : Core → Rest → Option (List ℕ)
request_name w (ended e status tried) = None
request_name w (waits q) = by q.kind
  where
    by : Kind → Option (List ℕ)
    by Dc = Some (name_asked w q)
    by Root = Some (name_asked w q)
    by Link = Some (name_asked w q)
    by Sysvol = Some (name_asked w q)
    by Io = None

-- "output buffer shorter than the text or request"
unfoldable pub name_fits : ℕ → Option (List ℕ) → Bool
name_fits room None = true
name_fits room (Some name) = leb (length (request name)) room

unfoldable pub rest_fits : ℕ → Resting → Bool
rest_fits room x = name_fits room (request_name x.core x.rest)

-- the buffer then: the request, and what stood after it
unfoldable pub with_request : Option (List ℕ) → List ℕ → List ℕ
with_request None out = out
with_request (Some name) out = buffer_with name out

unfoldable pub out_after : Resting → List ℕ → List ℕ
out_after x out = with_request (request_name x.core x.rest) out
