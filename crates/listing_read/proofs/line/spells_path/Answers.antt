use Rattle.listing_read.proofs.line.LineLaws.{spelled_good}
use Rattle.listing_read.proofs.line.spells_path.Goals as goal

pub is_some_and-requires : goal.is_some_and-requires
is_some_and-requires c = λ n e κ l a r u v. spelled_good _ c.spelled_form.ensures e
