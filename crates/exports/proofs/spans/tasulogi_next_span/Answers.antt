use Rattle.std.proofs.Common.{◌≡◌, ℕ, refl, ap, ◌∙◌}
use Rattle.std.specs.Prelude.{Option, Some, None}
use Rattle.std.specs.Option.{unwrap_or}
use Rattle.exports.specs.Tables.{next_number}
use Rattle.exports.proofs.spans.tasulogi_next_span.Goals as goal

or_count : (n : Option ℕ) (k : ℕ) → unwrap_or n k ≡ next_number k n
or_count (Some s) k = refl
or_count None k = refl

pub returns : goal.returns
returns c = c.unwrap_or.ensures ∙ (or_count c.next_span.result c.args.count ∙ ap (next_number c.args.count) c.next_span.ensures)
