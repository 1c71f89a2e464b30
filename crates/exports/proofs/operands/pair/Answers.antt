use Rattle.std.proofs.Common.{sym, ap, ◌∙◌}
use Rattle.exports.proofs.Branches.{both-are, second_none, first-none}
use Rattle.interval.specs.Ops.{new_of}
use Rattle.exports.proofs.operands.pair.Goals as goal

pub returns-in_err-a : goal.returns-in_err-a
returns-in_err-a c = c.from_residual.ensures ∙ first-none (new_of c.args.bl c.args.bh) (sym c.in_err-a.ensures)

pub returns-in_err-b : goal.returns-in_err-b
returns-in_err-b c = c.from_residual-in_err-b.ensures ∙ second_none (sym c.in_ok-a.ensures) (sym c.in_err-b.ensures)

pub returns : goal.returns
returns c = both-are (sym c.in_ok-a.ensures) (sym c.in_ok-b.ensures)
