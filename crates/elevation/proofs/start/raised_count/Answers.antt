-- `elevation::start::raised_count` meets its contract.
-- Assumes nothing.
use Rattle.elevation.proofs.Limits.{product_small}
use borrow.Author.Rules.{rules}
use Rattle.elevation.proofs.start.raised_count.Goals as goal

pub overflow_mul-result : goal.overflow_mul-result
overflow_mul-result c = let m = product_small c.args.e c.args.breaks c.requires.0 in let b = c.requires.1 in let f = c.requires.2 in search rules

pub overflow_sub-result : goal.overflow_sub-result
overflow_sub-result c = let m = product_small c.args.e c.args.breaks c.requires.0 in let b = c.requires.1 in let f = c.requires.2 in search rules

pub overflow_add-result-3 : goal.overflow_add-result-3
overflow_add-result-3 c = let m = product_small c.args.e c.args.breaks c.requires.0 in let b = c.requires.1 in let f = c.requires.2 in search rules
