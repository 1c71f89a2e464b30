-- `knots::limits::is_product` meets its contract: by the remainder, then by the quotient.
-- Assumes nothing.
use Rattle.knots.proofs.Products.{none-product, not-product, test-product}
use Rattle.knots.proofs.limits.is_product.Goals as goal

pub returns-then-a-eq0 : goal.returns-then-a-eq0
returns-then-a-eq0 c = none-product _ _ _ c.if-a-eq0.true

pub returns-then-n-a-ne0 : goal.returns-then-n-a-ne0
returns-then-n-a-ne0 c = not-product _ _ _ c.if-n-a-ne0.true

pub returns : goal.returns
returns c = test-product _ _ _ c.if-a-eq0.false c.if-n-a-ne0.false
