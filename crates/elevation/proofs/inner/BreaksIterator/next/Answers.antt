-- `elevation::inner::Breaks::next` meets its contract.
-- Assumes nothing.
use native.Mathlib.Omega.{arith}
use mathlib.Core.Path.{◌∙◌, ap}
use mathlib.Core.List.{List}
use lib.ListN.{length}
use lib.Ieee.{Float}
use borrow.Author.Rules.{rules}
use Rattle.elevation.specs.declared.inner.Breaks.{Breaks}
use Rattle.elevation.proofs.BreakWalks.{left-same, left-more, left-none}
use Rattle.elevation.proofs.inner.BreaksIterator.next.Goals as goal

pub bounds-self-k : goal.bounds-self-k
bounds-self-k c = let e = ap (λ (s : Breaks). s.n) c.loop-k.invariant.0 in let q = c.loop-k.self.inner in let t = c.loop-k-test.true in omega arith

pub bounds-self-k-in-loop-k : goal.bounds-self-k-in-loop-k
bounds-self-k-in-loop-k c = let e = ap (λ (s : Breaks). s.n) c.loop-k.invariant.0 in let q = c.loop-k.self.inner in let t = c.loop-k-test.true in omega arith

pub invariant_of-self : goal.invariant_of-self
invariant_of-self c = let e = ap (λ (s : Breaks). s.n) c.loop-k.invariant.0 in let t = c.loop-k-test.true in
    record { inner = (omega arith, omega arith, c.loop-k.self.inner.2) }

pub returns-then-not-self-k : goal.returns-then-not-self-k
returns-then-not-self-k c = let l = c.loop-k in let e = ap (λ (s : Breaks). s.n) l.invariant.0 in let t = c.loop-k-test.true in
    let E = l.invariant.1 ∙ left-more l.self.knots.now l.self.n l.k (omega arith) c.if-not-self-k.true in
    let L = ap (λ (x : List Float). length x) E in
    record { steps = E; goes = search rules }

pub loop-k-preserved : goal.loop-k-preserved
loop-k-preserved c = let l = c.loop-k in let e = ap (λ (s : Breaks). s.n) l.invariant.0 in let t = c.loop-k-test.true in
    (l.invariant.0, l.invariant.1 ∙ left-same l.self.knots.now l.self.n l.k (omega arith) c.if-not-self-k.false)

pub returns-clause-steps : goal.returns-clause-steps
returns-clause-steps c = let l = c.loop-k in let e = ap (λ (s : Breaks). s.n) l.invariant.0 in let t = c.loop-k-test.false in
    (l.invariant.1 ∙ left-none l.self.knots.now l.self.n l.k (omega arith), left-none l.self.knots.now l.self.n l.self.n (omega arith))
