-- `knots::span::span_of` meets its contract: each return is a case of the search's definition.
-- Assumes nothing.
use mathlib.Core.Path.{◌∙◌, ap}
use native.Mathlib.Omega.{arith}
use Rattle.knots.specs.Span.{clamped, searched}
use Rattle.knots.proofs.Answers.{found-meets, searched-none, searched-short, searched-inner, searched-end}
use Rattle.knots.proofs.span.span_of.Goals as goal

pub returns-then-count-degree : goal.returns-then-count-degree
returns-then-count-degree c = let p = c.args.degree in
    let n = c.args.count in
    let ks = c.args.knots.now in
    let u = c.args.u in
    found-meets p n ks u p (searched-none p n ks (clamped p n ks u) c.if-count-degree.true)

pub returns-then-knots-count : goal.returns-then-knots-count
returns-then-knots-count c = let p = c.args.degree in
    let n = c.args.count in
    let ks = c.args.knots.now in
    let u = c.args.u in
    found-meets p n ks u p (searched-short p n ks (clamped p n ks u) c.if-knots-count.true)

pub returns-then-v-knots : goal.returns-then-v-knots
returns-then-v-knots c = let p = c.args.degree in
    let n = c.args.count in
    let ks = c.args.knots.now in
    let u = c.args.u in
    found-meets
    p n ks u _
    (c.inner_span.ensures
    ∙ (searched-inner p n ks c.clamp-v.result (omega arith) c.if-v-knots.true ∙ ap (searched p n ks) c.clamp-v.ensures))

pub returns : goal.returns
returns c = let p = c.args.degree in
    let n = c.args.count in
    let ks = c.args.knots.now in
    let u = c.args.u in
    found-meets
    p n ks u _
    (c.last_span.ensures ∙ (searched-end p n ks c.clamp-v.result (omega arith) c.if-v-knots.false ∙ ap (searched p n ks) c.clamp-v.ensures))
