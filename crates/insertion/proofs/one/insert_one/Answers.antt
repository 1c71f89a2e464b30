-- `insertion::one::insert_one` meets its contract.
-- Assumes nothing.
use Rattle.std.proofs.Common.{◌∙◌, ap}
use Rattle.std.proofs.lemmas.Result.{err_from_is_err_and}
use mathlib.Core.List.{List}
use Prim.Native.Nat.{◌+◌}
use lib.Ieee.{Float}
use Rattle.doubles.specs.Run.{at}
use Rattle.knots.specs.Refusal.{checked}
use Rattle.knots.proofs.Refusals.{let_by}
use Rattle.edits.specs.Counts.{multiplicity_of}
use Rattle.insertion.specs.Insert.{spot_refusal}
use Rattle.edits.specs.Work.{knots_from, points_from, weights_from}
use Rattle.edits.proofs.IntoRun.{slice_is}
use Rattle.insertion.proofs.OneInsertion.{insert-early, insert-done}
use Rattle.insertion.proofs.OneInsertion.{spot-open, spot-found, moved-span}
use Rattle.insertion.proofs.one.insert_one.Goals as goal

pub returns-in_err-spot_refusal : goal.returns-in_err-spot_refusal
returns-in_err-spot_refusal c = let p = err_from_is_err_and c.from_residual.result c.from_residual.ensures.1 in
    let a = c.args in
    rw
    (p.1, p.2)
    (insert-early
    a.p a.n (knots_from a.a a.p a.n a.work.now) (points_from a.n a.work.now) a.rational (weights_from a.rational a.n a.work.now) a.t a.a a.work.now _
    _ a.n (c.multiplicity-s.ensures ∙ ap (λ (ks : List Float). multiplicity_of ks a.t) (slice_is a.a (a.n + a.p + 1) a.work.now)) _
    (c.in_err-spot_refusal.ensures
    ∙ ap
    (λ (ks : List Float). checked (spot_refusal (at ks a.p) (at ks a.n) a.t a.p c.multiplicity-s.result))
    (slice_is a.a (a.n + a.p + 1) a.work.now)))

pub insert_at-requires : goal.insert_at-requires
insert_at-requires c = let a = c.args in
    let q = c.requires in
    let o =
    spot-open
    a.p a.n (knots_from a.a a.p a.n a.work.now) (points_from a.n a.work.now) a.rational (weights_from a.rational a.n a.work.now) a.t _ q.valid_knots
    (let_by _ (c.in_ok-spot_refusal.ensures
    ∙ ap
    (λ (ks : List Float). checked (spot_refusal (at ks a.p) (at ks a.n) a.t a.p c.multiplicity-s.result))
    (slice_is a.a (a.n + a.p + 1) a.work.now))) in
    let s =
    spot-found
    a.p a.n (knots_from a.a a.p a.n a.work.now) (points_from a.n a.work.now) a.rational (weights_from a.rational a.n a.work.now) a.t _ _
    (c.multiplicity-s.ensures ∙ ap (λ (ks : List Float). multiplicity_of ks a.t) (slice_is a.a (a.n + a.p + 1) a.work.now))
    q.valid_knots o (moved-span (slice_is a.a (a.n + a.p + 1) a.work.now) c.span_of-k.ensures) in
    record {
      s_le_p = (o.room, s.0.from, s.0.below);
      n_bound = q.n_bound;
      valid_knots = s.2;
      scale_value = q.scale_value;
    }

pub returns : goal.returns
returns c = let a = c.args in
    let q = c.requires in
    let o =
    spot-open
    a.p a.n (knots_from a.a a.p a.n a.work.now) (points_from a.n a.work.now) a.rational (weights_from a.rational a.n a.work.now) a.t _ q.valid_knots
    (let_by _ (c.in_ok-spot_refusal.ensures
    ∙ ap
    (λ (ks : List Float). checked (spot_refusal (at ks a.p) (at ks a.n) a.t a.p c.multiplicity-s.result))
    (slice_is a.a (a.n + a.p + 1) a.work.now))) in
    let s =
    spot-found
    a.p a.n (knots_from a.a a.p a.n a.work.now) (points_from a.n a.work.now) a.rational (weights_from a.rational a.n a.work.now) a.t _ _
    (c.multiplicity-s.ensures
    ∙ ap (λ (ks : List Float). multiplicity_of ks a.t) (slice_is a.a (a.n + a.p + 1) a.work.now))
    q.valid_knots o (moved-span (slice_is a.a (a.n + a.p + 1) a.work.now) c.span_of-k.ensures) in
    insert-done
    a.p a.n (knots_from a.a a.p a.n a.work.now) (points_from a.n a.work.now) a.rational (weights_from a.rational a.n a.work.now) a.t a.a a.work.now _
    _ _
    (c.multiplicity-s.ensures
    ∙ ap (λ (ks : List Float). multiplicity_of ks a.t) (slice_is a.a (a.n + a.p + 1) a.work.now))
    _ (let_by _ (c.in_ok-spot_refusal.ensures
    ∙ ap
    (λ (ks : List Float). checked (spot_refusal (at ks a.p) (at ks a.n) a.t a.p c.multiplicity-s.result))
    (slice_is a.a (a.n + a.p + 1) a.work.now))) s.1 c.insert_at.ensures
