-- The bytes are cleared first, so that each refusal is done; then the record is stored from the front.
-- Assumes nothing.
use Rattle.std.specs.Prelude.{Ok, Err}
use Rattle.knots.specs.Refusal.{refuse}
use Rattle.knots.specs.declared.refusal.Reason.TheVariants.{LengthBad}
use Rattle.record.specs.Writing.{Writes, table_from}
use Rattle.record.proofs.RoundTrip.{reads-back}
use mathlib.Core.Path.{◌≡◌, sym, ◌∙◌}
use native.Mathlib.Omega.{arith}
use lib.ListN.{length}
use Rattle.record.proofs.Written.{length-table, size_none, size-some, writes-none, writes_short, writes-all}
use Rattle.record.proofs.write.write_record.Goals as goal

pub returns-in_default : goal.returns-in_default
returns-in_default c = let size-is = rw (c.doubles_in-knots.ensures.count, c.doubles_in-points.ensures.count, c.doubles_in-weights.ensures.count) at c.record_size.ensures in
    let a = c.args in
    let ks = a.curve.knots.now in
    let ps = a.curve.points.now in
    let ws = a.curve.weights.now in
    let out = a.out.now in
    let t = table_from a.curve.degree ks ps a.curve.rational ws in
    let none-held = size_none a.curve.degree ks ps a.curve.rational ws (sym size-is ∙ c.in_default.is) in
    let w : Writes t out c.clear_bytes.new.bytes (Err (refuse LengthBad)) =
    rw c.clear_bytes.ensures (writes-none t out none-held) in
    rw
    c.refuse.ensures (record {
      writes = w;
      reads_back = reads-back
          a.curve.degree ks ps a.curve.rational ws c.doubles_in-knots.ensures.kept
          c.doubles_in-points.ensures.kept
          c.doubles_in-weights.ensures.kept out _ _ w;
    })

pub returns-then-out-n : goal.returns-then-out-n
returns-then-out-n c = let size-is = rw (c.doubles_in-knots.ensures.count, c.doubles_in-points.ensures.count, c.doubles_in-weights.ensures.count) at c.record_size.ensures in
    let b = c.clear_bytes in
    let a = c.args in
    let ks = a.curve.knots.now in
    let ps = a.curve.points.now in
    let ws = a.curve.weights.now in
    let out = a.out.now in
    let t = table_from a.curve.degree ks ps a.curve.rational ws in
    let size =
    size-some
    a.curve.degree ks ps a.curve.rational ws c.in-Some.n
    (sym size-is ∙ c.in-Some.is) in
    let long : length b.new.bytes ≡ length out = b.auto.bytes in
    let w : Writes t out b.new.bytes (Err (refuse LengthBad)) =
    rw b.ensures (writes_short t out size.0 (omega arith)) in
    rw
    c.refuse-then-out-n.ensures (record {
      writes = w;
      reads_back = reads-back
          a.curve.degree ks ps a.curve.rational ws c.doubles_in-knots.ensures.kept
          c.doubles_in-points.ensures.kept
          c.doubles_in-weights.ensures.kept out _ _ w;
    })

pub put_table-requires : goal.put_table-requires
put_table-requires c = let size-is = rw (c.doubles_in-knots.ensures.count, c.doubles_in-points.ensures.count, c.doubles_in-weights.ensures.count) at c.record_size.ensures in
    let a = c.args in
    let ks = a.curve.knots.now in
    let ps = a.curve.points.now in
    let ws = a.curve.weights.now in
    let out = a.out.now in
    let size =
    size-some
    a.curve.degree ks ps a.curve.rational ws c.in-Some.n
    (sym size-is ∙ c.in-Some.is) in
    let long : length c.clear_bytes.new.bytes ≡ length out =
    c.clear_bytes.auto.bytes in
    let table = length-table a.curve.degree ks ps a.curve.rational ws in
    omega arith

pub returns : goal.returns
returns c = let size-is = rw (c.doubles_in-knots.ensures.count, c.doubles_in-points.ensures.count, c.doubles_in-weights.ensures.count) at c.record_size.ensures in
    let b = c.clear_bytes in
    let a = c.args in
    let ks = a.curve.knots.now in
    let ps = a.curve.points.now in
    let ws = a.curve.weights.now in
    let out = a.out.now in
    let t = table_from a.curve.degree ks ps a.curve.rational ws in
    let size =
    size-some
    a.curve.degree ks ps a.curve.rational ws c.in-Some.n
    (sym size-is ∙ c.in-Some.is) in
    let long : length b.new.bytes ≡ length out = b.auto.bytes in
    let w : Writes t out c.put_table.new.out (Ok c.in-Some.n) =
    rw
    (c.put_table.ensures, b.ensures, ← size.1)
    (writes-all t out size.0 (omega arith)) in
    record {
      writes = w;
      reads_back = reads-back
          a.curve.degree ks ps a.curve.rational ws
          c.doubles_in-knots.ensures.kept
          c.doubles_in-points.ensures.kept
          c.doubles_in-weights.ensures.kept out _ _ w;
    }
