-- The runs are cleared first, so that each refusal is done; then the numbers that the layout names are stored into them.
-- Assumes nothing.
use Rattle.knots.specs.Refusal.{refuse}
use Rattle.knots.specs.declared.refusal.Reason.TheVariants.{LengthBad}
use mathlib.Core.Path.{◌≡◌, sym, ◌∙◌}
use mathlib.Core.Bool.{true}
use Rattle.record.specs.Reading.{room_for}
use native.Mathlib.Omega.{arith}
use lib.ListN.{length}
use Rattle.record.proofs.Numbers.{Room, fits-runs, numbers-room, numbers-read, numbers-refused, no_record, no_room}
use Rattle.std.proofs.lemmas.Result.{err_from_is_err_and}
use Rattle.record.proofs.read.read_numbers.Goals as goal

pub returns-in_err-l : goal.returns-in_err-l
returns-in_err-l c = let a = c.args in
    let s = a.s.now in
    let k = a.knots.now in
    let p = a.points.now in
    let w = a.weights.now in
    let read = c.in_err-l.ensures in
    let q = err_from_is_err_and c.from_residual.result c.from_residual.ensures.1 in
    rw (q.1, q.2, c.clear.ensures, c.clear-2.ensures, c.clear-3.ensures)
    (numbers-refused s k p w c.in_err-l.field-0.0 read.means (no_record s (length k) (length p) (length w) c.in_err-l.field-0.0 read.answer))

pub returns-then-not-has_room : goal.returns-then-not-has_room
returns-then-not-has_room c = let a = c.args in
    let s = a.s.now in
    let k = a.knots.now in
    let p = a.points.now in
    let w = a.weights.now in
    let l = c.in_ok-l.l in
    let read = c.read_record.ensures in
    let e = sym c.in_ok-l.was ∙ read.answer in
    let none-for = sym c.has_room.ensures ∙ c.if-not-has_room.true in
    rw (
      c.refuse.ensures,
      c.clear.ensures,
      c.clear-2.ensures,
      c.clear-3.ensures,
    )
    (numbers-refused
    s k p w (refuse LengthBad) read.means
    (no_room
    s l (length k) (length p) (length w) e
    (rw (
      ← c.clear.auto.xs,
      ← c.clear-2.auto.xs,
      ← c.clear-3.auto.xs,
    )
    none-for)))

pub overflow_mul-at : goal.overflow_mul-at
overflow_mul-at c = let room = (let room_at' : Room c.args.s.now c.in_ok-l.l = let read = c.read_record in
    numbers-room _ _ read.ensures.means (sym c.in_ok-l.was ∙ read.ensures.answer) in room_at') in omega (arith, room.short, room.points)

pub overflow_add-at : goal.overflow_add-at
overflow_add-at c = let room = (let room_at' : Room c.args.s.now c.in_ok-l.l = let read = c.read_record in
    numbers-room _ _ read.ensures.means (sym c.in_ok-l.was ∙ read.ensures.answer) in room_at') in omega (arith, room.short, room.points)

pub overflow_mul-at-2 : goal.overflow_mul-at-2
overflow_mul-at-2 c = let room = (let room_at' : Room c.args.s.now c.in_ok-l.l = let read = c.read_record in
    numbers-room _ _ read.ensures.means (sym c.in_ok-l.was ∙ read.ensures.answer) in room_at') in omega (arith, room.short, room.points)

pub overflow_add-at-2 : goal.overflow_add-at-2
overflow_add-at-2 c = let room = (let room_at' : Room c.args.s.now c.in_ok-l.l = let read = c.read_record in
    numbers-room _ _ read.ensures.means (sym c.in_ok-l.was ∙ read.ensures.answer) in room_at') in omega (arith, room.short, room.points)

pub fill-requires-clause-n_in_bounds : goal.fill-requires-clause-n_in_bounds
fill-requires-clause-n_in_bounds c = λ h. (let room_at' : Room c.args.s.now c.in_ok-l.l = let read = c.read_record in
    numbers-room _ _ read.ensures.means (sym c.in_ok-l.was ∙ read.ensures.answer) in room_at').knots

pub fill-requires-clause-n_in_bounds_2 : goal.fill-requires-clause-n_in_bounds_2
fill-requires-clause-n_in_bounds_2 c = (fits-runs c.in_ok-l.l _ _ _ (let fits-at' : room_for c.in_ok-l.l
    (length c.clear.new.xs)
    (length c.clear-2.new.xs)
    (length c.clear-3.new.xs) ≡ true = sym c.has_room.ensures ∙ c.if-not-has_room.false in fits-at')).0

pub overflow_mul-k : goal.overflow_mul-k
overflow_mul-k c = let room = (let room_at' : Room c.args.s.now c.in_ok-l.l = let read = c.read_record in
    numbers-room _ _ read.ensures.means (sym c.in_ok-l.was ∙ read.ensures.answer) in room_at') in omega (arith, room.short, room.points)

pub overflow_add-k : goal.overflow_add-k
overflow_add-k c = let room = (let room_at' : Room c.args.s.now c.in_ok-l.l = let read = c.read_record in
    numbers-room _ _ read.ensures.means (sym c.in_ok-l.was ∙ read.ensures.answer) in room_at') in omega (arith, room.short, room.points)

pub fill-requires-2-clause-n_in_bounds : goal.fill-requires-2-clause-n_in_bounds
fill-requires-2-clause-n_in_bounds c = λ h. (let room_at' : Room c.args.s.now c.in_ok-l.l = let read = c.read_record in
    numbers-room _ _ read.ensures.means (sym c.in_ok-l.was ∙ read.ensures.answer) in room_at').points

pub fill-requires-2-clause-n_in_bounds_2 : goal.fill-requires-2-clause-n_in_bounds_2
fill-requires-2-clause-n_in_bounds_2 c = (fits-runs c.in_ok-l.l _ _ _ (let fits-at' : room_for c.in_ok-l.l
    (length c.clear.new.xs)
    (length c.clear-2.new.xs)
    (length c.clear-3.new.xs) ≡ true = sym c.has_room.ensures ∙ c.if-not-has_room.false in fits-at')).1

pub overflow_add-at-3 : goal.overflow_add-at-3
overflow_add-at-3 c = let room = (let room_at' : Room c.args.s.now c.in_ok-l.l = let read = c.read_record in
    numbers-room _ _ read.ensures.means (sym c.in_ok-l.was ∙ read.ensures.answer) in room_at') in omega (arith, room.short, room.points)

pub fill-requires-3-clause-n_in_bounds : goal.fill-requires-3-clause-n_in_bounds
fill-requires-3-clause-n_in_bounds c = (let room_at' : Room c.args.s.now c.in_ok-l.l = let read = c.read_record in
    numbers-room _ _ read.ensures.means (sym c.in_ok-l.was ∙ read.ensures.answer) in room_at').weights

pub fill-requires-3-clause-n_in_bounds_2 : goal.fill-requires-3-clause-n_in_bounds_2
fill-requires-3-clause-n_in_bounds_2 c = (fits-runs
    c.in_ok-l.l _ _ _
    (let fits-at' : room_for c.in_ok-l.l
    (length c.clear.new.xs)
    (length c.clear-2.new.xs)
    (length c.clear-3.new.xs) ≡ true = sym c.has_room.ensures ∙ c.if-not-has_room.false in fits-at')).2

pub returns : goal.returns
returns c = let b = c.clear-3 in
    let a = c.args in
    let s = a.s.now in
    let k = a.knots.now in
    let p = a.points.now in
    let w = a.weights.now in
    let l = c.in_ok-l.l in
    let m = c.read_record.ensures.means in
    let e =
    sym c.in_ok-l.was
    ∙ c.read_record.ensures.answer in
    let fits =
    sym c.has_room.ensures
    ∙ c.if-not-has_room.false in
    rw (
      c.fill.ensures,
      c.fill-2.ensures,
      c.fill-3.ensures,
      c.clear.ensures,
      c.clear-2.ensures,
      b.ensures,
    )
    (numbers-read
    s l k p w m e
    (rw (
      ←
          c.clear.auto.xs,
      ←
          c.clear-2.auto.xs,
      ← b.auto.xs,
    )
    fits))
