use Rattle.std.proofs.Common.{◌≡◌, sym, ◌+◌, ◌≤◌, arith}
use Rattle.std.proofs.Math.Nat.{add-zero}
use Rattle.paper.specs.Records.{kind_at, shape_of}
use Rattle.book.specs.declared.tests.Next.{Next}
use Rattle.book.proofs.Counts.{shape_next, shape_le}
use Rattle.book.proofs.tests.Next.counted.Goals as goal

-- no more records are counted than stand before this one
few : (n : Next) → n.before ≡ shape_of n.this.book.now n.this.number → n.before.classes + n.before.instruments + n.before.positions ≤ n.this.number
few n h = rw h (shape_le n.this.book.now n.this.number)

pub overflow_add-next : goal.overflow_add-next
overflow_add-next c = omega (arith, few c.args.self.now c.requires.before)

pub overflow_add-next-in-Some-Instrument : goal.overflow_add-next-in-Some-Instrument
overflow_add-next-in-Some-Instrument c = omega (arith, few c.args.self.now c.requires.before)

pub overflow_add-next-in-Some-Position : goal.overflow_add-next-in-Some-Position
overflow_add-next-in-Some-Position c = omega (arith, few c.args.self.now c.requires.before)

pub returns-in-Some-Class : goal.returns-in-Some-Class
returns-in-Some-Class c =
    let n = c.args.self.now in
    let k : kind_at n.this.book.now n.this.number ≡ 1 = sym (rw c.in-Some-Class.field-0-is at c.in-Some-Class.ensures) in
    sym (simp add-zero at (shape_next n.this.book.now n.this.number c.requires.before k))

pub returns-in-Some-Instrument : goal.returns-in-Some-Instrument
returns-in-Some-Instrument c =
    let n = c.args.self.now in
    let k : kind_at n.this.book.now n.this.number ≡ 2 = sym (rw c.in-Some-Instrument.field-0-is at c.in-Some-Instrument.ensures) in
    sym (simp add-zero at (shape_next n.this.book.now n.this.number c.requires.before k))

pub returns-in-Some-Position : goal.returns-in-Some-Position
returns-in-Some-Position c =
    let n = c.args.self.now in
    let k : kind_at n.this.book.now n.this.number ≡ 3 = sym (rw c.in-Some-Position.field-0-is at c.in-Some-Position.ensures) in
    sym (simp add-zero at (shape_next n.this.book.now n.this.number c.requires.before k))

pub returns-in-None : goal.returns-in-None
returns-in-None c =
    let n = c.args.self.now in
    let k : kind_at n.this.book.now n.this.number ≡ 0 = sym c.in-None.ensures in
    sym (simp add-zero at (shape_next n.this.book.now n.this.number c.requires.before k))
