-- With one job more left the place is one earlier, and its bit half as large.
use Rattle.std.proofs.Common.{◌≡◌, ℕ, suc, ◌-◌, ◌^◌, ap, arith}
use Rattle.std.proofs.Math.Nat.{pow-suc}
use Rattle.filling.proofs.place_after.Goals as goal

pub returns-then-one_more : goal.returns-then-one_more
returns-then-one_more c =
    let a = c.args in
    let (some, is) = c.requires.earlier c.if-one_more.true in
    let e : a.total - (a.jobs - 1) ≡ suc (a.total - a.jobs) = omega arith in
    omega (arith, is, ap (λ (n : ℕ). 2 ^ n) e, pow-suc 2 (a.total - a.jobs))
