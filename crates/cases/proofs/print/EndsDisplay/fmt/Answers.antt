-- `fmt` of `Ends`: three texts, one after the other.
use mathlib.Core.Path.{◌≡◌, refl, ap, ◌∙◌}
use Rattle.std.proofs.Common.{ℕ, length, take, Ok}
use Rattle.std.proofs.Math.Nat.{min_comm}
use Rattle.std.proofs.lemmas.List.{take_min}
use Rattle.cases.proofs.Printing.{written_then}
use Rattle.cases.proofs.print.EndsDisplay.fmt.Goals as goal

pub returns-clause-writes : goal.returns-clause-writes
returns-clause-writes g c =
    let f = c.args.f.now in
    let xs = c.args.self.now.0.now in
    let four : take c.min.result xs ≡ take 4 xs =
    ap (λ (n : ℕ). take n xs) (c.min.ensures ∙ min_comm (length xs) 4) ∙ take_min 4 xs in
    let last = written_then _ f c.write.new.self c.write_last.new.f (Ok tt) (Ok tt) _ _ refl
    c.in_ok-write.ensures.writes c.in_ok-write_last.ensures in
    rw (← four)
    (written_then _ f c.write_last.new.f c.write-2.new.self (Ok tt) c.write-2.result _ _ refl last c.write-2.ensures.writes)
