-- `fmt` of `Entries`: one more entry is written after the others.
use mathlib.Core.Path.{refl}
use Rattle.std.proofs.Common.{take, Ok}
use Rattle.std.proofs.lemmas.List.{take_more}
use Rattle.cases.proofs.Printing.{entries_more, written_then}
use Rattle.cases.proofs.print.EntriesDisplay.fmt.Goals as goal

pub loop-entry-preserved : goal.loop-entry-preserved
loop-entry-preserved g c =
    let xs = c.args.self.now.0.now in
    let i = c.loop-entry.entry-index in
    let x = c.entry-item.result in
    rw (take_more xs i x c.loop-entry-test.true, ← c.entry-item.is, entries_more g.T.Display.output (take i xs) x)
    (written_then _ c.args.f.now c.loop-entry.f c.write.new.self (Ok tt) (Ok tt) _ _ refl
    c.loop-entry.invariant c.in_ok-write.ensures.writes)
