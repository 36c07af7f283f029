-- `fmt` of `Entries`: what it has written is the text of the entries so far.
use Rattle.std.proofs.Common.{take, Ok}
use Rattle.std.specs.Fmt.{DisplaysOnOk}
use Rattle.cases.specs.Printing.{entries_text}
use Rattle.cases.proofs.print.EntriesDisplay.fmt.Given as goal

abbrev pub invariant-loop-entry : goal.invariant-loop-entry
invariant-loop-entry g l =
    DisplaysOnOk g.W.Write.write_str_gives l.initial.f (Ok tt) (entries_text g.T.Display.output (take l.entry-index l.entry-items)) l.f
