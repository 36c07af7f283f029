-- `read_lines` compares the header, tells a sheet of the header alone, and reads the lines behind it.
use mathlib.Core.Path.{sym, ◌∙◌}
use native.Mathlib.Omega.{arith}
use Rattle.model.specs.Sheets.{header, text}
use Rattle.reader.proofs.ReadCall.{other_header, no_line, some_line}
use Rattle.reader.proofs.read.read_lines.Goals as goal

pub returns-then-not-begins : goal.returns-then-not-begins
unfolding header text
returns-then-not-begins c = record {
  depths_value = other_header _ (sym c.begins.ensures ∙ c.if-not-begins.true);
  result_bound = (omega arith, c.requires);
}

pub returns-then-sheet-eq-HEADER_BYTES : goal.returns-then-sheet-eq-HEADER_BYTES
unfolding header text
returns-then-sheet-eq-HEADER_BYTES c = record {
  depths_value = no_line _ (sym c.begins.ensures ∙ c.if-not-begins.false) c.if-sheet-eq-HEADER_BYTES.true;
  result_bound = (omega arith, c.requires);
}

pub returns : goal.returns
unfolding header text
returns c =
    let r = c.read_nodes.ensures in record {
      depths_value = r.depths_value ∙ some_line _ (sym c.begins.ensures ∙ c.if-not-begins.false) c.if-sheet-eq-HEADER_BYTES.false;
      result_bound = r.result_bound;
    }
