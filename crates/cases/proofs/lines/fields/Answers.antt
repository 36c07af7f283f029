-- `fields` collects what stands between the bars, each field without its spaces.
use Rattle.std.proofs.Common.{rules, lit<}
use Rattle.std.proofs.lemmas.Iterator.{YieldsList-from_map_by}
use Rattle.std.proofs.lemmas.Iterator.Consumers.{YieldsList-at, map_from_collect}
use Rattle.std.proofs.lemmas.Iterator.Splits.{YieldsList-from_str_split}
use Rattle.cases.specs.Reading.{without_first, without_last}
use Rattle.cases.proofs.lines.fields.Goals as goal

pub returns : goal.returns
returns c =
    let s = c.split.ensures in
    map_from_collect _ c.collect.ensures.ran
    (YieldsList-from_map_by _ (λ field. field.now) (λ part. without_last (without_first part))
    (YieldsList-at c.map.ensures.source
    (YieldsList-from_str_split 124 c.args.line.now (lit< tt) s.text s.has_more s.pattern))
    c.map.ensures.closure (λ x r q k. search rules))
