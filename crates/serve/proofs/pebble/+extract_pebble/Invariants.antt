-- The calls of `serve::pebble::extract_pebble` end: there is one place less below each.
use Rattle.serve.proofs.pebble.+extract_pebble.Given as goal

abbrev pub decreases-extract_pebble : goal.decreases-extract_pebble
decreases-extract_pebble l = l.end
