use Rattle.std.proofs.Common.{◌≡◌, ◌++◌, map}
use Rattle.form_urlencoded.specs.Parse.{raw_pairs_left}
use Rattle.xapi_parameters.specs.Pairs.{AreTexts, pair_of, pairs_of}
use Rattle.xapi_parameters.proofs.pair.pairs.Given as goal

-- what is read and what is left are the query's pairs, and what is read is UTF-8
abbrev pub invariant-loop-name : goal.invariant-loop-name
invariant-loop-name l = (l.pairs.items ++ map pair_of (raw_pairs_left l.name-iterator) ≡ pairs_of l.query) × AreTexts l.pairs.items
