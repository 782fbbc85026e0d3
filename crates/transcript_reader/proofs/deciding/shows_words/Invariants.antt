use Rattle.std.proofs.Common.{◌↔◌, drop}
use Rattle.std.specs.List.{AllByRecursion}
use Rattle.transcript_reader.specs.Results.{ShowsWord}
use Rattle.transcript_reader.proofs.deciding.shows_words.Given as goal

-- all can be shown where those that are left can
abbrev pub invariant-loop-word : goal.invariant-loop-word
invariant-loop-word l =
    AllByRecursion (ShowsWord l.verb l.mask) (drop l.word-index l.words) ↔ AllByRecursion (ShowsWord l.verb l.mask) l.words
